-- How an audit goes on: one event more is decided, and one row more is taken.
use Rattle.std.proofs.Common.{◌≡◌, ◌∙◌, ◌⊎◌, inl, inr, ℕ, suc, ◌+◌, ◌<◌, ◌≤◌, List, [], ◌∷◌, ◌++◌, map, take, drop, get_or, length, refl, sym, ap, subst, arith}
use Rattle.std.proofs.Math.Seq.{drop-cons}
use Rattle.std.proofs.lemmas.Int.{ints}
use Rattle.std.proofs.lemmas.List.{map-append, take-append-drop, take-append-le, length-append}
use Rattle.std.proofs.lemmas.List.Elements.{All-contains}
use Rattle.std.specs.Prelude.{ℤ, ◌≤ℤ◌, ◌<ℤ◌, Option, Some, None, IsSome}
use Rattle.std.specs.List.{All}
use Rattle.tmm_model.specs.Beliefs.{roots, rules_at}
use Rattle.tmm_model.specs.Maps.{built, order}
use Rattle.tmm_model.specs.Moments.{Moment, After}
use Rattle.list_theory.specs.WellNamed.{IsSound}
use Rattle.tmm_model.specs.Standing.{Standing, far_in}
use Rattle.belief_theory.specs.Right.{Belongs}
use Rattle.list_theory.proofs.Distinct.{Rising}
use Rattle.list_theory.proofs.Elements.{In, In-cases, In-right, In-from_Contains, Contains-from_In, map-In}
use Rattle.dist_net.specs.Net.{Net}
use Rattle.spots.specs.Forest.{Forest, IsLive, moment_at}
use Rattle.occ_tree.specs.Dated.{IsDatedBy}
use Rattle.occ_tree.specs.OfLists.{IsTreeIn, IsTreeOf}
use Rattle.occ_tree.specs.Places.{forest}
use Rattle.occ_tree.specs.Standing.{present}
use Rattle.supports.proofs.Taken.{next_taken}
use Rattle.spots.specs.Growing.{Adds}
use Rattle.just_check.specs.declared.auditing.Checked.{Checked}
use Rattle.just_check.specs.declared.expected.Origin.{Origin}
use Rattle.just_check.specs.Audited.{date_of, rows_of, decided_in, IsTaken, IsPast, IsChecked, IsReady, DecidesThrough, IsBehind}
use Rattle.just_check.specs.Checking.{Joins, AreSoFar, is_due, Expects, AwaitsMore}
use Rattle.just_check.specs.Origins.{comes_of, comes_from, has_event, entry_at, SetsNode}
use Rattle.just_check.proofs.Entering.{In-take, more_so_far, nodes_live, more_rows, expects_entered, new_live, kept_moment}
use Rattle.just_check.proofs.Expecting.{expects_more}
use Rattle.just_check.proofs.Joining.{one_of}
use Rattle.just_check.proofs.Origins.{node_for, one_node}
use Rattle.just_check.proofs.Places.{element_in}
use Rattle.just_check.proofs.Prefixes.{no_later, after_event, rising_back}

-- ---- nodes and their rows

-- the same nodes of the same tree are the same rows
pub same_rows : (new old : Checked) → forest new.tree ≡ forest old.tree → new.nodes ≡ old.nodes → rows_of new ≡ rows_of old
same_rows new old tree nodes = λ i. map (moment_at (tree i)) (nodes i).items

-- each node of the tree is that of a row
pub node_in : (s : Standing) (net : Net) (c : Checked) → AreSoFar s net (forest c.tree) (rows_of c) → All (IsLive (forest c.tree)) c.nodes.items → (x : ℕ) → IsLive (forest c.tree) x → In x c.nodes.items
node_in s net c so_far lives x live =
    by c.nodes.items (λ y at. All-contains (IsLive (forest c.tree)) c.nodes.items y lives (Contains-from_In c.nodes.items y at)) (one_of (forest c.tree) (rows_of c) x so_far.holds live)
  where
    by : (ys : List ℕ) → ((y : ℕ) → In y ys → IsLive (forest c.tree) y) → In (moment_at (forest c.tree) x) (map (moment_at (forest c.tree)) ys) → In x ys
    by [] all at = absurd at
    by (y ∷ ys) all (inl same) = inl (one_node (forest c.tree) so_far.seen.once y x (all y (inl refl)) live same)
    by (y ∷ ys) all (inr at) = inr (by ys (λ z there. all z (inr there)) at)

module _ (s : Standing) (net : Net) (c : Checked) (taken : IsTaken s net c) where
  pub live_in : (x : ℕ) → In x c.nodes.items → IsLive (forest c.tree) x
  live_in x at = All-contains (IsLive (forest c.tree)) c.nodes.items x taken.live (Contains-from_In c.nodes.items x at)

  pub decided_live : (x : ℕ) → In x (decided_in c) → IsLive (forest c.tree) x
  decided_live x at = live_in x (In-take c.decided c.nodes.items x at)

  pub row_in : (x : ℕ) → In x c.nodes.items → In (moment_at (forest c.tree) x) (rows_of c)
  row_in x at = map-In (moment_at (forest c.tree)) c.nodes.items x at

-- ---- one event more is decided

module _ (s : Standing) (net : Net) (old : Checked) (x : ℕ) (below : old.decided < length old.nodes.items) (is : x ≡ get_or old.nodes.items old.decided x) where
  pub decided_node : IsTaken s net old → IsLive (forest old.tree) x
  decided_node taken = live_in s net old taken x (element_in (moment_at (forest old.tree)) old.nodes.items old.decided x below is)

  module _ (new : Checked) (tree : new.tree ≡ old.tree) (nodes : new.nodes ≡ old.nodes) (next : new.decided ≡ old.decided + 1) where
    pub decided_more : decided_in new ≡ decided_in old ++ x ∷ []
    decided_more = (λ i. take (next i) (nodes i).items) ∙ next_taken old.nodes.items old.decided x below is

    pub decides_next : AwaitsMore s (forest old.tree) (rows_of old) x (rules_at s (moment_at (forest old.tree) x)) old.expected new.expected → IsTaken s net old → IsTaken s net new
    decides_next more taken = record {
      so_far = subst (λ f. AreSoFar s net f (rows_of new)) (sym same_forest) (subst (AreSoFar s net (forest old.tree)) (sym rows) taken.so_far);
      dated = subst (λ k. IsDatedBy net (present k)) (sym tree) taken.dated;
      live = subst (λ f. All (IsLive f) new.nodes.items) (sym same_forest) (subst (λ ns. All (IsLive (forest old.tree)) ns.items) (sym nodes) taken.live);
      within = let same : length new.nodes.items ≡ length old.nodes.items = ap (λ ns. length ns.items) nodes in omega (arith, next, same, below);
      expects =
          subst (λ f. Expects s f (rows_of new) (decided_in new) new.expected) (sym same_forest)
          (subst (λ b. Expects s (forest old.tree) b (decided_in new) new.expected) (sym rows)
          (subst (λ events. Expects s (forest old.tree) (rows_of old) events new.expected) (sym decided_more)
          (expects_more s (forest old.tree) (rows_of old) x (decided_in old) old.expected new.expected taken.expects more)));
    }
      where
        same_forest : forest new.tree ≡ forest old.tree
        same_forest = ap forest tree

        rows : rows_of new ≡ rows_of old
        rows = same_rows new old same_forest nodes

-- the rows are a tree of the list, in its network
pub rows_tree : {s : Standing} {net : Net} {c : Checked} → IsTaken s net c → IsTreeOf s net c.tree
rows_tree taken = record { seen = taken.so_far.seen; dated = taken.dated }

pub rows_in : {s : Standing} {net : Net} {c : Checked} → IsTaken s net c → IsTreeIn net c.tree
rows_in {s} taken = record { list = (s, taken.so_far.seen); dated = taken.dated }

-- ---- the events that begin by a date

-- all that is not decided begins no earlier than the first of it
later_nodes : (s : Standing) → IsSound s → (f : Forest) (nodes : List ℕ) (i x : ℕ) → i < length nodes → x ≡ get_or nodes i x → Rising (order (built s)) (map (moment_at f) nodes)
    → (y : ℕ) → In y nodes → In y (take i nodes) ⊎ (date_of s (moment_at f x) ≤ℤ date_of s (moment_at f y))
later_nodes s sound f nodes i x below is rising y at =
    elim (In-cases (take i nodes) (x ∷ drop (suc i) nodes) y (subst (In y) (sym parts) at)) [
      | inl before ↦ inl before
      | inr (inl same) ↦ inr (same_date (date_of s (moment_at f x)) (date_of s (moment_at f y)) (ap (λ z. date_of s (moment_at f z)) same))
      | inr (inr behind) ↦
          inr (no_later s sound (moment_at f x) (moment_at f y)
          ((rising_back (order (built s)) (map (moment_at f) (take i nodes)) (moment_at f x ∷ map (moment_at f) (drop (suc i) nodes))
          (subst (Rising (order (built s))) (sym (ap (map (moment_at f)) parts) ∙ map-append (moment_at f) (take i nodes) (x ∷ drop (suc i) nodes)) rising)).0
          (moment_at f y) (map-In (moment_at f) (drop (suc i) nodes) y behind)))
    ]
  where
    parts : take i nodes ++ x ∷ drop (suc i) nodes ≡ nodes
    parts = ap (λ l. take i nodes ++ l) ((λ j. is j ∷ drop (suc i) nodes) ∙ sym (drop-cons nodes i x below)) ∙ take-append-drop i nodes

    same_date : (a c : ℤ) → a ≡ c → a ≤ℤ c
    same_date a c e = omega (arith, ints)

module _ (s : Standing) (net : Net) (old c : Checked) (date : ℤ) (taken : IsTaken s net c) (tree : c.tree ≡ old.tree) (nodes : c.nodes ≡ old.nodes)
    (own : (x : ℕ) → In x (decided_in c) → In x (decided_in old) ⊎ (date_of s (moment_at (forest old.tree) x) ≤ℤ date)) where
  -- where the next begins later
  pub through_next : (x : ℕ) → c.decided < length c.nodes.items → x ≡ get_or c.nodes.items c.decided x → date <ℤ date_of s (moment_at (forest c.tree) x) → DecidesThrough s net old c date
  through_next x below is later = record {
    taken = taken;
    tree = tree;
    nodes = nodes;
    own = own;
    all = λ y at by. elim (later_nodes s taken.so_far.seen.network.sound (forest c.tree) c.nodes.items c.decided x below is taken.so_far.first.rising y (subst (λ ns. In y ns.items) (sym nodes) at)) [
      | inl there ↦ there
      | inr no_earlier ↦
          absurd (apart date (date_of s (moment_at (forest c.tree) x)) (date_of s (moment_at (forest c.tree) y)) later no_earlier (subst (λ f. date_of s (moment_at f y) ≤ℤ date) (sym (ap forest tree)) by))
    ];
  }
    where
      apart : (a p q : ℤ) → a <ℤ p → p ≤ℤ q → q ≤ℤ a → ⊥
      apart a p q h g e = omega (arith, ints)

-- ---- the event of an origin is decided

module _ (s : Standing) (net : Net) (old c : Checked) (checked : IsChecked s net old) (o : Origin) where
  still_past : forest c.tree ≡ forest old.tree → c.nodes ≡ old.nodes → (x : ℕ) → In x (decided_in old) → IsPast s (rows_of c) (moment_at (forest c.tree) x)
  still_past tree nodes x at =
      subst (λ f. IsPast s (rows_of c) (moment_at f x)) (sym tree) (subst (λ b. IsPast s b (moment_at (forest old.tree) x)) (sym (same_rows c old tree nodes)) (checked.past x at))

  pub ready_event : (x : ℕ) → o.event ≡ Some x → IsLive (forest old.tree) x → (date : ℤ) → date ≡ date_of s (moment_at (forest old.tree) x) → DecidesThrough s net old c date → IsReady s net c o
  ready_event x is live date date_is through = record {
    taken = through.taken;
    event = subst (has_event (forest c.tree)) (sym is) live_c;
    decided = λ y also. let same : x ≡ y = (let g : Some x ≡ Some y = sym is ∙ also in cc) in subst (λ z. In z (decided_in c)) same at;
    past = λ t there. elim (through.own t there) [
      | inl before ↦ inl (still_past (ap forest through.tree) through.nodes t before)
      | inr by ↦ inr (x, is, subst (λ f. date_of s (moment_at f t) ≤ℤ date_of s (moment_at f x)) (sym (ap forest through.tree)) (subst (λ z. date_of s (moment_at (forest old.tree) t) ≤ℤ z) date_is by))
    ];
  }
    where
      live_c : IsLive (forest c.tree) x
      live_c = subst (λ f. IsLive f x) (sym (ap forest through.tree)) live

      at : In x (decided_in c)
      at = through.all x (node_in s net old checked.taken.so_far checked.taken.live x live) (no_later_self (date_of s (moment_at (forest old.tree) x)) date date_is)
        where
          no_later_self : (a d : ℤ) → d ≡ a → a ≤ℤ d
          no_later_self a d e = omega (arith, ints)

  pub ready_root : o.event ≡ None → IsReady s net old o
  ready_root is = record {
    taken = checked.taken;
    event = subst (has_event (forest old.tree)) (sym is) tt;
    decided = λ y also. absurd (let g : None ≡ Some y = sym is ∙ also in cc);
    past = λ t there. inl (checked.past t there);
  }

-- ---- the events that begin before the last row

module _ (s : Standing) (net : Net) (old c : Checked) (checked : IsChecked s net old) (x : ℕ) (live : IsLive (forest old.tree) x) where
  pub checked_through : (date : ℤ) → date <ℤ date_of s (moment_at (forest old.tree) x) → DecidesThrough s net old c date → IsChecked s net c
  checked_through date less through = record {
    taken = through.taken;
    past = λ t there. elim (through.own t there) [
      | inl before ↦ still t (checked.past t before)
      | inr by ↦ still t (moment_at (forest old.tree) x, row_in s net old checked.taken x (node_in s net old checked.taken.so_far checked.taken.live x live), chain (date_of s (moment_at (forest old.tree) t)) date (date_of s (moment_at (forest old.tree) x)) by less)
    ];
  }
    where
      still : (t : ℕ) → IsPast s (rows_of old) (moment_at (forest old.tree) t) → IsPast s (rows_of c) (moment_at (forest c.tree) t)
      still t past =
          subst (λ f. IsPast s (rows_of c) (moment_at f t)) (sym (ap forest through.tree))
          (subst (λ b. IsPast s b (moment_at (forest old.tree) t)) (sym (same_rows c old (ap forest through.tree) through.nodes)) past)

      chain : (p q r : ℤ) → p ≤ℤ q → q <ℤ r → p <ℤ r
      chain p q r h g = omega (arith, ints)

-- ---- one row more

module _ (s : Standing) (net : Net) (old : Checked) (o : Origin) (ready : IsReady s net old o) where
  abbrev k : Moment
  k = comes_from (forest old.tree) o

  sound : IsSound s
  sound = ready.taken.so_far.seen.network.sound

  -- what is awaited joins the rows
  module _ (awaited : entry_at old.expected o ≡ Some None) where
    due : is_due s (forest old.tree) (rows_of old) (decided_in old) o.event o.name
    due = (ready.taken.expects.due o).0 (subst IsSome (sym awaited) refl)

    pub awaited_joins : Joins s (rows_of old) k
    awaited_joins = record { belongs = by o.event o.name due; new = is_new }
      where
        by : (event : Option ℕ) (name : List ℕ) → is_due s (forest old.tree) (rows_of old) (decided_in old) event name → Belongs s (far_in s.premises) s.horizon (rows_of old) (comes_of (forest old.tree) event name)
        by None name h = Contains-from_In (roots s) (comes_of (forest old.tree) None name) h
        by (Some t) name h = h.1

        is_new : In k (rows_of old) → ⊥
        is_new at =
            let (x, live, is) = node_for (forest old.tree) (rows_of old) old.expected ready.taken.expects.knows k at in
            let never : Some None ≡ Some (Some x) = sym awaited ∙ ready.taken.expects.knows.all o x ready.event live is in
            cc

    -- all that is decided begins before it
    before_row : IsBehind s (rows_of old) k → (t : ℕ) → In t (decided_in old) → date_of s (moment_at (forest old.tree) t) <ℤ date_of s k
    before_row behind t at = elim (ready.past t at) [
      | inl past ↦ let (y, there, less) = past in chain (date_of s (moment_at (forest old.tree) t)) (date_of s y) (date_of s k) less (no_later s sound y k (behind y there))
      | inr by ↦ let (x, is, no_more) = by in at_event o.event o.name x is due no_more
    ]
      where
        chain : (p q r : ℤ) → p <ℤ q → q ≤ℤ r → p <ℤ r
        chain p q r h g = omega (arith, ints)

        chain_up : (p q r : ℤ) → p ≤ℤ q → q <ℤ r → p <ℤ r
        chain_up p q r h g = omega (arith, ints)

        at_event : (event : Option ℕ) (name : List ℕ) (x : ℕ) → event ≡ Some x → is_due s (forest old.tree) (rows_of old) (decided_in old) event name
            → date_of s (moment_at (forest old.tree) t) ≤ℤ date_of s (moment_at (forest old.tree) x) → date_of s (moment_at (forest old.tree) t) <ℤ date_of s (comes_of (forest old.tree) event name)
        at_event None name x same h no_more = absurd (let g : None ≡ Some x = same in cc)
        at_event (Some y) name x same h no_more =
            let is : x ≡ y = (let g : Some y ≡ Some x = same in cc) in
            let u = moment_at (forest old.tree) y in
            let occurs = ready.taken.so_far.first.occurs u (In-from_Contains (rows_of old) u h.1.believed) in
            chain_up (date_of s (moment_at (forest old.tree) t)) (date_of s u) (date_of s (After u name))
            (subst (λ z. date_of s (moment_at (forest old.tree) t) ≤ℤ date_of s (moment_at (forest old.tree) z)) is no_more)
            (after_event s sound u name occurs h.1.stands)

    -- **The row is taken behind the others.**
    pub enters_behind : (new : Forest) (x : ℕ) → Adds s net.names (forest old.tree) new x k → IsBehind s (rows_of old) k → (c : Checked) → forest c.tree ≡ new → IsDatedBy net (present c.tree) → c.nodes.items ≡ old.nodes.items ++ x ∷ [] → c.decided ≡ old.decided
        → SetsNode old.expected c.expected o x → IsChecked s net c × (rows_of c ≡ rows_of old ++ k ∷ []) × IsLive (forest c.tree) x
    enters_behind new x adds behind c tree dated nodes decided sets = (
      record { taken = record { so_far = so_far; dated = dated; live = live; within = within; expects = expects }; past = past },
      rows,
      subst (λ f. IsLive f x) (sym tree) (new_live s net (forest old.tree) (rows_of old) ready.taken.so_far k new x adds awaited_joins),
    )
      where
        b : List Moment
        b = rows_of old

        all_live : (y : ℕ) → In y old.nodes.items → IsLive (forest old.tree) y
        all_live = live_in s net old ready.taken

        rows : rows_of c ≡ b ++ k ∷ []
        rows = (λ i. map (moment_at (tree i)) (nodes i)) ∙ more_rows s net (forest old.tree) b ready.taken.so_far k new x adds awaited_joins old.nodes.items all_live refl

        so_far : AreSoFar s net (forest c.tree) (rows_of c)
        so_far = subst (λ f. AreSoFar s net f (rows_of c)) (sym tree) (subst (AreSoFar s net new) (sym rows) (more_so_far s net (forest old.tree) b ready.taken.so_far k new x adds awaited_joins behind))

        live : All (IsLive (forest c.tree)) c.nodes.items
        live = subst (λ f. All (IsLive f) c.nodes.items) (sym tree) (subst (All (IsLive new)) (sym nodes) (nodes_live s net (forest old.tree) b ready.taken.so_far k new x adds awaited_joins old.nodes.items all_live refl))

        within : c.decided ≤ length c.nodes.items
        within =
            let long : length c.nodes.items ≡ length old.nodes.items + 1 = ap length nodes ∙ length-append old.nodes.items (x ∷ []) in
            let few = ready.taken.within in
            omega (arith, long, few, decided)

        same_events : decided_in c ≡ decided_in old
        same_events = (λ i. take (decided i) (nodes i)) ∙ take-append-le old.decided old.nodes.items (x ∷ []) ready.taken.within

        expects : Expects s (forest c.tree) (rows_of c) (decided_in c) c.expected
        expects =
            subst (λ f. Expects s f (rows_of c) (decided_in c) c.expected) (sym tree)
            (subst (λ l. Expects s new l (decided_in c) c.expected) (sym rows)
            (subst (λ events. Expects s new (b ++ k ∷ []) events c.expected) (sym same_events)
            (expects_entered s net (forest old.tree) b ready.taken.so_far k new x adds awaited_joins behind (decided_in old) (decided_live s net old ready.taken) (before_row behind) old.expected c.expected ready.taken.expects o ready.event refl awaited sets)))

        past : (t : ℕ) → In t (decided_in c) → IsPast s (rows_of c) (moment_at (forest c.tree) t)
        past t at =
            let was : In t (decided_in old) = subst (In t) same_events at in
            let same : moment_at (forest c.tree) t ≡ moment_at (forest old.tree) t = ap (λ f. moment_at f t) tree ∙ kept_moment s net (forest old.tree) b ready.taken.so_far k new x adds awaited_joins t (decided_live s net old ready.taken t was) in
            let less = subst (λ m. date_of s m <ℤ date_of s k) (sym same) (before_row behind t was) in
            (k, subst (In k) (sym rows) (In-right b (k ∷ []) k (inl refl)), less)

  -- what joins the rows is awaited
  pub joins_awaited : Joins s (rows_of old) k → entry_at old.expected o ≡ Some None
  joins_awaited joins = by (entry_at old.expected o) refl ((ready.taken.expects.due o).1 (is_due_now o.event o.name (λ x is. ready.decided x is) joins.belongs))
    where
      is_due_now : (event : Option ℕ) (name : List ℕ) → ((x : ℕ) → event ≡ Some x → In x (decided_in old)) → Belongs s (far_in s.premises) s.horizon (rows_of old) (comes_of (forest old.tree) event name) → is_due s (forest old.tree) (rows_of old) (decided_in old) event name
      is_due_now None name decided h = In-from_Contains (roots s) (comes_of (forest old.tree) None name) h
      is_due_now (Some t) name decided h = (decided t refl, h)

      by : (v : Option (Option ℕ)) → entry_at old.expected o ≡ v → IsSome v → v ≡ Some None
      by None e some = absurd (cc)
      by (Some None) e some = refl
      by (Some (Some x)) e some =
          let (live, is) = ready.taken.expects.knows.nodes o x e in
          absurd (joins.new (subst (λ m. In m (rows_of old)) is (one_of (forest old.tree) (rows_of old) x ready.taken.so_far.holds live)))
