-- Nodes that are withdrawn, told and noted, with the rows at their events.
use Rattle.std.proofs.Common.{◌≡◌, ◌≢◌, ◌∙◌, ℕ, zero, suc, ◌<◌, true, false, cond, eqb, eqb-true, List, [], ◌∷◌, ◌++◌, map, filter, length, Some, None, refl, sym, ap, subst, inl, inr, ◌⊎◌, arith, Option}
use Rattle.std.specs.Option.{option_map_or}
use Rattle.std.proofs.lemmas.Bool.{cases_Bool, both_ways}
use Rattle.std.proofs.lemmas.List.{append_assoc, append-nil, map-append}
use Rattle.std.proofs.lemmas.List.Elements.{filter-append}
use Rattle.std.specs.Prelude.{◌↔◌, ◌||◌, slice_index_or}
use Rattle.std.specs.List.{list_any}
use Rattle.tmm_model.specs.declared.point.PointName.TheVariants.{Begin}
use Rattle.tmm_model.specs.Moments.{Moment, At, After, along, moment_of, is_derived}
use Rattle.tmm_model.specs.Standing.{Standing}
use Rattle.list_theory.proofs.Distinct.{Distinct, Distinct-filter}
use Rattle.list_theory.proofs.Elements.{In, In-left, In-right, In-cases, In-map, map-In, In-filter, filter-In, list_any-In}
use Rattle.row_links.specs.Lists.{IsOn, AreOnce}
use Rattle.row_links.proofs.Lists.{IsOn-first, IsOn-append_left, IsOn-append_right, IsOn-append_cases}
use Rattle.spots.specs.declared.link.Link.{Link}
use Rattle.spots.specs.Forest.{Forest, Member, member, IsLive, moment, moment_at, IsOnce, IsBelow as IsMemberBelow}
use Rattle.spots.proofs.Nodes.{node_at, live_at, moment_at-is}
use Rattle.undo_rows.specs.declared.row.Row.{Row as TableRow}
use Rattle.decision_rows.specs.declared.row.Pair.{Pair}
use Rattle.occ_tree.specs.Below.{IsBelow}
use Rattle.occ_tree.specs.Classes.{place_in, HaveMore}
use Rattle.occ_tree.specs.Edits.{Withdraws}
use Rattle.occ_tree.specs.Places.{forest}
use Rattle.occ_tree.specs.Standing.{Kept, present, early}
use Rattle.occ_tree.proofs.Numbered.{place_within, placed_name}
use Rattle.revisions.specs.Standing.{Stands}
use Rattle.revisions.specs.Steps.{IsUnder}
use Rattle.joined.specs.Listed.{IsUnderClasses}
use Rattle.joined.proofs.Leaving.{below_under, under_below}
use Rattle.belief_table.specs.declared.erasing.Departed.{Departed}
use Rattle.belief_table.specs.declared.state.Beliefs.{Beliefs}
use Rattle.belief_table.specs.declared.state.Decisions.{Decisions}
use Rattle.belief_table.specs.declared.dated.DatedOcc.{DatedOcc}
use Rattle.belief_table.specs.Decided.{table_of, AreUnder, DropsRows}
use Rattle.belief_table.specs.Erasing.{class_at}
use Rattle.belief_table.specs.Erasing.{DropsRowsAt, TellsOf, fact_of, fact_at, NotesOf, HasLeft, Tells, Notes, Thins, Sheds, Spares, KeepRows}
use Rattle.bearing.specs.Gone.{gone_of, gone_at}
use Rattle.belief_table.specs.Marks.{HaveEvents}
use Rattle.belief_table.specs.Numbers.{name_in}
use Rattle.belief_table.proofs.Classes.{class_is_at}
use Rattle.belief_table.proofs.Marked.{one_row}
use Rattle.belief_table.proofs.Named.{in_at}
use Rattle.belief_table.proofs.Thinned.{one_node}

none_some : {X : Type 0} (x : X) → None ≡ Some x → ⊥
none_some x e = cc

-- ---- lists of numbers

alone : (y t : ℕ) → IsOn (y ∷ []) t → t ≡ y
alone y t on = elim (cases_Bool (eqb t y)) [ inl same ↦ eqb-true t y same | inr other ↦ (let never : false ≡ true = sym (ap (λ b. b || false) other) ∙ on in cc) ]

pub in_on : (xs : List ℕ) (x : ℕ) → IsOn xs x → In x xs
in_on xs x on = let (y, at, same) = list_any-In (eqb x) xs on in subst (λ z. In z xs) (sym (eqb-true x y same)) at

pub on_in : (xs : List ℕ) (x : ℕ) → In x xs → IsOn xs x
on_in [] x at = absurd at
on_in (y ∷ xs) x (inl is) = subst (IsOn (y ∷ xs)) is (IsOn-first y xs)
on_in (y ∷ xs) x (inr at) = IsOn-append_right (y ∷ []) xs x (on_in xs x at)

-- what stands at a place of a list is on it
pub on_at : (xs : List ℕ) (i : ℕ) → i < length xs → IsOn xs (slice_index_or xs i 0)
on_at [] i within = absurd (omega (arith, within))
on_at (x ∷ xs) zero within = IsOn-first x xs
on_at (x ∷ xs) (suc i) within = IsOn-append_right (x ∷ []) xs (slice_index_or xs i 0) (on_at xs i (omega (arith, within)))

-- ---- nodes told and noted, one after the other

module _ (tree : Kept) where
  pub tells_start : (l : List DatedOcc) → TellsOf tree [] l l
  tells_start l = record { more = []; is = sym (append-nil l); moments = refl; own = λ o at. absurd at }

  pub tells_next : (xs ys : List ℕ) (a b c : List DatedOcc) → TellsOf tree xs a b → TellsOf tree ys b c → TellsOf tree (xs ++ ys) a c
  tells_next xs ys a b c p q = record {
    more = p.more ++ q.more;
    is = q.is ∙ ap (λ l. l ++ q.more) p.is ∙ append_assoc a p.more q.more;
    moments =
        map-append (λ (o : DatedOcc). moment_of o.occ) p.more q.more
        ∙ (λ i. p.moments i ++ q.moments i)
        ∙ sym (filter-append is_derived (map (moment_at (forest tree)) xs) (map (moment_at (forest tree)) ys))
        ∙ ap (filter is_derived) (sym (map-append (moment_at (forest tree)) xs ys));
    own = λ o at. elim (In-cases p.more q.more o at) [
      | inl there ↦ (let (y, on, is, date, number) = p.own o there in (y, IsOn-append_left xs ys y on, is, date, number))
      | inr there ↦ (let (y, on, is, date, number) = q.own o there in (y, IsOn-append_right xs ys y on, is, date, number))
    ];
  }

  pub notes_start : {X : Type 0} (of : ℕ → Option X) (l : List X) → NotesOf of [] l l
  notes_start of l = record { stay = λ c at. at; own = λ c at. inl at; all = λ y c on has. (let never : false ≡ true = on in cc) }

  pub notes_next : {X : Type 0} (of : ℕ → Option X) (xs ys : List ℕ) (a b c : List X) → NotesOf of xs a b → NotesOf of ys b c → NotesOf of (xs ++ ys) a c
  notes_next of xs ys a b c p q = record {
    stay = λ k at. q.stay k (p.stay k at);
    own = λ k at. elim (q.own k at) [
      | inl there ↦ elim (p.own k there) [
        | inl was ↦ inl was
        | inr h ↦ inr (h.0, IsOn-append_left xs ys h.0 h.1, h.2)
      ]
      | inr h ↦ inr (h.0, IsOn-append_right xs ys h.0 h.1, h.2)
    ];
    all = λ y k on has. elim (IsOn-append_cases xs ys y on) [
      | inl there ↦ q.stay k (p.all y k there has)
      | inr there ↦ q.all y k there has
    ];
  }

  -- ---- one node

  derived_along : (x : Moment) (rs : List (List ℕ)) → is_derived x ≡ true → is_derived (along x rs) ≡ true
  derived_along x [] h = h
  derived_along x (r ∷ rs) h = derived_along (After x r) rs refl

  pub root_not_derived : (y : ℕ) (m : Member) → member (forest tree) y ≡ Some m → length m.links ≡ 0 → is_derived (moment_at (forest tree) y) ≡ false
  root_not_derived y m at none = ap is_derived (moment_at-is (forest tree) y m at) ∙ by m.links none
    where
      by : (ls : List Link) → length ls ≡ 0 → is_derived (along (At (Begin m.root)) (map (λ (l : Link). l.rule) ls)) ≡ false
      by [] e = refl
      by (l ∷ ls) e = absurd (omega (arith, e))

  pub effect_derived : (y : ℕ) (m : Member) → member (forest tree) y ≡ Some m → length m.links ≢ 0 → is_derived (moment_at (forest tree) y) ≡ true
  effect_derived y m at some = ap is_derived (moment_at-is (forest tree) y m at) ∙ by m.links some
    where
      by : (ls : List Link) → length ls ≢ 0 → is_derived (along (At (Begin m.root)) (map (λ (l : Link). l.rule) ls)) ≡ true
      by [] e = absurd (e refl)
      by (l ∷ ls) e = derived_along (After (At (Begin m.root)) l.rule) (map (λ (k : Link). k.rule) ls) refl

  pub tells_no_root : (y : ℕ) (l : List DatedOcc) → is_derived (moment_at (forest tree) y) ≡ false → TellsOf tree (y ∷ []) l l
  tells_no_root y l root = record {
    more = [];
    is = sym (append-nil l);
    moments = sym (ap (λ b. cond b (moment_at (forest tree) y ∷ []) []) root);
    own = λ o at. absurd at;
  }

  pub tells_one : (y : ℕ) (a b : List DatedOcc) (o : DatedOcc) → is_derived (moment_at (forest tree) y) ≡ true → moment_of o.occ ≡ moment_at (forest tree) y
      → o.early ≡ early (present tree) y → o.node ≡ y → b ≡ a ++ o ∷ [] → TellsOf tree (y ∷ []) a b
  tells_one y a b o derived is date number push = record {
    more = o ∷ [];
    is = push;
    moments = ap (λ k. k ∷ []) is ∙ sym (ap (λ v. cond v (moment_at (forest tree) y ∷ []) []) derived);
    own = λ u at. elim at [
      | inl same ↦ (y, IsOn-first y [], ap (λ (z : DatedOcc). moment_of z.occ) (sym same) ∙ is, ap (λ (z : DatedOcc). z.early) (sym same) ∙ date, ap (λ (z : DatedOcc). z.node) (sym same) ∙ number)
      | inr none ↦ absurd none
    ];
  }

  pub notes_no_token : {X : Type 0} (at_node : ℕ → Option X) (y : ℕ) (l : List X) → at_node y ≡ None → NotesOf at_node (y ∷ []) l l
  notes_no_token at_node y l none = record {
    stay = λ c at. at;
    own = λ c at. inl at;
    all = λ x c on of. absurd (none_some c (sym none ∙ ap at_node (sym (alone y x on)) ∙ of));
  }

  pub notes_one : (at_node : ℕ → Option (List ℕ)) (y : ℕ) (class : List ℕ) (old new : List (List ℕ)) → at_node y ≡ Some class → HaveMore old new → (k : ℕ) × (place_in new class ≡ Some k)
      → ((other : List ℕ) → In other new → In other old ⊎ (other ≡ class)) → NotesOf at_node (y ∷ []) old new
  notes_one at_node y class old new of (more, is) (k, placed) only = record {
    stay = λ c at. subst (In c) (sym is) (In-left old more c at);
    own = λ c at. elim (only c at) [
      | inl was ↦ inl was
      | inr same ↦ inr (y, IsOn-first y [], of ∙ ap Some (sym same))
    ];
    all = λ x c on of_x.
        let both : Some class ≡ Some c = sym of ∙ ap at_node (sym (alone y x on)) ∙ of_x in
        let one : class ≡ c = cc in
        subst (λ z. In z new) (placed_name new class k placed ∙ one) (in_at new k (place_within new class k placed));
  }

-- a token that is noted
pub notes_push : {X : Type 0} (at_node : ℕ → Option X) (y : ℕ) (noted : X) (old : List X) → at_node y ≡ Some noted → NotesOf at_node (y ∷ []) old (old ++ noted ∷ [])
notes_push at_node y noted old of = record {
  stay = λ c at. In-left old (noted ∷ []) c at;
  own = λ c at. elim (In-cases old (noted ∷ []) c at) [
    | inl was ↦ inl was
    | inr here ↦ elim here [ inl same ↦ inr (y, IsOn-first y [], of ∙ ap Some same) | inr none ↦ absurd none ]
  ];
  all = λ x c on of_x.
      let both : Some noted ≡ Some c = sym of ∙ ap at_node (sym (alone y x on)) ∙ of_x in
      let one : noted ≡ c = cc in
      In-right old (noted ∷ []) c (inl one);
}

-- ---- rows, event by event

pub drops_start : (d : Decisions) → DropsRowsAt (IsOn []) d d
drops_start d = record {
  rules = refl;
  classes = refl;
  was = λ i row at. (at, λ on. (let never : false ≡ true = on in cc));
  stay = λ i row at off. at;
  rests = λ i none. none;
}

pub drops_next : (front : List ℕ) (y : ℕ) (a b c : Decisions) → DropsRowsAt (IsOn front) a b → DropsRows y b c → DropsRowsAt (IsOn (front ++ y ∷ [])) a c
drops_next front y a b c p q = record {
  rules = q.rules ∙ p.rules;
  classes = q.classes ∙ p.classes;
  was = λ i row at. elim (q.each i) [
    | inl same ↦ (
        let h = p.was i row (sym same.row ∙ at) in (
          h.0,
          λ on. elim (IsOn-append_cases front (y ∷ []) row.value.trigger on) [
            | inl there ↦ h.1 there
            | inr here ↦ q.none i row at (alone y row.value.trigger here)
          ],
        ))
    | inr dropped ↦ absurd (none_some row (sym dropped.gone ∙ at))
  ];
  stay = λ i row at off.
      let there = p.stay i row at (λ on. off (IsOn-append_left front (y ∷ []) row.value.trigger on)) in
      elim (q.each i) [
        | inl same ↦ same.row ∙ there
        | inr dropped ↦ (
            let one = one_row (table_of b) i dropped.row row dropped.was there in
            let here : row.value.trigger ≡ y = ap (λ (z : TableRow Pair 8). z.value.trigger) (sym one) ∙ dropped.at_event in
            absurd (off (IsOn-append_right front (y ∷ []) row.value.trigger (subst (IsOn (y ∷ [])) (sym here) (IsOn-first y [])))))
      ];
  rests = λ i none. elim (q.each i) [
    | inl same ↦ same.waits ∙ p.rests i none
    | inr dropped ↦ dropped.rests
  ];
}

-- the rows that are left stand under their classes
pub under_dropped : (s : Standing) (P : ℕ → Type 0) (old new : Decisions) → DropsRowsAt P old new → AreUnder s old → AreUnder s new
under_dropped s P old new d under = record {
  classes = λ i row at. subst (λ l. IsUnderClasses s (name_in new.rules) (place_in l) row) (sym d.classes)
      (subst (λ l. IsUnderClasses s (name_in l) (place_in old.classes) row) (sym d.rules) (under.classes i row (d.was i row at).0));
  named = λ i row at. subst (λ l. row.value.rule < length l) (sym d.rules) (under.named i row (d.was i row at).0);
}

-- ---- a node with all below it

-- what stands only where the one above it does
stands_above : (s : Standing) (x y : Moment) → IsUnder x y → Stands s y → Stands s x
stands_above s x (At p) is stands = subst (Stands s) is stands
stands_above s x (After t r) (inl is) stands = subst (Stands s) is stands
stands_above s x (After t r) (inr under) stands = stands_above s x t under stands.0

distinct_moments : (f : Forest) → IsOnce f → (numbers : List ℕ) → ((y : ℕ) → IsOn numbers y → IsLive f y) → AreOnce numbers → Distinct (map (moment_at f) numbers)
distinct_moments f once [] live apart = tt
distinct_moments f once (y ∷ ys) live apart = (
  (λ at.
      let (z, there, is) = In-map (moment_at f) ys (moment_at f y) at in
      let on = on_in ys z there in
      let (m, m_at) = node_at f y (live y (IsOn-first y ys)) in
      let (n, n_at) = node_at f z (live z (IsOn-append_right (y ∷ []) ys z on)) in
      let same = once z y n m n_at m_at (sym (moment_at-is f z n n_at) ∙ is ∙ moment_at-is f y m m_at) in
      both_ways (list_any (eqb y) ys) apart.0 (subst (IsOn ys) same on)),
  distinct_moments f once ys (λ z on. live z (IsOn-append_right (y ∷ []) ys z on)) apart.1,
)

module _ (old new : Beliefs) (before after : Departed) (x : ℕ) (numbers : List ℕ) (once : IsOnce (forest old.tree)) (events : HaveEvents old.tree (table_of old.decisions))
    (each : (y : ℕ) → IsOn numbers y ↔ IsBelow (forest old.tree) x y) (apart : AreOnce numbers)
    (tells : TellsOf old.tree numbers before.left.items after.left.items) (notes : NotesOf (class_at old.tree) numbers before.classes after.classes) (facts : NotesOf (fact_at old.tree) numbers before.facts after.facts)
    (tokens : NotesOf (gone_at old.tree) numbers before.tokens.items after.tokens.items)
    (drops : DropsRowsAt (IsOn numbers) old.decisions new.decisions) (w : Withdraws old.tree new.tree x) where
  abbrev f : Forest
  f = forest old.tree

  abbrev g : Forest
  g = forest new.tree

  on_or_off : (y : ℕ) → IsOn numbers y ⊎ (IsOn numbers y → ⊥)
  on_or_off y = elim (cases_Bool (list_any (eqb y) numbers)) [ inl on ↦ inl on | inr off ↦ inr (λ on. both_ways (list_any (eqb y) numbers) off on) ]

  gone : (y : ℕ) → IsOn numbers y → member g y ≡ None
  gone y on = w.shrinks.gone y ((each y).0 on)

  stays : (y : ℕ) → (IsOn numbers y → ⊥) → member g y ≡ member f y
  stays y off = w.shrinks.others y (λ below. off ((each y).1 below))

  off_live : (y : ℕ) → IsLive g y → IsOn numbers y → ⊥
  off_live y live on = let (m, at) = node_at g y live in none_some m (sym (gone y on) ∙ at)

  nodes : (y : ℕ) (m : Member) → member g y ≡ Some m → member f y ≡ Some m
  nodes y m at = sym (stays y (off_live y (live_at g y m at))) ∙ at

  below_more : (y z : ℕ) (n m : Member) (rule : List ℕ) → IsBelow f x y → member f y ≡ Some n → member f z ≡ Some m → moment m ≡ After (moment n) rule → IsBelow f x z
  below_more y z n m rule b n_at m_at is =
      let one = one_node f y b.below n b.below_at n_at in
      let under = below_under b.above n (subst (IsMemberBelow b.above) one b.is_below) in
      record { above = b.above; below = m; above_at = b.above_at; below_at = m_at; is_below = under_below b.above m (subst (IsUnder (moment b.above)) (sym is) (inr under)) }

  thins : Thins old new
  thins = record {
    nodes = nodes;
    above = λ z y m n rule at there is. elim (on_or_off y) [
      | inl on ↦ absurd (off_live z (live_at g z m at) ((each z).1 (below_more y z n m rule ((each y).0 on) there (nodes z m at) is)))
      | inr off ↦ stays y off ∙ there
    ];
    dates = λ y live. w.shrinks.dates y (λ below. off_live y live ((each y).1 below));
    rows = λ i row at. (drops.was i row at).0;
    events = λ i row at.
        let h = drops.was i row at in
        let (m, there) = node_at f row.value.trigger (events i row h.0) in
        live_at g row.value.trigger m (stays row.value.trigger h.1 ∙ there);
    rests = drops.rests;
    rules = drops.rules;
    classes = drops.classes;
  }

  live_on : (y : ℕ) → IsOn numbers y → IsLive f y
  live_on y on = let b = (each y).0 on in live_at f y b.below b.below_at

  left_on : (y : ℕ) (m : Member) → HasLeft old.tree new.tree y m → IsOn numbers y
  left_on y m left = elim (on_or_off y) [
    | inl on ↦ on
    | inr off ↦ absurd (none_some m (sym left.gone ∙ stays y off ∙ left.was))
  ]

  all_told : Tells old.tree new.tree before.left.items after.left.items
  all_told = record {
    more = tells.more;
    is = tells.is;
    own = λ o at.
        let (y, on, is, date, number) = tells.own o at in
        let (m, there) = node_at f y (live_on y on) in
        let same = sym (moment_at-is f y m there) ∙ sym is in
        let among = subst (In (moment_of o.occ)) tells.moments (map-In (λ (z : DatedOcc). moment_of z.occ) tells.more o at) in
        let derived = (In-filter is_derived (map (moment_at f) numbers) (moment_of o.occ) among).1 in
        (y, m, record { was = there; gone = gone y on }, same, ap is_derived same ∙ derived, date, number);
    all = λ y m left derived.
        let on = left_on y m left in
        let is = moment_at-is f y m left.was in
        subst (In (moment m)) (sym tells.moments)
        (filter-In is_derived (map (moment_at f) numbers) (moment m) (subst (λ k. In k (map (moment_at f) numbers)) is (map-In (moment_at f) numbers y (in_on numbers y on))) derived);
    once = subst Distinct (sym tells.moments) (Distinct-filter is_derived (map (moment_at f) numbers) (distinct_moments f once numbers live_on apart));
  }

  all_noted : {X : Type 0} (at_node : ℕ → Option X) (of : Member → Option X) → ((y : ℕ) (m : Member) → member f y ≡ Some m → at_node y ≡ of m)
      → (a b : List X) → NotesOf at_node numbers a b → Notes of old.tree new.tree a b
  all_noted at_node of same a b noted = record {
    stay = noted.stay;
    own = λ c at. elim (noted.own c at) [
      | inl was ↦ inl was
      | inr h ↦ inr (
          let (m, there) = node_at f h.0 (live_on h.0 h.1) in
          (h.0, m, record { was = there; gone = gone h.0 h.1 }, sym (same h.0 m there) ∙ h.2))
    ];
    all = λ y m c left has. noted.all y c (left_on y m left) (same y m left.was ∙ has);
  }

  fact_is_at : (y : ℕ) (m : Member) → member f y ≡ Some m → fact_at old.tree y ≡ fact_of m
  fact_is_at y m at = ap (λ (o : Option Member). option_map_or fact_of o None) at

  gone_is_at : (y : ℕ) (m : Member) → member f y ≡ Some m → gone_at old.tree y ≡ gone_of m
  gone_is_at y m at = ap (λ (o : Option Member). option_map_or gone_of o None) at

  pub withdrawn_sheds : Sheds old new before after
  withdrawn_sheds = record {
    thins = thins;
    tells = all_told;
    notes = all_noted (class_at old.tree) (λ m. m.class) (class_is_at old.tree) before.classes after.classes notes;
    facts = all_noted (fact_at old.tree) fact_of fact_is_at before.facts after.facts facts;
    tokens = all_noted (gone_at old.tree) gone_of gone_is_at before.tokens.items after.tokens.items tokens;
  }

  pub withdrawn_rows : KeepRows old new
  withdrawn_rows = λ i row at live. drops.stay i row at (off_live row.value.trigger live)

  pub withdrawn_spares : (s : Standing) → (Stands s (moment_at (forest old.tree) x) → ⊥) → Spares s old new
  withdrawn_spares s never = record {
    nodes = λ y m at stands. elim (on_or_off y) [
      | inl on ↦ (
          let b = (each y).0 on in
          let one = one_node f y b.below m b.below_at at in
          let above = stands_above s (moment b.above) (moment m) (below_under b.above m (subst (IsMemberBelow b.above) one b.is_below)) stands in
          absurd (never (subst (Stands s) (sym (moment_at-is f x b.above b.above_at)) above)))
      | inr off ↦ stays y off ∙ at
    ];
    rows = λ i row at live. inl (withdrawn_rows i row at live);
  }
