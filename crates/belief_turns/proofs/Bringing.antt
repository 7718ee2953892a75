-- A turn that brings an effect.
use Rattle.std.proofs.Common.{◌≡◌, ◌∙◌, ℕ, true, false, List, [], ◌∷◌, Option, Some, None, refl, sym, ap, subst, inl, inr, ◌⊎◌, arith}
use Rattle.std.proofs.lemmas.Bool.Decides.{eqb_tells}
use Rattle.std.proofs.lemmas.Int.{ints}
use Rattle.std.specs.Prelude.{ℤ, pos, ◌+ℤ◌, ◌≤ℤ◌, ◌<ℤ◌, is_some}
use Rattle.std.specs.Option.{option_map_or}
use Rattle.std.specs.List.{Contains}
use Rattle.tmm_model.specs.declared.token.Shape.{Shape}
use Rattle.tmm_model.specs.declared.token.TokenRow.{TokenRow}
use Rattle.tmm_model.specs.Beliefs.{rules_at, is_of}
use Rattle.tmm_model.specs.Moments.{Moment, After, rule_of}
use Rattle.tmm_model.specs.Standing.{Standing}
use Rattle.list_theory.proofs.Elements.{In, In-from_Contains, Contains-from_In}
use Rattle.belief_theory.proofs.SoundBeliefs.{sound_timed}
use Rattle.dist_net.specs.Net.{Net}
use Rattle.net_theory.specs.Represents.{Names}
use Rattle.row_links.specs.Lists.{IsOn}
use Rattle.row_links.proofs.Lists.{IsOn-first}
use Rattle.spots.specs.declared.spot.Spot.{Spot}
use Rattle.spots.specs.Forest.{Forest, Member, member, IsLive, moment, moment_at}
use Rattle.spots.specs.OfLists.{IsMemberOf, IsForestOf, class_for}
use Rattle.spots.proofs.Nodes.{node_at, live_at, moment_at-is}
use Rattle.spots.proofs.Seen.{occurs_at}
use Rattle.spots.specs.Growing.{Adds}
use Rattle.supports.proofs.OnKinds.{no_rules}
use Rattle.undo_rows.specs.declared.row.Row.{Row as TableRow}
use Rattle.decision_rows.specs.declared.row.Pair.{Pair}
use Rattle.occ_tree.specs.Classes.{place_in}
use Rattle.occ_tree.specs.Places.{forest}
use Rattle.occ_tree.specs.Standing.{Kept, present, early}
use Rattle.joined.specs.Marking.{Mark, AsksFor}
use Rattle.joined.specs.Rows.{fires_by}
use Rattle.joined.specs.Sparing.{StaysIn, IsSparedAt}
use Rattle.joined.specs.Turning.{TreeTurns, enters, Moved, came, went, effect_of}
use Rattle.belief_turns.specs.declared.deciding.Due.{Due}
use Rattle.belief_table.specs.declared.state.Beliefs.{Beliefs}
use Rattle.belief_table.specs.Decided.{table_of, rule_in, AddsRows, IsNewRow, IsSameRow, KeepsLast}
use Rattle.belief_turns.specs.Entering.{Brings, Follows, a_token, an_event}
use Rattle.marking.specs.TokenMarks.{MarksReaders, mark_at, Calls}
use Rattle.belief_table.specs.Erasing.{class_at}
use Rattle.belief_turns.specs.Moving.{date_at, IsMarkAt, IsMarkedAt, Moves, TurnsOn, row_due}
use Rattle.belief_table.specs.Numbers.{name_in}
use Rattle.belief_turns.specs.Turning.{IsFit, IsDecided}
use Rattle.belief_table.specs.Waiting.{waits_in}
use Rattle.bearing.specs.Windows.{IsOfOther, IsSparedBy}
use Rattle.belief_table.proofs.Classes.{class_is_at}
use Rattle.belief_turns.proofs.Brought.{no_event_of_some}
use Rattle.belief_table.proofs.Marked.{one_row}
use Rattle.belief_turns.proofs.Turned.{date_is, fit_decided}

none_some : {X : Type 0} (x : X) → None ≡ Some x → ⊥
none_some x e = cc

-- an occurrence has one class
pub one_class : (s : Standing) (names : Names) (m n : Member) → IsMemberOf s names m → IsMemberOf s names n → moment m ≡ moment n → m.class ≡ n.class
one_class s names m n own_m own_n same =
    let both : Some (m.shape, m.what) ≡ Some (n.shape, n.what) = sym own_m.is ∙ ap (is_of s) same ∙ own_n.is in
    own_m.class ∙ (λ i. of_kind (both i)) ∙ sym own_n.class
  where
    of_kind : Option (Shape × List ℕ) → Option (List ℕ)
    of_kind None = None
    of_kind (Some k) = class_for s k.0 k.1

-- and is of one kind or fact
pub one_what : (s : Standing) (names : Names) (m n : Member) → IsMemberOf s names m → IsMemberOf s names n → moment m ≡ moment n → m.what ≡ n.what
one_what s names m n own_m own_n same =
    let both : Some (m.shape, m.what) ≡ Some (n.shape, n.what) = sym own_m.is ∙ ap (is_of s) same ∙ own_n.is in
    λ i. of_kind (both i)
  where
    of_kind : Option (Shape × List ℕ) → List ℕ
    of_kind None = []
    of_kind (Some k) = k.1

-- ---- an effect is later than its event

effect_later : (s : Standing) (net : Net) (f : Forest) (x : ℕ) (rule : List ℕ) → IsForestOf s net f → IsLive f x → Contains (rules_at s (moment_at f x)) rule
    → date_at s (moment_at f x) <ℤ date_at s (After (moment_at f x) rule)
effect_later s net f x rule seen live stands =
    let timed = sound_timed s seen.network.sound in
    by (date_at s (moment_at f x)) (rule_of s rule).lo (date_at s (After (moment_at f x) rule)) (timed.delayed (moment_at f x) rule stands) (timed.due_is (moment_at f x) rule (occurs_at s net f seen x live) stands)
  where
    by : (a lo d : ℤ) → pos 1 ≤ℤ lo → d ≡ (a +ℤ lo) → a <ℤ d
    by a lo d least is = omega (arith, ints, least, is)

module _ (s : Standing) (net : Net) (c e : Beliefs) (trigger : ℕ) (rule : List ℕ) (fit : IsFit s net c) (live : IsLive (forest c.tree) trigger) (on : Contains (rules_at s (moment_at (forest c.tree) trigger)) rule)
    (brings : Brings s net trigger rule c e) (last : KeepsLast c.decisions e.decisions) where
  abbrev f : Forest
  f = forest c.tree

  abbrev g : Forest
  g = forest e.tree

  abbrev y : ℕ
  y = brings.number

  abbrev node : Member
  node = brings.enters.adds.node

  abbrev effect : Moment
  effect = After (moment_at (forest c.tree) trigger) rule

  here : member g y ≡ Some node
  here = brings.enters.adds.enters.entered

  y_live : IsLive g y
  y_live = live_at g y node here

  free : IsLive f y → ⊥
  free l = let (m, at) = node_at f y l in none_some m (sym brings.enters.adds.enters.free ∙ at)

  -- what was there is there
  goes_on : (x : ℕ) → IsLive f x → IsLive g x
  goes_on x l = let (m, at) = node_at f x l in elim (eqb_tells x y) [
    | inl same ↦ absurd (free (subst (IsLive f) same.1 l))
    | inr other ↦ live_at g x m (brings.enters.adds.enters.others x other.1 ∙ at)
  ]

  -- what is new is the effect
  only_effect : (x : ℕ) → IsLive g x → (IsLive f x → ⊥) → x ≡ y
  only_effect x l dead = let (m, at) = node_at g x l in elim (eqb_tells x y) [
    | inl same ↦ same.1
    | inr other ↦ absurd (dead (live_at f x m (sym (brings.enters.adds.enters.others x other.1) ∙ at)))
  ]

  -- ---- what follows of each kind

  class_is : (class : Option (List ℕ)) → class_at e.tree y ≡ class → node.class ≡ class
  class_is class is = sym (class_is_at e.tree y node here) ∙ is

  module _ (class : List ℕ) (of : class_at e.tree y ≡ Some class) (m : MarksReaders s net e.tree (y ∷ []) y class c.decisions e.decisions) where
    abbrev mark : Mark
    mark = mark_at e.tree y m.number m.spares

    row_was : (i : ℕ) (row : TableRow Pair 8) → (table_of e.decisions).row i ≡ Some row → (table_of c.decisions).row i ≡ Some row
    row_was i row at = ap (λ rows. (table_of (record c.decisions { rows = rows })).row i) (sym m.rows) ∙ at

    row_is : (i : ℕ) (row : TableRow Pair 8) → (table_of c.decisions).row i ≡ Some row → (table_of e.decisions).row i ≡ Some row
    row_is i row at = ap (λ rows. (table_of (record c.decisions { rows = rows })).row i) m.rows ∙ at

    no_new : (i : ℕ) (row : TableRow Pair 8) → (table_of e.decisions).row i ≡ Some row → (IsLive f row.value.trigger → ⊥) → ⊥
    no_new i row at dead = dead (fit.events i row (row_was i row at))

    pub token_fit : IsFit s net e
    token_fit = record {
      tree = brings.enters.tree;
      events = λ i row at. goes_on row.value.trigger (fit.events i row (row_was i row at));
      under = brings.under;
      dated = λ i date at. elim (m.marks.only i) [
        | inl same ↦ (
            let (row, there, is) = fit.dated i date (sym same ∙ at) in
            (row, row_is i row there, is ∙ sym (brings.enters.dates row.value.trigger (fit.events i row there))))
        | inr marked ↦ (
            let both : Some (early (present e.tree) marked.0.value.trigger) ≡ Some date = sym marked.3 ∙ at in
            let one : early (present e.tree) marked.0.value.trigger ≡ date = cc in
            (marked.0, row_is i marked.0 marked.1, sym one))
      ];
    }

    -- dates that are kept are those of occurrences
    later_is : (i : ℕ) (row : TableRow Pair 8) → (table_of c.decisions).row i ≡ Some row → early (present e.tree) row.value.trigger ≡ date_at s (moment_at g row.value.trigger)
    later_is i row at = date_is s net e token_fit row.value.trigger (goes_on row.value.trigger (fit.events i row at))

    to_mark : (i : ℕ) (row : TableRow Pair 8) → (table_of c.decisions).row i ≡ Some row → waits_in e.decisions.waiting i ≡ true
        → (waits_in c.decisions.waiting i ≡ true) ⊎ IsMarkedAt s g (table_of c.decisions) (mark ∷ []) i row (rule_in e.decisions row)
    to_mark i row there waits = elim (m.marks.only i) [
      | inl same ↦ inl (sym (ap is_some same) ∙ waits)
      | inr (other, at, calls, _) ↦ (
          let one = one_row (table_of c.decisions) i other row at there in
          let (late, asks) = subst (λ r. Calls s (present e.tree) (table_of c.decisions) mark i r (rule_in c.decisions r)) one calls in
          inr (mark, inl refl, subst (λ z. mark.from ≤ℤ z) (later_is i row there) late, subst (λ l. AsksFor s (table_of c.decisions) mark i row.value.trigger (name_in l row.value.rule)) (sym m.rules) asks))
    ]

    from_mark : (i : ℕ) (row : TableRow Pair 8) → (table_of c.decisions).row i ≡ Some row
        → (waits_in c.decisions.waiting i ≡ true) ⊎ IsMarkedAt s g (table_of c.decisions) (mark ∷ []) i row (rule_in e.decisions row) → waits_in e.decisions.waiting i ≡ true
    from_mark i row there (inl waited) = elim (m.marks.only i) [
      | inl same ↦ ap is_some same ∙ waited
      | inr marked ↦ ap is_some marked.3
    ]
    from_mark i row there (inr (k, inr none, late, asks)) = absurd none
    from_mark i row there (inr (k, inl is, late, asks)) =
        let late_here = subst (λ (z : Mark). z.from ≤ℤ date_at s (moment_at g row.value.trigger)) (sym is) late in
        let asks_here = subst (λ (z : Mark). AsksFor s (table_of c.decisions) z i row.value.trigger (rule_in e.decisions row)) (sym is) asks in
        ap is_some (m.marks.all i row there (
          subst (λ z. early (present e.tree) y ≤ℤ z) (sym (later_is i row there)) late_here,
          subst (λ l. AsksFor s (table_of c.decisions) mark i row.value.trigger (name_in l row.value.rule)) m.rules asks_here,
        ))

    pub token_moves : Moves s f g (mark ∷ []) c.decisions e.decisions
    token_moves = record {
      listed = brings.listed;
      last = last;
      each = λ i row at. inl (record { there = row_was i row at; waits = (to_mark i row (row_was i row at), from_mark i row (row_was i row at)) });
      stay = λ i row at l. ap is_some (row_is i row at);
      stands = λ i row at dead. absurd (no_new i row at dead);
      all = λ x r l dead stands.
          let same = only_effect x l dead in
          let none = no_rules s net g brings.enters.tree.seen y node here (no_event_of_some s net g brings.enters.tree.seen y node here class (class_is (Some class) of)) in
          absurd (In-from_Contains [] r (subst (λ l. Contains l r) (ap (λ z. rules_at s (moment_at g z)) same ∙ none) stands));
      apart = λ i j row other at there dead. absurd (no_new i row at dead);
    }

    -- a token of another node stays
    other_stays : (k : TokenRow Spot) → IsOfOther (forest e.tree) (y ∷ []) k → StaysIn (forest c.tree) (forest e.tree) k
    other_stays k o = record {
      number = o.number;
      node = o.node;
      before = elim (eqb_tells o.number y) [
        | inl same ↦ absurd (o.stays (subst (IsOn (y ∷ [])) (sym same.1) (IsOn-first y [])))
        | inr other ↦ sym (brings.enters.adds.enters.others o.number other.1) ∙ o.here
      ];
      after = o.here;
      is = o.is;
    }

    -- what is spared of the node that entered is spared in the turn
    spared_in_turn : (t : ℕ) → IsSparedBy net (forest e.tree) (y ∷ []) y t → IsSparedAt net (forest c.tree) (forest e.tree) (moment node) t
    spared_in_turn t by = record {
      nodes = forest e.tree;
      of_turn = inr refl;
      number = y;
      node = by.node;
      here = by.here;
      begins = (let both : Some by.node ≡ Some node = sym by.here ∙ here in let one : by.node ≡ node = cc in ap moment one);
      row = by.row;
      is = by.is;
      spared = elim by.spared [
        | inl not_begun ↦ inl not_begun
        | inr off ↦ inr (record { one = off.one; other = off.other; one_stays = other_stays off.one off.one_stays; other_stays = other_stays off.other off.other_stays; walls = off.walls })
      ];
    }

    pub token_mark : IsMarkAt s net (place_in e.decisions.classes) f g node mark
    token_mark = record {
      class = class;
      has_class = class_is (Some class) of;
      numbered = m.numbered;
      fact = ap (λ (o : Option Member). option_map_or (λ (m : Member). m.what) o []) here;
      from = date_is s net e token_fit y y_live ∙ ap (date_at s) (moment_at-is g y node here);
      spared = λ t spares. spared_in_turn t (m.spared t spares);
    }

  module _ (of : class_at e.tree y ≡ None) (a : AddsRows (rules_at s (moment_at g y)) y (early (present e.tree) y) c.decisions e.decisions) where
    -- a row is new, or was there
    row_new : (i : ℕ) (row : TableRow Pair 8) → (table_of e.decisions).row i ≡ Some row
        → (IsSameRow c.decisions e.decisions i × ((table_of c.decisions).row i ≡ Some row))
        ⊎ (IsNewRow y (early (present e.tree) y) c.decisions e.decisions i row × In (rule_in e.decisions row) (rules_at s (moment_at g y)))
    row_new i row at = elim (a.each i) [
      | inl same ↦ inl (same, sym same.row ∙ at)
      | inr added ↦ (
          let one = one_row (table_of e.decisions) i added.0 row added.1.there at in
          inr (subst (IsNewRow y (early (present e.tree) y) c.decisions e.decisions i) one added.1, subst (λ r. In (rule_in e.decisions r) (rules_at s (moment_at g y))) one added.2))
    ]

    is_new : (i : ℕ) (row : TableRow Pair 8) → (table_of e.decisions).row i ≡ Some row → (IsLive f row.value.trigger → ⊥)
        → IsNewRow y (early (present e.tree) y) c.decisions e.decisions i row × In (rule_in e.decisions row) (rules_at s (moment_at g y))
    is_new i row at dead = elim (row_new i row at) [ inl same ↦ absurd (dead (fit.events i row same.1)) | inr added ↦ added ]

    pub event_fit : IsFit s net e
    event_fit = record {
      tree = brings.enters.tree;
      events = λ i row at. elim (row_new i row at) [
        | inl same ↦ goes_on row.value.trigger (fit.events i row same.1)
        | inr added ↦ subst (IsLive g) (sym added.0.at_event) y_live
      ];
      under = brings.under;
      dated = λ i date at. elim (a.each i) [
        | inl same ↦ (
            let (row, there, is) = fit.dated i date (sym same.waits ∙ at) in
            (row, same.row ∙ there, is ∙ sym (brings.enters.dates row.value.trigger (fit.events i row there))))
        | inr added ↦ (
            let both : Some (early (present e.tree) y) ≡ Some date = sym added.1.waits ∙ at in
            let one : early (present e.tree) y ≡ date = cc in
            (added.0, added.1.there, sym one ∙ ap (early (present e.tree)) (sym added.1.at_event)))
      ];
    }

    pub event_moves : Moves s f g [] c.decisions e.decisions
    event_moves = record {
      listed = brings.listed;
      last = last;
      each = λ i row at. elim (row_new i row at) [
        | inl same ↦ inl (record { there = same.1; waits = ((λ w. inl (sym (ap is_some same.0.waits) ∙ w)), λ h. elim h [ inl waited ↦ ap is_some same.0.waits ∙ waited | inr marked ↦ absurd marked.1 ]) })
        | inr added ↦ inr (record { free = added.0.free; event = λ l. free (subst (IsLive f) added.0.at_event l); undecided = added.0.undecided; waits = ap is_some added.0.waits })
      ];
      stay = λ i row at l. elim (a.each i) [
        | inl same ↦ ap is_some (same.row ∙ at)
        | inr added ↦ absurd (none_some row (sym added.1.free ∙ at))
      ];
      stands = λ i row at dead.
          let added = is_new i row at dead in
          subst (λ z. Contains (rules_at s (moment_at g z)) (rule_in e.decisions row)) (sym added.0.at_event) (Contains-from_In (rules_at s (moment_at g y)) (rule_in e.decisions row) added.1);
      all = λ x r l dead stands.
          let same = only_effect x l dead in
          let (i, row, added, named) = a.all r (In-from_Contains (rules_at s (moment_at g y)) r (subst (λ z. Contains (rules_at s (moment_at g z)) r) same stands)) in
          (i, row, added.there, added.at_event ∙ sym same, named);
      apart = λ i j row other at there dead trigger same.
          a.apart i j row other (is_new i row at dead).0 (is_new j other there (λ l. dead (subst (IsLive f) (sym trigger) l))).0 same;
    }

-- ---- the turn

module _ (s : Standing) (net : Net) (b c e : Beliefs) (due : Due) (fit : IsFit s net b) (d : IsDecided s b c due) (now : fires_by due.found ≡ true) (before : fires_by due.before ≡ false)
    (on : Contains (rules_at s (moment_at (forest b.tree) due.trigger)) due.rule) (brings : Brings s net due.trigger due.rule c e) (last : KeepsLast c.decisions e.decisions) where
  fit_c : IsFit s net c
  fit_c = fit_decided s net b c due fit d

  live_b : IsLive (forest b.tree) due.trigger
  live_b = subst (IsLive (forest b.tree)) d.trigger (fit.events due.row d.row d.at)

  live_c : IsLive (forest c.tree) due.trigger
  live_c = subst (λ (t : Kept). IsLive (forest t) due.trigger) (sym d.tree) live_b

  on_c : Contains (rules_at s (moment_at (forest c.tree) due.trigger)) due.rule
  on_c = subst (λ (t : Kept). Contains (rules_at s (moment_at (forest t) due.trigger)) due.rule) (sym d.tree) on

  abbrev number : ℕ
  number = brings.number

  abbrev entered : Member
  entered = brings.enters.adds.node

  fired_not : fires_by d.row.value.decision ≡ false
  fired_not = ap fires_by d.before ∙ before

  effect_is : effect_of (forest b.tree) (row_due b due.row d.row) ≡ After (moment_at (forest c.tree) due.trigger) due.rule
  effect_is = λ i. After (moment_at (forest (sym d.tree i)) (d.trigger i)) (d.rule i)

  tree : TreeTurns s net.names (forest b.tree) (forest e.tree) (row_due b due.row d.row) due.found
  tree = enters now fired_not number (subst (Adds s net.names (forest b.tree) (forest e.tree) number) (sym effect_is)
      (subst (λ (t : Kept). Adds s net.names (forest t) (forest e.tree) number (After (moment_at (forest c.tree) due.trigger) due.rule)) d.tree brings.enters.adds))

  -- only the effect moves
  moved_is : (k : Moment) → Moved (forest b.tree) (row_due b due.row d.row) due.found k → k ≡ moment entered
  moved_is k (came fires fired is) = is ∙ effect_is ∙ sym brings.enters.adds.is
  moved_is k (went fires fired x m at is under) = absurd (let no : true ≡ false = sym now ∙ fires in cc)

  moves_node : Moved (forest b.tree) (row_due b due.row d.row) due.found (moment entered)
  moves_node = came now fired_not (brings.enters.adds.is ∙ sym effect_is)

  of_b : (marks : List Mark) → Moves s (forest c.tree) (forest e.tree) marks c.decisions e.decisions → Moves s (forest b.tree) (forest e.tree) marks c.decisions e.decisions
  of_b marks m = subst (λ (t : Kept). Moves s (forest t) (forest e.tree) marks c.decisions e.decisions) d.tree m

  by_kind : Follows s net number e.tree c.decisions e.decisions → TurnsOn s net b c e due
  by_kind (a_token class of m) = record {
    fit = fit;
    decided = d;
    fit_after = token_fit s net c e due.trigger due.rule fit_c live_c on_c brings last class of m;
    tree = tree;
    marks = mark_at e.tree number m.number m.spares ∷ [];
    moves = of_b (mark_at e.tree number m.number m.spares ∷ []) (token_moves s net c e due.trigger due.rule fit_c live_c on_c brings last class of m);
    are = record {
      own = λ k at. (entered, brings.enters.adds.own, moves_node, marked k at);
      all = λ n other own moved has. (
        mark_at e.tree number m.number m.spares,
        inl refl,
        record {
          class = class;
          has_class = one_class s net.names n entered own brings.enters.adds.own (moved_is (moment n) moved) ∙ (sym (class_is_at e.tree number entered brings.enters.adds.enters.entered) ∙ of);
          numbered = m.numbered;
          fact = is_mark.fact ∙ one_what s net.names entered n brings.enters.adds.own own (sym (moved_is (moment n) moved));
          from = is_mark.from ∙ ap (date_at s) (sym (moved_is (moment n) moved));
          spared = λ t spares. subst (λ x. IsSparedAt net (forest b.tree) (forest e.tree) x t) (sym (moved_is (moment n) moved)) (is_mark.spared t spares);
        },
      );
    };
    later = later;
  }
    where
      is_mark : IsMarkAt s net (place_in e.decisions.classes) (forest b.tree) (forest e.tree) entered (mark_at e.tree number m.number m.spares)
      is_mark = subst (λ (t : Kept). IsMarkAt s net (place_in e.decisions.classes) (forest t) (forest e.tree) entered (mark_at e.tree number m.number m.spares)) d.tree
          (token_mark s net c e due.trigger due.rule fit_c live_c on_c brings last class of m)

      marked : (k : Mark) → In k (mark_at e.tree number m.number m.spares ∷ []) → IsMarkAt s net (place_in e.decisions.classes) (forest b.tree) (forest e.tree) entered k
      marked k (inl is) = subst (IsMarkAt s net (place_in e.decisions.classes) (forest b.tree) (forest e.tree) entered) is is_mark
      marked k (inr none) = absurd none

      first : date_at s (moment_at (forest b.tree) due.trigger) <ℤ early (present e.tree) number
      first =
          subst (λ z. date_at s (moment_at (forest b.tree) due.trigger) <ℤ z) (sym (is_mark.from ∙ ap (date_at s) brings.enters.adds.is))
          (subst (λ (t : Kept). date_at s (moment_at (forest t) due.trigger) <ℤ date_at s (After (moment_at (forest c.tree) due.trigger) due.rule)) d.tree
          (effect_later s net (forest c.tree) due.trigger due.rule fit_c.tree.seen live_c on_c))

      later : (k : Mark) → In k (mark_at e.tree number m.number m.spares ∷ []) → date_at s (moment_at (forest b.tree) due.trigger) <ℤ k.from
      later k (inl is) = subst (λ (z : Mark). date_at s (moment_at (forest b.tree) due.trigger) <ℤ z.from) is first
      later k (inr none) = absurd none
  by_kind (an_event of a) = record {
    fit = fit;
    decided = d;
    fit_after = event_fit s net c e due.trigger due.rule fit_c live_c on_c brings last of a;
    tree = tree;
    marks = [];
    moves = of_b [] (event_moves s net c e due.trigger due.rule fit_c live_c on_c brings last of a);
    are = record {
      own = λ k none. absurd none;
      all = λ n class own moved has.
          absurd (none_some class (sym (sym (class_is_at e.tree number entered brings.enters.adds.enters.entered) ∙ of)
          ∙ sym (one_class s net.names n entered own brings.enters.adds.own (moved_is (moment n) moved)) ∙ has));
    };
    later = λ k none. absurd none;
  }

  pub brings_turn : TurnsOn s net b c e due
  brings_turn = by_kind brings.follows
