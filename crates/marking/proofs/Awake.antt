-- Rows that wait since their events are another distance from `start`, and classes of which no other
-- rows wait then.
use Rattle.std.proofs.Common.{◌≡◌, ◌∙◌, ℕ, Bool, true, false, ◌+◌, ◌<◌, List, length, get_or, Option, Some, sym, ap, subst, inl, inr, ◌⊎◌, arith}
use Rattle.std.proofs.lemmas.Bool.{cases_order, cases_Bool}
use Rattle.std.proofs.lemmas.List.{get_or_default}
use Rattle.std.specs.Prelude.{◌↔◌, is_some}
use Rattle.std.specs.List.{Contains}
use Rattle.std.specs.Option.{option_map_or}
use Rattle.row_links.specs.Lists.{IsOn}
use Rattle.dist_net.specs.Net.{Nets}
use Rattle.spots.specs.declared.spot.Spot.{Spot}
use Rattle.spots.specs.declared.spot.Spot.TheVariants.{Declared, Node}
use Rattle.spots.specs.Forest.{Forest, Member, member}
use Rattle.spots.specs.Spots.{base_of}
use Rattle.spots.proofs.Nodes.{node_at}
use Rattle.undo_rows.specs.declared.row.Row.{Row as TableRow}
use Rattle.undo_rows.specs.Tables.{Table}
use Rattle.decision_rows.specs.declared.row.Pair.{Pair}
use Rattle.occ_tree.specs.Standing.{Kept, State, present, forest}
use Rattle.occ_tree.specs.Touched.{IsAtMoved, IsUntouched}
use Rattle.joined.specs.Gaps.{begin, an_end}
use Rattle.joined.specs.Shifting.{IsSpotOf, MovesAmong}
use Rattle.bearing.specs.declared.events.Events.{Events}
use Rattle.bearing.specs.declared.what_moved.Moves.{Moves}
use Rattle.bearing.specs.Events.{is_event_of}
use Rattle.belief_table.specs.ByEvent.{IsOnAt}
use Rattle.belief_table.specs.Marks.{HaveEvents, AreByEvent, Marks, Wakes}
use Rattle.bearing.specs.PointSets.{is_in, has_pair, HaveBothIn}
use Rattle.bearing.specs.Reach.{AreBelow256, IsOff}
use Rattle.belief_table.specs.Waiting.{Dates}
use Rattle.marking.specs.Woken.{TellMoves, MovesFrom, MovesFor, RestsFor, WakesFor, AreAwake}
use Rattle.bearing.proofs.Bases.{Small, node_small, class_small, small_or}
use Rattle.belief_table.proofs.Marked.{marks_none, marks_both}
use Rattle.belief_table.proofs.OfRules.{marks_alike}
use Rattle.marking.proofs.Waking.{wakes_none, wait_still}

-- the number is one of the first n
abbrev pub AmongFirst : List ℕ → ℕ → ℕ → Type 0
AmongFirst nodes n x = (k : ℕ) × (k < n) × (get_or nodes k 0 ≡ x)

among_all : (nodes : List ℕ) (x : ℕ) → Contains nodes x → AmongFirst nodes (length nodes) x
among_all nodes x (k, less, at) = (k, less, get_or_default nodes k 0 x less ∙ at)

among_next : (nodes : List ℕ) (n x : ℕ) → AmongFirst nodes (n + 1) x → AmongFirst nodes n x ⊎ (x ≡ get_or nodes n 0)
among_next nodes n x (k, less, at) = elim (cases_order k n) [
  | inl same ↦ inr (sym at ∙ ap (λ j. get_or nodes j 0) same)
  | inr other ↦ elim other [ inl below ↦ inl (k, below, at) | inr above ↦ absurd (omega (arith, less, above)) ]
]

-- the row is at one of the first n nodes, and that is one of the events
abbrev pub AtFirst : State → List ℕ → Events → ℕ → ℕ → TableRow Pair 8 → Type 0
AtFirst s nodes events n i row = AmongFirst nodes n row.value.trigger × (is_event_of events s row.value.trigger ≡ true)

-- if so it is said, `start` did not move, and the rows at the first n nodes wait
abbrev pub AwakeFirst : Nets → Table Pair 8 → List ℕ → ℕ → Bool → Dates → Type 0
AwakeFirst nets t nodes n awake dates =
    awake ≡ true → (Contains nets.moved 0 → ⊥) × ((i : ℕ) (row : TableRow Pair 8) → t.row i ≡ Some row → AmongFirst nodes n row.value.trigger → is_some (dates i) ≡ true)

-- the point of a node
base_at : (f : Forest) (x : ℕ) (m : Member) → member f x ≡ Some m → base_of f (Node x) ≡ m.begin
base_at f x m at = ap (λ (o : Option Member). option_map_or (λ (m : Member). m.begin) o 0) at

module _ (k : Kept) (t : Table Pair 8) (nets : Nets) (moves : Moves) (tells : TellMoves nets moves) (below : AreBelow256 (forest (present k))) where
  abbrev f : Forest
  f = forest (present k)

  -- of two spots that moved from each other one is at a point that did
  one_moved : (P : Type 0) (are : Spot → Type 0) → ((p : Spot) → are p → Small f p) → (x : ℕ) → MovesAmong (has_pair moves.pairs.items) f are x
      → ((p : Spot) → are p ⊎ (p ≡ Node x) → Contains nets.moved (base_of f p) → P) → P
  one_moved P are small x m then_ = elim (tells.listed.each (base_of f m.from) (base_of f m.to) (small_or f below are small x m.from m.from_is) (small_or f below are small x m.to m.to_is) m.moved) [
    | inl first ↦ then_ m.from m.from_is first
    | inr second ↦ then_ m.to m.to_is second
  ]

  -- an event that is another distance from `start` is at a point that moved
  from_is_at : (x : ℕ) (m : Member) → member f x ≡ Some m → MovesFrom moves f x → IsAtMoved nets.moved m
  from_is_at x m at moved = one_moved (IsAtMoved nets.moved m) (λ p. p ≡ Declared 0) (λ p is. subst (Small f) (sym is) (omega arith)) x moved side
    where
      side : (p : Spot) → (p ≡ Declared 0) ⊎ (p ≡ Node x) → Contains nets.moved (base_of f p) → IsAtMoved nets.moved m
      side p (inl is) on = inl (subst (λ q. Contains nets.moved (base_of f q)) is on)
      side p (inr is) on = inr (inl (subst (Contains nets.moved) (base_at f x m at) (subst (λ q. Contains nets.moved (base_of f q)) is on)))

  -- ---- the events, one after the other

  pub awake_none : (nodes : List ℕ) (awake : Bool) (dates : Dates) → (awake ≡ true → Contains nets.moved 0 → ⊥) → AwakeFirst nets t nodes 0 awake dates
  awake_none nodes awake dates still is = (still is, λ i row at among. (let less = among.1 in absurd (omega (arith, less))))

  module _ (nodes : List ℕ) (events : Events) where
    pub first_none : (dates : Dates) → Marks (present k) t (AtFirst (present k) nodes events 0) dates dates
    first_none dates = marks_none (present k) t (AtFirst (present k) nodes events 0) dates (λ i row on. (let less = on.0.1 in omega (arith, less)))

    module _ (by_event : AreByEvent t) (n x : ℕ) (is_x : x ≡ get_or nodes n 0) where
      pub first_next : (old mid new : Dates) → Marks (present k) t (AtFirst (present k) nodes events n) old mid → Marks (present k) t (IsOnAt t 0 x events (present k)) mid new
          → Marks (present k) t (AtFirst (present k) nodes events (n + 1)) old new
      first_next old mid new first then_ =
          marks_both (present k) t (AtFirst (present k) nodes events n) (λ i row. (row.value.trigger ≡ x) × (is_event_of events (present k) row.value.trigger ≡ true)) (AtFirst (present k) nodes events (n + 1)) old mid new
          (λ i row on. elim (among_next nodes n row.value.trigger on.0) [ inl before ↦ inl (before, on.1) | inr here ↦ inr (here ∙ sym is_x, on.1) ])
          (λ i row on. ((let (j, less, at) = on.0 in (j, omega (arith, less), at)), on.1))
          (λ i row on. ((n, omega arith, sym (on.0 ∙ is_x)), on.1))
          first
          (marks_alike (present k) t (IsOnAt t 0 x events (present k)) (λ i row. (row.value.trigger ≡ x) × (is_event_of events (present k) row.value.trigger ≡ true)) mid new
          (λ i row at. ((λ on. ((by_event i x row at).0 on.0, on.1)), (λ on. ((by_event i x row at).1 on.0, on.1))))
          then_)

      -- what waited waits on
      waits_on : (P : ℕ → TableRow Pair 8 → Type 0) (mid new : Dates) → Marks (present k) t P mid new → (i : ℕ) → is_some (mid i) ≡ true → is_some (new i) ≡ true
      waits_on P mid new marks i waits = elim (marks.only i) [ inl same ↦ ap is_some same ∙ waits | inr marked ↦ ap is_some marked.3 ]

      pub awake_next : (awake is_awake next : Bool) (mid new : Dates) → (next ≡ true → (awake ≡ true) × (is_awake ≡ true)) → Marks (present k) t (IsOnAt t 0 x events (present k)) mid new
          → (is_awake ≡ true → (i : ℕ) → IsOn (t.list 0 x) i → is_event_of events (present k) x ≡ true) → AwakeFirst nets t nodes n awake mid → AwakeFirst nets t nodes (n + 1) next new
      awake_next awake is_awake next mid new parts marks here first is =
          let (was, now) = parts is in
          let (still, waits) = first was in (
            still,
            λ i row at among. elim (among_next nodes n row.value.trigger among) [
              | inl before ↦ waits_on (IsOnAt t 0 x events (present k)) mid new marks i (waits i row at before)
              | inr at_x ↦ (
                  let on = (by_event i x row at).1 (at_x ∙ sym is_x) in
                  let event = subst (λ y. is_event_of events (present k) y ≡ true) (sym (at_x ∙ sym is_x)) (here now i on) in
                  ap is_some (marks.all i row at (on, event)))
            ],
          )

    -- ---- all of them

    module _ (there : HaveEvents k t) (all : (x : ℕ) (m : Member) → member f x ≡ Some m → IsAtMoved nets.moved m → Contains nodes x) where
      pub all_marked : (n : ℕ) (old new : Dates) → n ≡ length nodes → ((x : ℕ) → (is_event_of events (present k) x ≡ true) ↔ MovesFrom moves f x) → Marks (present k) t (AtFirst (present k) nodes events n) old new
          → Wakes (present k) t (λ i row. MovesFrom moves f row.value.trigger) (λ i row. MovesFrom moves f row.value.trigger → ⊥) old new
      all_marked n old new whole touched marks = record {
        only = λ i. elim (marks.only i) [
          | inl same ↦ inl same
          | inr marked ↦ inr (marked.0, marked.1, (touched marked.0.value.trigger).0 marked.2.1, marked.3)
        ];
        rests = λ i row at. elim (cases_Bool (is_event_of events (present k) row.value.trigger)) [
          | inl event ↦ inl (
              let (m, is) = node_at f row.value.trigger (there i row at) in
              let on = all row.value.trigger m is (from_is_at row.value.trigger m is ((touched row.value.trigger).0 event)) in
              ap is_some (marks.all i row at (subst (λ z. AmongFirst nodes z row.value.trigger) (sym whole) (among_all nodes row.value.trigger on), event)))
          | inr other ↦ inr (λ moved. (let no : true ≡ false = sym ((touched row.value.trigger).1 moved) ∙ other in cc))
        ];
      }

  pub all_awake : (nodes : List ℕ) → HaveEvents k t → ((x : ℕ) (m : Member) → member f x ≡ Some m → IsAtMoved nets.moved m → Contains nodes x)
      → (n : ℕ) (awake : Bool) (dates : Dates) → n ≡ length nodes → AwakeFirst nets t nodes n awake dates → awake ≡ true → AreAwake nets f t dates
  all_awake nodes there all n awake dates whole first is = record {
    start = (first is).0;
    rows = λ i row at moved. (
        let (m, here) = node_at f row.value.trigger (there i row at) in
        let on = all row.value.trigger m here (inr (inl (subst (Contains nets.moved) (base_at f row.value.trigger m here) moved))) in
        (first is).1 i row at (subst (λ z. AmongFirst nodes z row.value.trigger) (sym whole) (among_all nodes row.value.trigger on)));
  }

  -- ---- classes

  pub awake_still : (P R : ℕ → TableRow Pair 8 → Type 0) (old new : Dates) → Wakes (present k) t P R old new → AreAwake nets f t old → AreAwake nets f t new
  awake_still P R old new wakes awake = record { start = awake.start; rows = λ i row at moved. wait_still (present k) t P R old new wakes i (awake.rows i row at moved) }

  -- a class that is untouched lets no more rows wait
  module _ (class : List ℕ) (untouched : IsUntouched nets k class) where
    none_more : (i : ℕ) (row : TableRow Pair 8) (dates : Dates) → t.row i ≡ Some row → AreAwake nets f t dates → is_some (dates i) ≡ false → MovesFor moves f class row.value.trigger → ⊥
    none_more i row dates at awake not m = one_moved ⊥ (IsSpotOf f class) (class_small f below class) row.value.trigger m side
      where
        side : (p : Spot) → IsSpotOf f class p ⊎ (p ≡ Node row.value.trigger) → Contains nets.moved (base_of f p) → ⊥
        side p (inr is) on =
            let waits = awake.rows i row at (subst (λ q. Contains nets.moved (base_of f q)) is on) in
            let no : true ≡ false = sym waits ∙ not in
            cc
        side p (inl (inl is)) on = awake.start (subst (λ q. Contains nets.moved (base_of f q)) is on)
        side p (inl (inr (begin y m here of is))) on =
            untouched.unmoved y m here of (inr (inl (subst (Contains nets.moved) (base_at f y m here) (subst (λ q. Contains nets.moved (base_of f q)) is on))))
        side p (inl (inr (an_end y m e here of ends is))) on = untouched.unmoved y m here of (inr (inr (e, ends, subst (λ q. Contains nets.moved (base_of f q)) is on)))

    pub none_wakes : (are : ℕ → Type 0) (dates : Dates) → AreAwake nets f t dates → WakesFor (present k) t nets moves class are dates dates
    none_wakes are dates awake =
        wakes_none (present k) t (λ i row. are i × MovesFor moves f class row.value.trigger) (λ i row. are i → RestsFor nets moves f class row.value.trigger) dates
        (λ i row at. elim (cases_Bool (is_some (dates i))) [ inl waits ↦ inl waits | inr not ↦ inr (λ on. inl (none_more i row dates at awake not)) ])

  -- so does one none of whose points is a point of a pair
  module _ (class : List ℕ) (points : List Bool) (all : HaveBothIn moves.pairs.items points) (off : (p : Spot) → IsSpotOf f class p → IsOff f points p) where
    none_moves : (x : ℕ) → MovesFor moves f class x → ⊥
    none_moves x m = by m.from_is m.to_is
      where
        small : (p : Spot) → IsSpotOf f class p ⊎ (p ≡ Node x) → Small f p
        small = small_or f below (IsSpotOf f class) (class_small f below class) x

        ends : (is_in points (base_of f m.from) ≡ true) × (is_in points (base_of f m.to) ≡ true)
        ends = all (base_of f m.from) (base_of f m.to) (small m.from m.from_is) (small m.to m.to_is) m.moved

        by : IsSpotOf f class m.from ⊎ (m.from ≡ Node x) → IsSpotOf f class m.to ⊎ (m.to ≡ Node x) → ⊥
        by (inl is) to = let no : true ≡ false = sym ends.0 ∙ off m.from is in cc
        by (inr from) (inl is) = let no : true ≡ false = sym ends.1 ∙ off m.to is in cc
        by (inr from) (inr to) =
            let from_is : base_of f m.from ≡ base_of f (Node x) = ap (base_of f) from in
            let to_is : base_of f m.to ≡ base_of f (Node x) = ap (base_of f) to in
            let no : true ≡ false = sym m.moved ∙ (λ i. has_pair moves.pairs.items (from_is i) (to_is i)) ∙ tells.itself (base_of f (Node x)) (node_small f below x) in
            cc

    pub none_concerned : (are : ℕ → Type 0) (dates : Dates) → WakesFor (present k) t nets moves class are dates dates
    none_concerned are dates =
        wakes_none (present k) t (λ i row. are i × MovesFor moves f class row.value.trigger) (λ i row. are i → RestsFor nets moves f class row.value.trigger) dates
        (λ i row at. inr (λ on. inl (none_moves row.value.trigger)))
