-- What an edit adds to nodes and rows, and that so begun they are ready for the list after.
use Rattle.std.proofs.Common.{◌≡◌, ◌∙◌, ℕ, true, false, ◌||◌, List, Option, Some, None, IsSome, refl, sym, ap, subst, inl, inr, ◌⊎◌}
use Rattle.std.specs.Prelude.{◌↔◌, is_some, pos, ◌≤ℤ◌}
use Rattle.std.specs.List.{Contains}
use Rattle.std.specs.Option.{option_map, option_map_or}
use Rattle.tmm_model.specs.declared.premise.Edit.{Edit}
use Rattle.tmm_model.specs.declared.premise.Edit.TheVariants.{Add}
use Rattle.tmm_model.specs.declared.premise.Premise.{Premise}
use Rattle.tmm_model.specs.Beliefs.{roots, rules_at}
use Rattle.tmm_model.specs.Edits.{next_list}
use Rattle.tmm_model.specs.Moments.{Moment, At, After}
use Rattle.tmm_model.specs.Standing.{Standing}
use Rattle.list_theory.specs.WellNamed.{IsSound}
use Rattle.belief_theory.specs.Right.{Occurs}
use Rattle.belief_theory.proofs.SoundBeliefs.{believed_right, sound_timed}
use Rattle.dist_net.specs.Net.{Net}
use Rattle.net_theory.specs.Represents.{Names}
use Rattle.spots.specs.Forest.{Forest, Member, member, IsLive, moment, moment_at, SameMembers}
use Rattle.spots.specs.OfLists.{IsMemberOf}
use Rattle.spots.proofs.Nodes.{node_at, live_at, moment_at-is}
use Rattle.spots.proofs.Seen.{occurs_at}
use Rattle.undo_rows.specs.declared.row.Row.{Row as TableRow}
use Rattle.decision_rows.specs.declared.row.Pair.{Pair}
use Rattle.decision_rows.specs.declared.row.Decision.TheVariants.{Beyond}
use Rattle.occ_tree.specs.Classes.{place_in, HaveMore}
use Rattle.occ_tree.specs.Places.{forest}
use Rattle.occ_tree.specs.Standing.{present, early}
use Rattle.occ_tree.proofs.Numbered.{no_more}
use Rattle.revisions.specs.Maps.{watches}
use Rattle.joined.specs.Listed.{IsUnderClasses, IsListedUnder}
use Rattle.joined.specs.Netted.{IsCurrent}
use Rattle.joined.specs.Rows.{Row, HasRow, HasNoRow}
use Rattle.joined.specs.Starting.{BeginsFrom, was, is_new, NodesBegin, RowsBegin}
use Rattle.joined.specs.Gaps.{reads_class, reads_rival}
use Rattle.joined.specs.Touching.{RivalsStay}
use Rattle.joined.proofs.Listed.{class_listed, readers_listed}
use Rattle.joined.proofs.Starting.{reads_by_class}
use Rattle.belief_table.specs.declared.erasing.Departed.{Departed}
use Rattle.belief_table.specs.declared.state.Beliefs.{Beliefs}
use Rattle.marking.specs.LeftMarks.{ReadsRivalOf, MarksLeft}
use Rattle.belief_net.specs.Beginning.{IsLeftFrom, BoreOnNone, WaitForMoved, IsReady}
use Rattle.belief_net.specs.Clearing.{IsCleared}
use Rattle.belief_table.specs.Decided.{table_of, rule_in}
use Rattle.belief_table.specs.Erasing.{fact_of, HasLeft, ShedsAll}
use Rattle.belief_table.specs.Numbers.{name_in}
use Rattle.belief_turns.specs.Turning.{rows_of, IsFit}
use Rattle.belief_table.specs.Waiting.{dates_in, waits_in}
use Rattle.belief_net.proofs.Declared.{occurs_still}
use Rattle.belief_net.proofs.Departing.{read_now}
use Rattle.belief_table.proofs.Marked.{one_row}
use Rattle.belief_net.proofs.Idle.{the_gone, gone_noted, left_spared}
use Rattle.belief_table.proofs.Named.{are_numbered, under_more}
use Rattle.belief_table.proofs.Thinned.{under_less}
use Rattle.belief_turns.proofs.Turned.{date_is, seen_row, row_there, row_of}

none_some : {X : Type 0} (x : X) → None ≡ Some x → ⊥
none_some x e = cc

-- an option is none, or some
some_or_none : {X : Type 0} (o : Option X) → (o ≡ None) ⊎ ((x : X) × (o ≡ Some x))
some_or_none None = inl refl
some_or_none (Some x) = inr (x, refl)

-- what has no class is not read
pub unread : (s : Standing) (names : Names) (m : Member) (rule : List ℕ) → IsMemberOf s names m → m.class ≡ None → watches s rule (moment m) ≡ false
unread s names m rule own none =
    reads_by_class s names m rule own ∙ ap (λ o. option_map_or (λ class. reads_class s rule class || reads_rival s rule m.what) o false) none

-- the fact of a token, and that it has a class
fact_parts : (m : Member) (fact : List ℕ) → fact_of m ≡ Some fact → (class : List ℕ) × (m.class ≡ Some class) × (m.what ≡ fact)
fact_parts m fact e = by m.class refl e
  where
    by : (o : Option (List ℕ)) → m.class ≡ o → option_map (λ _. m.what) o ≡ Some fact → (class : List ℕ) × (m.class ≡ Some class) × (m.what ≡ fact)
    by None is e = cc
    by (Some class) is e = (class, is, cc)

-- the edit adds a premise
abbrev pub IsAddition : Edit → Type 0
IsAddition edit = (p : Premise) × (edit ≡ Add p)

-- The row is new with the edit: nothing is decided of it, and it waits; its event is new, or its
-- rule was none there.
pub record IsFresh (old new : Standing) (edit : Edit) (m n : Beliefs) (i : ℕ) (row : TableRow Pair 8) : Type 0 where
  pub addition : IsAddition edit
  pub free : (table_of m.decisions).row i ≡ None
  pub stands : Contains (rules_at new (moment_at (forest n.tree) row.value.trigger)) (rule_in n.decisions row)
  pub undecided : row.value.decision ≡ Beyond
  pub waits : waits_in n.decisions.waiting i ≡ true
  pub is_new : (IsLive (forest m.tree) row.value.trigger → ⊥) ⊎ (Contains (rules_at old (moment_at (forest n.tree) row.value.trigger)) (rule_in n.decisions row) → ⊥)

-- What is in n besides what is in m: what the edit adds.
pub record Gains (old new : Standing) (edit : Edit) (m n : Beliefs) : Type 0 where
  pub nodes : (x : ℕ) (k : Member) → member (forest m.tree) x ≡ Some k → member (forest n.tree) x ≡ Some k
  pub own_nodes : (x : ℕ) (k : Member) → member (forest n.tree) x ≡ Some k → (member (forest m.tree) x ≡ Some k)
      ⊎ (IsAddition edit × (member (forest m.tree) x ≡ None) × Contains (roots new) (moment k))
  pub rooted : (k : Moment) → Contains (roots new) k → Contains (roots old) k ⊎ ((x : ℕ) × (z : Member) × (member (forest n.tree) x ≡ Some z) × (moment z ≡ k))
  pub rows : (i : ℕ) (row : TableRow Pair 8) → (table_of m.decisions).row i ≡ Some row → (table_of n.decisions).row i ≡ Some row
  pub own_rows : (i : ℕ) (row : TableRow Pair 8) → (table_of n.decisions).row i ≡ Some row → ((table_of m.decisions).row i ≡ Some row) ⊎ IsFresh old new edit m n i row
  pub all : (x : ℕ) (rule : List ℕ) → IsLive (forest n.tree) x → Contains (rules_at new (moment_at (forest n.tree) x)) rule
      → HasRow (rows_of n) x rule ⊎ (IsLive (forest m.tree) x × Contains (rules_at old (moment_at (forest n.tree) x)) rule)
  pub apart : (i j : ℕ) (row other : TableRow Pair 8) → (table_of n.decisions).row i ≡ Some row → (table_of n.decisions).row j ≡ Some other
      → (table_of m.decisions).row i ≡ None → (table_of m.decisions).row j ≡ None
      → row.value.trigger ≡ other.value.trigger → rule_in n.decisions row ≡ rule_in n.decisions other → i ≡ j
  pub names : (i : ℕ) (row : TableRow Pair 8) → (table_of m.decisions).row i ≡ Some row → rule_in n.decisions row ≡ rule_in m.decisions row
  pub waits : (i : ℕ) (row : TableRow Pair 8) → (table_of m.decisions).row i ≡ Some row → waits_in n.decisions.waiting i ≡ true → (waits_in m.decisions.waiting i ≡ true)
      ⊎ ((x : ℕ) × (k : Member) × (member (forest m.tree) x ≡ None) × (member (forest n.tree) x ≡ Some k) × (watches new (rule_in n.decisions row) (moment k) ≡ true))
  pub waits_on : (i : ℕ) (row : TableRow Pair 8) → (table_of m.decisions).row i ≡ Some row → waits_in m.decisions.waiting i ≡ true → waits_in n.decisions.waiting i ≡ true
  pub waits_new : (i x : ℕ) (row : TableRow Pair 8) (k : Member) → (table_of n.decisions).row i ≡ Some row → member (forest m.tree) x ≡ None → member (forest n.tree) x ≡ Some k
      → watches new (rule_in n.decisions row) (moment k) ≡ true → waits_in n.decisions.waiting i ≡ true

module _ (old : Standing) (edit : Edit) (before net : Net) (b e m n : Beliefs) (all : Departed) (sound_old : IsSound old) (sound_new : IsSound (next_list old edit))
    (fit_b : IsFit old before b) (current : IsCurrent old before (forest b.tree) (rows_of b)) (sheds : ShedsAll b e all) (cleared : IsCleared old (next_list old edit) b e)
    (same : SameMembers (forest e.tree) (forest m.tree)) (marks : MarksLeft old (next_list old edit) before (present m.tree) all e.decisions m.decisions)
    (fit_m : IsFit (next_list old edit) net m) (fit_n : IsFit (next_list old edit) net n) (gains : Gains old (next_list old edit) edit m n) where
  abbrev new : Standing
  new = next_list old edit

  abbrev f : Forest
  f = forest b.tree

  abbrev g : Forest
  g = forest n.tree

  -- ---- what is left

  node_was : (x : ℕ) (k : Member) → member (forest m.tree) x ≡ Some k → member f x ≡ Some k
  node_was x k at = sheds.thins.nodes x k (sym (same x) ∙ at)

  node_stays : (x : ℕ) (k : Member) → member f x ≡ Some k → Occurs new (moment k) → member (forest m.tree) x ≡ Some k
  node_stays x k at occurs = same x ∙ cleared.nodes x k at occurs

  row_left : (i : ℕ) (row : TableRow Pair 8) → (table_of m.decisions).row i ≡ Some row → (table_of e.decisions).row i ≡ Some row
  row_left i row at = ap (λ rs. (table_of (record e.decisions { rows = rs })).row i) (sym marks.rows) ∙ at

  row_is : (i : ℕ) (row : TableRow Pair 8) → (table_of e.decisions).row i ≡ Some row → (table_of m.decisions).row i ≡ Some row
  row_is i row at = ap (λ rs. (table_of (record e.decisions { rows = rs })).row i) marks.rows ∙ at

  row_was : (i : ℕ) (row : TableRow Pair 8) → (table_of m.decisions).row i ≡ Some row → (table_of b.decisions).row i ≡ Some row
  row_was i row at = sheds.thins.rows i row (row_left i row at)

  name_m : (row : TableRow Pair 8) → rule_in m.decisions row ≡ rule_in b.decisions row
  name_m row = ap (λ l. name_in l row.value.rule) (marks.rules ∙ sheds.thins.rules)

  name_n : (i : ℕ) (row : TableRow Pair 8) → (table_of m.decisions).row i ≡ Some row → rule_in n.decisions row ≡ rule_in b.decisions row
  name_n i row at = gains.names i row at ∙ name_m row

  -- an event of m is the same in n and before
  moment_n : (x : ℕ) → IsLive (forest m.tree) x → moment_at g x ≡ moment_at f x
  moment_n x live = let (k, at) = node_at (forest m.tree) x live in moment_at-is g x k (gains.nodes x k at) ∙ sym (moment_at-is f x k (node_was x k at))

  -- ---- where a premise is added, nothing leaves

  occurs_on : IsAddition edit → (x : Moment) → Occurs old x → Occurs new x
  occurs_on (p, is) x h =
      subst (λ (a : Edit). Occurs (next_list old a) x) (sym is) (occurs_still old p sound_old (subst (λ (a : Edit). IsSound (next_list old a)) is sound_new) x h)

  node_on : IsAddition edit → (x : ℕ) (k : Member) → member f x ≡ Some k → member (forest m.tree) x ≡ Some k
  node_on add x k at = node_stays x k at (occurs_on add (moment k) (fit_b.tree.seen.members x k at).occurs)

  none_before : IsAddition edit → (x : ℕ) → member (forest m.tree) x ≡ None → member f x ≡ None
  none_before add x none = elim (some_or_none (member f x)) [
    | inl is ↦ is
    | inr (k, at) ↦ absurd (none_some k (sym none ∙ node_on add x k at))
  ]

  row_on : IsAddition edit → (i : ℕ) (row : TableRow Pair 8) → (table_of b.decisions).row i ≡ Some row → (table_of m.decisions).row i ≡ Some row
  row_on add i row at =
      let t = row.value.trigger in
      let (k, here) = node_at f t (fit_b.events i row at) in
      let left = cleared.nodes t k here (occurs_on add (moment k) (fit_b.tree.seen.members t k here).occurs) in
      let is_f = moment_at-is f t k here in
      let is_e = moment_at-is (forest e.tree) t k left in
      let stands = (current.rows_are.own i (seen_row b i row) (row_there b i row at)).1 in
      let effect : Occurs old (After (moment k) (rule_in b.decisions row)) = ((fit_b.tree.seen.members t k here).occurs, subst (λ z. Contains (rules_at old z) (rule_in b.decisions row)) is_f stands) in
      row_is i row (cleared.rows i row at (live_at (forest e.tree) t k left)
      (subst (λ z. Contains (rules_at new z) (rule_in b.decisions row)) (sym is_e) (occurs_on add (After (moment k) (rule_in b.decisions row)) effect).1))

  free_before : IsAddition edit → (i : ℕ) → (table_of m.decisions).row i ≡ None → (table_of b.decisions).row i ≡ None
  free_before add i free = elim (some_or_none ((table_of b.decisions).row i)) [
    | inl is ↦ is
    | inr (row, at) ↦ absurd (none_some row (sym free ∙ row_on add i row at))
  ]

  -- a node of n that was one before is one of m
  live_m : (x : ℕ) → IsLive f x → IsLive g x → IsLive (forest m.tree) x
  live_m x before_ now =
      let (k, here) = node_at g x now in
      let (o, there) = node_at f x before_ in
      elim (gains.own_nodes x k here) [
        | inl at ↦ live_at (forest m.tree) x k at
        | inr (add, none, _) ↦ absurd (none_some o (sym (none_before add x none) ∙ there))
      ]

  -- ---- the nodes

  nodes_begin : NodesBegin (next_list old edit) (forest b.tree) (forest n.tree)
  nodes_begin = record {
    stay = λ x k at occurs. gains.nodes x k (node_stays x k at occurs);
    own = λ x k at. elim (gains.own_nodes x k at) [
      | inl there ↦ inl (node_was x k there)
      | inr (add, none, root) ↦ inr (none_before add x none, root)
    ];
    rooted = λ p at. elim (gains.rooted (At p) at) [
      | inl stood ↦ (
          let (x, k, there, is) = current.holds.all (At p) ((believed_right old sound_old (At p)).1 stood) in
          (x, k, gains.nodes x k (node_stays x k there (subst (Occurs new) (sym is) at)), is))
      | inr entered ↦ entered
    ];
  }

  -- ---- the rows

  -- a row of n is one of before, that may wait, or is new
  from : (i : ℕ) (q : Row) → rows_of n i ≡ Some q → BeginsFrom (rows_of b) i q
  from i q at = let (row, there, is) = row_of n i q at in by row there is (gains.own_rows i row there)
    where
      by : (row : TableRow Pair 8) → (table_of n.decisions).row i ≡ Some row → q ≡ seen_row n i row
          → ((table_of m.decisions).row i ≡ Some row) ⊎ IsFresh old new edit m n i row → BeginsFrom (rows_of b) i q
      by row there is (inl at_m) = was (seen_row b i row) (row_there b i row (row_was i row at_m)) (is ∙ kept (name_n i row at_m) (sym (ap (λ (z : Row). z.waits) is)))
        where
          kept : rule_in n.decisions row ≡ rule_in b.decisions row → waits_in n.decisions.waiting i ≡ q.waits → seen_row n i row ≡ record (seen_row b i row) { waits = q.waits }
          kept named waits = λ j. record { trigger = row.value.trigger; rule = named j; found = row.value.decision; waits = waits j }
      by row there is (inr fresh) =
          is_new (ap (option_map (seen_row b i)) (free_before fresh.addition i fresh.free)) none (ap (λ (z : Row). z.found) is ∙ fresh.undecided) (ap (λ (z : Row). z.waits) is ∙ fresh.waits)
        where
          none : HasNoRow (rows_of b) q.trigger q.rule
          none = λ j o at_o trigger rule.
              let (other, other_at, is_o) = row_of b j o at_o in
              let same_trigger : other.value.trigger ≡ row.value.trigger = ap (λ (z : Row). z.trigger) (sym is_o) ∙ trigger ∙ ap (λ (z : Row). z.trigger) is in
              let same_rule : rule_in b.decisions other ≡ rule_in n.decisions row = ap (λ (z : Row). z.rule) (sym is_o) ∙ rule ∙ ap (λ (z : Row). z.rule) is in
              let live = fit_m.events j other (row_on fresh.addition j other other_at) in
              elim fresh.is_new [
                | inl dead ↦ dead (subst (IsLive (forest m.tree)) same_trigger live)
                | inr stood_not ↦ (
                    let stood = (current.rows_are.own j (seen_row b j other) (row_there b j other other_at)).1 in
                    let event = sym (moment_n other.value.trigger live) ∙ ap (moment_at g) same_trigger in
                    stood_not (subst (λ z. Contains (rules_at old z) (rule_in n.decisions row)) event (subst (Contains (rules_at old (moment_at f other.value.trigger))) same_rule stood)))
              ]

  own_at : (i : ℕ) (row : TableRow Pair 8) → (table_of n.decisions).row i ≡ Some row → Contains (rules_at new (moment_at g row.value.trigger)) (rule_in n.decisions row)
  own_at i row there = elim (gains.own_rows i row there) [
    | inr fresh ↦ fresh.stands
    | inl at_m ↦ (
        let t = row.value.trigger in
        let at_e = row_left i row at_m in
        let (k, here) = node_at (forest e.tree) t (sheds.thins.events i row at_e) in
        let event = moment_at-is (forest e.tree) t k here ∙ sym (moment_at-is g t k (gains.nodes t k (same t ∙ here))) in
        let named : rule_in e.decisions row ≡ rule_in n.decisions row = ap (λ l. name_in l row.value.rule) (sym marks.rules) ∙ sym (gains.names i row at_m) in
        subst (λ z. Contains (rules_at new z) (rule_in n.decisions row)) event (subst (Contains (rules_at new (moment_at (forest e.tree) t))) named (cleared.stand i row at_e)))
  ]

  own : (i : ℕ) (q : Row) → rows_of n i ≡ Some q → IsLive g q.trigger × Contains (rules_at new (moment_at g q.trigger)) q.rule
  own i q at =
      let (row, there, is) = row_of n i q at in (
        subst (λ (z : Row). IsLive g z.trigger) (sym is) (fit_n.events i row there),
        subst (λ (z : Row). Contains (rules_at new (moment_at g z.trigger)) z.rule) (sym is) (own_at i row there),
      )

  stay : (i : ℕ) (o : Row) → rows_of b i ≡ Some o → IsLive g o.trigger → Contains (rules_at new (moment_at g o.trigger)) o.rule → IsSome (rows_of n i)
  stay i o at live stands =
      let (row, there, is) = row_of b i o at in
      let t = row.value.trigger in
      let now = live_m t (fit_b.events i row there) (subst (λ (z : Row). IsLive g z.trigger) is live) in
      let (k, here) = node_at (forest m.tree) t now in
      let left : member (forest e.tree) t ≡ Some k = sym (same t) ∙ here in
      let event = moment_at-is g t k (gains.nodes t k here) ∙ sym (moment_at-is (forest e.tree) t k left) in
      let stands_e = subst (λ z. Contains (rules_at new z) (rule_in b.decisions row)) event (subst (λ (z : Row). Contains (rules_at new (moment_at g z.trigger)) z.rule) is stands) in
      let at_n = gains.rows i row (row_is i row (cleared.rows i row there (live_at (forest e.tree) t k left) stands_e)) in
      ap (λ (z : Option Row). is_some z) (row_there n i row at_n)

  each : (x : ℕ) (rule : List ℕ) → IsLive g x → Contains (rules_at new (moment_at g x)) rule → HasNoRow (rows_of b) x rule → HasRow (rows_of n) x rule
  each x rule live stands none = elim (gains.all x rule live stands) [
    | inl has ↦ has
    | inr (there, stood) ↦ (
        let (k, at) = node_at (forest m.tree) x there in
        let (i, q, q_at, trigger, named) = current.rows_are.each x rule (live_at f x k (node_was x k at)) (subst (λ z. Contains (rules_at old z) rule) (moment_n x there) stood) in
        absurd (none i q q_at trigger named))
  ]

  none_m : (i : ℕ) → rows_of b i ≡ None → (table_of m.decisions).row i ≡ None
  none_m i none = elim (some_or_none ((table_of m.decisions).row i)) [
    | inl is ↦ is
    | inr (row, at) ↦ absurd (none_some (seen_row b i row) (sym none ∙ row_there b i row (row_was i row at)))
  ]

  rows_begin : RowsBegin (next_list old edit) (forest n.tree) (rows_of b) (rows_of n)
  rows_begin = record {
    from = from;
    own = own;
    stay = stay;
    all = each;
    apart = λ i j q o at_q at_o none_q none_o trigger rule.
        let (row, there, is) = row_of n i q at_q in
        let (other, there_o, is_o) = row_of n j o at_o in
        gains.apart i j row other there there_o (none_m i none_q) (none_m j none_o)
        (ap (λ (z : Row). z.trigger) (sym is) ∙ trigger ∙ ap (λ (z : Row). z.trigger) is_o) (ap (λ (z : Row). z.rule) (sym is) ∙ rule ∙ ap (λ (z : Row). z.rule) is_o);
  }

  -- ---- marks

  -- no event is before 0
  late : (i : ℕ) (row : TableRow Pair 8) → (table_of e.decisions).row i ≡ Some row → pos 0 ≤ℤ early (present m.tree) row.value.trigger
  late i row at =
      let live = fit_m.events i row (row_is i row at) in
      subst (λ z. pos 0 ≤ℤ z) (sym (date_is new net m fit_m row.value.trigger live))
      ((sound_timed new sound_new).not_before_start (moment_at (forest m.tree) row.value.trigger) (occurs_at new net (forest m.tree) fit_m.tree.seen row.value.trigger live))

  -- a row by the classes of the list before, under the numbers of m
  under_m : (i : ℕ) (row : TableRow Pair 8) → (table_of e.decisions).row i ≡ Some row → IsUnderClasses old (name_in m.decisions.rules) (place_in m.decisions.classes) row
  under_m i row at =
      let under = under_less b e sheds.thins old fit_b.under in
      under_more old e.decisions.rules m.decisions.rules e.decisions.classes m.decisions.classes row (subst (HaveMore e.decisions.rules) (sym marks.rules) (no_more e.decisions.rules)) marks.more
      (under.named i row at) (under.classes i row at)

  -- a row watched a node that left exactly where it is on a list of its class, or its rule read
  -- what contradicts it
  listed_m : (x i k : ℕ) (z : Member) (class : List ℕ) (row : TableRow Pair 8) → member f x ≡ Some z → z.class ≡ Some class → place_in m.decisions.classes class ≡ Some k
      → (table_of e.decisions).row i ≡ Some row → (watches old (rule_in m.decisions row) (moment z) ≡ true) ↔ (IsListedUnder (table_of e.decisions) k i ⊎ (reads_rival old (rule_in m.decisions row) z.what ≡ true))
  listed_m x i k z class row at is number here =
      readers_listed old before.names z e.decisions.rows (name_in m.decisions.rules) (place_in m.decisions.classes) class k i row
      (fit_b.tree.seen.members x z at) is number (are_numbered m.decisions.classes) marks.listed here (under_m i row here)

  -- it is on the list where its rule reads the class
  class_listed_m : (i k : ℕ) (class : List ℕ) (row : TableRow Pair 8) → place_in m.decisions.classes class ≡ Some k → (table_of e.decisions).row i ≡ Some row
      → reads_class old (rule_in m.decisions row) class ≡ true → IsListedUnder (table_of e.decisions) k i
  class_listed_m i k class row number here reads =
      (class_listed old e.decisions.rows (name_in m.decisions.rules) (place_in m.decisions.classes) class k i row number (are_numbered m.decisions.classes) marks.listed here (under_m i row here)).0 reads

  name_me : (row : TableRow Pair 8) → rule_in m.decisions row ≡ rule_in e.decisions row
  name_me row = ap (λ l. name_in l row.value.rule) marks.rules

  -- what is read has a class
  class_there : (x : ℕ) (z : Member) (rule : List ℕ) → member f x ≡ Some z → watches old rule (moment z) ≡ true → (class : List ℕ) × (z.class ≡ Some class)
  class_there x z rule at reads = by z.class refl
    where
      by : (o : Option (List ℕ)) → z.class ≡ o → (class : List ℕ) × (z.class ≡ Some class)
      by (Some class) is = (class, is)
      by None is = absurd (let never : false ≡ true = sym (unread old before.names z rule (fit_b.tree.seen.members x z at) is) ∙ reads in cc)

  gone_e : (x : ℕ) (z : Member) → member f x ≡ Some z → member g x ≡ None → HasLeft b.tree e.tree x z
  gone_e x z at none = record {
    was = at;
    gone = elim (some_or_none (member (forest e.tree) x)) [
      | inl is ↦ is
      | inr (k, there) ↦ absurd (none_some k (sym none ∙ gains.nodes x k (same x ∙ there)))
    ];
  }

  gone_n : (x : ℕ) (z : Member) → HasLeft b.tree e.tree x z → member g x ≡ None
  gone_n x z left = elim (some_or_none (member g x)) [
    | inl is ↦ is
    | inr (k, there) ↦ elim (gains.own_nodes x k there) [
      | inl at_m ↦ absurd (none_some k (sym left.gone ∙ sym (same x) ∙ at_m))
      | inr (add, _, _) ↦ absurd (none_some z (sym left.gone ∙ sym (same x) ∙ node_on add x z left.was))
    ]
  ]

  -- what begins to wait in m watched what left, or reads what contradicts it
  waits_left : (i : ℕ) (row : TableRow Pair 8) → (table_of m.decisions).row i ≡ Some row → waits_in m.decisions.waiting i ≡ true
      → (x : ℕ) × (z : Member) × (member f x ≡ Some z) × (member g x ≡ None) × IsLeftFrom old (next_list old edit) (rule_in m.decisions row) z
  waits_left i row at waits = elim (marks.wakes.only i) [
    | inl same_date ↦ absurd (let never : false ≡ true = sym (ap is_some (same_date ∙ rests_e i)) ∙ waits in cc)
    | inr (other, there, asks, _) ↦ elim asks [
      | inl (class, k, noted, number, listed) ↦ elim (sheds.notes.own class noted) [
        | inl none ↦ absurd none
        | inr (x, z, left, is) ↦ (x, z, left.was, gone_n x z left, inl ((listed_m x i k z class row left.was is number (row_left i row at)).1 (inl listed)))
      ]
      | inr (fact, noted, rival) ↦ elim (sheds.facts.own fact noted) [
        | inl none ↦ absurd none
        | inr (x, z, left, is) ↦ (
            let (class, of, what) = fact_parts z fact is in
            let one = one_row (table_of e.decisions) i other row there (row_left i row at) in
            let named : rule_in e.decisions other ≡ rule_in m.decisions row = ap (rule_in e.decisions) one ∙ sym (name_me row) in
            (x, z, left.was, gone_n x z left, inr (class, of, subst (λ w. reads_rival new (rule_in m.decisions row) w ≡ true) (sym what) (subst (λ r. reads_rival new r fact ≡ true) named rival))))
      ]
    ]
  ]
    where
      rests_e : (j : ℕ) → dates_in e.decisions.waiting j ≡ None
      rests_e j = sheds.thins.rests j (none_waits j)
        where
          none_waits : (j : ℕ) → dates_in b.decisions.waiting j ≡ None
          none_waits j = elim (some_or_none (dates_in b.decisions.waiting j)) [
            | inl is ↦ is
            | inr (date, is) ↦ (
                let (o, o_at, _) = fit_b.dated j date is in
                absurd (current.none_waits j (seen_row b j o) (row_there b j o o_at) (ap is_some is)))
          ]

  waits : WaitForMoved old (next_list old edit) before (forest b.tree) (forest n.tree) (rows_of b) (rows_of n)
  waits = record {
    left = λ i x q z at was_at none stay_so reads.
        let (row, there, is) = row_of n i q at in
        elim (by_left i x row z there was_at none (subst (λ (w : Row). RivalsStay old (next_list old edit) w.rule) is stay_so) (subst (λ (w : Row). watches old w.rule (moment z) ≡ true) is reads)) [
          | inl waiting ↦ inl (ap (λ (w : Row). w.waits) is ∙ waiting)
          | inr idle ↦ inr (subst (λ (w : Row). BoreOnNone old (next_list old edit) before (forest b.tree) (forest n.tree) z w.trigger) (sym is) idle)
        ];
    entered = λ i x q z at none now reads.
        let (row, there, is) = row_of n i q at in
        ap (λ (w : Row). w.waits) is ∙ gains.waits_new i x row z there (not_m x none) now (subst (λ (w : Row). watches new w.rule (moment z) ≡ true) is reads);
    only = λ i q at waiting.
        let (row, there, is) = row_of n i q at in
        elim (gains.own_rows i row there) [
          | inr fresh ↦ inl (ap (option_map (seen_row b i)) (free_before fresh.addition i fresh.free))
          | inl at_m ↦ elim (gains.waits i row at_m (ap (λ (w : Row). w.waits) (sym is) ∙ waiting)) [
            | inl waited ↦ (
                let (x, z, was_at, gone, reads) = waits_left i row at_m waited in
                inr (inl (
                  x,
                  z,
                  was_at,
                  gone,
                  subst (λ (w : Row). IsLeftFrom old (next_list old edit) w.rule z) (sym is)
                      (subst (λ r. IsLeftFrom old (next_list old edit) r z) (sym (gains.names i row at_m)) reads),
                )))
            | inr (x, z, none, now, reads) ↦ inr (inr (x, z, fresh_node x z none now, now, subst (λ (w : Row). watches new w.rule (moment z) ≡ true) (sym is) reads))
          ]
        ];
  }
    where
      by_left : (i x : ℕ) (row : TableRow Pair 8) (z : Member) → (table_of n.decisions).row i ≡ Some row → member f x ≡ Some z → member g x ≡ None
          → RivalsStay old (next_list old edit) (rule_in n.decisions row) → watches old (rule_in n.decisions row) (moment z) ≡ true
          → (waits_in n.decisions.waiting i ≡ true) ⊎ BoreOnNone old (next_list old edit) before (forest b.tree) (forest n.tree) z row.value.trigger
      by_left i x row z there was_at none stay_so reads = elim (gains.own_rows i row there) [
        | inr fresh ↦ inl fresh.waits
        | inl at_m ↦ (
            let (class, is) = class_there x z (rule_in n.decisions row) was_at reads in
            let left = gone_e x z was_at none in
            let at_e = row_left i row at_m in
            elim (marks.wakes.rests i row at_e) [
              | inl waiting ↦ inl (gains.waits_on i row at_m waiting)
              | inr (rests, apart) ↦ elim (asked i x row z there at_m was_at left class is stay_so reads) [
                | inl (k, number, listed) ↦ inr (
                    let (plain, bore) = rests (late i row at_e) (the_gone z class) k (sheds.tokens.all x z (the_gone z class) left (gone_noted z class is)) number listed in
                    (plain, left_spared before f g (forest m.tree) node_was gains.nodes x z class was_at is row.value.trigger (fit_m.events i row at_m) bore))
                | inr rival ↦ absurd (apart rival (late i row at_e))
              ]
            ])
      ]
        where
          -- it is on a list of a class that is noted, or its rule reads what contradicts a fact
          -- that is
          asked : (i x : ℕ) (row : TableRow Pair 8) (z : Member) → (table_of n.decisions).row i ≡ Some row → (table_of m.decisions).row i ≡ Some row → member f x ≡ Some z → HasLeft b.tree e.tree x z
              → (class : List ℕ) → z.class ≡ Some class → RivalsStay old (next_list old edit) (rule_in n.decisions row) → watches old (rule_in n.decisions row) (moment z) ≡ true
              → ((k : ℕ) × (place_in m.decisions.classes class ≡ Some k) × IsListedUnder (table_of e.decisions) k i) ⊎ ReadsRivalOf (next_list old edit) (rule_in e.decisions row) all.facts
          asked i x row z there at_m was_at left class is stay_so reads =
              let (k, number) = marks.numbered (the_gone z class) (sheds.tokens.all x z (the_gone z class) left (gone_noted z class is)) in
              let at_e = row_left i row at_m in
              let named = gains.names i row at_m in
              elim ((listed_m x i k z class row was_at is number at_e).0 (subst (λ r. watches old r (moment z) ≡ true) named reads)) [
                | inl listed ↦ inl (k, number, listed)
                | inr rival ↦ (
                    let t = row.value.trigger in
                    let live = fit_m.events i row at_m in
                    let stood = (current.rows_are.own i (seen_row b i row) (row_there b i row (row_was i row at_m))).1 in
                    let before_n : Contains (rules_at old (moment_at g t)) (rule_in n.decisions row) =
                    subst (λ u. Contains (rules_at old u) (rule_in n.decisions row)) (sym (moment_n t live)) (subst (Contains (rules_at old (moment_at f t))) (sym (name_n i row at_m)) stood) in
                    elim (read_now old edit sound_old sound_new (moment_at g t) (rule_in n.decisions row) before_n (own_at i row there) stay_so before.names z class (fit_b.tree.seen.members x z was_at) is
                    (subst (λ r. reads_rival old r z.what ≡ true) (sym named) rival)) [
                      | inl of_class ↦ inl (k, number, class_listed_m i k class row number at_e (subst (λ r. reads_class old r class ≡ true) named of_class))
                      | inr now ↦ inr (
                        z.what,
                        sheds.facts.all x z z.what left (ap (option_map (λ _. z.what)) is),
                        subst (λ r. reads_rival new r z.what ≡ true) (named ∙ name_me row) now,
                      )
                    ])
              ]

      not_m : (x : ℕ) → member f x ≡ None → member (forest m.tree) x ≡ None
      not_m x none = elim (some_or_none (member (forest m.tree) x)) [
        | inl is ↦ is
        | inr (k, at) ↦ absurd (none_some k (sym none ∙ node_was x k at))
      ]

      fresh_node : (x : ℕ) (z : Member) → member (forest m.tree) x ≡ None → member g x ≡ Some z → member f x ≡ None
      fresh_node x z none now = elim (gains.own_nodes x z now) [
        | inl at_m ↦ absurd (none_some z (sym none ∙ at_m))
        | inr (add, _, _) ↦ none_before add x none
      ]

  pub gained_ready : IsReady old (next_list old edit) before net (forest b.tree) (forest n.tree) (rows_of b) (rows_of n)
  gained_ready = record { seen = fit_n.tree.seen; nodes_begin = nodes_begin; rows_begin = rows_begin; waits = waits }
