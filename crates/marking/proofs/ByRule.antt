-- Rows that are let wait, one rule after the other; and rules that read nothing of which a premise
-- says that another fact contradicts it.
use Rattle.std.proofs.Common.{◌≡◌, ◌∙◌, ℕ, length, Bool, true, false, not, ◌&&◌, ◌||◌, ◌+◌, ◌<◌, List, [], ◌∷◌, Some, refl, sym, ap, subst, inl, inr, arith, ◌⊎◌, eqb}
use Rattle.std.proofs.lemmas.Bool.{cases_order, cases_Bool}
use Rattle.std.specs.Prelude.{◌↔◌}
use Rattle.std.specs.List.{list_any}
use Rattle.tmm_model.specs.Beliefs.{are_rivals}
use Rattle.tmm_model.specs.Moments.{read_by, rule_of}
use Rattle.tmm_model.specs.Points.{same_name}
use Rattle.tmm_model.specs.Standing.{Standing}
use Rattle.list_theory.proofs.Elements.{In}
use Rattle.premise_list.specs.Rivalries.{rivalries, is_pair_of}
use Rattle.premise_list.proofs.PairsOfFacts.{any_pair}
use Rattle.row_links.specs.Lists.{IsOn}
use Rattle.undo_rows.specs.declared.row.Row.{Row as TableRow}
use Rattle.undo_rows.specs.Changes.{Logged, present as table}
use Rattle.undo_rows.specs.Tables.{Table, AreListed}
use Rattle.decision_rows.specs.declared.row.Pair.{Pair}
use Rattle.occ_tree.specs.Standing.{State, forest}
use Rattle.joined.specs.Gaps.{ReadsNoRival}
use Rattle.joined.proofs.Deciding.{true_false}
use Rattle.bearing.specs.declared.events.Events.{Events}
use Rattle.bearing.specs.declared.what_moved.Moves.{Moves}
use Rattle.belief_table.specs.declared.state.Decisions.{Decisions}
use Rattle.bearing.specs.Events.{is_event_of}
use Rattle.belief_table.specs.ByEvent.{IsOfRuleAt}
use Rattle.belief_table.specs.Decided.{table_of, rule_in, AreUnder}
use Rattle.belief_table.specs.Marks.{Marks, Wakes}
use Rattle.belief_table.specs.Numbers.{name_in}
use Rattle.belief_table.specs.Waiting.{Dates}
use Rattle.marking.specs.Woken.{IsPlainRule, MovesByRule, StaysByRule}
use Rattle.belief_table.proofs.OfRules.{on_rule}
use Rattle.marking.proofs.Waking.{wakes_none, wakes_alike, wakes_both, marks_wake}

-- ---- what premises say

any_false : {X : Type 0} (P : X → Bool) (xs : List X) → ((x : X) → In x xs → P x ≡ false) → list_any P xs ≡ false
any_false P [] none = refl
any_false P (x ∷ xs) none = ap (λ v. v || list_any P xs) (none x (inl refl)) ∙ any_false P xs (λ y at. none y (inr at))

-- a rule reads no rival where no premise says of what it reads that another fact contradicts it
pub reads_none : (s : Standing) (r : List ℕ) → ((f : List ℕ) → In f (read_by (rule_of s r)) → (g : List ℕ) → are_rivals s f g ≡ false) → ReadsNoRival s r
reads_none s r none g = any_false (λ f. are_rivals s f g) (read_by (rule_of s r)) (λ f at. none f at g)

-- where no premise sets facts against each other, none contradicts another one but by its class
pub none_said : (s : Standing) → length (rivalries s.premises) ≡ 0 → (f g : List ℕ) → are_rivals s f g ≡ false
none_said s none f g = ap (λ v. not (same_name f g) && v) (any_pair f g s.premises ∙ by (rivalries s.premises) none) ∙ and_false (not (same_name f g))
  where
    by : (pairs : List (List ℕ × List ℕ)) → length pairs ≡ 0 → list_any (is_pair_of f g) pairs ≡ false
    by [] e = refl
    by (pair ∷ pairs) e = cc

    and_false : (v : Bool) → (v && false) ≡ false
    and_false true = refl
    and_false false = refl

-- ---- the rows of a rule

module _ (s : State) (t : Table Pair 8) (moves : Moves) (before list : Standing) (name : List ℕ) (n : ℕ) where
  abbrev IsHere : ℕ → TableRow Pair 8 → Type 0
  IsHere i row = IsOn (t.list 1 n) i × MovesByRule moves list (forest s) name row.value.trigger

  abbrev StaysHere : ℕ → TableRow Pair 8 → Type 0
  StaysHere i row = IsOn (t.list 1 n) i → StaysByRule moves before list (forest s) name row.value.trigger

  pub plain_stay : IsPlainRule before list name → (dates : Dates)
      → Wakes s t (λ i row. IsOn (t.list 1 n) i × MovesByRule moves list (forest s) name row.value.trigger) (λ i row. IsOn (t.list 1 n) i → StaysByRule moves before list (forest s) name row.value.trigger) dates dates
  plain_stay none dates = wakes_none s t IsHere StaysHere dates (λ i row at. inr (λ on. inl none))

  pub rule_woken : (events : Events) (old new : Dates) → ((x : ℕ) → (is_event_of events s x ≡ true) ↔ MovesByRule moves list (forest s) name x) → Marks s t (IsOfRuleAt t n events s) old new
      → Wakes s t (λ i row. IsOn (t.list 1 n) i × MovesByRule moves list (forest s) name row.value.trigger) (λ i row. IsOn (t.list 1 n) i → StaysByRule moves before list (forest s) name row.value.trigger) old new
  rule_woken events old new touched marks =
      wakes_alike s t (IsOfRuleAt t n events s) StaysHere IsHere StaysHere old new (λ i row at of. (of.0, (touched row.value.trigger).0 of.1)) (λ i row at stays. stays)
      (marks_wake s t (IsOfRuleAt t n events s) StaysHere old new or_stays marks)
    where
      or_stays : (i : ℕ) (row : TableRow Pair 8) → t.row i ≡ Some row → IsOfRuleAt t n events s i row ⊎ (IsOn (t.list 1 n) i → StaysByRule moves before list (forest s) name row.value.trigger)
      or_stays i row at = elim (cases_Bool (is_event_of events s row.value.trigger)) [
        | inr off ↦ inr (λ on. inr (λ m. true_false (sym ((touched row.value.trigger).1 m) ∙ off)))
        | inl on ↦ elim (cases_Bool (list_any (eqb i) (t.list 1 n))) [ inl is ↦ inl (is, on) | inr out ↦ inr (λ is. true_false (sym is ∙ out)) ]
      ]

-- ---- one rule after the other

-- rows that are to wait, and that may rest, by their rules
module _ (list : Standing) (d : Decisions) (under : AreUnder list d) (listed : AreListed (table_of d)) (s : State) (P R : List ℕ → TableRow Pair 8 → Type 0) where
  abbrev Waits : ℕ → TableRow Pair 8 → Type 0
  Waits i row = P (rule_in d row) row

  -- the row may rest, if it is of one of the first n rules
  abbrev pub RestsOfFirst : ℕ → ℕ → TableRow Pair 8 → Type 0
  RestsOfFirst n i row = row.value.rule < n → R (rule_in d row) row

  pub woken_none : (dates : Dates) → Wakes s (table_of d) (λ i row. P (rule_in d row) row) (RestsOfFirst 0) dates dates
  woken_none dates = wakes_none s (table_of d) Waits (RestsOfFirst 0) dates (λ i row at. inr (λ less. absurd (omega (arith, less))))

  pub woken_next : (n : ℕ) (name : List ℕ) (rows : Logged Pair 8) (old mid new : Dates) → name ≡ name_in d.rules n → rows ≡ d.rows
      → Wakes s (table_of d) (λ i row. P (rule_in d row) row) (RestsOfFirst n) old mid
      → Wakes s (table rows) (λ i row. IsOn ((table rows).list 1 n) i × P name row) (λ i row. IsOn ((table rows).list 1 n) i → R name row) mid new
      → Wakes s (table_of d) (λ i row. P (rule_in d row) row) (RestsOfFirst (n + 1)) old new
  woken_next n name rows old mid new is_name same first then_ =
      wakes_both s (table_of d) Waits (RestsOfFirst n)
      (λ i row. IsOn ((table_of d).list 1 n) i × P name row)
      (λ i row. IsOn ((table_of d).list 1 n) i → R name row)
      Waits (RestsOfFirst (n + 1)) old mid new
      (λ i row at p. p)
      (λ i row at (on, p). subst (λ r. P r row) (sym (named row ((on_rule list d under listed i n row at).0 on))) p)
      (λ i row at before here less. elim (cases_order row.value.rule n) [
        | inl is ↦ subst (λ r. R r row) (sym (named row is)) (here ((on_rule list d under listed i n row at).1 is))
        | inr other ↦ elim other [ inl below ↦ before below | inr above ↦ absurd (omega (arith, less, above)) ]
      ])
      first
      (subst (λ rs. Wakes s (table rs) (λ i row. IsOn ((table rs).list 1 n) i × P name row) (λ i row. IsOn ((table rs).list 1 n) i → R name row) mid new) same then_)
    where
      named : (row : TableRow Pair 8) → row.value.rule ≡ n → rule_in d row ≡ name
      named row is = ap (name_in d.rules) is ∙ sym is_name

  -- all rules have been looked at
  pub woken_all : (n : ℕ) (old new : Dates) → ((i : ℕ) (row : TableRow Pair 8) → (table_of d).row i ≡ Some row → row.value.rule < n)
      → Wakes s (table_of d) (λ i row. P (rule_in d row) row) (RestsOfFirst n) old new
      → Wakes s (table_of d) (λ i row. P (rule_in d row) row) (λ i row. R (rule_in d row) row) old new
  woken_all n old new below = wakes_alike s (table_of d) Waits (RestsOfFirst n) Waits (λ i row. R (rule_in d row) row) old new (λ i row at p. p) (λ i row at rests. rests (below i row at))

  -- the rows of each rule may rest
  pub all_rest : ((r : List ℕ) (row : TableRow Pair 8) → R r row) → (dates : Dates) → Wakes s (table_of d) (λ i row. P (rule_in d row) row) (λ i row. R (rule_in d row) row) dates dates
  all_rest rests dates = wakes_none s (table_of d) Waits (λ i row. R (rule_in d row) row) dates (λ i row at. inr (rests (rule_in d row) row))
