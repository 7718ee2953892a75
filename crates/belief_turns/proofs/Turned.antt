-- The row that is due first, decided again.
use Rattle.std.proofs.Common.{◌≡◌, ◌≢◌, ◌∙◌, ℕ, true, cond, List, ◌∷◌, Option, Some, None, refl, sym, ap, subst, inl, inr, ◌⊎◌, ◌<◌, length}
use Rattle.std.proofs.lemmas.Bool.{eq-eqb}
use Rattle.std.proofs.lemmas.Bool.Decides.{eqb_tells}
use Rattle.std.specs.Prelude.{ℤ, ◌≤ℤ◌, is_some}
use Rattle.std.specs.List.{Contains}
use Rattle.std.specs.Option.{option_map}
use Rattle.belief_theory.specs.Outcomes.{outcome}
use Rattle.tmm_model.specs.declared.premise.Edit.{Edit}
use Rattle.tmm_model.specs.Beliefs.{rules_at}
use Rattle.tmm_model.specs.Edits.{next_list}
use Rattle.tmm_model.specs.Maps.{built}
use Rattle.tmm_model.specs.Moments.{Moment, early as date_of}
use Rattle.tmm_model.specs.Standing.{Standing, far_in}
use Rattle.dist_net.specs.Net.{Net}
use Rattle.spots.specs.Forest.{IsLive, moment_at}
use Rattle.spots.proofs.Seen.{early_is}
use Rattle.undo_rows.specs.declared.row.Row.{Row as TableRow}
use Rattle.undo_rows.specs.Changes.{present as table}
use Rattle.undo_rows.specs.Tables.{Table}
use Rattle.decision_rows.specs.Decisions.{decided as with_found}
use Rattle.decision_rows.specs.declared.row.Pair.{Pair}
use Rattle.occ_tree.specs.OfLists.{IsTreeOf}
use Rattle.occ_tree.specs.Places.{forest}
use Rattle.occ_tree.specs.Standing.{Kept, present, early}
use Rattle.revisions.specs.Maps.{revision}
use Rattle.occ_tree.specs.Classes.{place_in}
use Rattle.joined.specs.Listed.{IsUnderClasses}
use Rattle.joined.specs.Kept.{IsKeptBy, WaitsNoMore}
use Rattle.joined.specs.Rows.{Row, as_row, fires_by, decision_of}
use Rattle.joined.specs.Turning.{IsDueFirst, IsFound}
use Rattle.joined.proofs.Kept.{decides_is, kept_on}
use Rattle.belief_turns.specs.declared.deciding.Due.{Due}
use Rattle.belief_table.specs.declared.state.Beliefs.{Beliefs}
use Rattle.belief_table.specs.Decided.{table_of, rule_in}
use Rattle.belief_table.specs.Numbers.{name_in}
use Rattle.belief_turns.specs.Turning.{rows_of, IsFit, IsUnderway, IsRevising, IsDecided}
use Rattle.belief_table.specs.Waiting.{dates_in, waits_in}
use Rattle.belief_table.proofs.Marked.{one_row}

-- ---- rows of a table as rows of a revision

-- the row of a revision that a row of the table is
abbrev pub seen_row : Beliefs → ℕ → TableRow Pair 8 → Row
seen_row b i row = as_row (name_in b.decisions.rules) (waits_in b.decisions.waiting i) row

pub row_there : (b : Beliefs) (i : ℕ) (row : TableRow Pair 8) → (table_of b.decisions).row i ≡ Some row → rows_of b i ≡ Some (seen_row b i row)
row_there b i row at = ap (option_map (seen_row b i)) at

of_row : (b : Beliefs) (i : ℕ) (o : Option (TableRow Pair 8)) (q : Row) → option_map (seen_row b i) o ≡ Some q → (row : TableRow Pair 8) × (o ≡ Some row) × (q ≡ seen_row b i row)
of_row b i None q e = absurd (cc)
of_row b i (Some row) q e = let same : seen_row b i row ≡ q = cc in (row, refl, sym same)

pub row_of : (b : Beliefs) (i : ℕ) (q : Row) → rows_of b i ≡ Some q → (row : TableRow Pair 8) × ((table_of b.decisions).row i ≡ Some row) × (q ≡ seen_row b i row)
row_of b i q at = of_row b i ((table_of b.decisions).row i) q at

date_there : (o : Option ℤ) → is_some o ≡ true → (date : ℤ) × (o ≡ Some date)
date_there None e = absurd (cc)
date_there (Some date) e = (date, refl)

-- ---- dates

module _ (s : Standing) (net : Net) (b : Beliefs) (fit : IsFit s net b) where
  pub date_is : (x : ℕ) → IsLive (forest b.tree) x → early (present b.tree) x ≡ date_of s (far_in s.premises) (moment_at (forest b.tree) x)
  date_is x live = fit.tree.dated x live ∙ early_is s net (forest b.tree) fit.tree.seen x live

  -- a row waits for the date of its event
  pub waits_at : (i : ℕ) (row : TableRow Pair 8) (date : ℤ) → (table_of b.decisions).row i ≡ Some row → dates_in b.decisions.waiting i ≡ Some date
      → date ≡ date_of s (far_in s.premises) (moment_at (forest b.tree) row.value.trigger)
  waits_at i row date at waits =
      let (other, there, is) = fit.dated i date waits in
      let one = one_row (table_of b.decisions) i other row there at in
      is ∙ ap (λ (r : TableRow Pair 8). early (present b.tree) r.value.trigger) one ∙ date_is row.value.trigger (fit.events i row at)

  pub row_waits : (i : ℕ) (q : Row) → rows_of b i ≡ Some q → q.waits ≡ true
      → (date : ℤ) × (dates_in b.decisions.waiting i ≡ Some date) × (date ≡ date_of s (far_in s.premises) (moment_at (forest b.tree) q.trigger))
  row_waits i q at waits =
      let (row, there, is) = row_of b i q at in
      let (date, here) = date_there (dates_in b.decisions.waiting i) (sym (ap (λ (z : Row). z.waits) is) ∙ waits) in
      (date, here, waits_at i row date there here ∙ ap (λ (z : Row). date_of s (far_in s.premises) (moment_at (forest b.tree) z.trigger)) (sym is))

  -- the rule of a row stands at its event
  pub stands_at : IsRevising s net b → (i : ℕ) (row : TableRow Pair 8) → (table_of b.decisions).row i ≡ Some row
      → Contains (rules_at s (moment_at (forest b.tree) row.value.trigger)) (rule_in b.decisions row)
  stands_at rev i row at = subst (λ l. Contains (rules_at l (moment_at (forest b.tree) row.value.trigger)) (rule_in b.decisions row)) rev.list
      (rev.underway.netted.rows_are.own i (seen_row b i row) (row_there b i row at)).1

-- ---- the decision

module _ (s : Standing) (net : Net) (b c : Beliefs) (due : Due) (fit : IsFit s net b) (d : IsDecided s b c due) where
  waits_before : waits_in b.decisions.waiting due.row ≡ true
  waits_before = ap is_some d.takes.waited

  no_more : WaitsNoMore (waits_in b.decisions.waiting) (waits_in c.decisions.waiting) due.row
  no_more = record { gone = ap is_some d.takes.puts.at; others = λ i other. ap is_some (d.takes.puts.others i other) }

  -- the row of each number then
  pub decided_row : (table_of c.decisions).row due.row ≡ Some (with_found due.found d.row)
  decided_row =
      ap (λ (t : Table Pair 8). t.row due.row) d.decides.present_is
      ∙ ap (λ v. cond v (option_map (with_found due.found) ((table_of b.decisions).row due.row)) ((table_of b.decisions).row due.row)) (eq-eqb due.row due.row refl)
      ∙ ap (option_map (with_found due.found)) d.at

  pub other_row : (i : ℕ) → i ≢ due.row → (table_of c.decisions).row i ≡ (table_of b.decisions).row i
  other_row i other = elim (eqb_tells i due.row) [
    | inl same ↦ absurd (other same.1)
    | inr apart ↦
        ap (λ (t : Table Pair 8). t.row i) d.decides.present_is
        ∙ ap (λ v. cond v (option_map (with_found due.found) ((table_of b.decisions).row due.row)) ((table_of b.decisions).row i)) apart.0
  ]

  pub row_cases : (i : ℕ) (r : TableRow Pair 8) → (table_of c.decisions).row i ≡ Some r
      → ((i ≡ due.row) × (r ≡ with_found due.found d.row)) ⊎ ((i ≢ due.row) × ((table_of b.decisions).row i ≡ Some r))
  row_cases i r at = elim (eqb_tells i due.row) [
    | inl same ↦ inl (same.1, one_row (table_of c.decisions) due.row r (with_found due.found d.row) (ap (table_of c.decisions).row (sym same.1) ∙ at) decided_row)
    | inr apart ↦ inr (apart.1, sym (other_row i apart.1) ∙ at)
  ]

  -- what was of a node of b is of one of c
  of_tree : (P : Kept → Type 0) → P b.tree → P c.tree
  of_tree P h = subst P (sym d.tree) h

  -- names are as they were
  abbrev pub Under : List (List ℕ) → List (List ℕ) → TableRow Pair 8 → Type 0
  Under rules classes r = IsUnderClasses s (name_in rules) (place_in classes) r

  under_c : (r : TableRow Pair 8) → Under b.decisions.rules b.decisions.classes r → Under c.decisions.rules c.decisions.classes r
  under_c r u = subst (λ l. Under c.decisions.rules l r) (sym d.classes) (subst (λ l. Under l b.decisions.classes r) (sym d.rules) u)

  named_c : (r : TableRow Pair 8) → r.value.rule < length b.decisions.rules → r.value.rule < length c.decisions.rules
  named_c r less = subst (λ l. r.value.rule < length l) (sym d.rules) less

  found_under : (r : TableRow Pair 8) → Under b.decisions.rules b.decisions.classes r → Under b.decisions.rules b.decisions.classes (with_found due.found r)
  found_under r u = record { classes = u.classes; few = u.few; numbers = u.numbers; heads = u.heads }

  pub fit_decided : IsFit s net c
  fit_decided = record {
    tree = of_tree (IsTreeOf s net) fit.tree;
    events = λ i r at. elim (row_cases i r at) [
      | inl same ↦ of_tree (λ t. IsLive (forest t) r.value.trigger) (subst (λ (z : TableRow Pair 8). IsLive (forest b.tree) z.value.trigger) (sym same.1) (fit.events due.row d.row d.at))
      | inr other ↦ of_tree (λ t. IsLive (forest t) r.value.trigger) (fit.events i r other.1)
    ];
    under = record {
      classes = λ i r at. elim (row_cases i r at) [
        | inl same ↦ subst (Under c.decisions.rules c.decisions.classes) (sym same.1) (under_c (with_found due.found d.row) (found_under d.row (fit.under.classes due.row d.row d.at)))
        | inr other ↦ under_c r (fit.under.classes i r other.1)
      ];
      named = λ i r at. elim (row_cases i r at) [
        | inl same ↦ subst (λ (z : TableRow Pair 8). z.value.rule < length c.decisions.rules) (sym same.1) (named_c d.row (fit.under.named due.row d.row d.at))
        | inr other ↦ named_c r (fit.under.named i r other.1)
      ];
    };
    dated = dated;
  }
    where
      dated : (i : ℕ) (date : ℤ) → dates_in c.decisions.waiting i ≡ Some date → (row : TableRow Pair 8) × ((table_of c.decisions).row i ≡ Some row) × (date ≡ early (present c.tree) row.value.trigger)
      dated i date at = elim (eqb_tells i due.row) [
        | inl same ↦ absurd (let both : None ≡ Some date = sym d.takes.puts.at ∙ ap (dates_in c.decisions.waiting) (sym same.1) ∙ at in cc)
        | inr apart ↦ (
            let (row, there, is) = fit.dated i date (sym (d.takes.puts.others i apart.1) ∙ at) in
            (row, other_row i apart.1 ∙ there, of_tree (λ t. date ≡ early (present t) row.value.trigger) is))
      ]

  -- ---- for a revision

  module _ (old : Standing) (edit : Edit) (taken : List (Moment × List ℕ)) (list : next_list old edit ≡ s) (k : IsUnderway old edit net b taken) where
    pub due_first : IsDueFirst (revision (built old) (built (next_list old edit))) (forest b.tree) (rows_of b) due.row (seen_row b due.row d.row)
    due_first = record { row = row_there b due.row d.row d.at; waits = waits_before; least = least }
      where
        least : (i : ℕ) (q : Row) → rows_of b i ≡ Some q → q.waits ≡ true
            → (revision (built old) (built (next_list old edit))).early (moment_at (forest b.tree) d.row.value.trigger) ≤ℤ (revision (built old) (built (next_list old edit))).early (moment_at (forest b.tree) q.trigger)
        least i q at waits =
            let (date, here, is) = row_waits s net b fit i q at waits in
            let first = waits_at s net b fit due.row d.row d.date d.at d.takes.waited in
            subst (λ l. date_of l (far_in l.premises) (moment_at (forest b.tree) d.row.value.trigger) ≤ℤ date_of l (far_in l.premises) (moment_at (forest b.tree) q.trigger)) (sym list)
            (subst (λ z. z ≤ℤ date_of s (far_in s.premises) (moment_at (forest b.tree) q.trigger)) first (subst (λ z. d.date ≤ℤ z) is (d.takes.least i date here)))

    pub found_right : IsFound (revision (built old) (built (next_list old edit))) (forest b.tree) (seen_row b due.row d.row) due.found
    found_right nodes holds =
        subst (λ l. due.found ≡ decision_of (outcome l (far_in l.premises) nodes (moment_at (forest b.tree) d.row.value.trigger) (rule_in b.decisions d.row))) (sym list)
        (d.right nodes holds ∙ (λ i. decision_of (outcome s (far_in s.premises) nodes (moment_at (forest b.tree) (sym d.trigger i)) (sym d.rule i))))

    -- **Where the rule fires as before, nodes and rows stand for the revision still.**
    pub same_kept : fires_by due.found ≡ fires_by due.before → IsUnderway old edit net c ((moment_at (forest b.tree) due.trigger, due.rule) ∷ taken)
    same_kept alike =
        let as_before : fires_by due.found ≡ fires_by d.row.value.decision = alike ∙ ap fires_by (sym d.before) in
        let is = decides_is b.decisions.rows c.decisions.rows (name_in b.decisions.rules) (waits_in b.decisions.waiting) (waits_in c.decisions.waiting) due.row (seen_row b due.row d.row) due.found due_first.row d.decides no_more in
        let kept = kept_on old edit net (forest b.tree) (table b.decisions.rows) (table c.decisions.rows) (name_in b.decisions.rules) (waits_in b.decisions.waiting) (waits_in c.decisions.waiting) taken due.row (seen_row b due.row d.row) due.found
        k due_first found_right as_before is in
        subst (λ (e : Moment × List ℕ). IsUnderway old edit net c (e ∷ taken)) (λ i. (moment_at (forest b.tree) (d.trigger i), d.rule i))
        (subst (λ t. IsKeptBy old edit net (forest t) (table c.decisions.rows) (name_in c.decisions.rules) (waits_in c.decisions.waiting) ((moment_at (forest b.tree) d.row.value.trigger, rule_in b.decisions d.row) ∷ taken)) (sym d.tree)
        (subst (λ l. IsKeptBy old edit net (forest b.tree) (table c.decisions.rows) (name_in l) (waits_in c.decisions.waiting) ((moment_at (forest b.tree) d.row.value.trigger, rule_in b.decisions d.row) ∷ taken)) (sym d.rules) kept))
