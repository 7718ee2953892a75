-- The rows that read what is marked wait after each step of a turn.
use Rattle.std.proofs.Common.{◌≡◌, ◌≢◌, ◌∙◌, ℕ, Bool, true, false, cond, eqb, List, [], Option, Some, None, refl, sym, ap, subst, inl, inr, ◌⊎◌}
use Rattle.std.proofs.lemmas.Bool.{cases_eq, eq-eqb, ne_eqb}
use Rattle.std.specs.Option.{option_map}
use Rattle.std.specs.Prelude.{ℤ, slice_index_or}
use Rattle.tmm_model.specs.Points.{same_name}
use Rattle.tmm_model.specs.Standing.{Standing}
use Rattle.walk_theory.proofs.Points.{same_name-is, same_name-self}
use Rattle.spots.specs.Forest.{IsLive}
use Rattle.undo_rows.specs.declared.row.Row.{Row as TableRow}
use Rattle.undo_rows.specs.Tables.{Table, AreListed}
use Rattle.decision_rows.specs.Decisions.{Decides, decided as with_found}
use Rattle.decision_rows.specs.declared.row.Decision.{Decision}
use Rattle.decision_rows.specs.declared.row.Pair.{Pair}
use Rattle.occ_tree.specs.Classes.{HaveMore}
use Rattle.occ_tree.specs.Places.{forest}
use Rattle.occ_tree.specs.Standing.{Kept, State, present, early}
use Rattle.joined.specs.Gaps.{reads_rival}
use Rattle.joined.specs.Listed.{IsListedUnder}
use Rattle.belief_table.specs.declared.state.Decisions.{Decisions}
use Rattle.marking.specs.EditMarks.{Marked, no_marks, date_of, later_of, CoversFrom, CoversFact, MarksFrom, MarksFact, ReadsClass}
use Rattle.marking.specs.Covered.{CoverClasses, ReadsRival, Covers}
use Rattle.belief_table.specs.Decided.{table_of, rule_in, AreUnder, AddsRows, DropsRows}
use Rattle.marking.specs.TokenMarks.{MarksRivals}
use Rattle.belief_table.specs.Marks.{HaveEvents, Marks, IsAsLate, WaitsAt}
use Rattle.belief_table.specs.Numbers.{name_in}
use Rattle.belief_table.specs.Waiting.{dates_in, Takes}
use Rattle.marking.proofs.Covered.{AreLive, WaitFrom, IsAsBefore, live_rows, reads_listed, listed_reads, none_covered, covered_on, same_classes, covered_from, covered_marked, covered_taken}
use Rattle.belief_table.proofs.Named.{name_stays}

-- the rows of decisions were not removed
lives : (d : Decisions) → AreLive (table_of d)
lives d i = live_rows (λ x. slice_index_or d.rows.rows x None) i

-- nothing is marked
pub nothing_covered : (list : Standing) (s : State) (d : Decisions) → Covers list s d no_marks
nothing_covered list s d = record {
  classes = none_covered ReadsClass (early s) (table_of d).row (dates_in d.waiting) (dates_in []) (λ class. refl);
  facts = none_covered (ReadsRival list d) (early s) (table_of d).row (dates_in d.waiting) (date_of []) (λ fact. refl);
}

-- ---- from one moment to the next

module _ (list : Standing) (s t : State) (old new : Decisions) (m : Marked) where
  -- each row of the new ones was there and waits as before, or waits for the date of its event, and
  -- rules keep their names
  covers_on : ((i : ℕ) (row : TableRow Pair 8) → (table_of old).row i ≡ Some row → rule_in new row ≡ rule_in old row)
      → ((i : ℕ) (r : TableRow Pair 8) → (table_of new).row i ≡ Some r
      → IsAsBefore (early s) (early t) (table_of old).row (dates_in old.waiting) (dates_in new.waiting) i r ⊎ (dates_in new.waiting i ≡ Some (early t r.value.trigger)))
      → Covers list s old m → Covers list t new m
  covers_on named each covered = record {
    classes = covered_on (early s) (early t) (table_of old).row (table_of new).row (dates_in old.waiting) (dates_in new.waiting) ReadsClass ReadsClass (dates_in m.classes) m.decided
        (λ i r row was heads rule. same_classes r row heads) each covered.classes;
    facts = covered_on (early s) (early t) (table_of old).row (table_of new).row (dates_in old.waiting) (dates_in new.waiting) (ReadsRival list old) (ReadsRival list new) (date_of m.facts) m.decided
        (λ i r row was heads rule fact reads. sym (ap (λ name. reads_rival list name fact) (ap (name_in new.rules) rule ∙ named i row was)) ∙ reads) each covered.facts;
  }

-- ---- where nodes stay

module _ (list : Standing) (s : State) (old new : Decisions) (m : Marked) where
  covered_by : ((i : ℕ) (row : TableRow Pair 8) → (table_of old).row i ≡ Some row → rule_in new row ≡ rule_in old row)
      → ((i : ℕ) (r : TableRow Pair 8) → (table_of new).row i ≡ Some r
      → (((table_of old).row i ≡ Some r) × (dates_in new.waiting i ≡ dates_in old.waiting i)) ⊎ WaitsAt s (dates_in new.waiting) i r)
      → Covers list s old m → Covers list s new m
  covered_by named each = covers_on list s s old new m named
      (λ i r here. elim (each i r here) [
        | inl (was, same) ↦ inl (record { row = r; was = was; heads = refl; rule = refl; date = refl; same = same })
        | inr waits ↦ inr waits
      ])

  -- the rules are numbered as before
  same_names : new.rules ≡ old.rules → (i : ℕ) (row : TableRow Pair 8) → (table_of old).row i ≡ Some row → rule_in new row ≡ rule_in old row
  same_names stay i row at = ap (λ names. name_in names row.value.rule) stay

  -- rows are let wait
  pub marks_covered : (P : ℕ → TableRow Pair 8 → Type 0) → new.rows ≡ old.rows → new.rules ≡ old.rules → Marks s (table_of old) P (dates_in old.waiting) (dates_in new.waiting)
      → Covers list s old m → Covers list s new m
  marks_covered P stay rules marks = covered_by (same_names rules) each
    where
      row_stays : (i : ℕ) → (table_of new).row i ≡ (table_of old).row i
      row_stays i = ap (λ rows. (table_of (record old { rows = rows })).row i) stay

      each : (i : ℕ) (r : TableRow Pair 8) → (table_of new).row i ≡ Some r
          → (((table_of old).row i ≡ Some r) × (dates_in new.waiting i ≡ dates_in old.waiting i)) ⊎ WaitsAt s (dates_in new.waiting) i r
      each i r here = elim (marks.only i) [
        | inl same ↦ inl (sym (row_stays i) ∙ here, same)
        | inr (q, at, p, waits) ↦ (
            let both : Some q ≡ Some r = sym at ∙ sym (row_stays i) ∙ here in
            let one : q ≡ r = cc in
            inr (subst (WaitsAt s (dates_in new.waiting) i) one waits))
      ]

  -- the rows at a node go
  pub dropped_covered : (event : ℕ) → DropsRows event old new → Covers list s old m → Covers list s new m
  dropped_covered event drops = covered_by (same_names drops.rules)
      (λ i r here. elim (drops.each i) [
        | inl same ↦ inl (sym same.row ∙ here, same.waits)
        | inr dropped ↦ absurd (let both : None ≡ Some r = sym dropped.gone ∙ here in cc)
      ])

  -- rows enter at an event
  pub added_covered : (rules : List (List ℕ)) (event : ℕ) (date : ℤ) → date ≡ early s event → AreUnder list old → HaveMore old.rules new.rules → AddsRows rules event date old new
      → Covers list s old m → Covers list s new m
  added_covered rules event date is under more adds = covered_by (λ i row at. name_stays old.rules new.rules row.value.rule more (under.named i row at))
      (λ i r here. elim (adds.each i) [
        | inl same ↦ inl (sym same.row ∙ here, same.waits)
        | inr (q, enters, of) ↦ (
            let both : Some q ≡ Some r = sym enters.there ∙ here in
            let one : q ≡ r = cc in
            inr (subst (WaitsAt s (dates_in new.waiting) i) one (enters.waits ∙ ap Some (is ∙ ap (early s) (sym enters.at_event)))))
      ])

-- ---- a class

-- where marks cover a date, rows on the lists of the class wait from it on with nothing done
pub covered_marks : (s : State) (d : Decisions) (m : Marked) (class : ℕ) (from : ℤ) → AreListed (table_of d) → CoverClasses s d m → CoversFrom m class from
    → Marks s (table_of d) (λ i row. IsListedUnder (table_of d) class i × IsAsLate s from row × (◌≡◌ {A = Bool} false false)) (dates_in d.waiting) (dates_in d.waiting)
covered_marks s d m class from listed covered by = record {
  all = λ i row at (on, late, _).
      covered_from ReadsClass (early s) (table_of d).row (dates_in d.waiting) (dates_in m.classes) m.decided class from covered by i row at (listed_reads (table_of d) listed (lives d) class i row at on) late;
  only = λ i. inl refl;
}

-- a class may be marked once all its rows have been let wait from the date on
pub class_covered : (list : Standing) (s : State) (old new : Decisions) (m after : Marked) (class : ℕ) (from : ℤ) → AreListed (table_of old) → new.rows ≡ old.rows → new.rules ≡ old.rules
    → Marks s (table_of old) (λ i row. IsListedUnder (table_of old) class i × IsAsLate s from row × (◌≡◌ {A = Bool} false false)) (dates_in old.waiting) (dates_in new.waiting)
    → MarksFrom m after class from → Covers list s old m → Covers list s new after
class_covered list s old new m after class from listed stay rules marks marked covered = subst (Covers list s new) (sym marked.stay) (record {
  classes = covered_marked ReadsClass (early s) (table_of new).row (dates_in new.waiting) (dates_in m.classes) (dates_in after.classes) m.decided class from marked.puts.at
      (λ other. others other (cases_eq other class)) wait kept.classes;
  facts = kept.facts;
})
  where
    kept : Covers list s new m
    kept = marks_covered list s old new m (λ i row. IsListedUnder (table_of old) class i × IsAsLate s from row × (◌≡◌ {A = Bool} false false)) stay rules marks covered

    others : (other : ℕ) → (other ≡ class) ⊎ (other ≢ class) → (other ≡ class) ⊎ (dates_in after.classes other ≡ dates_in m.classes other)
    others other (inl same) = inl same
    others other (inr apart) = inr (marked.puts.others other apart)

    row_stays : (i : ℕ) → (table_of old).row i ≡ (table_of new).row i
    row_stays i = ap (λ rows. (table_of (record old { rows = rows })).row i) (sym stay)

    wait : WaitFrom ReadsClass (early s) (table_of new).row (dates_in new.waiting) class from
    wait i r here reads late = let was = row_stays i ∙ here in marks.all i r was (reads_listed (table_of old) listed (lives old) class i r was reads, late, refl)

-- ---- a fact

-- where marks cover a date, all rows wait from it on whose rules read what contradicts the fact
pub covered_rivals : (list : Standing) (s : State) (d : Decisions) (m : Marked) (fact : List ℕ) (from : ℤ) → Covers list s d m → CoversFact m fact from → MarksRivals list s fact from d d
covered_rivals list s d m fact from covered by = record {
  same = refl;
  marks = record {
    all = λ i row at (reads, late). covered_from (ReadsRival list d) (early s) (table_of d).row (dates_in d.waiting) (date_of m.facts) m.decided fact from covered.facts by i row at reads late;
    only = λ i. inl refl;
  };
}

module _ (list : Standing) (s : State) (old new : Decisions) (m : Marked) (fact : List ℕ) (from : ℤ) (marks : MarksRivals list s fact from old new) (covered : Covers list s old m) where
  pub rivals_covered : Covers list s new m
  rivals_covered = marks_covered list s old new m (λ i row. (reads_rival list (rule_in old row) fact ≡ true) × IsAsLate s from row) (ap (λ (d : Decisions). d.rows) marks.same) (ap (λ (d : Decisions). d.rules) marks.same)
      marks.marks covered

  -- a fact may be marked once all rows have been let wait from the date on whose rules read what
  -- contradicts it
  pub fact_covered : (after : Marked) → MarksFact m after fact from → Covers list s new after
  fact_covered after marked = subst (Covers list s new) (sym marked.stay) (record {
    classes = rivals_covered.classes;
    facts = covered_marked (ReadsRival list new) (early s) (table_of new).row (dates_in new.waiting) (date_of m.facts) (date_of after.facts) m.decided fact from marked.at
        (λ other. others other (same_name other fact) refl) wait rivals_covered.facts;
  })
    where
      others : (other : List ℕ) (b : Bool) → same_name other fact ≡ b → (other ≡ fact) ⊎ (date_of after.facts other ≡ date_of m.facts other)
      others other true e = inl (same_name-is other fact e)
      others other false e = inr (marked.others other (λ is. (let no : true ≡ false = sym (same_name-self other) ∙ ap (same_name other) is ∙ e in cc)))

      wait : WaitFrom (ReadsRival list new) (early s) (table_of new).row (dates_in new.waiting) fact from
      wait i r here reads late = marks.marks.all i r (ap (λ (d : Decisions). (table_of d).row i) (sym marks.same) ∙ here)
          (ap (λ (d : Decisions). reads_rival list (rule_in d r) fact) (sym marks.same) ∙ reads, late)

-- ---- where nodes enter or go

-- the dates of the events of rows stay
pub dates_covered : (list : Standing) (old new : State) (d : Decisions) (m : Marked)
    → ((i : ℕ) (r : TableRow Pair 8) → (table_of d).row i ≡ Some r → early new r.value.trigger ≡ early old r.value.trigger) → Covers list old d m → Covers list new d m
dates_covered list old new d m dates = covers_on list old new d d m (λ i row at. refl)
    (λ i r here. inl (record { row = r; was = here; heads = refl; rule = refl; date = dates i r here; same = refl }))

pub entered_covered : (list : Standing) (old new : Kept) (d : Decisions) (m : Marked) → HaveEvents old (table_of d)
    → ((y : ℕ) → IsLive (forest old) y → early (present new) y ≡ early (present old) y) → Covers list (present old) d m → Covers list (present new) d m
entered_covered list old new d m events stay = dates_covered list (present old) (present new) d m (λ i r here. stay r.value.trigger (events i r here))

-- ---- the row that is due first

-- no row waits
pub rest_covered : (list : Standing) (s : State) (old new : Decisions) (m : Marked) → new.rows ≡ old.rows → new.rules ≡ old.rules
    → ((i : ℕ) → dates_in old.waiting i ≡ None) → ((i : ℕ) → dates_in new.waiting i ≡ None) → Covers list s old m → Covers list s new m
rest_covered list s old new m stay rules before after = covered_by list s old new m (same_names list s old new m rules)
    (λ i r here. inl (ap (λ rows. (table_of (record old { rows = rows })).row i) (sym stay) ∙ here, after i ∙ sym (before i)))

-- the row that was due first waits no more and keeps what was decided
pub decided_covered : (list : Standing) (s : State) (old new : Decisions) (m : Marked) (first : ℕ) (date : ℤ) (found : Decision)
    → Takes (dates_in old.waiting) (dates_in new.waiting) first date → Decides old.rows new.rows first found → new.rules ≡ old.rules
    → ((r : TableRow Pair 8) → (table_of old).row first ≡ Some r → date ≡ early s r.value.trigger)
    → Covers list s old m → Covers list s new (record m { decided = later_of m.decided date })
decided_covered list s old new m first date found takes decides rules dated covered =
    covers_on list s s (record old { waiting = new.waiting }) new (record m { decided = later_of m.decided date })
    (λ i row at. ap (λ names. name_in names row.value.rule) rules)
    (λ i r here. inl (was i r here))
    (record {
      classes = covered_taken ReadsClass (early s) (table_of old).row (dates_in old.waiting) (dates_in new.waiting) (dates_in m.classes) m.decided first date takes dated covered.classes;
      facts = covered_taken (ReadsRival list old) (early s) (table_of old).row (dates_in old.waiting) (dates_in new.waiting) (date_of m.facts) m.decided first date takes dated covered.facts;
    })
  where
    of_decided : (o : Option (TableRow Pair 8)) (r : TableRow Pair 8) → option_map (with_found found) o ≡ Some r → (row : TableRow Pair 8) × (o ≡ Some row) × (r ≡ with_found found row)
    of_decided None r e = absurd (cc)
    of_decided (Some row) r e = let same : with_found found row ≡ r = cc in (row, refl, sym same)

    was : (i : ℕ) (r : TableRow Pair 8) → (table_of new).row i ≡ Some r → IsAsBefore (early s) (early s) (table_of old).row (dates_in new.waiting) (dates_in new.waiting) i r
    was i r here = by (cases_eq i first)
      where
        is : (table_of new).row i ≡ cond (eqb i first) (option_map (with_found found) ((table_of old).row first)) ((table_of old).row i)
        is = ap (λ (t : Table Pair 8). t.row i) decides.present_is

        by : (i ≡ first) ⊎ (i ≢ first) → IsAsBefore (early s) (early s) (table_of old).row (dates_in new.waiting) (dates_in new.waiting) i r
        by (inl same) =
            let (row, at, e) = of_decided ((table_of old).row first) r (sym (is ∙ ap (λ b. cond b (option_map (with_found found) ((table_of old).row first)) ((table_of old).row i)) (eq-eqb i first same)) ∙ here) in
            record { row = row; was = ap (table_of old).row same ∙ at; heads = ap (λ (z : TableRow Pair 8). z.heads) e; rule = ap (λ (z : TableRow Pair 8). z.value.rule) e; date = ap (λ (z : TableRow Pair 8). early s z.value.trigger) e; same = refl }
        by (inr apart) = record {
          row = r;
          was = sym (is ∙ ap (λ b. cond b (option_map (with_found found) ((table_of old).row first)) ((table_of old).row i)) (ne_eqb i first apart)) ∙ here;
          heads = refl;
          rule = refl;
          date = refl;
          same = refl;
        }
