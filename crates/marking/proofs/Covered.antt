-- Rows that read what is marked wait on, and a token of what is marked has nothing to mark.
use Rattle.std.proofs.Common.{◌≡◌, ◌≢◌, ◌∙◌, ℕ, ◌+◌, ◌<◌, Bool, true, false, cond, List, Option, Some, None, refl, sym, ap, subst, inl, inr, arith, ◌⊎◌}
use Rattle.std.proofs.lemmas.Bool.{cases_eq}
use Rattle.std.proofs.lemmas.Int.{ints}
use Rattle.std.specs.Prelude.{ℤ, ◌≤ℤ◌, ◌<ℤ◌, int_lt}
use Rattle.tmm_model.specs.Points.{same_name}
use Rattle.walk_theory.proofs.Points.{names_differ, same_name-self}
use Rattle.row_links.specs.Lists.{IsOn}
use Rattle.undo_rows.specs.declared.row.Row.{Row as TableRow}
use Rattle.undo_rows.specs.Tables.{Table, AreListed, head_of, live}
use Rattle.decision_rows.specs.declared.row.Pair.{Pair}
use Rattle.marking.specs.EditMarks.{Marked, date_of, later_of, IsLater, IsFrom, MarksFact, ReadsClass, AllWait}
use Rattle.belief_table.specs.Waiting.{Dates, Takes}

-- ---- rows on lists

-- a row that was not removed stays so
live_live : (o : Option (TableRow Pair 8)) → live (live o) ≡ live o
live_live None = refl
live_live (Some q) = by q.gone refl
  where
    by : (v : Bool) → q.gone ≡ v → live (cond q.gone None (Some q)) ≡ cond q.gone None (Some q)
    by true gone = ap (λ v. live (cond v None (Some q))) gone ∙ sym (ap (λ v. cond v None (Some q)) gone)
    by false there =
        ap (λ v. live (cond v None (Some q))) there ∙ ap (λ v. cond v None (Some q)) there ∙ sym (ap (λ v. cond v None (Some q)) there)

-- the rows of a table that were not removed
abbrev pub AreLive : Table Pair 8 → Type 0
AreLive t = (i : ℕ) → live (t.row i) ≡ t.row i

pub live_rows : (at : ℕ → Option (TableRow Pair 8)) (i : ℕ) → live (live (at i)) ≡ live (at i)
live_rows at i = live_live (at i)

module _ (t : Table Pair 8) (listed : AreListed t) (lives : AreLive t) (class i : ℕ) (r : TableRow Pair 8) (here : t.row i ≡ Some r) where
  still : live (t.row i) ≡ Some r
  still = lives i ∙ here

  -- a row reads a class exactly where it is on a list of it
  pub reads_listed : ReadsClass r class → (place : ℕ) × (place < 6) × IsOn (t.list (place + 2) class) i
  reads_listed (place, less, head) = (place, less, (listed.each i (place + 2) class).1 (r, still, head))

  pub listed_reads : (place : ℕ) × (place < 6) × IsOn (t.list (place + 2) class) i → ReadsClass r class
  listed_reads (place, less, on) =
      let (q, is, head) = (listed.each i (place + 2) class).0 on in
      let both : Some q ≡ Some r = sym is ∙ still in
      let one : q ≡ r = cc in
      (place, less, subst (λ (z : TableRow Pair 8). head_of z (place + 2) ≡ Some class) one head)

-- ---- none

pub none_covered : {K : Type 0} (Reads : TableRow Pair 8 → K → Type 0) (early_of : ℕ → ℤ) (row_at : ℕ → Option (TableRow Pair 8)) (waits : Dates) (marks : K → Option ℤ)
    → ((key : K) → marks key ≡ None) → AllWait Reads early_of row_at waits marks None
none_covered Reads early_of row_at waits marks none key from i r marked here reads late later = let no : None ≡ Some from = sym (none key) ∙ marked in cc

-- ---- on from one moment to the next

-- the row was there, of the same rule under the same classes, with the date of its event, and waits
-- as before
pub record IsAsBefore (early_of now_early : ℕ → ℤ) (row_at : ℕ → Option (TableRow Pair 8)) (waits now_waits : Dates) (i : ℕ) (r : TableRow Pair 8) : Type 0 where
  pub row : TableRow Pair 8
  pub was : row_at i ≡ Some row
  pub heads : r.heads ≡ row.heads
  pub rule : r.value.rule ≡ row.value.rule
  pub date : now_early r.value.trigger ≡ early_of row.value.trigger
  pub same : now_waits i ≡ waits i

module _ (early_of now_early : ℕ → ℤ) (row_at now_row : ℕ → Option (TableRow Pair 8)) (waits now_waits : Dates) where
  pub covered_on : {K : Type 0} (Reads NowReads : TableRow Pair 8 → K → Type 0) (marks : K → Option ℤ) (decided : Option ℤ)
      → ((i : ℕ) (r row : TableRow Pair 8) → row_at i ≡ Some row → r.heads ≡ row.heads → r.value.rule ≡ row.value.rule → (key : K) → NowReads r key → Reads row key)
      → ((i : ℕ) (r : TableRow Pair 8) → now_row i ≡ Some r → IsAsBefore early_of now_early row_at waits now_waits i r ⊎ (now_waits i ≡ Some (now_early r.value.trigger)))
      → AllWait Reads early_of row_at waits marks decided → AllWait NowReads now_early now_row now_waits marks decided
  covered_on Reads NowReads marks decided read each all key from i r marked here reads late later = by (each i r here)
    where
      by : IsAsBefore early_of now_early row_at waits now_waits i r ⊎ (now_waits i ≡ Some (now_early r.value.trigger)) → now_waits i ≡ Some (now_early r.value.trigger)
      by (inr now) = now
      by (inl b) =
          b.same
          ∙ all key from i b.row marked b.was (read i r b.row b.was b.heads b.rule key reads)
          (subst (λ z. from ≤ℤ z) b.date late) (subst (IsLater decided) b.date later)
          ∙ ap Some (sym b.date)

-- rows under the same classes read the same ones
pub same_classes : (r row : TableRow Pair 8) → r.heads ≡ row.heads → (class : ℕ) → ReadsClass r class → ReadsClass row class
same_classes r row same class (place, less, head) = (place, less, subst (λ heads. head_of (record r { heads = heads }) (place + 2) ≡ Some class) same head)

-- ---- rows that read a key all wait

-- all rows that read it wait, if they are late enough
abbrev pub WaitFrom : {K : Type 0} → (TableRow Pair 8 → K → Type 0) → (ℕ → ℤ) → (ℕ → Option (TableRow Pair 8)) → Dates → K → ℤ → Type 0
WaitFrom Reads early_of row_at waits key from =
    (i : ℕ) (r : TableRow Pair 8) → row_at i ≡ Some r → Reads r key → from ≤ℤ early_of r.value.trigger → waits i ≡ Some (early_of r.value.trigger)

module _ {K : Type 0} (Reads : TableRow Pair 8 → K → Type 0) (early_of : ℕ → ℤ) (row_at : ℕ → Option (TableRow Pair 8)) (waits : Dates) where
  -- where the marks cover the date, nothing is left to mark
  pub covered_from : (marks : K → Option ℤ) (decided : Option ℤ) (key : K) (from : ℤ) → AllWait Reads early_of row_at waits marks decided → IsFrom (marks key) decided from
      → WaitFrom Reads early_of row_at waits key from
  covered_from marks decided key from all ((date, marked, before), later) i r here reads late = all key date i r marked here reads (omega (arith, ints, before, late)) (after decided later)
    where
      after : (latest : Option ℤ) → IsLater latest from → IsLater latest (early_of r.value.trigger)
      after None none = none
      after (Some last) less = omega (arith, ints, less, late)

  -- what all rows wait for that read it may be marked
  pub covered_marked : (old new : K → Option ℤ) (decided : Option ℤ) (key : K) (from : ℤ) → new key ≡ Some from → ((other : K) → (other ≡ key) ⊎ (new other ≡ old other))
      → WaitFrom Reads early_of row_at waits key from → AllWait Reads early_of row_at waits old decided → AllWait Reads early_of row_at waits new decided
  covered_marked old new decided key from at others wait all other date i r marked here reads late later = by (others other)
    where
      by : (other ≡ key) ⊎ (new other ≡ old other) → waits i ≡ Some (early_of r.value.trigger)
      by (inl same) =
          let both : Some from ≡ Some date = sym at ∙ ap new (sym same) ∙ marked in
          let one : from ≡ date = cc in
          wait i r here (subst (Reads r) same reads) (subst (λ z. z ≤ℤ early_of r.value.trigger) (sym one) late)
      by (inr stays) = all other date i r (sym stays ∙ marked) here reads late later

-- a fact put among those that are marked
pub fact_marked : (m : Marked) (facts : List (List ℕ × ℤ)) (fact : List ℕ) (from : ℤ) → ((other : List ℕ) → date_of facts other ≡ cond (same_name fact other) (Some from) (date_of m.facts other))
    → MarksFact m (record m { facts = facts }) fact from
fact_marked m facts fact from put = record {
  at = put fact ∙ ap (λ b. cond b (Some from) (date_of m.facts fact)) (same_name-self fact);
  others = λ other apart. put other ∙ ap (λ b. cond b (Some from) (date_of m.facts other)) (names_differ fact other (λ same. apart (sym same)));
  stay = refl;
}

-- ---- the row that is due first

is_less : (a b : ℤ) → int_lt a b ≡ true → a <ℤ b
is_less a b e = grind (arith, ints)

is_no_less : (a b : ℤ) → int_lt a b ≡ false → b ≤ℤ a
is_no_less a b e = grind (arith, ints)

-- a date that is later than the later of two is later than both
later_both : (latest : Option ℤ) (date z : ℤ) → IsLater (later_of latest date) z → IsLater latest z × (date <ℤ z)
later_both None date z less = (tt, less)
later_both (Some last) date z less = by (int_lt last date) refl
  where
    by : (b : Bool) → int_lt last date ≡ b → (last <ℤ z) × (date <ℤ z)
    by true before =
        let now : date <ℤ z = subst (λ c. cond c date last <ℤ z) before less in
        let first = is_less last date before in
        (omega (arith, ints, first, now), now)
    by false after =
        let now : last <ℤ z = subst (λ c. cond c date last <ℤ z) after less in
        let first = is_no_less last date after in
        (now, omega (arith, ints, first, now))

module _ {K : Type 0} (Reads : TableRow Pair 8 → K → Type 0) (early_of : ℕ → ℤ) (row_at : ℕ → Option (TableRow Pair 8)) (waits now_waits : Dates) where
  -- the row that was due first waits no more, and is noted as decided
  pub covered_taken : (marks : K → Option ℤ) (decided : Option ℤ) (first : ℕ) (date : ℤ) → Takes waits now_waits first date
      → ((r : TableRow Pair 8) → row_at first ≡ Some r → date ≡ early_of r.value.trigger)
      → AllWait Reads early_of row_at waits marks decided → AllWait Reads early_of row_at now_waits marks (later_of decided date)
  covered_taken marks decided first date takes dated all key from i r marked here reads late later = by (cases_eq i first)
    where
      by : (i ≡ first) ⊎ (i ≢ first) → now_waits i ≡ Some (early_of r.value.trigger)
      by (inl same) =
          let is : date ≡ early_of r.value.trigger = dated r (ap row_at (sym same) ∙ here) in
          let less : date <ℤ early_of r.value.trigger = (later_both decided date (early_of r.value.trigger) later).1 in
          absurd (omega (arith, ints, is, less))
      by (inr apart) = takes.puts.others i apart ∙ all key from i r marked here reads late (later_both decided date (early_of r.value.trigger) later).0
