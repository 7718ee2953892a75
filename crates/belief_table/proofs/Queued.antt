-- Rows that wait, and the entries of a queue.
use Rattle.std.proofs.Common.{◌≡◌, ◌≢◌, ℕ, ◌<◌, List, ◌∷◌, length, Option, Some, None, slice_set, get_or-set_same, get_or-set_other, true, false, refl, sym, ap, subst, ◌∙◌, inl, inr}
use Rattle.std.proofs.lemmas.Bool.{cases_eq}
use Rattle.std.proofs.lemmas.Bool.Decides.{Decides-int_eq}
use Rattle.std.specs.Int.Signed.{≤ℤ_refl}
use Rattle.std.specs.Option.{option_eq}
use Rattle.std.specs.Ordering.{int_eq}
use Rattle.std.specs.Prelude.{ℤ, ◌≤ℤ◌, ◌⊎◌}
use Rattle.std.specs.List.{All}
use Rattle.std.specs.List.Sorted.{IsPermutation}
use Rattle.std.proofs.lemmas.List.Sorted.{Contains-permutation}
use Rattle.list_theory.proofs.Elements.{In, In-from_Contains, Contains-from_In}
use Rattle.belief_table.specs.declared.waiting.Entry.{Entry}
use Rattle.belief_table.specs.Waiting.{Dates, dates_in, AreQueued, Puts, Takes}

In_moved : (xs ys : List Entry) (e : Entry) → IsPermutation xs ys → In e xs → In e ys
In_moved xs ys e moved at = In-from_Contains ys e (Contains-permutation xs ys e moved (Contains-from_In xs e at))

-- ---- dates at places

pub dates_set : (dates : List (Option ℤ)) (i : ℕ) (date : Option ℤ) → i < length dates → Puts (dates_in dates) (dates_in (slice_set dates i date)) i date
dates_set dates i date within = record {
  at = get_or-set_same dates i date None within;
  others = λ j other. get_or-set_other dates i j date None other;
}

-- ---- the queue

-- a row waits for another date, which has an entry
pub queued_more : (old new : Dates) (entries more : List Entry) (e : Entry) → AreQueued old entries → IsPermutation (e ∷ entries) more
    → Puts old new e.row (Some e.early.0) → AreQueued new more
queued_more old new entries more e queued moved puts i date at = by (cases_eq i e.row)
  where
    by : ((i ≡ e.row) ⊎ (i ≢ e.row)) → (o : Entry) × In o more × (o.row ≡ i) × (o.early.0 ≡ date)
    by (inl is) = (e, In_moved (e ∷ entries) more e moved (inl refl), sym is, let same : Some e.early.0 ≡ Some date = sym puts.at ∙ ap new (sym is) ∙ at in cc)
    by (inr other) = let (o, there, row, early) = queued i date (sym (puts.others i other) ∙ at) in (o, In_moved (e ∷ entries) more o moved (inr there), row, early)

-- an entry for which no row waits is no loss
pub queued_rest : (dates : Dates) (entries rest : List Entry) (e : Entry) → AreQueued dates entries → IsPermutation entries (e ∷ rest)
    → (dates e.row ≡ Some e.early.0 → ⊥) → AreQueued dates rest
queued_rest dates entries rest e queued moved stale i date at = let (o, there, row, early) = queued i date at in by o row early (In_moved entries (e ∷ rest) o moved there)
  where
    by : (o : Entry) → o.row ≡ i → o.early.0 ≡ date → In o (e ∷ rest) → (p : Entry) × In p rest × (p.row ≡ i) × (p.early.0 ≡ date)
    by o row early (inl is) = absurd (stale (ap (λ y. dates y.row) is ∙ ap dates row ∙ at ∙ sym (ap (λ d. Some d) early) ∙ ap (λ y. Some y.early.0) (sym is)))
    by o row early (inr there) = (o, there, row, early)

-- nor is one whose row waits no more
pub queued_less : (old new : Dates) (entries rest : List Entry) (e : Entry) → AreQueued old entries → IsPermutation entries (e ∷ rest)
    → Puts old new e.row None → AreQueued new rest
queued_less old new entries rest e queued moved puts i date at = by (cases_eq i e.row)
  where
    by : ((i ≡ e.row) ⊎ (i ≢ e.row)) → (o : Entry) × In o rest × (o.row ≡ i) × (o.early.0 ≡ date)
    by (inl is) = absurd (let none : Some date ≡ None = sym at ∙ ap new is ∙ puts.at in cc)
    by (inr other) = let (o, there, row, early) = queued i date (sym (puts.others i other) ∙ at) in found o row early (In_moved entries (e ∷ rest) o moved there)
      where
        found : (o : Entry) → o.row ≡ i → o.early.0 ≡ date → In o (e ∷ rest) → (p : Entry) × In p rest × (p.row ≡ i) × (p.early.0 ≡ date)
        found o row early (inl is) = absurd (other (sym row ∙ ap (λ y. y.row) (sym is)))
        found o row early (inr there) = (o, there, row, early)

-- the first entry whose row waits for its date is of a row that waits first
pub first_taken : (old new : Dates) (entries rest : List Entry) (e : Entry) → AreQueued old entries → IsPermutation entries (e ∷ rest)
    → All (λ o. e.early.0 ≤ℤ o.early.0) rest → old e.row ≡ Some e.early.0 → Puts old new e.row None → Takes old new e.row e.early.0
first_taken old new entries rest e queued moved least waited puts = record { waited = waited; least = first; puts = puts }
  where
    at_most : (xs : List Entry) → All (λ o. e.early.0 ≤ℤ o.early.0) xs → (o : Entry) → In o xs → e.early.0 ≤ℤ o.early.0
    at_most xs all o there = let (k, lt, is) = Contains-from_In xs o there in subst (λ z. e.early.0 ≤ℤ z.early.0) is (all k o lt)

    first : (j : ℕ) (other : ℤ) → old j ≡ Some other → e.early.0 ≤ℤ other
    first j other at = let (o, there, row, early) = queued j other at in by o early (In_moved entries (e ∷ rest) o moved there)
      where
        by : (o : Entry) → o.early.0 ≡ other → In o (e ∷ rest) → e.early.0 ≤ℤ other
        by o early (inl is) = subst (λ z. e.early.0 ≤ℤ z) (ap (λ y. y.early.0) is ∙ early) (≤ℤ_refl e.early.0)
        by o early (inr there) = subst (λ z. e.early.0 ≤ℤ z) early (at_most rest least o there)

-- ---- dates that are compared

pub told_some : (o : Option ℤ) (z w : ℤ) → w ≡ z → option_eq int_eq o (Some w) ≡ true → o ≡ Some z
told_some None z w is same = absurd (cc)
told_some (Some y) z w is same = ap (λ v. Some v) ((Decides-int_eq y w).0 same ∙ is)

pub told_other : (o : Option ℤ) (z w : ℤ) → w ≡ z → option_eq int_eq o (Some w) ≡ false → o ≡ Some z → ⊥
told_other o z w is differs same = let e : option_eq int_eq o (Some w) ≡ true = ap (λ v. option_eq int_eq v (Some w)) (same ∙ ap (λ v. Some v) (sym is)) ∙ (Decides-int_eq w w).1 refl in cc
