-- Numbers in a row and the links between the places of each, when one more stands behind them.
use Rattle.std.proofs.Common.{◌≡◌, ◌≢◌, ℕ, ◌+◌, ◌<◌, ◌⊎◌, inl, inr, ◌++◌, ◌∷◌, ◌∙◌, [], List, Option, None, Some, length, slice_index_or, get_or, length-append, sym, ap, subst, arith}
use Rattle.std.specs.Prelude.{slice_set}
use Rattle.std.proofs.lemmas.Bool.{cases_eq}
use Rattle.std.proofs.lemmas.List.{length-set, get_or_append_left, get_or-set_other, get_or-set_same}
use Rattle.std.proofs.lemmas.List.Elements.{All-push}
use Rattle.std.proofs.Math.Seq.{get_or-append_seam}
use Rattle.dist_repair.specs.Ends.{number_at, IsLastOf, AreLinked}

-- a place below n + 1 is below n, where it is not n
below_last : {j n : ℕ} → j < n + 1 → j ≢ n → j < n
below_last below other = omega (arith, below, other)

-- what is said of the first n numbers is so in each row that begins with them
IsLastOf-same : (xs ys : List ℕ) (p n : ℕ) (o : Option ℕ) → ((j : ℕ) → j < n → number_at ys j ≡ number_at xs j) → IsLastOf xs p n o → IsLastOf ys p n o
IsLastOf-same xs ys p n None same out = λ j below is. out j below (sym (same j below) ∙ is)
IsLastOf-same xs ys p n (Some i) same at = record {
  before = at.before;
  number = same i at.before ∙ at.number;
  last = λ j behind below is. at.last j behind below (sym (same j below) ∙ is);
}

-- one number more that is another one
IsLastOf-step : (xs : List ℕ) (p n : ℕ) (o : Option ℕ) → number_at xs n ≢ p → IsLastOf xs p n o → IsLastOf xs p (n + 1) o
IsLastOf-step xs p n None other out = λ j below is. out j (below_last below (λ e. other (sym (ap (number_at xs) e) ∙ is))) is
IsLastOf-step xs p n (Some i) other at = record {
  before = omega (arith, at.before);
  number = at.number;
  last = λ j behind below is. at.last j behind (below_last below (λ e. other (sym (ap (number_at xs) e) ∙ is))) is;
}

module _ (numbers : List ℕ) (last before : List (Option ℕ)) (p : ℕ) (small : p < 256) (room : length numbers < 4000) (is : AreLinked numbers last before) where
  abbrev now : List ℕ
  now = numbers ++ p ∷ []

  abbrev linked : List (Option ℕ)
  linked = before ++ get_or last p None ∷ []

  same_below : (j : ℕ) → j < length numbers → number_at now j ≡ number_at numbers j
  same_below j below = get_or_append_left numbers (p ∷ []) 256 j below

  newest : number_at now (length numbers) ≡ p
  newest = get_or-append_seam numbers p [] 256

  last_now : (q : ℕ) → q < 256 → (q ≡ p) ⊎ (q ≢ p) → IsLastOf now q (length numbers + 1) (get_or (slice_set last p (Some (length numbers))) q None)
  last_now q in_q (inl same) = subst (λ (r : ℕ). IsLastOf now r (length numbers + 1) (get_or (slice_set last p (Some (length numbers))) r None)) (sym same)
      (subst (IsLastOf now p (length numbers + 1)) (sym (get_or-set_same last p (Some (length numbers)) None (subst (λ (n : ℕ). p < n) (sym is.all) small)))
      (record { before = omega arith; number = newest; last = λ j behind below _. omega (arith, behind, below) }))
  last_now q in_q (inr other) = subst (IsLastOf now q (length numbers + 1)) (sym (get_or-set_other last p q (Some (length numbers)) None other))
      (IsLastOf-step now q (length numbers) (get_or last q None) (λ e. other (sym e ∙ newest))
      (IsLastOf-same numbers now q (length numbers) (get_or last q None) same_below (is.last_is q in_q)))

  before_now : (k : ℕ) → k < length numbers + 1 → (k ≡ length numbers) ⊎ (k ≢ length numbers) → IsLastOf now (number_at now k) k (get_or linked k None)
  before_now k below (inl same) = subst (λ (n : ℕ). IsLastOf now (number_at now n) n (get_or linked n None)) (sym same)
      (subst (λ (q : ℕ). IsLastOf now q (length numbers) (get_or linked (length numbers) None)) (sym newest)
      (subst (IsLastOf now p (length numbers)) (sym (subst (λ (n : ℕ). get_or linked n None ≡ get_or last p None) is.each (get_or-append_seam before (get_or last p None) [] None)))
      (IsLastOf-same numbers now p (length numbers) (get_or last p None) same_below (is.last_is p small))))
  before_now k below (inr other) =
      let front : k < length numbers = below_last below other in
      subst (λ (q : ℕ). IsLastOf now q k (get_or linked k None)) (sym (same_below k front))
      (subst (IsLastOf now (number_at numbers k) k) (sym (get_or_append_left before (get_or last p None ∷ []) None k (subst (λ (n : ℕ). k < n) (sym is.each) front)))
      (IsLastOf-same numbers now (number_at numbers k) k (get_or before k None) (λ j lower. same_below j (omega (arith, lower, front))) (is.before_is k front)))

  count : length now ≡ length numbers + 1
  count = length-append numbers (p ∷ [])

  -- one number more behind the others
  pub AreLinked-more : AreLinked (numbers ++ p ∷ []) (slice_set last p (Some (length numbers))) (before ++ slice_index_or last p None ∷ [])
  AreLinked-more = record {
    small = All-push (λ q. q < 256) numbers p is.small small;
    few = omega (arith, count, room);
    all = length-set last p (Some (length numbers)) ∙ is.all;
    each = length-append before (get_or last p None ∷ []) ∙ (ap (λ (n : ℕ). n + 1) is.each ∙ sym count);
    last_is = λ q in_q. subst (λ (n : ℕ). IsLastOf now q n (get_or (slice_set last p (Some (length numbers))) q None)) (sym count) (last_now q in_q (cases_eq q p));
    before_is = λ k below. before_now k (subst (λ (n : ℕ). k < n) count below) (cases_eq k (length numbers));
  }
