-- Digits read one by one.
use Rattle.std.proofs.Common.{◌≡◌, ℕ, ◌+◌, ◌-◌, ◌*◌, ◌<◌, ◌≤◌, true, false, cond, List, length, get_or, drop, Option, Some, None, refl, sym, ap, ◌∙◌, add-one}
use Rattle.std.specs.Prelude.{◌&&◌, nat_le}
use Rattle.std.proofs.lemmas.Bool.{and_from, and_right, le-leb, lt-leb}
use Rattle.std.proofs.lemmas.List.{drop_all}
use Rattle.std.proofs.Math.Seq.{drop-cons}
use Rattle.tmm_grammar.specs.Reading.{is_digit, digits_on}

module _ (n i : ℕ) (ds : List ℕ) (total : Option ℕ) (left : digits_on n (drop i ds) ≡ total) where
  abbrev digit : ℕ
  digit = get_or ds i 0

  step : i < length ds → digits_on n (drop i ds) ≡ cond (is_digit digit && nat_le (n * 10 + (digit - 48)) 1000000000) (digits_on (n * 10 + (digit - 48)) (drop (i + 1) ds)) None
  unfolding digits_on
  step lt = rw add-one (ap (digits_on n) (drop-cons ds i 0 lt))

  pub digit_bad : i < length ds → is_digit digit ≡ false → None ≡ total
  digit_bad lt bad = sym (sym left ∙ step lt ∙ rw bad refl)

  pub digit_large : i < length ds → 1000000000 < n * 10 + (digit - 48) → None ≡ total
  digit_large lt large =
      let t : (is_digit digit && nat_le (n * 10 + (digit - 48)) 1000000000) ≡ false = and_right _ _ (lt-leb _ _ large) in
      sym (sym left ∙ step lt ∙ rw t refl)

  pub digit_taken : i < length ds → is_digit digit ≡ true → n * 10 + (digit - 48) ≤ 1000000000 → digits_on (n * 10 + (digit - 48)) (drop (i + 1) ds) ≡ total
  digit_taken lt good small =
      let t : (is_digit digit && nat_le (n * 10 + (digit - 48)) 1000000000) ≡ true = and_from _ _ good (le-leb _ _ small) in
      sym (step lt ∙ rw t refl) ∙ left

  pub digits_done : length ds ≤ i → Some n ≡ total
  unfolding digits_on
  digits_done le = sym (ap (digits_on n) (drop_all i ds le)) ∙ left
