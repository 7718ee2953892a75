-- The words for numbers, and the numbers that they read as.
use Rattle.std.proofs.Common.{◌≡◌, ◌≢◌, ℕ, zero, suc, ◌+◌, ◌-◌, ◌*◌, ◌^◌, ◌<◌, ◌≤◌, ℤ, pos, negsuc, Bool, true, false, cond, List, [], ◌∷◌, length, get_or, Option, Some, None, refl, sym, ap, subst, ◌∙◌, inl, inr, arith}
use Rattle.std.specs.Prelude.{decimal, option_map, ◌&&◌, nat_le, ◌==◌}
use Rattle.std.specs.Str.Parse.{AllDigits, digits_value_after, digits_value}
use Rattle.std.proofs.lemmas.Bool.{and_parts, and_from, leb-true, le-leb, eqb-true, eqb-false, ne_eqb, cases_Bool}
use Rattle.std.proofs.lemmas.Fmt.{decimal_is_IsNumeral, decimal_digit, first_decimal, decimal-digits_value}
use Rattle.std.proofs.lemmas.Int.{ints}
use Rattle.std.proofs.lemmas.Option.{same_Some}
use Rattle.std.proofs.lemmas.Str.{digit_value_digit}
use Rattle.std.proofs.lemmas.Str.Parse.{numerals_by_value, tells_digits, digit_from_value}
use Rattle.std.specs.Char.{digit_value}
use Rattle.tmm_model.specs.Lines.{number_word, IsNumber}
use Rattle.tmm_grammar.proofs.LineReaders.{chosen, bind_some, map_some, ended_some, IsReader}
use Rattle.tmm_grammar.specs.Reading.{◌>>=◌, ended, is_digit, digits_on, natural_of, negative, number_of}

-- a digit's value
value_of_digit : (b : ℕ) → is_digit b ≡ true → (digit_value b < 10) × (digit_value b ≡ b - 48)
value_of_digit b e =
    let p = and_parts (nat_le 48 b) (nat_le b 57) e in
    let low : 48 ≤ b = leb-true 48 b p.0 in
    let high : b ≤ 57 = leb-true b 57 p.1 in
    let v = digit_value_digit b (low, high) in
    (omega arith, omega arith)

digit_of_value : (b : ℕ) → digit_value b < 10 → (is_digit b ≡ true) × (digit_value b ≡ b - 48)
digit_of_value b h =
    let r = digit_from_value b h in
    let v = digit_value_digit b r in
    (and_from _ _ (le-leb 48 b r.0) (le-leb b 57 r.1), omega arith)

rises : (n : ℕ) (ds : List ℕ) → n ≤ digits_value_after 10 n ds
rises n [] = omega arith
rises n (b ∷ bs) = omega (arith, rises (n * 10 + digit_value b) bs)

-- what digits read as, behind those of n
digits_on-sound : (ds : List ℕ) (n m : ℕ) → n ≤ 1000000000 → digits_on n ds ≡ Some m → AllDigits 10 ds × (digits_value_after 10 n ds ≡ m) × (m ≤ 1000000000)
unfolding digits_on
digits_on-sound [] n m small e = let s = same_Some n m e in (tt, s, omega arith)
digits_on-sound (b ∷ bs) n m small e =
    let goes = λ (t : Bool) (k : cond t (digits_on (n * 10 + (b - 48)) bs) None ≡ Some m). elim t as (λ u. cond u (digits_on (n * 10 + (b - 48)) bs) None ≡ Some m → u ≡ true) [ true ↦ λ _. refl | false ↦ λ h. absurd cc ] k in
    let t = goes (is_digit b && nat_le (n * 10 + (b - 48)) 1000000000) e in
    let p = and_parts (is_digit b) (nat_le (n * 10 + (b - 48)) 1000000000) t in
    let v = value_of_digit b p.0 in
    let more : digits_on (n * 10 + (b - 48)) bs ≡ Some m = simp t at e in
    let r = digits_on-sound bs (n * 10 + (b - 48)) m (leb-true _ _ p.1) more in
    ((v.0, r.0), rw v.1 r.1, r.2)

digits_on-complete : (ds : List ℕ) (n : ℕ) → AllDigits 10 ds → digits_value_after 10 n ds ≤ 1000000000 → digits_on n ds ≡ Some (digits_value_after 10 n ds)
unfolding digits_on
digits_on-complete [] n all small = refl
digits_on-complete (b ∷ bs) n all small =
    let v = digit_of_value b all.0 in
    let k : n * 10 + (b - 48) ≤ 1000000000 = omega (arith, rises (n * 10 + digit_value b) bs) in
    let t : (is_digit b && nat_le (n * 10 + (b - 48)) 1000000000) ≡ true = and_from _ _ v.0 (le-leb _ _ k) in
    rw t (subst (λ (k : ℕ). digits_on (n * 10 + k) bs ≡ Some (digits_value_after 10 (n * 10 + digit_value b) bs)) v.1 (digits_on-complete bs (n * 10 + digit_value b) all.1 small))

own_digits : (ds : List ℕ) → AllDigits 10 ds → 0 < length ds → (get_or ds 0 0 ≡ 48 → length ds ≡ 1) → digits_value 10 ds < 2 ^ 64 → decimal (digits_value 10 ds) ≡ ds
own_digits = decimal-digits_value (numerals_by_value _ tells_digits)

pub natural_of-sound : (w : List ℕ) (n : ℕ) → natural_of w ≡ Some n → (n ≤ 1000000000) × (w ≡ decimal n)
unfolding natural_of
natural_of-sound [] n e = absurd cc
natural_of-sound (b ∷ bs) n e =
    elim (chosen (b == 48) (ended 0 bs) (digits_on 0 (b ∷ bs)) (Some n) e) [
      | inl p ↦
          let q = ended_some 0 n bs p.1 in
          let k : b ≡ 48 = eqb-true b 48 p.0 in
          (omega (arith, q.1), ap (λ (x : ℕ). x ∷ bs) k ∙ ap (λ (x : List ℕ). 48 ∷ x) q.0 ∙ sym (decimal_digit 0 (omega arith)) ∙ ap decimal q.1)
      | inr p ↦
          let q = digits_on-sound (b ∷ bs) 0 n (omega arith) p.1 in
          let no : b ≢ 48 = eqb-false b 48 p.0 in
          let v : digits_value 10 (b ∷ bs) ≡ n = q.1 in
          (q.2, sym (own_digits (b ∷ bs) q.0 (omega arith) (λ h. absurd (no h)) (omega (arith, v, q.2))) ∙ ap decimal v)
    ]

natural_of-digits : (ds : List ℕ) → AllDigits 10 ds → 0 < length ds → 48 < get_or ds 0 0 → digits_value 10 ds ≤ 1000000000 → natural_of ds ≡ Some (digits_value 10 ds)
unfolding natural_of
natural_of-digits [] all some first small = absurd (omega arith)
natural_of-digits (b ∷ bs) all some first small = let t : (b == 48) ≡ false = ne_eqb b 48 (λ k. omega arith) in rw t (digits_on-complete (b ∷ bs) 0 all small)

natural_of-zero : natural_of (48 ∷ []) ≡ Some 0
unfolding natural_of
natural_of-zero = refl

pub natural_of-decimal : (n : ℕ) → n ≤ 1000000000 → natural_of (decimal n) ≡ Some n
natural_of-decimal zero small = ap natural_of (decimal_digit 0 (omega arith)) ∙ natural_of-zero
natural_of-decimal (suc n) small =
    let k = decimal_is_IsNumeral (suc n) (omega arith) in
    natural_of-digits (decimal (suc n)) k.0.1 k.0.0 (first_decimal (suc n) (omega arith) (omega arith)) (omega (arith, k.1)) ∙ ap Some k.1

-- no number begins with a `-` and has no sign
natural_of-minus : (bs : List ℕ) (n : ℕ) → natural_of (45 ∷ bs) ≡ Some n → ⊥
unfolding natural_of digits_on
natural_of-minus bs n e = cc

natural_of-nil : (n : ℕ) → natural_of [] ≡ Some n → ⊥
unfolding natural_of
natural_of-nil n e = cc

number_of-natural : (w : List ℕ) (n : ℕ) → natural_of w ≡ Some n → number_of w ≡ Some (pos n)
unfolding number_of
number_of-natural [] n e = absurd (natural_of-nil n e)
number_of-natural (b ∷ bs) n e = elim (cases_Bool (b == 45)) [
  | inl t ↦ absurd (natural_of-minus bs n (ap (λ (x : ℕ). natural_of (x ∷ bs)) (sym (eqb-true b 45 t)) ∙ e))
  | inr f ↦ rw (f, e) refl
]

number_of-minus : (bs : List ℕ) (n : ℕ) → natural_of bs ≡ Some (suc n) → number_of (45 ∷ bs) ≡ Some (negsuc n)
unfolding number_of
number_of-minus bs n e = ap (λ (r : Option ℕ). r >>= negative) e

negative_some : (n : ℕ) (z : ℤ) → negative n ≡ Some z → (m : ℕ) × (n ≡ suc m) × (z ≡ negsuc m)
negative_some zero z e = absurd cc
negative_some (suc m) z e = (m, refl, cc)

pub number_of-sound : (w : List ℕ) (z : ℤ) → number_of w ≡ Some z → IsNumber z × (w ≡ number_word z)
unfolding number_of
number_of-sound [] z e = absurd cc
number_of-sound (b ∷ bs) z e =
    elim (chosen (b == 45) (natural_of bs >>= negative) (option_map pos (natural_of (b ∷ bs))) (Some z) e) [
      | inl p ↦
          let q = bind_some (natural_of bs) negative z p.1 in
          let r = natural_of-sound bs q.0 q.1 in
          let s = negative_some q.0 z q.2 in
          let k : bs ≡ decimal (suc s.0) = r.1 ∙ ap decimal s.1 in
          (subst IsNumber (sym s.2) (omega (arith, ints, r.0, s.1), omega (arith, ints)), (λ i. eqb-true b 45 p.0 i ∷ k i) ∙ ap number_word (sym s.2))
      | inr p ↦
          let q = map_some pos (natural_of (b ∷ bs)) z p.1 in
          let r = natural_of-sound (b ∷ bs) q.0 q.1 in
          (subst IsNumber q.2 (omega (arith, ints), omega (arith, ints, r.0)), r.1 ∙ ap number_word q.2)
    ]

pub number_of-complete : (z : ℤ) → IsNumber z → number_of (number_word z) ≡ Some z
number_of-complete (pos n) h = number_of-natural (decimal n) n (natural_of-decimal n (omega (arith, ints, h.1)))
number_of-complete (negsuc n) h = number_of-minus (decimal (suc n)) n (natural_of-decimal (suc n) (omega (arith, ints, h.0)))

pub number_reader : IsReader number_word IsNumber number_of
number_reader = record { sound = number_of-sound; complete = number_of-complete }
