-- The names that a list declares, and the first of the names `repair-0`, `repair-1` and so on that it
-- does not.
use Rattle.std.proofs.Common.{◌≡◌, ◌∙◌, ℕ, zero, suc, ◌+◌, ◌<◌, ◌≤◌, ◌^◌, Bool, true, false, ◌||◌, ◌&&◌, List, [], ◌∷◌, ◌++◌, map, length, refl, sym, ap, subst, inl, inr, arith, cond, le-leb, Bor, take, length-append}
use Rattle.std.specs.Prelude.{slice_get, unwrap_or, is_some, sum_by, nat_le, decimal, drop, ◌==◌, Option, Some, None}
use Rattle.std.specs.List.{list_any, list_all}
use Rattle.std.specs.Option.{option_copied}
use Rattle.std.specs.Str.Parse.{AllDigits}
use Rattle.std.proofs.lemmas.Bool.Decides.{nat_tests}
use Rattle.std.proofs.lemmas.Fmt.{decimal_injective, decimal_is_IsNumeral, length-decimal-le}
use Rattle.std.proofs.lemmas.Str.Parse.{digit_from_value}
use Rattle.std.proofs.lemmas.List.Sums.{sum_by-cons}
use Rattle.tmm_model.specs.declared.premise.Premise.{Premise}
use Rattle.tmm_model.specs.Erasure.{is_among}
use Rattle.tmm_model.specs.Names.{is_name, is_letter, is_name_byte}
use Rattle.tmm_model.specs.Points.{same_name}
use Rattle.tmm_model.specs.Sorts.{declared_by, Sort, fact_declaration, declarations_in, class_in}
use Rattle.tmm_model.specs.Standing.{Standing, name_of, premise_in}
use Rattle.tmm_model.specs.Verdicts.{words_known}
use Rattle.list_theory.proofs.Distinct.{Distinct, sum_inside}
use Rattle.list_theory.proofs.Elements.{In}
use Rattle.list_theory.proofs.WellNamed.{words_known-push}
use Rattle.premise_list.specs.Words.{facts_of}
use Rattle.premise_list.proofs.Facts.{class_in-cons}
use Rattle.premise_list.proofs.Lookups.{declarations_parted}
use Rattle.repairs.specs.Repairs.{repair_name, is_declared}
use Rattle.repairs.proofs.Changed.{among_In, is_false}
use Rattle.repairs.proofs.Growing.{one_got}

-- ---- names of a list

facts_any : (n : List ℕ) (fs : List (List ℕ)) (rest : List (List ℕ × Sort))
    → list_any (same_name n) (map (λ d. d.0) (map fact_declaration fs ++ rest)) ≡ (list_any (same_name n) fs || list_any (same_name n) (map (λ d. d.0) rest))
facts_any n [] rest = refl
facts_any n (f ∷ fs) rest = by (same_name n f) (facts_any n fs rest)
  where
    by : (b : Bool) → list_any (same_name n) (map (λ d. d.0) (map fact_declaration fs ++ rest)) ≡ (list_any (same_name n) fs || list_any (same_name n) (map (λ d. d.0) rest))
        → (b || list_any (same_name n) (map (λ d. d.0) (map fact_declaration fs ++ rest))) ≡ ((b || list_any (same_name n) fs) || list_any (same_name n) (map (λ d. d.0) rest))
    by true e = refl
    by false e = e

-- a name is known as that of the first premise, of one of its facts, or of another premise
pub known_cons : (n : List ℕ) (p : Premise) (ps : List Premise) → is_among (words_known (p ∷ ps)) n ≡ (same_name n (name_of p) || (list_any (same_name n) (facts_of p) || is_among (words_known ps) n))
known_cons n p ps =
    ap (λ ds. list_any (same_name n) (map (λ d. d.0) (ds ++ declarations_in ps))) (declarations_parted p)
    ∙ ap (λ b. same_name n (name_of p) || b) (facts_any n (facts_of p) (declarations_in ps))

-- **A name is known exactly where a premise has it, or a class has it as a fact.**
pub known_by : (ps : List Premise) (n : List ℕ) → (is_some (premise_in ps n) || is_some (class_in ps n)) ≡ is_among (words_known ps) n
known_by [] n = refl
known_by (p ∷ ps) n =
    ap (λ o. is_some (premise_in (p ∷ ps) n) || is_some o) (class_in-cons n p ps)
    ∙ by (same_name n (name_of p)) (list_any (same_name n) (facts_of p)) (is_some (premise_in ps n)) refl (known_by ps n)
    ∙ sym (known_cons n p ps)
  where
    by : (a b x : Bool) → is_some (premise_in ps n) ≡ x → (is_some (premise_in ps n) || is_some (class_in ps n)) ≡ is_among (words_known ps) n
        → (is_some (cond a (Some p) (premise_in ps n)) || is_some (cond b (Some (name_of p)) (class_in ps n))) ≡ (a || (b || is_among (words_known ps) n))
    by true b x is e = refl
    by false true true is e = ap (λ y. y || true) is
    by false true false is e = ap (λ y. y || true) is
    by false false x is e = e

pub or_true : (b : Bool) → (b || true) ≡ true
or_true true = refl
or_true false = refl

-- ---- the free name

-- the first names
abbrev names_below : ℕ → List (List ℕ)
names_below zero = []
names_below (suc n) = repair_name n ∷ names_below n

count_below : (n : ℕ) → sum_by (λ w. 1) (names_below n) ≡ n
count_below zero = refl
count_below (suc n) = omega (arith, sum_by-cons (λ (w : List ℕ). 1) (repair_name n) (names_below n), count_below n)

sum_ones : (ws : List (List ℕ)) → sum_by (λ w. 1) ws ≡ length ws
sum_ones [] = refl
sum_ones (w ∷ ws) = omega (arith, sum_by-cons (λ (w : List ℕ). 1) w ws, sum_ones ws)

one_number : (i j : ℕ) → i < 2 ^ 64 → j < 2 ^ 64 → repair_name i ≡ repair_name j → i ≡ j
one_number i j a b e = decimal_injective i j a b (ap (drop 7) e)

below : (n : ℕ) (w : List ℕ) → In w (names_below n) → (i : ℕ) × (i < n) × (repair_name i ≡ w)
below zero w at = absurd at
below (suc n) w (inl is) = (n, omega arith, is)
below (suc n) w (inr at) = let (i, small, is) = below n w at in (i, omega arith, is)

distinct_below : (n : ℕ) → n < 2 ^ 64 → Distinct (names_below n)
distinct_below zero small = tt
distinct_below (suc n) small =
    ((λ at. let (i, less, is) = below n (repair_name n) at in let same : i ≡ n = one_number i n (omega arith) (omega arith) is in omega arith), distinct_below n (omega arith))

-- not all of more names than are known are known
not_all : (known : List (List ℕ)) (n : ℕ) → n < 2 ^ 64 → length known < n → ((i : ℕ) → i < n → In (repair_name i) known) → ⊥
not_all known n small few each =
    let within = sum_inside (λ (w : List ℕ). 1) (names_below n) known (distinct_below n small) (λ w at. let (i, less, is) = below n w at in subst (λ v. In v known) is (each i less)) in
    omega (arith, within, count_below n, sum_ones known)

-- **Among as many of the names as a list declares, and one more, one is free.**
pub last_free : (s : Standing) (n : ℕ) → n ≤ 18000 → length (words_known s.premises) ≤ n → ((i : ℕ) → i < n → is_declared s (repair_name i) ≡ true) → is_declared s (repair_name n) ≡ false
last_free s n small few each = is_false (is_declared s (repair_name n)) (λ last. not_all (words_known s.premises) (suc n) (omega arith) (omega arith) (among last))
  where
    among : is_declared s (repair_name n) ≡ true → (i : ℕ) → i < suc n → In (repair_name i) (words_known s.premises)
    among last i less = by (i == n) refl
      where
        by : (b : Bool) → (i == n) ≡ b → In (repair_name i) (words_known s.premises)
        by true is = let same : n ≡ i = grind (arith, nat_tests, is) in among_In (words_known s.premises) (repair_name i) (subst (λ k. is_declared s (repair_name k) ≡ true) same last)
        by false isnt = let other : i < n = grind (arith, nat_tests, isnt, less) in among_In (words_known s.premises) (repair_name i) (each i other)

-- ---- its bytes

digits_in_name : (ds : List ℕ) → AllDigits 10 ds → list_all is_name_byte ds ≡ true
digits_in_name [] all = refl
digits_in_name (d ∷ ds) all = λ i. byte d (digit_from_value d all.0) i && digits_in_name ds all.1 i
  where
    byte : (d : ℕ) → (48 ≤ d) × (d ≤ 57) → is_name_byte d ≡ true
    byte d (low, high) = ap (λ b. b || (d == 95) || (d == 45)) ((λ i. is_letter d || (le-leb 48 d low i && le-leb d 57 high i)) ∙ or_true (is_letter d))

-- its digits are few
pub few_digits : (n : ℕ) → n ≤ 18000 → length (decimal n) ≤ 5
few_digits n small = length-decimal-le 5 n (omega arith) (omega arith) (omega arith)

-- **It is a name.**
pub named : (n : ℕ) → n ≤ 18000 → is_name (repair_name n) ≡ true
named n small = λ i. digits_in_name (decimal n) (decimal_is_IsNumeral n (omega arith)).0.1 i && short i
  where
    short : nat_le (length (drop 1 (repair_name n))) 23 ≡ true
    short = le-leb (length (drop 1 (repair_name n))) 23 (omega (arith, few_digits n small))

-- ---- options of references

pub is_some_copied : {X : Type 0} (o : Option (Bor X)) → is_some (option_copied o) ≡ is_some o
is_some_copied None = refl
is_some_copied (Some x) = refl

-- ---- how many names there are

-- one premise more declares its names more
pub counted : (ps : List Premise) (i : ℕ) (p : Premise) → i < length ps → slice_get ps i ≡ Some p → length (words_known (take (i + 1) ps)) ≡ length (words_known (take i ps)) + length (declared_by p)
counted ps i p within is =
    let (q, got, one) = one_got ps i within in
    let same : q ≡ p = ap (λ (o : Option Premise). unwrap_or o q) (sym got ∙ is) in
    ap (λ l. length (words_known l)) (one ∙ ap (λ r. take i ps ++ r ∷ []) same) ∙ ap length (words_known-push (take i ps) p) ∙ length-append (words_known (take i ps)) (declared_by p)
