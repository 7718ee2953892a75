-- The padded bytes of a name are three words of eight bytes.
use Rattle.std.proofs.Common.{◌≡◌, ℕ, List, ◌++◌, take, drop, length, nat_eq, sym, ◌∙◌, arith}
use Rattle.std.specs.Cmp.Lexicographic.{pointwise}
use Rattle.std.specs.Int.{w64, from_le_bytes, to_le_bytes}
use Rattle.std.proofs.Math.Seq.{take-add}
use Rattle.std.proofs.lemmas.Bool.Decides.{same_from_decides, Decides-eqb}
use Rattle.std.proofs.lemmas.List.{take_all}
use Rattle.std.proofs.lemmas.Slice.Eq.{bytes_eq-Decides}

in_words : (bytes : List ℕ) → length bytes ≡ 24 → bytes ≡ (take 8 bytes ++ take 8 (drop 8 bytes)) ++ take 8 (drop 16 bytes)
in_words bytes size =
    sym (take_all 24 bytes (omega arith)) ∙ take-add 16 8 bytes ∙ (λ i. take-add 8 8 bytes i ++ take 8 (drop 16 bytes))

-- where the words are equal, the bytes are
same_by_words : (a b : List ℕ) → length a ≡ 24 → length b ≡ 24 → take 8 a ≡ take 8 b → take 8 (drop 8 a) ≡ take 8 (drop 8 b) → take 8 (drop 16 a) ≡ take 8 (drop 16 b) → a ≡ b
same_by_words a b size_a size_b first second third =
    in_words a size_a ∙ (λ i. (first i ++ second i) ++ third i) ∙ sym (in_words b size_b)

-- where two words are one number, their bytes are equal
pub same_from_words : (n m : ℕ) (xs ys : List ℕ) → to_le_bytes w64 n ≡ xs → to_le_bytes w64 m ≡ ys → n ≡ m → xs ≡ ys
same_from_words n m xs ys writes_xs writes_ys same = sym writes_xs ∙ (λ i. to_le_bytes w64 (same i)) ∙ writes_ys

-- where the first two words are equal, the last ones tell whether the bytes are
pub equal_by_last_words : (a b : List ℕ) → length a ≡ 24 → length b ≡ 24 → take 8 a ≡ take 8 b → take 8 (drop 8 a) ≡ take 8 (drop 8 b) → (n m : ℕ) → n ≡ from_le_bytes w64 (take 8 (drop 16 a)) → m ≡ from_le_bytes w64 (take 8 (drop 16 b)) → to_le_bytes w64 n ≡ take 8 (drop 16 a) → to_le_bytes w64 m ≡ take 8 (drop 16 b) → nat_eq n m ≡ pointwise nat_eq a b
equal_by_last_words a b size_a size_b first second n m value_n value_m writes_a writes_b =
    let numbers = Decides-eqb n m in
    same_from_decides {P = a ≡ b} (nat_eq n m) (pointwise nat_eq a b)
    (λ e. same_by_words a b size_a size_b first second (same_from_words n m (take 8 (drop 16 a)) (take 8 (drop 16 b)) writes_a writes_b (numbers.0 e)), λ e. numbers.1 (value_n ∙ (λ i. from_le_bytes w64 (take 8 (drop 16 (e i)))) ∙ sym value_m))
    (bytes_eq-Decides a b)
