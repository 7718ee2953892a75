-- Names that are padded to one length.
use Rattle.std.proofs.Common.{◌≡◌, ℕ, ◌-◌, List, ◌++◌, take, replicate, length, nat_eq, sym, ◌∙◌}
use Rattle.std.specs.Cmp.Lexicographic.{pointwise}
use Rattle.std.proofs.lemmas.Bool.Decides.{same_from_decides}
use Rattle.std.proofs.lemmas.Slice.Eq.{bytes_eq-Decides}
use Rattle.tmm_model.specs.Types.{IsPadded, append-padded}

-- where the lengths are one, the padded bytes are equal exactly where the names are
pub equal_padded : (a b : List ℕ) (n m : ℕ) → IsPadded a n → IsPadded b m → n ≡ m → pointwise nat_eq a b ≡ pointwise nat_eq (take n a) (take m b)
equal_padded a b n m padded_a padded_b same =
    let names = bytes_eq-Decides (take n a) (take m b) in
    same_from_decides (pointwise nat_eq a b) (pointwise nat_eq (take n a) (take m b)) (bytes_eq-Decides a b)
    (λ e. whole (names.0 e), λ e. names.1 (λ i. take (same i) (e i)))
  where
    whole : take n a ≡ take m b → a ≡ b
    whole e = sym (append-padded a n padded_a) ∙ (λ i. e i ++ replicate (24 - length (e i)) 0) ∙ append-padded b m padded_b
