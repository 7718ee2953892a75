-- Items of a list, one after another.
use Rattle.std.proofs.Common.{◌≡◌, ℕ, zero, suc, eqb, ◌+◌, ◌<◌, List, [], ◌∷◌, length, drop, refl, ap, ◌∙◌, subst, arith, slice_index_or}
use Rattle.std.specs.List.{list_any}
use Rattle.std.proofs.lemmas.Bool.{both_ways}
use Rattle.row_links.specs.Lists.{IsOn, AreOnce}
use Rattle.row_links.proofs.Lists.{IsOn-first, IsOn-rest}

pub item_on : (xs : List ℕ) (i d : ℕ) → i < length xs → IsOn xs (slice_index_or xs i d)
item_on [] i d within = absurd (let few : i < 0 = within in omega arith)
item_on (x ∷ xs) zero d within = IsOn-first x xs
item_on (x ∷ xs) (suc i) d within = IsOn-rest (slice_index_or xs i d) x xs (item_on xs i d (let few : suc i < suc (length xs) = within in omega arith))

drop_behind : (xs : List ℕ) (i d : ℕ) → i < length xs → drop i xs ≡ slice_index_or xs i d ∷ drop (suc i) xs
drop_behind [] i d within = absurd (let few : i < 0 = within in omega arith)
drop_behind (x ∷ xs) zero d within = refl
drop_behind (x ∷ xs) (suc i) d within = drop_behind xs i d (let few : suc i < suc (length xs) = within in omega arith)

-- those from a place on are the one there and those behind it
pub drop_at : (xs : List ℕ) (i d : ℕ) → i < length xs → drop i xs ≡ slice_index_or xs i d ∷ drop (i + 1) xs
drop_at xs i d within = drop_behind xs i d within ∙ (let one : suc i ≡ i + 1 = omega arith in ap (λ n. slice_index_or xs i d ∷ drop n xs) one)

not_behind : (xs : List ℕ) (i d : ℕ) → AreOnce xs → i < length xs → IsOn (drop (suc i) xs) (slice_index_or xs i d) → ⊥
not_behind [] i d once within on = let few : i < 0 = within in omega arith
not_behind (x ∷ xs) zero d (new, once) within on = both_ways (list_any (eqb x) xs) new on
not_behind (x ∷ xs) (suc i) d (new, once) within on = not_behind xs i d once (let few : suc i < suc (length xs) = within in omega arith) on

-- the one at a place is not among those behind it
pub new_at : (xs : List ℕ) (i d : ℕ) → AreOnce xs → i < length xs → IsOn (drop (i + 1) xs) (slice_index_or xs i d) → ⊥
new_at xs i d once within on = not_behind xs i d once within (let one : i + 1 ≡ suc i = omega arith in subst (λ n. IsOn (drop n xs) (slice_index_or xs i d)) one on)
