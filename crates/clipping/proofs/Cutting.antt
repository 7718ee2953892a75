-- What cuts a token begins by the point.
use Rattle.std.proofs.Common.{◌≡◌, ℕ, ◌<◌, ◌≤◌, true, List, length, ◌∙◌, sym, subst, arith}
use Rattle.std.specs.Prelude.{Option, Some, None, slice_index_or}
use Rattle.std.proofs.lemmas.Bool.{and_parts}
use Rattle.tmm_model.specs.declared.bound.Bound.{Bound}
use Rattle.tmm_model.specs.declared.token.TokenRow.{TokenRow}
use Rattle.tmm_model.specs.Tokens.{of_one_class, is_by, clips, cuts}
use Rattle.clipping.specs.ByDate.{IsPlaceIn}
use Rattle.clipping.specs.Cutters.{BeginsBy}

-- the token at a place where one cuts begins surely at or before the point
pub cutter_begins : {P : Type 0} (far : P → P → Bound) (tokens : List (TokenRow P)) (k : TokenRow P) (q : P) (low high c : ℕ) → high ≤ length tokens → IsPlaceIn (cuts of_one_class far k q) tokens low high c
    → (place : Option ℕ) → place ≡ Some c → BeginsBy far tokens q place
cutter_begins {P} far tokens k q low high c within at place found = λ x same.
    let is : c ≡ x = cc in
    subst (λ y. (y < length tokens) × ((d : TokenRow P) → is_by far (slice_index_or tokens y d).spot q ≡ true)) is
    (omega (arith, at.before, within), λ d. (and_parts (clips of_one_class far k (slice_index_or tokens c d)) (is_by far (slice_index_or tokens c d).spot q) (at.passes d)).1)

-- no place is no token
pub none_begins : {P : Type 0} (far : P → P → Bound) (tokens : List (TokenRow P)) (q : P) (place : Option ℕ) → place ≡ None → BeginsBy far tokens q place
none_begins far tokens q place none = λ x same. absurd (let no = sym none ∙ same in cc)
