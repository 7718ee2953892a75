-- What cuts tokens short.
use Rattle.std.specs.Prelude.{◌≡◌, ◌&&◌, ℕ, ◌<◌, true, Bool, List, length, Option, Some, None, slice_index_or}
use Rattle.std.specs.declared.cmp.Ordering.{Ordering}
use Rattle.std.specs.Ordering.{is_lt}
use Rattle.std.specs.Option.{ForSome}
use Rattle.tmm_model.specs.declared.bound.Bound.{Bound}
use Rattle.tmm_model.specs.declared.token.TokenRow.{TokenRow}
use Rattle.tmm_model.specs.Points.{same_name}
use Rattle.tmm_model.specs.Tokens.{clips, cuts, is_by, is_before}

-- the token at the place, if there is one, surely begins at or before q
abbrev pub BeginsBy : {P : Type 0} → (P → P → Bound) → List (TokenRow P) → P → Option ℕ → Type 0
BeginsBy {P} far tokens q place = ForSome place (λ c. (c < length tokens) × ((d : TokenRow P) → is_by far (slice_index_or tokens c d).spot q ≡ true))

-- c clips k, and begins surely at or before a point where one is given
abbrev pub clips_until : {P : Type 0} → (TokenRow P → TokenRow P → Bool) → (P → P → Bound) → TokenRow P → Option P → TokenRow P → Bool
clips_until contradicts far k None c = clips contradicts far k c
clips_until contradicts far k (Some q) c = cuts contradicts far k q c

-- c is of the fact, and surely begins after p
abbrev pub is_after : {P : Type 0} → List ℕ → (P → P → Bound) → P → TokenRow P → Bool
is_after fact far p c = same_name c.fact fact && is_before far p c.spot

-- the same, and it comes before a spot where one is given
abbrev pub is_between : {P : Type 0} → List ℕ → (P → P → Bound) → (P → P → Ordering) → P → Option P → TokenRow P → Bool
is_between fact far order p None c = is_after fact far p c
is_between fact far order p (Some q) c = is_after fact far p c && is_lt (order c.spot q)
