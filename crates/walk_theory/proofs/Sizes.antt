-- How large distances are, which constraints fit, and what the closing by one constraint leaves
-- alone.
use Rattle.std.proofs.Common.{neg_ℤ, ◌≡◌, ℕ, ◌<◌, ◌≤◌, ◌*◌, Bool, List, [], ◌∷◌, length, ℤ, pos, ◌+ℤ◌, ◌≤ℤ◌, ap, arith, refl}
use Rattle.std.specs.Bool.{Decides}
use Rattle.std.specs.Int.{int_min}
use Rattle.std.specs.List.{Contains}
use Rattle.std.proofs.lemmas.List.Elements.{All-contains}
use Rattle.std.proofs.lemmas.Int.{ints, clamps}
use Rattle.tmm_model.specs.declared.bound.Bound.{Bound}
use Rattle.tmm_model.specs.declared.bound.Bound.TheVariants.{Finite, Free}
use Rattle.tmm_model.specs.Bounds.{IfFinite, lesser, IsWithin}
use Rattle.tmm_model.specs.Types.{through}
use Rattle.walk_theory.specs.LeastWalks.{ClosesNoNegativeCycle, IsWalk, HasWalk, IsFar, AreAmong, AreLight}
use Rattle.tmm_model.specs.Walks.{Arc, total, HasDates}
use Rattle.walk_theory.proofs.Dates.{difference-le_total}
use Rattle.walk_theory.proofs.Paths.{Path, shorten, closed_walks, length_lt_from_distinct}
use Rattle.walk_theory.proofs.Walks.{IsWalk-kept}

module _ {P : Type 0} where
  total-within : (m : ℕ) (arcs : List (Arc P)) → AreLight m arcs → (a b : P) (walk : List (Arc P)) → IsWalk arcs a b walk → IsWithin (m * length walk) (total walk)
  total-within m arcs light a b [] h = (omega (arith, ints), omega (arith, ints))
  total-within m arcs light a b (e ∷ walk) h =
      let w : IsWithin m e.weight = All-contains (λ x. IsWithin m x.weight) arcs e light h.0 in
      let r : IsWithin (m * length walk) (total walk) = total-within m arcs light e.to b walk h.2 in
      (omega (arith, ints, w.0, r.0), omega (arith, ints, w.1, r.1))

  pub walk_below : (m : ℕ) (arcs : List (Arc P)) → AreLight m arcs → (a b : P) (walk : List (Arc P)) → IsWalk arcs a b walk → total walk ≤ℤ pos (m * length walk)
  walk_below m arcs light a b walk h = (total-within m arcs light a b walk h).1

module _ {P : Type 0} (same : P → P → Bool) (decides : (x y : P) → Decides (same x y) (x ≡ y)) (start : P) (known : List P) (few : length known ≤ 256) where
  -- **A distance among 256 points is small**: it is the sum of a walk of at most 255 constraints.
  pub IsSmall-far : (arcs : List (Arc P)) → AreAmong known arcs → AreLight 1000000000 arcs → HasDates start arcs → (a b : P) → Contains known b → (x : Bound) → IsFar arcs a b x → IfFinite x (IsWithin 255000000000)
  IsSmall-far arcs among light dates a b in_b (Finite x) far =
      let r : HasWalk arcs a b x = far.reached in
      let s : Path same arcs a b (total r.0) = shorten same decides arcs (closed_walks start arcs dates) a b r.0 r.1 in
      let short : length s.walk < length known = length_lt_from_distinct same decides known arcs among a b in_b s.walk s.leads s.distinct in
      let low : x ≤ℤ total s.walk = far.least s.walk s.leads in
      let size : IsWithin (1000000000 * length s.walk) (total s.walk) = total-within 1000000000 arcs light a b s.walk s.leads in
      (omega (arith, ints, few, s.no_longer, r.2, size.0), omega (arith, ints, few, size.1))
  IsSmall-far arcs among light dates a b in_b Free far = tt

  -- no walk has a sum below that of 255 constraints of the least weight
  pub walk_above : (arcs : List (Arc P)) → AreAmong known arcs → AreLight 1000000000 arcs → HasDates start arcs → (a b : P) → Contains known b → (walk : List (Arc P)) → IsWalk arcs a b walk → neg_ℤ (pos 255000000000) ≤ℤ total walk
  walk_above arcs among light dates a b in_b walk h =
      let s : Path same arcs a b (total walk) = shorten same decides arcs (closed_walks start arcs dates) a b walk h in
      let short : length s.walk < length known = length_lt_from_distinct same decides known arcs among a b in_b s.walk s.leads s.distinct in
      let size : IsWithin (1000000000 * length s.walk) (total s.walk) = total-within 1000000000 arcs light a b s.walk s.leads in
      omega (arith, ints, few, s.no_longer, size.0)

-- ---- a way through a constraint that closes no negative cycle, and back, gains nothing

pub int_min-left : (x y : ℤ) → x ≤ℤ y → int_min x y ≡ x
int_min-left x y h = omega (arith, ints, clamps)

pub lesser-past_cycle_left : (x : Bound) (w : ℤ) (y : Bound) → ClosesNoNegativeCycle w x → lesser y (through x w y) ≡ y
lesser-past_cycle_left (Finite x) w (Finite y) f = ap (λ (z : ℤ). Finite z) (int_min-left y (x +ℤ w +ℤ y) (omega (arith, ints)))
lesser-past_cycle_left (Finite x) w Free f = refl
lesser-past_cycle_left Free w (Finite y) f = refl
lesser-past_cycle_left Free w Free f = refl

-- ---- constraints that fit

module _ {P : Type 0} (start : P) where
  -- a constraint of a list with dates fits
  pub Fits-from_dates : (old new : List (Arc P)) (e : Arc P) (kept : (x : Arc P) → Contains old x → Contains new x) → Contains new e → HasDates start new → (x : Bound) → IsFar old e.to e.from x → ClosesNoNegativeCycle e.weight x
  Fits-from_dates old new e kept m dates (Finite x) far =
      let r : HasWalk old e.to e.from x = far.reached in
      omega (arith, ints, r.2, difference-le_total start new dates.0 dates.1 e.from e.from (e ∷ r.0) (m, refl, IsWalk-kept old new kept e.to e.from r.0 r.1))
  Fits-from_dates old new e kept m dates Free far = tt

  -- with dates, no way from a point to itself is negative
  pub Fits-round : (arcs : List (Arc P)) → HasDates start arcs → (a : P) (x : Bound) → IsFar arcs a a x → ClosesNoNegativeCycle (pos 0) x
  Fits-round arcs dates a (Finite x) far =
      let r : HasWalk arcs a a x = far.reached in
      omega (arith, ints, r.2, difference-le_total start arcs dates.0 dates.1 a a r.0 r.1)
  Fits-round arcs dates a Free far = tt
