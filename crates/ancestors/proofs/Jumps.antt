-- Jumps lead up.
use Rattle.std.proofs.Common.{◌≡◌, ◌≢◌, ◌⊎◌, inl, inr, refl, ℕ, zero, suc, cond, eqb, Bool, true, false, ◌+◌, ◌-◌, ◌<◌, ◌≤◌, List, [], ◌∷◌, ◌++◌, length, take, sym, ap, ◌∙◌, subst, arith, eq-eqb}
use Rattle.std.proofs.lemmas.List.{length-take-le, length_push, get_or_push, take_all, take-take}
use Rattle.std.proofs.Math.ListN.{get_or-append}
use Rattle.std.proofs.lemmas.Bool.{cases_lt, eqb-true}
use Rattle.ancestors.specs.Ways.{IsNode, EndsWith, shared_front}
use Rattle.ancestors.proofs.Fronts.{shared_front-jumped}
use Rattle.ancestors.specs.Jumps.{depth_at, next_jump, jump_depths, jump_depth}

pushed : (xs : List ℕ) (y most : ℕ) → ((k : ℕ) → depth_at xs k ≤ most) → y ≤ most → (k : ℕ) → depth_at (xs ++ y ∷ []) k ≤ most
pushed [] y most each last zero = last
pushed [] y most each last (suc k) = omega arith
pushed (x ∷ xs) y most each last zero = each 0
pushed (x ∷ xs) y most each last (suc k) = pushed xs y most (λ j. each (suc j)) last k

next_within : (depths : List ℕ) (d : ℕ) → ((k : ℕ) → depth_at depths k ≤ d) → next_jump depths d ≤ d
next_within depths d each = by (eqb (d - depth_at depths d) (depth_at depths d - depth_at depths (depth_at depths d)))
  where
    by : (t : Bool) → cond t (depth_at depths (depth_at depths d)) d ≤ d
    by true = each (depth_at depths d)
    by false = omega arith

within : (d k : ℕ) → depth_at (jump_depths d) k ≤ d
within zero zero = omega arith
within zero (suc k) = omega arith
within (suc d) k = let less = pushed (jump_depths d) (next_jump (jump_depths d) d) d (within d) (next_within (jump_depths d) d (within d)) k in omega (arith, less)

-- a node that is no root jumps up
pub jump_up : (d : ℕ) → jump_depth (suc d) ≤ d
jump_up d = pushed (jump_depths d) (next_jump (jump_depths d) d) d (within d) (next_within (jump_depths d) d (within d)) (suc d)

pub jump_within : (d : ℕ) → jump_depth d ≤ d
jump_within d = within d d

length-jump_depths : (d : ℕ) → length (jump_depths d) ≡ d + 1
length-jump_depths zero = refl
length-jump_depths (suc d) = length_push (jump_depths d) (next_jump (jump_depths d) d) ∙ ap (λ n. n + 1) (length-jump_depths d) ∙ omega arith

-- the list for a greater depth begins with that for a less
jump_depth-at : (d k : ℕ) → k ≤ d → depth_at (jump_depths d) k ≡ jump_depth k
jump_depth-at zero zero below = refl
jump_depth-at zero (suc k) below = absurd (omega (arith, below))
jump_depth-at (suc d) k below = by (jump_depth-at d k) (cases_lt d k)
  where
    by : (k ≤ d → depth_at (jump_depths d) k ≡ jump_depth k) → (d < k) ⊎ (k ≤ d) → depth_at (jump_depths (suc d)) k ≡ jump_depth k
    by again (inl last) = let same : suc d ≡ k = omega (arith, last, below) in ap (λ n. depth_at (jump_depths n) k) same
    by again (inr within) = get_or-append (jump_depths d) (next_jump (jump_depths d) d ∷ []) 0 k (omega (arith, length-jump_depths d, within)) ∙ again within

-- where a node right below depth d jumps, by where two jumps from depth d lead
pub jump_depth-next : (d : ℕ) → jump_depth (d + 1) ≡ cond (eqb (d - jump_depth d) (jump_depth d - jump_depth (jump_depth d))) (jump_depth (jump_depth d)) d
jump_depth-next d =
    let below : d + 1 ≡ suc d = omega arith in
    ap jump_depth below ∙ get_or_push (jump_depths d) (next_jump (jump_depths d) d) 0 (suc d) (length-jump_depths d ∙ omega arith)
    ∙ ap (λ second. cond (eqb (d - jump_depth d) (jump_depth d - second)) second d) (jump_depth-at d (jump_depth d) (jump_within d))

-- what a node's jump leads to
pub record IsJumped (w u : List ℕ) : Type 0 where
  pub node : 0 < length u
  pub within : length u ≤ length w
  pub less : 1 < length w → length u < length w
  pub front : u ≡ take (length u) w
  pub count : (d : ℕ) → length w ≡ d + 1 → length u ≡ jump_depth d + 1

pub jumped : (w u : List ℕ) → 0 < length w → ((d : ℕ) → length w ≡ d + 1 → u ≡ take (jump_depth d + 1) w) → IsJumped w u
jumped w u node jump = by (length w - 1) (omega (arith, node))
  where
    by : (d : ℕ) → length w ≡ d + 1 → IsJumped w u
    by d deep =
        let cut = jump d deep in
        let count : length u ≡ jump_depth d + 1 = ap length cut ∙ length-take-le (jump_depth d + 1) w (omega (arith, deep, jump_within d)) in
        record {
          node = omega (arith, count);
          within = omega (arith, count, deep, jump_within d);
          less = λ deeper. above d deep count deeper;
          front = cut ∙ ap (λ n. take n w) (sym count);
          count = λ e is. let same : d ≡ e = omega (arith, deep, is) in count ∙ ap (λ n. jump_depth n + 1) same;
        }
      where
        above : (e : ℕ) → length w ≡ e + 1 → length u ≡ jump_depth e + 1 → 1 < length w → length u < length w
        above zero is count deeper = absurd (omega (arith, is, deeper))
        above (suc e) is count deeper = omega (arith, is, count, jump_up e)

-- nodes of one depth that jump to different nodes share there what they share
pub record AreJumped (way : ℕ → List ℕ) (x y a b : ℕ) : Type 0 where
  pub node : 0 < length (way a)
  pub level : length (way b) ≡ length (way a)
  pub less : 1 < length (way x) → length (way a) < length (way x)
  pub shared : shared_front (way a) (way b) ≡ shared_front (way x) (way y)

pub both_jumped : (way : ℕ → List ℕ) → ((x : ℕ) → IsNode way x → EndsWith (way x) x) → (x y a b : ℕ) → 0 < length (way x) → length (way y) ≡ length (way x) → IsJumped (way x) (way a) → IsJumped (way y) (way b) → a ≢ b → AreJumped way x y a b
both_jumped way ends x y a b node level first second other =
    let depth : length (way x) ≡ (length (way x) - 1) + 1 = omega (arith, node) in
    let same : length (way b) ≡ length (way a) = second.count (length (way x) - 1) (level ∙ depth) ∙ sym (first.count (length (way x) - 1) depth) in
    let cut : way b ≡ take (length (way a)) (way y) = second.front ∙ ap (λ n. take n (way y)) same in
    record {
      node = first.node;
      level = same;
      less = first.less;
      shared = (λ i. shared_front (first.front i) (cut i))
          ∙ shared_front-jumped (length (way a)) (way x) (way y) a b (subst (λ w. EndsWith w a) first.front (ends a first.node)) (subst (λ w. EndsWith w b) cut (ends b second.node)) other;
    }

-- ---- two jumps, one after the other

equal_jumps : (d : ℕ) → d - jump_depth d ≡ jump_depth d - jump_depth (jump_depth d) → jump_depth (d + 1) ≡ jump_depth (jump_depth d)
equal_jumps d equal = jump_depth-next d ∙ ap (λ b. cond b (jump_depth (jump_depth d)) d) (eq-eqb (d - jump_depth d) (jump_depth d - jump_depth (jump_depth d)) equal)

other_jumps : (d : ℕ) → (d - jump_depth d ≡ jump_depth d - jump_depth (jump_depth d) → ⊥) → jump_depth (d + 1) ≡ d
other_jumps d other = jump_depth-next d ∙ by (eqb (d - jump_depth d) (jump_depth d - jump_depth (jump_depth d))) refl
  where
    by : (t : Bool) → eqb (d - jump_depth d) (jump_depth d - jump_depth (jump_depth d)) ≡ t → cond t (jump_depth (jump_depth d)) d ≡ d
    by true is = absurd (other (eqb-true (d - jump_depth d) (jump_depth d - jump_depth (jump_depth d)) is))
    by false is = refl

module _ (w u v : List ℕ) (first : IsJumped w u) (second : IsJumped u v) (d : ℕ) (deep : length w ≡ d + 1) where
  of_first : length u ≡ jump_depth d + 1
  of_first = first.count d deep

  of_second : length v ≡ jump_depth (jump_depth d) + 1
  of_second = second.count (jump_depth d) of_first

  -- where both are equally long, a jump takes them at once
  pub two_at_once : length w - length u ≡ length u - length v → v ≡ take (jump_depth (d + 1) + 1) w
  two_at_once equal =
      let same : jump_depth (d + 1) ≡ jump_depth (jump_depth d) = equal_jumps d (omega (arith, equal, deep, of_first, of_second, jump_within d, jump_within (jump_depth d))) in
      second.front ∙ ap (take (length v)) first.front ∙ take-take (length v) (length u) w second.within ∙ ap (λ n. take n w) (of_second ∙ ap (λ n. n + 1) (sym same))

  -- else it takes one step
  pub one_step : (length w - length u ≡ length u - length v → ⊥) → w ≡ take (jump_depth (d + 1) + 1) w
  one_step other =
      let same : jump_depth (d + 1) ≡ d = other_jumps d (λ equal. other (omega (arith, equal, deep, of_first, of_second, jump_within d, jump_within (jump_depth d)))) in
      sym (take_all (jump_depth (d + 1) + 1) w (omega (arith, same, deep)))
