-- Sums of the delays of rules.
use Rattle.std.proofs.Common.{◌≡◌, ℕ, zero, suc, ◌+◌, ◌-◌, ◌*◌, ◌≤◌, pos, List, [], ◌∷◌, ◌++◌, length, refl, sym, ap, ◌∙◌, subst, arith, w64, of_z, to_z}
use Rattle.std.specs.Int.RustNames.{FitsSigned}
use Rattle.std.proofs.lemmas.List.{length-append}
use Rattle.std.proofs.lemmas.Int.{ints, to_z-of_z}
use Rattle.std.specs.Prelude.{◌+ℤ◌, ◌-ℤ◌, ◌≤ℤ◌, ℤ}
use Rattle.std.specs.List.{All}
use Rattle.std.proofs.lemmas.List.Elements.{All-head, All-tail, All-take, All-drop}
use Rattle.std.proofs.Math.Seq.{take-append_seam, drop-append_seam}
use Rattle.tmm_model.specs.declared.bound.Bound.{Bound}
use Rattle.tmm_model.specs.declared.bound.Bound.TheVariants.{Finite, Free}
use Rattle.tmm_model.specs.Bounds.{IfFinite, IsWithin, bound_plus, bound_less}
use Rattle.spots.specs.declared.link.Link.{Link}
use Rattle.spots.specs.Spots.{links_low, links_high}
use Rattle.spots.specs.declared.sums.Sums.{Sums}
use Rattle.spots.specs.Light.{IsLight, AreLight}
use Rattle.spots.specs.Sums.{or_zero, free_count, links_bounded, links_unbounded, high_of, AreSums, IsFrontOf, ArePartedBy, HaveParted}

-- ---- rules and others behind them

pub low-append : (u v : List Link) → links_low (u ++ v) ≡ links_low u +ℤ links_low v
low-append [] v = omega (arith, ints)
low-append (l ∷ u) v = let again = low-append u v in omega (arith, ints)

pub bounded-append : (u v : List Link) → links_bounded (u ++ v) ≡ links_bounded u +ℤ links_bounded v
bounded-append [] v = omega (arith, ints)
bounded-append (l ∷ u) v = let again = bounded-append u v in omega (arith, ints)

pub unbounded-append : (u v : List Link) → links_unbounded (u ++ v) ≡ links_unbounded u + links_unbounded v
unbounded-append [] v = omega arith
unbounded-append (l ∷ u) v = let again = unbounded-append u v in omega (arith, again)

-- ---- the most that they take

high_plus : (x : Bound) (b : ℤ) (n : ℕ) → bound_plus x (high_of b n) ≡ high_of (or_zero x +ℤ b) (free_count x + n)
high_plus (Finite x) b n = finite n ∙ ap (high_of (x +ℤ b)) (omega arith)
  where
    finite : (n : ℕ) → bound_plus (Finite x) (high_of b n) ≡ high_of (x +ℤ b) n
    finite zero = refl
    finite (suc n) = refl
high_plus Free b n = let one : suc n ≡ 1 + n = omega arith in ap (high_of (pos 0 +ℤ b)) one

pub links_high_is : (ls : List Link) → links_high ls ≡ high_of (links_bounded ls) (links_unbounded ls)
links_high_is [] = refl
links_high_is (l ∷ ls) = ap (bound_plus l.hi) (links_high_is ls) ∙ high_plus l.hi (links_bounded ls) (links_unbounded ls)

pub high_from_sums : (s : Sums) (ls : List Link) → AreSums s ls → high_of s.bounded s.unbounded ≡ links_high ls
high_from_sums s ls is = (λ i. high_of (is.bounded i) (is.unbounded i)) ∙ sym (links_high_is ls)

-- ---- how large they are

-- a number from 0 to m
abbrev pub IsUpTo : ℕ → ℤ → Type 0
IsUpTo m x = (pos 0 ≤ℤ x) × (x ≤ℤ pos m)

pub low_within : (ls : List Link) → All IsLight ls → IsUpTo (1000000000 * length ls) (links_low ls)
low_within [] light = (omega (arith, ints), omega (arith, ints))
low_within (l ∷ ls) light =
    let one = All-head IsLight l ls light in
    let (least, most) = low_within ls (All-tail IsLight l ls light) in
    (omega (arith, ints), omega (arith, ints))

zero_within : (x : Bound) → IfFinite x (λ h. (pos 0 ≤ℤ h) × (h ≤ℤ pos 1000000000)) → IsUpTo 1000000000 (or_zero x)
zero_within (Finite x) h = h
zero_within Free h = (omega (arith, ints), omega (arith, ints))

bounded_within : (ls : List Link) → All IsLight ls → IsUpTo (1000000000 * length ls) (links_bounded ls)
bounded_within [] light = (omega (arith, ints), omega (arith, ints))
bounded_within (l ∷ ls) light =
    let (none, one) = zero_within l.hi (All-head IsLight l ls light).high in
    let (least, most) = bounded_within ls (All-tail IsLight l ls light) in
    (omega (arith, ints), omega (arith, ints))

count_within : (x : Bound) → free_count x ≤ 1
count_within (Finite x) = omega arith
count_within Free = omega arith

unbounded_within : (ls : List Link) → links_unbounded ls ≤ length ls
unbounded_within [] = omega arith
unbounded_within (l ∷ ls) = let one = count_within l.hi in let rest = unbounded_within ls in omega (arith, one, rest)

pub low_small : (ls : List Link) → AreLight ls → IsUpTo 100000000000000 (links_low ls)
low_small ls light = let (least, most) = low_within ls light.each in let few = light.few in (least, omega (arith, ints))

pub bounded_small : (ls : List Link) → AreLight ls → IsUpTo 100000000000000 (links_bounded ls)
bounded_small ls light = let (least, most) = bounded_within ls light.each in let few = light.few in (least, omega (arith, ints))

pub unbounded_small : (ls : List Link) → AreLight ls → links_unbounded ls ≤ 100000
unbounded_small ls light = let few = light.few in let counted = unbounded_within ls in omega (arith, few, counted)

plus_within : (x y : Bound) (m n k : ℕ) → m + n ≡ k → IfFinite x (λ z. (pos 0 ≤ℤ z) × (z ≤ℤ pos m)) → IfFinite y (λ z. (pos 0 ≤ℤ z) × (z ≤ℤ pos n)) → IfFinite (bound_plus x y) (λ z. (pos 0 ≤ℤ z) × (z ≤ℤ pos k))
plus_within (Finite x) (Finite y) m n k e (a, b) (c, d) = (omega (arith, ints), omega (arith, ints))
plus_within (Finite x) Free m n k e p q = tt
plus_within Free y m n k e p q = tt

pub high_within : (ls : List Link) → All IsLight ls → IfFinite (links_high ls) (λ z. (pos 0 ≤ℤ z) × (z ≤ℤ pos (1000000000 * length ls)))
high_within [] light = (omega (arith, ints), omega (arith, ints))
high_within (l ∷ ls) light =
    let one = All-head IsLight l ls light in
    plus_within l.hi (links_high ls) 1000000000 (1000000000 * length ls) (1000000000 * length (l ∷ ls)) (omega arith) one.high (high_within ls (All-tail IsLight l ls light))

pub wider : (x : Bound) (m n : ℕ) → m ≤ n → IfFinite x (λ z. (pos 0 ≤ℤ z) × (z ≤ℤ pos m)) → IfFinite x (IsWithin n)
wider (Finite x) m n le (a, b) = (omega (arith, ints), omega (arith, ints))
wider Free m n le h = tt

pub high_small : (ls : List Link) → AreLight ls → IfFinite (links_high ls) (IsWithin 100000000000000)
high_small ls light = let few = light.few in wider (links_high ls) (1000000000 * length ls) 100000000000000 (omega arith) (high_within ls light.each)

-- a low sum in 64 bits
pub low_seen : (z : ℤ) → (pos 0 ≤ℤ z) × (z ≤ℤ pos 100000000000000) → to_z w64 (of_z w64 z) ≡ z
low_seen z (a, b) = let f : FitsSigned w64 z = omega (arith, ints) in to_z-of_z w64 z f

-- what sums and differences of bounds come to
plus_small : (x y : Bound) (m n k : ℕ) → m + n ≤ k → IfFinite x (IsWithin m) → IfFinite y (IsWithin n) → IfFinite (bound_plus x y) (IsWithin k)
plus_small (Finite x) (Finite y) m n k le (a, b) (c, d) = (omega (arith, ints), omega (arith, ints))
plus_small (Finite x) Free m n k le p q = tt
plus_small Free y m n k le p q = tt

less_small : (x : Bound) (z : ℤ) (m n k : ℕ) → m + n ≤ k → IfFinite x (IsWithin m) → IsWithin n z → IfFinite (bound_less x z) (IsWithin k)
less_small (Finite x) z m n k le (a, b) (c, d) = (omega (arith, ints), omega (arith, ints))
less_small Free z m n k le p q = tt

pub looser : (x : Bound) (m n : ℕ) → m ≤ n → IfFinite x (IsWithin m) → IfFinite x (IsWithin n)
looser (Finite x) m n le (a, b) = (omega (arith, ints), omega (arith, ints))
looser Free m n le h = tt

-- a delay more, in 64 bits
delay_fits : (x : ℤ) → (pos 0 ≤ℤ x) × (x ≤ℤ pos 1000000000) → FitsSigned w64 x
delay_fits x (a, b) = omega (arith, ints)

more_fits : (s x : ℤ) → (pos 0 ≤ℤ s) × (s ≤ℤ pos 100000000000000) → (pos 0 ≤ℤ x) × (x ≤ℤ pos 1000000000) → FitsSigned w64 (s +ℤ x)
more_fits s x (a, b) (p, q) = omega (arith, ints)

pub sum_fits : (s x : ℤ) → (pos 0 ≤ℤ s) × (s ≤ℤ pos 100000000000000) → (pos 0 ≤ℤ x) × (x ≤ℤ pos 1000000000) → FitsSigned w64 (s +ℤ to_z w64 (of_z w64 x))
sum_fits s x a p = subst (λ (z : ℤ). FitsSigned w64 (s +ℤ z)) (sym (to_z-of_z w64 x (delay_fits x p))) (more_fits s x a p)

pub sum_seen : (s x : ℤ) → (pos 0 ≤ℤ s) × (s ≤ℤ pos 100000000000000) → (pos 0 ≤ℤ x) × (x ≤ℤ pos 1000000000) → to_z w64 (of_z w64 (s +ℤ to_z w64 (of_z w64 x))) ≡ s +ℤ x
sum_seen s x a p =
    ap (λ (z : ℤ). to_z w64 (of_z w64 (s +ℤ z))) (to_z-of_z w64 x (delay_fits x p)) ∙ to_z-of_z w64 (s +ℤ x) (more_fits s x a p)

-- a low sum as the code has it
pub seen_small : (seen z : ℤ) → seen ≡ z → (pos 0 ≤ℤ z) × (z ≤ℤ pos 100000000000000) → IsWithin 100000000000000 (to_z w64 (of_z w64 seen))
seen_small seen z e (a, b) =
    let is : to_z w64 (of_z w64 seen) ≡ z = ap (λ (y : ℤ). to_z w64 (of_z w64 y)) e ∙ low_seen z (a, b) in
    subst (IsWithin 100000000000000) (sym is) (omega (arith, ints), omega (arith, ints))

pub looser_number : (z : ℤ) (m n : ℕ) → m ≤ n → IsWithin m z → IsWithin n z
looser_number z m n le (a, b) = (omega (arith, ints), omega (arith, ints))

pub sum_small : (x y r : Bound) (m n k : ℕ) → m + n ≤ k → r ≡ bound_plus x y → IfFinite x (IsWithin m) → IfFinite y (IsWithin n) → IfFinite r (IsWithin k)
sum_small x y r m n k le e p q = subst (λ (b : Bound). IfFinite b (IsWithin k)) (sym e) (plus_small x y m n k le p q)

pub difference_small : (x r : Bound) (z : ℤ) (m n k : ℕ) → m + n ≤ k → r ≡ bound_less x z → IfFinite x (IsWithin m) → IsWithin n z → IfFinite r (IsWithin k)
difference_small x r z m n k le e p q = subst (λ (b : Bound). IfFinite b (IsWithin k)) (sym e) (less_small x z m n k le p q)

-- the sum of a cached sum and a delay
pub both_fit : (s x : ℤ) → (pos 0 ≤ℤ s) × (s ≤ℤ pos 100000000000000) → (pos 0 ≤ℤ x) × (x ≤ℤ pos 1000000000) → FitsSigned w64 (to_z w64 (of_z w64 s) +ℤ to_z w64 (of_z w64 x))
both_fit s x a p = subst (λ (z : ℤ). FitsSigned w64 (z +ℤ to_z w64 (of_z w64 x))) (sym (low_seen s a)) (sum_fits s x a p)

pub both_seen : (s x : ℤ) → (pos 0 ≤ℤ s) × (s ≤ℤ pos 100000000000000) → (pos 0 ≤ℤ x) × (x ≤ℤ pos 1000000000) → to_z w64 (of_z w64 (to_z w64 (of_z w64 s) +ℤ to_z w64 (of_z w64 x))) ≡ s +ℤ x
both_seen s x a p = ap (λ (z : ℤ). to_z w64 (of_z w64 (z +ℤ to_z w64 (of_z w64 x)))) (low_seen s a) ∙ sum_seen s x a p

-- ---- one rule more

pub low_push : (ls : List Link) (l : Link) → links_low (ls ++ l ∷ []) ≡ links_low ls +ℤ l.lo
low_push ls l = let both = low-append ls (l ∷ []) in omega (arith, ints, both)

module _ (ls : List Link) (l : Link) where
  bounded_push : (x : ℤ) → or_zero l.hi ≡ x → links_bounded (ls ++ l ∷ []) ≡ links_bounded ls +ℤ x
  bounded_push x own = let both = bounded-append ls (l ∷ []) in omega (arith, ints, both, own)

  unbounded_push : (n : ℕ) → free_count l.hi ≡ n → links_unbounded (ls ++ l ∷ []) ≡ links_unbounded ls + n
  unbounded_push n own = let both = unbounded-append ls (l ∷ []) in omega (arith, both, own)

  pub bounded-finite : (h : ℤ) → l.hi ≡ Finite h → links_bounded (ls ++ l ∷ []) ≡ links_bounded ls +ℤ h
  bounded-finite h is = bounded_push h (ap or_zero is)

  pub unbounded-finite : (h : ℤ) → l.hi ≡ Finite h → links_unbounded (ls ++ l ∷ []) ≡ links_unbounded ls
  unbounded-finite h is = unbounded_push 0 (ap free_count is) ∙ omega arith

  pub bounded-free : l.hi ≡ Free → links_bounded (ls ++ l ∷ []) ≡ links_bounded ls
  bounded-free is = bounded_push (pos 0) (ap or_zero is) ∙ omega (arith, ints)

  pub unbounded-free : l.hi ≡ Free → links_unbounded (ls ++ l ∷ []) ≡ links_unbounded ls + 1
  unbounded-free is = unbounded_push 1 (ap free_count is)

-- how large the sums of light rules are
pub sums_small : (s : Sums) (ls : List Link) → AreLight ls → AreSums s ls → IsUpTo 100000000000000 s.low × IsUpTo 100000000000000 s.bounded × (s.unbounded ≤ 100000)
sums_small s ls light is = (
  subst (IsUpTo 100000000000000) (sym is.low) (low_small ls light),
  subst (IsUpTo 100000000000000) (sym is.bounded) (bounded_small ls light),
  subst (λ (n : ℕ). n ≤ 100000) (sym is.unbounded) (unbounded_small ls light),
)

module _ (s : Sums) (ls : List Link) (light : AreLight ls) (is : AreSums s ls) where
  pub low_from_sums : to_z w64 (of_z w64 s.low) ≡ links_low ls
  low_from_sums = low_seen s.low (sums_small s ls light is).0 ∙ is.low

  pub low_sum_small : IsWithin 100000000000000 (to_z w64 (of_z w64 s.low))
  low_sum_small = seen_small s.low (links_low ls) is.low (low_small ls light)

  pub high_sum_small : (high : Bound) → high ≡ high_of s.bounded s.unbounded → IfFinite high (IsWithin 100000000000000)
  high_sum_small high high_is = subst (λ (x : Bound). IfFinite x (IsWithin 100000000000000)) (sym (high_is ∙ high_from_sums s ls is)) (high_small ls light)

-- ---- the rules behind the first ones

pub AreLight-front : (u v : List Link) → AreLight (u ++ v) → AreLight u
AreLight-front u v light = record {
  few = let n = length-append u v in let few = light.few in omega (arith, n, few);
  each = subst (All IsLight) (take-append_seam u v) (All-take IsLight (length u) (u ++ v) light.each);
}

pub AreLight-back : (u v : List Link) → AreLight (u ++ v) → AreLight v
AreLight-back u v light = record {
  few = let n = length-append u v in let few = light.few in omega (arith, n, few);
  each = subst (All IsLight) (drop-append_seam u v) (All-drop IsLight (length u) (u ++ v) light.each);
}

low-rest : (u v : List Link) → links_low (u ++ v) -ℤ links_low u ≡ links_low v
low-rest u v = let both = low-append u v in omega (arith, ints, both)

bounded-rest : (u v : List Link) → links_bounded (u ++ v) -ℤ links_bounded u ≡ links_bounded v
bounded-rest u v = let both = bounded-append u v in omega (arith, ints, both)

unbounded-rest : (u v : List Link) → links_unbounded (u ++ v) - links_unbounded u ≡ links_unbounded v
unbounded-rest u v = let both = unbounded-append u v in omega (arith, both)

less_fits : (s t : ℤ) → IsUpTo 100000000000000 s → IsUpTo 100000000000000 t → FitsSigned w64 (s -ℤ t)
less_fits s t (a, b) (p, q) = omega (arith, ints)

pub difference_fits : (s t : ℤ) → IsUpTo 100000000000000 s → IsUpTo 100000000000000 t → FitsSigned w64 (to_z w64 (of_z w64 s) -ℤ to_z w64 (of_z w64 t))
difference_fits s t a p = subst (λ (z : ℤ). FitsSigned w64 (z -ℤ to_z w64 (of_z w64 t))) (sym (low_seen s a)) (subst (λ (z : ℤ). FitsSigned w64 (s -ℤ z)) (sym (low_seen t p)) (less_fits s t a p))

pub difference_seen : (s t : ℤ) → IsUpTo 100000000000000 s → IsUpTo 100000000000000 t → to_z w64 (of_z w64 (to_z w64 (of_z w64 s) -ℤ to_z w64 (of_z w64 t))) ≡ s -ℤ t
difference_seen s t a p = (λ i. to_z w64 (of_z w64 (low_seen s a i -ℤ low_seen t p i))) ∙ to_z-of_z w64 (s -ℤ t) (less_fits s t a p)

-- sums of sums behind others
module _ (first whole : Sums) (front : IsFrontOf first whole) where
  pub first_small : IsUpTo 100000000000000 first.low × IsUpTo 100000000000000 first.bounded × (first.unbounded ≤ 100000)
  first_small = sums_small first front.front (AreLight-front front.front front.back front.light) front.of_front

  pub whole_small : IsUpTo 100000000000000 whole.low × IsUpTo 100000000000000 whole.bounded × (whole.unbounded ≤ 100000)
  whole_small = sums_small whole (front.front ++ front.back) front.light front.of_all

  pub fewer : first.unbounded ≤ whole.unbounded
  fewer =
      let own = front.of_front.unbounded in
      let all = front.of_all.unbounded in
      let both = unbounded-append front.front front.back in
      omega (arith, own, all, both)

  module _ (u v : List Link) (of_u : AreSums first u) (of_all : AreSums whole (u ++ v)) where
    pub low_behind : to_z w64 (of_z w64 (to_z w64 (of_z w64 whole.low) -ℤ to_z w64 (of_z w64 first.low))) ≡ links_low v
    low_behind = difference_seen whole.low first.low whole_small.0 first_small.0 ∙ (λ i. of_all.low i -ℤ of_u.low i) ∙ low-rest u v

    pub bounded_behind : to_z w64 (of_z w64 (to_z w64 (of_z w64 whole.bounded) -ℤ to_z w64 (of_z w64 first.bounded))) ≡ links_bounded v
    bounded_behind = difference_seen whole.bounded first.bounded whole_small.1 first_small.1 ∙ (λ i. of_all.bounded i -ℤ of_u.bounded i) ∙ bounded-rest u v

    pub unbounded_behind : whole.unbounded - first.unbounded ≡ links_unbounded v
    unbounded_behind = (λ i. of_all.unbounded i - of_u.unbounded i) ∙ unbounded-rest u v

-- ---- what is behind the rules that two lists begin with

-- the sums of the rules behind the first ones, as `behind` tells them
abbrev pub AreBehind : Sums → Sums → Sums → Type 0
AreBehind shared whole r = (x y : List Link) → AreSums shared x → AreSums whole (x ++ y) → AreSums r y

module _ (shared a b : Sums) (u v : List Link) (parted : ArePartedBy shared u v) (of_u : AreSums a u) (of_v : AreSums b v) where
  pub high_second : (r : Sums) → AreBehind shared b r → (high : Bound) → high ≡ high_of r.bounded r.unbounded → high ≡ links_high parted.second
  high_second r behind high high_is = high_is ∙ high_from_sums r parted.second (behind parted.front parted.second parted.sums (subst (AreSums b) parted.second_is of_v))

  pub low_first : (r : Sums) → AreBehind shared a r → r.low ≡ links_low parted.first
  low_first r behind = (behind parted.front parted.first parted.sums (subst (AreSums a) parted.first_is of_u)).low

module _ (a b shared : Sums) (have : HaveParted a b shared) where
  pub front_first : IsFrontOf shared a
  front_first = record { front = have.parted.front; back = have.parted.first; light = subst AreLight have.parted.first_is have.light_u; of_front = have.parted.sums; of_all = subst (AreSums a) have.parted.first_is have.of_u }

  pub front_second : IsFrontOf shared b
  front_second = record { front = have.parted.front; back = have.parted.second; light = subst AreLight have.parted.second_is have.light_v; of_front = have.parted.sums; of_all = subst (AreSums b) have.parted.second_is have.of_v }

  pub high_second_small : (r : Sums) → AreBehind shared b r → (high : Bound) → high ≡ high_of r.bounded r.unbounded → IfFinite high (IsWithin 100000000000000)
  high_second_small r behind high high_is =
      subst (λ (x : Bound). IfFinite x (IsWithin 100000000000000)) (sym (high_second shared a b have.u have.v have.parted have.of_u have.of_v r behind high high_is))
      (high_small have.parted.second (AreLight-back have.parted.front have.parted.second (subst AreLight have.parted.second_is have.light_v)))

  low_first_within : (r : Sums) → AreBehind shared a r → IsUpTo 100000000000000 r.low
  low_first_within r behind =
      subst (IsUpTo 100000000000000) (sym (low_first shared a b have.u have.v have.parted have.of_u have.of_v r behind))
      (low_small have.parted.first (AreLight-back have.parted.front have.parted.first (subst AreLight have.parted.first_is have.light_u)))

  pub low_first_seen : (r : Sums) → AreBehind shared a r → to_z w64 (of_z w64 r.low) ≡ r.low
  low_first_seen r behind = low_seen r.low (low_first_within r behind)

  pub low_first_small : (r : Sums) → AreBehind shared a r → IsWithin 100000000000000 (to_z w64 (of_z w64 r.low))
  low_first_small r behind = seen_small r.low r.low refl (low_first_within r behind)
