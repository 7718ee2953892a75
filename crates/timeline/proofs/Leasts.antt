-- The least of bounds.
use Rattle.std.proofs.Common.{◌≡◌, ◌∙◌, ℕ, zero, suc, ◌+◌, ◌<◌, Bool, true, false, List, [], ◌∷◌, ◌++◌, map, take, length, cond, refl, sym, ap, inl, inr, arith}
use Rattle.std.specs.Prelude.{ℤ, slice_set, slice_index_or, filter}
use Rattle.std.specs.Int.{int_min}
use Rattle.std.proofs.lemmas.Int.{ints, int_min_is}
use Rattle.std.proofs.lemmas.List.{take_more}
use Rattle.tmm_model.specs.declared.bound.Bound.{Bound}
use Rattle.tmm_model.specs.declared.bound.Bound.TheVariants.{Finite, Free}
use Rattle.tmm_model.specs.Bounds.{lesser}
use Rattle.list_theory.proofs.Elements.{In}
use Rattle.timeline.specs.declared.row.Held.{Held}
use Rattle.timeline.specs.declared.until.Coming.{Coming}
use Rattle.timeline.specs.Until.{least_by, bound_if, coming_bound}

min_assoc : (a b c : ℤ) → int_min (int_min a b) c ≡ int_min a (int_min b c)
min_assoc a b c = omega (arith, ints, int_min_is a b, int_min_is (int_min a b) c, int_min_is b c, int_min_is a (int_min b c))

min_comm : (a b : ℤ) → int_min a b ≡ int_min b a
min_comm a b = omega (arith, ints, int_min_is a b, int_min_is b a)

pub lesser_assoc : (a b c : Bound) → lesser (lesser a b) c ≡ lesser a (lesser b c)
lesser_assoc Free b c = refl
lesser_assoc (Finite x) Free c = refl
lesser_assoc (Finite x) (Finite y) Free = refl
lesser_assoc (Finite x) (Finite y) (Finite z) = ap Finite (min_assoc x y z)

lesser_comm : (a b : Bound) → lesser a b ≡ lesser b a
lesser_comm Free Free = refl
lesser_comm Free (Finite y) = refl
lesser_comm (Finite x) Free = refl
lesser_comm (Finite x) (Finite y) = ap Finite (min_comm x y)

pub lesser_swap : (a b c : Bound) → lesser a (lesser b c) ≡ lesser b (lesser a c)
lesser_swap a b c = sym (lesser_assoc a b c) ∙ ap (λ x. lesser x c) (lesser_comm a b) ∙ lesser_assoc b a c

pub lesser-free : (a : Bound) → lesser a Free ≡ a
lesser-free Free = refl
lesser-free (Finite x) = refl

module _ {X : Type 0} (f : X → Bound) where
  least_by-push : (xs : List X) (x : X) → least_by f (xs ++ x ∷ []) ≡ lesser (least_by f xs) (f x)
  least_by-push [] x = lesser-free (f x)
  least_by-push (y ∷ xs) x = ap (lesser (f y)) (least_by-push xs x) ∙ sym (lesser_assoc (f y) (least_by f xs) (f x))

  -- one more of a list
  pub least_by_more : (xs : List X) (i : ℕ) (x : X) → i < length xs → x ≡ slice_index_or xs i x → least_by f (take (i + 1) xs) ≡ lesser (least_by f (take i xs)) (f x)
  least_by_more xs i x below is = ap (least_by f) (take_more xs i x below ∙ ap (λ y. take i xs ++ y ∷ []) (sym is)) ∙ least_by-push (take i xs) x

  pub least_by-filter : (p : X → Bool) (xs : List X) → least_by f (filter p xs) ≡ least_by (λ x. cond (p x) (f x) Free) xs
  least_by-filter p [] = refl
  least_by-filter p (x ∷ xs) = by (p x) (least_by-filter p xs)
    where
      by : (b : Bool) → least_by f (filter p xs) ≡ least_by (λ x. cond (p x) (f x) Free) xs → least_by f (cond b (x ∷ filter p xs) (filter p xs)) ≡ lesser (cond b (f x) Free) (least_by (λ x. cond (p x) (f x) Free) xs)
      by true again = ap (lesser (f x)) again
      by false again = again

pub least_by-map : {X Y : Type 0} (g : X → Y) (f : Y → Bound) (xs : List X) → least_by f (map g xs) ≡ least_by (λ x. f (g x)) xs
least_by-map g f [] = refl
least_by-map g f (x ∷ xs) = ap (lesser (f (g x))) (least_by-map g f xs)

pub least_by-same : {X : Type 0} (f g : X → Bound) (xs : List X) → ((x : X) → In x xs → f x ≡ g x) → least_by f xs ≡ least_by g xs
least_by-same f g [] same = refl
least_by-same f g (x ∷ xs) same = λ i. lesser (same x (inl refl) i) (least_by-same f g xs (λ y at. same y (inr at)) i)

pub least_by-both : {X : Type 0} (f g : X → Bound) (xs : List X) → lesser (least_by f xs) (least_by g xs) ≡ least_by (λ x. lesser (f x) (g x)) xs
least_by-both f g [] = refl
least_by-both f g (x ∷ xs) =
    lesser_assoc (f x) (least_by f xs) (lesser (g x) (least_by g xs))
    ∙ ap (lesser (f x)) (lesser_swap (least_by f xs) (g x) (least_by g xs) ∙ ap (lesser (g x)) (least_by-both f g xs))
    ∙ sym (lesser_assoc (f x) (g x) (least_by (λ x. lesser (f x) (g x)) xs))

-- ---- what comes, noted

if_min : (b : Bool) (x d : ℤ) (rest : Bound) → lesser (bound_if b (int_min x d)) rest ≡ lesser (bound_if b d) (lesser (bound_if b x) rest)
if_min false x d rest = refl
if_min true x d rest = ap (λ z. lesser (Finite z) rest) (min_comm x d) ∙ lesser_assoc (Finite d) (Finite x) rest

pub least_by-noted : (q : Held → Bool) (cs : List Coming) (i : ℕ) (c : Coming) (h : Held) (d : ℤ) (new : Coming) → i < length cs → c ≡ slice_index_or cs i c → c.held ≡ h → new.held ≡ c.held → new.date ≡ int_min c.date d
    → least_by (coming_bound q) (slice_set cs i new) ≡ lesser (bound_if (q h) d) (least_by (coming_bound q) cs)
least_by-noted q [] i c h d new below at is held dated = absurd (omega arith)
least_by-noted q (y ∷ cs) zero c h d new below at is held dated =
    (λ i. lesser (bound_if (q ((held ∙ is) i)) (dated i)) (least_by (coming_bound q) cs))
    ∙ if_min (q h) c.date d (least_by (coming_bound q) cs)
    ∙ (λ i. lesser (bound_if (q h) d) (lesser (bound_if (q (sym is i)) c.date) (least_by (coming_bound q) cs)))
    ∙ ap (λ z. lesser (bound_if (q h) d) (lesser (coming_bound q z) (least_by (coming_bound q) cs))) at
least_by-noted q (y ∷ cs) (suc i) c h d new below at is held dated =
    ap (lesser (coming_bound q y)) (least_by-noted q cs i c h d new (omega arith) at is held dated)
    ∙ lesser_swap (coming_bound q y) (bound_if (q h) d) (least_by (coming_bound q) cs)

pub least_by-first : (q : Held → Bool) (cs : List Coming) (h : Held) (d : ℤ) (new : Coming) (ds : List Coming) → ds ≡ cs ++ new ∷ [] → new.held ≡ h → new.date ≡ d → least_by (coming_bound q) ds ≡ lesser (bound_if (q h) d) (least_by (coming_bound q) cs)
least_by-first q cs h d new ds grown held dated =
    ap (least_by (coming_bound q)) grown ∙ least_by-push (coming_bound q) cs new ∙ lesser_comm (least_by (coming_bound q) cs) (coming_bound q new)
    ∙ (λ i. lesser (bound_if (q (held i)) (dated i)) (least_by (coming_bound q) cs))
