-- Laws of moments: when two are the same, and their words.
use Rattle.std.proofs.Common.{◌≡◌, ◌∙◌, ℕ, true, ◌&&◌, List, [], ◌∷◌, ◌++◌, refl, sym, ap, append_assoc, append-nil}
use Rattle.std.specs.Bool.{Decides}
use Rattle.std.specs.Cmp.Lexicographic.{bytes_decides, nat_list_eq_equiv}
use Rattle.tmm_model.specs.declared.point.Occ.{Occ}
use Rattle.tmm_model.specs.Moments.{Moment, At, After, same_moment, along, moment_of, printed, rules, base}
use Rattle.tmm_model.specs.Points.{same_name, slashed, occ_word}
use Rattle.list_theory.proofs.Elements.{both}
use Rattle.walk_theory.proofs.Points.{Decides-same_point}

same_is : (x y : Moment) → same_moment x y ≡ true → x ≡ y
same_is (At p) (At q) e = ap At ((Decides-same_point p q).0 e)
same_is (At p) (After u q) e = cc
same_is (After t r) (At q) e = cc
same_is (After t r) (After u q) e =
    let h = both (same_name r q) (same_moment t u) e in
    let triggers = same_is t u h.1 in
    let names = (bytes_decides r q).0 h.0 in
    λ i. After (triggers i) (names i)

same_itself : (x : Moment) → same_moment x x ≡ true
same_itself (At p) = (Decides-same_point p p).1 refl
same_itself (After t r) = λ i. nat_list_eq_equiv.refl r i && same_itself t i

pub Decides-same_moment : (x y : Moment) → Decides (same_moment x y) (x ≡ y)
Decides-same_moment x y = (same_is x y, λ e. ap (same_moment x) (sym e) ∙ same_itself x)

-- ---- words

printed-along : (t : Moment) (rs : List (List ℕ)) → printed (along t rs) ≡ printed t ++ slashed rs
printed-along t [] = sym (append-nil (printed t))
printed-along t (r ∷ rs) = printed-along (After t r) rs ∙ append_assoc (printed t) (47 ∷ r) (slashed rs)

-- **The word of an occurrence is that of its moment.**
pub printed-moment_of : (o : Occ) → printed (moment_of o) ≡ occ_word o
printed-moment_of o = printed-along _ o.rules.items

-- ---- the moment that rules lead to

pub along-append : (t : Moment) (rs qs : List (List ℕ)) → along t (rs ++ qs) ≡ along (along t rs) qs
along-append t [] qs = refl
along-append t (r ∷ rs) qs = along-append (After t r) rs qs

pub along-push : (t : Moment) (rs : List (List ℕ)) (r : List ℕ) → along t (rs ++ r ∷ []) ≡ After (along t rs) r
along-push t rs r = along-append t rs (r ∷ [])

pub rules-along : (t : Moment) (rs : List (List ℕ)) → rules (along t rs) ≡ rules t ++ rs
rules-along t [] = sym (append-nil (rules t))
rules-along t (r ∷ rs) = rules-along (After t r) rs ∙ append_assoc (rules t) (r ∷ []) rs

pub base-along : (t : Moment) (rs : List (List ℕ)) → base (along t rs) ≡ base t
base-along t [] = refl
base-along t (r ∷ rs) = base-along (After t r) rs
