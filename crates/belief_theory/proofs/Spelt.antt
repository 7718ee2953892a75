-- Occurrences of a well-formed list are spelt: their names have no `/`, so their words tell them
-- apart.
use Rattle.std.proofs.Common.{◌≡◌, ℕ, true, ◌&&◌, List, [], ◌∷◌, length, sym, subst, inl, inr}
use Rattle.std.specs.Prelude.{Some, nat_le}
use Rattle.std.specs.List.{All, list_all}
use Rattle.std.proofs.lemmas.List.Elements.{All-contains}
use Rattle.tmm_model.specs.declared.point.PointName.{PointName}
use Rattle.tmm_model.specs.declared.point.PointName.TheVariants.{Begin}
use Rattle.tmm_model.specs.declared.premise.Premise.{Premise}
use Rattle.tmm_model.specs.declared.premise.Premise.TheVariants.{Class, Kind, Point, Event, Token, Span, Dist, Rule, Protect, Against}
use Rattle.tmm_model.specs.Beliefs.{root_of, roots}
use Rattle.tmm_model.specs.Lines.{IsName, IsWellFormedPremise}
use Rattle.tmm_model.specs.Moments.{Moment, At, After}
use Rattle.tmm_model.specs.Names.{is_letter, is_name_byte}
use Rattle.belief_theory.specs.Right.{Occurs}
use Rattle.tmm_model.specs.Standing.{Standing, name_of}
use Rattle.list_theory.proofs.Elements.{In, both, In-from_Contains, Contains-from_In, In-filter_map}
use Rattle.belief_theory.proofs.Order.{IsSpelt}
use Rattle.belief_theory.proofs.Sound.{rule_stands}

no_slash_in : (bs : List ℕ) → list_all is_name_byte bs ≡ true → In 47 bs → ⊥
no_slash_in [] h at = absurd at
no_slash_in (b ∷ bs) h (inl is) = let t : is_name_byte 47 ≡ true = subst (λ z. is_name_byte z ≡ true) is (both (is_name_byte b) (list_all is_name_byte bs) h).0 in cc
no_slash_in (b ∷ bs) h (inr at) = no_slash_in bs (both (is_name_byte b) (list_all is_name_byte bs) h).1 at

-- a name has no `/`
pub no_slash : (name : List ℕ) → IsName name → In 47 name → ⊥
no_slash [] h at = absurd at
no_slash (b ∷ bs) h (inl is) =
    let first = (both (is_letter b) (list_all is_name_byte bs) (both (is_letter b && list_all is_name_byte bs) (nat_le (length bs) 23) h).0).0 in
    let t : is_letter 47 ≡ true = subst (λ z. is_letter z ≡ true) is first in
    cc
no_slash (b ∷ bs) h (inr at) = no_slash_in bs (both (is_letter b) (list_all is_name_byte bs) (both (is_letter b && list_all is_name_byte bs) (nat_le (length bs) 23) h).0).1 at

own_name : (p : Premise) → IsWellFormedPremise p → IsName (name_of p)
own_name (Class name facts) h = h.0
own_name (Kind name) h = h
own_name (Point name) h = h
own_name (Event name kind) h = h.0
own_name (Token name fact) h = h.0
own_name (Span name fact) h = h.0
own_name (Dist name from to lo hi) h = h.0
own_name (Rule name trigger lo hi effect given unless_facts) h = h.0
own_name (Protect name fact from to) h = h.0
own_name (Against name one other) h = h.0

root_name : (p : Premise) (q : PointName) → root_of p ≡ Some (At q) → q ≡ Begin (name_of p)
root_name (Event name kind) q e = cc
root_name (Token name fact) q e = cc
root_name (Span name fact) q e = cc
root_name (Class name facts) q e = cc
root_name (Kind name) q e = cc
root_name (Point name) q e = cc
root_name (Dist name from to lo hi) q e = cc
root_name (Rule name trigger lo hi effect given unless_facts) q e = cc
root_name (Protect name fact from to) q e = cc
root_name (Against name one other) q e = cc

pub spelt : (s : Standing) → All IsWellFormedPremise s.premises → (x : Moment) → Occurs s x → IsSpelt x
spelt s formed (At q) h =
    let (p, at, e) = In-filter_map root_of s.premises (At q) (In-from_Contains (roots s) (At q) h) in
    let name = own_name p (All-contains IsWellFormedPremise s.premises p formed (Contains-from_In s.premises p at)) in
    subst (λ z. IsSpelt (At z)) (sym (root_name p q e)) (no_slash (name_of p) name)
spelt s formed (After t r) h =
    let (p, at, named, _, _) = rule_stands s t r h.1 in
    let name = own_name p (All-contains IsWellFormedPremise s.premises p formed (Contains-from_In s.premises p at)) in
    (spelt s formed t h.0, subst (λ n. In 47 n → ⊥) named (no_slash (name_of p) name))
