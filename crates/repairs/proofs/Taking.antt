-- What might be taken from the premise at a place.
use Rattle.std.proofs.Common.{◌≡◌, ◌<◌, ℕ, ℤ, false, List, [], ◌∷◌, ◌++◌, length, refl, sym, subst, ap}
use Rattle.std.specs.Prelude.{Some, slice_get, unwrap_or}
use Rattle.std.specs.List.{All, flat_map}
use Rattle.std.proofs.lemmas.List.Elements.{All-contains}
use Rattle.tmm_model.specs.declared.bound.Bound.TheVariants.{Finite}
use Rattle.tmm_model.specs.declared.fix.Fix.{Fix}
use Rattle.tmm_model.specs.declared.fix.Fix.TheVariants.{Erase as ErasePremise, LoosenLo, LoosenHi}
use Rattle.tmm_model.specs.declared.point.PointName.{PointName}
use Rattle.tmm_model.specs.declared.premise.Premise.{Premise}
use Rattle.tmm_model.specs.declared.premise.Premise.TheVariants.{Class, Kind, Point, Event, Token, Span, Dist, Rule, Protect, Against}
use Rattle.tmm_model.specs.Answers.{Finding, holds, fails, unordered, does_hold}
use Rattle.tmm_model.specs.Lines.{IsName, IsWellFormedPremise}
use Rattle.tmm_model.specs.Standing.{Standing, name_of}
use Rattle.list_theory.proofs.Elements.{In-slice_get, Contains-from_In}
use Rattle.repairs.specs.Repairs.{added_for, candidates_for, taken_from}
use Rattle.repairs.proofs.Growing.{Grows, Grows-append, one_got}

-- the name of a well-formed premise is a name
name_formed : (p : Premise) → IsWellFormedPremise p → IsName (name_of p)
name_formed (Class name facts) formed = formed.0
name_formed (Kind name) formed = formed
name_formed (Point name) formed = formed
name_formed (Event name kind) formed = formed.0
name_formed (Token name fact) formed = formed.0
name_formed (Span name fact) formed = formed.0
name_formed (Dist name from to lo hi) formed = formed.0
name_formed (Rule name trigger lo hi effect given unless_facts) formed = formed.0
name_formed (Protect name fact from to) formed = formed.0
name_formed (Against name one other) formed = formed.0

pub name_at : (ps : List Premise) → All IsWellFormedPremise ps → (i : ℕ) → i < length ps → (name : List ℕ) → ((p : Premise) → slice_get ps i ≡ Some p → name ≡ name_of p) → IsName name
name_at ps formed i within name named =
    let (p, got, more) = one_got ps i within in
    subst IsName (sym (named p got)) (name_formed p (All-contains IsWellFormedPremise ps p formed (Contains-from_In ps p (In-slice_get ps i p got))))

-- an erasure and both loosened constraints are what might be taken from a constraint
pub grown : (P : Fix → Type 0) (erased name : List ℕ) (from to : PointName) (lo hi : ℤ) (p : Premise) (old middle new : List Fix) → erased ≡ name → Some (Dist name from to (Finite lo) (Finite hi)) ≡ Some p
    → Grows P (ErasePremise erased ∷ []) old middle → Grows P (LoosenLo name ∷ LoosenHi name ∷ []) middle new → Grows P (taken_from p) old new
grown P erased name from to lo hi p old middle new named is first second =
    let whole : Dist name from to (Finite lo) (Finite hi) ≡ p = ap (λ o. unwrap_or o (Dist name from to (Finite lo) (Finite hi))) is in
    subst (λ q. Grows P (taken_from q) old new) whole
    (Grows-append P (ErasePremise name ∷ []) (LoosenLo name ∷ LoosenHi name ∷ []) old middle new (subst (λ n. Grows P (ErasePremise n ∷ []) old middle) named first) second)

-- what is not found to hold has constraints and premises for candidates
pub candidates_broken : (s : Standing) (p q : PointName) (found : Finding) → does_hold found ≡ false → candidates_for s p q found ≡ added_for p q found ++ flat_map taken_from s.premises
candidates_broken s p q (holds k) never = cc
candidates_broken s p q (fails blames more) is = refl
candidates_broken s p q unordered is = refl
