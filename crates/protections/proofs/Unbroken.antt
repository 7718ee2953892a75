-- Premises that are no protections.
use Rattle.std.proofs.Common.{◌≡◌, ℕ, List, refl}
use Rattle.std.specs.Prelude.{Some, None}
use Rattle.tmm_model.specs.declared.point.PointName.{PointName}
use Rattle.tmm_model.specs.declared.premise.Premise.{Premise}
use Rattle.tmm_model.specs.declared.premise.Premise.TheVariants.{Class, Kind, Point, Event, Token, Span, Dist, Rule, Protect, Against}
use Rattle.tmm_model.specs.Answers.{broken}
use Rattle.tmm_model.specs.Changes.{protection_name}
use Rattle.tmm_model.specs.Maps.{TimeMap}
use Rattle.tmm_model.specs.Standing.{name_of}

-- what is no protection is never reported
pub unbroken : (m : TimeMap) (p : Premise) → protection_name p ≡ None → broken m p ≡ None
unbroken m (Class name facts) none = refl
unbroken m (Kind name) none = refl
unbroken m (Point name) none = refl
unbroken m (Event name kind) none = refl
unbroken m (Token name fact) none = refl
unbroken m (Span name fact) none = refl
unbroken m (Dist name from to lo hi) none = refl
unbroken m (Rule name trigger lo hi effect given unless_facts) none = refl
unbroken m (Protect name fact from to) none = cc
unbroken m (Against name one other) none = refl

-- the name of a protection is that of the premise
pub name_is : (p : Premise) (name : List ℕ) → protection_name p ≡ Some name → name_of p ≡ name
name_is (Protect own fact from to) name is = cc
name_is (Class own facts) name is = cc
name_is (Kind own) name is = cc
name_is (Point own) name is = cc
name_is (Event own kind) name is = cc
name_is (Token own fact) name is = cc
name_is (Span own fact) name is = cc
name_is (Dist own from to lo hi) name is = cc
name_is (Rule own trigger lo hi effect given unless_facts) name is = cc
name_is (Against own one other) name is = cc

pub no_protection : (p : Premise) → ((name fact : List ℕ) (from to : PointName) → p ≡ Protect name fact from to → ⊥) → protection_name p ≡ None
no_protection (Protect name fact from to) never = absurd (never name fact from to refl)
no_protection (Class name facts) never = refl
no_protection (Kind name) never = refl
no_protection (Point name) never = refl
no_protection (Event name kind) never = refl
no_protection (Token name fact) never = refl
no_protection (Span name fact) never = refl
no_protection (Dist name from to lo hi) never = refl
no_protection (Rule name trigger lo hi effect given unless_facts) never = refl
no_protection (Against name one other) never = refl
