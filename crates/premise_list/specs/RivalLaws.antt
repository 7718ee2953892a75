-- What holds of two facts that contradict each other, in every list.
use Rattle.std.proofs.Common.{◌≡◌, Bool, true, false, not, ◌&&◌, ◌||◌, List, [], ◌∷◌, ℕ, refl, ap, sym, ◌∙◌}
use Rattle.std.specs.List.{list_any}
use Rattle.tmm_model.specs.declared.premise.Premise.{Premise}
use Rattle.tmm_model.specs.declared.premise.Premise.TheVariants.{Class, Kind, Point, Event, Token, Span, Dist, Rule, Protect, Against}
use Rattle.tmm_model.specs.Beliefs.{says_against, are_rivals}
use Rattle.tmm_model.specs.Points.{same_name}
use Rattle.tmm_model.specs.Standing.{Standing}
use Rattle.walk_theory.proofs.Points.{same_name-is, same_name-self}

-- no premise sets a fact against itself
pub no_rival_of_itself : (s : Standing) (f : List ℕ) → are_rivals s f f ≡ false
no_rival_of_itself s f = ap (λ b. not b && list_any (says_against f f) s.premises) (same_name-self f)

same_name-swap : (f g : List ℕ) → same_name f g ≡ same_name g f
same_name-swap f g = by (same_name f g) refl (same_name g f) refl
  where
    by : (a : Bool) → same_name f g ≡ a → (b : Bool) → same_name g f ≡ b → same_name f g ≡ same_name g f
    by true e true d = e ∙ sym d
    by false e false d = e ∙ sym d
    by true e false d = let turned : same_name g f ≡ true = ap (same_name g) (same_name-is f g e) ∙ same_name-self g in cc
    by false e true d = let turned : same_name f g ≡ true = ap (same_name f) (same_name-is g f d) ∙ same_name-self f in cc

either_order : (a b : Bool) → (a || b) ≡ (b || a)
either_order true true = refl
either_order true false = refl
either_order false true = refl
either_order false false = refl

turned_round : (f g : List ℕ) (p : Premise) → says_against f g p ≡ says_against g f p
turned_round f g (Class name facts) = refl
turned_round f g (Kind name) = refl
turned_round f g (Point name) = refl
turned_round f g (Event name kind) = refl
turned_round f g (Token name fact) = refl
turned_round f g (Span name fact) = refl
turned_round f g (Dist name from to lo hi) = refl
turned_round f g (Rule name trigger lo hi effect given unless_facts) = refl
turned_round f g (Protect name fact from to) = refl
turned_round f g (Against name one other) = either_order (same_name one f && same_name other g) (same_name one g && same_name other f)

all_turned_round : (f g : List ℕ) (ps : List Premise) → list_any (says_against f g) ps ≡ list_any (says_against g f) ps
all_turned_round f g [] = refl
all_turned_round f g (p ∷ ps) = λ i. turned_round f g p i || all_turned_round f g ps i

-- where one fact contradicts another, the other contradicts it
pub rivals_of_each_other : (s : Standing) (f g : List ℕ) → are_rivals s f g ≡ are_rivals s g f
rivals_of_each_other s f g = λ i. not (same_name-swap f g i) && all_turned_round f g s.premises i
