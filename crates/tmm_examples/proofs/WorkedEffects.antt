-- Events with rules: what they bring about, when, and what that clips.
use Rattle.std.proofs.Common.{◌≡◌, ◌++◌, [], ◌∷◌, pos, negsuc}
use Rattle.std.specs.Prelude.{codes, Some}
use Rattle.tmm_model.specs.declared.bound.Bound.TheVariants.{Finite}
use Rattle.belief_theory.specs.Outcomes.{outcome, fires, blocked, barred, beyond}
use Rattle.tmm_model.specs.declared.premise.Premise.TheVariants.{Token}
use Rattle.tmm_model.specs.Maps.{built, gap}
use Rattle.tmm_model.specs.Answers.{holds, clip, ask, size}
use Rattle.tmm_model.specs.Moments.{Moment, early}
use Rattle.tmm_model.specs.Standing.{Standing}
use Rattle.belief_theory.proofs.FarTables.{of_map}
use Rattle.tmm_examples.proofs.WorkedScripts.{within, within_two, bolted_door, dated, root, effect, rule, push, two_events, lamp, shut_at_five, push_at_ten}

abbrev k : Moment
k = root (codes "k")

abbrev e : Moment
e = root (codes "e")

abbrev er : Moment
er = effect (codes "e") (codes "r")

-- ---- a push shuts an open door, 1 to 2 after it

abbrev pushed : Standing
pushed = within 1000 push

believed : (built pushed).believed ≡ k ∷ e ∷ er ∷ []
believed = of_map (λ t. t.believed) pushed

-- its effect is due at 11 at the earliest
dates : (early (built pushed).list (built pushed).far e ≡ pos 10) × (early (built pushed).list (built pushed).far er ≡ pos 11)
dates = (of_map (λ t. early t.list t.far e) pushed, of_map (λ t. early t.list t.far er) pushed)

clipped_by_effect : clip (built pushed) k ≡ Some er
clipped_by_effect = of_map (λ t. clip t k) pushed

from_trigger : (gap (built pushed) e er ≡ Finite (pos 2)) × (gap (built pushed) er e ≡ Finite (negsuc 0))
from_trigger = (of_map (λ t. gap t e er) pushed, of_map (λ t. gap t er e) pushed)

fired : outcome (built pushed).list (built pushed).far (built pushed).believed e (codes "r") ≡ fires (k ∷ [])
fired = of_map (λ t. outcome t.list t.far t.believed e (codes "r")) pushed

-- 2 occurrences, of which the event has a rule on it, and an effect with its rule
size_of_push : size (built pushed) ≡ 5
size_of_push = of_map size pushed

-- a horizon before the effect
too_late : outcome (built (within 10 push)).list (built (within 10 push)).far (built (within 10 push)).believed e (codes "r") ≡ beyond
too_late = of_map (λ t. outcome t.list t.far t.believed e (codes "r")) (within 10 push)

-- ---- two effects of one event have its date in common: rule q push 4 6 open

abbrev siblings : Standing
siblings = within 1000 (push ++ rule (codes "q") (codes "push") 4 6 (codes "open") [] ∷ [])

abbrev eq : Moment
eq = effect (codes "e") (codes "q")

apart_as_delays : (gap (built siblings) er eq ≡ Finite (pos 5)) × (gap (built siblings) eq er ≡ Finite (negsuc 1))
apart_as_delays = (of_map (λ t. gap t er eq) siblings, of_map (λ t. gap t eq er) siblings)

clipped_by_sibling : clip (built siblings) er ≡ Some eq
clipped_by_sibling = of_map (λ t. clip t er) siblings

-- ---- two events of unknown order, each with an effect that contradicts the other's antecedent

abbrev crossed : Standing
crossed = within 1000 two_events

abbrev fs : Moment
fs = effect (codes "f") (codes "s")

both_fire : (built crossed).believed ≡ root (codes "p") ∷ root (codes "q") ∷ e ∷ root (codes "f") ∷ er ∷ fs ∷ []
both_fire = of_map (λ t. t.believed) crossed

both_clip : (clip (built crossed) (root (codes "q")) ≡ Some er) × (clip (built crossed) (root (codes "p")) ≡ Some fs)
both_clip = (of_map (λ t. clip t (root (codes "q"))) crossed, of_map (λ t. clip t (root (codes "p"))) crossed)

both_hold : (ask (built crossed) (codes "b2") er er ≡ holds er) × (ask (built crossed) (codes "a2") fs fs ≡ holds fs)
both_hold = (of_map (λ t. ask t (codes "b2") er er) crossed, of_map (λ t. ask t (codes "a2") fs fs) crossed)

-- ---- a door that was shut before blocks the rule on the push

abbrev shut_before : Standing
shut_before = within 1000 (lamp ++ shut_at_five ++ push_at_ten)

blocked_at_first : outcome (built shut_before).list (built shut_before).far (built shut_before).believed e (codes "r") ≡ blocked 0
blocked_at_first = of_map (λ t. outcome t.list t.far t.believed e (codes "r")) shut_before

-- ---- a bolt that is fast bars the rule on the push, and one that was loosened before does not

abbrev bolted : Standing
bolted = within_two 1000 bolted_door

abbrev unbolted : Standing
unbolted = within_two 1000 (bolted_door ++ Token (codes "c") (codes "loose") ∷ dated (codes "w") (codes "c") 5 ∷ [])

barred_by_the_bolt : outcome (built bolted).list (built bolted).far (built bolted).believed e (codes "r") ≡ barred 0
barred_by_the_bolt = of_map (λ t. outcome t.list t.far t.believed e (codes "r")) bolted

fires_unbolted : outcome (built unbolted).list (built unbolted).far (built unbolted).believed e (codes "r") ≡ fires (root (codes "k") ∷ [])
fires_unbolted = of_map (λ t. outcome t.list t.far t.believed e (codes "r")) unbolted
