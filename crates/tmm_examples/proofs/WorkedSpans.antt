-- A span ends, and blames are cut.
use Rattle.std.proofs.Common.{◌≡◌, ℕ, List, [], ◌∷◌, pos}
use Rattle.std.specs.Prelude.{codes, None}
use Rattle.tmm_model.specs.declared.bound.Bound.TheVariants.{Finite}
use Rattle.tmm_model.specs.declared.point.PointName.TheVariants.{Start, Begin, End}
use Rattle.tmm_model.specs.declared.premise.Premise.TheVariants.{Point, Token, Span, Dist}
use Rattle.tmm_model.specs.Answers.{Fault, late, ends, holds, fails, ask, clip}
use Rattle.tmm_model.specs.Maps.{built}
use Rattle.tmm_model.specs.Moments.{Moment, At}
use Rattle.tmm_model.specs.Standing.{Standing}
use Rattle.belief_theory.proofs.FarTables.{of_map}
use Rattle.tmm_examples.proofs.WorkedScripts.{within, class, dated, root}

-- class w on off / span s on / dist a start s 0 0 / dist b s s.end 5 5 / point p / dist c start p 5
-- 5
abbrev work : Standing
work =
    within 1000 (
    class (codes "w") (codes "on" ∷ codes "off" ∷ [])
    ∷ Span (codes "s") (codes "on")
    ∷ dated (codes "a") (codes "s") 0
    ∷ Dist (codes "b") (Begin (codes "s")) (End (codes "s")) (Finite (pos 5)) (Finite (pos 5))
    ∷ Point (codes "p")
    ∷ dated (codes "c") (codes "p") 5 ∷ [])

abbrev s : Moment
s = root (codes "s")

-- the span does not last to its end, which is at p
not_to_the_end : ask (built work) (codes "on") s (root (codes "p")) ≡ fails ((s, ends) ∷ []) 0
not_to_the_end = of_map (λ t. ask t (codes "on") s (root (codes "p"))) work

at_its_begin : ask (built work) (codes "on") s s ≡ holds s
at_its_begin = of_map (λ t. ask t (codes "on") s s) work

never_clipped : clip (built work) s ≡ None
never_clipped = of_map (λ t. clip t s) work

-- class c f g / token t0 f to token t9 f
abbrev ten : Standing
ten =
    within 1000 (
    class (codes "c") (codes "f" ∷ codes "g" ∷ [])
    ∷ Token (codes "t0") (codes "f") ∷ Token (codes "t1") (codes "f") ∷ Token (codes "t2") (codes "f") ∷ Token (codes "t3") (codes "f") ∷ Token (codes "t4") (codes "f")
    ∷ Token (codes "t5") (codes "f") ∷ Token (codes "t6") (codes "f") ∷ Token (codes "t7") (codes "f") ∷ Token (codes "t8") (codes "f") ∷ Token (codes "t9") (codes "f") ∷ [])

abbrev is_late : List ℕ → Moment × Fault
is_late name = (root name, late)

-- 8 of the 10 tokens are blamed
eight_blames : ask (built ten) (codes "f") (At Start) (At Start)
    ≡ fails (is_late (codes "t0") ∷ is_late (codes "t1") ∷ is_late (codes "t2") ∷ is_late (codes "t3") ∷ is_late (codes "t4") ∷ is_late (codes "t5") ∷ is_late (codes "t6") ∷ is_late (codes "t7") ∷ []) 2
eight_blames = of_map (λ t. ask t (codes "f") (At Start) (At Start)) ten
