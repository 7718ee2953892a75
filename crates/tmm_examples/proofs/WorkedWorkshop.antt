-- A workshop with a saw, a press and a crew: three cuts, three gluings, a deadline and two
-- protections.
use Rattle.std.proofs.Common.{◌≡◌, ◌++◌, ℕ, List, [], ◌∷◌, pos, negsuc}
use Rattle.std.specs.Prelude.{codes}
use Rattle.tmm_model.specs.declared.bound.Bound.TheVariants.{Finite, Free}
use Rattle.tmm_model.specs.declared.point.PointName.TheVariants.{Start, Begin, End}
use Rattle.tmm_model.specs.declared.premise.Edit.TheVariants.{Erase}
use Rattle.tmm_model.specs.declared.premise.Premise.{Premise}
use Rattle.tmm_model.specs.declared.premise.Premise.TheVariants.{Kind, Point, Event, Token, Span, Dist, Protect}
use Rattle.tmm_model.specs.Answers.{holds, fails, clipped, ask, size, reports}
use Rattle.tmm_model.specs.Bounds.{after}
use Rattle.tmm_model.specs.Changes.{changes, delta}
use Rattle.tmm_model.specs.Maps.{built, gap}
use Rattle.tmm_model.specs.Moments.{Moment, After}
use Rattle.tmm_model.specs.Standing.{Standing, far_in}
use Rattle.tmm_model.specs.Edits.{next_list}
use Rattle.belief_theory.proofs.FarTables.{by_table, of_map, of_maps}
use Rattle.tmm_examples.proofs.WorkedScripts.{within, class, rule, dated, root, effect}

abbrev between : List ℕ → List ℕ → List ℕ → ℕ → ℕ → Premise
between name p q lo hi = Dist name (Begin p) (Begin q) (Finite (pos lo)) (Finite (pos hi))

abbrev declarations : List Premise
declarations =
    class (codes "saw") (codes "saw-free" ∷ codes "saw-busy" ∷ [])
    ∷ class (codes "press") (codes "press-free" ∷ codes "press-busy" ∷ [])
    ∷ class (codes "crew") (codes "on-duty" ∷ codes "off-duty" ∷ [])
    ∷ Kind (codes "cut")
    ∷ Kind (codes "cut-end")
    ∷ Kind (codes "glue")
    ∷ Kind (codes "glue-end")
    ∷ []

-- the crew works from 0 to 480; both machines are free at 0
abbrev tokens_at_first : List Premise
tokens_at_first =
    Span (codes "day") (codes "on-duty")
    ∷ dated (codes "d0") (codes "day") 0
    ∷ Dist (codes "d1") (Begin (codes "day")) (End (codes "day")) (Finite (pos 480)) (Finite (pos 480))
    ∷ Token (codes "s0") (codes "saw-free")
    ∷ dated (codes "s1") (codes "s0") 0
    ∷ Token (codes "p0") (codes "press-free")
    ∷ dated (codes "p1") (codes "p0") 0
    ∷ []

abbrev events : List Premise
events =
    Event (codes "cut-a") (codes "cut")
    ∷ dated (codes "a1") (codes "cut-a") 10
    ∷ Event (codes "glue-a") (codes "glue")
    ∷ between (codes "a2") (codes "cut-a") (codes "glue-a") 35 40
    ∷ Event (codes "cut-b") (codes "cut")
    ∷ dated (codes "b1") (codes "cut-b") 60
    ∷ Event (codes "glue-b") (codes "glue")
    ∷ between (codes "b2") (codes "cut-b") (codes "glue-b") 45 50
    ∷ Event (codes "cut-c") (codes "cut")
    ∷ between (codes "c0") (codes "glue-b") (codes "cut-c") 5 10
    ∷ Event (codes "glue-c") (codes "glue")
    ∷ between (codes "c9") (codes "cut-c") (codes "glue-c") 60 60
    ∷ []

-- all is to be glued 50 before 300; then the crew is on duty, and the press is free at the second
-- gluing
abbrev wishes : List Premise
wishes =
    Point (codes "due")
    ∷ dated (codes "due1") (codes "due") 300
    ∷ Dist (codes "due2") (Begin (codes "glue-c")) (Begin (codes "due")) (Finite (pos 50)) Free
    ∷ Protect (codes "on") (codes "on-duty") Start (Begin (codes "due"))
    ∷ Protect (codes "ready") (codes "press-free") (Begin (codes "glue-b")) (Begin (codes "glue-b"))
    ∷ []

-- a machine that is free is busy from 1 after the start of its work to 1 after the end
abbrev saw_rules : List Premise
saw_rules =
    rule (codes "c3") (codes "cut-end") 1 1 (codes "saw-free") []
    ∷ rule (codes "c2") (codes "cut") 20 30 (codes "cut-end") (codes "saw-free" ∷ [])
    ∷ []

abbrev more_rules : List Premise
more_rules =
    rule (codes "c1") (codes "cut") 1 1 (codes "saw-busy") (codes "saw-free" ∷ [])
    ∷ rule (codes "g3") (codes "glue-end") 1 1 (codes "press-free") []
    ∷ rule (codes "g2") (codes "glue") 45 50 (codes "glue-end") (codes "press-free" ∷ [])
    ∷ rule (codes "g1") (codes "glue") 1 1 (codes "press-busy") (codes "press-free" ∷ [])
    ∷ []

abbrev plan : List Premise
plan = declarations ++ tokens_at_first ++ events ++ wishes ++ saw_rules ++ more_rules

abbrev workshop : Standing
workshop = within 1000 plan

-- all cuts and gluings go through
size_of_plan : size (built workshop) ≡ 69
size_of_plan = of_map size workshop

-- the saw is free at the second cut by the end of the first
saw_is_free : ask (built workshop) (codes "saw-free") (root (codes "cut-b")) (root (codes "cut-b")) ≡ holds (After (effect (codes "cut-a") (codes "c2")) (codes "c3"))
saw_is_free = of_map (λ m. ask m (codes "saw-free") (root (codes "cut-b")) (root (codes "cut-b"))) workshop

-- bounds cut-c glue-c/g2/g3
from_cut_to_glued : (gap (built workshop) (root (codes "cut-c")) (After (effect (codes "glue-c") (codes "g2")) (codes "g3")) ≡ Finite (pos 111))
    × (gap (built workshop) (After (effect (codes "glue-c") (codes "g2")) (codes "g3")) (root (codes "cut-c")) ≡ Finite (negsuc 105))
from_cut_to_glued = (
  of_map (λ m. gap m (root (codes "cut-c")) (After (effect (codes "glue-c") (codes "g2")) (codes "g3"))) workshop,
  of_map (λ m. gap m (After (effect (codes "glue-c") (codes "g2")) (codes "g3")) (root (codes "cut-c"))) workshop,
)

-- dist rush start glue-c * 160 closes a cycle of sum -10
too_soon : after (pos 160) (far_in plan (Begin (codes "glue-c")) Start) ≡ Finite (negsuc 9)
too_soon = by_table (λ far. after (pos 160) (far (Begin (codes "glue-c")) Start)) plan

-- ---- a jam of the press at 103: token jam press-busy / dist j1 start jam 103 103

abbrev jam : List Premise
jam = Token (codes "jam") (codes "press-busy") ∷ dated (codes "j1") (codes "jam") 103 ∷ []

abbrev jammed_sometime : Standing
jammed_sometime = within 1000 (plan ++ Token (codes "jam") (codes "press-busy") ∷ [])

abbrev jammed : Standing
jammed = within 1000 (plan ++ jam)

abbrev glue_end : List ℕ → Moment
glue_end glue = effect glue (codes "g2")

abbrev press_free : List ℕ → Moment
press_free glue = After (glue_end glue) (codes "g3")

abbrev press_busy : List ℕ → Moment
press_busy glue = effect glue (codes "g1")

-- the second and the third gluing fail
broken_ready : reports (built jammed)
    ≡ (codes "ready", fails ((root (codes "p0"), clipped (press_busy (codes "glue-a"))) ∷ (press_free (codes "glue-a"), clipped (root (codes "jam"))) ∷ []) 0) ∷ []
broken_ready = of_map reports jammed

jam_comes : changes jammed_sometime jammed ≡ record {
  erased = [];
  left =
      press_busy (codes "glue-b") ∷ glue_end (codes "glue-b") ∷ press_free (codes "glue-b")
      ∷ press_busy (codes "glue-c") ∷ glue_end (codes "glue-c") ∷ press_free (codes "glue-c") ∷ [];
  entered = [];
  loose = [];
  clips = (press_free (codes "glue-a"), root (codes "jam")) ∷ [];
  broken = (codes "ready", fails ((root (codes "p0"), clipped (press_busy (codes "glue-a"))) ∷ (press_free (codes "glue-a"), clipped (root (codes "jam"))) ∷ []) 0) ∷ [];
  mended = [];
}
jam_comes = of_maps delta jammed_sometime jammed

jam_goes : changes jammed (next_list jammed (Erase (codes "jam"))) ≡ record {
  erased = codes "jam" ∷ codes "j1" ∷ [];
  left = [];
  entered =
      press_busy (codes "glue-b") ∷ glue_end (codes "glue-b") ∷ press_free (codes "glue-b")
      ∷ press_busy (codes "glue-c") ∷ glue_end (codes "glue-c") ∷ press_free (codes "glue-c") ∷ [];
  loose = [];
  clips =
      (press_free (codes "glue-a"), press_busy (codes "glue-b"))
      ∷ (press_busy (codes "glue-b"), press_free (codes "glue-b"))
      ∷ (press_free (codes "glue-b"), press_busy (codes "glue-c"))
      ∷ (press_busy (codes "glue-c"), press_free (codes "glue-c")) ∷ [];
  broken = [];
  mended = codes "ready" ∷ [];
}
jam_goes = of_maps delta jammed (next_list jammed (Erase (codes "jam")))
