-- The timelines of two worked scripts.
use Rattle.std.proofs.Common.{◌≡◌, List, [], ◌∷◌, pos}
use Rattle.std.specs.Prelude.{codes, Some, None}
use Rattle.tmm_model.specs.declared.bound.Bound.TheVariants.{Finite, Free}
use Rattle.tmm_model.specs.declared.point.PointName.TheVariants.{Start, Begin}
use Rattle.tmm_model.specs.declared.premise.Premise.{Premise}
use Rattle.tmm_model.specs.declared.premise.Premise.TheVariants.{Class, Kind, Event, Token, Dist, Rule}
use Rattle.tmm_model.specs.declared.version.Version.TheVariants.{One}
use Rattle.tmm_model.specs.Maps.{built}
use Rattle.tmm_model.specs.Moments.{At, After}
use Rattle.tmm_model.specs.Standing.{Standing}
use Rattle.belief_theory.proofs.FarTables.{of_map}
use Rattle.timeline.specs.Days.{before_day, point_dates, played_rows, played_size}

-- class door open shut / kind push / rule r push 1 3 shut if open / token k open / event e push, and
-- these
abbrev door : List Premise → Standing
door premises = record {
  version = One;
  horizon = 12;
  premises =
      Class (codes "door") (record { items = codes "open" ∷ codes "shut" ∷ [] })
      ∷ Kind (codes "push")
      ∷ Rule (codes "r") (codes "push") (pos 1) (Finite (pos 3)) (codes "shut") (record { items = codes "open" ∷ [] }) (record { items = [] })
      ∷ Token (codes "k") (codes "open")
      ∷ Event (codes "e") (codes "push") ∷ premises;
}

-- the effect is not believed, as the push may come before the token; at the earliest dates it is
-- played, and ends the token
open_door : played_rows (built (door []))
    ≡ record { date = pos 0; occ = At (Begin (codes "e")); what = codes "push"; until = None }
    ∷ record { date = pos 0; occ = At (Begin (codes "k")); what = codes "open"; until = Some (Finite (pos 1)) }
    ∷ record { date = pos 1; occ = After (At (Begin (codes "e"))) (codes "r"); what = codes "shut"; until = Some Free }
    ∷ []
unfolding before_day
open_door = of_map played_rows (door [])

-- dist d start e 10 10
abbrev pushed : Standing
pushed = door (Dist (codes "d") Start (Begin (codes "e")) (Finite (pos 10)) (Finite (pos 10)) ∷ [])

late_push : played_rows (built pushed)
    ≡ record { date = pos 0; occ = At (Begin (codes "k")); what = codes "open"; until = Some (Finite (pos 11)) }
    ∷ record { date = pos 10; occ = At (Begin (codes "e")); what = codes "push"; until = None }
    ∷ record { date = pos 11; occ = After (At (Begin (codes "e"))) (codes "r"); what = codes "shut"; until = Some Free }
    ∷ []
unfolding before_day
late_push = of_map played_rows pushed

late_dates : point_dates (built pushed) ≡ (Begin (codes "k"), pos 0) ∷ (Begin (codes "e"), pos 10) ∷ []
late_dates = of_map point_dates pushed

-- 3 occurrences, of which the event has a rule on it, and an effect with its rule
late_size : played_size (built pushed) ≡ 5
unfolding before_day
late_size = of_map played_size pushed
