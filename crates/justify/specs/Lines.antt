-- Lines of reasons, one after the other.
use Rattle.std.specs.Prelude.{◌≡◌, List, [], ◌∷◌, ◌++◌, map, IsTrue}
use Rattle.std.specs.List.{AllZip}
use Rattle.tmm_model.specs.declared.changes.WhyLine.{WhyLine}
use Rattle.tmm_model.specs.Maps.{TimeMap, gap}
use Rattle.tmm_model.specs.Moments.{Moment}
use Rattle.tmm_model.specs.Reasons.{Reason, reason_of, belief_line, pairs, IsOrderLine, AreReasons}
use Rattle.tmm_model.specs.Tokens.{is_by}

-- the first is surely at or before the second
abbrev pub IsInOrder : TimeMap → Moment × Moment → Type 0
IsInOrder m pair = IsTrue (is_by (gap m) pair.0 pair.1)

-- the lines are those of the orders of these pairs
abbrev pub AreOrders : TimeMap → List (Moment × Moment) → List WhyLine → Type 0
AreOrders m in_order found = AllZip (IsOrderLine m) in_order (map reason_of found)

-- the lines are those of the occurrence x: the orders that it needs, and then its own
abbrev pub AreLinesOf : TimeMap → Moment → List WhyLine → Type 0
AreLinesOf m x found = (orders : List Reason) × (map reason_of found ≡ orders ++ belief_line m x ∷ []) × AllZip (IsOrderLine m) (pairs m x) orders

-- the lines are those of these occurrences, one after the other
abbrev pub AreLinesOfAll : TimeMap → List Moment → List WhyLine → Type 0
AreLinesOfAll m xs found = AreReasons m xs (map reason_of found)
