-- The points and the lines of reasons, told as a question names them.
use Rattle.std.specs.Prelude.{◌≢◌, []}
use Rattle.tmm_model.specs.declared.changes.WhyLine.{WhyLine}
use Rattle.tmm_model.specs.declared.changes.WhyLine.TheVariants.{Premise as PremiseLine, Order as OrderLine, Derived as DerivedLine}
use Rattle.tmm_model.specs.declared.point.QueryPoint.{QueryPoint}
use Rattle.tmm_model.specs.declared.point.QueryPoint.TheVariants.{Declared, Derived}

-- a question names a derived occurrence by at least one rule, and the begin of a root as a declared
-- point
abbrev pub IsShapedPoint : QueryPoint → Type 0
IsShapedPoint (Declared point) = Unit {0}
IsShapedPoint (Derived occ) = occ.rules.items ≢ []

-- both points of an order are told so, and what a rule brings about has at least one rule
abbrev pub IsShapedLine : WhyLine → Type 0
IsShapedLine (PremiseLine name) = Unit {0}
IsShapedLine (OrderLine first second far steps) = IsShapedPoint first × IsShapedPoint second
IsShapedLine (DerivedLine occ rule trigger supports unless_facts) = occ.rules.items ≢ []
