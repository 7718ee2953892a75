-- What a line says, with no room counted that its lists have left.
use Rattle.std.specs.Prelude.{◌≡◌}
use Rattle.tmm_model.specs.declared.point.Occ.{Occ}
use Rattle.tmm_model.specs.declared.point.QueryPoint.{QueryPoint}
use Rattle.tmm_model.specs.declared.point.QueryPoint.TheVariants.{Declared, Derived}
use Rattle.tmm_model.specs.declared.line.Query.{Query}
use Rattle.tmm_model.specs.declared.line.Query.TheVariants.{Bounds, Path, Ask, Why}
use Rattle.tmm_model.specs.declared.line.Line.{Line}
use Rattle.tmm_model.specs.declared.line.Line.TheVariants.{Question}

-- an occurrence, point, question or line but for the room of its lists
abbrev pub bare_occ : Occ → Occ
bare_occ o = record { root = o.root; rules = record { items = o.rules.items; room = 0 } }

-- a point but for the room of its list
abbrev pub bare_point : QueryPoint → QueryPoint
bare_point (Declared p) = Declared p
bare_point (Derived o) = Derived (bare_occ o)

-- a question but for the room of its lists
abbrev pub bare_query : Query → Query
bare_query (Bounds p q) = Bounds (bare_point p) (bare_point q)
bare_query (Path p q) = Path (bare_point p) (bare_point q)
bare_query (Ask fact p q) = Ask fact (bare_point p) (bare_point q)
bare_query (Why o) = Why (bare_occ o)
bare_query query = query

-- a line but for the room of its lists
abbrev pub bare_line : Line → Line
bare_line (Question query) = Question (bare_query query)
bare_line l = l

-- the lines say the same
abbrev pub SameLine : Line → Line → Type 0
SameLine a b = bare_line a ≡ bare_line b
