-- What a listener hears of the lines of reasons.
use Rattle.std.specs.Prelude.{◌≡◌, List, ◌++◌, map}
use Rattle.std.specs.List.{All, flat_map}
use Rattle.tmm_model.specs.declared.changes.WhyLine.{WhyLine}
use Rattle.tmm_model.specs.declared.refusal.Stop.{Stop}
use Rattle.tmm_model.specs.declared.refusal.Stop.TheVariants.{Refused, NoMemory}
use Rattle.tmm_model.specs.Maps.{TimeMap}
use Rattle.tmm_model.specs.Moments.{Moment}
use Rattle.tmm_model.specs.Reasons.{reason_of, IsWhy}
use Rattle.map_core.specs.Shapes.{IsShapedLine}

-- the lines are the reasons of the occurrence o
abbrev pub AreWhy : TimeMap → Moment → List WhyLine → Type 0
AreWhy m o found = IsWhy m o (map reason_of found)

-- Behind what was heard before stand the parts of some lines. They are the lines that are wanted,
-- and each tells its points as a question names them.
pub record Hears {P : Type 0} (parts : WhyLine → List P) (Wanted : List WhyLine → Type 0) (old new : List P) : Type 0 where
  pub lines : List WhyLine
  pub grown : new ≡ old ++ flat_map parts lines
  pub shaped : All IsShapedLine lines
  pub wanted : Wanted lines

-- where a word is refused nothing was heard
abbrev pub HearsNothing : {P : Type 0} → List P → List P → Stop → Type 0
HearsNothing old new (Refused refusal) = new ≡ old
HearsNothing old new NoMemory = Unit {0}
