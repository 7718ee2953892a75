-- Laws of edits.
use Rattle.std.specs.Prelude.{◌≡◌, ℕ, ◌≤◌, false, List, [], ◌∷◌, ◌++◌, map, length, codes}
use Rattle.std.specs.List.{Contains}
use Rattle.tmm_model.specs.declared.limits.TheConstants.{LONGEST_LINE}
use Rattle.tmm_model.specs.declared.line.Line.TheVariants.{Change}
use Rattle.tmm_model.specs.declared.premise.Edit.{Edit}
use Rattle.tmm_model.specs.declared.premise.Edit.TheVariants.{Add, Horizon, Upgrade}
use Rattle.tmm_model.specs.declared.premise.Premise.{Premise}
use Rattle.tmm_model.specs.declared.version.Version.{Version}
use Rattle.tmm_model.specs.declared.version.Version.TheVariants.{One, Two}
use Rattle.tmm_model.specs.Answers.{size, most_size}
use Rattle.tmm_model.specs.Beliefs.{rules_at}
use Rattle.belief_theory.specs.Outcomes.{outcome}
use Rattle.tmm_model.specs.Edits.{next_list}
use Rattle.belief_theory.specs.KeptLists.{IsKept}
use Rattle.tmm_model.specs.Kept.{IsAccepted}
use Rattle.tmm_model.specs.Lines.{IsWellFormedEdit, IsEditOf, edit_words, spaced, ReadsLine}
use Rattle.tmm_model.specs.Maps.{built}
use Rattle.tmm_model.specs.Moments.{Moment}
use Rattle.list_theory.specs.WellNamed.{IsSound}
use Rattle.tmm_model.specs.Standing.{Standing, empty_list}
use Rattle.belief_theory.specs.Touched.{is_touched}

-- ---- touched decisions

-- a decision that an edit does not touch keeps its outcome
abbrev pub UntouchedKeepOutcome : Type 0
UntouchedKeepOutcome =
    (old : Standing) (edit : Edit) → IsSound old → IsSound (next_list old edit)
    → (t : Moment) (r : List ℕ) → Contains (rules_at (next_list old edit) t) r
    → is_touched (built old) (built (next_list old edit)) (t, r) ≡ false
    → outcome old (built old).far (built old).believed t r
    ≡ outcome (next_list old edit) (built (next_list old edit)).far (built (next_list old edit)).believed t r

-- ---- lists that are kept

-- the empty list is kept, and an accepted edit leaves a kept list where there was one
abbrev pub ListsStayKept : Type 0
ListsStayKept =
    IsKept empty_list
    × ((s : Standing) (edit : Edit) → IsKept s → IsWellFormedEdit edit → IsEditOf s.version edit → IsAccepted s edit → IsKept (next_list s edit))

-- ---- dumping and reading again

-- the edits are accepted one after the other, from one list to another
abbrev pub AcceptsAll : Standing → List Edit → Standing → Type 0
AcceptsAll s [] new = new ≡ s
AcceptsAll s (edit ∷ edits) new = IsAccepted s edit × AcceptsAll (next_list s edit) edits new

-- the edits that lead to a version
abbrev pub version_edits : Version → List Edit
version_edits One = []
version_edits Two = Upgrade ∷ []

-- what a dump says: the version, the horizon, and each premise in order
abbrev pub dump_edits : Standing → List Edit
dump_edits s = version_edits s.version ++ Horizon s.horizon ∷ map Add s.premises

-- the line of an edit, as a dump shows it
abbrev pub dumped_line : Edit → List ℕ
dumped_line edit = codes "  " ++ spaced (edit_words edit)

-- at no time while its premises are added one by one, with its horizon, is the map too large
abbrev pub GrowsSmall : Standing → Type 0
GrowsSmall s = (front back : List Premise) → s.premises ≡ front ++ back → size (built (record { version = s.version; horizon = s.horizon; premises = front })) ≤ most_size

-- the line is short enough, and in the version reads as the edit
abbrev pub ReadsBack : Version → Edit → Type 0
ReadsBack version edit = (length (dumped_line edit) ≤ LONGEST_LINE) × ReadsLine version (dumped_line edit) (Change edit)

-- so do the lines of all edits, made one after the other from a list on, each in the version of the
-- list that those before it leave
abbrev pub AllReadBack : Standing → List Edit → Type 0
AllReadBack s [] = Unit {0}
AllReadBack s (edit ∷ edits) = ReadsBack s.version edit × AllReadBack (next_list s edit) edits

-- the lines that a dump shows of a kept list tell its edits, and these are accepted from the empty
-- list on, and leave the list
abbrev pub DumpReloads : Type 0
DumpReloads =
    (s : Standing) → IsKept s → GrowsSmall s
    → AllReadBack empty_list (dump_edits s)
    × AcceptsAll empty_list (dump_edits s) s
