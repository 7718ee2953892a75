-- Why a question is refused, and what it is answered.
use Rattle.std.specs.Prelude.{◌≡◌, ℕ, Bool, true, false, List, [], ◌∷◌, map, Option, Some, None}
use Rattle.std.specs.Option.{option_or}
use Rattle.tmm_model.specs.declared.line.Query.{Query}
use Rattle.tmm_model.specs.declared.line.Query.TheVariants.{Bounds, Path, Ask, Why, Check, List as Listing, Dump, Audit, Size}
use Rattle.tmm_model.specs.declared.point.Occ.{Occ}
use Rattle.tmm_model.specs.declared.point.QueryPoint.{QueryPoint}
use Rattle.tmm_model.specs.declared.point.QueryPoint.TheVariants.{Declared, Derived}
use Rattle.tmm_model.specs.Answers.{ask, reports, rows, size, finding_of, report_of, row_of}
use Rattle.tmm_model.specs.Bounds.{bound_negated}
use Rattle.tmm_model.specs.Lines.{shown_text}
use Rattle.tmm_model.specs.Maps.{TimeMap, gap, is_believed}
use Rattle.tmm_model.specs.Moments.{moment_of, moment_of_point}
use Rattle.tmm_model.specs.Paths.{GivesPath}
use Rattle.tmm_model.specs.Points.{occ_word}
use Rattle.tmm_model.specs.Reasons.{IsWhy, reason_of}
use Rattle.tmm_model.specs.Replies.{Reply, BoundsAre, PathIs, Answered, Reasons, BrokenAre, Believed, DumpIs, AuditYes, SizeIs}
use Rattle.tmm_model.specs.Sorts.{Sort, an_event, a_token, a_span, is_fact, sort_in}
use Rattle.tmm_model.specs.Verdicts.{Cause, unknown, name_cause, place_cause}

-- what declares an occurrence
abbrev pub is_root : Sort → Bool
is_root an_event = true
is_root a_token = true
is_root a_span = true
is_root _ = false

module _ (m : TimeMap) where
  -- an occurrence with a rule is unknown exactly where it is not believed
  abbrev pub derived_cause : Occ → Option Cause
  derived_cause o = elim (is_believed m (moment_of o)) [ true ↦ None | false ↦ Some (unknown (occ_word o)) ]

  -- the cause against a point of a question
  abbrev pub point_cause : QueryPoint → Option Cause
  point_cause (Declared p) = place_cause m.list.premises p
  point_cause (Derived o) = derived_cause o

  -- the cause against an occurrence whose reasons are asked for; without a rule it is wanted as a
  -- root
  abbrev pub why_cause : Occ → List (List ℕ) → Option Cause
  why_cause o [] = name_cause (sort_in m.list.premises o.root) o.root is_root
  why_cause o (r ∷ rules) = derived_cause o

  -- **Why a question is refused**: the first of its words, from the left, for which there is a
  -- cause.
  abbrev pub query_cause : Query → Option Cause
  query_cause (Bounds p q) = option_or (point_cause p) (point_cause q)
  query_cause (Path p q) = option_or (point_cause p) (point_cause q)
  query_cause (Ask fact p q) = option_or (name_cause (sort_in m.list.premises fact) fact is_fact) (option_or (point_cause p) (point_cause q))
  query_cause (Why o) = why_cause o o.rules.items
  query_cause query = None

  -- **What a question is answered**, where there is no cause.
  abbrev pub Answers : Query → Reply → Type 0
  Answers (Bounds p q) (BoundsAre lo hi) =
      (lo ≡ bound_negated (gap m (moment_of_point q) (moment_of_point p))) × (hi ≡ gap m (moment_of_point p) (moment_of_point q))
  Answers (Path p q) (PathIs far steps) = GivesPath m (moment_of_point p) (moment_of_point q) far steps
  Answers (Ask fact p q) (Answered answer) = finding_of answer ≡ ask m fact (moment_of_point p) (moment_of_point q)
  Answers (Why o) (Reasons lines) = IsWhy m (moment_of o) (map reason_of lines)
  Answers Check (BrokenAre broken) = map report_of broken ≡ reports m
  Answers Listing (Believed found) = map row_of found ≡ rows m
  Answers Dump (DumpIs version horizon lines) =
      (version ≡ m.list.version) × (horizon ≡ m.list.horizon) × (lines ≡ map shown_text m.list.premises)
  Answers Audit AuditYes = Unit {0}
  Answers Size (SizeIs n) = n ≡ size m
  Answers query reply = ⊥
