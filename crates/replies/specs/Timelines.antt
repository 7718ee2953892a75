-- The lines of a timeline.
use Rattle.std.specs.Prelude.{ℕ, List, [], ◌∷◌, ◌++◌, length, codes, Option, Some, None, decimal}
use Rattle.std.specs.Fmt.{signed_decimal}
use Rattle.std.specs.List.{flat_map}
use Rattle.tmm_model.specs.declared.bound.Bound.{Bound}
use Rattle.tmm_model.specs.declared.timeline.Dated.{Dated}
use Rattle.tmm_model.specs.declared.timeline.PointDate.{PointDate}
use Rattle.tmm_model.specs.declared.timeline.Timeline.{Timeline}
use Rattle.tmm_model.specs.Points.{point_word, occ_word}
use Rattle.tmm_model.specs.Replies.{head_line, line_of, two, bound_word}

-- a point and its date
abbrev pub point_line : PointDate → List ℕ
point_line p = line_of two (codes "at" ∷ point_word p.point ∷ signed_decimal p.date ∷ [])

-- when a token ends, `*` where it lasts; nothing for an event
abbrev pub until_words : Option Bound → List (List ℕ)
until_words None = []
until_words (Some until) = bound_word until ∷ []

-- an occurrence: its date, its word, its kind or fact, and when it ends
abbrev pub dated_line : Dated → List ℕ
dated_line r = line_of two (signed_decimal r.date ∷ occ_word r.occ ∷ r.what ∷ until_words r.until)

-- **The text of a timeline**, as the reply to line k: how many points and occurrences there are,
-- and a line for each.
abbrev pub timeline_text : ℕ → Timeline → List ℕ
timeline_text k t =
    head_line k (codes "timeline" ∷ decimal (length t.points.items) ∷ decimal (length t.rows.items) ∷ [])
    ++ flat_map point_line t.points.items
    ++ flat_map dated_line t.rows.items
