-- Laws of turns: what keeps nodes and rows standing for a revision.
use Rattle.std.specs.Prelude.{◌≡◌, ℕ, true, false, List, ◌∷◌, Some}
use Rattle.std.specs.List.{Contains}
use Rattle.tmm_model.specs.declared.premise.Edit.{Edit}
use Rattle.tmm_model.specs.Beliefs.{rules_at}
use Rattle.tmm_model.specs.Edits.{next_list}
use Rattle.tmm_model.specs.Moments.{Moment, After}
use Rattle.tmm_model.specs.Standing.{Standing}
use Rattle.dist_net.specs.Net.{Net}
use Rattle.spots.specs.Forest.{Member, member, moment, moment_at}
use Rattle.occ_tree.specs.Places.{forest}
use Rattle.joined.specs.Rows.{fires_by}
use Rattle.belief_turns.specs.declared.deciding.Due.{Due}
use Rattle.belief_table.specs.declared.state.Beliefs.{Beliefs}
use Rattle.belief_table.specs.Decided.{KeepsLast}
use Rattle.belief_turns.specs.Entering.{Brings}
use Rattle.belief_turns.specs.Leaving.{TakesAway}
use Rattle.belief_turns.specs.Moving.{TurnsOn}
use Rattle.belief_turns.specs.Turning.{IsFit, IsDecided, IsUnderway}

-- whatever revision to the list b stands for, c stands for it, with one decision more that is made
abbrev pub StandsOn : Standing → Net → Beliefs → Beliefs → Due → Type 0
StandsOn s net b c due =
    (old : Standing) (edit : Edit) (taken : List (Moment × List ℕ)) → next_list old edit ≡ s → IsUnderway old edit net b taken
    → IsUnderway old edit net c ((moment_at (forest b.tree) due.trigger, due.rule) ∷ taken)

-- **Where the rule fires as before, the turn is done once its row keeps what was decided.**
abbrev pub SameTurnsKeep : Type 0
SameTurnsKeep =
    (s : Standing) (net : Net) (b c : Beliefs) (due : Due)
    → IsFit s net b → IsDecided s b c due → fires_by due.found ≡ fires_by due.before
    → IsFit s net c × StandsOn s net b c due

-- **A turn in which nodes enter or go, and rows with them, keeps what nodes and rows say of a
-- revision.**
abbrev pub MovingTurnsKeep : Type 0
MovingTurnsKeep = (s : Standing) (net : Net) (b c e : Beliefs) (due : Due) → TurnsOn s net b c e due → StandsOn s net b e due

-- **Where the rule fires that did not, the turn is done once its effect has entered, and rows have
-- followed.**
abbrev pub BringingTurnsKeep : Type 0
BringingTurnsKeep =
    (s : Standing) (net : Net) (b c e : Beliefs) (due : Due)
    → IsFit s net b → IsDecided s b c due → fires_by due.found ≡ true → fires_by due.before ≡ false
    → Contains (rules_at s (moment_at (forest b.tree) due.trigger)) due.rule
    → Brings s net due.trigger due.rule c e → KeepsLast c.decisions e.decisions
    → IsFit s net e × StandsOn s net b e due

-- **Where the rule fires no more, the turn is done once its effect is gone with all below it, and
-- rows have followed.**
abbrev pub LeavingTurnsKeep : Type 0
LeavingTurnsKeep =
    (s : Standing) (net : Net) (b c e : Beliefs) (due : Due) (x : ℕ) (m : Member) (numbers : List ℕ)
    → IsFit s net b → IsDecided s b c due → fires_by due.found ≡ false → fires_by due.before ≡ true
    → Contains (rules_at s (moment_at (forest b.tree) due.trigger)) due.rule
    → member (forest c.tree) x ≡ Some m → moment m ≡ After (moment_at (forest c.tree) due.trigger) due.rule
    → TakesAway s net x numbers c e → KeepsLast c.decisions e.decisions
    → IsFit s net e × StandsOn s net b e due
