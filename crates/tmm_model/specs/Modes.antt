-- The lines of a mode's own: what they say, and the replies that modes share.
use Rattle.std.specs.Prelude.{ℕ, ◌+◌, Bool, true, false, cond, ◌&&◌, ◌==◌, List, [], ◌∷◌, codes, Option, Some, None, option_map}
use Rattle.tmm_model.specs.declared.mode.Mode.{Mode}
use Rattle.tmm_model.specs.declared.mode.Mode.TheVariants.{Suppose as Supposing, Agents as Sharing, Repairs as Mending, Timeline as Playing}
use Rattle.tmm_model.specs.declared.mode.ModeCause.{ModeCause}
use Rattle.tmm_model.specs.declared.mode.ModeCause.TheVariants.{LimitSuppose, Suppose as NoSuppose, Agent as NoAgent, LimitBatch, LimitAgents}
use Rattle.tmm_model.specs.declared.mode.ModeLine.{ModeLine}
use Rattle.tmm_model.specs.declared.mode.ModeLine.TheVariants.{Suppose, Keep, Drop, Hold, Commit, Discard, Repairs, Timeline}
use Rattle.tmm_model.specs.Lines.{is_blank, goes_on, words}
use Rattle.tmm_model.specs.Names.{is_name}
use Rattle.tmm_model.specs.Points.{same_name}
use Rattle.tmm_model.specs.Replies.{head_line}

-- the value where it holds
abbrev pub where_true : {A : Type 0} → Bool → A → Option A
where_true true x = Some x
where_true false x = None

-- ---- suppositions

-- `suppose`, `keep` and `drop`, each alone on its line
abbrev pub suppose_form : List (List ℕ) → Option ModeLine
suppose_form (word ∷ []) =
    cond (same_name word (codes "suppose")) (Some Suppose) (
    cond (same_name word (codes "keep")) (Some Keep) (
    where_true (same_name word (codes "drop")) Drop))
suppose_form _ = None

-- ---- agents

-- the place of the byte after the first word
abbrev pub after_word : List ℕ → ℕ
after_word [] = 0
after_word (b ∷ line) = cond (is_blank b) (after_word line + 1) (cond (goes_on line) (after_word line + 1) 1)

-- the agent that a word names: `@` and a name
abbrev pub agent_of : List ℕ → Option (List ℕ)
agent_of [] = None
agent_of (b ∷ name) = where_true ((b == 64) && is_name name) name

-- what an agent's line says by the words behind the agent's: `commit` or `discard` alone, and else
-- an edit that is to be held, from this byte on
abbrev pub agent_form : ℕ → List ℕ → List (List ℕ) → ModeLine
agent_form rest agent (word ∷ []) =
    cond (same_name word (codes "commit")) (Commit agent) (
    cond (same_name word (codes "discard")) (Discard agent) (Hold agent rest))
agent_form rest agent words = Hold agent rest

-- a line that begins with an agent's word
abbrev pub agents_form : ℕ → List (List ℕ) → Option ModeLine
agents_form rest [] = None
agents_form rest (first ∷ words) = option_map (λ agent. agent_form rest agent words) (agent_of first)

-- ---- repairs and the timeline

-- `repairs` and a name
abbrev pub repairs_form : List (List ℕ) → Option ModeLine
repairs_form (first ∷ name ∷ []) = where_true (same_name first (codes "repairs") && is_name name) (Repairs name)
repairs_form _ = None

-- `timeline` alone
abbrev pub timeline_form : List (List ℕ) → Option ModeLine
timeline_form (word ∷ []) = where_true (same_name word (codes "timeline")) Timeline
timeline_form _ = None

-- ---- all modes

-- **What a line says as one of the mode's own**: none where it is none of these. How long it is
-- does not matter here.
abbrev pub own_form : Mode → List ℕ → Option ModeLine
own_form Supposing line = suppose_form (words line)
own_form Sharing line = agents_form (after_word line) (words line)
own_form Mending line = repairs_form (words line)
own_form Playing line = timeline_form (words line)

-- the reply that a line of a mode's own is done
abbrev pub own_ok : ℕ → List ℕ
own_ok k = head_line k (codes "ok" ∷ [])

-- what a mode's cause is called
abbrev pub mode_cause_words : ModeCause → List (List ℕ)
mode_cause_words LimitSuppose = codes "limit" ∷ codes "suppose" ∷ []
mode_cause_words NoSuppose = codes "suppose" ∷ []
mode_cause_words NoAgent = codes "agent" ∷ []
mode_cause_words LimitBatch = codes "limit" ∷ codes "batch" ∷ []
mode_cause_words LimitAgents = codes "limit" ∷ codes "agents" ∷ []

-- the reply that it is refused for this cause of the mode's
abbrev pub own_no : ℕ → ModeCause → List ℕ
own_no k cause = head_line k (codes "no" ∷ mode_cause_words cause)
