-- Lines of more than 400 bytes are answered alike in a mode too.
use Rattle.std.specs.Prelude.{◌≡◌, ℕ, ◌<◌, Bool, cond, List, length, Option, None}
use Rattle.std.proofs.Common.{subst, sym, ap}
use Rattle.std.proofs.lemmas.Bool.{lt-leb}
use Rattle.tmm_model.specs.declared.mode.Mode.{Mode}
use Rattle.tmm_model.specs.declared.mode.ModeLine.{ModeLine}
use Rattle.tmm_model.specs.declared.turn.Turn.{Turn}
use Rattle.tmm_model.specs.Modes.{own_form}
use Rattle.mode_session.specs.ModeSteps.{Own, StepAs, ModeStep, own_line}

-- a long line is none of the mode's own
pub own_line-long : (mode : Mode) (line : List ℕ) → 400 < length line → own_line mode line ≡ None
own_line-long mode line long = ap (λ (b : Bool). cond b (own_form mode line) None) (lt-leb (length line) 400 long)

module _ {S : Type 0} (mode : Mode) (own : Own S) (other : S → ℕ → List ℕ → Turn → S → Type 0) where
  pub ModeStep-long : ((old new : S) (k : ℕ) (a b : List ℕ) (turn : Turn) → 400 < length a → 400 < length b → other old k a turn new → other old k b turn new)
      → (old new : S) (k : ℕ) (a b : List ℕ) (turn : Turn) → 400 < length a → 400 < length b → ModeStep mode own other old k a turn new → ModeStep mode own other old k b turn new
  ModeStep-long long_lines old new k a b turn long_a long_b step =
      subst (λ (form : Option ModeLine). StepAs mode own other form old k b turn new) (sym (own_line-long mode b long_b))
      (long_lines old new k a b turn long_a long_b
      (subst (λ (form : Option ModeLine). StepAs mode own other form old k a turn new) (own_line-long mode a long_a) step))
