-- Lines that stay above some maps leave these as they are.
use Rattle.std.proofs.Common.{◌≡◌, ℕ, ◌+◌, ◌≤◌, Bool, true, false, List, [], ◌∷◌, ◌++◌, length, length-append, Option, Some, None, refl, sym, ap, ◌∙◌, subst, arith}
use Rattle.std.specs.Prelude.{nat_lt}
use Rattle.tmm_model.specs.declared.mode.Mode.TheVariants.{Suppose as Supposing}
use Rattle.tmm_model.specs.declared.mode.ModeCause.{ModeCause}
use Rattle.tmm_model.specs.declared.mode.ModeLine.{ModeLine}
use Rattle.tmm_model.specs.declared.mode.ModeLine.TheVariants.{Suppose, Keep, Drop, Hold, Commit, Discard, Repairs, Timeline}
use Rattle.tmm_model.specs.declared.turn.Turn.{Turn}
use Rattle.tmm_model.specs.declared.turn.Turn.TheVariants.{Silent, Reply, Memory}
use Rattle.tmm_model.specs.Modes.{where_true}
use Rattle.tmm_model.specs.Runs.{Run, is_refused, is_memory}
use Rattle.tmm_model.specs.Standing.{Standing}
use Rattle.mode_session.specs.ModeSteps.{own_line, StepAs}
use Rattle.suppose.specs.Worlds.{World, SupposeOwn, TopStep, Answers, after, cause_of, in_place, nearest_of}
use Rattle.suppose.specs.Suppositions.{IsDone, Above, DroppedLeaveNothing}

-- these maps, and some above them
abbrev pub StandsOn : List Standing → World → Type 0
StandsOn base w = (upper : List Standing) × (w.below ≡ upper ++ base)

-- a world that is left is one with the same below, or this one
answered_stands : (base : List Standing) (old new next : World) (k : ℕ) (cause : ModeCause) (b : Bool) (bytes : List ℕ) (refused : Bool)
    → StandsOn base old → StandsOn base next → Answers old k cause (where_true b next) bytes refused new → StandsOn base new
answered_stands base old new next k cause true bytes refused was is answers = subst (StandsOn base) (sym answers.2) is
answered_stands base old new next k cause false bytes refused was is answers = subst (StandsOn base) (sym answers.2) was

kept_stands : (base : List Standing) (old new : World) (k : ℕ) (cause : ModeCause) (bytes : List ℕ) (refused : Bool) (upper : List Standing)
    → StandsOn base old → length base ≤ length new.below → Answers old k cause (in_place old.top (upper ++ base)) bytes refused new → StandsOn base new
kept_stands [] old new k cause bytes refused [] was over answers = subst (StandsOn []) (sym answers.2) was
kept_stands (b ∷ base) old new k cause bytes refused [] was over answers = absurd (omega (arith, over, ap (λ (w : World). length w.below) answers.2))
kept_stands base old new k cause bytes refused (u ∷ upper) was over answers = subst (StandsOn base) (sym answers.2) (upper, refl)

dropped_stands : (base : List Standing) (old new : World) (k : ℕ) (cause : ModeCause) (bytes : List ℕ) (refused : Bool) (upper : List Standing)
    → StandsOn base old → length base ≤ length new.below → Answers old k cause (nearest_of (upper ++ base)) bytes refused new → StandsOn base new
dropped_stands [] old new k cause bytes refused [] was over answers = subst (StandsOn []) (sym answers.2) was
dropped_stands (b ∷ base) old new k cause bytes refused [] was over answers = absurd (omega (arith, over, ap (λ (w : World). length w.below) answers.2))
dropped_stands base old new k cause bytes refused (u ∷ upper) was over answers = subst (StandsOn base) (sym answers.2) (upper, refl)

own_stands : (base : List Standing) (old new : World) (k : ℕ) (line : List ℕ) (form : ModeLine) (bytes : List ℕ) (refused : Bool)
    → StandsOn base old → length base ≤ length new.below → SupposeOwn old k line form bytes refused new → StandsOn base new
own_stands base old new k line Suppose bytes refused was over answers =
    answered_stands base old new (record { top = old.top; below = old.top ∷ old.below }) k (cause_of Suppose) (nat_lt (length old.below) 8) bytes refused was
    (old.top ∷ was.0, ap (λ (l : List Standing). old.top ∷ l) was.1) answers
own_stands base old new k line Keep bytes refused was over answers =
    kept_stands base old new k (cause_of Keep) bytes refused was.0 was over
    (subst (λ (l : List Standing). Answers old k (cause_of Keep) (in_place old.top l) bytes refused new) was.1 answers)
own_stands base old new k line Drop bytes refused was over answers =
    dropped_stands base old new k (cause_of Drop) bytes refused was.0 was over
    (subst (λ (l : List Standing). Answers old k (cause_of Drop) (nearest_of l) bytes refused new) was.1 answers)
own_stands base old new k line (Hold agent rest) bytes refused was over answers = subst (StandsOn base) (sym answers.2) was
own_stands base old new k line (Commit agent) bytes refused was over answers = subst (StandsOn base) (sym answers.2) was
own_stands base old new k line (Discard agent) bytes refused was over answers = subst (StandsOn base) (sym answers.2) was
own_stands base old new k line (Repairs name) bytes refused was over answers = subst (StandsOn base) (sym answers.2) was
own_stands base old new k line Timeline bytes refused was over answers = subst (StandsOn base) (sym answers.2) was

step_stands : (base : List Standing) (old new : World) (k : ℕ) (line : List ℕ) (turn : Turn) (said : Option ModeLine)
    → StandsOn base old → length base ≤ length new.below → StepAs Supposing SupposeOwn TopStep said old k line turn new → StandsOn base new
step_stands base old new k line turn None was over step = (was.0, step.1 ∙ was.1)
step_stands base old new k line Silent (Some form) was over never = absurd never
step_stands base old new k line Memory (Some form) was over same = subst (StandsOn base) (sym same) was
step_stands base old new k line (Reply bytes refused) (Some form) was over answers = own_stands base old new k line form bytes.items refused was over answers

run_stands : (base : List Standing) (depth : ℕ) (old new : World) (k : ℕ) (lines : List (List ℕ)) (turns : List Turn)
    → length base ≡ depth + 1 → StandsOn base old → Run (Above depth) old k lines turns new → StandsOn base new
run_stands base depth old new k [] [] size was same = subst (StandsOn base) (sym same) was
run_stands base depth old new k (line ∷ lines) (turn ∷ turns) size was (mid, step, rest) =
    run_stands base depth mid new (k + 1) lines turns size
    (step_stands base old mid (k + 1) line turn (own_line Supposing line) was (omega (arith, size, step.1)) step.0) rest
run_stands base depth old new k [] (turn ∷ turns) size was never = absurd never
run_stands base depth old new k (line ∷ lines) [] size was never = absurd never

-- ---- lines that are done

-- a world that a line leaves
abbrev a_world : World → Option World
a_world w = Some w

-- a line that is done leaves what it says
done_answers : (old new : World) (k : ℕ) (cause : ModeCause) (next : Option World) (bytes : List ℕ) (refused : Bool)
    → Answers old k cause next bytes refused new → refused ≡ false → next ≡ Some new
done_answers old new k cause (Some next) bytes refused answers done = ap (λ (w : World). a_world w) (sym answers.2)
done_answers old new k cause None bytes refused answers done = cc (answers.1, done)

done_step : (old new : World) (k : ℕ) (line : List ℕ) (turn : Turn) (form : ModeLine) → StepAs Supposing SupposeOwn TopStep (Some form) old k line turn new
    → is_refused turn ≡ false → is_memory turn ≡ false → after form old ≡ Some new
done_step old new k line Silent form never free answered = absurd never
done_step old new k line Memory form same free answered = cc (answered)
done_step old new k line (Reply bytes refused) form answers free answered = done_answers old new k (cause_of form) (after form old) bytes.items refused answers free

pub done_after : (old new : World) (k : ℕ) (form : ModeLine) → IsDone old k form new → after form old ≡ Some new
done_after old new k form done =
    done_step old new k done.line done.turn form
    (subst (λ (said : Option ModeLine). StepAs Supposing SupposeOwn TopStep said old k done.line done.turn new) done.says done.step)
    done.not_refused done.not_memory

-- what a supposition that is begun leaves
room_made : (b : Bool) (next new : World) → where_true b next ≡ Some new → new ≡ next
room_made true next new made = cc
room_made false next new made = cc

pub begun_is : (w begun : World) (k : ℕ) → IsDone w k Suppose begun → begun ≡ record { top = w.top; below = w.top ∷ w.below }
begun_is w begun k done = room_made (nat_lt (length w.below) 8) (record { top = w.top; below = w.top ∷ w.below }) begun (done_after w begun k Suppose done)

-- what stands on a base, and is as high as it, is it
pub flat : (upper : List Standing) (base : List Standing) → length (upper ++ base) ≡ length base → upper ≡ []
flat [] base same = refl
flat (u ∷ upper) base same = absurd (omega (arith, same, length-append upper base))

pub nearest_is : (top : Standing) (below : List Standing) (new : World) → nearest_of (top ∷ below) ≡ Some new → new ≡ record { top = top; below = below }
nearest_is top below new made = cc

pub nearest_size : (l : List Standing) (new : World) → nearest_of l ≡ Some new → length l ≡ length new.below + 1
nearest_size [] new never = cc
nearest_size (b ∷ below) new made = omega (arith, ap (λ (w : World). length w.below) (nearest_is b below new made))

pub dropped_leave : DroppedLeaveNothing
dropped_leave w begun ended end k j n lines turns first run last size =
    let stands : StandsOn (w.top ∷ w.below) ended =
    run_stands (w.top ∷ w.below) (length w.below) begun ended j lines turns (omega arith)
    (subst (StandsOn (w.top ∷ w.below)) (sym (begun_is w begun k first)) ([], refl)) run in
    let made : nearest_of ended.below ≡ Some end = done_after ended end n Drop last in
    let high : length ended.below ≡ length (w.top ∷ w.below) = omega (arith, nearest_size ended.below end made, size) in
    let none : stands.0 ≡ [] = flat stands.0 (w.top ∷ w.below) (ap (λ (l : List Standing). length l) (sym stands.1) ∙ high) in
    let below : ended.below ≡ w.top ∷ w.below = stands.1 ∙ ap (λ (l : List Standing). l ++ w.top ∷ w.below) none in
    nearest_is w.top w.below end (subst (λ (l : List Standing). nearest_of l ≡ Some end) below made)
