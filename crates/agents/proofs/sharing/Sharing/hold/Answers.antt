use Rattle.std.proofs.Common.{ℕ, List, subst}
use Rattle.std.proofs.lemmas.List.{take_rest}
use Rattle.tmm_model.specs.declared.line.Line.TheVariants.{Change}
use Rattle.tmm_model.specs.declared.version.Version.TheVariants.{Two}
use Rattle.tmm_model.specs.Lines.{Reads, words}
use Rattle.agents.specs.States.{world_of}
use Rattle.agents.proofs.Answered.{own_hold}
use Rattle.agents.proofs.sharing.Sharing.hold.Goals as goal

pub returns-in-Some-clause-answers : goal.returns-in-Some-clause-answers
returns-in-Some-clause-answers g c =
    own_hold (world_of g.M.MapCore.list c.args.self.now.agents) (world_of g.M.MapCore.list c.hold_edit.new.self.agents) c.args.line c.args.bytes.now c.args.agent c.args.rest c.in-Some.edit c.hold_edit.result
    (subst (λ (bs : List ℕ). Reads Two (words bs) (Change c.in-Some.edit)) (take_rest c.args.bytes.now c.args.rest) c.in-Some.ensures) c.hold_edit.ensures.answers
