use Rattle.std.proofs.Common.{ap, ◌∙◌}
use Rattle.std.specs.Option.{option_map}
use Rattle.tmm_model.specs.Points.{same_name}
use Rattle.premise_list.proofs.Lookups.{lookup-placed}
use Rattle.premise_list.proofs.table.Table.sort_of.Goals as goal

pub returns-in_err-word : goal.returns-in_err-word
returns-in_err-word c = rw c.from_residual.ensures (ap (option_map (λ v. v.0)) c.in_err-word.ensures ∙ lookup-placed (same_name c.args.name) 0 c.args.self.now.premises)

pub returns : goal.returns
returns c = ap (option_map (λ v. v.0)) c.in_ok-word.ensures ∙ lookup-placed (same_name c.args.name) 0 c.args.self.now.premises
