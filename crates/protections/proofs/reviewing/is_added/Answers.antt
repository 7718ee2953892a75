use Rattle.std.proofs.Common.{◌≡◌, false, subst}
use Rattle.std.specs.List.{Contains}
use Rattle.tmm_model.specs.Edits.{next_list}
use Rattle.tmm_model.specs.Points.{same_name}
use Rattle.tmm_model.specs.Standing.{name_of}
use Rattle.protections.proofs.Stood.{stood_of_others, stood_all}
use Rattle.protections.proofs.reviewing.is_added.Goals as goal

pub returns-in-Add : goal.returns-in-Add
returns-in-Add c other list at =
    let added = c.in-Add.added in
    let p = c.args.premise.now in
    let named : same_name (name_of added) (name_of p) ≡ false = cc (c.eq.ensures, c.name.ensures, c.name-in-Add.ensures, other) in
    stood_of_others list added p named (subst (λ z. Contains (next_list list z).premises p) c.in-Add.is at)

pub returns-in_default : goal.returns-in_default
returns-in_default c other list at = stood_all c.args.edit.now c.in_default.not-Add list c.args.premise.now at
