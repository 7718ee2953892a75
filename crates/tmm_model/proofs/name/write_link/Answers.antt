use Rattle.std.proofs.Common.{◌+◌, ◌-◌, ◌++◌, ◌∷◌, take, ◌∙◌}
use Rattle.tmm_model.proofs.Links.{link_written}
use Rattle.tmm_model.proofs.name.write_link.Goals as goal

pub returns-clause-written : goal.returns-clause-written
returns-clause-written c =
    let at = c.args.at in
    link_written c.args.out.now c.name.inside.bytes c.copy_from_slice.new.self at (at + 25 - (at + 1)) c.name.inside.len c.requires c.name.invariant.size c.name.invariant.within c.copy_from_slice.ensures.after
    ∙ (λ i. take at c.args.out.now ++ 47 ∷ c.name.view_is i)
