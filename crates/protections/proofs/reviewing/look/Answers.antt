use Rattle.std.proofs.Common.{◌≡◌, ◌∙◌, sym, subst}
use Rattle.std.specs.Prelude.{None}
use Rattle.std.specs.List.{Contains}
use Rattle.tmm_model.specs.Changes.{protection_name}
use Rattle.tmm_model.specs.Edits.{next_list}
use Rattle.tmm_model.specs.Maps.{built}
use Rattle.list_theory.specs.WellNamed.{IsWellNamed}
use Rattle.list_theory.proofs.Elements.{In-from_Contains}
use Rattle.protections.specs.Found.{found_in}
use Rattle.protections.proofs.AfterReview.{found_none}
use Rattle.protections.proofs.Unbroken.{unbroken, no_protection}
use Rattle.protections.proofs.reviewing.look.Goals as goal

pub returns-in_default : goal.returns-in_default
returns-in_default c =
    let lists = c.args.map.now.standing.now in
    let p = c.args.premise.now in
    let none : protection_name p ≡ None = no_protection p c.in_default.not-Protect in
    let list = c.requires.edited.list in
    found_none lists.committed c.args.edit.now c.requires.edited.seen_then.network.sound.well_named
    (subst (λ s. IsWellNamed s.premises) list c.requires.edited.seen_now.network.sound.well_named)
    (found_in c.args.old.now) c.requires.old p
    (In-from_Contains (next_list lists.committed c.args.edit.now).premises p (subst (λ s. Contains s.premises p) list c.requires.stands)) none
    ∙ sym (unbroken (built lists.present) p none)
