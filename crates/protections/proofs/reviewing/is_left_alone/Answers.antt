use Rattle.std.proofs.Common.{◌≡◌, ◌∙◌, subst, sym}
use Rattle.std.specs.Prelude.{None}
use Rattle.std.specs.List.{Contains}
use Rattle.tmm_model.specs.Answers.{broken}
use Rattle.tmm_model.specs.Changes.{protection_name}
use Rattle.tmm_model.specs.Edits.{next_list}
use Rattle.tmm_model.specs.Maps.{built}
use Rattle.list_theory.specs.WellNamed.{IsWellNamed}
use Rattle.list_theory.proofs.Elements.{In-from_Contains}
use Rattle.protections.proofs.AfterReview.{found_before, found_none}
use Rattle.protections.proofs.LeftAlone.{left_alone_stay}
use Rattle.protections.proofs.Protected.{grounded}
use Rattle.protections.proofs.Unbroken.{unbroken, no_protection}
use Rattle.protections.proofs.reviewing.is_left_alone.Goals as goal

pub has_moved-requires : goal.has_moved-requires
has_moved-requires c =
    (grounded c.args.map.now.standing.now.present c.args.map.now.net.now.present c.requires.edited.seen_now.network c.in-Protect.name c.in-Protect.fact c.in-Protect.from c.in-Protect.to
    (subst (Contains c.args.map.now.standing.now.present.premises) c.in-Protect.is c.requires.stands)).first

pub has_moved-requires-2 : goal.has_moved-requires-2
has_moved-requires-2 c =
    (grounded c.args.map.now.standing.now.present c.args.map.now.net.now.present c.requires.edited.seen_now.network c.in-Protect.name c.in-Protect.fact c.in-Protect.from c.in-Protect.to
    (subst (Contains c.args.map.now.standing.now.present.premises) c.in-Protect.is c.requires.stands)).last

pub is_untouched-requires : goal.is_untouched-requires
is_untouched-requires c =
    (grounded c.args.map.now.standing.now.present c.args.map.now.net.now.present c.requires.edited.seen_now.network c.in-Protect.name c.in-Protect.fact c.in-Protect.from c.in-Protect.to
    (subst (Contains c.args.map.now.standing.now.present.premises) c.in-Protect.is c.requires.stands)).known

pub returns-in_default : goal.returns-in_default
returns-in_default c passed found are =
    let lists = c.args.map.now.standing.now in
    let p = c.args.premise.now in
    let none : protection_name p ≡ None = no_protection p c.in_default.not-Protect in
    let list = c.requires.edited.list in
    found_none lists.committed c.args.edit.now c.requires.edited.seen_then.network.sound.well_named
    (subst (λ s. IsWellNamed s.premises) list c.requires.edited.seen_now.network.sound.well_named)
    found are p (In-from_Contains (next_list lists.committed c.args.edit.now).premises p (subst (λ s. Contains s.premises p) list c.requires.stands)) none
    ∙ sym (unbroken (built lists.present) p none)

pub returns : goal.returns
returns c passed found are =
    let lists = c.args.map.now.standing.now in
    let p = c.args.premise.now in
    let stood : Contains lists.committed.premises p =
    c.is_added.ensures c.if-is_added.false lists.committed (subst (λ s. Contains s.premises p) c.requires.edited.list c.requires.stands) in
    let same : broken (built lists.present) p ≡ broken (built lists.committed) p =
    subst (λ q. broken (built lists.present) q ≡ broken (built lists.committed) q) (sym c.in-Protect.is)
    (left_alone_stay lists c.args.map.now.net.now c.args.edit.now c.args.map.now.tree.now c.requires.edited c.has_moved.ensures.apart c.in-Protect.name c.in-Protect.fact c.in-Protect.from c.in-Protect.to
    (record {
      stood = subst (Contains lists.committed.premises) c.in-Protect.is stood;
      first = c.has_moved.ensures.still c.if-has_moved.false;
      last = c.has_moved-2.ensures.still c.if-has_moved-2.false;
      of_fact = c.is_untouched.ensures passed c.args.map.now.net.now c.requires.others;
    })) in
    found_before lists.committed c.args.edit.now c.requires.edited.seen_then.network.sound.well_named
    (subst (λ s. IsWellNamed s.premises) c.requires.edited.list c.requires.edited.seen_now.network.sound.well_named)
    found are p (In-from_Contains lists.committed.premises p stood)
    ∙ sym same
