use Rattle.std.proofs.Common.{◌≡◌, true, refl, sym, subst, not}
use Rattle.std.proofs.lemmas.Result.{on_ok_weaker}
use Rattle.tmm_model.specs.declared.premise.Edit.{Edit}
use Rattle.tmm_model.specs.declared.premise.Premise.{Premise}
use Rattle.revisions.specs.Alike.{is_read, is_unread}
use Rattle.belief_trials.proofs.premises.Premises.constrain.Goals as goal

pub returns : goal.returns
returns c =
    let unread : is_unread c.args.self.now.list.present.premises c.in_ok-edit.edit ≡ true =
    subst (λ (e : Edit). is_unread c.args.self.now.list.present.premises e ≡ true) (sym c.in-Add.is)
    (subst (λ (p : Premise). not (is_read p) ≡ true) (sym c.in-Dist.is) refl) in
    on_ok_weaker c.add.result (λ sees. sees unread) c.add.ensures.sees
