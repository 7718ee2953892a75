use Rattle.std.proofs.Common.{◌≡◌, Bool, true, false, ◌||◌, refl, ◌∙◌, ap, cond}
use Rattle.std.specs.Cmp.Lexicographic.{nat_list_eq_equiv}
use Rattle.tmm_model.specs.Points.{same_name}
use Rattle.tmm_model.specs.Erasure.{is_among}
use Rattle.premise_list.proofs.erase.lose_name.Goals as goal

or_cond : (a b : Bool) → cond a true b ≡ (a || b)
or_cond true b = refl
or_cond false b = refl

pub returns-in-Ok : goal.returns-in-Ok
returns-in-Ok c v =
    let old = c.args.gone.now.keys in
    c.in-Ok.ensures.updates.0 v ∙ or_cond (same_name c.args.name v) (is_among old v) ∙ ap (λ x. x || is_among old v) (nat_list_eq_equiv.symm c.args.name v)
