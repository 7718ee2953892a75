use Rattle.std.proofs.Common.{◌≡◌, ◌∙◌, Bool, true, false, sym}
use Rattle.std.specs.Prelude.{not}
use Rattle.std.specs.Cmp.Lexicographic.{bytes_decides}
use Rattle.tmm_model.specs.Beliefs.{on_kind}
use Rattle.tmm_model.specs.Points.{same_name}
use Rattle.list_theory.proofs.Elements.{filter_map-In}
use Rattle.spots.proofs.Grown.{stands}
use Rattle.belief_net.proofs.kind_events.other_on.Goals as goal

no_both : (v : Bool) → v ≡ true → not v ≡ true → ⊥
no_both true is differ = (let never : false ≡ true = differ in cc)
no_both false is differ = (let never : false ≡ true = is in cc)

pub returns-then-ne : goal.returns-then-ne
returns-then-ne c =
    let premises = c.args.standing.now.present.premises in
    let premise = c.in-Some.premise.now in
    let name = c.in-Some-name_on.name in (
      filter_map-In (on_kind c.args.kind) premises premise name (stands premises c.loop-place.place premise (sym c.in-Some.ensures)) (sym c.name_on.ensures ∙ c.in-Some-name_on.is),
      λ same. no_both (same_name name c.args.rule) ((bytes_decides name c.args.rule).1 same) (sym c.ne.ensures ∙ c.if-ne.true),
    )
