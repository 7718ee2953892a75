use Rattle.std.proofs.Common.{◌∙◌, List, ◌∷◌, sym, ap}
use Rattle.std.specs.Prelude.{nat_eq}
use Rattle.std.proofs.lemmas.List.Elements.{All-cons}
use Rattle.std.proofs.lemmas.Result.{on_ok_weaker}
use Rattle.tmm_model.specs.Maps.{built}
use Rattle.tmm_model.specs.Moments.{Moment}
use Rattle.tmm_model.specs.Reasons.{rests_on}
use Rattle.indexmap.specs.IndexSet.{insert_all}
use Rattle.spots.specs.Forest.{IsLive, moment_at}
use Rattle.occ_tree.specs.Places.{forest}
use Rattle.justify.specs.Grounds.{AreGrounds}
use Rattle.justify.proofs.Origins.{rule_at}
use Rattle.justify.proofs.upholders.add_grounds.Goals as goal

pub supports_at-supports-requires-clause-rule : goal.supports_at-supports-requires-clause-rule
supports_at-supports-requires-clause-rule c =
    rule_at c.args.map.now.standing.now.present c.args.map.now.net.now.present (forest c.args.map.now.tree.now) c.requires.seen.seen c.args.x c.in-Effect.event c.in-Effect.rule c.requires.live c.in-Effect.ensures.1

pub returns-in_ok-add-in-Effect : goal.returns-in_ok-add-in-Effect
returns-in_ok-add-in-Effect c =
    let m = built c.args.map.now.standing.now.present in
    let f = forest c.args.map.now.tree.now in
    let event = c.in-Effect.event in
    let (live, is) = c.in-Effect.ensures in
    let supports = c.supports_at-supports.ensures in
    let nodes = event ∷ c.supports_at-supports.result.items in
    let grounds : AreGrounds m f c.args.x nodes = record {
      live = All-cons (IsLive f) event c.supports_at-supports.result.items live supports.live;
      are = ap (λ (ks : List Moment). moment_at f event ∷ ks) supports.first ∙ ap (rests_on m) (sym is);
    } in
    on_ok_weaker c.add_all.result
    (λ added. record {
      nodes = nodes;
      grounds = grounds;
      added = added ∙ ap (insert_all nat_eq c.add.new.found.keys) c.as_slice.ensures.value ∙ ap (λ ks. insert_all nat_eq ks c.supports_at-supports.result.items) c.in_ok-add-in-Effect.ensures;
    })
    c.add_all.ensures
