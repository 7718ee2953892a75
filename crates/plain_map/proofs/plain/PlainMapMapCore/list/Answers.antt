use Rattle.std.proofs.Common.{◌≡◌, map, ap, ◌∙◌}
use Rattle.tmm_model.specs.Answers.{rows, row_of}
use Rattle.tmm_model.specs.Maps.{built}
use Rattle.map_core.specs.MapStates.{MapState}
use Rattle.belief_list.proofs.WholeChanges.{if_ok}
use Rattle.plain_map.proofs.plain.PlainMapMapCore.list.Goals as goal

pub returns : goal.returns
returns c =
    let lists = c.self.inside.standing in
    if_ok (λ found. map row_of found.items ≡ rows (built lists.committed)) (λ found. map row_of found.items ≡ rows (built c.args.self.now.list))
    (λ found is. is ∙ ap (λ (m : MapState). rows (built m.list)) c.self.view_is)
    c.told_rows.result (c.told_rows.ensures lists.committed c.self.invariant.believed.view)
