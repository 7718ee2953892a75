use Rattle.std.proofs.Common.{◌≡◌, ◌∙◌, sym, ap, Option, Some, None}
use Rattle.std.specs.Option.{option_map, option_map_or}
use Rattle.spots.specs.Forest.{Member}
use Rattle.spots.proofs.Nodes.{node_at}
use Rattle.occ_tree.specs.Places.{forest}
use Rattle.belief_table.specs.Erasing.{fact_of, fact_at}
use Rattle.belief_table.proofs.Parted.{notes_one, notes_no_token}
use Rattle.belief_table.proofs.erasing.note_fact.Goals as goal

pub returns-in_ok-enter-in-Some : goal.returns-in_ok-enter-in-Some
returns-in_ok-enter-in-Some c =
    let t = c.args.tree.now in
    let (m, at) = node_at (forest t) c.args.y c.requires in
    let row = c.row-row.ensures m at in
    let has : m.class ≡ Some _ = sym row.class ∙ c.in-Some.is in
    notes_one t (fact_at t) c.args.y c.row-row.result.what c.args.facts.now c.enter.new.self
    (ap (λ (o : Option Member). option_map_or fact_of o None) at ∙ ap (option_map (λ _. m.what)) has ∙ ap Some (sym row.what))
    c.enter.ensures.more (c.in_ok-enter-in-Some.field-0, c.in_ok-enter-in-Some.ensures.entered) c.in_ok-enter-in-Some.ensures.only

pub returns-in-None : goal.returns-in-None
returns-in-None c =
    let t = c.args.tree.now in
    let (m, at) = node_at (forest t) c.args.y c.requires in
    let row = c.row-row.ensures m at in
    notes_no_token t (fact_at t) c.args.y c.args.facts.now
    (ap (λ (o : Option Member). option_map_or fact_of o None) at ∙ ap (option_map (λ _. m.what)) (sym row.class ∙ c.in-None.is))
