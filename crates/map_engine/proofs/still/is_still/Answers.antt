use Rattle.std.proofs.Common.{◌≡◌, ◌∙◌, true, List, ℕ, ap, sym}
use Rattle.revisions.proofs.StillEdits.{unmoved}
use Rattle.map_engine.specs.Still.{are_elsewhere}
use Rattle.map_engine.proofs.Elsewhere.{elsewhere}
use Rattle.map_engine.proofs.still.is_still.Goals as goal

pub returns-then-unread-clause-alike : goal.returns-then-unread-clause-alike
returns-then-unread-clause-alike c = λ still.
    let lists = c.args.standing.now in
    let nets = c.args.net.now in
    let none : are_elsewhere lists.present.premises nets.present.names nets.moved ≡ true =
    ap (λ (l : List ℕ). are_elsewhere lists.present.premises nets.present.names l) (sym c.moved-moved.ensures.list) ∙ sym c.are_elsewhere.ensures ∙ still in
    unmoved lists.committed lists.present (c.requires.unread c.if-unread.true) nets.committed nets.present nets.moved c.requires.old_network c.requires.network c.requires.numbers
    c.moved-moved.ensures.moved (elsewhere lists.present c.requires.network.sound.well_named nets.present.names nets.moved none)
