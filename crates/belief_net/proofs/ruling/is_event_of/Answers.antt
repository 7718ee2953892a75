use Rattle.std.proofs.Common.{◌≡◌, ◌∙◌, Some, None, sym}
use Rattle.std.specs.Cmp.Lexicographic.{bytes_decides}
use Rattle.occ_tree.specs.Places.{forest}
use Rattle.spots.proofs.Nodes.{node_at}
use Rattle.belief_net.proofs.ruling.is_event_of.Goals as goal

none_some : {X : Type 0} (x : X) → None ≡ Some x → ⊥
none_some x e = cc

pub returns-in-Some-clause-other : goal.returns-in-Some-clause-other
returns-in-Some-clause-other c = λ is. absurd (none_some _ (sym is.event ∙ sym (c.row-row.ensures is.node is.at).class ∙ c.in-Some.is))

pub returns-in-None-clause-event : goal.returns-in-None-clause-event
returns-in-None-clause-event c = λ h.
    let (m, at) = node_at (forest c.args.tree.now) c.args.x c.requires in
    let row = c.row-row.ensures m at in
    record { node = m; at = at; event = sym row.class ∙ c.in-None.is; kind_is = sym row.what ∙ (bytes_decides c.row-row.result.what c.args.kind).0 (sym c.eq.ensures ∙ h) }

pub returns-in-None-clause-other : goal.returns-in-None-clause-other
returns-in-None-clause-other c = λ is. c.eq.ensures ∙ (bytes_decides c.row-row.result.what c.args.kind).1 ((c.row-row.ensures is.node is.at).what ∙ is.kind_is)
