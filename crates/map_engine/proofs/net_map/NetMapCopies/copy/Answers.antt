use Rattle.std.proofs.Common.{◌≡◌, ◌∙◌, ap, sym, subst}
use Rattle.tmm_model.specs.Standing.{Standing}
use Rattle.dist_net.specs.Net.{Net, Nets}
use Rattle.premise_list.specs.States.{States}
use Rattle.map_core.specs.MapStates.{MapState}
use Rattle.map_engine.specs.NetMaps.{IsHeld, IsResting}
use Rattle.map_engine.proofs.NetMaps.{copies_rest}
use Rattle.map_engine.proofs.net_map.NetMapCopies.copy.Goals as goal

pub resting_map-requires-clause-settled : goal.resting_map-requires-clause-settled
resting_map-requires-clause-settled c = record {
  list = ap (λ (l : States). l.present) c.in_ok-standing.ensures ∙ sym (ap (λ (l : States). l.committed) c.in_ok-standing.ensures);
  net = ap (λ (n : Nets). n.present) c.in_ok-net.ensures.copied ∙ sym (ap (λ (n : Nets). n.committed) c.in_ok-net.ensures.copied);
}

pub resting_map-requires-clause-held : goal.resting_map-requires-clause-held
resting_map-requires-clause-held c =
    let m = c.self.inside in
    subst (λ (s : Standing). IsHeld s c.in_ok-net.net.committed m.guarded) (sym (ap (λ (l : States). l.committed) c.in_ok-standing.ensures))
    (subst (λ (n : Net). IsHeld m.standing.present n m.guarded) (sym (ap (λ (n : Nets). n.committed) c.in_ok-net.ensures.copied)) c.self.invariant.next_held)

pub resting_map-requires-clause-rests : goal.resting_map-requires-clause-rests
resting_map-requires-clause-rests c =
    let m = c.self.inside in
    let idle = ap (λ (m : MapState). m.pending) c.self.view_is ∙ c.requires.idle in
    let settled = c.self.invariant.settled idle in
    let nodes = c.in_ok-nodes.nodes in
    let view = c.in_ok-view.view in
    let here : IsResting m.standing.committed m.net.committed nodes view =
    copies_rest m.standing.committed m.net.committed m.nodes nodes m.view view c.in_ok-nodes.ensures.kept c.in_ok-nodes.ensures.tree.present_is c.in_ok-view.ensures (c.self.invariant.rests idle) in
    let list : m.standing.committed ≡ c.in_ok-standing.standing.committed = sym settled.list ∙ sym (ap (λ (l : States). l.committed) c.in_ok-standing.ensures) in
    let net : m.net.committed ≡ c.in_ok-net.net.committed = sym settled.net ∙ sym (ap (λ (n : Nets). n.committed) c.in_ok-net.ensures.copied) in
    subst (λ (s : Standing). IsResting s c.in_ok-net.net.committed nodes view) list (subst (λ (n : Net). IsResting m.standing.committed n nodes view) net here)
