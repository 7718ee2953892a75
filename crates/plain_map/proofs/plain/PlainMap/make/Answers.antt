use Rattle.std.proofs.Common.{◌≡◌, ◌∙◌, sym, subst}
use Rattle.tmm_model.specs.Standing.{Standing}
use Rattle.dist_net.specs.Net.{Net}
use Rattle.net_theory.specs.Fits.{IsNetOf}
use Rattle.plain_map.specs.Beliefs.{AreBeliefs}
use Rattle.list_net.proofs.Networks.{at_start}
use Rattle.plain_map.proofs.plain.PlainMap.make.Goals as goal

pub project-requires : goal.project-requires
project-requires c = record { network = at_start c.make-standing.result.present c.in_ok-net.net.present c.make-standing.ensures.present c.in_ok-net.ensures.present c.invariants.ensures.distinct c.invariants.ensures.start c.invariants.ensures.in_use c.invariants.ensures.dates }

pub invariant_of-result : goal.invariant_of-result
invariant_of-result c =
    let list : c.make-standing.result.present ≡ c.make-standing.result.committed = c.make-standing.ensures.present ∙ sym c.make-standing.ensures.committed in
    let net : c.in_ok-net.net.present ≡ c.in_ok-net.net.committed = c.in_ok-net.ensures.present ∙ sym c.in_ok-net.ensures.committed in
    let network = at_start c.make-standing.result.present c.in_ok-net.net.present c.make-standing.ensures.present c.in_ok-net.ensures.present c.invariants.ensures.distinct c.invariants.ensures.start c.invariants.ensures.in_use c.invariants.ensures.dates in
    record {
      network = subst (λ (s : Standing). IsNetOf s c.in_ok-net.net.committed) list (subst (λ (n : Net). IsNetOf c.make-standing.result.present n) net network);
      believed = subst (λ (s : Standing). AreBeliefs s c.in_ok-net.net.committed c.in-Ok.beliefs) list (subst (λ (n : Net). AreBeliefs c.make-standing.result.present n c.in-Ok.beliefs) net c.in-Ok.ensures.beliefs);
      settled = λ _. record { list = list; net = net };
      next_network = network;
      next_beliefs = λ b never. absurd (cc (never));
    }
