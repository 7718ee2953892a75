use Rattle.std.proofs.Common.{◌≡◌, [], Option, Some, None, sym, subst, refl, ◌∙◌}
use Rattle.dist_net.specs.Net.{Nets}
use Rattle.premise_list.specs.States.{States}
use Rattle.plain_map.specs.declared.beliefs.Beliefs.{Beliefs}
use Rattle.plain_map.specs.Plain.{IsPlain}
use Rattle.plain_map.proofs.plain.PlainMapMapCore.commit.Goals as goal

-- the pending state is the committed one now
kept : (lists new_lists : States) (nets new_nets : Nets) (beliefs next : Beliefs) (left : Option Beliefs) → IsPlain lists nets beliefs (Some next)
    → new_lists ≡ record { present = lists.present; committed = lists.present } → new_nets ≡ record { present = nets.present; committed = nets.present; draft = nets.draft; moved = [] } → left ≡ None
    → IsPlain new_lists new_nets next left
kept lists new_lists nets new_nets beliefs next left is are hold none =
    subst (λ (l : States). IsPlain l new_nets next left) (sym are)
    (subst (λ (n : Nets). IsPlain (record { present = lists.present; committed = lists.present }) n next left) (sym hold)
    (subst (λ (o : Option Beliefs). IsPlain (record { present = lists.present; committed = lists.present }) (record { present = nets.present; committed = nets.present; draft = nets.draft; moved = [] }) next o) (sym none)
    (record {
      network = is.next_network;
      believed = is.next_beliefs next refl;
      settled = λ _. record { list = refl; net = refl };
      next_network = is.next_network;
      next_beliefs = λ b never. absurd (cc (never));
    })))

pub invariant_of-self : goal.invariant_of-self
invariant_of-self c =
    kept c.self.inside.standing c.commit.new.self c.self.inside.net c.commit-in-Some.new.self c.self.inside.beliefs c.in-Some.next c.take.new.self
    (subst (λ (o : Option Beliefs). IsPlain c.self.inside.standing c.self.inside.net c.self.inside.beliefs o) (sym c.take.ensures.value ∙ c.in-Some.is) c.self.invariant)
    c.commit.ensures c.commit-in-Some.ensures c.take.ensures.after
