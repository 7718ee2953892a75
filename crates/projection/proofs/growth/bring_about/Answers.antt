use Rattle.std.proofs.Common.{◌≡◌, ◌≤◌, ◌+◌, sym, subst}
use Rattle.tmm_model.specs.Answers.{size, most_size}
use Rattle.tmm_model.specs.Beliefs.{rules_at}
use Rattle.tmm_model.specs.Maps.{built}
use Rattle.tmm_model.specs.Moments.{After}
use Rattle.spots.specs.Forest.{moment_at}
use Rattle.occ_tree.specs.Dated.{IsDatedBy}
use Rattle.occ_tree.specs.Places.{forest}
use Rattle.occ_tree.specs.Standing.{present}
use Rattle.projection.specs.Places.{rule_at}
use Rattle.projection.specs.Projecting.{IsGrowing, Settles, left}
use Rattle.projection.specs.Queues.{Queues, weight_at, IsTooLarge}
use Rattle.projection.proofs.Decided.{entry, may_enter, decided_fires, left_less, effect_too_large}
use Rattle.projection.proofs.Ends.{ok_four, err_kept}
use Rattle.spots.proofs.Grown.{adds_seen}
use Rattle.projection.proofs.Settled.{larger}
use Rattle.projection.proofs.Steps.{new_live}
use Rattle.projection.proofs.growth.bring_about.Goals as goal

pub add_effect-requires-clause-trigger : goal.add_effect-requires-clause-trigger
add_effect-requires-clause-trigger c =
    (entry c.args.standing.now.present c.args.net.now.present (forest c.args.growing.now.tree) c.requires.before.1.queue c.args.growing.now.size c.requires.before.1.growing c.args.pending.now c.args.growing.now.queue c.requires.before.1.next).live

pub add_effect-requires-clause-place : goal.add_effect-requires-clause-place
add_effect-requires-clause-place c =
    (entry c.args.standing.now.present c.args.net.now.present (forest c.args.growing.now.tree) c.requires.before.1.queue c.args.growing.now.size c.requires.before.1.growing c.args.pending.now c.args.growing.now.queue c.requires.before.1.next).place

pub add_effect-requires-clause-enters : goal.add_effect-requires-clause-enters
add_effect-requires-clause-enters c =
    may_enter c.args.standing.now.present c.args.net.now.present (forest c.args.growing.now.tree) c.requires.before.1.queue c.args.growing.now.size c.requires.before.1.growing c.args.pending.now c.args.growing.now.queue c.requires.before.1.next

pub count_in-requires-clause-seen : goal.count_in-requires-clause-seen
count_in-requires-clause-seen c =
    let s = c.args.standing.now.present in
    let net = c.args.net.now.present in
    let f = forest c.args.growing.now.tree in
    let seen = c.requires.before.1.growing.grown.seen in
    let may = may_enter s net f c.requires.before.1.queue c.args.growing.now.size c.requires.before.1.growing c.args.pending.now c.args.growing.now.queue c.requires.before.1.next in
    record {
      seen = adds_seen s net f (forest c.add_effect.new.tree) c.in-Ok.x (After (moment_at f c.args.pending.now.trigger) (rule_at c.args.standing.now.present c.args.pending.now)) (c.in-Ok.ensures.adds net seen) may.new seen;
      dated = c.in-Ok.ensures.dated net (record { seen = seen; dated = c.requires.dated });
    }

pub count_in-requires-clause-live : goal.count_in-requires-clause-live
count_in-requires-clause-live c =
    let s = c.args.standing.now.present in
    let net = c.args.net.now.present in
    let f = forest c.args.growing.now.tree in
    let seen = c.requires.before.1.growing.grown.seen in
    new_live s net f (forest c.add_effect.new.tree) c.in-Ok.x (After (moment_at f c.args.pending.now.trigger) (rule_at c.args.standing.now.present c.args.pending.now)) (c.in-Ok.ensures.adds net seen)

pub returns-in-Ok : goal.returns-in-Ok
returns-in-Ok c =
    let s = c.args.standing.now.present in
    let net = c.args.net.now.present in
    let f = forest c.args.growing.now.tree in
    let n = c.args.growing.now.size in
    let p = c.args.pending.now in
    let rest = c.args.growing.now.queue in
    let (made, now) = c.requires.before in
    let fires = c.requires.fires now.growing.entered now.growing.grown.holds in
    let new = forest c.add_effect.new.tree in
    let x = c.in-Ok.x in
    let adds = c.in-Ok.ensures.adds net now.growing.grown.seen in
    let grown = c.count_in.new.growing in
    record {
      after =
          ok_four c.count_in.result (grown.tree ≡ c.add_effect.new.tree) (grown.size ≡ n + weight_at s new x) (n + weight_at s new x ≤ most_size) (Queues s new x (rules_at s (moment_at new x)) rest grown.queue)
          (Settles s net c.args.growing.now p grown) c.count_in.ensures.tree c.count_in.ensures.size c.count_in.ensures.small c.count_in.ensures.queued
          (λ same counted small queues made before.
          subst (λ t. IsGrowing s net (forest t) grown.queue grown.size (made + 1)) (sym same)
          (subst (λ m. IsGrowing s net new grown.queue m (made + 1)) (sym counted)
          (decided_fires s net f before.queue n before.growing p rest before.next (c.requires.fires before.growing.entered before.growing.grown.holds) new x
          (c.in-Ok.ensures.adds net before.growing.grown.seen) grown.queue queues small)));
      dated =
          ok_four c.count_in.result (grown.tree ≡ c.add_effect.new.tree) (grown.size ≡ n + weight_at s new x) (n + weight_at s new x ≤ most_size) (Queues s new x (rules_at s (moment_at new x)) rest grown.queue)
          (IsDatedBy net (present grown.tree)) c.count_in.ensures.tree c.count_in.ensures.size c.count_in.ensures.small c.count_in.ensures.queued
          (λ same counted small queues.
          subst (λ t. IsDatedBy net (present t)) (sym same) (c.in-Ok.ensures.dated net (record { seen = now.growing.grown.seen; dated = c.requires.dated })));
      nearer =
          ok_four c.count_in.result (grown.tree ≡ c.add_effect.new.tree) (grown.size ≡ n + weight_at s new x) (n + weight_at s new x ≤ most_size) (Queues s new x (rules_at s (moment_at new x)) rest grown.queue)
          (left grown.queue grown.size ≤ left rest n) c.count_in.ensures.tree c.count_in.ensures.size c.count_in.ensures.small c.count_in.ensures.queued
          (λ same counted small queues.
          subst (λ m. left grown.queue m ≤ left rest n) (sym counted)
          (left_less s net f now.queue n now.growing p rest now.next fires new x adds grown.queue queues small));
      stops =
          err_kept c.count_in.result (IsTooLarge (n + weight_at s new x)) (IsTooLarge (size (built s))) c.count_in.ensures.stops
          (λ stop. larger (n + weight_at s new x) (size (built s)) stop (effect_too_large s net f now.queue n now.growing p rest now.next fires new x adds));
    }
