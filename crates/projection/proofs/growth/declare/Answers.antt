use Rattle.std.proofs.Common.{◌≡◌, ◌∙◌, ◌≤◌, ◌+◌, ◌∷◌, ◌++◌, [], suc, take, drop, sym, ap, subst, add-one}
use Rattle.std.specs.Prelude.{Some, slice_get}
use Rattle.projection.specs.Projecting.{IsStarted}
use Rattle.projection.specs.Queues.{Queues, weight_at, IsTooLarge}
use Rattle.tmm_model.specs.Answers.{size, most_size}
use Rattle.tmm_model.specs.Beliefs.{rules_at}
use Rattle.tmm_model.specs.Maps.{built}
use Rattle.spots.specs.Forest.{moment_at}
use Rattle.spots.specs.OfLists.{HasList}
use Rattle.occ_tree.specs.Dated.{IsDatedBy}
use Rattle.occ_tree.specs.Places.{forest}
use Rattle.occ_tree.specs.Standing.{present}
use Rattle.projection.proofs.Ends.{ok_four, err_kept}
use Rattle.spots.proofs.Grown.{taken, parted, stands, no_root, root_seen, root_added, root_skipped}
use Rattle.projection.proofs.Settled.{started_none, started_more, root_too_large, larger}
use Rattle.projection.proofs.Steps.{new_live}
use Rattle.projection.proofs.growth.declare.Goals as goal

pub add_root-requires-clause-stands : goal.add_root-requires-clause-stands
add_root-requires-clause-stands c = stands c.args.standing.now.present.premises c.args.place c.in-Some.premise.now (sym c.in-Some.ensures)

pub add_root-requires-clause-new : goal.add_root-requires-clause-new
add_root-requires-clause-new c =
    let s = c.args.standing.now.present in
    let i = c.args.place in
    let p = c.in-Some.premise.now in
    no_root s c.requires.network.sound (take i s.premises) p (drop (suc i) s.premises) (parted s.premises i p (sym c.in-Some.ensures)) (forest c.args.growing.now.tree) c.requires.before.grown.holds

pub count_in-requires-clause-seen : goal.count_in-requires-clause-seen
count_in-requires-clause-seen c =
    let s = c.args.standing.now.present in
    let net = c.args.net.now.present in
    let f = forest c.args.growing.now.tree in
    let i = c.args.place in
    let p = c.in-Some.premise.now in
    let seen = root_seen s c.requires.network.sound (take i s.premises) p (drop (suc i) s.premises) (parted s.premises i p (sym c.in-Some.ensures)) net f (forest c.add_root.new.tree) (Some c.in-Ok-Some.x)
    c.requires.before.grown.holds c.requires.before.grown.seen (rw c.in-Ok-Some.field-0-is at c.in-Ok-Some.ensures.adds) in
    record { seen = seen; dated = c.in-Ok-Some.ensures.dated (s, seen) c.requires.dated }

pub count_in-requires-clause-live : goal.count_in-requires-clause-live
count_in-requires-clause-live c =
    let s = c.args.standing.now.present in
    let net = c.args.net.now.present in
    let f = forest c.args.growing.now.tree in
    let (k, made, adds) = root_added s net c.in-Some.premise.now f (forest c.add_root.new.tree) c.in-Ok-Some.x (rw c.in-Ok-Some.field-0-is at c.in-Ok-Some.ensures.adds) in
    new_live s net f (forest c.add_root.new.tree) c.in-Ok-Some.x k adds

pub returns-in-Ok-Some : goal.returns-in-Ok-Some
returns-in-Ok-Some c =
    let s = c.args.standing.now.present in
    let net = c.args.net.now.present in
    let i = c.args.place in
    let p = c.in-Some.premise.now in
    let f = forest c.args.growing.now.tree in
    let new = forest c.add_root.new.tree in
    let x = c.in-Ok-Some.x in
    let n = c.args.growing.now.size in
    let queue = c.args.growing.now.queue in
    let grown = c.count_in.new.growing in
    let at : slice_get s.premises i ≡ Some p = sym c.in-Some.ensures in
    let whole = parted s.premises i p at in
    let more : take i s.premises ++ p ∷ [] ≡ take (i + 1) s.premises = sym (taken s.premises i p at) ∙ ap (λ k. take k s.premises) (sym (add-one i)) in
    let (k, made, adds) = root_added s net p f new x (rw c.in-Ok-Some.field-0-is at c.in-Ok-Some.ensures.adds) in
    let seen =
    root_seen s c.requires.network.sound (take i s.premises) p (drop (suc i) s.premises) whole net f new (Some x) c.requires.before.grown.holds c.requires.before.grown.seen
    (rw c.in-Ok-Some.field-0-is at c.in-Ok-Some.ensures.adds) in
    let dated = c.in-Ok-Some.ensures.dated (s, seen) c.requires.dated in
    record {
      after =
          ok_four c.count_in.result (grown.tree ≡ c.add_root.new.tree) (grown.size ≡ n + weight_at s new x) (n + weight_at s new x ≤ most_size) (Queues s new x (rules_at s (moment_at new x)) queue grown.queue)
          (IsStarted s net (take (i + 1) s.premises) (forest grown.tree) grown.queue grown.size) c.count_in.ensures.tree c.count_in.ensures.size c.count_in.ensures.small c.count_in.ensures.queued
          (λ same counted small queues.
          subst (λ front. IsStarted s net front (forest grown.tree) grown.queue grown.size) more
          (subst (λ t. IsStarted s net (take i s.premises ++ p ∷ []) (forest t) grown.queue grown.size) (sym same)
          (subst (IsStarted s net (take i s.premises ++ p ∷ []) new grown.queue) (sym counted)
          (started_more s net f queue n (take i s.premises) p (drop (suc i) s.premises) whole c.requires.before new x k made adds grown.queue queues small))));
      dated =
          ok_four c.count_in.result (grown.tree ≡ c.add_root.new.tree) (grown.size ≡ n + weight_at s new x) (n + weight_at s new x ≤ most_size) (Queues s new x (rules_at s (moment_at new x)) queue grown.queue)
          (IsDatedBy net (present grown.tree)) c.count_in.ensures.tree c.count_in.ensures.size c.count_in.ensures.small c.count_in.ensures.queued
          (λ same counted small queues. subst (λ t. IsDatedBy net (present t)) (sym same) dated);
      stops =
          err_kept c.count_in.result (IsTooLarge (n + weight_at s new x)) (IsTooLarge (size (built s))) c.count_in.ensures.stops
          (λ stop. larger (n + weight_at s new x) (size (built s)) stop (root_too_large s net f queue n (take i s.premises) p (drop (suc i) s.premises) whole c.requires.before new x k made adds));
    }

pub returns-in-Ok-None-clause-after : goal.returns-in-Ok-None-clause-after
returns-in-Ok-None-clause-after c =
    let s = c.args.standing.now.present in
    let net = c.args.net.now.present in
    let i = c.args.place in
    let p = c.in-Some.premise.now in
    let f = forest c.args.growing.now.tree in
    let new = forest c.add_root.new.tree in
    let n = c.args.growing.now.size in
    let queue = c.args.growing.now.queue in
    let at : slice_get s.premises i ≡ Some p = sym c.in-Some.ensures in
    let more : take i s.premises ++ p ∷ [] ≡ take (i + 1) s.premises = sym (taken s.premises i p at) ∙ ap (λ k. take k s.premises) (sym (add-one i)) in
    let (none, same) = root_skipped s net p f new (rw c.in-Ok-None.field-0-is at c.in-Ok-None.ensures.adds) in
    subst (λ front. IsStarted s net front new queue n) more
    (subst (λ g. IsStarted s net (take i s.premises ++ p ∷ []) g queue n) (sym same)
    (started_none s net f queue n (take i s.premises) p (drop (suc i) s.premises) (parted s.premises i p at) c.requires.before none))

pub returns-in-Ok-None-clause-dated : goal.returns-in-Ok-None-clause-dated
returns-in-Ok-None-clause-dated c =
    let s = c.args.standing.now.present in
    let net = c.args.net.now.present in
    let (none, same) = root_skipped s net c.in-Some.premise.now (forest c.args.growing.now.tree) (forest c.add_root.new.tree) (rw c.in-Ok-None.field-0-is at c.in-Ok-None.ensures.adds) in
    c.in-Ok-None.ensures.dated (subst (HasList net) (sym same) (s, c.requires.before.grown.seen)) c.requires.dated
