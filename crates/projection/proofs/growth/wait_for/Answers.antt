use Rattle.std.proofs.Common.{◌≡◌, ◌∙◌, ◌+◌, ◌∷◌, ◌++◌, [], get_or, map, take, refl, sym, ap, subst, arith, rules, w64}
use Rattle.std.specs.Prelude.{FitsSigned}
use Rattle.std.specs.List.{Contains}
use Rattle.std.proofs.lemmas.List.{get_or_default, map-append, take_all}
use Rattle.tmm_model.specs.Beliefs.{due, rules_at}
use Rattle.tmm_model.specs.Standing.{far_in}
use Rattle.spots.specs.Forest.{moment_at}
use Rattle.occ_tree.specs.Places.{forest}
use Rattle.supports.proofs.Taken.{next_taken}
use Rattle.projection.specs.Decisions.{IsDueBy}
use Rattle.projection.specs.Places.{name_at}
use Rattle.projection.specs.Queues.{Queues}
use Rattle.projection.proofs.AtPlaces.{named_there}
use Rattle.projection.proofs.Dates.{early_seen, delay_seen, due_is}
use Rattle.projection.proofs.Waiting.{queues_late, queues_more}
use Rattle.projection.proofs.growth.wait_for.Goals as goal
use Rattle.projection.proofs.growth.wait_for.Goals.{in-Some+in_ok-push, in_default}

pub text_at-text-requires : goal.text_at-text-requires
text_at-text-requires c = c.requires.places c.loop-place.place-index 0 c.loop-place-test.true

pub due_by-requires-clause-early : goal.due_by-requires-clause-early
due_by-requires-clause-early c =
    let fits : FitsSigned w64 c.early-early.result = search rules in
    early_seen c.args.map.now.standing.now.present c.args.map.now.net.now.present (forest c.args.map.now.tree.now) c.requires.seen.seen c.args.x c.requires.live c.early-early.result fits c.early-early.ensures

pub due_by-requires-clause-delay : goal.due_by-requires-clause-delay
due_by-requires-clause-delay c =
    let s = c.args.map.now.standing.now.present in
    let names = rules_at s (moment_at (forest c.args.map.now.tree.now) c.args.x) in
    let place = get_or c.args.places.now c.loop-place.place-index 0 in
    let fits : FitsSigned w64 c.early-early.result = search rules in
    let fits_lo : FitsSigned w64 c.text_at-text.result.lo = search rules in
    let stands : Contains names (name_at s place) = named_there s c.args.places.now names c.requires.rules c.loop-place.place-index c.loop-place-test.true in
    delay_seen s c.args.map.now.net.now.present (forest c.args.map.now.tree.now) c.requires.seen.seen c.args.x c.requires.live c.early-early.result fits c.early-early.ensures
    (name_at s place) c.text_at-text.result.lo fits_lo c.text_at-text.ensures.lo stands

pub loop-place-preserved : goal.loop-place-preserved
loop-place-preserved c =
    let s = c.args.map.now.standing.now.present in
    let f = forest c.args.map.now.tree.now in
    let x = c.args.x in
    let places = c.args.places.now in
    let i = c.loop-place.place-index in
    let place = get_or places i 0 in
    let rule = name_at s place in
    let more : map (name_at s) (take (i + 1) places) ≡ map (name_at s) (take i places) ++ rule ∷ [] =
    ap (map (name_at s)) (next_taken places i place c.loop-place-test.true (get_or_default places i 0 place c.loop-place-test.true)) ∙ map-append (name_at s) (take i places) (place ∷ []) in
    let fits : FitsSigned w64 c.early-early.result = search rules in
    let fits_lo : FitsSigned w64 c.text_at-text.result.lo = search rules in
    let told : IsDueBy s.horizon (due s (far_in s.premises) (moment_at f x) rule) c.due_by.result =
    due_is s c.args.map.now.net.now.present f c.requires.seen.seen x c.requires.live c.early-early.result fits c.early-early.ensures
    rule c.text_at-text.result.lo fits_lo c.text_at-text.ensures.lo c.horizon-horizon.result c.horizon-horizon.ensures c.due_by.result c.due_by.ensures in
    elim c.match-due_by.branch [
      | in-Some+in_ok-push w ↦
          let date = subst (IsDueBy s.horizon (due s (far_in s.premises) (moment_at f x) rule)) w.in-Some.is told in
          subst (Queues s f x (map (name_at s) (take (i + 1) places)) c.args.queue.now) (sym w.queue-is)
          (subst (λ l. Queues s f x l c.args.queue.now w.push.new.self) (sym more)
          (queues_more s f x (map (name_at s) (take i places)) rule c.args.queue.now c.loop-place.queue w.push.new.self (record { due = record { 0 = w.in-Some.due }; trigger = x; rule = place }) c.loop-place.invariant
          refl (c.requires.places i 0 c.loop-place-test.true) refl date.0 date.1 w.in_ok-push.ensures))
      | in_default w ↦
          subst (Queues s f x (map (name_at s) (take (i + 1) places)) c.args.queue.now) (sym w.queue-is)
          (subst (λ l. Queues s f x l c.args.queue.now c.loop-place.queue) (sym more)
          (queues_late s f x (map (name_at s) (take i places)) rule c.args.queue.now c.loop-place.queue c.loop-place.invariant
          (subst (IsDueBy s.horizon (due s (far_in s.premises) (moment_at f x) rule)) w.in_default.is told)))
    ]

pub returns : goal.returns
returns c =
    let s = c.args.map.now.standing.now.present in
    subst (λ names. Queues s (forest c.args.map.now.tree.now) c.args.x names c.args.queue.now c.loop-place.queue)
    (ap (map (name_at s)) (take_all c.loop-place.place-index c.args.places.now (omega arith)) ∙ c.requires.rules) c.loop-place.invariant
