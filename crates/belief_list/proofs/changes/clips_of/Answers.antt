use Rattle.std.proofs.Common.{◌∙◌, ℕ, map, ap}
use Rattle.tmm_model.specs.Changes.{clip_pair}
use Rattle.spots.specs.Forest.{moment_at}
use Rattle.occ_tree.specs.Places.{forest}
use Rattle.belief_list.proofs.Neighbours.{one_more, all_told}
use Rattle.belief_list.proofs.changes.clips_of.Goals as goal

pub token_after-requires-clause-before : goal.token_after-requires-clause-before
token_after-requires-clause-before c = ap (map clip_pair) c.items.ensures ∙ c.loop-i.invariant

pub loop-i-preserved : goal.loop-i-preserved
loop-i-preserved c =
    let at = moment_at (forest c.args.tree.now) in
    one_more clip_pair (λ (p : ℕ × ℕ). (at p.0, at p.1)) c.args.pairs.now c.loop-i.clips.items c.push_clip_of.new.clips.items _ c.loop-i.i _ c.loop-i-test.true c.loop-i.invariant
    c.in_ok-push_clip_of.ensures (λ j. (c.in_ok-token.ensures j, c.in_ok-by.ensures j))

pub returns : goal.returns
returns c =
    let at = moment_at (forest c.args.tree.now) in
    all_told clip_pair (λ (p : ℕ × ℕ). (at p.0, at p.1)) c.args.pairs.now c.loop-i.clips.items c.loop-i.i c.loop-i-test.false c.loop-i.invariant
