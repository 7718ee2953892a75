use Rattle.std.proofs.Common.{◌∙◌, ◌++◌, List, ℕ, take, ap, arith}
use Rattle.occ_tree.specs.Standing.{nodes_in, present_rows}
use Rattle.occ_tree.proofs.Beside.{rule_live, one_more, all_taken}
use Rattle.occ_tree.proofs.Ways.{length-way, length-links}
use Rattle.occ_tree.proofs.told.rules_on.Goals as goal

pub loop-above-init : goal.loop-above-init
loop-above-init c =
    let links = length-links (nodes_in (present_rows c.args.nodes.now)) c.args.x c.get.result.now c.get.ensures.node in
    let fits = c.requires.fits in
    record {
      taken = c.in_ok-extend.ensures.ok
          ∙ ap (λ (u : List (List ℕ)). u ++ take c.args.first c.args.names.now) (c.reserve.ensures.items ∙ c.make-rules.ensures)
          ∙ c.requires.first;
      within = omega (arith, links, fits);
    }

pub ancestor_at-requires : goal.ancestor_at-requires
ancestor_at-requires c =
    let long = length-way (nodes_in (present_rows c.args.nodes.now)) c.args.x c.get.result.now c.get.ensures.node in
    let below = c.loop-above-test.true in
    record { node = omega (arith, long, below) }

pub get-requires-in-loop-above : goal.get-requires-in-loop-above
get-requires-in-loop-above c =
    rule_live (nodes_in (present_rows c.args.nodes.now)) c.get.ensures.stands.placed c.args.x c.get.result.now c.get.ensures.node c.loop-above.above c.loop-above-test.true c.ancestor_at.result c.ancestor_at.ensures

pub loop-above-preserved : goal.loop-above-preserved
loop-above-preserved c =
    let below = c.loop-above-test.true in
    record {
      taken = one_more (nodes_in (present_rows c.args.nodes.now)) c.get.ensures.stands.placed c.args.x c.get.result.now c.get.ensures.node c.loop-above.above below c.ancestor_at.result c.ancestor_at.ensures
          c.get-in-loop-above.result.now c.get-in-loop-above.ensures.node c.loop-above.rules.items c.push_rule.new.rules.items c.loop-above.invariant.taken c.in_ok-push_rule.ensures;
      within = omega (arith, below);
    }

pub returns : goal.returns
returns c =
    let past = c.loop-above-test.false in
    c.loop-above.invariant.taken
    ∙ all_taken (nodes_in (present_rows c.args.nodes.now)) c.args.x c.get.result.now c.get.ensures.node c.loop-above.above (omega (arith, past))
