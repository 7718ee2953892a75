use Rattle.std.proofs.Common.{refl, ◌+◌}
use Rattle.just_check.specs.Audited.{rows_of}
use Rattle.just_check.proofs.Deciding.{rows_tree, decides_next}
use Rattle.just_check.proofs.auditing.decide_next.Goals as goal

pub returns-clause-taken : goal.returns-clause-taken
returns-clause-taken c =
    let old = c.args.checked.now in
    decides_next c.args.standing.now.present c.args.net.now.present old c.index-x.result.now c.requires.within c.index-x.ensures
    (record { tree = old.tree; nodes = old.nodes; decided = old.decided + 1; expected = c.expect_effects.new.expected }) refl refl refl
    (c.in_ok-expect_effects.ensures (rows_of old) c.requires.before.so_far.holds) c.requires.before

pub expect_effects-requires-clause-seen : goal.expect_effects-requires-clause-seen
expect_effects-requires-clause-seen c = rows_tree c.requires.before
