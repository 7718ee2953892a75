use Rattle.std.proofs.Common.{get_or, rules, w64, None}
use Rattle.std.specs.Int.RustNames.{FitsSigned}
use Rattle.std.proofs.lemmas.Int.{to_z-of_z}
use Rattle.belief_list.proofs.Ordered.{rows_pushed}
use Rattle.belief_list.proofs.list.rows_of.Goals as goal

pub loop-i-preserved : goal.loop-i-preserved
loop-i-preserved c =
    let i = c.loop-i.i in
    let ranked = c.args.ranked.now in
    let fits : FitsSigned w64 (get_or ranked i _).early = search rules in
    rows_pushed ranked c.args.clips.now i _ None c.loop-i-test.true c.requires c.loop-i.list.items c.push.new.self.items _ (to_z-of_z w64 _ fits)
    c.in-Ok.ensures.ok c.loop-i.invariant
