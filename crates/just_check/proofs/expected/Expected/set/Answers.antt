use Rattle.std.proofs.Common.{Some, subst, refl}
use Rattle.std.specs.Prelude.{IsSome}
use Rattle.just_check.specs.Origins.{entry_at}
use Rattle.just_check.proofs.Origins.{node_set}
use Rattle.just_check.proofs.expected.Expected.set.Goals as goal

pub returns-in-Some : goal.returns-in-Some
returns-in-Some c =
    let old = c.args.self.now in
    let there : IsSome (entry_at old c.args.origin.now) = subst IsSome c.in-Some.ensures.value refl in
    node_set old record { nodes = c.get_mut.follows.lender (Some c.args.x) } c.args.origin.now (Some c.args.x) ((c.get_mut.follows.holds (Some c.args.x)).3 there).0 c.args.x refl
