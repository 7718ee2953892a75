use Rattle.std.proofs.Common.{◌∙◌, sym, refl, None}
use Rattle.just_check.proofs.Origins.{awaits_set, none_from}
use Rattle.just_check.specs.Origins.{entry_at}
use Rattle.just_check.proofs.expected.Expected.add.Goals as goal

pub returns-in-Ok : goal.returns-in-Ok
returns-in-Ok c =
    let old = c.args.self.now in
    awaits_set old record { nodes = c.insert.new.self } c.args.origin None c.in-Ok.ensures.updates.0
    (none_from (entry_at old c.args.origin) (sym c.contains_key.ensures ∙ c.if-contains_key.false)) refl
