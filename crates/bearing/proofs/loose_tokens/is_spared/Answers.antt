use Rattle.std.proofs.Common.{sym, subst}
use Rattle.bearing.specs.Shifts.{TokensHave}
use Rattle.bearing.proofs.loose_tokens.is_spared.Goals as goal

pub are_walls-requires-clause-tokens : goal.are_walls-requires-clause-tokens
are_walls-requires-clause-tokens c = subst (TokensHave c.args.net.now.committed) (sym c.deref.ensures.value) (λ k d less. (c.requires.shift.before k d less).0)
