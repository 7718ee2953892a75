use Rattle.std.proofs.Common.{Some, ap, ◌∙◌}
use Rattle.agents.proofs.Rests.{rest_within}
use Rattle.agents.proofs.sharing.SharingModed.own.Goals as goal

pub hold-requires-clause-within : goal.hold-requires-clause-within
hold-requires-clause-within g c = rest_within c.args.bytes.now c.in-Hold.agent c.in-Hold.rest (c.requires.says ∙ ap Some c.in-Hold.is)
