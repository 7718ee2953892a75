use Rattle.std.proofs.Common.{arith}
use Rattle.supports.proofs.ListsThere.{few_pairs}
use Rattle.supports.proofs.class_tokens.ClassTokensTokens.count.Goals as goal

pub overflow_add-result : goal.overflow_add-result
overflow_add-result c = omega (arith, few_pairs c.args.self.now.standing.now.present.premises, c.rivalries.ensures, c.len-few.ensures.value, c.len-few.ensures.few)
