use Rattle.clipping.proofs.across.first_of.Goals as goal

pub token_at-first-requires : goal.token_at-first-requires
token_at-first-requires g c = c.requires.best_within c.in-Some-best.before c.in-Some-best.is
