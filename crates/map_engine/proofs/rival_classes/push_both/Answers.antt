use Rattle.std.proofs.lemmas.Result.{on_ok_weaker}
use Rattle.map_engine.proofs.rival_classes.push_both.Goals as goal

pub returns-clause-kept : goal.returns-clause-kept
returns-clause-kept c = on_ok_weaker c.push_class_of-2.result (λ kept class at. kept class (c.in_ok-push_class_of.ensures.kept class at)) c.push_class_of-2.ensures.kept
