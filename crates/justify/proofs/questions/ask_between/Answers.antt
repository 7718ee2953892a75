use Rattle.std.proofs.Common.{List, IsSome, refl, subst, append-nil, []}
use Rattle.tmm_model.specs.declared.premise.Premise.{Premise}
use Rattle.tmm_model.specs.Sorts.{class_in}
use Rattle.tt_query.proofs.Facts.{fact_known}
use Rattle.justify.proofs.questions.ask_between.Goals as goal

pub ask-requires-clause-fact : goal.ask-requires-clause-fact
ask-requires-clause-fact c =
    let ps = c.args.map.now.standing.now.present.premises in
    subst (λ (l : List Premise). IsSome (class_in l c.args.fact)) (append-nil ps) (fact_known ps [] c.args.fact (c.in_default.ensures.ok.0 refl))
