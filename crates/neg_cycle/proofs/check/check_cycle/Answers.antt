use Rattle.std.proofs.Common.{◌∙◌, sym, refl, rules}
use Rattle.std.proofs.lemmas.Bool.{false≢true}
use Rattle.std.proofs.lemmas.Int.{to_z-of_z}
use Rattle.std.specs.Int.{w128}
use Rattle.std.specs.Int.RustNames.{FitsSigned}
use Rattle.dist_net.proofs.Sums.{negative_from}
use Rattle.tmm_model.specs.Cycles.{sum_of}
use Rattle.neg_cycle.proofs.check.check_cycle.Goals as goal
use Rattle.neg_cycle.proofs.check.check_cycle.Goals.{then-is_closed, else-is_closed, then-sum-lt0, else-sum-lt0}

pub returns-then-begin_apart : goal.returns-then-begin_apart
returns-then-begin_apart c =
    elim c.if-sum-lt0.branch [
      | then-sum-lt0 v ↦ elim c.if-is_closed.branch [
        | then-is_closed w ↦ (
          λ t. record {
            own = c.are_known.ensures.0 t;
            closed = w.if-is_closed.ensures.0 refl;
            distinct = v.begin_apart.ensures.0 (sym v.value-is ∙ c.if-begin_apart.true);
            negative = (let fits : FitsSigned w128 w.sum.result = search rules in
                negative_from _ (sum_of c.args.steps.now) (to_z-of_z w128 w.sum.result fits ∙ w.sum.ensures) (sym w.value-is ∙ v.if-sum-lt0.true));
          },
          λ is. c.are_known.ensures.1 is.own,
        )
        | else-is_closed w ↦ absurd (false≢true (sym w.if-is_closed.false ∙ (sym w.value-is ∙ v.if-sum-lt0.true)))
      ]
      | else-sum-lt0 v ↦ absurd (false≢true (sym v.if-sum-lt0.false ∙ (sym v.value-is ∙ c.if-begin_apart.true)))
    ]
