use Rattle.std.proofs.Common.{◌≡◌, ◌≤◌, ◌∙◌, length, sym, ap, subst, arith, false}
use Rattle.tmm_model.specs.Verdicts.{words_known}
use Rattle.repairs.specs.Repairs.{is_declared}
use Rattle.repairs.proofs.FreeNames.{last_free}
use Rattle.repairs.proofs.free_names.free_name.Goals as goal
use Rattle.repairs.proofs.free_names.free_name.Goals.{then-loop-number-test+else-is_declared, else-loop-number-test}

pub returns-clause-free : goal.returns-clause-free
returns-clause-free c =
    let s = c.args.standing.now.present in
    record {
      number = c.loop-number.number;
      spelt = c.repair_name-2.ensures.value;
      free = subst (λ n. is_declared s n ≡ false) (sym c.repair_name-2.ensures.value)
          (elim c.loop-number-test.branch [
            | then-loop-number-test+else-is_declared w ↦ ap (is_declared s) (sym w.repair_name.ensures.value) ∙ sym w.is_declared.ensures ∙ w.if-is_declared.false
            | else-loop-number-test w ↦
                let all : length (words_known s.premises) ≤ c.loop-number.number = omega (arith, w.loop-number-test.false, c.word_count-words.ensures.value) in
                let few : c.loop-number.number ≤ 18000 = omega (arith, c.loop-number.invariant.within, c.word_count-words.ensures.few) in
                last_free s c.loop-number.number few all c.loop-number.invariant.declared
          ]);
      first = c.loop-number.invariant.declared;
    }
