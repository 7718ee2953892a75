use Rattle.std.proofs.Common.{length, ap, sym, ◌∙◌, arith}
use Rattle.tmm_model.specs.Verdicts.{words_known}
use Rattle.premise_list.specs.Table.{Rows}
use Rattle.premise_list.proofs.TableFacts.{word_total}
use Rattle.premise_list.proofs.table.Table.copy.Goals as goal

pub declare_anew-points-requires-clause-room : goal.declare_anew-points-requires-clause-room
declare_anew-points-requires-clause-room c =
    let total = word_total c.self.inside.words.entries c.self.inside.premises.items c.self.invariant.indexed in
    let same = ap (λ l. length (words_known l)) (c.as_slice.ensures.value ∙ c.in_ok-premises.ensures ∙ c.premises.ensures.value ∙ sym (ap (λ (r : Rows). r.premises) c.self.view_is)) in
    omega (arith, c.in_ok-words.ensures.spare, c.len.ensures.len)
