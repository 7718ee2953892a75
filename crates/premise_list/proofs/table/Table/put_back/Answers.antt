use Rattle.std.proofs.Common.{length, ap, ◌∙◌, arith}
use Rattle.tmm_model.specs.Verdicts.{words_known}
use Rattle.premise_list.proofs.TableFacts.{word_total}
use Rattle.premise_list.proofs.Moves.{words-restored}
use Rattle.premise_list.proofs.table.Table.put_back.Goals as goal

pub declare_anew-self-inside-requires-clause-room : goal.declare_anew-self-inside-requires-clause-room
declare_anew-self-inside-requires-clause-room c =
    let ps = c.self.inside.premises.items in
    let total = word_total c.self.inside.words.entries ps c.self.invariant.indexed in
    let all = words-restored c.args.taken.now.items ps in
    let premises = ap (λ r. r.premises) c.self.view_is in
    let room = ap (λ r. r.words) c.self.view_is in
    let now = ap (λ l. length (words_known l)) (c.as_slice.ensures.value ∙ c.put_each.ensures.premises) in
    omega (arith, c.requires.words)
