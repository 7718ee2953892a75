use Rattle.std.proofs.Common.{length, ap, ◌∙◌, arith}
use Rattle.tmm_model.specs.Verdicts.{words_known}
use Rattle.premise_list.proofs.TableFacts.{word_total}
use Rattle.premise_list.proofs.Moves.{words_without}
use Rattle.premise_list.proofs.table.Table.take_many.Goals as goal

pub declare_anew-self-inside-requires-clause-room : goal.declare_anew-self-inside-requires-clause-room
declare_anew-self-inside-requires-clause-room c =
    let ps = c.self.inside.premises.items in
    let total = word_total c.self.inside.words.entries ps c.self.invariant.indexed in
    let less = words_without c.args.places.items ps in
    let now = ap (λ l. length (words_known l)) (c.as_slice.ensures.value ∙ c.take_in_one_pass.ensures.premises) in
    omega arith

pub returns-clause-words : goal.returns-clause-words
returns-clause-words c =
    let ps = c.self.inside.premises.items in
    let total = word_total c.self.inside.words.entries ps c.self.invariant.indexed in
    let less = words_without c.args.places.items ps in
    let now = ap (λ l. length (words_known l)) (c.as_slice.ensures.value ∙ c.take_in_one_pass.ensures.premises) in
    let room = ap (λ r. r.words) c.self.view_is in
    omega (arith, c.declare_anew-self-inside.ensures.room)
