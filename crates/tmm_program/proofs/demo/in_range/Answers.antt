use Rattle.std.proofs.Common.{arith, ◌≡◌, ℤ, pos, Option, subst}
use Rattle.std.proofs.lemmas.Int.{ints}
use Rattle.tmm_model.specs.Lines.{number_word, IsNumber}
use Rattle.tmm_words.specs.Spelling.{IsSpelling}
use Rattle.tmm_program.proofs.DemoWords.{no_number, one_number}
use Rattle.tmm_program.proofs.demo.in_range.Goals as goal

pub returns-in_default : goal.returns-in_default
returns-in_default c = λ n is some few.
    let spelt = subst (λ (r : Option ℤ). IsSpelling number_word IsNumber c.args.word.now r) c.in-Some.is c.number.ensures in
    let same : c.in-Some.n ≡ pos n = one_number c.args.word.now c.in-Some.n n spelt is few in
    omega (arith, ints, same, few, c.if-n-le-MOST.false)

pub returns-in_default-2 : goal.returns-in_default-2
returns-in_default-2 c = λ n is some few.
    let spelt = subst (λ (r : Option ℤ). IsSpelling number_word IsNumber c.args.word.now r) c.in-Some.is c.number.ensures in
    let same : c.in-Some.n ≡ pos n = one_number c.args.word.now c.in-Some.n n spelt is few in
    omega (arith, ints, same, some, c.if-n-ge1.false)

pub returns-in_default-3 : goal.returns-in_default-3
returns-in_default-3 c = λ n is some few.
    no_number c.args.word.now n (subst (λ (r : Option ℤ). IsSpelling number_word IsNumber c.args.word.now r) c.in_default.is c.number.ensures) is few
