use Rattle.std.proofs.Common.{List, ℕ, sym, subst}
use Rattle.tmm_grammar.specs.Reading.{line_of}
use Rattle.tmm_script.specs.Given.{IsRead}
use Rattle.tmm_script.proofs.Readings.{read-says}
use Rattle.tmm_script.proofs.parse.parse_line.Goals as goal

pub returns-clause-read : goal.returns-clause-read
returns-clause-read c = λ _.
    read-says c.args.version c.args.line.now c.said.result
    (subst (λ (ws : List (List ℕ)). IsRead c.said.result (line_of c.args.version ws)) (sym c.in-Some.ensures.0) c.said.ensures.read)
