use Rattle.std.proofs.Common.{[], Some, refl, sym, ap, ◌∙◌}
use Rattle.std.proofs.lemmas.List.{take_rest}
use Rattle.tmm_grammar.proofs.LineWords.{words-are}
use Rattle.tmm_words.proofs.Places.{words-first, after-first}
use Rattle.tmm_script.proofs.mode_lines.agents_line.Goals as goal

pub returns-in_err-begin : goal.returns-in_err-begin
returns-in_err-begin c = rw (c.from_residual.ensures, sym (words-are c.args.line.now [] (c.next_word.ensures.none.0 (rw c.in_err-begin.was refl)))) refl

pub returns-in_err-agent : goal.returns-in_err-agent
returns-in_err-agent c =
    let cut = words-first c.args.line.now 0 c.in_ok-begin.begin c.in_ok-begin.end c.in_ok-begin.ensures.some in
    rw (c.from_residual-in_err-agent.ensures, cut, sym c.agent.ensures ∙ c.in_err-agent.was) refl

pub returns : goal.returns
returns c =
    let cut = words-first c.args.line.now 0 c.in_ok-begin.begin c.in_ok-begin.end c.in_ok-begin.ensures.some in
    let place = after-first c.args.line.now c.in_ok-begin.begin c.in_ok-begin.end c.in_ok-begin.ensures.some in
    rw (cut, sym c.agent.ensures ∙ c.in_ok-agent.was, sym place) (ap Some (simp take_rest at c.agent_line.ensures))
