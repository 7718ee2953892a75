use Rattle.std.proofs.Common.{sym, ap, ◌∙◌}
use Rattle.std.specs.Prelude.{option_map}
use Rattle.tmm_grammar.specs.Bare.{bare_occ}
use Rattle.tmm_words.proofs.Spelled.{occ_seen}
use Rattle.tmm_script.proofs.fields.occurrence.Goals as goal

pub returns-in-Some-clause-read : goal.returns-in-Some-clause-read
returns-in-Some-clause-read c = sym (occ_seen c.args.word.now c.in_ok-occ.field-0 c.in_ok-occ.ensures.read) ∙ ap (option_map bare_occ) c.in-Some.is

pub returns-in-None-clause-read : goal.returns-in-None-clause-read
returns-in-None-clause-read c = sym (occ_seen c.args.word.now c.in_ok-occ.field-0 c.in_ok-occ.ensures.read) ∙ ap (option_map bare_occ) c.in-None.is
