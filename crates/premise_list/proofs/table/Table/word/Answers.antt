use Rattle.std.proofs.Common.{rules, ◌≡◌, ap, ◌∙◌, sym}
use Rattle.std.specs.Map.{lookup}
use Rattle.std.specs.Option.{option_map}
use Rattle.std.proofs.lemmas.Map.Made.{lookup-map_values}
use Rattle.tmm_model.specs.Points.{same_name}
use Rattle.premise_list.specs.Table.{placed, word_seen}
use Rattle.premise_list.proofs.table.Table.word.Goals as goal

pub returns : goal.returns
returns c =
    let es = c.self.inside.words.entries in
    let n = c.args.name in
    let found : c.copied.result ≡ lookup (same_name n) es = search rules in
    ap (option_map word_seen) found ∙ sym (lookup-map_values word_seen (same_name n) es) ∙ ap (lookup (same_name n)) c.self.invariant.indexed ∙ ap (λ r. lookup (same_name n) (placed 0 r.premises)) c.self.view_is
