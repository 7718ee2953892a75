use Rattle.std.proofs.Common.{sym, ◌∙◌, ap}
use Rattle.std.specs.Prelude.{Some, nat_eq}
use Rattle.std.specs.Option.{option_eq}
use Rattle.belief_list.proofs.Matches.{clip_of_row, clip_of_none}
use Rattle.belief_list.proofs.matched.Matched.is_clip_of.Goals as goal

pub returns-in-None : goal.returns-in-None
returns-in-None c = λ f other matched live live_by.
    clip_of_none f other c.args.self.now.rows.now c.args.self.now.places.now matched c.args.node c.args.by live live_by (sym c.row_of.ensures ∙ c.in-None.is)

pub returns-in-Some : goal.returns-in-Some
returns-in-Some c = λ f other matched live live_by.
    c.eq.ensures
    ∙ ap (λ o. option_eq nat_eq o (Some c.in-Some.row.node)) c.clip_of.ensures
    ∙ clip_of_row f other c.args.self.now.rows.now c.args.self.now.places.now matched c.args.node c.args.by c.in-Some.row live live_by (sym c.row_of.ensures ∙ c.in-Some.is)
