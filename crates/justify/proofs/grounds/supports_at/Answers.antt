use Rattle.std.proofs.Common.{◌∙◌, sym, ap, subst}
use Rattle.std.specs.Prelude.{IsSome}
use Rattle.std.specs.List.{All, filter_map}
use Rattle.tmm_model.specs.Maps.{built}
use Rattle.tmm_model.specs.Sorts.{class_in}
use Rattle.spots.specs.Forest.{moment_at}
use Rattle.occ_tree.specs.Places.{forest}
use Rattle.justify.specs.Grounds.{supporters_for}
use Rattle.spots.proofs.Rules.{rule_there, facts_known}
use Rattle.justify.proofs.grounds.supports_at.Goals as goal

pub rule_text-text-requires : goal.rule_text-text-requires
rule_text-text-requires c =
    rule_there c.args.map.now.standing.now.present c.requires.seen.seen.network.sound (moment_at (forest c.args.map.now.tree.now) c.args.event) c.args.rule c.requires.rule

pub supporters-requires-clause-facts : goal.supporters-requires-clause-facts
supporters-requires-clause-facts c =
    let s = c.args.map.now.standing.now.present in
    subst (All (λ fact. IsSome (class_in s.premises fact))) (sym c.rule_text-text.ensures.given)
    (facts_known s c.requires.seen.seen.network.sound c.args.rule (rule_there s c.requires.seen.seen.network.sound (moment_at (forest c.args.map.now.tree.now) c.args.event) c.args.rule c.requires.rule))

pub returns-clause-first : goal.returns-clause-first
returns-clause-first c =
    c.supporters.ensures.first ∙ ap (λ l. filter_map (λ k. k) (supporters_for (built c.args.map.now.standing.now.present) (moment_at (forest c.args.map.now.tree.now) c.args.event) l)) c.rule_text-text.ensures.given
