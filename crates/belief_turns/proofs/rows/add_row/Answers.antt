use Rattle.std.proofs.Common.{[], ◌∷◌, subst, w64, to_z, of_z, rules}
use Rattle.std.specs.Prelude.{OnOk, FitsSigned}
use Rattle.std.proofs.lemmas.Int.{to_z-of_z}
use Rattle.belief_table.specs.Decided.{AddsRows}
use Rattle.belief_turns.proofs.RuleHeads.{under_named, rows_since, last_since}
use Rattle.belief_table.proofs.Named.{last_stays}
use Rattle.marking.proofs.Waking.{ok_then}
use Rattle.belief_turns.proofs.rows.add_row.Goals as goal

pub add_under-requires : goal.add_under-requires
add_under-requires c = record { few = c.in_ok-heads.ensures.heads.few }

pub returns-in_err-heads-clause-last : goal.returns-in_err-heads-clause-last
returns-in_err-heads-clause-last c = last_since c.args.decisions.now c.heads_of.new.decisions c.heads_of.ensures.names c.heads_of.new.decisions (last_stays c.heads_of.new.decisions)

pub returns-clause-adds : goal.returns-clause-adds
returns-clause-adds c =
    let old = c.args.decisions.now in
    let mid = c.heads_of.new.decisions in
    let new = c.add_under.new.decisions in
    let more = c.in_ok-heads.ensures.names in
    let s = c.args.standing.now.present in
    let z = to_z w64 (of_z w64 c.args.date) in
    let fits : FitsSigned w64 c.args.date = search rules in
    subst (λ d. OnOk c.add_under.result (AddsRows (c.args.rule ∷ []) c.args.event d old new)) (to_z-of_z w64 c.args.date fits)
    (ok_then c.add_under.result (λ adds. rows_since old mid more (c.args.rule ∷ []) c.args.event z new (adds s c.args.rule (under_named old mid more s c.requires.under) c.in_ok-heads.ensures.heads).0) c.add_under.ensures.adds)

pub returns-clause-under : goal.returns-clause-under
returns-clause-under c =
    let s = c.args.standing.now.present in
    let under = under_named c.args.decisions.now c.heads_of.new.decisions c.in_ok-heads.ensures.names s c.requires.under in
    ok_then c.add_under.result (λ adds. (adds s c.args.rule under c.in_ok-heads.ensures.heads).1) c.add_under.ensures.adds

pub returns-clause-last : goal.returns-clause-last
returns-clause-last c = last_since c.args.decisions.now c.heads_of.new.decisions c.in_ok-heads.ensures.names c.add_under.new.decisions c.add_under.ensures.last
