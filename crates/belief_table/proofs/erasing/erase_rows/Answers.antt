use Rattle.std.proofs.Common.{◌≡◌, ◌∙◌, Some, sym, ap, subst, arith}
use Rattle.occ_tree.specs.Classes.{place_in}
use Rattle.occ_tree.proofs.Walked.{first_is_on}
use Rattle.occ_tree.proofs.Numbered.{placed_name}
use Rattle.belief_table.specs.Decided.{table_of}
use Rattle.belief_table.specs.Numbers.{name_in, HaveOwnNumbers}
use Rattle.belief_table.proofs.Erased.{listed_rule, no_row_left}
use Rattle.belief_table.proofs.Marked.{listed_row}
use Rattle.belief_table.proofs.Thinned.{once_less, under_less, sheds_none, spares_none, keep_stays, sheds_on, spares_on, keep_on}
use Rattle.belief_table.proofs.erasing.erase_rows.Goals as goal

pub loop-row-init : goal.loop-row-init
loop-row-init c = record {
  sheds = sheds_none c.args.beliefs.now c.args.departed.now c.requires.events;
  spares = λ s out. spares_none s c.args.beliefs.now;
  last = keep_stays c.args.beliefs.now;
}

pub erase_effect-requires-clause-once : goal.erase_effect-requires-clause-once
erase_effect-requires-clause-once c = once_less c.args.beliefs.now c.loop-row.beliefs c.loop-row.invariant.sheds.thins c.requires.once

pub erase_effect-requires-clause-events : goal.erase_effect-requires-clause-events
erase_effect-requires-clause-events c = c.loop-row.invariant.sheds.thins.events

pub erase_effect-requires-clause-under : goal.erase_effect-requires-clause-under
erase_effect-requires-clause-under c = let (s, under) = c.requires.under in (s, under_less c.args.beliefs.now c.loop-row.beliefs c.loop-row.invariant.sheds.thins s under)

pub erase_effect-requires-clause-row : goal.erase_effect-requires-clause-row
erase_effect-requires-clause-row c =
    let mid = c.loop-row.beliefs in
    let t = table_of mid.decisions in
    let (s, under) = c.requires.under in
    let on = first_is_on (t.list 1 c.args.number) c.in-Some.row (sym c.first.ensures.first ∙ c.in-Some.is) in
    let (r, at) = listed_row t c.first.ensures.listed 1 c.args.number c.in-Some.row on in
    (r, at, listed_rule s mid.decisions (under_less c.args.beliefs.now mid c.loop-row.invariant.sheds.thins s under) c.first.ensures.listed c.args.number c.in-Some.row r at on)

pub erase_effect-requires-clause-rule : goal.erase_effect-requires-clause-rule
erase_effect-requires-clause-rule c =
    ap (λ l. name_in l c.args.number) c.loop-row.invariant.sheds.thins.rules ∙ placed_name c.args.beliefs.now.decisions.rules c.args.rule c.args.number c.requires.rule

pub loop-row-smaller : goal.loop-row-smaller
loop-row-smaller c = let less = c.in_ok-erase_effect.ensures.fewer in omega (arith, less)

pub loop-row-preserved : goal.loop-row-preserved
loop-row-preserved c =
    let old = c.args.beliefs.now in
    let mid = c.loop-row.beliefs in
    let new = c.erase_effect.new.beliefs in
    let inv = c.loop-row.invariant in
    let e = c.in_ok-erase_effect.ensures in
    record {
      sheds = sheds_on old mid new c.args.departed.now c.loop-row.departed c.erase_effect.new.departed c.requires.once inv.sheds e.sheds;
      spares = λ s out. spares_on old mid new inv.sheds.thins e.sheds.thins s (inv.spares s out) (e.spares s out);
      last = keep_on old mid new inv.last e.last;
    }

pub returns-in_err-erase_effect-clause-last : goal.returns-in_err-erase_effect-clause-last
returns-in_err-erase_effect-clause-last c = keep_on c.args.beliefs.now c.loop-row.beliefs c.erase_effect.new.beliefs c.loop-row.invariant.last c.erase_effect.ensures.last

pub returns-clause-none : goal.returns-clause-none
returns-clause-none c =
    let old = c.args.beliefs.now in
    let mid = c.loop-row.beliefs in
    let t = c.loop-row.invariant.sheds.thins in
    let (s, under) = c.requires.under in
    no_row_left s mid.decisions (under_less old mid t s under) (subst HaveOwnNumbers (sym t.rules) c.requires.own) c.args.rule c.args.number
    (subst (λ l. place_in l c.args.rule ≡ Some c.args.number) (sym t.rules) c.requires.rule) c.first.ensures.listed (sym c.first.ensures.first ∙ c.in_default.is)
