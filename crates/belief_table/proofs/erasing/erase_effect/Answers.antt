use Rattle.std.proofs.Common.{◌≡◌, ◌∙◌, ◌+◌, ◌≤◌, length, sym, ap, subst, arith}
use Rattle.std.specs.Prelude.{IfSome, is_some}
use Rattle.tmm_model.specs.Moments.{After}
use Rattle.tmm_model.specs.Standing.{premise_in}
use Rattle.spots.specs.Forest.{IsLive, moment_at}
use Rattle.undo_rows.specs.declared.row.Row.{Row as TableRow}
use Rattle.undo_rows.specs.Tables.{Table}
use Rattle.decision_rows.specs.declared.row.Pair.{Pair}
use Rattle.occ_tree.specs.Places.{forest}
use Rattle.belief_table.specs.declared.state.Beliefs.{Beliefs}
use Rattle.belief_table.specs.Decided.{table_of, rule_in}
use Rattle.belief_table.specs.Numbers.{name_in}
use Rattle.belief_table.proofs.Erased.{removed_sheds, removed_spares, rule_listed}
use Rattle.belief_table.proofs.Thinned.{moment_stays, under_less, sheds_on, spares_on}
use Rattle.belief_table.proofs.Without.{without_shorter}
use Rattle.belief_table.proofs.erasing.erase_effect.Goals as goal

pub pair-trigger-requires : goal.pair-trigger-requires
pair-trigger-requires c = ap is_some c.requires.row.1

pub withdraw_effect-requires-clause-trigger : goal.withdraw_effect-requires-clause-trigger
withdraw_effect-requires-clause-trigger c =
    let (r, at, same) = c.requires.row in
    let pair = subst (λ o. IfSome o (λ (z : TableRow Pair 8). (c.pair-trigger.result.0 ≡ z.value.trigger) × (c.pair-trigger.result.1 ≡ z.value.rule))) at c.pair-trigger.ensures in
    subst (IsLive (forest c.args.beliefs.now.tree)) (sym pair.0) (c.requires.events c.args.row r at)

pub remove-requires : goal.remove-requires
remove-requires c =
    let (r, at, same) = c.requires.row in
    let pair = subst (λ o. IfSome o (λ (z : TableRow Pair 8). (c.pair-trigger.result.0 ≡ z.value.trigger) × (c.pair-trigger.result.1 ≡ z.value.rule))) at c.pair-trigger.ensures in
    ap is_some (c.in_ok-withdraw_effect.ensures.rows c.args.row r at (subst (IsLive (forest c.withdraw_effect.new.beliefs.tree)) pair.0 c.in_ok-withdraw_effect.ensures.stays))

pub returns-clause-sheds : goal.returns-clause-sheds
returns-clause-sheds c =
    let old = c.args.beliefs.now in
    let mid = c.withdraw_effect.new.beliefs in
    let new : Beliefs = record mid { decisions = record mid.decisions { rows = c.remove.new.self } } in
    let first = c.in_ok-withdraw_effect.ensures.sheds in
    sheds_on old mid new c.args.departed.now c.withdraw_effect.new.departed c.withdraw_effect.new.departed c.requires.once first
    (removed_sheds mid c.remove.new.self c.args.row c.in_ok-remove.ensures.ok first.thins.events c.withdraw_effect.new.departed)

pub returns-clause-spares : goal.returns-clause-spares
returns-clause-spares c = λ s out.
    let old = c.args.beliefs.now in
    let mid = c.withdraw_effect.new.beliefs in
    let new : Beliefs = record mid { decisions = record mid.decisions { rows = c.remove.new.self } } in
    let first = c.in_ok-withdraw_effect.ensures.sheds.thins in
    let removed = removed_sheds mid c.remove.new.self c.args.row c.in_ok-remove.ensures.ok first.events c.withdraw_effect.new.departed in
    let (r, at, same) = c.requires.row in
    let pair = subst (λ o. IfSome o (λ (z : TableRow Pair 8). (c.pair-trigger.result.0 ≡ z.value.trigger) × (c.pair-trigger.result.1 ≡ z.value.rule))) at c.pair-trigger.ensures in
    let live = subst (IsLive (forest mid.tree)) pair.0 c.in_ok-withdraw_effect.ensures.stays in
    let named : rule_in mid.decisions r ≡ c.args.rule = ap (λ l. name_in l r.value.rule) first.rules ∙ ap (name_in old.decisions.rules) same ∙ c.requires.rule in
    let event = sym (moment_stays old mid first r.value.trigger live) ∙ ap (moment_at (forest old.tree)) (sym pair.0) in
    spares_on old mid new first removed.thins s (c.in_ok-withdraw_effect.ensures.spares s out)
    (removed_spares mid c.remove.new.self c.args.row c.in_ok-remove.ensures.ok first.events s r (c.in_ok-withdraw_effect.ensures.rows c.args.row r at live) (ap (premise_in s.premises) named ∙ out)
    (λ y m there is. c.in_ok-withdraw_effect.ensures.none y m there (is ∙ (λ j. After (event j) (named j)))))

pub returns-clause-fewer : goal.returns-clause-fewer
returns-clause-fewer c =
    let old = c.args.beliefs.now in
    let mid = c.withdraw_effect.new.beliefs in
    let list = (table_of mid.decisions).list 1 c.args.number in
    let first = c.in_ok-withdraw_effect.ensures.sheds.thins in
    let (r, at, same) = c.requires.row in
    let (s, under) = c.requires.under in
    let pair = subst (λ o. IfSome o (λ (z : TableRow Pair 8). (c.pair-trigger.result.0 ≡ z.value.trigger) × (c.pair-trigger.result.1 ≡ z.value.rule))) at c.pair-trigger.ensures in
    let live = subst (IsLive (forest mid.tree)) pair.0 c.in_ok-withdraw_effect.ensures.stays in
    let there = c.in_ok-withdraw_effect.ensures.rows c.args.row r at live in
    let on = rule_listed s mid.decisions (under_less old mid first s under) c.first.ensures.listed c.args.number c.args.row r there same in
    let now = subst (λ (z : Table Pair 8). length (z.list 1 c.args.number) + 1 ≤ length list) (sym c.in_ok-remove.ensures.ok.present_is) (without_shorter c.args.row list on) in
    let less = c.in_ok-withdraw_effect.ensures.fewer 1 c.args.number in
    omega (arith, now, less)

pub returns-clause-last : goal.returns-clause-last
returns-clause-last c =
    let first = c.in_ok-withdraw_effect.ensures.last in
    record { tree = first.tree; decisions = record { rows = c.in_ok-remove.ensures.ok.committed_is ∙ first.decisions.rows; rules = first.decisions.rules; classes = first.decisions.classes } }
