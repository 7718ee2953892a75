use Rattle.std.proofs.Common.{◌≡◌, ◌∙◌, ◌∷◌, ◌++◌, [], suc, map, drop, sym, ap, subst, arith}
use Rattle.std.proofs.lemmas.List.{take_all}
use Rattle.tmm_model.specs.Moments.{moment_of}
use Rattle.just_check.specs.Audited.{rows_of, Takes}
use Rattle.belief_theory.specs.Believed.{believed_in_order}
use Rattle.just_check.proofs.Answering.{is_list, all_there}
use Rattle.just_check.proofs.Places.{mapped_more, mapped_parts}
use Rattle.just_check.proofs.Prefixes.{next_joins, next_behind}
use Rattle.just_check.proofs.auditing.take_all.Goals as goal

pub returns-then-not-branch : goal.returns-then-not-branch
returns-then-not-branch c = (
  (λ h. absurd (cc)),
  (λ is.
      let s = c.args.standing.now.present in
      let net = c.args.net.now.present in
      let rows = c.args.rows.now in
      let i = c.loop-row.row-index in
      let row = c.row-item.result in
      let old = c.loop-row.checked in
      let b = rows_of old in
      let k = moment_of row in
      let rest = map moment_of (drop (suc i) rows) in
      let whole : b ++ k ∷ rest ≡ believed_in_order s = ap (λ l. l ++ k ∷ rest) c.loop-row.invariant.rows ∙ mapped_parts moment_of rows i row c.loop-row-test.true c.row-item.is ∙ is in
      let never = subst (Takes s net old c.take.new.checked k) c.if-not-branch.true c.in_ok-take.ensures in
      let sound = c.requires.network.sound in
      absurd (never (next_joins s sound b k rest whole) (next_behind s sound b k rest whole))),
)

pub loop-row-preserved : goal.loop-row-preserved
loop-row-preserved c =
    let rows = c.args.rows.now in
    let i = c.loop-row.row-index in
    let row = c.row-item.result in
    let k = moment_of row in
    let (checked, more) = subst (Takes c.args.standing.now.present c.args.net.now.present c.loop-row.checked c.take.new.checked k) c.if-not-branch.false c.in_ok-take.ensures in
    record {
      checked = checked;
      rows = more ∙ ap (λ l. l ++ k ∷ []) c.loop-row.invariant.rows ∙ sym (mapped_more moment_of rows i row c.loop-row-test.true c.row-item.is);
    }

pub returns : goal.returns
returns c =
    let s = c.args.standing.now.present in
    let net = c.args.net.now.present in
    let rows = c.args.rows.now in
    let i = c.loop-row.row-index in
    let new = c.decide_rest.new.checked in
    let ensured = c.in_ok-decide_rest.ensures in
    let same : rows_of new ≡ map moment_of rows = ensured.rows ∙ c.loop-row.invariant.rows ∙ ap (map moment_of) (take_all i rows (omega arith)) in (
      (λ h. sym same ∙ is_list s net new ensured.decided (c.all_stand.ensures.0 h)),
      (λ is. c.all_stand.ensures.1 (all_there s net new ensured.decided (same ∙ is))),
    )

pub loop-row-init : goal.loop-row-init
loop-row-init c = record { checked = c.requires.before; rows = c.requires.none }
