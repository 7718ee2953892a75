use Rattle.std.proofs.Common.{◌∙◌, ◌+◌, ap, sym, subst, arith, refl}
use Rattle.std.specs.Option.{is_some}
use Rattle.dist_net.specs.Net.{Net, Nets, IsInUse}
use Rattle.dist_repair.specs.Rows.{tos_of}
use Rattle.dist_repair.proofs.Left.{IsNet}
use Rattle.dist_repair.proofs.Erasing.{IsErasing, IsErasing-keeps, IsErasing-more, IsErasing-skip}
use Rattle.dist_repair.proofs.Starts.{below_limit, unnamed}
use Rattle.dist_repair.proofs.repair_others.Goals as goal
use Rattle.dist_repair.proofs.repair_others.Goals.{then-is_some+then-a-from+then-not-keeps_row+else-not-repair_row, then-is_some+then-a-from+else-not-keeps_row, then-is_some+else-a-from, else-is_some}

pub loop-a-init : goal.loop-a-init
loop-a-init c = record {
  far = λ p below. absurd (omega (arith, below));
  draft = λ p above in_p ne. c.requires.draft p in_p ne;
  first = c.requires.first;
  present = refl;
  committed = refl;
}

pub repair_row-requires-clause-ends : goal.repair_row-requires-clause-ends
repair_row-requires-clause-ends c = c.requires.ends ∙ sym (ap (λ (n : Net). tos_of n.edges) c.loop-a.invariant.present)

pub loop-a-preserved : goal.loop-a-preserved
loop-a-preserved c =
    let known : IsNet c.args.net.now.present = record { places = c.invariants.ensures.names; used = c.invariants.ensures.in_use; light = c.invariants.ensures.light; dates = c.invariants.ensures.dates } in
    let P : Nets → Type 0 = IsErasing c.args.net.now c.args.place c.args.from c.args.columns.now (c.loop-a.a + 1) in
    elim c.if-is_some.branch [
      | then-is_some+then-a-from+then-not-keeps_row+else-not-repair_row w ↦ subst P (sym w.net-is)
          (IsErasing-more c.args.net.now c.loop-a.net c.args.place c.args.from c.args.columns.now c.loop-a.a c.loop-a.invariant known w.repair_row.new.net c.requires.row w.if-a-from.true
          (w.if-not-repair_row.ensures.far refl) w.repair_row.ensures.changes)
      | then-is_some+then-a-from+else-not-keeps_row w ↦ subst P (sym w.net-is)
          (IsErasing-keeps c.args.net.now c.loop-a.net c.args.place c.args.from c.args.columns.now c.loop-a.a c.loop-a.invariant known
          (subst (λ (n : Net). IsInUse n.names c.loop-a.a) c.loop-a.invariant.present (sym (w.if-is_some.ensures ∙ ap is_some c.name_of.ensures))) w.if-a-from.true (w.if-not-keeps_row.ensures refl))
      | then-is_some+else-a-from w ↦ subst P (sym w.net-is)
          (IsErasing-skip c.args.net.now c.loop-a.net c.args.place c.args.from c.args.columns.now c.loop-a.a c.loop-a.invariant known (λ _. w.if-a-from.false))
      | else-is_some w ↦ subst P (sym w.net-is)
          (IsErasing-skip c.args.net.now c.loop-a.net c.args.place c.args.from c.args.columns.now c.loop-a.a c.loop-a.invariant known
          (λ used. absurd (unnamed c.loop-a.net.present.names c.args.net.now.present.names c.loop-a.a c.name_of.result (ap (λ (n : Net). n.names) c.loop-a.invariant.present) c.name_of.ensures w.if-is_some.ensures used)))
    ]

pub returns-clause-far : goal.returns-clause-far
returns-clause-far c done a in_a =
    c.loop-a.invariant.far a (omega (arith, below_limit c.args.net.now.present.names c.limit-limit.result c.limit-limit.ensures.above a in_a, c.loop-a-test.false)) in_a
