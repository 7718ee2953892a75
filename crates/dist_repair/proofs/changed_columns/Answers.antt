use Rattle.std.proofs.Common.{◌∙◌, ◌+◌, List, ℕ, ap, sym, subst, arith, refl}
use Rattle.std.specs.Option.{is_some}
use Rattle.dist_net.specs.Net.{entry}
use Rattle.dist_repair.proofs.Columns.{IsCollecting, IsCollecting-more, IsCollecting-skip}
use Rattle.dist_repair.proofs.Starts.{below_limit, unnamed}
use Rattle.dist_repair.proofs.changed_columns.Goals as goal
use Rattle.dist_repair.proofs.changed_columns.Goals.{then-is_some+then-is_changed, then-is_some+else-is_changed, else-is_some}

pub loop-b-preserved : goal.loop-b-preserved
loop-b-preserved c =
    let P : List ℕ → Type 0 = IsCollecting c.args.net.now.present c.args.from (entry c.args.net.now.draft c.args.from) (c.loop-b.b + 1) in
    elim c.if-is_some.branch [
      | then-is_some+then-is_changed w ↦ subst P (sym (ap (λ t. t.items) w.columns-is ∙ w.push.ensures.items))
          (IsCollecting-more c.args.net.now.present c.args.from (entry c.args.net.now.draft c.args.from) c.loop-b.b c.loop-b.columns.items c.loop-b.invariant
          (sym (w.if-is_some.ensures ∙ ap is_some c.name_of.ensures)) (w.if-is_changed.ensures.other refl))
      | then-is_some+else-is_changed w ↦ subst P (sym (ap (λ t. t.items) w.columns-is))
          (IsCollecting-skip c.args.net.now.present c.args.from (entry c.args.net.now.draft c.args.from) c.loop-b.b c.loop-b.columns.items c.loop-b.invariant (λ _. w.if-is_changed.ensures.same refl))
      | else-is_some w ↦ subst P (sym (ap (λ t. t.items) w.columns-is))
          (IsCollecting-skip c.args.net.now.present c.args.from (entry c.args.net.now.draft c.args.from) c.loop-b.b c.loop-b.columns.items c.loop-b.invariant
          (λ used. absurd (unnamed c.args.net.now.present.names c.args.net.now.present.names c.loop-b.b c.name_of.result refl c.name_of.ensures w.if-is_some.ensures used)))
    ]

pub returns : goal.returns
returns c = record {
  from = c.requires.from;
  few = omega (arith, c.loop-b.invariant.few);
  far = c.requires.far;
  used = c.loop-b.invariant.used;
  beside = λ q in_q. c.loop-b.invariant.beside q (omega (arith, below_limit c.args.net.now.present.names c.limit-limit.result c.limit-limit.ensures.above q in_q, c.loop-b-test.false)) in_q;
  differs = c.loop-b.invariant.differs;
}
