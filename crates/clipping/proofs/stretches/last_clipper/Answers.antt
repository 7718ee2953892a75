use Rattle.std.proofs.Common.{◌∙◌, ◌-◌, ◌<◌, ◌≤◌, length, sym, subst, arith}
use Rattle.std.proofs.lemmas.List.{length-map}
use Rattle.clipping.specs.Live.{IsLive}
use Rattle.clipping.proofs.OneFact.{row_read, passed_over, failed, found}
use Rattle.clipping.proofs.stretches.last_clipper.Goals as goal

pub loop-left-preserved-then-eq : goal.loop-left-preserved-then-eq
loop-left-preserved-then-eq g c =
    let token = c.index-tokens-left in
    let within : c.loop-left.left - 1 < length c.args.tokens.now = omega (arith, c.loop-left-test.true, c.loop-left.invariant.within) in
    let before : token.result.first ≤ c.loop-left.left - 1 = subst (λ t. t.first ≤ c.loop-left.left - 1) (sym token.is) (c.requires.stretches (c.loop-left.left - 1) token.result within).within in record {
      within = omega (arith, before);
      fail = passed_over c.args.tokens.now (g.S.Sure.distance c.args.order.now) c.args.k.now c.loop-left.left c.loop-left-test.true c.loop-left.invariant.within c.loop-left.invariant.fail token.result token.is
          c.requires.stretches (sym c.eq.ensures ∙ c.if-eq.true);
    }

pub clips_after-requires-clause-c_live : goal.clips_after-requires-clause-c_live
clips_after-requires-clause-c_live g c =
    let token = c.index-tokens-left in
    let within : c.loop-left.left - 1 < length c.args.tokens.now = omega (arith, c.loop-left-test.true, c.loop-left.invariant.within) in
    (subst (IsLive (g.S.Sure.live c.args.order.now)) (row_read c.args.tokens.now (c.loop-left.left - 1) within token.result (sym token.is) token.result.row)
    (c.requires.all_live (c.loop-left.left - 1) token.result.row (omega (arith, length-map c.args.tokens.now (λ t. t.row))))).begin

pub returns-then-clips_after : goal.returns-then-clips_after
returns-then-clips_after g c =
    found c.args.tokens.now (g.S.Sure.distance c.args.order.now) c.args.k.now c.loop-left.left c.loop-left-test.true c.loop-left.invariant.within c.loop-left.invariant.fail c.index-tokens-left.result c.index-tokens-left.is
    (sym c.clips_after.ensures ∙ c.if-clips_after.true)

pub loop-left-preserved : goal.loop-left-preserved
loop-left-preserved g c = record {
  within = omega (arith, c.loop-left.invariant.within);
  fail = failed c.args.tokens.now (g.S.Sure.distance c.args.order.now) c.args.k.now c.loop-left.left c.loop-left-test.true c.loop-left.invariant.within c.loop-left.invariant.fail c.index-tokens-left.result c.index-tokens-left.is
      (sym c.clips_after.ensures ∙ c.if-clips_after.false);
}
