use Rattle.std.proofs.Common.{◌∙◌, ℕ, get_or, ap, arith}
use Rattle.std.proofs.lemmas.List.{get_or_default}
use Rattle.dist_net.specs.Net.{Nets}
use Rattle.dist_repair.specs.Rows.{row_of}
use Rattle.dist_repair.proofs.Drafting.{IsDrafting-none, IsDrafting-more}
use Rattle.dist_repair.proofs.draft_row.Goals as goal

pub loop-k-init : goal.loop-k-init
loop-k-init c = IsDrafting-none c.args.net.now c.args.a c.args.points.now (row_of c.args.row.now)

pub loop-k-preserved : goal.loop-k-preserved
loop-k-preserved c =
    let b : ℕ = get_or c.args.points.now c.loop-k.k 0 in
    IsDrafting-more c.args.net.now c.args.a c.args.points.now (row_of c.args.row.now) c.loop-k.net c.set_draft.new.self c.loop-k.k b c.loop-k.invariant c.requires.row c.requires.points c.loop-k-test.true
    (get_or_default c.args.points.now c.loop-k.k 0 b c.loop-k-test.true) (c.set_draft.ensures.written ∙ c.at.ensures) c.set_draft.ensures.others
    (ap (λ (n : Nets). n.present) c.set_draft.ensures.kept) (ap (λ (n : Nets). n.committed) c.set_draft.ensures.kept)

pub returns-clause-written : goal.returns-clause-written
returns-clause-written c q m = c.loop-k.invariant.written q m.0 (omega (arith, m.1, c.loop-k-test.false)) m.1 m.2
