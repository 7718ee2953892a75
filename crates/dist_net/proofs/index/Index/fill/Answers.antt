use Rattle.std.proofs.Common.{◌≡◌, ◌∙◌, ◌+◌, None, get_or, length, ap, sym, subst, arith}
use Rattle.std.proofs.lemmas.List.{get_or_default}
use Rattle.dist_net.proofs.Indexing.{AreIndexedTo, AreIndexedTo-noted, AreIndexedTo-none}
use Rattle.dist_net.proofs.index.Index.fill.Goals as goal
use Rattle.dist_net.proofs.index.Index.fill.Goals.{in-Some, in_default}

pub loop-p-preserved : goal.loop-p-preserved
loop-p-preserved c =
    let names = c.args.names.now in
    let p = c.loop-p.p in
    let here : get_or names p None ≡ c.index-names-p.result = get_or_default names p None c.index-names-p.result c.loop-p-test.true ∙ sym c.index-names-p.is in
    elim c.match-name.branch [
      | in-Some w ↦ (
        omega (arith, ap length w.self-is, w.note.ensures.length, c.loop-p.invariant.0),
        subst (AreIndexedTo names (p + 1)) (sym w.self-is)
            (AreIndexedTo-noted names p c.loop-p.self w.in-Some.name w.note.new.self c.requires.distinct c.loop-p.invariant.1 (here ∙ w.in-Some.is) w.note.ensures.noted),
      )
      | in_default w ↦ (
        omega (arith, ap length w.self-is, c.loop-p.invariant.0),
        subst (AreIndexedTo names (p + 1)) (sym w.self-is) (AreIndexedTo-none names p c.loop-p.self c.loop-p.invariant.1 (here ∙ w.in_default.is)),
      )
    ]
