use Rattle.std.proofs.Common.{◌<◌, ◌+◌, length, take, sym, subst, inl, inr, arith}
use Rattle.std.proofs.lemmas.List.{take_all}
use Rattle.tmm_model.specs.Moments.{moment_of}
use Rattle.list_theory.proofs.Elements.{In, In-from_Contains}
use Rattle.occ_tree.specs.Places.{forest}
use Rattle.supports.proofs.Taken.{next_taken}
use Rattle.belief_table.specs.declared.dated.DatedOcc.{DatedOcc}
use Rattle.map_engine.specs.Touching.{HasNodeOf}
use Rattle.map_engine.proofs.Finding.{has_more, in_more}
use Rattle.map_engine.proofs.touching.push_entered.Goals as goal

pub loop-new-init : goal.loop-new-init
loop-new-init c = record { kept = λ x at. at; pushed = λ m at. absurd at }

pub loop-new-preserved : goal.loop-new-preserved
loop-new-preserved c =
    let f = forest c.args.tree.now in
    let entered = c.args.entered.now in
    let i = c.loop-new.new-index in
    let e = c.in_ok-push_occ.ensures in
    let within : i < length entered = omega (arith, c.loop-new-test.true) in
    record {
      kept = λ x at. e.kept x (c.loop-new.invariant.kept x at);
      pushed = λ m at.
          elim (in_more (take i entered) (take (i + 1) entered) m c.new-item.result (next_taken entered i c.new-item.result within c.new-item.is) at) [
            | inl there ↦ has_more f (moment_of m.occ) c.loop-new.found.items c.push_occ.new.found.items e.kept (c.loop-new.invariant.pushed m there)
            | inr here ↦ subst (λ (d : DatedOcc). HasNodeOf f (moment_of d.occ) c.push_occ.new.found.items) here e.pushed
          ];
    }

pub returns-clause-pushed : goal.returns-clause-pushed
returns-clause-pushed c = λ m at.
    let entered = c.args.entered.now in
    c.loop-new.invariant.pushed m (subst (In m) (sym (take_all c.loop-new.new-index entered (omega (arith, c.loop-new-test.false)))) (In-from_Contains entered m at))
