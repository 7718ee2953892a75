use Rattle.std.proofs.Common.{◌<◌, ℕ, ◌+◌, List, length, take, sym, subst, inl, inr, arith}
use Rattle.std.proofs.lemmas.List.{take_all}
use Rattle.tmm_model.specs.declared.point.PointName.TheVariants.{Begin}
use Rattle.tmm_model.specs.Moments.{At}
use Rattle.list_theory.proofs.Elements.{In}
use Rattle.occ_tree.specs.Places.{forest}
use Rattle.supports.proofs.Taken.{next_taken}
use Rattle.map_engine.specs.Touching.{HasNodeOf}
use Rattle.map_engine.proofs.Finding.{has_more, in_more}
use Rattle.map_engine.proofs.touching.roots_named.Goals as goal

pub loop-name-init : goal.loop-name-init
loop-name-init c = λ k at. absurd at

pub loop-name-preserved : goal.loop-name-preserved
loop-name-preserved c = λ k at.
    let f = forest c.args.tree.now in
    let names = c.args.names.now in
    let i = c.loop-name.name-index in
    let e = c.in_ok-push_root.ensures in
    let within : i < length names = omega (arith, c.loop-name-test.true) in
    elim (in_more (take i names) (take (i + 1) names) k c.name-item.result (next_taken names i c.name-item.result within c.name-item.is) at) [
      | inl there ↦ has_more f (At (Begin k)) c.loop-name.found.items c.push_root.new.found.items e.kept (c.loop-name.invariant k there)
      | inr here ↦ subst (λ (n : List ℕ). HasNodeOf f (At (Begin n)) c.push_root.new.found.items) here e.pushed
    ]

pub returns : goal.returns
returns c = λ k at.
    let names = c.args.names.now in
    c.loop-name.invariant k (subst (In k) (sym (take_all c.loop-name.name-index names (omega (arith, c.loop-name-test.false)))) at)
