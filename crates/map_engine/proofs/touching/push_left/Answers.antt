use Rattle.std.proofs.Common.{◌≡◌, ◌∙◌, ◌<◌, ℕ, ◌+◌, List, [], ◌∷◌, ◌++◌, length, take, sym, ap, subst, inl, inr, arith}
use Rattle.std.proofs.lemmas.List.{take_all}
use Rattle.std.specs.List.{Contains}
use Rattle.tmm_model.specs.Moments.{Moment}
use Rattle.list_theory.proofs.Elements.{In, In-map}
use Rattle.supports.proofs.Taken.{next_taken}
use Rattle.belief_table.specs.declared.dated.DatedOcc.{DatedOcc}
use Rattle.belief_turns.specs.Numbered.{left_under, seen_numbered}
use Rattle.list_theory.proofs.Elements.{map-In}
use Rattle.map_engine.proofs.Finding.{in_more}
use Rattle.map_engine.proofs.touching.push_left.Goals as goal

pub loop-gone-init : goal.loop-gone-init
loop-gone-init c = record { kept = λ x at. at; pushed = λ x k at. absurd at }

-- what is told of one more is what was told, or it
left_more : (left more : List DatedOcc) (gone : DatedOcc) (x : ℕ) (k : Moment) (numbers : List ℕ) → more ≡ left ++ gone ∷ []
    → (In (x, k) (left_under left) → Contains numbers x) → Contains numbers gone.node → In (x, k) (left_under more) → Contains numbers x
left_more left more gone x k numbers is before last at =
    let (m, there, same) = In-map seen_numbered more (x, k) at in
    elim (in_more left more m gone is there) [
      | inl was ↦ before (subst (λ (p : ℕ × Moment). In p (left_under left)) same (map-In seen_numbered left m was))
      | inr here ↦ subst (Contains numbers) (ap (λ (d : DatedOcc). d.node) here ∙ ap (λ (p : ℕ × Moment). p.0) same) last
    ]

pub loop-gone-preserved : goal.loop-gone-preserved
loop-gone-preserved c =
    let left = c.args.left.now in
    let i = c.loop-gone.gone-index in
    let e = c.in_ok-push.ensures in
    let within : i < length left = omega (arith, c.loop-gone-test.true) in
    record {
      kept = λ x at. e.kept x (c.loop-gone.invariant.kept x at);
      pushed = λ x k at.
          left_more (take i left) (take (i + 1) left) c.gone-item.result x k c.push.new.found.items (next_taken left i c.gone-item.result within c.gone-item.is)
          (λ was. e.kept x (c.loop-gone.invariant.pushed x k was)) e.pushed at;
    }

pub returns-clause-pushed : goal.returns-clause-pushed
returns-clause-pushed c = λ x k at.
    let left = c.args.left.now in
    c.loop-gone.invariant.pushed x k (subst (λ (l : List DatedOcc). In (x, k) (left_under l)) (sym (take_all c.loop-gone.gone-index left (omega (arith, c.loop-gone-test.false)))) at)
