use Rattle.std.proofs.Common.{◌≡◌, ◌∙◌, ◌⊎◌, ℕ, List, Some, sym, ap, subst, arith, inl, inr}
use Rattle.std.specs.Prelude.{slice_get}
use Rattle.std.proofs.lemmas.List.{take_all}
use Rattle.std.proofs.lemmas.Option.{slice_get-get_or}
use Rattle.tmm_model.specs.Standing.{Standing}
use Rattle.list_theory.proofs.Elements.{In}
use Rattle.premise_list.specs.Rivalries.{rivalries}
use Rattle.premise_list.proofs.PairsOfFacts.{each_taken}
use Rattle.map_engine.specs.RivalClasses.{HasClassesOf, IsThereOr}
use Rattle.map_engine.proofs.RivalClasses.{has_classes_more}
use Rattle.map_engine.proofs.rival_classes.push_changed.Goals as goal

pub loop-i-init : goal.loop-i-init
loop-i-init c = record { kept = λ class at. at; pushed = λ pair at. absurd at }

pub loop-i-preserved : goal.loop-i-preserved
loop-i-preserved c =
    let s = c.args.standing.now.present in
    let pairs = c.in_ok-changed.changed.items in
    let old = c.loop-i.found.items in
    let new = c.push_both.new.found.items in
    let e = c.in_ok-push_both.ensures in
    let pair = c.index.result.now in
    let at : slice_get pairs c.loop-i.i ≡ Some pair = slice_get-get_or pairs c.loop-i.i pair (omega (arith, c.loop-i-test.true, c.len-i-end.ensures, c.in_ok-changed.changed.ok.0)) ∙ ap Some (sym c.index.ensures) in
    record {
      kept = λ class there. e.kept class (c.loop-i.invariant.kept class there);
      pushed = each_taken (λ p. HasClassesOf s p old) (λ p. HasClassesOf s p new) pairs c.loop-i.i pair at (λ p. has_classes_more s old new e.kept p) e.pushed c.loop-i.invariant.pushed;
    }

-- a pair of one list is in the other one too, or among those that were looked at
there_or : (s : Standing) (found : List (List ℕ)) (changed pairs : List (List ℕ × List ℕ)) → ((pair : List ℕ × List ℕ) → In pair changed → HasClassesOf s pair found)
    → (pair : List ℕ × List ℕ) → In pair pairs ⊎ In pair changed → IsThereOr s found pairs pair
there_or s found changed pairs pushed pair (inl there) = inl there
there_or s found changed pairs pushed pair (inr alone) = inr (pushed pair alone)

pub returns-clause-gone : goal.returns-clause-gone
returns-clause-gone c = λ pair on.
    let s = c.args.standing.now.present in
    let changed = c.in_ok-changed.changed.items in
    let all = take_all c.loop-i.i changed (omega (arith, c.loop-i-test.false)) in
    there_or s c.loop-i.found.items changed (rivalries s.premises) (λ p at. c.loop-i.invariant.pushed p (subst (In p) (sym all) at)) pair (c.in_ok-changed.ensures.gone pair on)

pub returns-clause-come : goal.returns-clause-come
returns-clause-come c = λ pair on.
    let s = c.args.standing.now.present in
    let changed = c.in_ok-changed.changed.items in
    let all = take_all c.loop-i.i changed (omega (arith, c.loop-i-test.false)) in
    there_or s c.loop-i.found.items changed (rivalries c.args.standing.now.committed.premises) (λ p at. c.loop-i.invariant.pushed p (subst (In p) (sym all) at)) pair (c.in_ok-changed.ensures.come pair on)
