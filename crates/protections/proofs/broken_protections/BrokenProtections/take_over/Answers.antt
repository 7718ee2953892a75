use Rattle.std.proofs.Common.{◌≡◌, ◌∙◌, ◌≤◌, ◌+◌, ◌++◌, ◌∷◌, List, [], length, take, refl, sym, ap, append_assoc, append-nil, arith}
use Rattle.std.specs.Prelude.{Option, Some, None, is_some, if◌then◌else◌}
use Rattle.std.specs.Option.{option_map}
use Rattle.std.specs.Vec.Iter.{into_iter_items}
use Rattle.std.proofs.lemmas.List.{take_all}
use Rattle.tmm_model.specs.declared.answer.Report.{Report}
use Rattle.tmm_model.specs.Answers.{report_of}
use Rattle.protections.specs.Found.{found_in, with_report, without, with_all}
use Rattle.protections.proofs.AfterReview.{without_push, with_push}
use Rattle.protections.proofs.Turns.{take_next}
use Rattle.protections.proofs.broken_protections.BrokenProtections.take_over.Goals as goal

nothing_left : {X : Type 0} (l : List X) → length l ≡ 0 → l ≡ []
nothing_left [] h = refl
nothing_left (x ∷ xs) h = absurd (omega arith)

-- at most one place is used
one_place : (o : Option Report) → (if is_some o then 1 else 0) ≤ 1
one_place None = omega arith
one_place (Some r) = omega arith

pub loop-name-preserved : goal.loop-name-preserved
loop-name-preserved c =
    let names = c.deref-name-items.result.now in
    let i = c.loop-name.name-index in
    let name = c.name-item.result in
    let taken : take (i + 1) names ≡ take i names ++ name ∷ [] = take_next names i name name c.loop-name-test.true (sym c.name-item.is) in
    record {
      found =
          c.put.ensures.found
          ∙ ap (λ g. with_report g name None) c.loop-name.invariant.found
          ∙ sym (without_push (found_in c.args.self.now) (take i names) name)
          ∙ ap (without (found_in c.args.self.now)) (sym taken);
      room = (let before = c.loop-name.invariant.room in let now = c.put.ensures.room in omega arith);
    }

pub loop-name-2-init : goal.loop-name-2-init
loop-name-2-init c =
    let given = c.into_iter-name-iterator.ensures.into_iter_gives in
    let total = ap length given.0 in
    let counted = given.1 in
    let room = c.loop-name.invariant.room in
    record {
      found = refl;
      room = omega arith;
      rest = refl;
      counted = omega arith;
    }

pub put-requires-in-loop-name-2 : goal.put-requires-in-loop-name-2
put-requires-in-loop-name-2 c = λ some.
    let steps = c.in-Some.ensures.steps.0 in
    let left = ap length steps in
    let room = c.loop-name-2.invariant.room in
    omega arith

pub loop-name-2-preserved : goal.loop-name-2-preserved
loop-name-2-preserved c =
    let l = c.loop-name-2 in
    let r = c.in-Some.field-0 in
    let steps : into_iter_items l.name-iterator ≡ r ∷ into_iter_items c.next.new.self = c.in-Some.ensures.steps.0 in
    let short = ap length steps in
    let gone = c.in-Some.ensures.steps.1 in
    let room = l.invariant.room in
    let counted = l.invariant.counted in
    let now = c.put-in-loop-name-2.ensures.room in
    let one = one_place c.in-Some.field-0.report in
    record {
      found =
          c.put-in-loop-name-2.ensures.found
          ∙ (λ i. with_report (l.invariant.found i) r.name (option_map report_of r.report))
          ∙ sym (with_push (found_in c.loop-name.self) l.yielded r);
      room = omega arith;
      rest = append_assoc l.yielded (r ∷ []) (into_iter_items c.next.new.self) ∙ ap (λ z. l.yielded ++ z) (sym steps) ∙ l.invariant.rest;
      counted = omega arith;
    }

pub returns : goal.returns
returns c =
    let l = c.loop-name-2 in
    let names = c.deref-name-items.result.now in
    let none = c.in-None.ensures.steps in
    let empty : into_iter_items l.name-iterator ≡ [] = nothing_left (into_iter_items l.name-iterator) (sym l.invariant.counted ∙ none.0) in
    let all : l.yielded ≡ c.args.review.reviewed.items =
    sym (append-nil l.yielded) ∙ ap (λ z. l.yielded ++ z) (sym empty) ∙ l.invariant.rest ∙ c.into_iter-name-iterator.ensures.into_iter_gives.0 in
    l.invariant.found
    ∙ ap (with_all (found_in c.loop-name.self)) all
    ∙ ap (λ g. with_all g c.args.review.reviewed.items)
    (c.loop-name.invariant.found
    ∙ ap (without (found_in c.args.self.now)) (take_all c.loop-name.name-index names c.loop-name-test.false ∙ c.deref-name-items.ensures.value))
