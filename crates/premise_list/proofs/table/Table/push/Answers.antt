use Rattle.std.proofs.Common.{◌≡◌, ◌+◌, ◌++◌, map, length, ap, subst, sym, ◌∙◌, arith}
use Rattle.std.proofs.lemmas.List.{length-append, length_push}
use Rattle.tmm_model.specs.Standing.{points_of, points_in}
use Rattle.tmm_model.specs.Sorts.{declared_by, declarations_of}
use Rattle.tmm_model.specs.Verdicts.{first_taken}
use Rattle.list_theory.specs.WellNamed.{IsWellNamed, Follows}
use Rattle.list_theory.proofs.WellNamed.{points_in-few, points_of-few, points_in-push, IsWellNamed-push}
use Rattle.premise_list.specs.Table.{at_place, placed}
use Rattle.premise_list.proofs.TableFacts.{keys_are, placed-push}
use Rattle.premise_list.proofs.table.Table.push.Goals as goal

pub declare_names-requires-clause-new : goal.declare_names-requires-clause-new
declare_names-requires-clause-new c =
    let p = c.args.premise in
    let follows : Follows c.self.inside.premises.items p = subst (λ r. Follows r.premises p) (sym c.self.view_is) c.requires.follows in
    ap (λ known. first_taken known (declared_by p)) (keys_are c.self.inside.words.entries c.self.inside.premises.items c.self.invariant.indexed) ∙ follows.new

pub overflow_add-self : goal.overflow_add-self
overflow_add-self c =
    let few = points_in-few c.self.inside.premises.items in
    let one = points_of-few c.args.premise in
    omega arith

pub invariant_of-self : goal.invariant_of-self
invariant_of-self c =
    let ps = c.self.inside.premises.items in
    let p = c.args.premise in
    let pushed = c.push_reserved.ensures.items in
    let place = length c.premises-place.result.now in
    let here : place ≡ length ps = ap length (c.premises-place.ensures.value ∙ sym (ap (λ r. r.premises) c.self.view_is)) in
    let rows = ap (λ r. length r.premises) c.self.view_is in
    record {
      indexed =
          c.declare_names.ensures.entries ∙ ap (λ l. l ++ map (at_place place) (declarations_of p)) c.self.invariant.indexed
          ∙ sym (placed-push 0 ps p place (omega arith)) ∙ ap (placed 0) (sym pushed);
      counted =
          ap (λ n. c.self.inside.points + n) c.point_count.ensures.value ∙ ap (λ n. n + length (points_of p)) c.self.invariant.counted
          ∙ sym (ap (λ l. length (points_in l)) pushed ∙ ap length (points_in-push ps p) ∙ length-append (points_in ps) (points_of p));
      few = omega (arith, ap length pushed, length_push ps p);
      well_named = subst IsWellNamed (sym pushed) (IsWellNamed-push ps p c.self.invariant.well_named (subst (λ r. Follows r.premises p) (sym c.self.view_is) c.requires.follows));
    }
