use Rattle.std.proofs.Common.{w64, rules, ◌≡◌, ◌∙◌, ℕ, ◌+◌, ◌<◌, false, true, [], ◌∷◌, ◌++◌, Vec, Global, vec_len, vec_capacity, to_z, of_z, ap, sym, subst, arith}
use Rattle.std.specs.Int.RustNames.{FitsSigned}
use Rattle.std.proofs.lemmas.Int.{to_z-of_z}
use Rattle.std.proofs.lemmas.List.Elements.{All-contains, Contains-append_left, Contains-push}
use Rattle.std.proofs.lemmas.List.Sorted.{Contains-permutation}
use Rattle.std.specs.Prelude.{ℤ, slice_index_or}
use Rattle.std.specs.List.{Contains}
use Rattle.occ_tree.specs.Standing.{present, early}
use Rattle.belief_list.specs.Finding.{HasDate}
use Rattle.belief_list.proofs.Dates.{sorted_rise}
use Rattle.belief_list.proofs.Finding.{each_more}
use Rattle.belief_list.proofs.differing.dates_of.Goals.{then-is_token, else-is_token}
use Rattle.belief_list.proofs.differing.dates_of.Goals as goal

pub loop-x-preserved : goal.loop-x-preserved
loop-x-preserved c =
    let tree = c.args.tree.now in
    let nodes = c.args.nodes.now in
    let i = c.loop-x.x-index in
    let x = slice_index_or nodes i 0 in
    let old = c.loop-x.dates.items in
    let v = c.loop-x.invariant in
    elim c.if-is_token.branch [
      | then-is_token w ↦
          let date = to_z w64 (of_z w64 w.early.result) in
          let fits : FitsSigned w64 w.early.result = search rules in
          let new = old ++ date ∷ [] in
          record {
            capacity = ap (λ (l : Vec ℤ Global). vec_capacity l) w.dates-is ∙ w.push_reserved.ensures.capacity ∙ v.capacity;
            few = omega (arith, ap (λ (l : Vec ℤ Global). vec_len l) w.dates-is, w.push_reserved.ensures.len, v.few);
            done = subst (λ l. (j d : ℕ) → j < i + 1 → HasDate tree l (slice_index_or nodes j d)) (sym (ap (λ (l : Vec ℤ Global). l.items) w.dates-is ∙ w.push_reserved.ensures.items))
                (each_more (HasDate tree old) (HasDate tree new) nodes i 0 c.loop-x-test.true
                (λ y has m here is. Contains-append_left old (date ∷ []) (early (present tree) y) (has m here is))
                (λ m here is. subst (Contains new) (to_z-of_z w64 w.early.result fits ∙ w.early.ensures.date) (Contains-push old date)) v.done);
          }
      | else-is_token w ↦
          record {
            capacity = ap (λ (l : Vec ℤ Global). vec_capacity l) w.dates-is ∙ v.capacity;
            few = omega (arith, ap (λ (l : Vec ℤ Global). vec_len l) w.dates-is, v.few);
            done = subst (λ (l : Vec ℤ Global). (j d : ℕ) → j < i + 1 → HasDate tree l.items (slice_index_or nodes j d)) (sym w.dates-is)
                (each_more (HasDate tree old) (HasDate tree old) nodes i 0 c.loop-x-test.true (λ y has. has)
                (λ m here is. (let none : true ≡ false = sym is ∙ sym (c.is_token.ensures.token m here) ∙ w.if-is_token.false in absurd (cc none))) v.done);
          }
    ]

pub returns-clause-all : goal.returns-clause-all
returns-clause-all c = λ x among m here is.
    Contains-permutation c.loop-x.dates.items c.sort_unstable.new.self.items (early (present c.args.tree.now) x) c.sort_unstable.ensures.permutation
    (All-contains (HasDate c.args.tree.now c.loop-x.dates.items) c.args.nodes.now x (λ j d lt. c.loop-x.invariant.done j d (omega (arith, lt, c.loop-x-test.false))) among m here is)

pub returns-clause-rising : goal.returns-clause-rising
returns-clause-rising c = sorted_rise c.sort_unstable.new.self.items c.sort_unstable.ensures.sorted
