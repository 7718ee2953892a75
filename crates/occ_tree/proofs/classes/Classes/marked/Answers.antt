use Rattle.std.proofs.Common.{◌≡◌, ◌∙◌, ◌++◌, ◌∷◌, [], ◌+◌, Some, List, ℕ, sym, ap, subst, arith, slice_index_or}
use Rattle.std.proofs.lemmas.List.{get_or_read}
use Rattle.std.specs.List.{IsDistinct}
use Rattle.tmm_model.specs.Points.{same_name}
use Rattle.occ_tree.specs.Classes.{place_in}
use Rattle.occ_tree.proofs.Marking.{AreTold, told_none, told_skip, told_more, placed_told}
use Rattle.occ_tree.proofs.classes.Classes.marked.Goals as goal
use Rattle.occ_tree.proofs.classes.Classes.marked.Goals.{then-marks-k+in_ok-reserve, else-marks-k}

pub loop-k-init : goal.loop-k-init
loop-k-init c = told_none c.as_slice-names.result.now c.args.marks.now c.new-classes.result.items c.new-classes.ensures.items

pub loop-k-preserved : goal.loop-k-preserved
loop-k-preserved c =
    let names = c.as_slice-names.result.now in
    let marks = c.args.marks.now in
    let was = c.loop-k.classes.items in
    let now = c.if-marks-k.classes.items in
    let k = c.loop-k.k in
    let distinct = subst (IsDistinct same_name) (sym c.as_slice-names.ensures.keys) c.as_slice-names.ensures.unique in
    elim c.if-marks-k.branch [
      | then-marks-k+in_ok-reserve w ↦
          let name = w.index-names-k.result in
          let named : slice_index_or names k [] ≡ name = sym (get_or_read names _ _ c.loop-k-test.true w.index-names-k.is []) in
          let grown : now ≡ was ++ name ∷ [] = ap (λ v. v.items) w.classes-is ∙ w.push_reserved.ensures.items ∙ ap (λ (l : List (List ℕ)). l ++ name ∷ []) w.reserve.ensures.items in
          told_more names marks was now k name distinct c.loop-k-test.true named grown c.loop-k.invariant
      | else-marks-k w ↦
          let same : now ≡ was = ap (λ v. v.items) w.classes-is in
          subst (λ l. AreTold names marks l (k + 1)) (sym same) (told_skip names marks was k w.if-marks-k.false c.loop-k.invariant)
    ]

pub returns-clause-all : goal.returns-clause-all
returns-clause-all c class k at marked =
    let names = c.as_slice-names.result.now in
    let is : c.args.self.now ≡ names = sym c.self.view_is ∙ sym c.as_slice-names.ensures.keys in
    placed_told names c.args.marks.now c.loop-k.classes.items c.loop-k.k (omega arith) c.loop-k.invariant class k (subst (λ (l : List (List ℕ)). place_in l class ≡ Some k) is at) marked

pub returns-clause-once : goal.returns-clause-once
returns-clause-once c = c.loop-k.invariant.once
