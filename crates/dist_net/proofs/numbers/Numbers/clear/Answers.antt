use Rattle.std.proofs.Common.{◌≡◌, ◌∙◌, ◌++◌, ℕ, List, [], Bool, take, drop, length, sym, subst, arith}
use Rattle.dist_net.specs.Changes.{ArePoints, AreMarks, AreUnmarked}
use Rattle.dist_net.proofs.Adding.{refilled}
use Rattle.dist_net.proofs.Marks.{ArePoints-none, AreMarks-cleared}
use Rattle.dist_net.proofs.numbers.Numbers.clear.Goals as goal

pub invariant_of-self : goal.invariant_of-self
invariant_of-self c =
    let inside = c.self.inside in
    let marks : List Bool = inside.marks.items in
    let new : List Bool = c.unmark.new.marks in
    let filled : take inside.marks.len (new ++ drop (length new) marks) ≡ new = refilled marks new inside.marks.len inside.marks.ok.0 (c.unmark.ensures.places ∙ sym c.self.invariant.1.places) in
    let unmarked : AreUnmarked inside.list.items (length inside.list.items) marks new =
    subst (λ (t : List Bool). AreUnmarked inside.list.items (length inside.list.items) t new) c.deref_mut.ensures.value
    (subst (λ (t : List ℕ). AreUnmarked t (length t) c.deref_mut.result.now new) c.deref.ensures.value c.unmark.ensures) in (
      subst ArePoints (sym c.clear.ensures.items) ArePoints-none,
      subst (λ (t : List ℕ). AreMarks t (take inside.marks.len (new ++ drop (length new) marks))) (sym c.clear.ensures.items)
          (subst (AreMarks []) (sym filled) (AreMarks-cleared inside.list.items marks new c.self.invariant.1 unmarked)),
      omega (arith, c.clear.ensures.capacity, c.self.invariant.2),
    )
