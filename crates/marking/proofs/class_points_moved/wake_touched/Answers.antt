use Rattle.std.proofs.Common.{◌≡◌, ◌∙◌, true, false, sym}
use Rattle.std.specs.List.{list_any}
use Rattle.std.specs.Cmp.Lexicographic.{nat_list_eq_equiv}
use Rattle.tmm_model.specs.Points.{same_name}
use Rattle.list_theory.proofs.Elements.{In-list_any, In-from_Contains}
use Rattle.undo_rows.specs.Changes.{present as table}
use Rattle.joined.specs.Listed.{IsListedUnder}
use Rattle.belief_table.specs.Waiting.{dates_in}
use Rattle.marking.proofs.Awake.{none_wakes, none_concerned}
use Rattle.marking.proofs.class_points_moved.wake_touched.Goals as goal

pub returns-then-not-contains : goal.returns-then-not-contains
returns-then-not-contains c =
    let class = c.args.class in
    let touched = c.args.touched.now in
    let t = table c.args.rows.now in
    let off : list_any (λ y. same_name y class) touched ≡ false = sym c.contains.ensures.value ∙ c.if-not-contains.true in
    let untouched = c.requires.untouched class (λ at. (
    let on = In-list_any (λ y. same_name y class) touched class (In-from_Contains touched class at) (nat_list_eq_equiv.refl class) in
    let no : true ≡ false = sym on ∙ off in
    cc)) in
    none_wakes c.args.tree.now t c.args.net.now c.args.moves.now c.requires.moves c.requires.below class untouched (IsListedUnder t c.args.number) (dates_in c.args.waiting.now) (c.requires.awake c.if-awake.true)

pub returns-then-not-is_class_at : goal.returns-then-not-is_class_at
returns-then-not-is_class_at c =
    let t = table c.args.rows.now in
    none_concerned c.args.tree.now t c.args.net.now c.args.moves.now c.requires.moves c.requires.below c.args.class c.args.points.now c.requires.points (c.is_class_at.ensures c.if-not-is_class_at.true)
    (IsListedUnder t c.args.number) (dates_in c.args.waiting.now)
