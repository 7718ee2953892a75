use Rattle.std.proofs.Common.{◌≡◌, w64, to_z, of_z, subst, rules, arith}
use Rattle.std.proofs.lemmas.Int.{to_z-of_z}
use Rattle.std.specs.Prelude.{FitsSigned}
use Rattle.occ_tree.specs.Standing.{present}
use Rattle.undo_rows.specs.Changes.{present as table}
use Rattle.belief_table.specs.Marks.{Marks}
use Rattle.belief_table.specs.Waiting.{dates_in}
use Rattle.bearing.specs.Windows.{spares_in}
use Rattle.belief_table.proofs.Marked.{UnderFirst, under_none, under_next}
use Rattle.belief_table.proofs.let_wait.mark_class.Goals as goal

pub loop-place-init : goal.loop-place-init
loop-place-init c = under_none (present c.args.tree.now) (table c.args.rows.now) (to_z w64 (of_z w64 c.args.from)) (spares_in c.args.window) c.args.class (dates_in c.args.waiting.now)

pub loop-place-preserved : goal.loop-place-preserved
loop-place-preserved c =
    under_next (present c.args.tree.now) (table c.args.rows.now) (to_z w64 (of_z w64 c.args.from)) (spares_in c.args.window) c.loop-place.place c.args.class
    (dates_in c.args.waiting.now) (dates_in c.loop-place.waiting) (dates_in c.mark_list.new.waiting) c.loop-place.invariant c.in_ok-mark_list.ensures

pub returns : goal.returns
returns c =
    let fits : FitsSigned w64 c.args.from = search rules in
    let all : c.loop-place.place ≡ 6 = omega arith in
    subst (λ z. Marks (present c.args.tree.now) (table c.args.rows.now) (UnderFirst (present c.args.tree.now) (table c.args.rows.now) z (spares_in c.args.window) 6 c.args.class) (dates_in c.args.waiting.now) (dates_in c.loop-place.waiting)) (to_z-of_z w64 c.args.from fits)
    (subst (λ n. Marks (present c.args.tree.now) (table c.args.rows.now) (UnderFirst (present c.args.tree.now) (table c.args.rows.now) (to_z w64 (of_z w64 c.args.from)) (spares_in c.args.window) n c.args.class) (dates_in c.args.waiting.now) (dates_in c.loop-place.waiting)) all c.loop-place.invariant)
