use Rattle.std.proofs.Common.{◌≡◌, ◌∙◌, [], ◌∷◌, ◌++◌, length, w64, to_z, of_z, ap, sym, subst, rules, arith}
use Rattle.std.proofs.lemmas.List.{append_assoc, append-nil}
use Rattle.std.proofs.lemmas.Int.{to_z-of_z}
use Rattle.std.specs.Prelude.{FitsSigned, is_some}
use Rattle.undo_rows.specs.Changes.{present as table}
use Rattle.occ_tree.specs.Standing.{present}
use Rattle.occ_tree.proofs.Walked.{from_on, from_first, from_next, first_is_on, next_is_on}
use Rattle.belief_table.specs.Marks.{Marks}
use Rattle.belief_table.specs.Waiting.{dates_in}
use Rattle.bearing.specs.Windows.{spares_in}
use Rattle.belief_table.proofs.Marked.{OnFront, listed_row, marks_start, marks_next}
use Rattle.belief_table.proofs.let_wait.mark_list.Goals as goal

pub loop-next-init : goal.loop-next-init
loop-next-init c =
    let list = (table c.args.rows.now).list c.args.family c.args.head in (
      [],
      sym (ap (λ o. from_on o list) c.first-next.ensures.first ∙ from_first list),
      λ i is. first_is_on list i (sym c.first-next.ensures.first ∙ is),
      marks_start (present c.args.tree.now) (table c.args.rows.now) (to_z w64 (of_z w64 c.args.from)) (spares_in c.args.window) (dates_in c.args.waiting.now),
    )

pub mark_row-requires-clause-row : goal.mark_row-requires-clause-row
mark_row-requires-clause-row c =
    let (r, at) = listed_row (table c.args.rows.now) c.first-next.ensures.listed c.args.family c.args.head c.in-Some.i (c.loop-next.invariant.2 c.in-Some.i c.in-Some.is) in
    ap is_some at

pub next-next-requires : goal.next-next-requires
next-next-requires c = (c.args.head, c.loop-next.invariant.2 c.in-Some.i c.in-Some.is)

pub loop-next-smaller : goal.loop-next-smaller
loop-next-smaller c =
    let list = (table c.args.rows.now).list c.args.family c.args.head in
    let i = c.in-Some.i in
    let on = c.loop-next.invariant.2 i c.in-Some.is in
    let here : from_on c.loop-next.next list ≡ i ∷ from_on c.next-next.result list =
    ap (λ o. from_on o list) c.in-Some.is ∙ from_next list i (c.first-next.ensures.listed.once c.args.family c.args.head) on ∙ ap (λ o. i ∷ from_on o list) (sym (c.next-next.ensures c.args.head on)) in
    omega (arith, ap length here)

pub loop-next-preserved : goal.loop-next-preserved
loop-next-preserved c =
    let list = (table c.args.rows.now).list c.args.family c.args.head in
    let i = c.in-Some.i in
    let on = c.loop-next.invariant.2 i c.in-Some.is in
    let (front, is, there, marks) = c.loop-next.invariant in
    let here : from_on c.loop-next.next list ≡ i ∷ from_on c.next-next.result list =
    ap (λ o. from_on o list) c.in-Some.is ∙ from_next list i (c.first-next.ensures.listed.once c.args.family c.args.head) on ∙ ap (λ o. i ∷ from_on o list) (sym (c.next-next.ensures c.args.head on)) in (
      front ++ i ∷ [],
      is ∙ ap (λ l. front ++ l) here ∙ sym (append_assoc front (i ∷ []) (from_on c.next-next.result list)),
      λ j next. next_is_on list i j (sym (c.next-next.ensures c.args.head on) ∙ next),
      marks_next (present c.args.tree.now) (table c.args.rows.now) (to_z w64 (of_z w64 c.args.from)) (spares_in c.args.window) front i (dates_in c.args.waiting.now) (dates_in c.loop-next.waiting) (dates_in c.mark_row.new.waiting) marks c.in_ok-mark_row.ensures,
    )

pub returns : goal.returns
returns c =
    let fits : FitsSigned w64 c.args.from = search rules in
    let list = (table c.args.rows.now).list c.args.family c.args.head in
    let (front, is, there, marks) = c.loop-next.invariant in
    let whole : front ≡ list = sym (is ∙ ap (λ o. front ++ from_on o list) c.in_default.is ∙ append-nil front) in
    subst (λ z. Marks (present c.args.tree.now) (table c.args.rows.now) (OnFront (present c.args.tree.now) (table c.args.rows.now) z (spares_in c.args.window) list) (dates_in c.args.waiting.now) (dates_in c.loop-next.waiting)) (to_z-of_z w64 c.args.from fits)
    (subst (λ l. Marks (present c.args.tree.now) (table c.args.rows.now) (OnFront (present c.args.tree.now) (table c.args.rows.now) (to_z w64 (of_z w64 c.args.from)) (spares_in c.args.window) l) (dates_in c.args.waiting.now) (dates_in c.loop-next.waiting)) whole marks)
