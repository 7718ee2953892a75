use Rattle.std.proofs.Common.{◌≡◌, Bool, false, subst, rules, w64, to_z, of_z}
use Rattle.std.specs.Prelude.{FitsSigned}
use Rattle.std.proofs.lemmas.Int.{to_z-of_z}
use Rattle.std.proofs.lemmas.Result.{on_ok_weaker}
use Rattle.row_links.specs.Lists.{IsOn}
use Rattle.undo_rows.specs.Changes.{present as table}
use Rattle.occ_tree.specs.Standing.{present}
use Rattle.belief_table.specs.Marks.{Marks, IsAsLate}
use Rattle.belief_table.specs.Waiting.{dates_in}
use Rattle.belief_table.proofs.Marked.{none_spared}
use Rattle.marking.proofs.rivals_of_token.mark_rival.Goals as goal

pub returns-then-reads_rival-clause-reads : goal.returns-then-reads_rival-clause-reads
returns-then-reads_rival-clause-reads c = λ _.
    let s = present c.args.tree.now in
    let t = table c.args.rows.now in
    let from = to_z w64 (of_z w64 c.args.from) in
    let old = dates_in c.args.waiting.now in
    let new = dates_in c.mark_list.new.waiting in
    let fits : FitsSigned w64 c.args.from = search rules in
    on_ok_weaker {P = Marks s t (λ i row. IsOn (t.list 1 c.args.rule) i × IsAsLate s from row × (◌≡◌ {A = Bool} false false)) old new}
    {Q = Marks s t (λ i row. IsOn (t.list 1 c.args.rule) i × IsAsLate s c.args.from row) old new} c.mark_list.result
    (λ marks. subst (λ z. Marks s t (λ i row. IsOn (t.list 1 c.args.rule) i × IsAsLate s z row) old new) (to_z-of_z w64 c.args.from fits) (none_spared s t (IsOn (t.list 1 c.args.rule)) from old new marks))
    c.mark_list.ensures
