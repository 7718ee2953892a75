use Rattle.std.proofs.Common.{List, ap, map, sym, subst, ◌∙◌}
use Rattle.tmm_model.specs.declared.answer.Report.{Report}
use Rattle.tmm_model.specs.Answers.{report_of}
use Rattle.tmm_model.specs.Maps.{built}
use Rattle.belief_list.specs.declared.list.BeliefRow.{BeliefRow}
use Rattle.belief_list.specs.Rows.{row_at, IsListing}
use Rattle.occ_tree.specs.Places.{forest}
use Rattle.plain_map.proofs.beliefs.changes_to.Goals as goal

pub returns : goal.returns
returns c = λ list old_net net old new left_out.
    let old_rows = ap (λ (l : List BeliefRow). map (row_at (forest c.args.old.now.tree)) l) c.items.ensures ∙ old.view.listing in
    let new_rows = ap (λ (l : List BeliefRow). map (row_at (forest c.args.new.now.tree)) l) c.items-2.ensures ∙ new.view.listing in
    let old_broken = ap (λ (l : List Report). map report_of l) c.items-3.ensures ∙ old.view.broken in
    let new_broken = ap (λ (l : List Report). map report_of l) c.items-4.ensures ∙ new.view.broken in
    c.with_reports.ensures list old_broken new_broken
    (c.in_ok-believed.ensures.delta (built list) (built c.args.standing.now.present) old_rows new_rows) left_out

pub compare-requires-clause-old : goal.compare-requires-clause-old
compare-requires-clause-old c = subst (IsListing (forest c.args.old.now.tree)) (sym c.items.ensures) c.requires.old
