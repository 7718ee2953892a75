use Rattle.std.proofs.Common.{◌∙◌, sym, ap, refl, subst, length, ◌<◌, ◌≤◌, arith}
use Rattle.std.specs.Prelude.{is_some}
use Rattle.undo_rows.specs.Changes.{present}
use Rattle.undo_rows.specs.Tables.{Table}
use Rattle.undo_rows.proofs.First.{shorter_without_first}
use Rattle.decision_rows.specs.declared.row.Pair.{Pair}
use Rattle.occ_tree.proofs.Walked.{first_is_on}
use Rattle.belief_table.proofs.Dropped.{dropping_next, first_at, all_dropped}
use Rattle.belief_table.proofs.Marked.{listed_row}
use Rattle.belief_table.proofs.Without.{without_no_longer}
use Rattle.belief_table.proofs.dropping.drop_rows.Goals as goal

pub remove-requires : goal.remove-requires
remove-requires c =
    let t = present c.loop-row.decisions.rows in
    let (r, at) = listed_row t c.first.ensures.listed 0 c.args.event c.in-Some.row (first_is_on (t.list 0 c.args.event) c.in-Some.row (sym c.first.ensures.first ∙ c.in-Some.is)) in
    ap is_some at

pub loop-row-smaller : goal.loop-row-smaller
loop-row-smaller c =
    let t = present c.loop-row.decisions.rows in
    let less = shorter_without_first c.in-Some.row (t.list 0 c.args.event) (sym c.in-Some.is ∙ c.first.ensures.first) in
    subst (λ (z : Table Pair 8). length (z.list 0 c.args.event) < length (t.list 0 c.args.event)) (sym c.in_ok-remove.ensures.ok.present_is) less

pub loop-row-preserved : goal.loop-row-preserved
loop-row-preserved c =
    let mid = c.loop-row.decisions in
    let t = present mid.rows in
    let first = sym c.first.ensures.first ∙ c.in-Some.is in
    let (s, under) = c.requires in
    let d = c.loop-row.invariant.dropping in
    let (r, at) = listed_row t c.first.ensures.listed 0 c.args.event c.in-Some.row (first_is_on (t.list 0 c.args.event) c.in-Some.row first) in
    record {
      dropping = dropping_next c.args.event c.args.decisions.now mid _ c.in-Some.row r d at (first_at s c.args.event c.args.decisions.now mid under d c.first.ensures.listed c.in-Some.row r at first) c.in_ok-remove.ensures.ok c.remove-in-Some.ensures refl refl;
      last = record { rows = c.in_ok-remove.ensures.ok.committed_is ∙ c.loop-row.invariant.last.rows; rules = c.loop-row.invariant.last.rules; classes = c.loop-row.invariant.last.classes };
      fewer = λ f h.
          let less = c.loop-row.invariant.fewer f h in
          let now = subst (λ (z : Table Pair 8). length (z.list f h) ≤ length (t.list f h)) (sym c.in_ok-remove.ensures.ok.present_is) (without_no_longer c.in-Some.row (t.list f h)) in
          omega (arith, less, now);
    }

pub returns-clause-drops : goal.returns-clause-drops
returns-clause-drops c =
    let (s, under) = c.requires in
    all_dropped s c.args.event c.args.decisions.now c.loop-row.decisions under c.loop-row.invariant.dropping c.first.ensures.listed (sym c.first.ensures.first ∙ c.in_default.is)
