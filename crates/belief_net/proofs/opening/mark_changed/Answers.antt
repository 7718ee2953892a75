use Rattle.std.proofs.Common.{subst, inl, inr}
use Rattle.occ_tree.specs.Places.{forest}
use Rattle.occ_tree.specs.Standing.{present}
use Rattle.belief_table.specs.declared.state.Decisions.{Decisions}
use Rattle.marking.specs.Contradicted.{ReadsUnlike, IsAlikeRow}
use Rattle.belief_table.specs.Decided.{table_of, rule_in}
use Rattle.belief_table.specs.Marks.{Wakes}
use Rattle.marking.specs.Woken.{IsRowMoved}
use Rattle.belief_net.specs.Updating.{IsChanged, IsUnchanged}
use Rattle.belief_table.specs.Waiting.{dates_in}
use Rattle.marking.specs.Woken.{IsRowAtRest}
use Rattle.belief_net.proofs.NoneBefore.{none_before_0}
use Rattle.marking.proofs.Waking.{wakes_both, ok_then}
use Rattle.belief_net.proofs.opening.mark_changed.Goals as goal

pub returns-clause-ok : goal.returns-clause-ok
returns-clause-ok c =
    let s = c.args.standing.now.present in
    let old = c.args.standing.now.committed in
    let nets = c.args.net.now in
    let b = c.args.beliefs.now in
    let d = b.decisions in
    let st = present b.tree in
    let f = forest b.tree in
    let added = c.args.added in
    let mid = c.mark_contradicted.new.decisions in
    let new = c.mark_moved.new.decisions in
    let late = none_before_0 s nets.present b c.requires.fit in
    ok_then c.mark_moved.result
    (λ moved. wakes_both st (table_of d)
    (λ i row. ReadsUnlike old s (rule_in d row)) (λ i row. IsAlikeRow old s st (rule_in d row) row)
    (λ i row. IsRowMoved nets added s f d row) (λ i row. IsRowAtRest nets added old s f d row)
    (λ i row. IsChanged added old s nets b row) (λ i row. IsUnchanged added old s nets b row)
    (dates_in d.waiting) (dates_in mid.waiting) (dates_in new.waiting)
    (λ i row at unlike. inl unlike) (λ i row at moves. inr moves) (λ i row at alike rests. (alike (late i row at), rests))
    c.in_ok-mark_contradicted.ensures.ok
    (subst (λ (z : Decisions). Wakes st (table_of z) (λ i row. IsRowMoved nets added s f z row) (λ i row. IsRowAtRest nets added old s f z row) (dates_in mid.waiting) (dates_in new.waiting))
    c.in_ok-mark_contradicted.ensures.others moved))
    c.mark_moved.ensures.ok
