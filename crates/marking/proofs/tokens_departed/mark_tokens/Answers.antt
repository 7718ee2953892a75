use Rattle.std.proofs.Common.{◌≡◌, take, sym, subst, arith}
use Rattle.std.proofs.lemmas.List.{take_all}
use Rattle.supports.proofs.Taken.{next_taken}
use Rattle.undo_rows.specs.Changes.{Logged, present as table}
use Rattle.decision_rows.specs.declared.row.Pair.{Pair}
use Rattle.dist_net.specs.Net.{IsInUse}
use Rattle.occ_tree.specs.Standing.{present}
use Rattle.bearing.specs.declared.gone_tokens.Gone.{Gone}
use Rattle.marking.specs.LeftMarks.{MarksTokens}
use Rattle.belief_table.specs.Marks.{HaveEvents}
use Rattle.marking.proofs.LeftMarked.{tokens_none, tokens_next}
use Rattle.belief_table.proofs.Named.{last_stays, last_on}
use Rattle.marking.proofs.tokens_departed.mark_tokens.Goals as goal

pub loop-k-init : goal.loop-k-init
loop-k-init c = record { marks = tokens_none c.args.net.now.committed (present c.args.tree.now) c.args.decisions.now c.first.ensures.listed; last = last_stays c.args.decisions.now }

pub mark_gone-requires-clause-events : goal.mark_gone-requires-clause-events
mark_gone-requires-clause-events c = subst (λ (rows : Logged Pair 8). HaveEvents c.args.tree.now (table rows)) (sym c.loop-k.invariant.marks.rows) c.requires.events

pub mark_gone-requires-clause-gone : goal.mark_gone-requires-clause-gone
mark_gone-requires-clause-gone c = subst (λ (g : Gone). IsInUse c.args.net.now.committed.names g.place.base) (sym c.index-tokens-k.is) (c.requires.tokens c.loop-k.k c.index-tokens-k.result c.loop-k-test.true)

pub loop-k-preserved : goal.loop-k-preserved
loop-k-preserved c =
    let net = c.args.net.now.committed in
    let s = present c.args.tree.now in
    let tokens = c.args.tokens.now in
    let k = c.loop-k.k in
    let old = c.args.decisions.now in
    let mid = c.loop-k.decisions in
    let new = c.mark_gone.new.decisions in
    record {
      marks = subst (λ l. MarksTokens net s l old new) (sym (next_taken tokens k c.index-tokens-k.result c.loop-k-test.true c.index-tokens-k.is))
          (tokens_next net s (take k tokens) c.index-tokens-k.result old mid new c.loop-k.invariant.marks c.in_ok-mark_gone.ensures.ok c.in_ok-mark_gone.ensures.last);
      last = last_on old mid new c.loop-k.invariant.last c.in_ok-mark_gone.ensures.last;
    }

pub returns-in_err-mark_gone-clause-last : goal.returns-in_err-mark_gone-clause-last
returns-in_err-mark_gone-clause-last c = last_on c.args.decisions.now c.loop-k.decisions c.mark_gone.new.decisions c.loop-k.invariant.last c.mark_gone.ensures.last

pub returns-clause-ok : goal.returns-clause-ok
returns-clause-ok c =
    let tokens = c.args.tokens.now in
    let all : take c.loop-k.k tokens ≡ tokens = take_all c.loop-k.k tokens (omega (arith, c.loop-k-test.false)) in
    subst (λ l. MarksTokens c.args.net.now.committed (present c.args.tree.now) l c.args.decisions.now c.loop-k.decisions) all c.loop-k.invariant.marks
