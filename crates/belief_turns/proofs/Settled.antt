-- Turns until no row waits.
use Rattle.std.proofs.Common.{◌≡◌, ◌∙◌, ℕ, ◌≤◌, List, [], ◌∷◌, length, true, false, sym, ap, subst}
use Rattle.std.specs.Prelude.{is_some}
use Rattle.tmm_model.specs.declared.premise.Edit.{Edit}
use Rattle.tmm_model.specs.declared.refusal.Stop.{Stop}
use Rattle.tmm_model.specs.Answers.{size}
use Rattle.tmm_model.specs.Edits.{next_list}
use Rattle.tmm_model.specs.Maps.{built}
use Rattle.tmm_model.specs.Moments.{Moment}
use Rattle.tmm_model.specs.Standing.{Standing}
use Rattle.belief_theory.specs.Touched.{touched}
use Rattle.dist_net.specs.Net.{Net}
use Rattle.undo_rows.specs.Changes.{present as table}
use Rattle.occ_tree.specs.Places.{forest}
use Rattle.occ_tree.specs.Standing.{Kept}
use Rattle.projection.specs.Queues.{IsTooLarge}
use Rattle.revisions.specs.Counted.{changed}
use Rattle.joined.specs.Kept.{IsKeptBy}
use Rattle.joined.specs.Rows.{Row, NoneWaits}
use Rattle.joined.specs.Telling.{IsToldOf}
use Rattle.joined.proofs.Netted.{current as netted_current, counted as netted_counted}
use Rattle.joined.proofs.Telling.{netted_tell}
use Rattle.belief_table.specs.declared.state.Beliefs.{Beliefs}
use Rattle.belief_turns.specs.declared.told.Told.{Told}
use Rattle.belief_table.specs.Numbers.{name_in}
use Rattle.belief_turns.specs.Settling.{counted, IfBegun, IsSoFar, IsCountedIn, IsSettled, StopsFor}
use Rattle.belief_turns.specs.Telling.{ins, outs, IsWeighed}
use Rattle.belief_turns.specs.Turning.{rows_of, IsFit, IsUnderway, IsRevising}
use Rattle.belief_turns.specs.Turns.{CountsOne, TurnsTo, Rests, StopsTurn, one_more}
use Rattle.belief_table.specs.Waiting.{waits_in}
use Rattle.belief_turns.proofs.Counted.{first_counted, counted_more, counted_below, counted_none, counts_within}
use Rattle.belief_turns.proofs.Turned.{row_of}

-- ---- one turn more

pub revising_on : (s : Standing) (net : Net) (b e : Beliefs) (told told_after : Told) → IsRevising s net b → TurnsTo s net b e told told_after → IsRevising s net e
revising_on s net b e told told_after r t = record { old = r.old; edit = r.edit; taken = t.decision ∷ r.taken; list = r.list; underway = t.stands r.old r.edit r.taken r.list r.underway }

pub so_far_on : (s : Standing) (net : Net) (a b e : Beliefs) (told_a told told_after : Told) (before count count_after : ℕ)
    → IfBegun s net a told_a (IsSoFar net b told before count) → TurnsTo s net b e told told_after → count_after ≡ one_more count
    → IfBegun s net a told_a (IsSoFar net e told_after before count_after)
so_far_on s net a b e told_a told told_after before count count_after far t one old edit list begun =
    let h = far old edit list begun in
    record {
      taken = t.decision ∷ h.taken;
      underway = t.stands old edit h.taken list h.underway;
      tells = t.tells old edit h.taken list h.underway h.tells;
      counts = one ∙ ap one_more h.counts ∙ counted_more before (length h.taken);
    }

pub so_far_first : (s : Standing) (net : Net) (a : Beliefs) (told : Told) (before : ℕ) → before ≤ 18446744073709551615 → IfBegun s net a told (IsSoFar net a told before before)
so_far_first s net a told before few old edit list begun = record { taken = []; underway = begun.underway; tells = begun.tells; counts = counted_none before few }

-- ---- bounds

pub so_far_within : (s : Standing) (net : Net) (a b : Beliefs) (told_a told : Told) (before count : ℕ) → IfBegun s net a told_a (IsSoFar net b told before count) → IfBegun s net a told_a (IsCountedIn before count)
so_far_within s net a b told_a told before count far old edit list begun =
    let h = far old edit list begun in
    let within = (netted_counted old edit net (forest b.tree) (rows_of b) h.taken h.underway.sound h.underway.sound_after h.underway.netted).0 in
    subst (λ n. n ≤ counted before (touched old (next_list old edit))) (sym h.counts) (counted_below before (length h.taken) (touched old (next_list old edit)) within)

pub one_within : (s : Standing) (net : Net) (a b : Beliefs) (told_a told : Told) (before count count_after : ℕ) → IsFit s net b
    → IfBegun s net a told_a (IsSoFar net b told before count) → CountsOne b count count_after → IfBegun s net a told_a (IsCountedIn before count_after)
one_within s net a b told_a told before count count_after fit far one old edit list begun =
    let h = far old edit list begun in
    let within = (netted_counted old edit net (forest b.tree) (rows_of b) h.taken h.underway.sound h.underway.sound_after h.underway.netted).0 in
    counts_within before (length h.taken) (touched old (next_list old edit)) count count_after b h.counts within (λ first. first_counted s net b fit first old edit h.taken list h.underway) one

pub stops_for : (s : Standing) (net : Net) (a b : Beliefs) (told_a told : Told) (before count : ℕ) (stop : Stop) → IsWeighed s told
    → IfBegun s net a told_a (IsSoFar net b told before count) → StopsTurn s net b told stop → IfBegun s net a told_a (StopsFor stop)
stops_for s net a b told_a told before count stop w far stops old edit list begun =
    let h = far old edit list begun in
    subst (λ l. IsTooLarge (size (built l)) stop) (sym list) (stops old edit h.taken list h.underway h.tells w)

-- ---- at rest

module _ (s : Standing) (net : Net) (b e : Beliefs) (rests : Rests b e) where
  waits_same : waits_in e.decisions.waiting ≡ waits_in b.decisions.waiting
  waits_same = λ j i. (ap is_some (rests.none_waits i) ∙ sym (ap is_some (rests.none_waited i))) j

  pub underway_rests : (old : Standing) (edit : Edit) (taken : List (Moment × List ℕ)) → IsUnderway old edit net b taken → IsUnderway old edit net e taken
  underway_rests old edit taken k =
      subst (λ (t : Kept). IsKeptBy old edit net (forest t) (table e.decisions.rows) (name_in e.decisions.rules) (waits_in e.decisions.waiting) taken) (sym rests.tree)
      (subst (λ rows. IsKeptBy old edit net (forest b.tree) (table rows) (name_in e.decisions.rules) (waits_in e.decisions.waiting) taken) (sym rests.rows)
      (subst (λ rules. IsKeptBy old edit net (forest b.tree) (table b.decisions.rows) (name_in rules) (waits_in e.decisions.waiting) taken) (sym rests.rules)
      (subst (λ waits. IsKeptBy old edit net (forest b.tree) (table b.decisions.rows) (name_in b.decisions.rules) waits taken) (sym waits_same) k)))

  none_wait : NoneWaits (rows_of e)
  none_wait i q at waits =
      let (row, there, is) = row_of e i q at in
      let no : false ≡ true = sym (ap is_some (rests.none_waits i)) ∙ sym (ap (λ (z : Row). z.waits) is) ∙ waits in
      cc

  pub settled : (a : Beliefs) (told_a told : Told) (before count : ℕ) → IfBegun s net a told_a (IsSoFar net b told before count) → IfBegun s net a told_a (IsSettled net e told before count)
  settled a told_a told before count far old edit list begun =
      let h = far old edit list begun in
      let k = underway_rests old edit h.taken h.underway in
      let told_e : IsToldOf old (next_list old edit) (forest e.tree) (ins told) (outs told) = subst (λ (t : Kept). IsToldOf old (next_list old edit) (forest t) (ins told) (outs told)) (sym rests.tree) h.tells in
      let made = (netted_counted old edit net (forest e.tree) (rows_of e) h.taken k.sound k.sound_after k.netted).1 none_wait in
      record {
        current = netted_current old edit net (forest e.tree) (rows_of e) h.taken k.sound k.sound_after k.netted none_wait;
        tells = (netted_tell old edit net (forest e.tree) (rows_of e) h.taken (ins told) (outs told) k.sound k.sound_after k.netted told_e).1 none_wait;
        least = subst (λ n. counted before (changed old (next_list old edit)) ≤ n) (sym h.counts) (counted_below before (changed old (next_list old edit)) (length h.taken) made);
      }
