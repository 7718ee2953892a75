-- What the map keeps where nothing is pending, and once an edit is made.
use Rattle.std.proofs.Common.{◌≡◌, ◌∙◌, ℕ, ◌≤◌, Bool, true, false, ◌||◌, List, [], refl, sym, ap, subst, arith}
use Rattle.std.specs.Prelude.{Option, Some, None, MatchOption}
use Rattle.tmm_model.specs.declared.premise.Edit.{Edit}
use Rattle.tmm_model.specs.declared.premise.Edit.TheVariants.{Add, Erase, Horizon, Upgrade}
use Rattle.tmm_model.specs.Edits.{next_list}
use Rattle.tmm_model.specs.Lines.{IsWellFormedEdit}
use Rattle.tmm_model.specs.Standing.{Standing, points_in, empty_list}
use Rattle.tmm_model.specs.Verdicts.{Cause, list_cause}
use Rattle.belief_theory.specs.KeptLists.{last_horizon}
use Rattle.belief_theory.specs.Touched.{touched}
use Rattle.dist_net.specs.Net.{Net, Nets}
use Rattle.net_theory.specs.Fits.{IsNetOf}
use Rattle.list_net.specs.Settled.{NothingPending}
use Rattle.net_theory.specs.KeptNumbers.{PointsKeepNumbers}
use Rattle.premise_list.specs.States.{States}
use Rattle.occ_tree.specs.Places.{forest}
use Rattle.occ_tree.specs.Standing.{State, present, committed, forest as forest_of}
use Rattle.belief_table.specs.declared.state.Beliefs.{Beliefs}
use Rattle.belief_net.specs.Copying.{CopiesKept}
use Rattle.belief_table.specs.LastCommit.{KeepLast}
use Rattle.belief_turns.specs.Settling.{counted}
use Rattle.belief_net.specs.Updating.{IsKept, IsPending, IsCountedWithin, CommitsKept, LeadsBack}
use Rattle.belief_table.proofs.Named.{last_stays}
use Rattle.revisions.specs.Counted.{changed}
use Rattle.map_engine.specs.declared.next.Next.{Next}
use Rattle.map_engine.specs.declared.next.Next.TheVariants.{Nothing, Same, Reviewed, Changed}
use Rattle.map_engine.specs.declared.kept_view.KeptView.{KeptView}
use Rattle.list_theory.specs.LeftOut.{IsLeftOut}
use Rattle.map_engine.specs.NetMaps.{AreNodesOf, IsResting, IsHeld, IsNetMap, CountsEdit}
use Rattle.map_engine.specs.Nexts.{after, pending_list, HasPlacesIn, IsUnguarded, adds_protection}
use Rattle.map_engine.specs.Reads.{IsReadOf, read_of}
use Rattle.map_engine.proofs.Unmoved.{still_unguarded}

-- ---- where nothing is pending

-- what rests is all that the map keeps
pub at_rest : (lists : States) (nets : Nets) (b : Beliefs) (view : KeptView) (guarded : Bool) (next : Next) → next ≡ Nothing → NothingPending lists nets
    → IsHeld lists.committed nets.committed guarded → IsResting lists.committed nets.committed b view → IsNetMap lists nets b view guarded next
at_rest lists nets b view guarded next nothing settled held rests =
    subst (IsNetMap lists nets b view guarded) (sym nothing)
    (record {
      held = held;
      before = record { base = b; rests = rests; last = record { tree = refl; decisions = last_stays b.decisions } };
      settled = λ _. settled;
      rests = λ _. rests;
      next_held = subst (λ (s : Standing). IsHeld s nets.present guarded) (sym settled.list) (subst (λ (n : Net). IsHeld lists.committed n guarded) (sym settled.net) held);
      next_nodes =
          subst (λ (s : Standing). AreNodesOf s nets.present b) (sym settled.list)
          (subst (λ (n : Net). AreNodesOf lists.committed n b) (sym settled.net)
          (record { fit = rests.kept.fit; current = rests.kept.current; none_waits = rests.kept.none_waits }));
      next_view = subst (λ (s : Standing). IsReadOf s (forest b.tree) (read_of view)) (sym settled.list) rests.view;
      next_places = tt;
    })

-- the map of a list in which nothing is declared to occur
pub first_map : (lists : States) (nets : Nets) (b : Beliefs) (view : KeptView) → NothingPending lists nets → IsHeld lists.present nets.present false
    → IsKept lists.present nets.present b → IsReadOf lists.present (forest b.tree) (read_of view)
    → IsNetMap lists nets b view false Nothing
first_map lists nets b view settled held kept read =
    at_rest lists nets b view false Nothing refl settled
    (subst (λ (t : Standing). IsHeld t nets.committed false) settled.list (subst (λ (m : Net). IsHeld lists.present m false) settled.net held))
    (subst (λ (t : Standing). IsResting t nets.committed b view) settled.list (subst (λ (m : Net). IsResting lists.present m b view) settled.net (record { kept = kept; view = read })))

-- the empty list is held
pub empty_held : (s : Standing) (net : Net) → s ≡ empty_list → IsNetOf s net → IsHeld s net false
empty_held s net empty network = record {
  network = network;
  horizon = subst (λ (t : Standing). t.horizon ≤ last_horizon) (sym empty) (omega arith);
  unguarded = λ _. subst IsUnguarded (sym empty) refl;
}

-- what rests does so where the same is read
pub rests_same : (s : Standing) (net : Net) (b : Beliefs) (view view_new : KeptView) → read_of view_new ≡ read_of view → IsResting s net b view → IsResting s net b view_new
rests_same s net b view view_new same rests = record { kept = rests.kept; view = subst (IsReadOf s (forest b.tree)) (sym same) rests.view }

-- copies of what rests do so too
pub copies_rest : (s : Standing) (net : Net) (old new : Beliefs) (view view_new : KeptView) → CopiesKept old new → present new.tree ≡ present old.tree
    → read_of view_new ≡ read_of view → IsResting s net old view → IsResting s net new view_new
copies_rest s net old new view view_new kept tree same rests = record {
  kept = kept s net rests.kept;
  view = subst (λ (t : State). IsReadOf s (forest_of t) (read_of view_new)) (sym tree) (subst (IsReadOf s (forest old.tree)) (sym same) rests.view);
}

-- what an edit made rests once it is committed
pub commits : (s : Standing) (net : Net) (old new : Beliefs) (view : KeptView) → AreNodesOf s net old → IsReadOf s (forest old.tree) (read_of view)
    → present new.tree ≡ present old.tree → CommitsKept old new → IsResting s net new view
commits s net old new view nodes read same kept = record {
  kept = kept s net nodes.fit nodes.current nodes.none_waits;
  view = subst (λ (k : State). IsReadOf s (forest_of k) (read_of view)) (sym same) read;
}

-- what rested before does so again after a rollback
pub leads_back : (s : Standing) (net : Net) (base old new : Beliefs) (view : KeptView) → IsResting s net base view → KeepLast base old
    → present new.tree ≡ committed old.tree → LeadsBack old new → IsResting s net new view
leads_back s net base old new view rests last same back = record {
  kept = back s net base rests.kept last;
  view = subst (λ (k : State). IsReadOf s (forest_of k) (read_of view)) (sym (same ∙ last.tree ∙ rests.kept.tree)) rests.view;
}

-- the map after a commit
pub committed_map : (lists : States) (nets : Nets) (b : Beliefs) (view : KeptView) (guarded : Bool) (next : Next) → IsNetMap lists nets b view guarded next
    → (lists_new : States) (nets_new : Nets) (b_new : Beliefs) (view_new : KeptView) (next_new : Next)
    → lists_new ≡ record { present = lists.present; committed = lists.present }
    → nets_new ≡ record { present = nets.present; committed = nets.present; draft = nets.draft; moved = [] }
    → present b_new.tree ≡ present b.tree → CommitsKept b b_new → read_of view_new ≡ after view next → next_new ≡ Nothing
    → IsNetMap lists_new nets_new b_new view_new guarded next_new
committed_map lists nets b view guarded next is lists_new nets_new b_new view_new next_new list net same kept read nothing =
    subst (λ (s : States). IsNetMap s nets_new b_new view_new guarded next_new) (sym list)
    (subst (λ (n : Nets). IsNetMap (record { present = lists.present; committed = lists.present }) n b_new view_new guarded next_new) (sym net)
    (at_rest (record { present = lists.present; committed = lists.present }) (record { present = nets.present; committed = nets.present; draft = nets.draft; moved = [] })
    b_new view_new guarded next_new nothing (record { list = refl; net = refl }) is.next_held
    (commits lists.present nets.present b b_new view_new is.next_nodes (subst (IsReadOf lists.present (forest b.tree)) (sym read) is.next_view) same kept)))

-- the map after a rollback
pub rolled_back : (lists : States) (nets : Nets) (b : Beliefs) (view : KeptView) (guarded : Bool) (next : Next) → IsNetMap lists nets b view guarded next
    → (lists_new : States) (nets_new : Nets) (b_new : Beliefs) (next_new : Next)
    → lists_new ≡ record lists { present = lists.committed } → nets_new ≡ record nets { present = nets.committed; moved = [] }
    → present b_new.tree ≡ committed b.tree → LeadsBack b b_new → next_new ≡ Nothing
    → IsNetMap lists_new nets_new b_new view guarded next_new
rolled_back lists nets b view guarded next is lists_new nets_new b_new next_new list net same back nothing =
    subst (λ (s : States). IsNetMap s nets_new b_new view guarded next_new) (sym list)
    (subst (λ (n : Nets). IsNetMap (record lists { present = lists.committed }) n b_new view guarded next_new) (sym net)
    (at_rest (record lists { present = lists.committed }) (record nets { present = nets.committed; moved = [] }) b_new view guarded next_new nothing
    (record { list = refl; net = refl }) is.held
    (leads_back lists.committed nets.committed is.before.base b b_new view is.before.rests is.before.last same back)))

-- ---- where an edit is made

neither : (a b : Bool) → (a || b) ≡ false → (a ≡ false) × (b ≡ false)
neither true b e = cc
neither false b e = (refl, e)

-- no edit sets a horizon beyond the last one
within : (s : Standing) (edit : Edit) → IsWellFormedEdit edit → s.horizon ≤ last_horizon → (next_list s edit).horizon ≤ last_horizon
within s (Add premise) well below = below
within s (Erase name) well below = below
within s (Horizon n) well below = well
within s Upgrade well below = below

module _ (lists : States) (nets : Nets) (b : Beliefs) (view : KeptView) (guarded : Bool) (next : Next) (is : IsNetMap lists nets b view guarded next)
    (lists_after : States) (edit : Edit) (made : lists_after ≡ record lists { present = next_list lists.present edit }) (well : IsWellFormedEdit edit)
    (nets_after : Nets) (kept : nets_after.committed ≡ nets.committed)
    (guarded_after : Bool) (may : guarded_after ≡ (guarded || adds_protection edit)) where
  -- the state of the last commit stays
  held_before : IsHeld lists_after.committed nets_after.committed guarded_after
  held_before =
      subst (λ (s : States). IsHeld s.committed nets_after.committed guarded_after) (sym made)
      (subst (λ (n : Net). IsHeld lists.committed n guarded_after) (sym kept)
      (record { network = is.held.network; horizon = is.held.horizon; unguarded = λ none. is.held.unguarded (neither guarded (adds_protection edit) (sym may ∙ none)).0 }))

  pub rests_before : pending_list lists.present next ≡ None → IsResting lists_after.committed nets_after.committed b view
  rests_before idle =
      subst (λ (s : States). IsResting s.committed nets_after.committed b view) (sym made)
      (subst (λ (n : Net). IsResting lists.committed n b view) (sym kept) (is.rests idle))

  horizon_after : lists_after.present.horizon ≤ last_horizon
  horizon_after = subst (λ (s : States). s.present.horizon ≤ last_horizon) (sym made) (within lists.present edit well is.next_held.horizon)

  -- where no protection was ever added, the edit leaves none
  pub unguarded_before : guarded_after ≡ false → IsUnguarded lists_after.committed
  unguarded_before = held_before.unguarded

  pub unguarded_after : guarded_after ≡ false → IsUnguarded lists_after.present
  unguarded_after none =
      let (before, adds) = neither guarded (adds_protection edit) (sym may ∙ none) in
      subst (λ (s : States). IsUnguarded s.present) (sym made) (still_unguarded lists.present edit adds (is.next_held.unguarded before))

  -- what an update of the nodes asks of list and network
  pub pending_edit : pending_list lists.present next ≡ None → (erased : List (List ℕ)) → IsNetOf lists_after.present nets_after.present
      → PointsKeepNumbers (points_in (next_list lists.present edit).premises) nets.present.names nets_after.present.names
      → IsLeftOut lists.present (next_list lists.present edit) erased
      → IsPending lists_after nets_after edit erased
  pending_edit idle erased network numbers left_out =
      let settled = is.settled idle in
      let list : lists_after.present ≡ next_list lists.present edit = ap (λ (s : States). s.present) made in
      let old : lists_after.committed ≡ lists.present = ap (λ (s : States). s.committed) made ∙ sym settled.list in
      let net : nets_after.committed ≡ nets.present = kept ∙ sym settled.net in
      record {
        list = list ∙ ap (λ (s : Standing). next_list s edit) (sym old);
        network = network;
        numbers =
            subst (λ (n : Net). PointsKeepNumbers (points_in lists_after.present.premises) n.names nets_after.present.names) (sym net)
            (subst (λ (s : Standing). PointsKeepNumbers (points_in s.premises) nets.present.names nets_after.present.names) (sym list) numbers);
        left_out =
            subst (λ (s : Standing). IsLeftOut s lists_after.present erased) (sym old)
            (subst (λ (s : Standing). IsLeftOut lists.present s erased) (sym list) left_out);
        horizon = horizon_after;
      }

  -- the map with the edit pending
  pub edited_map : pending_list lists.present next ≡ None → (b_after : Beliefs) (view_after : KeptView) (next_after : Next)
      → IsNetOf lists_after.present nets_after.present
      → AreNodesOf lists_after.present nets_after.present b_after
      → read_of view_after ≡ read_of view
      → IsReadOf lists_after.present (forest b_after.tree) (after view_after next_after)
      → HasPlacesIn view_after next_after
      → KeepLast b b_after
      → pending_list lists_after.present next_after ≡ Some lists_after.present
      → IsNetMap lists_after nets_after b_after view_after guarded_after next_after
  edited_map idle b_after view_after next_after network nodes same read places last pending =
      let never : pending_list lists_after.present next_after ≡ None → ⊥ = λ none. (let e : Some lists_after.present ≡ None = sym pending ∙ none in cc) in
      record {
        held = held_before;
        before = record { base = b; rests = rests_same lists_after.committed nets_after.committed b view view_after same (rests_before idle); last = last };
        settled = λ none. absurd (never none);
        rests = λ none. absurd (never none);
        next_held = record { network = network; horizon = horizon_after; unguarded = unguarded_after };
        next_nodes = nodes;
        next_view = read;
        next_places = places;
      }

  -- an edit that is not made in the end leaves all as it was
  pub undone_map : pending_list lists.present next ≡ None → (mid b_new : Beliefs) (view_new : KeptView) (lists_new : States) (nets_new : Nets) → next ≡ Nothing
      → read_of view_new ≡ read_of view
      → KeepLast b mid
      → lists_new ≡ record lists_after { present = lists_after.committed } → nets_new ≡ record nets_after { present = nets_after.committed; moved = [] }
      → present b_new.tree ≡ committed mid.tree → LeadsBack mid b_new
      → IsNetMap lists_new nets_new b_new view_new guarded_after next
  undone_map idle mid b_new view_new lists_new nets_new nothing read last list net same back =
      subst (λ (s : States). IsNetMap s nets_new b_new view_new guarded_after next) (sym list)
      (subst (λ (n : Nets). IsNetMap (record lists_after { present = lists_after.committed }) n b_new view_new guarded_after next) (sym net)
      (at_rest (record lists_after { present = lists_after.committed }) (record nets_after { present = nets_after.committed; moved = [] }) b_new view_new guarded_after next nothing
      (record { list = refl; net = refl }) held_before
      (leads_back lists_after.committed nets_after.committed b mid b_new view_new (rests_same lists_after.committed nets_after.committed b view view_new read (rests_before idle)) last same back)))

-- nothing is pending only where nothing is known of what a pending edit leaves
pub is_nothing : (present_list : Standing) (next : Next) → pending_list present_list next ≡ None → next ≡ Nothing
is_nothing s next none = by next none
  where
    by : (n : Next) → pending_list s n ≡ None → n ≡ Nothing
    by Nothing e = refl
    by Same e = cc
    by (Reviewed review) e = cc
    by (Changed made) e = cc

-- ---- how many decisions are counted

-- where no cause stands against the edit, what is counted within what it touches is so of the list
-- before
pub counts_edit : (lists new : States) (edit : Edit) (s : Standing) (before count : ℕ) → new ≡ record lists { present = next_list lists.present edit }
    → lists.present ≡ lists.committed → lists.committed ≡ s → list_cause s edit ≡ None → IsCountedWithin new before count → CountsEdit s edit before count
counts_edit lists new edit s before count made one is none within =
    let of_new : count ≤ counted before (touched lists.committed (next_list lists.present edit)) = subst (λ (n : States). IsCountedWithin n before count) made within in
    let of_one : count ≤ counted before (touched lists.committed (next_list lists.committed edit)) =
    subst (λ (x : Standing). count ≤ counted before (touched lists.committed (next_list x edit))) one of_new in
    let of_list : count ≤ counted before (touched s (next_list s edit)) = subst (λ (x : Standing). count ≤ counted before (touched x (next_list x edit))) is of_one in
    subst (λ (o : Option Cause). MatchOption o (count ≤ counted before (touched s (next_list s edit))) (λ _. count ≡ before)) (sym none) of_list

-- what is counted is at least what is changed of the list before
pub counts_least : (lists new : States) (edit : Edit) (s : Standing) (before count : ℕ) → new ≡ record lists { present = next_list lists.present edit }
    → lists.present ≡ lists.committed → lists.committed ≡ s → counted before (changed new.committed new.present) ≤ count
    → counted before (changed s (next_list s edit)) ≤ count
counts_least lists new edit s before count made one is least =
    let of_new : counted before (changed lists.committed (next_list lists.present edit)) ≤ count =
    subst (λ (n : States). counted before (changed n.committed n.present) ≤ count) made least in
    subst (λ (x : Standing). counted before (changed x (next_list x edit)) ≤ count) is
    (subst (λ (x : Standing). counted before (changed lists.committed (next_list x edit)) ≤ count) one of_new)
