-- How an update begins: from nodes and rows of the list before to those that stand for the
-- revision.
use Rattle.std.proofs.Common.{◌≡◌, ◌≢◌, ◌∙◌, ℕ, Bool, true, false, List, [], ◌∷◌, map, get_or, Option, Some, None, refl, sym, ap, subst, inl, inr, ◌⊎◌, arith}
use Rattle.std.proofs.lemmas.Int.{ints}
use Rattle.std.specs.Prelude.{ℤ, ◌+ℤ◌, pos, int_le, is_some}
use Rattle.std.specs.Option.{is_none}
use Rattle.std.specs.List.{All, Contains}
use Rattle.std.specs.Cmp.Lexicographic.{bytes_decides}
use Rattle.tmm_model.specs.declared.point.PointName.TheVariants.{Begin}
use Rattle.tmm_model.specs.declared.premise.Edit.{Edit}
use Rattle.tmm_model.specs.declared.premise.Edit.TheVariants.{Add, Erase, Horizon, Upgrade}
use Rattle.tmm_model.specs.declared.premise.Premise.{Premise}
use Rattle.tmm_model.specs.Beliefs.{due, root_of, roots, rules_at}
use Rattle.tmm_model.specs.Edits.{next_list}
use Rattle.tmm_model.specs.Maps.{built}
use Rattle.tmm_model.specs.Moments.{Moment, At, rule_of}
use Rattle.tmm_model.specs.Standing.{Standing, points_in, name_of, far_in, premise_in}
use Rattle.belief_theory.specs.Outcomes.{outcome}
use Rattle.list_theory.specs.WellNamed.{IsSound}
use Rattle.list_theory.proofs.Elements.{In, In-right, In-from_Contains, In-filter, In-filter_map}
use Rattle.list_theory.proofs.KnownNames.{fresh}
use Rattle.list_theory.proofs.WellNamed.{AllFollow-append}
use Rattle.premise_list.specs.States.{States}
use Rattle.dist_net.specs.Net.{Nets, IsInUse}
use Rattle.net_theory.specs.Fits.{IsNetOf}
use Rattle.net_theory.specs.KeptNumbers.{PointsKeepNumbers}
use Rattle.spots.specs.Forest.{Forest, member, moment, moment_at, IsLive, IsNoRoot}
use Rattle.spots.specs.OfLists.{IsForestOf, HasList, HasOccurrences}
use Rattle.spots.specs.Spots.{links_low}
use Rattle.spots.proofs.InUse.{begin_in_use}
use Rattle.spots.proofs.Nodes.{live_at, base-moment}
use Rattle.undo_rows.specs.declared.row.Row.{Row as TableRow}
use Rattle.decision_rows.specs.declared.row.Pair.{Pair}
use Rattle.occ_tree.specs.Dated.{IsDatedBy, point_early}
use Rattle.occ_tree.specs.Places.{forest}
use Rattle.occ_tree.specs.Standing.{Kept, present, committed, early}
use Rattle.occ_tree.proofs.KeptDates.{points_date_nodes}
use Rattle.revisions.specs.Maps.{watches}
use Rattle.list_theory.specs.LeftOut.{IsLeftOut}
use Rattle.revisions.specs.Walls.{AllOccur}
use Rattle.revisions.proofs.StillEdits.{base_root}
use Rattle.revisions.proofs.Tokens.{root_named}
use Rattle.joined.specs.Gaps.{SameGaps, MovesAt}
use Rattle.joined.specs.Rows.{Row}
use Rattle.joined.specs.Starting.{IsPrepared}
use Rattle.joined.specs.Touching.{RivalsStay}
use Rattle.joined.specs.Telling.{IsToldOf, LeaveFirst}
use Rattle.joined.proofs.Preparing.{prepared_netted}
use Rattle.joined.proofs.Telling.{prepared_told}
use Rattle.joined.proofs.Deciding.{true_false}
use Rattle.belief_table.specs.declared.erasing.Departed.{Departed}
use Rattle.bearing.specs.declared.gone_tokens.Gone.{Gone}
use Rattle.belief_table.specs.declared.state.Beliefs.{Beliefs}
use Rattle.belief_table.specs.declared.state.Decisions.{Decisions}
use Rattle.belief_turns.specs.declared.told.Told.{Told}
use Rattle.marking.specs.LeftMarks.{ReadsOneOf, ReadsRivalOf, SayNone, MarksLeft}
use Rattle.belief_net.specs.Beginning.{IsReady, added_by}
use Rattle.bearing.specs.Events.{is_between}
use Rattle.belief_net.specs.Clearing.{IsCleared}
use Rattle.marking.specs.Contradicted.{ReadsUnlike, ReadsAlike}
use Rattle.belief_net.specs.Dating.{KeepsNodes, AreDatedBefore}
use Rattle.belief_table.specs.Decided.{table_of, rule_in, AreUnder, AreOfSome, KeepsLast}
use Rattle.belief_table.specs.LastCommit.{KeepLast}
use Rattle.belief_table.specs.Erasing.{moments_of, ShedsAll, Spares, IsFreeOf}
use Rattle.bearing.specs.Gone.{BeginIn}
use Rattle.belief_net.specs.MarkLaws.{added_by as name_added}
use Rattle.belief_table.specs.Marks.{HaveEvents, Wakes}
use Rattle.bearing.specs.MovedPairs.{WereThere, is_moved}
use Rattle.belief_turns.specs.Numbered.{AreNumbered, left_under}
use Rattle.belief_turns.specs.Settling.{Begins}
use Rattle.belief_turns.specs.Telling.{entered_in, outs, moments_of as last_first}
use Rattle.belief_turns.specs.Turning.{rows_of, IsFit}
use Rattle.belief_net.specs.Updating.{IsKept, IsPending, MayAdd, Entered, IsChanged, IsUnchanged, IsTouchedBy, IsLeftBy}
use Rattle.belief_table.specs.Waiting.{dates_in, waits_in}
use Rattle.marking.specs.Woken.{RestsAt}
use Rattle.belief_net.proofs.Begun.{begun_ready}
use Rattle.marking.proofs.ByRule.{reads_none}
use Rattle.belief_net.proofs.Cleared.{cleared, seen_after, told_first}
use Rattle.belief_table.proofs.Marked.{one_row}
use Rattle.belief_net.proofs.Fitting.{fit_only}
use Rattle.belief_net.proofs.KeptAgain.{named_more}
use Rattle.belief_net.proofs.KindEvents.{finds_left}
use Rattle.bearing.proofs.LeftTokens.{gone_base, gone_class, in_at}
use Rattle.belief_net.proofs.MarkedRight.{points_were_there, moved_rows_are_touched, resting_rows_keep, resting_among, is_no_start, unmoved_rests, all_loose, due_rows_change}
use Rattle.belief_table.proofs.Named.{under_more, last_on}
use Rattle.belief_net.proofs.Numbered.{numbered_on, numbered_added, numbered_erased}
use Rattle.belief_net.proofs.Readied.{WaitOn, moved_marked, due_marked, prepared_on}
use Rattle.belief_turns.proofs.Telling.{left_first}
use Rattle.belief_turns.proofs.Turned.{seen_row, row_there, row_of}
use Rattle.marking.proofs.Unlike.{plain_before, alike_stay, unlike_changes}

none_some : {X : Type 0} (x : X) → None ≡ Some x → ⊥
none_some x e = cc

-- ---- what is erased

-- from b, which is kept of the list before, what is erased is gone in e
pub record IsErased (old s : Standing) (nets : Nets) (names : List (List ℕ)) (b e : Beliefs) (all : Departed) : Type 0 where
  pub kept : IsKept old nets.committed b
  pub network : IsNetOf s nets.present
  pub numbers : PointsKeepNumbers (points_in s.premises) nets.committed.names nets.present.names
  pub left_out : IsLeftOut old s names
  pub sheds : ShedsAll b e all
  pub spares : Spares s b e
  pub free : (name : List ℕ) → In name names → IsFreeOf e name

-- a date and no delays
no_delay : (z : ℤ) → z +ℤ pos 0 ≡ z
no_delay z = omega (arith, ints)

module _ (old : Standing) (edit : Edit) (nets : Nets) (names : List (List ℕ)) (b e : Beliefs) (all : Departed) (h : IsErased old (next_list old edit) nets names b e all) where
  sound_old : IsSound old
  sound_old = h.kept.fit.tree.seen.network.sound

  sound_new : IsSound (next_list old edit)
  sound_new = h.network.sound

  is_cleared : IsCleared old (next_list old edit) b e
  is_cleared = cleared old edit nets.committed b e all names sound_new h.kept.fit h.kept.current h.left_out h.sheds h.spares h.free

  is_seen : IsForestOf (next_list old edit) nets.present (forest e.tree)
  is_seen = seen_after old edit nets.committed b e all names sound_new h.kept.fit h.kept.current h.left_out h.sheds h.spares h.free nets.present h.network h.numbers

  left_told : LeaveFirst old (next_list old edit) (moments_of all.left.items)
  left_told = told_first old edit nets.committed b e all names sound_new h.kept.fit h.kept.current h.left_out h.sheds h.spares h.free

  -- roots have the dates that they had
  dated_before : AreDatedBefore nets e.tree
  dated_before x m at root =
      let there = h.sheds.thins.nodes x m at in
      let list : HasList nets.committed (forest b.tree) = (old, h.kept.fit.tree.seen) in
      inr (
        begin_in_use nets.committed (forest b.tree) list x m there,
        h.sheds.thins.dates x (live_at (forest e.tree) x m at)
            ∙ h.kept.fit.tree.dated x (live_at (forest b.tree) x m there)
            ∙ points_date_nodes nets.committed (forest b.tree) x m there list
            ∙ ap (λ l. point_early nets.committed m.begin +ℤ links_low l) root
            ∙ no_delay (point_early nets.committed m.begin),
      )

  none_waits : (i : ℕ) → dates_in e.decisions.waiting i ≡ None
  none_waits i = h.sheds.thins.rests i (h.kept.none_waits i)

  -- with dates of the new network
  re_dated : (t : Kept) → KeepsNodes e.tree t → IsDatedBy nets.present (present t) → IsFit (next_list old edit) nets.present (record e { tree = t })
  re_dated t keeps dated = record {
    tree = record { seen = subst (IsForestOf (next_list old edit) nets.present) (sym keeps.nodes) is_seen; dated = dated };
    events = λ i row at. subst (λ (f : Forest). IsLive f row.value.trigger) (sym keeps.nodes) (h.sheds.thins.events i row at);
    under = is_cleared.under;
    dated = λ i date at. absurd (none_some date (sym (none_waits i) ∙ at));
  }

  -- ---- what is added

  -- no node is of a name that is new
  no_root : (p : Premise) → edit ≡ Add p → (t : Kept) → KeepsNodes e.tree t → IsNoRoot (forest t) (name_of p)
  no_root p is t keeps x m at root =
      let there = h.sheds.thins.nodes x m (subst (λ (f : Forest). member f x ≡ Some m) keeps.nodes at) in
      let of_root = subst (λ z. Contains (roots old) (At z)) (base-moment m) (base_root old (moment m) (h.kept.fit.tree.seen.members x m there).occurs) in
      let (q, stands, root_is) = In-filter_map root_of old.premises (At (Begin m.root)) (In-from_Contains (roots old) (At (Begin m.root)) of_root) in
      let named = root_named q m.root root_is in
      let sound = subst (λ d. IsSound (next_list old d)) is sound_new in
      fresh old.premises (p ∷ []) (AllFollow-append [] old.premises (p ∷ []) sound.well_named).1 p (inl refl) q stands ((bytes_decides (name_of p) (name_of q)).1 (sym root ∙ sym named))

  may_add : (t : Kept) (d : Decisions) → KeepsNodes e.tree t → d.rows ≡ e.decisions.rows → d.rules ≡ e.decisions.rules → MayAdd (next_list old edit) edit (record { tree = t; decisions = d })
  may_add t d keeps rows rules = by edit refl
    where
      by : (k : Edit) → edit ≡ k → MayAdd (next_list old edit) k (record { tree = t; decisions = d })
      by (Add p) is = record {
        stands = subst (λ k. In p (next_list old k).premises) (sym is) (In-right old.premises (p ∷ []) p (inl refl));
        new = no_root p is t keeps;
        others = finds_left old edit nets.committed nets.present b e (record { tree = t; decisions = d }) p is sound_old sound_new h.kept.current h.sheds.thins is_cleared is_seen keeps.nodes rows rules;
      }
      by (Erase name) is = tt
      by (Horizon n) is = tt
      by Upgrade is = tt

  were_there : WereThere nets (name_added edit)
  were_there = points_were_there old edit nets h.kept.fit.tree.seen.network h.network h.numbers

-- ---- rows that wait for what left

-- c is e with the dates of the new network; in m besides rows wait on which what left may have
-- borne
pub record IsMarked (old s : Standing) (nets : Nets) (e c m : Beliefs) (all : Departed) : Type 0 where
  pub keeps : KeepsNodes e.tree c.tree
  pub dated : IsDatedBy nets.present (present c.tree)
  pub same_rows : c.decisions ≡ e.decisions
  pub same_tree : m.tree ≡ c.tree
  pub marks : MarksLeft old s nets.committed (present c.tree) all c.decisions m.decisions
  pub names : KeepsLast c.decisions m.decisions

pub marked_under : (s : Standing) (c m : Decisions) → m.rows ≡ c.rows → KeepsLast c m → AreUnder s c → AreUnder s m
marked_under s c m rows last under = record {
  classes = λ i row at. under_more s c.rules m.rules c.classes m.classes row last.rules last.classes (under.named i row (was i row at)) (under.classes i row (was i row at));
  named = λ i row at. named_more c.rules m.rules row.value.rule last.rules (under.named i row (was i row at));
}
  where
    was : (i : ℕ) (row : TableRow Pair 8) → (table_of m).row i ≡ Some row → (table_of c).row i ≡ Some row
    was i row at = ap (λ rs. (table_of (record c { rows = rs })).row i) (sym rows) ∙ at

module _ (old : Standing) (edit : Edit) (nets : Nets) (names : List (List ℕ)) (b e c m : Beliefs) (all : Departed) (h : IsErased old (next_list old edit) nets names b e all)
    (k : IsMarked old (next_list old edit) nets e c m all) where
  pub fit_begun : IsFit (next_list old edit) nets.present m
  fit_begun =
      let first = re_dated old edit nets names b e all h c.tree k.keeps k.dated in
      let c_is : record e { tree = c.tree } ≡ c = λ j. record { tree = c.tree; decisions = sym k.same_rows j } in
      let fit_c = subst (IsFit (next_list old edit) nets.present) c_is first in
      let marked = fit_only (next_list old edit) nets.present c fit_c m.decisions (λ i row. ReadsOneOf (table_of c.decisions) m.decisions.classes all.classes i ⊎ ReadsRivalOf (next_list old edit) (rule_in c.decisions row) all.facts) k.marks.rows
      (marked_under (next_list old edit) c.decisions m.decisions k.marks.rows k.names fit_c.under) k.marks.wakes.only in
      let m_is : record c { decisions = m.decisions } ≡ m = λ j. record { tree = sym k.same_tree j; decisions = m.decisions } in
      subst (IsFit (next_list old edit) nets.present) m_is marked

  pub may_add_begun : MayAdd (next_list old edit) edit m
  may_add_begun =
      let m_is : record c { decisions = m.decisions } ≡ m = λ j. record { tree = sym k.same_tree j; decisions = m.decisions } in
      subst (MayAdd (next_list old edit) edit) m_is (may_add old edit nets names b e all h c.tree m.decisions k.keeps
      (k.marks.rows ∙ ap (λ (d : Decisions). d.rows) k.same_rows) (k.marks.rules ∙ ap (λ (d : Decisions). d.rules) k.same_rows))

-- ---- rows that the edit touches

-- in n what the edit adds has entered, and in z besides rows wait that it touches, and all others
-- may rest
pub record IsOpened (old s : Standing) (nets : Nets) (edit : Edit) (before : ℕ) (m n z : Beliefs) : Type 0 where
  pub entered : Entered s nets.present edit m n
  pub touched : Wakes (present n.tree) (table_of n.decisions) (λ i row. IsTouchedBy edit old s nets before n row) (λ i row. IsLeftBy edit old s nets before n row) (dates_in n.decisions.waiting) (dates_in z.decisions.waiting)
  pub others : z ≡ record n { decisions = record n.decisions { waiting = z.decisions.waiting } }

-- other dates for which rows wait
abbrev waiting_with : Beliefs → List (Option ℤ) → Beliefs
waiting_with n dates = record n { decisions = record n.decisions { waiting = dates } }

module _ (n : Beliefs) (dates : List (Option ℤ)) (P R : ℕ → TableRow Pair 8 → Type 0)
    (touched : Wakes (present n.tree) (table_of n.decisions) P R (dates_in n.decisions.waiting) (dates_in dates)) where
  wait_still : (i : ℕ) → waits_in n.decisions.waiting i ≡ true → waits_in dates i ≡ true
  wait_still i waited = elim (touched.only i) [ inl same ↦ ap is_some same ∙ waited | inr marked ↦ ap is_some marked.3 ]

  wait_on : WaitOn (rows_of n) (rows_of (waiting_with n dates))
  wait_on = record {
    was = λ i q at. (
        let (row, there, is) = row_of (waiting_with n dates) i q at in (
          seen_row n i row,
          row_there n i row there,
          is ∙ ap (λ (v : Bool). record (seen_row n i row) { waits = v }) (sym (ap (λ (r : Row). r.waits) is)),
          λ waited. ap (λ (r : Row). r.waits) is ∙ wait_still i waited,
        ));
    stay = λ i o at. (
        let (row, there, is) = row_of n i o at in (
          seen_row (waiting_with n dates) i row,
          row_there (waiting_with n dates) i row there,
          ap (λ (r : Row). record r { waits = waits_in dates i }) (sym is),
        ));
  }

  -- of the rows that wait those are not marked that waited
  waited_or : (i : ℕ) (o q : Row) → rows_of n i ≡ Some o → rows_of (waiting_with n dates) i ≡ Some q → q.waits ≡ true
      → (o.waits ≡ true) ⊎ ((row : TableRow Pair 8) × ((table_of n.decisions).row i ≡ Some row) × (q ≡ seen_row (waiting_with n dates) i row) × P i row)
  waited_or i o q there at waits =
      let (row, here, is) = row_of (waiting_with n dates) i q at in
      let (other, before, is_o) = row_of n i o there in
      elim (touched.only i) [
        | inl same ↦ inl (ap (λ (r : Row). r.waits) is_o ∙ ap is_some (sym same) ∙ sym (ap (λ (r : Row). r.waits) is) ∙ waits)
        | inr (r, stands, marked, _) ↦ inr (row, here, is, subst (P i) (one_row (table_of n.decisions) i r row stands here) marked)
      ]

  -- each waits, or may rest
  waits_or : (i : ℕ) (q : Row) → rows_of (waiting_with n dates) i ≡ Some q
      → (row : TableRow Pair 8) × ((table_of n.decisions).row i ≡ Some row) × (q ≡ seen_row (waiting_with n dates) i row) × ((q.waits ≡ true) ⊎ R i row)
  waits_or i q at =
      let (row, here, is) = row_of (waiting_with n dates) i q at in
      (row, here, is, elim (touched.rests i row here) [ inl waits ↦ inl (ap (λ (r : Row). r.waits) is ∙ waits) | inr rests ↦ inr rests ])

module _ (old : Standing) (edit : Edit) (nets : Nets) (names : List (List ℕ)) (before : ℕ) (b e c m n z : Beliefs) (all : Departed) (is_before : before ≡ old.horizon)
    (h : IsErased old (next_list old edit) nets names b e all) (k : IsMarked old (next_list old edit) nets e c m all) (o : IsOpened old (next_list old edit) nets edit before m n z) where
  abbrev new : Standing
  new = next_list old edit

  abbrev f : Forest
  f = forest b.tree

  abbrev g : Forest
  g = forest n.tree

  abbrev y : Beliefs
  y = waiting_with n z.decisions.waiting

  sound_before : IsSound old
  sound_before = sound_old old edit nets names b e all h

  sound_after : IsSound (next_list old edit)
  sound_after = h.network.sound

  ready : IsReady old (next_list old edit) nets.committed nets.present (forest b.tree) (forest n.tree) (rows_of b) (rows_of n)
  ready = begun_ready old edit nets.committed nets.present b e c m o.entered.mid n all (record {
    fit_before = h.kept.fit;
    current = h.kept.current;
    sheds = h.sheds;
    cleared = is_cleared old edit nets names b e all h;
    same_nodes = λ x. ap (λ (t : Forest). member t x) k.keeps.nodes;
    same_rows = k.same_rows;
    same_tree = k.same_tree;
    marks = k.marks;
    fit = fit_begun old edit nets names b e c m all h k;
    enters = o.entered.enters;
    fit_root = o.entered.fit_mid;
    fit_after = o.entered.fit;
    names_root = o.entered.names_mid;
    names_after = o.entered.names;
  })

  on : WaitOn (rows_of n) (rows_of (waiting_with n z.decisions.waiting))
  on = wait_on n z.decisions.waiting (λ i row. IsTouchedBy edit old (next_list old edit) nets before n row) (λ i row. IsLeftBy edit old (next_list old edit) nets before n row) o.touched

  -- what may rest, by a rule and the node of an event: the same facts contradict what the rule
  -- reads, and points that moved let it rest
  abbrev MayRestAt : List ℕ → ℕ → Type 0
  MayRestAt r x = ReadsAlike old (next_list old edit) r × RestsAt nets (name_added edit) old (next_list old edit) (forest n.tree) r x

  prepared_moved : ((row : TableRow Pair 8) → IsTouchedBy edit old (next_list old edit) nets before n row ≡ IsChanged (name_added edit) old (next_list old edit) nets n row)
      → ((row : TableRow Pair 8) → IsLeftBy edit old (next_list old edit) nets before n row ≡ IsUnchanged (name_added edit) old (next_list old edit) nets n row)
      → old.horizon ≡ (next_list old edit).horizon
      → IsPrepared old (next_list old edit) nets.present (forest b.tree) (forest n.tree) (rows_of b) (rows_of (waiting_with n z.decisions.waiting))
  prepared_moved by_move by_rest same =
      prepared_on old edit nets.committed nets.present f g (rows_of b) (rows_of n) (rows_of y) sound_before sound_after h.kept.current ready on
      (λ l holds seeds. moved_marked old edit nets.committed nets.present f g (rows_of b) (rows_of n) (rows_of y) sound_before sound_after h.kept.current ready on
      (is_moved nets (name_added edit)) MayRestAt same
      (λ r x was is rest. alike_stay old edit sound_before sound_after (moment_at g x) r was is rest.0)
      apart keeps keeps_among all_wait only_wait l holds seeds)
    where
      apart : (l : List Moment) (r : List ℕ) (x : ℕ) → HasOccurrences l g → IsLive g x → Contains (built old).believed (moment_at g x)
          → ((u : Moment) → Contains l u → watches (next_list old edit) r u ≡ true → Contains (built old).believed u)
          → SameGaps old (next_list old edit) l (moment_at g x) r → MovesAt (is_moved nets (name_added edit)) (next_list old edit) g r x → ⊥
      apart l r x holds live was entered = (moved_rows_are_touched old edit nets g l r x h.kept.fit.tree.seen.network ready.seen h.numbers holds live was entered).0

      keeps : (l : List Moment) (r : List ℕ) (x : ℕ) → HasOccurrences l g → IsLive g x → Contains (built old).believed (moment_at g x)
          → Contains (rules_at old (moment_at g x)) r → Contains (rules_at (next_list old edit) (moment_at g x)) r
          → ((u : Moment) → Contains (built old).believed u → watches old r u ≡ true → Contains l u)
          → ((u : Moment) → Contains l u → watches (next_list old edit) r u ≡ true → Contains (built old).believed u)
          → MayRestAt r x
          → SameGaps old (next_list old edit) l (moment_at g x) r
          ⊎ (outcome old (far_in old.premises) (built old).believed (moment_at g x) r ≡ outcome (next_list old edit) (far_in (next_list old edit).premises) l (moment_at g x) r)
      keeps l r x holds live was stood stands left entered (_, inl unmoved) =
          inl ((moved_rows_are_touched old edit nets g l r x h.kept.fit.tree.seen.network ready.seen h.numbers holds live was entered).1 unmoved)
      keeps l r x holds live was stood stands left entered (_, inr (plain, loose, cover, rest)) =
          inr (resting_rows_keep old edit nets loose g l r x h.kept.fit.tree.seen.network ready.seen h.numbers cover holds live was stood stands same
          (plain_before old edit sound_before sound_after (moment_at g x) r stood stands plain) left entered rest)

      keeps_among : (c l : List Moment) (r : List ℕ) (x : ℕ) → AllOccur old c → HasOccurrences l g → IsLive g x → Contains c (moment_at g x)
          → Contains (rules_at old (moment_at g x)) r → Contains (rules_at (next_list old edit) (moment_at g x)) r
          → ((u : Moment) → Contains c u → watches old r u ≡ true → Contains l u)
          → ((u : Moment) → Contains l u → watches (next_list old edit) r u ≡ true → Contains c u)
          → SayNone old (next_list old edit) → MayRestAt r x
          → outcome old (far_in old.premises) c (moment_at g x) r ≡ outcome (next_list old edit) (far_in (next_list old edit).premises) l (moment_at g x) r
      keeps_among c l r x occur holds live was stood stands left entered none (_, inl unmoved) =
          resting_among old edit nets is_no_start g c l r x h.kept.fit.tree.seen.network ready.seen h.numbers (all_loose nets (name_added edit)) occur holds live was stood stands same
          (reads_none old r (λ f1 on f2. (none f1 f2).0)) left entered (unmoved_rests old edit nets g r x (reads_none (next_list old edit) r (λ f1 on f2. (none f1 f2).1)) unmoved)
      keeps_among c l r x occur holds live was stood stands left entered none (_, inr (plain, loose, cover, rest)) =
          resting_among old edit nets loose g c l r x h.kept.fit.tree.seen.network ready.seen h.numbers cover occur holds live was stood stands same
          (reads_none old r (λ f1 on f2. (none f1 f2).0)) left entered rest

      all_wait : (i : ℕ) (q : Row) → rows_of y i ≡ Some q → (q.waits ≡ true) ⊎ MayRestAt q.rule q.trigger
      all_wait i q at =
          let (row, here, is, waits) = waits_or n z.decisions.waiting (λ j r. IsTouchedBy edit old (next_list old edit) nets before n r) (λ j r. IsLeftBy edit old (next_list old edit) nets before n r) o.touched i q at in
          elim waits [
            | inl waiting ↦ inl waiting
            | inr left ↦ inr (subst (λ (r : Row). MayRestAt r.rule r.trigger) (sym is) (subst (λ T. T) (by_rest row) left))
          ]

      only_wait : (i : ℕ) (p q : Row) → rows_of n i ≡ Some p → rows_of y i ≡ Some q → q.waits ≡ true
          → (p.waits ≡ true) ⊎ (MovesAt (is_moved nets (name_added edit)) (next_list old edit) g q.rule q.trigger
          ⊎ (Contains (rules_at old (moment_at g q.trigger)) q.rule → Contains (rules_at (next_list old edit) (moment_at g q.trigger)) q.rule → RivalsStay old (next_list old edit) q.rule → ⊥))
      only_wait i p q there at waits = elim (waited_or n z.decisions.waiting (λ j r. IsTouchedBy edit old (next_list old edit) nets before n r) (λ j r. IsLeftBy edit old (next_list old edit) nets before n r) o.touched i p q there at waits) [
        | inl waited ↦ inl waited
        | inr (row, here, is, marked) ↦ inr (why q row is (subst (λ T. T) (by_move row) marked))
      ]
        where
          why : (q : Row) (row : TableRow Pair 8) → q ≡ seen_row y i row → IsChanged (name_added edit) old (next_list old edit) nets n row
              → MovesAt (is_moved nets (name_added edit)) (next_list old edit) g q.rule q.trigger
              ⊎ (Contains (rules_at old (moment_at g q.trigger)) q.rule → Contains (rules_at (next_list old edit) (moment_at g q.trigger)) q.rule → RivalsStay old (next_list old edit) q.rule → ⊥)
          why q row is (inr moved) = inl (subst (λ (r : Row). MovesAt (is_moved nets (name_added edit)) (next_list old edit) g r.rule r.trigger) (sym is) moved)
          why q row is (inl unlike) = inr (λ was stands.
              unlike_changes old edit sound_before sound_after (moment_at g q.trigger) q.rule was stands (subst (λ (r : Row). ReadsUnlike old (next_list old edit) r.rule) (sym is) unlike))

module _ (old : Standing) (k : ℕ) (nets : Nets) (names : List (List ℕ)) (before : ℕ) (b e c m n z : Beliefs) (all : Departed) (is_before : before ≡ old.horizon)
    (h : IsErased old (next_list old (Horizon k)) nets names b e all) (mk : IsMarked old (next_list old (Horizon k)) nets e c m all)
    (o : IsOpened old (next_list old (Horizon k)) nets (Horizon k) before m n z) where
  abbrev until : Standing
  until = next_list old (Horizon k)

  abbrev v : Beliefs
  v = waiting_with n z.decisions.waiting

  ready_until : IsReady old (next_list old (Horizon k)) nets.committed nets.present (forest b.tree) (forest n.tree) (rows_of b) (rows_of n)
  ready_until = ready old (Horizon k) nets names before b e c m n z all is_before h mk o

  on_until : WaitOn (rows_of n) (rows_of (waiting_with n z.decisions.waiting))
  on_until = on old (Horizon k) nets names before b e c m n z all is_before h mk o

  -- when a row's effect is due
  abbrev is_in_time : Row → ℕ → Bool
  is_in_time q limit = int_le (due old (far_in old.premises) (moment_at (forest n.tree) q.trigger) q.rule) (pos limit)

  abbrev between : TableRow Pair 8 → Bool
  between row = is_between (early (present n.tree) row.value.trigger +ℤ (rule_of until (rule_in n.decisions row)).lo) before k

  due_changes : (row : TableRow Pair 8) → IsLive (forest n.tree) row.value.trigger
      → (between row ≡ false → is_in_time (seen_row v 0 row) before ≡ is_in_time (seen_row v 0 row) k) × (between row ≡ true → is_in_time (seen_row v 0 row) before ≢ is_in_time (seen_row v 0 row) k)
  due_changes row live = due_rows_change until nets.present n.tree row.value.trigger (rule_in n.decisions row) before k o.entered.fit.tree live

  all_due : (i : ℕ) (q : Row) → rows_of v i ≡ Some q → q.waits ≡ false → is_in_time q old.horizon ≡ is_in_time q k
  all_due i q at rests =
      let (row, here, is, waits) = waits_or n z.decisions.waiting (λ j r. IsTouchedBy (Horizon k) old until nets before n r) (λ j r. IsLeftBy (Horizon k) old until nets before n r) o.touched i q at in
      let same = (due_changes row (o.entered.fit.events i row here)).0 (elim waits [ inl waiting ↦ true_false (sym waiting ∙ rests) | inr left ↦ not_between row left (between row) refl ]) in
      subst (λ d. is_in_time q d ≡ is_in_time q k) is_before (subst (λ (r : Row). is_in_time r before ≡ is_in_time r k) (sym is) same)
    where
      not_between : (row : TableRow Pair 8) → (between row ≡ true → ⊥) → (t : Bool) → between row ≡ t → between row ≡ false
      not_between row left false is = is
      not_between row left true is = absurd (left is)

  only_due : (i : ℕ) (p q : Row) → rows_of n i ≡ Some p → rows_of v i ≡ Some q → q.waits ≡ true → (p.waits ≡ true) ⊎ (old.horizon ≢ k)
  only_due i p q there at waits = elim (waited_or n z.decisions.waiting (λ j r. IsTouchedBy (Horizon k) old until nets before n r) (λ j r. IsLeftBy (Horizon k) old until nets before n r) o.touched i p q there at waits) [
    | inl waited ↦ inl waited
    | inr (row, here, is, marked) ↦ inr (λ same.
        (due_changes row (o.entered.fit.events i row here)).1 marked (ap (λ d. is_in_time (seen_row v 0 row) d) (is_before ∙ same)))
  ]

  prepared_until : IsPrepared old (next_list old (Horizon k)) nets.present (forest b.tree) (forest n.tree) (rows_of b) (rows_of (waiting_with n z.decisions.waiting))
  prepared_until =
      let sound_b = sound_old old (Horizon k) nets names b e all h in
      prepared_on old (Horizon k) nets.committed nets.present (forest b.tree) (forest n.tree) (rows_of b) (rows_of n) (rows_of v) sound_b h.network.sound h.kept.current ready_until on_until
      (λ l holds seeds. due_marked old k nets.committed nets.present (forest b.tree) (forest n.tree) (rows_of b) (rows_of n) (rows_of v) sound_b h.network.sound h.kept.current ready_until on_until
      all_due only_due l holds seeds)

-- ---- so opened, nodes and rows stand for the revision

opened_prepared : (old : Standing) (edit : Edit) (nets : Nets) (names : List (List ℕ)) (before : ℕ) (b e c m n z : Beliefs) (all : Departed) → before ≡ old.horizon
    → IsErased old (next_list old edit) nets names b e all → IsMarked old (next_list old edit) nets e c m all → IsOpened old (next_list old edit) nets edit before m n z
    → IsPrepared old (next_list old edit) nets.present (forest b.tree) (forest n.tree) (rows_of b) (rows_of (waiting_with n z.decisions.waiting))
opened_prepared old (Add p) nets names before b e c m n z all is_before h k o = prepared_moved old (Add p) nets names before b e c m n z all is_before h k o (λ row. refl) (λ row. refl) refl
opened_prepared old (Erase x) nets names before b e c m n z all is_before h k o = prepared_moved old (Erase x) nets names before b e c m n z all is_before h k o (λ row. refl) (λ row. refl) refl
opened_prepared old Upgrade nets names before b e c m n z all is_before h k o = prepared_moved old Upgrade nets names before b e c m n z all is_before h k o (λ row. refl) (λ row. refl) refl
opened_prepared old (Horizon d) nets names before b e c m n z all is_before h k o = prepared_until old d nets names before b e c m n z all is_before h k o

module _ (old : Standing) (edit : Edit) (nets : Nets) (names : List (List ℕ)) (before : ℕ) (b e c m n z : Beliefs) (all : Departed) (is_before : before ≡ old.horizon)
    (h : IsErased old (next_list old edit) nets names b e all) (k : IsMarked old (next_list old edit) nets e c m all) (o : IsOpened old (next_list old edit) nets edit before m n z) where
  abbrev w : Beliefs
  w = waiting_with n z.decisions.waiting

  prepared : IsPrepared old (next_list old edit) nets.present (forest b.tree) (forest n.tree) (rows_of b) (rows_of (waiting_with n z.decisions.waiting))
  prepared = opened_prepared old edit nets names before b e c m n z all is_before h k o

  pub fit_opened : IsFit (next_list old edit) nets.present z
  fit_opened = subst (IsFit (next_list old edit) nets.present) (sym o.others)
      (fit_only (next_list old edit) nets.present n o.entered.fit w.decisions (λ i row. IsTouchedBy edit old (next_list old edit) nets before n row) refl
      (record { classes = o.entered.fit.under.classes; named = o.entered.fit.under.named }) o.touched.only)

  pub opened_begins : (told : Told) → entered_in told ≡ [] → told.left.items ≡ all.left.items → Begins old edit nets.present z told
  opened_begins told none left = subst (λ (x : Beliefs). Begins old edit nets.present x told) (sym o.others) (record {
    underway = record {
      sound = sound_old old edit nets names b e all h;
      sound_after = h.network.sound;
      netted = prepared_netted old edit nets.committed nets.present (forest b.tree) (forest n.tree) (rows_of b) (rows_of w) (sound_old old edit nets names b e all h) h.network.sound h.kept.current prepared;
    };
    tells = subst (λ l. IsToldOf old (next_list old edit) (forest n.tree) l (outs told)) (sym (ap last_first none))
        (prepared_told old edit nets.committed nets.present (forest b.tree) (forest n.tree) (rows_of b) (rows_of w) (outs told) (sound_old old edit nets names b e all h) h.network.sound h.kept.current prepared
        (left_first old (next_list old edit) told all.left.items left (left_told old edit nets names b e all h)));
  })

-- ---- as list, network and edit tell it

-- names that are left out are no more in the list
none_of : (old s : Standing) (names : List (List ℕ)) → IsLeftOut old s names → (name : List ℕ) → In name names → premise_in s.premises name ≡ None
none_of old s names is name at =
    by (premise_in s.premises name) (In-filter (λ (n : List ℕ). is_none (premise_in s.premises n)) (map name_of old.premises) name (subst (In name) is at)).1
  where
    by : (o : Option Premise) → is_none o ≡ true → o ≡ None
    by None e = refl
    by (Some p) e = cc

module _ (lists : States) (nets : Nets) (edit : Edit) (names : List (List ℕ)) (b e : Beliefs) (all : Departed) (kept : IsKept lists.committed nets.committed b) (pending : IsPending lists nets edit names)
    (sheds : ShedsAll b e all) (spares : (s : Standing) → ((name : List ℕ) → In name names → premise_in s.premises name ≡ None) → Spares s b e) (free : (name : List ℕ) → In name names → IsFreeOf e name) where
  abbrev before_edit : Standing
  before_edit = lists.committed

  erased_next : IsErased lists.committed (next_list lists.committed edit) nets names b e all
  erased_next = subst (λ l. IsErased lists.committed l nets names b e all) pending.list (record {
    kept = kept;
    network = pending.network;
    numbers = pending.numbers;
    left_out = pending.left_out;
    sheds = sheds;
    spares = spares lists.present (none_of lists.committed lists.present names pending.left_out);
    free = free;
  })

  pub list_after : HasList nets.present (forest e.tree)
  list_after = (next_list before_edit edit, is_seen before_edit edit nets names b e all erased_next)

  pub dates_before : AreDatedBefore nets e.tree
  dates_before = dated_before before_edit edit nets names b e all erased_next

  pub events_after : (t : Kept) → KeepsNodes e.tree t → HaveEvents t (table_of e.decisions)
  events_after t keeps i row at = subst (λ (f : Forest). IsLive f row.value.trigger) (sym keeps.nodes) (sheds.thins.events i row at)

  pub under_after : AreOfSome e.decisions
  under_after = (next_list before_edit edit, (is_cleared before_edit edit nets names b e all erased_next).under)

  -- the nodes that are left begin at points that were there
  pub begin_before : (t : Kept) → KeepsNodes e.tree t → BeginIn nets.committed (forest t)
  begin_before t keeps x m at =
      let there = sheds.thins.nodes x m (subst (λ (f : Forest). member f x ≡ Some m) keeps.nodes at) in
      begin_in_use nets.committed (forest b.tree) (lists.committed, kept.fit.tree.seen) x m there

  -- so do the tokens that left
  pub tokens_before : All (λ (gone : Gone). IsInUse nets.committed.names gone.place.base) all.tokens.items
  tokens_before k d less = elim (sheds.tokens.own (get_or all.tokens.items k d) (in_at all.tokens.items k d less)) [
    | inl none ↦ absurd none
    | inr (x, m, left, is) ↦ subst (IsInUse nets.committed.names) (gone_base m (get_or all.tokens.items k d) is) (begin_in_use nets.committed (forest b.tree) (lists.committed, kept.fit.tree.seen) x m left.was)
  ]

  -- and their classes are noted
  pub classes_noted : All (λ (gone : Gone). In gone.class all.classes) all.tokens.items
  classes_noted k d less = elim (sheds.tokens.own (get_or all.tokens.items k d) (in_at all.tokens.items k d less)) [
    | inl none ↦ absurd none
    | inr (x, m, left, is) ↦ sheds.notes.all x m (get_or all.tokens.items k d).class left (gone_class m (get_or all.tokens.items k d) is)
  ]

  pub points_there : WereThere nets (name_added edit)
  points_there = were_there before_edit edit nets names b e all erased_next

  module _ (c m : Beliefs) (marked : IsMarked lists.committed lists.present nets e c m all) where
    k : IsMarked lists.committed (next_list lists.committed edit) nets e c m all
    k = subst (λ l. IsMarked lists.committed l nets e c m all) pending.list marked

    pub marked_fit : IsFit lists.present nets.present m
    marked_fit = subst (λ l. IsFit l nets.present m) (sym pending.list) (fit_begun before_edit edit nets names b e c m all erased_next k)

    pub marked_may_add : MayAdd lists.present edit m
    marked_may_add = subst (λ l. MayAdd l edit m) (sym pending.list) (may_add_begun before_edit edit nets names b e c m all erased_next k)

    module _ (before : ℕ) (n z : Beliefs) (is_before : before ≡ lists.committed.horizon) (o : IsOpened lists.committed lists.present nets edit before m n z) where
      opened_next : IsOpened lists.committed (next_list lists.committed edit) nets edit before m n z
      opened_next = subst (λ l. IsOpened lists.committed l nets edit before m n z) pending.list o

      pub opened_fit : IsFit lists.present nets.present z
      opened_fit = subst (λ l. IsFit l nets.present z) (sym pending.list) (fit_opened before_edit edit nets names before b e c m n z all is_before erased_next k opened_next)

      pub opened_stands : (told : Told) → entered_in told ≡ [] → told.left.items ≡ all.left.items → Begins lists.committed edit nets.present z told
      opened_stands = opened_begins before_edit edit nets names before b e c m n z all is_before erased_next k opened_next

      -- from the last commit on nodes have kept their numbers
      pub opened_numbered : (told : Told) → told.left.items ≡ all.left.items → KeepLast b e → committed n.tree ≡ committed m.tree → AreNumbered lists.present z.tree (left_under told.left.items)
      opened_numbered told left first last =
          let erased = numbered_erased lists.present b e all kept.tree first.tree kept.fit.tree.seen.once sheds (spares lists.present (none_of lists.committed lists.present names pending.left_out)) in
          let dated = numbered_on lists.present (left_under all.left.items) e.tree c.tree k.keeps.committed_is (λ x was. ap (λ (f : Forest). member f x) k.keeps.nodes) erased in
          let marked = subst (λ (t : Kept). AreNumbered lists.present t (left_under all.left.items)) (sym k.same_tree) dated in
          let added = numbered_added lists.present (left_under all.left.items) nets.present (added_by edit) m o.entered.mid n o.entered.enters last marked in
          subst (λ l. AreNumbered lists.present z.tree (left_under l)) (sym left)
          (subst (λ (x : Beliefs). AreNumbered lists.present x.tree (left_under all.left.items)) (sym o.others) added)

-- what a rollback leads back to stays from step to step
pub opened_last : (b e m n z : Beliefs) → KeepLast b e → committed m.tree ≡ committed e.tree → KeepsLast e.decisions m.decisions → KeepLast m n
    → z ≡ record n { decisions = record n.decisions { waiting = z.decisions.waiting } } → KeepLast b z
opened_last b e m n z first tree rows added others =
    let kept = last_on b.decisions m.decisions n.decisions (last_on b.decisions e.decisions m.decisions first.decisions rows) added.decisions in
    subst (KeepLast b) (sym others) (record {
      tree = added.tree ∙ tree ∙ first.tree;
      decisions = record { rows = kept.rows; rules = kept.rules; classes = kept.classes };
    })
