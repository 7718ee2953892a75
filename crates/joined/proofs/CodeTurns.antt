-- The three kinds of turns.
use Rattle.std.proofs.Common.{◌≡◌, ◌∙◌, ℕ, true, false, List, [], ◌∷◌, ◌++◌, refl, sym, ap, subst, inl, inr, arith}
use Rattle.std.proofs.lemmas.Bool.Decides.{eqb_tells}
use Rattle.std.proofs.lemmas.Int.{ints}
use Rattle.std.proofs.lemmas.List.Elements.{Contains-append_left, Contains-append_cases}
use Rattle.std.specs.Prelude.{◌⊎◌, Some, None, ℤ, ◌≤ℤ◌, ◌<ℤ◌}
use Rattle.std.specs.List.{Contains}
use Rattle.tmm_model.specs.declared.premise.Edit.{Edit}
use Rattle.tmm_model.specs.Edits.{next_list}
use Rattle.tmm_model.specs.Maps.{built}
use Rattle.tmm_model.specs.Moments.{Moment, After}
use Rattle.list_theory.specs.WellNamed.{IsSound}
use Rattle.tmm_model.specs.Standing.{Standing}
use Rattle.list_theory.proofs.Elements.{In, In-from_Contains, Contains-from_In, In-right}
use Rattle.dist_net.specs.Net.{Net}
use Rattle.spots.specs.Forest.{Forest, Member, member, moment, moment_at, IsLive, Withdraws}
use Rattle.spots.specs.OfLists.{IsForestOf, HasOccurrences}
use Rattle.spots.proofs.Nodes.{node_at, live_at, moment_at-is}
use Rattle.spots.specs.Growing.{Adds}
use Rattle.spots.proofs.Grown.{adds_seen, adds_holds, held_apart, node_kept}
use Rattle.decision_rows.specs.declared.row.Decision.{Decision}
use Rattle.revisions.specs.Maps.{revision}
use Rattle.revisions.specs.Revisions.{Revision, is_firing}
use Rattle.revisions.specs.Steps.{IsUnder}
use Rattle.revisions.proofs.Agreeing.{live_of}
use Rattle.revisions.proofs.Turning.{under_late}
use Rattle.joined.specs.Netted.{IsNetted}
use Rattle.joined.specs.Nodes.{Leaves}
use Rattle.joined.specs.Rows.{Row, Rows, fires_by, IsWaiting}
use Rattle.joined.specs.Turning.{TreeTurns, stays, enters, withdraws, Moved, came, went, IsCodeTurn, ComesFrom, decided, kept, new}
use Rattle.joined.proofs.CodeTurning.{laws, first, w, later_effect, fires_now, fires_was, kept_new, IsTurned, turned_to}
use Rattle.joined.proofs.Leaving.{leaves, stood, below_under}

module _ (old : Standing) (edit : Edit) (net : Net) (f g : Forest) (rows after : Rows) (taken : List (Moment × List ℕ)) (x : ℕ) (p : Row) (found : Decision)
    (sound_old : IsSound old) (sound_new : IsSound (next_list old edit)) (n : IsNetted old (next_list old edit) net f rows taken)
    (turn : IsCodeTurn (revision (built old) (built (next_list old edit))) (next_list old edit) net.names f g rows after x p found) where
  abbrev R : Revision
  R = revision (built old) (built (next_list old edit))

  abbrev t : Moment
  t = moment_at f p.trigger

  abbrev effect : Moment
  effect = After (moment_at f p.trigger) p.rule

  abbrev Turned : Type 0
  Turned = IsTurned old edit net f g rows after taken x p found sound_old sound_new n turn

  late_effect : R.early t <ℤ R.early effect
  late_effect = later_effect old edit net f g rows after taken x p found sound_old sound_new n turn

  pub fires : fires_by found ≡ is_firing ((revision (built old) (built (next_list old edit))).outcome n.nodes (moment_at f p.trigger) p.rule)
  fires = fires_now old edit net f g rows after taken x p found sound_old sound_new n turn

  pub fired : fires_by p.found ≡ is_firing (n.kept (moment_at f p.trigger) p.rule)
  fired = fires_was old edit net f g rows after taken x p found sound_old sound_new n turn

  not_true : {P : Type 0} → false ≡ true → P
  not_true e = cc

  not_both_ways : {P : Type 0} → fires_by found ≡ true → fires_by found ≡ false → P
  not_both_ways now not_now = not_true (sym not_now ∙ now)

  staying : fires_by found ≡ fires_by p.found → g ≡ f → Turned
  staying alike same =
      turned_to old edit net f g rows after taken x p found sound_old sound_new n turn false n.nodes
      (subst (HasOccurrences n.nodes) (sym same) n.holds) (subst (IsForestOf (next_list old edit) net) (sym same) n.seen)
      (λ y m at _. subst (λ (z : Forest). member z y ≡ Some m) (sym same) at) (λ y m at. inl (subst (λ (z : Forest). member z y ≡ Some m) same at))
      (λ e _. not_true e) (λ y at. absurd (none y at)) (λ e. not_true e)
      (inl (record { same = refl; alike = sym fires ∙ alike ∙ fired }, none))
    where
      none : (y : Moment) → Moved f p found y → ⊥
      none y (came now before is) = not_true (sym before ∙ sym alike ∙ now)
      none y (went now before z m at is under) = not_true (sym now ∙ alike ∙ before)

  module _ (yes_now : fires_by found ≡ true) (not_before : fires_by p.found ≡ false) (y : ℕ) (adds : Adds (next_list old edit) net.names f g y effect) where
    absent : Contains n.nodes effect → ⊥
    absent at =
        let waits = w old edit net f g rows after taken x p found sound_old sound_new n turn in
        let e : is_firing (n.kept t p.rule) ≡ true = (n.keeping.fires t p.rule waits.live waits.stands).0 at in
        let h : true ≡ false = sym e ∙ sym fired ∙ not_before in
        cc

    not_in : In effect n.nodes → ⊥
    not_in at = absent (Contains-from_In n.nodes effect at)

    back : (z : ℕ) (m : Member) → member g z ≡ Some m → (member f z ≡ Some m) ⊎ ((moment m ≡ effect) × (true ≡ true) × (member f z ≡ None))
    back z m at = elim (eqb_tells z y) [
      | inl same ↦ (
          let here : member g y ≡ Some m = ap (member g) (sym same.1) ∙ at in
          let both : Some adds.node ≡ Some m = sym adds.enters.entered ∙ here in
          let one : adds.node ≡ m = cc in
          inr (ap moment (sym one) ∙ adds.is, refl, ap (member f) same.1 ∙ adds.enters.free))
      | inr other ↦ inl (sym (adds.enters.others z other.1) ∙ at)
    ]

    dead : IsLive f y → ⊥
    dead live = let (m, at) = node_at f y live in let e : None ≡ Some m = sym adds.enters.free ∙ at in cc

    waits_new : (q : List ℕ) → Contains (R.rules effect) q → IsWaiting g after effect q
    waits_new q stands =
        let is = moment_at-is g y adds.node adds.enters.entered ∙ adds.is in
        let (j, row, here, trigger, rule) = turn.entered.all y q (live_at g y adds.node adds.enters.entered) dead (subst (λ z. Contains (R.rules z) q) (sym is) stands) in
        (j, row, here, by j row trigger (turn.own j row here), ap (moment_at g) trigger ∙ is, rule)
      where
        by : (j : ℕ) (row : Row) → row.trigger ≡ y → ComesFrom R f g rows x p found j row → row.waits ≡ true
        by j row trigger (decided number is) = absurd (dead (subst (IsLive f) (sym (ap (λ (z : Row). z.trigger) is) ∙ trigger) (n.rows_are.own x p turn.first.row).0))
        by j row trigger (kept o other at is marks) = absurd (dead (subst (IsLive f) (sym (ap (λ (z : Row). z.trigger) is) ∙ trigger) (n.rows_are.own j o at).0))
        by j row trigger (new free not_live blank waits) = waits

    from : (z : Moment) → Contains (n.nodes ++ effect ∷ []) z → Contains n.nodes z ⊎ (z ≡ effect)
    from z at = elim (Contains-append_cases n.nodes (effect ∷ []) z at) [
      | inl before ↦ inl before
      | inr is ↦ elim (In-from_Contains (effect ∷ []) z is) [ inl same ↦ inr (sym same) | inr never ↦ absurd never ]
    ]

    alone : (z : Moment) → Moved f p found z → z ≡ effect
    alone z (came now before is) = is
    alone z (went now before k m at is under) = not_both_ways yes_now now

    there : Moved f p found effect
    there = came yes_now not_before refl

    entering : Turned
    entering =
        turned_to old edit net f g rows after taken x p found sound_old sound_new n turn true (n.nodes ++ effect ∷ [])
        (adds_holds (next_list old edit) net f g y effect adds n.nodes n.holds not_in)
        (adds_seen (next_list old edit) net f g y effect adds (held_apart (next_list old edit) net f g y effect adds n.nodes n.holds not_in) n.seen)
        (λ z m at _. node_kept (next_list old edit) net f g y effect adds z m at) back
        (λ _ at. absent at) (λ z at. subst (λ k. R.early t <ℤ R.early k) (sym (alone z at)) late_effect) (λ _. there)
        (inr (inl (
          record {
            fires_now = sym fires ∙ yes_now;
            fired_not = sym fired ∙ not_before;
            into = λ z at. Contains-append_left n.nodes (effect ∷ []) z at;
            entered = Contains-from_In (n.nodes ++ effect ∷ []) effect (In-right n.nodes (effect ∷ []) effect (inl refl));
            from = from;
            waits = waits_new;
            blank = λ q _. kept_new old edit net f g rows after taken x p found sound_old sound_new n turn true q refl;
          },
          alone,
          there,
        )))

  module _ (not_now : fires_by found ≡ false) (yes_before : fires_by p.found ≡ true) (m : Member) (is : moment m ≡ effect) (gone : Withdraws f g m) where
    left : Leaves (next_list old edit) net n.nodes g m
    left = leaves (next_list old edit) net n.nodes f g m n.seen n.holds gone

    as_effect : (y : Moment) → IsUnder (moment m) y → IsUnder effect y
    as_effect y h = subst (λ z. IsUnder z y) is h

    as_member : (y : Moment) → IsUnder effect y → IsUnder (moment m) y
    as_member y h = subst (λ z. IsUnder z y) (sym is) h

    -- what moves is a node that stands below
    those : (y : Moment) → Moved f p found y → Contains n.nodes y × IsUnder effect y
    those y (came now before same) = not_both_ways now not_now
    those y (went now before z o there same under) = (subst (Contains n.nodes) same (n.holds.own z o there), under)

    all : (y : Moment) → Contains n.nodes y → IsUnder effect y → Moved f p found y
    all y there under = let (z, o, here, same) = n.holds.all y there in went not_now yes_before z o here same under

    withdrawing : Turned
    withdrawing =
        turned_to old edit net f g rows after taken x p found sound_old sound_new n turn false left.nodes left.holds left.seen
        (λ y o there in_c. gone.others y o there (λ below. (left.out (moment o) in_c).1 (below_under m o below)))
        (λ y o there. inl (stood (next_list old edit) net n.nodes f g m n.seen n.holds gone y o there).0)
        (λ e _. not_true e) late (λ e. not_true e)
        (inr (inr (
          record {
            fires_not = sym fires ∙ not_now;
            fired = sym fired ∙ yes_before;
            out = λ y there. (let h = left.out y there in (h.0, λ under. h.1 (as_member y under)));
            rest = λ y there. elim (left.rest y there) [ inl remains ↦ inl remains | inr under ↦ inr (as_effect y under) ];
          },
          those,
          all,
        )))
      where
        late : (y : Moment) → Moved f p found y → R.early t <ℤ R.early y
        late y mv =
            let h = those y mv in
            let lawful = laws old edit net f g rows after taken x p found sound_old sound_new n turn in
            let of_y = live_of R lawful n.nodes n.kept (IsWaiting f rows) taken n.date n.keeping y h.0 in
            up (R.early effect) (R.early y) late_effect
            (under_late R lawful n.nodes n.kept (IsWaiting f rows) taken n.date n.keeping t p.rule (first old edit net f g rows after taken x p found sound_old sound_new n turn) y of_y h.1)
          where
            up : (a b : ℤ) → R.early t <ℤ a → a ≤ℤ b → R.early t <ℤ b
            up a b l h = omega (arith, ints)

  turned_by : TreeTurns (next_list old edit) net.names f g p found → Turned
  turned_by (stays alike same) = staying alike same
  turned_by (enters yes_now not_before y adds) = entering yes_now not_before y adds
  turned_by (withdraws not_now yes_before m is gone) = withdrawing not_now yes_before m is gone

  pub code_turns : IsTurned old edit net f g rows after taken x p found sound_old sound_new n turn
  code_turns = turned_by turn.tree

  -- **A turn keeps what nodes and rows say of the revision.**
  pub code_turned : IsNetted old (next_list old edit) net g after ((moment_at f p.trigger, p.rule) ∷ taken)
  code_turned = code_turns.netted
