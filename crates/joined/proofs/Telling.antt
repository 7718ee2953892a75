-- What is told of the occurrences that enter and leave.
use Rattle.std.proofs.Common.{◌≡◌, ◌∙◌, ℕ, ◌≤◌, List, [], ◌∷◌, ◌++◌, sym, subst, inl, inr}
use Rattle.std.specs.Prelude.{sum_by}
use Rattle.std.specs.List.{Contains}
use Rattle.tmm_model.specs.declared.premise.Edit.{Edit}
use Rattle.tmm_model.specs.Answers.{weight, size}
use Rattle.tmm_model.specs.Edits.{next_list}
use Rattle.tmm_model.specs.Maps.{built}
use Rattle.tmm_model.specs.Moments.{Moment, After}
use Rattle.tmm_model.specs.Standing.{Standing}
use Rattle.list_theory.specs.WellNamed.{IsSound}
use Rattle.list_theory.proofs.Distinct.{sum_inside}
use Rattle.list_theory.proofs.Elements.{In-from_Contains}
use Rattle.dist_net.specs.Net.{Net}
use Rattle.spots.specs.Forest.{Forest, moment_at}
use Rattle.spots.specs.OfLists.{HasOccurrences}
use Rattle.decision_rows.specs.declared.row.Decision.{Decision}
use Rattle.belief_theory.specs.Outcomes.{Outcome}
use Rattle.revisions.specs.Keeping.{IsTold, IsLeast}
use Rattle.revisions.specs.Maps.{revision}
use Rattle.revisions.specs.Revisions.{Revision, is_firing}
use Rattle.revisions.specs.Steps.{Goes, Turns, staying, entering, withdrawing}
use Rattle.revisions.proofs.Lawful.{lawful}
use Rattle.revisions.proofs.Telling.{told_stays, told_enters, told_withdraws, told_all}
use Rattle.revisions.proofs.Whole.{told_first}
use Rattle.joined.specs.Netted.{IsNetted, IsCurrent}
use Rattle.joined.specs.Rows.{Row, Rows, fires_by, IsWaiting, NoneWaits}
use Rattle.joined.specs.Starting.{IsPrepared}
use Rattle.joined.specs.Telling.{IsToldOf, LeaveFirst, TellsMore, nothing, an_entry, leaving, TellsAll}
use Rattle.joined.specs.Turning.{effect_of, IsCodeTurn}
use Rattle.joined.proofs.Deciding.{true_false}
use Rattle.joined.proofs.CodeTurning.{first}
use Rattle.joined.proofs.CodeTurns.{code_turns, fires, fired}
use Rattle.joined.proofs.Preparing.{seeds, are_seeds, holds}

-- ---- nodes as lists

-- two lists of the same nodes have the same members
same_held : (f : Forest) (b c : List Moment) → HasOccurrences b f → HasOccurrences c f → (y : Moment) → Contains b y → Contains c y
same_held f b c in_b in_c y at = let (x, m, there, is) = in_b.all y at in subst (Contains c) is (in_c.own x m there)

told_over : (g : Revision) (b c : List Moment) (ins outs : List Moment) → ((y : Moment) → Contains b y → Contains c y) → ((y : Moment) → Contains c y → Contains b y)
    → IsTold g b ins outs → IsTold g c ins outs
told_over g b c ins outs into back told = record {
  new = told.new;
  lost = told.lost;
  entered = λ t r at. told.entered t r (back (After t r) at);
  left = λ t r at. elim (told.left t r at) [ inl live ↦ inl (into (After t r) live) | inr gone ↦ inr gone ];
  live = λ y at. into y (told.live y at);
  gone = λ y at live. told.gone y at (back y live);
  once_entered = told.once_entered;
  once_left = told.once_left;
}

-- what is told of one list of the nodes is told of each
told_of : (old new : Standing) (f : Forest) (b ins outs : List Moment) → HasOccurrences b f → IsTold (revision (built old) (built new)) b ins outs → IsToldOf old new f ins outs
told_of old new f b ins outs in_b told = λ c in_c. told_over (revision (built old) (built new)) b c ins outs (same_held f b c in_b in_c) (same_held f c b in_c in_b) told

-- ---- at the beginning

pub prepared_told : (old : Standing) (edit : Edit) (net_before net : Net) (f g : Forest) (rows after : Rows) (outs : List Moment)
    → IsSound old → IsSound (next_list old edit)
    → IsCurrent old net_before f rows → IsPrepared old (next_list old edit) net f g rows after → LeaveFirst old (next_list old edit) outs
    → IsToldOf old (next_list old edit) g [] outs
prepared_told old edit net_before net f g rows after outs sound_old sound_new current prepared leave =
    told_of old (next_list old edit) g (seeds old edit net_before net f g rows after sound_old sound_new current prepared) [] outs
    (holds old edit net_before net f g rows after sound_old sound_new current prepared)
    (told_first old edit sound_old sound_new (seeds old edit net_before net f g rows after sound_old sound_new current prepared) outs
    (are_seeds old edit net_before net f g rows after sound_old sound_new current prepared) leave.each leave.derived leave.once)

-- ---- at a turn

module _ (old : Standing) (edit : Edit) (net : Net) (f g : Forest) (rows after : Rows) (taken : List (Moment × List ℕ)) (x : ℕ) (p : Row) (found : Decision)
    (ins outs ins_after outs_after : List Moment) (sound_old : IsSound old) (sound_new : IsSound (next_list old edit)) (n : IsNetted old (next_list old edit) net f rows taken)
    (turn : IsCodeTurn (revision (built old) (built (next_list old edit))) (next_list old edit) net.names f g rows after x p found)
    (told : IsToldOf old (next_list old edit) f ins outs) where
  abbrev R : Revision
  R = revision (built old) (built (next_list old edit))

  abbrev t : Moment
  t = moment_at f p.trigger

  is_first : IsLeast R (IsWaiting f rows) t p.rule
  is_first = first old edit net f g rows after taken x p found sound_old sound_new n turn

  now_is : fires_by found ≡ is_firing (R.outcome n.nodes t p.rule)
  now_is = fires old edit net f g rows after taken x p found sound_old sound_new n turn

  before_is : fires_by p.found ≡ is_firing (n.kept t p.rule)
  before_is = fired old edit net f g rows after taken x p found sound_old sound_new n turn

  is_told : IsTold R n.nodes ins outs
  is_told = told n.nodes n.holds

  over : (c : List Moment) (a b : List Moment) → IsTold R c a b → ins_after ≡ a → outs_after ≡ b → IsTold R c ins_after outs_after
  over c a b h is_in is_out = subst (λ z. IsTold R c z outs_after) (sym is_in) (subst (IsTold R c a) (sym is_out) h)

  by : (c : List Moment) (outcomes : Moment → List ℕ → Outcome) → Turns R n.nodes c n.kept outcomes (IsWaiting g after) t p.rule → TellsMore f p found ins outs ins_after outs_after
      → IsTold R c ins_after outs_after
  by c outcomes (staying h) (nothing alike is_in is_out) =
      over c ins outs (told_stays R (lawful old edit sound_old sound_new) n.nodes n.kept (IsWaiting f rows) taken n.date n.keeping t p.rule is_first c ins outs is_told h) is_in is_out
  by c outcomes (entering h) (an_entry now before is_in is_out) =
      over c (effect_of f p ∷ ins) outs (told_enters R (lawful old edit sound_old sound_new) n.nodes n.kept (IsWaiting f rows) taken n.date n.keeping t p.rule is_first c ins outs is_told outcomes (IsWaiting g after) h) is_in is_out
  by c outcomes (withdrawing h) (leaving now before out each once is_in is_out) =
      over c ins (out ++ outs) (told_withdraws R (lawful old edit sound_old sound_new) n.nodes n.kept (IsWaiting f rows) taken n.date n.keeping t p.rule is_first c ins outs is_told out h goes) is_in is_out
    where
      goes : Goes n.nodes t p.rule out
      goes = record {
        each = λ y. (
          (λ at. let (z, m, there, is, under) = (each y).0 at in (subst (Contains n.nodes) is (n.holds.own z m there), under)),
          (λ at. let (z, m, there, is) = n.holds.all y at.0 in (each y).1 (z, m, there, is, at.1)),
        );
        once = once;
      }
  by c outcomes (staying h) (an_entry now before is_in is_out) = true_false (sym now ∙ now_is ∙ h.alike ∙ sym before_is ∙ before)
  by c outcomes (staying h) (leaving now before out each once is_in is_out) = true_false (sym (sym now ∙ now_is ∙ h.alike ∙ sym before_is ∙ before))
  by c outcomes (entering h) (nothing alike is_in is_out) = true_false (sym h.fires_now ∙ sym now_is ∙ alike ∙ before_is ∙ h.fired_not)
  by c outcomes (entering h) (leaving now before out each once is_in is_out) = true_false (sym h.fires_now ∙ sym now_is ∙ now)
  by c outcomes (withdrawing h) (nothing alike is_in is_out) = true_false (sym (sym h.fires_not ∙ sym now_is ∙ alike ∙ before_is ∙ h.fired))
  by c outcomes (withdrawing h) (an_entry now before is_in is_out) = true_false (sym (sym h.fires_not ∙ sym now_is ∙ now))

  pub turn_tells : TellsMore f p found ins outs ins_after outs_after → IsToldOf old (next_list old edit) g ins_after outs_after
  turn_tells tells =
      let to = code_turns old edit net f g rows after taken x p found sound_old sound_new n turn in
      told_of old (next_list old edit) g to.nodes ins_after outs_after to.holds (by to.nodes to.outcomes to.turns tells)

-- ---- at the end

pub netted_tell : (old : Standing) (edit : Edit) (net : Net) (f : Forest) (rows : Rows) (taken : List (Moment × List ℕ)) (ins outs : List Moment)
    → IsSound old → IsSound (next_list old edit)
    → IsNetted old (next_list old edit) net f rows taken → IsToldOf old (next_list old edit) f ins outs
    → (sum_by (weight (built (next_list old edit))) ins ≤ size (built (next_list old edit)))
    × (NoneWaits rows → TellsAll old (next_list old edit) ins outs)
netted_tell old edit net f rows taken ins outs sound_old sound_new n told = (few, all)
  where
    is_told : IsTold (revision (built old) (built (next_list old edit))) n.nodes ins outs
    is_told = told n.nodes n.holds

    few : sum_by (weight (built (next_list old edit))) ins ≤ size (built (next_list old edit))
    few = sum_inside (weight (built (next_list old edit))) ins (built (next_list old edit)).believed is_told.once_entered (λ y at. In-from_Contains (built (next_list old edit)).believed y (is_told.new y at).now)

    all : NoneWaits rows → TellsAll old (next_list old edit) ins outs
    all none =
        let both = told_all (revision (built old) (built (next_list old edit))) (lawful old edit sound_old sound_new) n.nodes n.kept (IsWaiting f rows) taken n.date n.keeping (λ t r w. none w.0 w.1 w.2 w.3) ins outs is_told in
        record {
          entered = λ t r. ((λ at. let h = (both.0 t r).0 at in (h.now, h.not_before)), (λ h. (both.0 t r).1 (record { now = h.0; not_before = h.1 })));
          left = λ t r. ((λ at. let h = (both.1 t r).0 at in (h.before, h.not_now)), (λ h. (both.1 t r).1 (record { before = h.0; not_now = h.1 })));
          entered_once = is_told.once_entered;
          left_once = is_told.once_left;
        }
