-- Rows that wait are those that the edit touches.
use Rattle.std.proofs.Common.{◌≡◌, ◌≢◌, ◌∙◌, ℕ, Bool, true, false, not, List, [], ◌∷◌, ◌++◌, Option, Some, None, zero, suc, ◌⊎◌, refl, sym, ap, subst, inl, inr}
use Rattle.std.proofs.lemmas.Bool.{not-false}
use Rattle.std.specs.Prelude.{◌+ℤ◌, ℤ, pos, int_le, slice_index_or, is_some}
use Rattle.std.specs.List.{Contains}
use Rattle.std.specs.Option.{option_map_or}
use Rattle.std.specs.Cmp.Lexicographic.{bytes_decides}
use Rattle.tmm_model.specs.declared.point.PointName.{PointName}
use Rattle.tmm_model.specs.declared.premise.Edit.{Edit}
use Rattle.tmm_model.specs.declared.premise.Edit.TheVariants.{Add, Erase, Horizon, Upgrade}
use Rattle.tmm_model.specs.declared.premise.Premise.{Premise}
use Rattle.tmm_model.specs.declared.premise.Premise.TheVariants.{Class, Kind, Point, Event, Token, Span, Dist, Rule, Protect, Against}
use Rattle.tmm_model.specs.Beliefs.{due, rules_at}
use Rattle.tmm_model.specs.Edits.{next_list}
use Rattle.tmm_model.specs.Maps.{built}
use Rattle.tmm_model.specs.Moments.{Moment, rule_of}
use Rattle.tmm_model.specs.Points.{same_name}
use Rattle.tmm_model.specs.Standing.{Standing, points_in, points_of, name_of, far_in}
use Rattle.list_theory.specs.WellNamed.{IsSound, IsWellNamed}
use Rattle.list_theory.proofs.Elements.{In, In-from_Contains, Contains-from_In, In-cases, In-flat_map, flat_map-In}
use Rattle.list_theory.proofs.Erasure.{kept_before}
use Rattle.list_theory.proofs.KnownNames.{fresh}
use Rattle.list_theory.proofs.WellNamed.{points_in-push, AllFollow-append}
use Rattle.belief_theory.specs.Outcomes.{outcome}
use Rattle.belief_theory.proofs.SoundBeliefs.{believed_occurs}
use Rattle.dist_net.specs.Net.{Net, Nets, IsInUse}
use Rattle.net_theory.specs.Fits.{IsNetOf}
use Rattle.net_theory.specs.KeptNumbers.{PointsKeepNumbers}
use Rattle.net_theory.specs.Represents.{Names, IsNumberOf}
use Rattle.spots.specs.declared.spot.Spot.TheVariants.{Declared, Node}
use Rattle.spots.specs.Forest.{Forest, IsLive, moment_at}
use Rattle.spots.specs.OfLists.{IsForestOf, HasOccurrences}
use Rattle.spots.specs.Spots.{base_of, net_far}
use Rattle.spots.proofs.Seen.{early_is}
use Rattle.occ_tree.specs.Places.{forest}
use Rattle.occ_tree.specs.OfLists.{IsTreeOf}
use Rattle.occ_tree.specs.Standing.{Kept, present, early}
use Rattle.revisions.specs.Maps.{watches}
use Rattle.revisions.specs.Walls.{AllOccur}
use Rattle.joined.specs.Gaps.{start, read, ReadsNoRival, MovesAt, TellsMoves}
use Rattle.joined.specs.Shifting.{IsSpotOf, AreLoose, MayRest}
use Rattle.joined.proofs.Gaps.{moved_points_touch}
use Rattle.joined.proofs.Shifting.{resting_keep}
use Rattle.bearing.specs.Events.{differ, is_between}
use Rattle.belief_net.specs.MarkLaws.{added_by, PointsWereThere, MovedRowsAreTouched, RestingRowsKeep, DueRowsChange}
use Rattle.bearing.specs.MovedPairs.{is_of_premise, is_kept, is_moved}
use Rattle.marking.proofs.AtRest.{among_at}
use Rattle.bearing.proofs.Pairs.{not_of_one, moved_parts, moved_by_far, bounds_differ, same_bound_is}

-- ---- points of the premise that is added

-- a point of a premise bears its name
of_its_name : (n : List ℕ) (o : Premise) (q : PointName) → In q (points_of o) → is_of_premise (Some n) q ≡ same_name n (name_of o)
of_its_name n (Point name) q (inl is) = ap (is_of_premise (Some n)) (sym is)
of_its_name n (Event name kind) q (inl is) = ap (is_of_premise (Some n)) (sym is)
of_its_name n (Token name fact) q (inl is) = ap (is_of_premise (Some n)) (sym is)
of_its_name n (Span name fact) q (inl is) = ap (is_of_premise (Some n)) (sym is)
of_its_name n (Span name fact) q (inr (inl is)) = ap (is_of_premise (Some n)) (sym is)
of_its_name n (Span name fact) q (inr (inr none)) = absurd none
of_its_name n (Point name) q (inr none) = absurd none
of_its_name n (Event name kind) q (inr none) = absurd none
of_its_name n (Token name fact) q (inr none) = absurd none
of_its_name n (Class name facts) q none = absurd none
of_its_name n (Kind name) q none = absurd none
of_its_name n (Dist name from to lo hi) q none = absurd none
of_its_name n (Rule name trigger lo hi effect given unless_facts) q none = absurd none
of_its_name n (Protect name fact from to) q none = absurd none
of_its_name n (Against name one other) q none = absurd none

-- points that stood before are none of the premise that is added
not_added : (ps : List Premise) (p : Premise) → IsWellNamed (ps ++ p ∷ []) → (q : PointName) → In q (points_in ps) → is_of_premise (Some (name_of p)) q ≡ false
not_added ps p named q (inl is) = ap (is_of_premise (Some (name_of p))) (sym is)
not_added ps p named q (inr on) =
    let (o, there, own) = In-flat_map points_of ps q on in
    by o there (of_its_name (name_of p) o q own) (same_name (name_of p) (name_of o)) refl
  where
    by : (o : Premise) → In o ps → is_of_premise (Some (name_of p)) q ≡ same_name (name_of p) (name_of o) → (v : Bool) → same_name (name_of p) (name_of o) ≡ v → is_of_premise (Some (name_of p)) q ≡ false
    by o there is true same = absurd (fresh ps (p ∷ []) (AllFollow-append [] ps (p ∷ []) named).1 p (inl refl) o there same)
    by o there is false other = is ∙ other

stood_before : (old : Standing) (edit : Edit) → IsSound (next_list old edit) → (q : PointName) → In q (points_in old.premises) → is_of_premise (added_by edit) q ≡ false
stood_before old (Add p) sound q on = not_added old.premises p sound.well_named q on
stood_before old (Erase name) sound q on = refl
stood_before old (Horizon n) sound q on = refl
stood_before old Upgrade sound q on = refl

-- the others were there
was_there : (old : Standing) (edit : Edit) (q : PointName) → In q (points_in (next_list old edit).premises) → is_of_premise (added_by edit) q ≡ false → In q (points_in old.premises)
was_there old (Add p) q on other = elim (In-cases (points_in old.premises) (points_of p) q (subst (λ l. In q l) (points_in-push old.premises p) on)) [
  | inl there ↦ there
  | inr own ↦ absurd (let both : true ≡ false = sym ((bytes_decides (name_of p) (name_of p)).1 refl) ∙ sym (of_its_name (name_of p) p q own) ∙ other in cc)
]
was_there old (Erase name) q (inl is) other = inl is
was_there old (Erase name) q (inr on) other =
    let (o, there, own) = In-flat_map points_of (next_list old (Erase name)).premises q on in
    inr (flat_map-In points_of old.premises o q (kept_before name [] old.premises o there) own)
was_there old (Horizon n) q on other = on
was_there old Upgrade q on other = on

kept_name : (names : Names) (added : Option (List ℕ)) (n : ℕ) → is_kept names added n ≡ true → (q : PointName) × IsNumberOf names n q × (is_of_premise added q ≡ false)
kept_name names added n is = by (slice_index_or names n None) refl is
  where
    by : (o : Option PointName) → slice_index_or names n None ≡ o → option_map_or (λ point. not (is_of_premise added point)) o false ≡ true
        → (q : PointName) × IsNumberOf names n q × (is_of_premise added q ≡ false)
    by None at is = cc
    by (Some q) at is = (q, at, is_false (is_of_premise added q) is)
      where
        is_false : (v : Bool) → not v ≡ true → v ≡ false
        is_false false e = refl
        is_false true e = cc

pub points_were_there : PointsWereThere
points_were_there old edit nets net_old net_new keep n kept =
    let (q, is, other) = kept_name nets.present.names (added_by edit) n kept in
    let known = net_new.fits.stands.named n q is in
    let before = was_there old edit q (In-from_Contains (points_in (next_list old edit).premises) q known) other in
    let (k, at) = net_old.fits.stands.numbered q (Contains-from_In (points_in old.premises) q before) in
    let one : k ≡ n = net_new.distinct k n q (keep k q known at) is in
    subst (λ z. IsInUse nets.committed.names z) one (ap is_some at)

-- ---- moved points

module _ (old : Standing) (edit : Edit) (nets : Nets) (net_old : IsNetOf old nets.committed) (sound : IsSound (next_list old edit)) where
  was_kept : (a : ℕ) (p : PointName) → IsNumberOf nets.committed.names a p → IsNumberOf nets.present.names a p → is_kept nets.present.names (added_by edit) a ≡ true
  was_kept a p was is =
      let known = In-from_Contains (points_in old.premises) p (net_old.fits.stands.named a p was) in
      ap (λ o. option_map_or (λ point. not (is_of_premise (added_by edit) point)) o false) is ∙ ap not (stood_before old edit sound p known)

  tells_moves : TellsMoves nets (is_moved nets (added_by edit))
  tells_moves = record {
    itself = λ a. not_of_one nets (is_kept nets.present.names (added_by edit)) a a refl;
    apart = λ a b p q was_a is_a was_b is_b moved. bounds_differ (net_far nets.committed a b) (net_far nets.present a b) (moved_parts nets (is_kept nets.present.names (added_by edit)) a b moved).far;
    same = λ a b p q was_a is_a was_b is_b other unmoved. same_bound_is (net_far nets.committed a b) (net_far nets.present a b)
        (not-false _ (sym (moved_by_far nets (is_kept nets.present.names (added_by edit)) a b other (was_kept a p was_a is_a) (was_kept b q was_b is_b)) ∙ unmoved));
  }

pub moved_rows_are_touched : MovedRowsAreTouched
moved_rows_are_touched old edit nets f b r x net_old seen keep holds live was entered =
    moved_points_touch old edit nets (is_moved nets (added_by edit)) f b r x net_old seen keep (tells_moves old edit nets net_old seen.network.sound) holds live was entered

pub resting_rows_keep : RestingRowsKeep
resting_rows_keep old edit nets loose f b r x net_old seen keep cover holds live was stood stands same plain left entered rest =
    resting_keep old edit nets (is_moved nets (added_by edit)) loose f (built old).believed b r x net_old seen keep (tells_moves old edit nets net_old seen.network.sound) cover
    (believed_occurs old net_old.sound) holds live was stood stands same plain left entered rest

-- so do rows among any occurrences of the list before
pub resting_among : (old : Standing) (edit : Edit) (nets : Nets) (loose : ℕ → Bool) (f : Forest) (c b : List Moment) (r : List ℕ) (x : ℕ) → IsNetOf old nets.committed → IsForestOf (next_list old edit) nets.present f
    → PointsKeepNumbers (points_in (next_list old edit).premises) nets.committed.names nets.present.names
    → AreLoose (is_moved nets (added_by edit)) loose → AllOccur old c → HasOccurrences b f → IsLive f x
    → Contains c (moment_at f x) → Contains (rules_at old (moment_at f x)) r → Contains (rules_at (next_list old edit) (moment_at f x)) r
    → old.horizon ≡ (next_list old edit).horizon → ReadsNoRival old r
    → ((y : Moment) → Contains c y → watches old r y ≡ true → Contains b y)
    → ((y : Moment) → Contains b y → watches (next_list old edit) r y ≡ true → Contains c y)
    → MayRest (is_moved nets (added_by edit)) loose (next_list old edit) nets f r x
    → outcome old (far_in old.premises) c (moment_at f x) r ≡ outcome (next_list old edit) (far_in (next_list old edit).premises) b (moment_at f x) r
resting_among old edit nets loose f c b r x net_old seen keep cover occur holds live was stood stands same plain left entered rest =
    resting_keep old edit nets (is_moved nets (added_by edit)) loose f c b r x net_old seen keep (tells_moves old edit nets net_old seen.network.sound) cover
    occur holds live was stood stands same plain left entered rest

-- whether the point is another one than `start`
abbrev pub is_no_start : ℕ → Bool
is_no_start zero = false
is_no_start (suc p) = true

-- where no points moved on which a decision depends, it may rest
pub unmoved_rests : (old : Standing) (edit : Edit) (nets : Nets) (f : Forest) (r : List ℕ) (x : ℕ) → ReadsNoRival (next_list old edit) r
    → (MovesAt (is_moved nets (added_by edit)) (next_list old edit) f r x → ⊥) → MayRest (is_moved nets (added_by edit)) is_no_start (next_list old edit) nets f r x
unmoved_rests old edit nets f r x plain unmoved = record {
  plain = plain;
  date = by (is_moved nets (added_by edit) (base_of f (Node x)) 0) refl;
  each = λ class reads. inl (λ m. unmoved (among_at (is_moved nets (added_by edit)) (next_list old edit) f r (IsSpotOf f class) x (λ p is. elim is [ inl first ↦ start first | inr spot ↦ read class reads spot ]) m));
}
  where
    by : (v : Bool) → is_moved nets (added_by edit) (base_of f (Node x)) 0 ≡ v → is_moved nets (added_by edit) (base_of f (Node x)) 0 ≡ false
    by false is = is
    by true is = absurd (unmoved (record { from = Node x; to = Declared 0; from_is = inr refl; to_is = inl (start refl); most = pos 0; bounded = refl; moved = is }))

-- all points but `start` may be loose
pub all_loose : (nets : Nets) (added : Option (List ℕ)) → AreLoose (is_moved nets added) is_no_start
all_loose nets added = record { each = by; start = refl }
  where
    by : (a b : ℕ) → is_moved nets added a b ≡ true → (is_no_start a ≡ true) ⊎ (is_no_start b ≡ true)
    by zero zero is = absurd (let no : true ≡ false = sym is ∙ not_of_one nets (is_kept nets.present.names added) 0 0 refl in cc)
    by (suc a) b is = inl refl
    by zero (suc b) is = inr refl

-- ---- another horizon

alike : (v w : Bool) → differ v w ≡ false → v ≡ w
alike true true e = refl
alike true false e = cc
alike false true e = cc
alike false false e = refl

unlike : (v w : Bool) → differ v w ≡ true → v ≢ w
unlike true true e same = cc
unlike true false e same = cc
unlike false true e same = cc
unlike false false e same = cc

module _ (s : Standing) (net : Net) (k : Kept) (x : ℕ) (r : List ℕ) (tree : IsTreeOf s net k) (live : IsLive (forest k) x) where
  abbrev date : ℤ
  date = due s (far_in s.premises) (moment_at (forest k) x) r

  due_is : (early (present k) x +ℤ (rule_of s r).lo) ≡ date
  due_is = ap (λ z. z +ℤ (rule_of s r).lo) (tree.dated x live ∙ early_is s net (forest k) tree.seen x live)

pub due_rows_change : DueRowsChange
due_rows_change s net k x r before after tree live = (
  (λ e. alike (int_le (date s net k x r tree live) (pos before)) (int_le (date s net k x r tree live) (pos after)) (subst (λ z. is_between z before after ≡ false) (due_is s net k x r tree live) e)),
  λ e. unlike (int_le (date s net k x r tree live) (pos before)) (int_le (date s net k x r tree live) (pos after)) (subst (λ z. is_between z before after ≡ true) (due_is s net k x r tree live) e),
)
