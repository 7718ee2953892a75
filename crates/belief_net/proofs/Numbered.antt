-- Nodes keep their numbers on the way from the last commit to the list after an edit.
use Rattle.std.proofs.Common.{◌≡◌, ◌∙◌, ℕ, ℤ, true, false, map, Option, Some, None, List, refl, sym, ap, subst, inl, inr}
use Rattle.std.proofs.lemmas.Bool.{cases_Bool}
use Rattle.std.specs.Prelude.{IsSome, MatchOption, is_some}
use Rattle.std.specs.Option.{option_map_or}
use Rattle.std.specs.List.{Contains}
use Rattle.tmm_model.specs.declared.point.PointName.TheVariants.{Start, Begin, End}
use Rattle.tmm_model.specs.declared.premise.Premise.{Premise}
use Rattle.tmm_model.specs.declared.premise.Premise.TheVariants.{Rule}
use Rattle.tmm_model.specs.Beliefs.{root_of, roots}
use Rattle.tmm_model.specs.Maps.{built}
use Rattle.tmm_model.specs.Moments.{Moment, At, After, base, is_derived, moment_of}
use Rattle.tmm_model.specs.Standing.{Standing, premise_in}
use Rattle.list_theory.proofs.Elements.{In, In-from_Contains, In-filter_map, In-map, map-In}
use Rattle.list_theory.proofs.KnownNames.{found}
use Rattle.belief_theory.specs.Right.{Occurs}
use Rattle.dist_net.specs.Net.{Net}
use Rattle.spots.specs.Forest.{Forest, Member, member, IsLive, moment, moment_at, IsOnce, Enters}
use Rattle.spots.specs.OfLists.{IsForestOf, HasOccurrences}
use Rattle.spots.proofs.Nodes.{node_at, live_at, moment_at-is, base-moment}
use Rattle.occ_tree.specs.Places.{forest}
use Rattle.occ_tree.specs.Standing.{Kept, State, present, committed, forest as forest_of}
use Rattle.revisions.specs.Standing.{Stands}
use Rattle.revisions.proofs.Tokens.{root_named}
use Rattle.joined.specs.Telling.{TellsAll}
use Rattle.belief_table.specs.declared.erasing.Departed.{Departed}
use Rattle.belief_table.specs.declared.state.Beliefs.{Beliefs}
use Rattle.belief_table.specs.declared.dated.DatedOcc.{DatedOcc}
use Rattle.belief_turns.specs.declared.told.Told.{Told}
use Rattle.belief_net.specs.Adding.{StayAll, EntersAs, EntersRule}
use Rattle.belief_net.specs.Beginning.{EntersAdded}
use Rattle.belief_table.specs.Erasing.{HasLeft, ShedsAll, Spares}
use Rattle.belief_turns.specs.Numbered.{then_forest, seen_numbered, left_under, AreNumbered, KeepsNumbers}
use Rattle.belief_turns.specs.Telling.{seen_dated, left_in, ins, outs}
use Rattle.belief_turns.proofs.Telling.{In-reverse}
use Rattle.belief_table.proofs.Thinned.{moment_stays}

none_some : {X : Type 0} (x : X) → None ≡ Some x → ⊥
none_some x e = cc

-- ---- steps

module _ (s : Standing) (left : List (ℕ × Moment)) where
  -- where each node of the last commit is what it was
  pub numbered_on : (old new : Kept) → committed new ≡ committed old → ((x : ℕ) → IsLive (then_forest old) x → member (forest new) x ≡ member (forest old) x)
      → AreNumbered s old left → AreNumbered s new left
  numbered_on old new last stays h = record {
    stay = λ x was live.
        let there = was_there x was in
        moment_was x
        ∙ h.stay x there (subst (λ (o : Option Member). IsSome o) (stays x there) live)
        ∙ sym (ap (λ (o : Option Member). option_map_or moment o (At Start)) (stays x there));
    told = λ x was gone derived.
        let there = was_there x was in
        subst (λ k. In (x, k) left) (sym (moment_was x)) (h.told x there (sym (stays x there) ∙ gone) (ap is_derived (sym (moment_was x)) ∙ derived));
    own = λ x k at was. h.own x k at (was_there x was) ∙ sym (moment_was x);
    roots = λ x was root stands.
        let there = was_there x was in
        subst (λ (o : Option Member). IsSome o) (sym (stays x there))
        (h.roots x there (ap is_derived (sym (moment_was x)) ∙ root) (subst (Stands s) (moment_was x) stands));
  }
    where
      same_then : then_forest new ≡ then_forest old
      same_then = ap (λ (k : State). forest_of k) last

      was_there : (x : ℕ) → IsLive (then_forest new) x → IsLive (then_forest old) x
      was_there x was = subst (λ (f : Forest). IsLive f x) same_then was

      moment_was : (x : ℕ) → moment_at (then_forest new) x ≡ moment_at (then_forest old) x
      moment_was x = ap (λ (f : Forest). moment_at f x) same_then

  -- where a node enters under a number that no node had
  pub numbered_entered : (old new : Kept) (x : ℕ) (m : Member) → committed new ≡ committed old → Enters (forest old) (forest new) x m → forest_of (committed old) x ≡ None
      → AreNumbered s old left → AreNumbered s new left
  numbered_entered old new x m last enters free = numbered_on old new last (λ y was. enters.others y (λ same.
      let (n, at) = node_at (then_forest old) y was in
      none_some n (sym free ∙ ap (then_forest old) (sym same) ∙ at)))

  -- where what an edit adds has entered
  rule_stays : (p : Premise) (old new : Beliefs) → EntersRule s p old new → new.tree ≡ old.tree
  rule_stays (Rule name trigger lo hi effect given unless_facts) old new h = h.0
  rule_stays _ old new h = h.tree

  pub numbered_added : (net : Net) (added : Option Premise) (m r n : Beliefs) → EntersAdded s net added m r n → committed n.tree ≡ committed m.tree
      → AreNumbered s m.tree left → AreNumbered s n.tree left
  numbered_added net None m r n h last numbered = subst (λ (t : Kept). AreNumbered s t left) (sym (h.1.tree ∙ h.0.tree)) numbered
  numbered_added net (Some p) m r n h last numbered = by (root_of p) h.0
    where
      rows_only : n.tree ≡ r.tree
      rows_only = rule_stays p r n h.1

      by : (o : Option Moment) → MatchOption o (StayAll m r) (λ k. EntersAs s net k m r) → AreNumbered s n.tree left
      by None stay = subst (λ (t : Kept). AreNumbered s t left) (sym (rows_only ∙ stay.tree)) numbered
      by (Some k) enters =
          subst (λ (t : Kept). AreNumbered s t left) (sym rows_only)
          (numbered_entered m.tree r.tree enters.number enters.adds.node (ap (λ (t : Kept). committed t) (sym rows_only) ∙ last) enters.adds.enters enters.was_free numbered)

-- ---- when erased premises are gone

module _ (s : Standing) (b e : Beliefs) (all : Departed) (at_commit : committed b.tree ≡ present b.tree) (last : committed e.tree ≡ committed b.tree)
    (once : IsOnce (forest b.tree)) (sheds : ShedsAll b e all) (spares : Spares s b e) where
  as_then : then_forest e.tree ≡ forest b.tree
  as_then = ap (λ (k : State). forest_of k) (last ∙ at_commit)

  node_then : (x : ℕ) → IsLive (then_forest e.tree) x → (m : Member) × (member (forest b.tree) x ≡ Some m)
  node_then x was = node_at (forest b.tree) x (subst (λ (f : Forest). IsLive f x) as_then was)

  moment_then : (x : ℕ) (m : Member) → member (forest b.tree) x ≡ Some m → moment_at (then_forest e.tree) x ≡ moment m
  moment_then x m at = ap (λ (f : Forest). moment_at f x) as_then ∙ moment_at-is (forest b.tree) x m at

  -- each derived one that left is told under its number
  told_under : (x : ℕ) (m : Member) → HasLeft b.tree e.tree x m → is_derived (moment m) ≡ true → In (x, moment m) (left_under all.left.items)
  told_under x m gone derived =
      let (o, there, same) = In-map (λ (z : DatedOcc). moment_of z.occ) sheds.tells.more (moment m) (sheds.tells.all x m gone derived) in
      let (y, n, left, is, _, _, number) = sheds.tells.own o there in
      let one : y ≡ x = once y x n m left.was gone.was (is ∙ same) in
      let seen : seen_numbered o ≡ (x, moment m) = λ i. ((number ∙ one) i, same i) in
      subst (λ l. In (x, moment m) (left_under l)) (sym sheds.tells.is)
      (subst (λ z. In z (left_under sheds.tells.more)) seen (map-In seen_numbered sheds.tells.more o there))

  pub numbered_erased : AreNumbered s e.tree (left_under all.left.items)
  numbered_erased = record {
    stay = λ x was live. ap (λ (f : Forest). moment_at f x) as_then ∙ moment_stays b e sheds.thins x live;
    told = λ x was gone derived.
        let (m, at) = node_then x was in
        let is = moment_then x m at in
        subst (λ k. In (x, k) (left_under all.left.items)) (sym is) (told_under x m (record { was = at; gone = gone }) (ap is_derived (sym is) ∙ derived));
    own = λ x k at was.
        let (o, there, same) = In-map seen_numbered all.left.items (x, k) at in
        let (y, n, left, is, _, _, number) = sheds.tells.own o (subst (In o) sheds.tells.is there) in
        let here : y ≡ x = sym number ∙ ap (λ (z : ℕ × Moment). z.0) same in
        sym (moment_then x n (subst (λ z. member (forest b.tree) z ≡ Some n) here left.was) ∙ is ∙ ap (λ (z : ℕ × Moment). z.1) same);
    roots = λ x was root stands.
        let (m, at) = node_then x was in
        live_at (forest e.tree) x m (spares.nodes x m at (subst (Stands s) (moment_then x m at) stands));
  }

-- ---- where nodes are those of the list after

module _ (s old : Standing) (net : Net) (tree : Kept) (told : Told) (h : AreNumbered s tree (left_under told.left.items))
    (seen : IsForestOf s net (forest tree)) (holds : HasOccurrences (built s).believed (forest tree)) (tells : TellsAll old s (ins told) (outs told)) where
  -- what is told under a number is among what left
  among_left : (x : ℕ) (k : Moment) → In (x, k) (left_under told.left.items) → In k (outs told)
  among_left x k at =
      let (o, there, same) = In-map seen_numbered told.left.items (x, k) at in
      let is : moment_of o.occ ≡ k = ap (λ (z : ℕ × Moment). z.1) same in
      In-reverse (map (λ (m : ℤ × Moment). m.1) (left_in told)) k
      (subst (λ z. In z (map (λ (m : ℤ × Moment). m.1) (left_in told))) is
      (map-In (λ (m : ℤ × Moment). m.1) (left_in told) (seen_dated o) (map-In seen_dated told.left.items o there)))

  -- so it is believed no more
  left_no_more : (k : Moment) → is_derived k ≡ true → In k (outs told) → Contains (built s).believed k → ⊥
  left_no_more (At p) derived at = (let never : false ≡ true = derived in cc)
  left_no_more (After t r) derived at = ((tells.left t r).0 at).1

  -- a root that is a node stands in the list
  root_stands : (k : Moment) → is_derived k ≡ false → (y : ℕ) (n : Member) → member (forest tree) y ≡ Some n → moment n ≡ k → Stands s k
  root_stands (After t r) root y n at is = (let never : true ≡ false = root in absurd (cc))
  root_stands (At Start) root y n at is = (let bases : Begin n.root ≡ Start = sym (base-moment n) ∙ ap base is in absurd (cc))
  root_stands (At (End name)) root y n at is = (let bases : Begin n.root ≡ End name = sym (base-moment n) ∙ ap base is in absurd (cc))
  root_stands (At (Begin name)) root y n at is =
      let occurs = subst (Occurs s) is (seen.members y n at).occurs in
      let (p, there, of) = In-filter_map root_of s.premises (At (Begin name)) (In-from_Contains (roots s) (At (Begin name)) occurs) in
      ap (λ (o : Option Premise). is_some o) (subst (λ z. premise_in s.premises z ≡ Some p) (root_named p name of) (found s.premises seen.network.sound.well_named p there))

  number_kept : (x y : ℕ) (n : Member) → IsLive (then_forest tree) x → member (forest tree) y ≡ Some n → moment_at (then_forest tree) x ≡ moment n → x ≡ y
  number_kept x y n was at is = by (member (forest tree) x) refl
    where
      by : (o : Option Member) → member (forest tree) x ≡ o → x ≡ y
      by (Some m) here = holds.once x y m n here at (sym (moment_at-is (forest tree) x m here) ∙ sym (h.stay x was (live_at (forest tree) x m here)) ∙ is)
      by None gone = elim (cases_Bool (is_derived (moment_at (then_forest tree) x))) [
        | inl derived ↦ (
            let left = among_left x (moment_at (then_forest tree) x) (h.told x was gone derived) in
            absurd (left_no_more (moment_at (then_forest tree) x) derived left (subst (Contains (built s).believed) (sym is) (holds.own y n at))))
        | inr root ↦ (
            let live = h.roots x was root (root_stands (moment_at (then_forest tree) x) root y n at (sym is)) in
            let (m, there) = node_at (forest tree) x live in
            absurd (none_some m (sym gone ∙ there)))
      ]

  pub keeps_numbers : KeepsNumbers tree (left_under told.left.items)
  keeps_numbers = record {
    same = λ x y was live. (
      (λ is. let (n, at) = node_at (forest tree) y live in number_kept x y n was at (is ∙ moment_at-is (forest tree) y n at)),
      (λ is. h.stay x was (subst (IsLive (forest tree)) (sym is) live) ∙ ap (moment_at (forest tree)) is),
    );
    told = h.told;
    own = h.own;
  }
