-- What an update tells, what moved, and the events on which rules may have changed: these are all
-- that an edit may have touched.
use Rattle.std.proofs.Common.{◌≡◌, ◌∙◌, ℕ, ◌+◌, true, false, List, map, length, reverse, refl, sym, ap, subst, inl, inr}
use Rattle.std.proofs.lemmas.Bool.{cases_Bool}
use Rattle.std.proofs.lemmas.List.{reverse-reverse}
use Rattle.std.specs.Prelude.{ℤ, Option, Some, None, IsSome, IsNone, MatchOption, is_some}
use Rattle.std.specs.List.{Contains}
use Rattle.tmm_model.specs.declared.point.PointName.{PointName}
use Rattle.tmm_model.specs.declared.point.PointName.TheVariants.{Begin}
use Rattle.tmm_model.specs.declared.premise.Edit.{Edit}
use Rattle.tmm_model.specs.declared.premise.Edit.TheVariants.{Add}
use Rattle.tmm_model.specs.declared.premise.Premise.{Premise}
use Rattle.tmm_model.specs.declared.token.Shape.{Shape}
use Rattle.tmm_model.specs.declared.token.Shape.TheVariants.{Event, Persistence, Span}
use Rattle.tmm_model.specs.Answers.{weight}
use Rattle.tmm_model.specs.Beliefs.{is_of, root_of, roots, rules_for, rules_at}
use Rattle.tmm_model.specs.Edits.{next_list}
use Rattle.tmm_model.specs.Maps.{built}
use Rattle.tmm_model.specs.Moments.{Moment, At, After, base, rules, is_derived, moment_of}
use Rattle.tmm_model.specs.Standing.{Standing, name_of, premise_in}
use Rattle.list_theory.proofs.Elements.{In, In-from_Contains, In-map, map-In, In-filter_map}
use Rattle.list_theory.proofs.KnownNames.{found}
use Rattle.list_theory.specs.WellNamed.{IsSound}
use Rattle.belief_theory.specs.Right.{Occurs}
use Rattle.belief_theory.proofs.SoundBeliefs.{believed_right}
use Rattle.premise_list.specs.States.{States}
use Rattle.dist_net.specs.Net.{Nets}
use Rattle.spots.specs.Forest.{Forest, Member, member, moment, IsLive, moment_at}
use Rattle.spots.proofs.Nodes.{node_at, live_at, moment_at-is, base-moment}
use Rattle.occ_tree.specs.Standing.{Kept, forest, present}
use Rattle.occ_tree.specs.Touched.{IsAtMoved}
use Rattle.supports.specs.Apart.{AreOthersApart}
use Rattle.supports.specs.Edited.{IsEdited, old_forest}
use Rattle.revisions.specs.Standing.{Stands}
use Rattle.revisions.proofs.Tokens.{root_named, is_of_stays}
use Rattle.belief_list.specs.KeptRows.{CoverTouched}
use Rattle.belief_table.specs.declared.dated.DatedOcc.{DatedOcc}
use Rattle.belief_turns.specs.declared.told.Told.{Told}
use Rattle.belief_net.specs.MarkLaws.{added_by as name_added}
use Rattle.belief_turns.specs.Telling.{seen_dated, entered_in, ins}
use Rattle.belief_net.proofs.Declared.{root_cases}
use Rattle.belief_turns.proofs.Telling.{In-reverse}
use Rattle.map_engine.specs.Ruled.{changes_rules_on, HasRuled}
use Rattle.map_engine.specs.Touching.{HasNodeOf, entered_of, TakesIn, IsToldOf}
use Rattle.map_engine.proofs.Ruled.{same_rules_on}

-- what entered, as it is told and as its occurrences
entered_among : (told : Told) (k : Moment) → In k (ins told) → In k (entered_of told)
entered_among told k at =
    let moments : List Moment = map (λ (m : ℤ × Moment). m.1) (entered_in told) in
    let straight : In k moments = subst (In k) (reverse-reverse moments) (In-reverse (reverse moments) k at) in
    let (m, there, is) = In-map (λ (m : ℤ × Moment). m.1) (entered_in told) k straight in
    let (o, here, same) = In-map seen_dated told.entered.items m there in
    subst (λ (z : Moment). In z (entered_of told)) (ap (λ (z : ℤ × Moment). z.1) same ∙ is) (map-In (λ (o : DatedOcc). moment_of o.occ) told.entered.items o here)

module _ (lists : States) (nets : Nets) (edit : Edit) (tree : Kept) (told : Told) (gone numbers : List ℕ) (classes : List (List ℕ))
    (h : IsToldOf lists nets edit tree told gone) (edited : IsEdited lists nets edit tree)
    (takes : TakesIn (forest (present tree)) told (name_added edit) gone numbers)
    (moved : (x : ℕ) (m : Member) → member (forest (present tree)) x ≡ Some m → IsAtMoved nets.moved m → Contains numbers x)
    (ruled : HasRuled (forest (present tree)) lists.committed.premises edit numbers)
    (others : AreOthersApart lists nets tree classes) where
  abbrev f : Forest
  f = old_forest tree

  abbrev g : Forest
  g = forest (present tree)

  abbrev old : Standing
  old = lists.committed

  abbrev new : Standing
  new = lists.present

  sound_old : IsSound old
  sound_old = edited.seen_then.network.sound

  sound_new : IsSound new
  sound_new = edited.seen_now.network.sound

  -- a node that newly stands under its number is of no occurrence that was believed
  was_not : (x : ℕ) → IsLive g x → member f x ≡ None → (k : Moment) → moment_at g x ≡ k → Contains (built old).believed k → ⊥
  was_not x live none k is at =
      let (y, n, here, same) = edited.holds_then.all k at in
      let one : y ≡ x = (edited.numbers y x (live_at f y n here) live).0 (moment_at-is f y n here ∙ same ∙ sym is) in
      let there : member f x ≡ Some n = subst (λ z. member f z ≡ Some n) one here in
      let never : None ≡ Some n = sym none ∙ there in
      cc

  believed_now : (x : ℕ) → IsLive g x → Contains (built new).believed (moment_at g x)
  believed_now x live = let (m, here) = node_at g x live in subst (Contains (built new).believed) (sym (moment_at-is g x m here)) (edited.holds_now.own x m here)

  -- ---- what entered

  root_entered : (x : ℕ) → IsLive g x → member f x ≡ None → (p : PointName) → moment_at g x ≡ At p → Contains numbers x
  root_entered x live none p is =
      let at : Contains (roots new) (At p) = (believed_right new sound_new (At p)).0 (subst (Contains (built new).believed) is (believed_now x live)) in
      let at_next : Contains (roots (next_list old edit)) (At p) = subst (λ (s : Standing). Contains (roots s) (At p)) edited.list at in
      elim (root_cases old edit (At p) at_next) [
        | inl was ↦ absurd (was_not x live none (At p) is ((believed_right old sound_old (At p)).1 was))
        | inr added ↦ (
            let (premise, is_add, of) = added in
            by premise is_add of)
      ]
    where
      by : (premise : Premise) → edit ≡ Add premise → root_of premise ≡ Some (At p) → Contains numbers x
      by premise is_add of =
          let (m, here) = node_at g x live in
          let begins : At p ≡ At (Begin m.root) = ap At (sym (ap base is) ∙ ap base (moment_at-is g x m here) ∙ base-moment m) in
          let named : name_of premise ≡ m.root = root_named premise m.root (of ∙ ap Some begins) in
          let has : HasNodeOf g (At (Begin (name_of premise))) numbers =
          subst (λ (e : Edit). MatchOption (name_added e) (Unit {0}) (λ name. HasNodeOf g (At (Begin name)) numbers)) is_add takes.root in
          has x live (is ∙ begins ∙ ap (λ name. At (Begin name)) (sym named))

  has_entered : (x : ℕ) → IsLive g x → member f x ≡ None → (k : Moment) → moment_at g x ≡ k → Contains numbers x
  has_entered x live none (At p) is = root_entered x live none p is
  has_entered x live none (After t r) is =
      let newly : In (After t r) (ins told) = (h.tells.entered t r).1 (subst (Contains (built new).believed) is (believed_now x live), was_not x live none (After t r) is) in
      takes.entered (After t r) (entered_among told (After t r) newly) x live is

  -- ---- what left

  -- a root that is gone is of a premise that is gone
  root_gone : (x : ℕ) → IsLive f x → member g x ≡ None → (m : Member) → member f x ≡ Some m → is_derived (moment_at f x) ≡ false → (k : Moment) → moment_at f x ≡ k → Contains numbers x
  root_gone x live none m here root (After t r) is = (let never : true ≡ false = sym (ap is_derived is) ∙ root in absurd (cc))
  root_gone x live none m here root (At p) is =
      let begins : At p ≡ At (Begin m.root) = ap At (sym (ap base is) ∙ ap base (moment_at-is f x m here) ∙ base-moment m) in
      let occurs : Contains (roots old) (At (Begin m.root)) =
      subst (Contains (roots old)) (sym (moment_at-is f x m here) ∙ is ∙ begins) root_occurs in
      let (premise, there, of) = In-filter_map root_of old.premises (At (Begin m.root)) (In-from_Contains (roots old) (At (Begin m.root)) occurs) in
      let stood : premise_in old.premises m.root ≡ Some premise = subst (λ n. premise_in old.premises n ≡ Some premise) (root_named premise m.root of) (found old.premises sound_old.well_named premise there) in
      by (premise_in new.premises m.root) refl (ap (λ (o : Option Premise). is_some o) stood) (is ∙ begins)
    where
      root_occurs : Contains (roots old) (moment m)
      root_occurs = by_moment (moment m) refl (ap is_derived (sym (moment_at-is f x m here)) ∙ root)
        where
          by_moment : (k : Moment) → moment m ≡ k → is_derived (moment m) ≡ false → Contains (roots old) (moment m)
          by_moment (At q) e derived = subst (Contains (roots old)) (sym e) (subst (Occurs old) e (edited.seen_then.members x m here).occurs)
          by_moment (After t r) e derived = (let never : true ≡ false = sym (ap is_derived e) ∙ derived in absurd (cc))

      by : (o : Option Premise) → premise_in new.premises m.root ≡ o → IsSome (premise_in old.premises m.root) → moment_at f x ≡ At (Begin m.root) → Contains numbers x
      by None e was k_is = takes.beside x (h.erased m.root was (subst (λ (o : Option Premise). IsNone o) (sym e) refl) x live k_is)
      by (Some q) e was k_is =
          let stands : Stands new (moment_at f x) = subst (Stands new) (sym k_is) (ap (λ (o : Option Premise). is_some o) e) in
          let (n, now) = node_at g x (h.roots x live root stands) in
          let never : None ≡ Some n = sym none ∙ now in
          absurd (cc)

  has_left : (x : ℕ) → IsLive f x → member g x ≡ None → Contains numbers x
  has_left x live none = elim (cases_Bool (is_derived (moment_at f x))) [
    | inl derived ↦ takes.left x (moment_at f x) (h.numbers.told x live none derived)
    | inr root ↦ (let (m, here) = node_at f x live in root_gone x live none m here root (moment_at f x) refl)
  ]

  -- ---- what counts more or less

  -- beside the numbers the rules for what a node is are the same
  rules_same : (x : ℕ) (m : Member) → member g x ≡ Some m → (Contains numbers x → ⊥) → rules_for old (Some (m.shape, m.what)) ≡ rules_for (next_list old edit) (Some (m.shape, m.what))
  rules_same x m here out = by m.shape refl
    where
      by : (shape : Shape) → m.shape ≡ shape → rules_for old (Some (shape, m.what)) ≡ rules_for (next_list old edit) (Some (shape, m.what))
      by Event is = elim (cases_Bool (changes_rules_on old.premises edit m.what)) [
        | inl changes ↦ absurd (out (ruled m.what changes x (m, here, is, refl)))
        | inr same ↦ sym (same_rules_on old edit sound_old.well_named m.what same)
      ]
      by Persistence is = refl
      by Span is = refl

  weighs_same : (x : ℕ) → IsLive f x → IsLive g x → (Contains numbers x → ⊥) → weight (built old) (moment_at f x) ≡ weight (built new) (moment_at g x)
  weighs_same x live_f live_g out =
      let (m, here_f) = node_at f x live_f in
      let (n, here_g) = node_at g x live_g in
      let k : Moment = moment_at f x in
      let same_k : k ≡ moment_at g x = (edited.numbers x x live_f live_g).1 refl in
      let seen = edited.seen_now.members x n here_g in
      let k_is : k ≡ moment n = same_k ∙ moment_at-is g x n here_g in
      let occurs_old : Occurs old k = subst (Occurs old) (sym (moment_at-is f x m here_f)) (edited.seen_then.members x m here_f).occurs in
      let occurs_next : Occurs (next_list old edit) k = subst (λ (s : Standing). Occurs s k) edited.list (subst (Occurs new) (sym k_is) seen.occurs) in
      let sound_next : IsSound (next_list old edit) = subst IsSound edited.list sound_new in
      let is_next : is_of (next_list old edit) k ≡ Some (n.shape, n.what) = subst (λ (s : Standing). is_of s k ≡ Some (n.shape, n.what)) edited.list (ap (is_of new) k_is ∙ seen.is) in
      let is_old : is_of old k ≡ Some (n.shape, n.what) = is_of_stays old edit sound_old sound_next k occurs_old occurs_next ∙ is_next in
      let same : rules_at old k ≡ rules_at (next_list old edit) k = ap (rules_for old) is_old ∙ rules_same x n here_g out ∙ sym (ap (rules_for (next_list old edit)) is_next) in
      ap (λ (rs : List (List ℕ)). 1 + length (rules k) + length rs) (same ∙ ap (λ (s : Standing). rules_at s k) (sym edited.list))
      ∙ ap (weight (built new)) same_k

  -- **These are all that the edit may have touched.**
  pub covers : CoverTouched lists nets tree numbers classes
  covers = record {
    entered = λ x live none. has_entered x live none (moment_at g x) refl;
    left = has_left;
    moved = moved;
    weights = weighs_same;
    others = others;
  }
