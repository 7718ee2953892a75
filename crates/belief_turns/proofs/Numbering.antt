-- How nodes keep their numbers through a turn.
use Rattle.std.proofs.Common.{◌≡◌, ◌∙◌, ℕ, true, false, eqb, List, ◌++◌, map, Some, None, refl, sym, ap, subst, inl, inr, ◌⊎◌}
use Rattle.std.proofs.lemmas.Bool.{cases_Bool, both_ways}
use Rattle.std.specs.Prelude.{◌↔◌, is_some}
use Rattle.std.specs.Option.{option_map_or}
use Rattle.std.specs.List.{list_any}
use Rattle.tmm_model.specs.declared.point.PointName.TheVariants.{Start}
use Rattle.tmm_model.specs.Moments.{Moment, At, After, is_derived}
use Rattle.tmm_model.specs.Standing.{Standing}
use Rattle.list_theory.proofs.Elements.{In, In-left, In-right, In-cases, In-map, map-In}
use Rattle.dist_net.specs.Net.{Net}
use Rattle.row_links.specs.Lists.{IsOn}
use Rattle.spots.specs.Forest.{Forest, Member, member, IsLive, moment, moment_at, Enters}
use Rattle.spots.proofs.Nodes.{node_at, live_at, moment_at-is}
use Rattle.occ_tree.specs.Below.{IsBelow}
use Rattle.occ_tree.specs.Places.{forest}
use Rattle.occ_tree.specs.Standing.{Kept, forest as forest_of}
use Rattle.occ_tree.proofs.Members.{members_below}
use Rattle.revisions.specs.Standing.{Stands}
use Rattle.revisions.specs.Steps.{IsUnder}
use Rattle.joined.proofs.Leaving.{below_under}
use Rattle.belief_table.specs.declared.state.Beliefs.{Beliefs}
use Rattle.belief_turns.specs.declared.told.Told.{Told}
use Rattle.belief_turns.specs.Entering.{Brings}
use Rattle.belief_table.specs.LastCommit.{KeepLast}
use Rattle.belief_turns.specs.Leaving.{TakesAway}
use Rattle.belief_turns.specs.Numbered.{AreNumbered, StayNumbered, then_forest, left_under}
use Rattle.belief_turns.proofs.Telling.{on_in, in_on}

none_some : {X : Type 0} (x : X) → None ≡ Some x → ⊥
none_some x e = cc

-- what stands below what is derived is derived
under_derived : (k y : Moment) → IsUnder k y → is_derived k ≡ true → is_derived y ≡ true
under_derived k (At p) same derived = ap is_derived same ∙ derived
under_derived k (After t r) under derived = refl

-- the occurrence of a number is that of its node
moment_of_same : (f g : Forest) (y : ℕ) → member f y ≡ member g y → moment_at f y ≡ moment_at g y
moment_of_same f g y same = ap (λ o. option_map_or moment o (At Start)) same

live_of_same : (f g : Forest) (y : ℕ) → member f y ≡ member g y → IsLive f y → IsLive g y
live_of_same f g y same live = ap is_some (sym same) ∙ live

-- ---- nodes of the last commit and nodes now

-- nodes keep their numbers from some nodes to others
record AreNumberedIn (s : Standing) (was now : Forest) (left : List (ℕ × Moment)) : Type 0 where
  stay : (x : ℕ) → IsLive was x → IsLive now x → moment_at was x ≡ moment_at now x
  told : (x : ℕ) → IsLive was x → member now x ≡ None → is_derived (moment_at was x) ≡ true → In (x, moment_at was x) left
  own : (x : ℕ) (k : Moment) → In (x, k) left → IsLive was x → k ≡ moment_at was x
  roots : (x : ℕ) → IsLive was x → is_derived (moment_at was x) ≡ false → Stands s (moment_at was x) → IsLive now x

from_numbered : (s : Standing) (tree : Kept) (left : List (ℕ × Moment)) → AreNumbered s tree left → AreNumberedIn s (then_forest tree) (forest tree) left
from_numbered s tree left are = record { stay = are.stay; told = are.told; own = are.own; roots = are.roots }

to_numbered : (s : Standing) (tree : Kept) (left : List (ℕ × Moment)) (was : Forest) → then_forest tree ≡ was → AreNumberedIn s was (forest tree) left → AreNumbered s tree left
to_numbered s tree left was same are =
    let there = subst (λ f. AreNumberedIn s f (forest tree) left) (sym same) are in
    record { stay = there.stay; told = there.told; own = there.own; roots = there.roots }

-- a node enters under a number that was none
module _ (s : Standing) (was old new : Forest) (left : List (ℕ × Moment)) (x : ℕ) (m : Member) (enters : Enters old new x m) (free : member was x ≡ None) (are : AreNumberedIn s was old left) where
  others : (y : ℕ) → IsLive was y → member new y ≡ member old y
  others y live = enters.others y (λ same. (let (n, at) = node_at was y live in none_some n (sym free ∙ ap (member was) (sym same) ∙ at)))

  entered_in : AreNumberedIn s was new left
  entered_in = record {
    stay = λ y live now. are.stay y live (live_of_same new old y (others y live) now) ∙ sym (moment_of_same new old y (others y live));
    told = λ y live none derived. are.told y live (sym (others y live) ∙ none) derived;
    own = are.own;
    roots = λ y live root stands. live_of_same old new y (sym (others y live)) (are.roots y live root stands);
  }

-- a derived node goes with all below it, which are told under their numbers
module _ (s : Standing) (was old new : Forest) (left : List (ℕ × Moment)) (x : ℕ) (m : Member) (numbers : List ℕ) (at_x : member old x ≡ Some m) (derived_x : is_derived (moment m) ≡ true)
    (below : (y : ℕ) → IsOn numbers y ↔ IsBelow old x y) (gone : (y : ℕ) → IsBelow old x y → member new y ≡ None) (stays : (y : ℕ) → (IsBelow old x y → ⊥) → member new y ≡ member old y)
    (are : AreNumberedIn s was old left) where
  abbrev out : List (ℕ × Moment)
  out = map (λ y. (y, moment_at old y)) numbers

  on_or_off : (y : ℕ) → IsOn numbers y ⊎ (IsOn numbers y → ⊥)
  on_or_off y = elim (cases_Bool (list_any (eqb y) numbers)) [ inl on ↦ inl on | inr off ↦ inr (λ on. both_ways (list_any (eqb y) numbers) off on) ]

  off_same : (y : ℕ) → (IsOn numbers y → ⊥) → member new y ≡ member old y
  off_same y off = stays y (λ under. off ((below y).1 under))

  on_live : (y : ℕ) → IsOn numbers y → IsLive old y
  on_live y on = let b = (below y).0 on in live_at old y b.below b.below_at

  on_dead : (y : ℕ) → IsOn numbers y → IsLive new y → ⊥
  on_dead y on live = let (n, at) = node_at new y live in none_some n (sym (gone y ((below y).0 on)) ∙ at)

  on_derived : (y : ℕ) → IsOn numbers y → is_derived (moment_at old y) ≡ true
  on_derived y on =
      let b = (below y).0 on in
      ap is_derived (moment_at-is old y b.below b.below_at)
      ∙ under_derived (moment m) (moment b.below) (below_under m b.below (members_below old x y m b.below at_x b.below_at b)) derived_x

  told_on : (y : ℕ) → IsLive was y → IsOn numbers y → In {X = ℕ × Moment} (y, moment_at was y) (map (λ z. (z, moment_at old z)) numbers)
  told_on y live on =
      subst (λ k. In {X = ℕ × Moment} (y, k) (map (λ z. (z, moment_at old z)) numbers)) (sym (are.stay y live (on_live y on)))
      (map-In (λ z. (z, moment_at old z)) numbers y (in_on numbers y on))

  own_on : (y : ℕ) (k : Moment) → In {X = ℕ × Moment} (y, k) (map (λ z. (z, moment_at old z)) numbers) → IsLive was y → k ≡ moment_at was y
  own_on y k at live =
      let (z, there, is) = In-map (λ z. (z, moment_at old z)) numbers (y, k) at in
      let number : z ≡ y = ap (λ (p : ℕ × Moment). p.0) is in
      let same : moment_at old z ≡ k = ap (λ (p : ℕ × Moment). p.1) is in
      let on = on_in numbers y (subst (λ n. In n numbers) number there) in
      sym same ∙ ap (moment_at old) number ∙ sym (are.stay y live (on_live y on))

  own_cases : (y : ℕ) (k : Moment) → IsLive was y → In {X = ℕ × Moment} (y, k) left ⊎ In {X = ℕ × Moment} (y, k) (map (λ z. (z, moment_at old z)) numbers) → k ≡ moment_at was y
  own_cases y k live (inl before) = are.own y k before live
  own_cases y k live (inr now) = own_on y k now live

  root_stays : (y : ℕ) → IsLive was y → is_derived (moment_at was y) ≡ false → IsLive old y → IsLive new y
  root_stays y live root there = elim (on_or_off y) [
    | inl on ↦ absurd (both_ways (is_derived (moment_at was y)) root (ap is_derived (are.stay y live there) ∙ on_derived y on))
    | inr off ↦ live_of_same old new y (sym (off_same y off)) there
  ]

  withdrawn_in : AreNumberedIn s was new (left ++ map (λ y. (y, moment_at old y)) numbers)
  withdrawn_in = record {
    stay = λ y live now. elim (on_or_off y) [
      | inl on ↦ absurd (on_dead y on now)
      | inr off ↦ are.stay y live (live_of_same new old y (off_same y off) now) ∙ sym (moment_of_same new old y (off_same y off))
    ];
    told = λ y live none derived. elim (on_or_off y) [
      | inl on ↦ In-right left out (y, moment_at was y) (told_on y live on)
      | inr off ↦ In-left left out (y, moment_at was y) (are.told y live (sym (off_same y off) ∙ none) derived)
    ];
    own = λ y k at live. own_cases y k live (In-cases left out (y, k) at);
    roots = λ y live root stands. root_stays y live root (are.roots y live root stands);
  }

-- ---- steps

-- where nothing enters or leaves
pub same_numbered : (s : Standing) (b c : Beliefs) (told : Told) → c.tree ≡ b.tree → StayNumbered s b c told told
same_numbered s b c told same are = subst (λ (t : Kept). AreNumbered s t (left_under told.left.items)) (sym same) are

-- one step after the other
pub numbered_on : (s : Standing) (a b c : Beliefs) (told_a told_b told_c : Told) → StayNumbered s a b told_a told_b → StayNumbered s b c told_b told_c → StayNumbered s a c told_a told_c
numbered_on s a b c told_a told_b told_c first second are = second (first are)

-- the effect of a rule enters under a number that was none at the last commit
pub entry_numbered : (s : Standing) (net : Net) (trigger : ℕ) (rule : List ℕ) (c e : Beliefs) (told told_after : Told) (brings : Brings s net trigger rule c e) → then_forest c.tree brings.number ≡ None
    → KeepLast c e → told_after.left.items ≡ told.left.items → StayNumbered s c e told told_after
entry_numbered s net trigger rule c e told told_after brings free last same are =
    let adds = brings.enters.adds in
    let left = left_under told.left.items in
    subst (λ l. AreNumbered s e.tree (left_under l)) (sym same)
    (to_numbered s e.tree left (then_forest c.tree) (ap forest_of last.tree)
    (entered_in s (then_forest c.tree) (forest c.tree) (forest e.tree) left brings.number adds.node adds.enters free (from_numbered s c.tree left are)))

-- an effect is withdrawn with all below it, told under their numbers
pub exit_numbered : (list s : Standing) (net : Net) (c e : Beliefs) (x : ℕ) (m : Member) (numbers : List ℕ) (told told_after : Told) → member (forest c.tree) x ≡ Some m → is_derived (moment m) ≡ true → TakesAway list net x numbers c e
    → left_under told_after.left.items ≡ left_under told.left.items ++ map (λ y. (y, moment_at (forest c.tree) y)) numbers → StayNumbered s c e told told_after
exit_numbered list s net c e x m numbers told told_after at derived takes tells are =
    let left = left_under told.left.items in
    let shrinks = takes.tree.shrinks in
    subst (AreNumbered s e.tree) (sym tells)
    (to_numbered s e.tree (left ++ map (λ y. (y, moment_at (forest c.tree) y)) numbers) (then_forest c.tree) (ap forest_of takes.tree.committed_is)
    (withdrawn_in s (then_forest c.tree) (forest c.tree) (forest e.tree) left x m numbers at derived takes.below shrinks.gone shrinks.others (from_numbered s c.tree left are)))
