-- Points that stand fast.
use Rattle.std.proofs.Common.{◌≡◌, ◌∙◌, ℕ, Bool, true, false, not, ◌&&◌, ◌==◌, ◌<◌, List, Option, Some, None, refl, sym, ap, inl, inr, ◌⊎◌, arith}
use Rattle.std.specs.Cmp.{both_ways}
use Rattle.std.specs.List.{Contains}
use Rattle.std.specs.Option.{option_map_or}
use Rattle.tmm_model.specs.declared.point.PointName.TheVariants.{Start}
use Rattle.belief_theory.specs.Touched.{same_bound}
use Rattle.dist_net.specs.Net.{Nets}
use Rattle.net_theory.specs.Represents.{Names, IsNumberOf}
use Rattle.spots.specs.Spots.{net_far}
use Rattle.joined.proofs.Deciding.{not_both}
use Rattle.bearing.specs.Fast.{AreInBoth, is_out, StandFast, IsFastBy}
use Rattle.bearing.specs.MovedPairs.{is_of_premise, is_kept, WereThere, is_moved_among, is_moved, AreMoved}
use Rattle.bearing.specs.PointSets.{is_in, has_pair, AreThose, AreThosePairs, HaveOneOf}
use Rattle.bearing.proofs.Pairs.{not_of_one, kept_in_both}

pub kept_both : (nets : Nets) (added : Option (List ℕ)) (kept : List Bool) → WereThere nets added
    → AreThose (λ p. (p < 256) × (is_kept nets.present.names added p ≡ true)) kept → AreInBoth nets kept
kept_both nets added kept were are p is = kept_in_both nets added were p (are.own p is).1

-- what moved among the points that were there
pub moved_of_kept : (nets : Nets) (added : Option (List ℕ)) (kept pairs : List Bool) → AreThose (λ p. (p < 256) × (is_kept nets.present.names added p ≡ true)) kept
    → AreThosePairs (is_moved_among nets (is_in kept)) pairs → AreMoved nets added pairs
moved_of_kept nets added kept pairs those are = record {
  each = λ a b la lb. are.each a b la lb ∙ (λ i. not (a == b) && (same a la i && (same b lb i && not (same_bound (net_far nets.committed a b) (net_far nets.present a b)))));
  places = are.places;
}
  where
    same : (p : ℕ) → p < 256 → is_in kept p ≡ is_kept nets.present.names added p
    same p less = both_ways (is_in kept p) (is_kept nets.present.names added p) (λ is. (those.own p is).1) (λ is. those.all p (less, is))

pub fast_stand : (nets : Nets) (added : Option (List ℕ)) (listed : List ℕ) (pairs kept fast : List Bool) → AreMoved nets added pairs → HaveOneOf listed pairs
    → AreInBoth nets kept → is_in kept 0 ≡ true → AreThose (λ p. (p < 256) × IsFastBy listed pairs kept p) fast → StandFast nets added fast
fast_stand nets added listed pairs kept fast moved one_of both_kept start are = record {
  both = λ p is. both_kept p (are.own p is).1.0;
  loose = record {
    each = λ a b is. by a b is (is_in fast a) refl (is_in fast b) refl;
    start = ap not (are.all 0 (omega arith, (start, inl refl)));
  };
}
  where
    -- no two fast points make a pair
    no_pair : (a b : ℕ) → is_moved nets added a b ≡ true → is_in fast a ≡ true → is_in fast b ≡ true → ⊥
    no_pair a b is in_a in_b =
        let (la, fast_a) = are.own a in_a in
        let (lb, fast_b) = are.own b in_b in
        let pair : has_pair pairs a b ≡ true = moved.each a b la lb ∙ is in
        by_starts pair fast_a.1 fast_b.1 (one_of.each a b la lb pair)
      where
        by_starts : has_pair pairs a b ≡ true
            → ((a ≡ 0) ⊎ ((has_pair pairs a 0 ≡ false) × (has_pair pairs 0 a ≡ false) × (Contains listed a → ⊥)))
            → ((b ≡ 0) ⊎ ((has_pair pairs b 0 ≡ false) × (has_pair pairs 0 b ≡ false) × (Contains listed b → ⊥)))
            → Contains listed a ⊎ Contains listed b → ⊥
        by_starts pair (inl a_is) (inl b_is) on = not_both (is_moved nets added a b) is (not_of_one nets (is_kept nets.present.names added) a b (a_is ∙ sym b_is))
        by_starts pair (inl a_is) (inr b_out) on = not_both (has_pair pairs a b) pair (ap (λ z. has_pair pairs z b) a_is ∙ b_out.1)
        by_starts pair (inr a_out) (inl b_is) on = not_both (has_pair pairs a b) pair (ap (λ z. has_pair pairs a z) b_is ∙ a_out.0)
        by_starts pair (inr a_out) (inr b_out) (inl on) = a_out.2 on
        by_starts pair (inr a_out) (inr b_out) (inr on) = b_out.2 on

    by : (a b : ℕ) → is_moved nets added a b ≡ true → (v : Bool) → is_in fast a ≡ v → (w : Bool) → is_in fast b ≡ w → (is_out fast a ≡ true) ⊎ (is_out fast b ≡ true)
    by a b is false out w other = inl (ap not out)
    by a b is true in_a false out = inr (ap not out)
    by a b is true in_a true in_b = absurd (no_pair a b is in_a in_b)

-- ---- what moves

-- `start` is of no premise
pub start_kept : (names : Names) (added : Option (List ℕ)) → IsNumberOf names 0 Start → is_kept names added 0 ≡ true
start_kept names added is = ap (λ o. option_map_or (λ point. not (is_of_premise added point)) o false) is ∙ by added
  where
    by : (o : Option (List ℕ)) → not (is_of_premise o Start) ≡ true
    by None = refl
    by (Some name) = refl

-- no point makes a pair with itself
pub no_pair_of_one : (nets : Nets) (added : Option (List ℕ)) (pairs : List Bool) → AreMoved nets added pairs → (a : ℕ) → a < 256 → has_pair pairs a a ≡ false
no_pair_of_one nets added pairs moved a less = moved.each a a less less ∙ not_of_one nets (is_kept nets.present.names added) a a refl
