-- The lines of all that a node rests on, in order, are its reasons.
use Rattle.std.proofs.Common.{ℕ, List, map}
use Rattle.std.specs.List.Sorted.{IsPermutation, IsStrictlySortedBy}
use Rattle.std.proofs.lemmas.List.Sorted.{IsPermutation-map, IsPermutation-sym, All-permutation, Contains-permutation}
use Rattle.tmm_model.specs.Maps.{built}
use Rattle.tmm_model.specs.Reasons.{Reason, AreReasons, IsWhy}
use Rattle.tmm_model.specs.Standing.{Standing}
use Rattle.dist_net.specs.Net.{Net}
use Rattle.spots.specs.Forest.{Forest, IsLive, moment_at}
use Rattle.spots.specs.OfLists.{IsForestOf}
use Rattle.spots.specs.Spots.{node_cmp}
use Rattle.justify.specs.Grounds.{AreUpholders}
use Rattle.occ_tree.proofs.Ordered.{moments_in_order}

pub reasons_are : (s : Standing) (net : Net) (f : Forest) → IsForestOf s net f → (x : ℕ) (found nodes : List ℕ) → AreUpholders (built s) f x found
    → IsPermutation found nodes → IsStrictlySortedBy (node_cmp net f) nodes
    → (lines : List Reason) → AreReasons (built s) (map (moment_at f) nodes) lines → IsWhy (built s) (moment_at f x) lines
reasons_are s net f seen x found nodes upholders moved sorted lines told =
    let occs_moved = IsPermutation-map (moment_at f) found nodes moved in record {
      occs = map (moment_at f) nodes;
      all = λ k. (
        (λ at. (upholders.all k).0 (Contains-permutation (map (moment_at f) nodes) (map (moment_at f) found) k (IsPermutation-sym (map (moment_at f) found) (map (moment_at f) nodes) occs_moved) at)),
        (λ h. Contains-permutation (map (moment_at f) found) (map (moment_at f) nodes) k occs_moved ((upholders.all k).1 h)),
      );
      in_order = moments_in_order s net f seen nodes (All-permutation (IsLive f) found nodes moved upholders.live) sorted;
      told = told;
    }
