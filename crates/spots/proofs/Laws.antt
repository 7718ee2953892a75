-- The laws of distances and of the order of spots.
use Rattle.std.proofs.Common.{◌≡◌, ◌∙◌, ℕ, pos, refl, sym, ap, subst}
use Rattle.std.specs.declared.cmp.Ordering.TheVariants.{Less, Equal}
use Rattle.std.specs.Ordering.{ordering_reverse}
use Rattle.std.specs.Cmp.{IsTotalOrder}
use Rattle.std.specs.Cmp.Lexicographic.{nat_list_cmp_total}
use Rattle.std.proofs.lemmas.Cmp.{then_total, on_total, int_cmp_total, nat_cmp_total, ranked}
use Rattle.tmm_model.specs.declared.bound.Bound.TheVariants.{Finite}
use Rattle.tmm_model.specs.Bounds.{bound_plus}
use Rattle.tmm_model.specs.Types.{IsTighter, IsOrderOn}
use Rattle.tmm_model.specs.Moments.{printed}
use Rattle.tmm_model.specs.Standing.{Standing, far_in}
use Rattle.belief_theory.proofs.Order.{ordered as moments_ordered}
use Rattle.belief_theory.proofs.Sound.{shortest, sound_rules}
use Rattle.belief_theory.proofs.Spelt.{spelt}
use Rattle.belief_theory.proofs.Timed.{distance_itself, distance_triangle}
use Rattle.dist_net.specs.Net.{Net}
use Rattle.spots.specs.declared.spot.Spot.{Spot}
use Rattle.spots.specs.declared.spot.Spot.TheVariants.{Declared, Node}
use Rattle.spots.specs.Forest.{Forest, IsLive, moment_at}
use Rattle.spots.specs.Spots.{IsSpot, spot_moment, spot_distance, spot_cmp, node_early, node_cmp}
use Rattle.spots.specs.OfLists.{HasList, IsForestOf}
use Rattle.spots.proofs.Nodes.{node_at, moment_at-is}
use Rattle.spots.proofs.Seen.{distance_is, order_is, occurs_at}

-- two nodes of one moment are one
one_node : (f : Forest) (s : Standing) (net : Net) → IsForestOf s net f → (x y : ℕ) → IsLive f x → IsLive f y → moment_at f x ≡ moment_at f y → x ≡ y
one_node f s net seen x y live_x live_y same =
    let (m, here) = node_at f x live_x in
    let (n, there) = node_at f y live_y in
    seen.once x y m n here there (sym (moment_at-is f x m here) ∙ same ∙ moment_at-is f y n there)

module _ (net : Net) (f : Forest) where
  abbrev pub IsThere : Spot → Type 0
  IsThere p = HasList net f × IsSpot net.names f p

  pub itself : (p : Spot) → IsThere p → spot_distance net f p p ≡ Finite (pos 0)
  itself p at =
      let (s, seen) = at.0 in
      distance_is s net f seen p p at.1 at.1
      ∙ distance_itself s (far_in s.premises) (shortest s seen.network.sound) (sound_rules s seen.network.sound) (spot_moment net.names f p)

  pub triangle : (p q r : Spot) → IsThere p → IsThere q → IsThere r → IsTighter (spot_distance net f p r) (bound_plus (spot_distance net f p q) (spot_distance net f q r))
  triangle p q r at_p at_q at_r =
      let (s, seen) = at_p.0 in
      let p_r = sym (distance_is s net f seen p r at_p.1 at_r.1) in
      let p_q = sym (distance_is s net f seen p q at_p.1 at_q.1) in
      let q_r = sym (distance_is s net f seen q r at_q.1 at_r.1) in
      let law = distance_triangle s (far_in s.premises) (shortest s seen.network.sound) (sound_rules s seen.network.sound) (spot_moment net.names f p) (spot_moment net.names f q) (spot_moment net.names f r) in
      subst (λ (t : Type 0). t) (λ i. IsTighter (p_r i) (bound_plus (p_q i) (q_r i))) law

  nodes_total : IsTotalOrder (node_cmp net f)
  nodes_total = then_total (on_total (node_early net f) int_cmp_total) (on_total (λ x. printed (moment_at f x)) nat_list_cmp_total)

  one_of_tied : (s : Standing) → IsForestOf s net f → (x y : ℕ) → IsLive f x → IsLive f y → node_cmp net f x y ≡ Equal → x ≡ y
  one_of_tied s seen x y live_x live_y tied =
      let well_formed = seen.network.sound.well_formed in
      one_node f s net seen x y live_x live_y
      ((moments_ordered s (far_in s.premises)).strict (moment_at f x) (moment_at f y)
      (spelt s well_formed (moment_at f x) (occurs_at s net f seen x live_x))
      (spelt s well_formed (moment_at f y) (occurs_at s net f seen y live_y))
      (sym (order_is s net f seen x y live_x live_y) ∙ tied))

  antisymm : (p q : Spot) → spot_cmp net f p q ≡ ordering_reverse (spot_cmp net f q p)
  antisymm (Node x) (Node y) = nodes_total.antisymm x y
  antisymm (Node x) (Declared q) = refl
  antisymm (Declared p) (Node y) = refl
  antisymm (Declared p) (Declared q) = nat_cmp_total.antisymm p q

  trans : (p q r : Spot) → spot_cmp net f p q ≡ Less → spot_cmp net f q r ≡ Less → spot_cmp net f p r ≡ Less
  trans (Node x) (Node y) (Node z) a b = nodes_total.trans x y z a b
  trans (Node x) (Node y) (Declared r) a b = refl
  trans (Node x) (Declared q) (Node z) a b = cc
  trans (Node x) (Declared q) (Declared r) a b = refl
  trans (Declared p) (Node y) (Node z) a b = cc
  trans (Declared p) (Node y) (Declared r) a b = cc
  trans (Declared p) (Declared q) (Node z) a b = cc
  trans (Declared p) (Declared q) (Declared r) a b = nat_cmp_total.trans p q r a b

  strict : (p q : Spot) → IsThere p → IsThere q → spot_cmp net f p q ≡ Equal → p ≡ q
  strict (Node x) (Node y) at_p at_q e = ap (λ (k : ℕ). Node k) (one_of_tied at_p.0.0 at_p.0.1 x y at_p.1 at_q.1 e)
  strict (Node x) (Declared q) at_p at_q e = cc
  strict (Declared p) (Node y) at_p at_q e = cc
  strict (Declared p) (Declared q) at_p at_q e = ap (λ (k : ℕ). Declared k) (ranked p q Equal (sym e))

  pub ordered : IsOrderOn IsThere (spot_cmp net f)
  ordered = record { antisymm = λ x y _ _. antisymm x y; trans = λ x y z _ _ _. trans x y z; strict = strict }
