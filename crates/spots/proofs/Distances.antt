-- The distance of two spots, by whether rules lead to both from one point.
use Rattle.std.proofs.Common.{◌≡◌, ◌≢◌, ◌∙◌, ℕ, Bool, true, false, [], pos, refl, sym, ap, arith}
use Rattle.std.specs.Prelude.{Option, Some, None, slice_index_or}
use Rattle.std.specs.Option.{option_map_or}
use Rattle.std.proofs.lemmas.Bool.{eq-eqb, ne_eqb}
use Rattle.std.proofs.lemmas.Int.{ints}
use Rattle.tmm_model.specs.declared.bound.Bound.{Bound}
use Rattle.tmm_model.specs.declared.bound.Bound.TheVariants.{Finite, Free}
use Rattle.tmm_model.specs.declared.point.PointName.TheVariants.{Begin}
use Rattle.tmm_model.specs.Bounds.{bound_plus, bound_less}
use Rattle.tmm_model.specs.Moments.{negated}
use Rattle.dist_net.specs.Net.{Net}
use Rattle.spots.specs.declared.spot.Spot.{Spot}
use Rattle.spots.specs.declared.spot.Spot.TheVariants.{Declared, Node as OfNode}
use Rattle.spots.specs.Forest.{Forest, Member, member}
use Rattle.spots.specs.OfLists.{HasList}
use Rattle.spots.specs.Spots.{base_of, links_of, links_low, links_high, links_apart, net_far, spot_distance, node_early}
use Rattle.spots.proofs.InUse.{begin_apart}

-- nodes whose rules lead on from one point are of one root
pub one_root : (net : Net) (f : Forest) → HasList net f → (x y : ℕ) (m n : Member) → member f x ≡ Some m → member f y ≡ Some n → m.begin ≡ n.begin → m.root ≡ n.root
one_root net f (s, seen) x y m n m_at n_at base =
    let a = (seen.members x m m_at).begin in
    let b = (seen.members y n n_at).begin in
    let both : Some (Begin m.root) ≡ Some (Begin n.root) = sym a ∙ ap (λ (k : ℕ). slice_index_or net.names k None) base ∙ b in
    cc

module _ (net : Net) (f : Forest) (p q : Spot) where
  abbrev Chosen : Bool → Bound
  Chosen b =
      elim b [
        | true ↦ links_apart (links_of f p) (links_of f q)
        | false ↦ bound_less (bound_plus (net_far net (base_of f p) (base_of f q)) (links_high (links_of f q))) (links_low (links_of f p))
      ]

  pub distance-one_base : base_of f p ≡ base_of f q → spot_distance net f p q ≡ links_apart (links_of f p) (links_of f q)
  distance-one_base e = ap Chosen (eq-eqb (base_of f p) (base_of f q) e)

  pub distance-two_bases : base_of f p ≢ base_of f q → spot_distance net f p q ≡ bound_less (bound_plus (net_far net (base_of f p) (base_of f q)) (links_high (links_of f q))) (links_low (links_of f p))
  distance-two_bases e = ap Chosen (ne_eqb (base_of f p) (base_of f q) e)

-- date 0 from a node, which begins elsewhere
pub distance-to_start : (net : Net) (f : Forest) → HasList net f → (x : ℕ) (m : Member) → member f x ≡ Some m → spot_distance net f (OfNode x) (Declared 0) ≡ bound_less (net_far net m.begin 0) (links_low m.links)
distance-to_start net f list x m at =
    let base : base_of f (OfNode x) ≡ m.begin = ap (λ (o : Option Member). option_map_or (λ k. k.begin) o 0) at in
    let links : links_of f (OfNode x) ≡ m.links = ap (λ (o : Option Member). option_map_or (λ k. k.links) o []) at in
    distance-two_bases net f (OfNode x) (Declared 0) (λ e. begin_apart net f list x m at (sym base ∙ e))
    ∙ (λ i. bound_less (bound_plus (net_far net (base i) 0) (Finite (pos 0))) (links_low (links i)))
    ∙ ap (λ (b : Bound). bound_less b (links_low m.links)) (plus_none (net_far net m.begin 0))
  where
    plus_none : (b : Bound) → bound_plus b (Finite (pos 0)) ≡ b
    plus_none (Finite d) = ap Finite (omega (arith, ints))
    plus_none Free = refl

pub early_is : (net : Net) (f : Forest) → HasList net f → (x : ℕ) (m : Member) → member f x ≡ Some m → (far : Bound) → far ≡ net_far net m.begin 0 → node_early net f x ≡ negated (bound_less far (links_low m.links))
early_is net f list x m at far is = ap negated (distance-to_start net f list x m at ∙ ap (λ (b : Bound). bound_less b (links_low m.links)) (sym is))
