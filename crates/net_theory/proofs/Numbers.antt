-- The distance of two numbers of a network, and whether they are one, as their points tell.
use Rattle.std.proofs.Common.{◌≡◌, ◌∙◌, inl, inr, ℕ, Some, None, get_or, ap, sym, arith}
use Rattle.std.specs.List.{Contains}
use Rattle.std.proofs.lemmas.Bool.Decides.{Decides-eqb, eqb_tells}
use Rattle.tmm_model.specs.declared.point.PointName.{PointName}
use Rattle.tmm_model.specs.Points.{same_point}
use Rattle.tmm_model.specs.Standing.{Standing, points_in, arcs_in, far_in}
use Rattle.walk_theory.specs.LeastWalks.{AreAmong}
use Rattle.tmm_model.specs.Walks.{far}
use Rattle.walk_theory.proofs.Members.{All-from_contains}
use Rattle.walk_theory.proofs.Paths.{IsFar-far}
use Rattle.walk_theory.proofs.Points.{Decides-same_point, tells}
use Rattle.dist_net.specs.Net.{Net, same_number, arcs_of, points_in_use}
use Rattle.dist_net.proofs.Names.{Contains-in_use, length-numbers_from, numbers_from, ends_of}
use Rattle.net_theory.specs.Fits.{IsNetOf}
use Rattle.net_theory.specs.Represents.{IsNumberOf}
use Rattle.net_theory.proofs.Nets.{ends_used, is_in_use}
use Rattle.net_theory.proofs.Representing.{far-named}

-- **The distance of two numbers is that of their points.**
pub number_far : (s : Standing) (net : Net) → IsNetOf s net → (a b : ℕ) (p q : PointName) → IsNumberOf net.names a p → IsNumberOf net.names b q
    → far same_number (arcs_of net.edges) (points_in_use net.names) a b ≡ far_in s.premises p q
number_far s net is a b p q at_a at_b =
    let among : AreAmong (numbers_from 0 net.names) (arcs_of net.edges) =
    All-from_contains (λ e. Contains (numbers_from 0 net.names) e.from × Contains (numbers_from 0 net.names) e.to) (arcs_of net.edges)
    (λ e m. (let ends = ends_of net.names net.edges is.in_use e m in (Contains-in_use net.names e.from ends.0, Contains-in_use net.names e.to ends.1))) in
    far-named (points_in s.premises) (arcs_in s.premises) net.names (arcs_of net.edges) is.fits.stands is.distinct is.start (ends_used net.names net.edges is.in_use) is.dates
    a b p q (far same_number (arcs_of net.edges) (points_in_use net.names) a b) at_a at_b
    (IsFar-far same_number Decides-eqb 0 (numbers_from 0 net.names) (points_in_use net.names) (omega (arith, length-numbers_from 0 net.names))
    (arcs_of net.edges) among is.dates a b (Contains-in_use net.names b (is_in_use net.names b q at_b)))

-- **Two numbers are one exactly where their points are.**
pub number_same : (s : Standing) (net : Net) → IsNetOf s net → (a b : ℕ) (p q : PointName) → IsNumberOf net.names a p → IsNumberOf net.names b q → same_number a b ≡ same_point p q
number_same s net is a b p q at_a at_b =
    elim (eqb_tells a b) [
      | inl same ↦ elim (tells same_point Decides-same_point p q) [
        | inl point ↦ same.0 ∙ sym point.0
        | inr apart ↦ absurd (apart.1 (let e : Some p ≡ Some q = sym at_a ∙ ap (λ (i : ℕ). get_or net.names i None) same.1 ∙ at_b in let r : p ≡ q = cc in r))
      ]
      | inr other ↦ elim (tells same_point Decides-same_point p q) [
        | inl point ↦ absurd (other.1 (is.distinct a b q (at_a ∙ ap (λ (x : PointName). Some x) point.1) at_b))
        | inr apart ↦ other.0 ∙ sym apart.0
      ]
    ]
