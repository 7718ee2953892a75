-- Edges linked by the points that they lead to.
use Rattle.std.proofs.Common.{◌≡◌, ◌∙◌, inl, inr, ℕ, ◌+◌, ◌<◌, List, length, get_or, replicate, Option, set, length-set, ap, sym, subst, arith, refl}
use Rattle.std.proofs.lemmas.Bool.{cases_eq, cases_lt}
use Rattle.std.proofs.lemmas.List.{get_or-set_same, get_or-set_other, get_or_default, get_or-replicate, get_or_past, length-replicate}
use Rattle.tmm_model.specs.declared.point.PointName.{PointName}
use Rattle.dist_net.specs.declared.Edge.{Edge}
use Rattle.dist_net.specs.Net.{AreInUse}
use Rattle.dist_net.proofs.Ends.{below_places}
use Rattle.neg_cycle.specs.Ends.{IsAt, HasTo, IsLastTo}

-- one edge stands at a place
pub same_at : (edges : List Edge) (i : ℕ) (e f : Edge) → IsAt edges i e → IsAt edges i f → e ≡ f
same_at edges i e f at_e at_f = sym at_e.1 ∙ (get_or_default edges i e f at_e.0 ∙ at_f.1)

-- the edge that is read at a place stands there
pub read_at : (edges list : List Edge) (place : ℕ) (e : Edge) → list ≡ edges → e ≡ get_or list place e → place < length list → IsAt edges place e
read_at edges list place e same is within = (omega (arith, within, ap length same), sym (is ∙ ap (λ (t : List Edge). get_or t place e) same))

-- its end is one of the places
pub read_to : (names : List (Option PointName)) (edges list : List Edge) (place : ℕ) (e : Edge) → length names ≡ 256 → AreInUse names edges → list ≡ edges → e ≡ get_or list place e → place < length list → e.to < 256
read_to names edges list place e places used same is within = let at = read_at edges list place e same is within in (below_places names edges e places used (place, at.0, at.1)).1

-- the edge at a place of one to p
pub record IsEdgeTo (edges : List Edge) (place p : ℕ) (e : Edge) : Type 0 where
  pub at : IsAt edges place e
  pub to : e.to ≡ p
  pub from : e.from < 256

pub edge_read : (names : List (Option PointName)) (edges list : List Edge) (place p : ℕ) (e : Edge) → length names ≡ 256 → AreInUse names edges → list ≡ edges → e ≡ get_or list place e → HasTo edges place p → IsEdgeTo edges place p e
edge_read names edges list place p e places used same is (f, at_f, to) =
    let at = read_at edges list place e same is (omega (arith, at_f.0, ap length same)) in
    record { at = at; to = ap (λ (g : Edge). g.to) (same_at edges place e f at at_f) ∙ to; from = (below_places names edges e places used (place, at.0, at.1)).0 }

-- the first `done` edges are linked
pub record IsLinking (edges : List Edge) (done : ℕ) (last before : List ℕ) : Type 0 where
  pub points : length last ≡ 256
  pub places : length before ≡ length edges
  pub last_to : (p : ℕ) → IsLastTo edges done p (get_or last p 0)
  pub before_it : (i : ℕ) (e : Edge) → i < done → IsAt edges i e → IsLastTo edges i e.to (get_or before i 0)

pub IsLinking-more : (edges : List Edge) (i : ℕ) (last before : List ℕ) (e : Edge) → IsLinking edges i last before → IsAt edges i e → e.to < 256 → IsLinking edges (i + 1) (set last e.to (i + 1)) (set before i (get_or last e.to 0))
IsLinking-more edges i last before e is at place = record {
  points = length-set last e.to (i + 1) ∙ is.points;
  places = length-set before i (get_or last e.to 0) ∙ is.places;
  last_to = λ p. elim (cases_eq p e.to) [ inl same ↦ subst (λ (q : ℕ). IsLastTo edges (i + 1) q (get_or (set last e.to (i + 1)) q 0)) (sym same) (subst (IsLastTo edges (i + 1) e.to) (sym here) it) | inr other ↦ subst (IsLastTo edges (i + 1) p) (sym (get_or-set_other last e.to p (i + 1) 0 other)) (others p other) ];
  before_it = λ j f lt at_j.
      elim (cases_eq j i) [
        | inl same ↦ (let one : f ≡ e = same_at edges i f e (subst (λ (k : ℕ). IsAt edges k f) same at_j) at in
            let P : ℕ → Edge → Type 0 = λ k g. IsLastTo edges k g.to (get_or (set before i (get_or last e.to 0)) k 0) in
            subst (λ (k : ℕ). P k f) (sym same) (subst (P i) (sym one) (subst (IsLastTo edges i e.to) (sym linked) (is.last_to e.to))))
        | inr other ↦ subst (IsLastTo edges j f.to) (sym (get_or-set_other before i j (get_or last e.to 0) 0 other)) (is.before_it j f (omega (arith, lt, other)) at_j)
      ];
}
  where
    here : get_or (set last e.to (i + 1)) e.to 0 ≡ i + 1
    here = get_or-set_same last e.to (i + 1) 0 (omega (arith, is.points))

    linked : get_or (set before i (get_or last e.to 0)) i 0 ≡ get_or last e.to 0
    linked = get_or-set_same before i (get_or last e.to 0) 0 (omega (arith, at.0, is.places))

    it : IsLastTo edges (i + 1) e.to (i + 1)
    it = record {
      below = omega arith;
      leads = λ some. (e, subst (λ (k : ℕ). IsAt edges k e) (omega arith) at, refl);
      last = λ j f lt at_j to. lt;
    }

    others : (p : ℕ) → (p ≡ e.to → ⊥) → IsLastTo edges (i + 1) p (get_or last p 0)
    others p other = record {
      below = omega (arith, (is.last_to p).below);
      leads = (is.last_to p).leads;
      last = λ j f lt at_j to.
          elim (cases_eq j i) [
            | inl same ↦ absurd (other (sym to ∙ ap (λ (g : Edge). g.to) (same_at edges i f e (subst (λ (k : ℕ). IsAt edges k f) same at_j) at)))
            | inr sooner ↦ (is.last_to p).last j f (omega (arith, lt, sooner)) at_j to
          ];
    }

pub zeros : (n p : ℕ) (xs : List ℕ) → xs ≡ replicate n 0 → get_or xs p 0 ≡ 0
zeros n p xs is =
    ap (λ (t : List ℕ). get_or t p 0) is
    ∙ elim (cases_lt p n) [ inl lt ↦ get_or-replicate {A = ℕ} n p 0 0 lt | inr past ↦ get_or_past (replicate {A = ℕ} n 0) p 0 (omega (arith, past, length-replicate {A = ℕ} n 0)) ]
