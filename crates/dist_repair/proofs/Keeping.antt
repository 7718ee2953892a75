-- Rows that stay without an edge, since no least walk needs it.
use Rattle.std.proofs.Common.{◌≡◌, ◌≢◌, ◌⊎◌, ◌∙◌, ℕ, ◌<◌, List, [], ◌∷◌, length, get_or, ℤ, pos, ◌+ℤ◌, ◌-ℤ◌, ◌≤ℤ◌, ap, sym, subst, arith, refl, inl, inr}
use Rattle.std.specs.List.{All, Contains}
use Rattle.std.proofs.lemmas.Bool.Decides.{Decides-eqb}
use Rattle.std.proofs.lemmas.Int.{ints}
use Rattle.std.proofs.lemmas.List.{get_or-map, length-map}
use Rattle.std.proofs.lemmas.List.Elements.{All-contains}
use Rattle.tmm_model.specs.declared.bound.Bound.{Bound}
use Rattle.tmm_model.specs.declared.bound.Bound.TheVariants.{Finite}
use Rattle.tmm_model.specs.Walks.{Arc, HasDates, total}
use Rattle.walk_theory.specs.LeastWalks.{HasWalk, IsFar, IsWalk, Adds}
use Rattle.walk_theory.proofs.Dates.{Solved, difference-le_total}
use Rattle.walk_theory.proofs.Members.{All-from_contains, Contains-map}
use Rattle.walk_theory.proofs.Reach.{solved}
use Rattle.walk_theory.proofs.Walks.{IsWalk-kept}
use Rattle.dist_net.specs.declared.Edge.{Edge}
use Rattle.dist_net.specs.Net.{Net, arc_of, arcs_of, same_number}
use Rattle.dist_net.proofs.Ends.{edge_at}
use Rattle.dist_repair.specs.Rows.{rest_of, IsSafe, IsTight, IsTightArc, IsTo, IsWayOn, KeepsRow, IsPresentRow, IsFarRow}
use Rattle.dist_repair.proofs.Detours.{IsFar-onward}
use Rattle.dist_repair.proofs.Left.{IsNet, Adds-remove, left_at, rest_dates}
use Rattle.dist_repair.proofs.Starts.{IsFar-safe}
use Rattle.dist_repair.proofs.Suspects.{IsSafe-all}

-- a point is 0 from itself
IsFar-itself : (arcs : List (Arc ℕ)) → HasDates 0 arcs → (p : ℕ) → IsFar arcs p p (Finite (pos 0))
IsFar-itself arcs dates p = record {
  reached = ([], refl, refl);
  least = λ walk h. (let low : (dates.0 p -ℤ dates.0 p) ≤ℤ total walk = difference-le_total 0 arcs dates.0 dates.1 p p walk h in omega (arith, ints, low));
}

module _ (net : Net) (place : ℕ) (known : IsNet net) (lt : place < length net.edges) where
  first : (e : Edge) × ((d : Edge) → get_or net.edges place d ≡ e)
  first = edge_at net.edges place lt

  -- where no least walk from a ends with the edge, none goes through it
  pub KeepsRow-loose : (a : ℕ) → (IsTight net place a → ⊥) → KeepsRow net place a
  KeepsRow-loose a loose q x far =
      let arcs : List (Arc ℕ) = arcs_of net.edges in
      let e : Edge = first.0 in
      let s : Solved 0 arcs = solved same_number Decides-eqb 0 arcs known.dates in
      let m : Contains arcs (arc_of e) = Contains-map arc_of net.edges e (place, lt, first.1 e) in
      IsFar-safe net place known lt a q e x far
      (subst (λ (g : Edge). IsSafe arcs (arc_of g) a q) (sym (first.1 e))
      (IsSafe-all arcs (arc_of e) a (s.table a e.from) (s.table a e.to) m (s.is_far a e.from) (s.is_far a e.to)
      (λ p is_p is_t.
      loose
      (λ d. subst (λ (g : Edge). IsTightArc arcs (arc_of g) a) (sym (first.1 d))
      (p, subst (IsFar arcs a e.from) is_p (s.is_far a e.from), subst (IsFar arcs a e.to) is_t (s.is_far a e.to))))
      q))

  -- where the distance from a to the edge's end stays, all distances from a do
  KeepsRow-onward : (a v : ℕ) (y : Bound) → IsTo net place v → IsFar (arcs_of net.edges) a v y → IsFar (rest_of net place) a v y → KeepsRow net place a
  KeepsRow-onward a v y to far_old far_new q x far =
      let e : Edge = first.0 in
      let P : ℕ → Type 0 = λ p. IsFar (arcs_of net.edges) a p y in
      let Q : ℕ → Type 0 = λ p. IsFar (rest_of net place) a p y in
      IsFar-onward (arcs_of net.edges) (rest_of net place) (arc_of (get_or net.edges place e)) (Adds-remove net.edges place e lt) a q x y
      (subst P (sym (to e)) far_old) (subst Q (sym (to e)) far_new) far

  -- **The distances from the edge's end stay.**
  pub KeepsRow-end : (v : ℕ) → IsTo net place v → KeepsRow net place v
  KeepsRow-end v to = KeepsRow-onward v v (Finite (pos 0)) to (IsFar-itself (arcs_of net.edges) known.dates v) (IsFar-itself (rest_of net place) (rest_dates net place known) v)

  -- **Where another edge begins a least walk to that end over a point from which all distances
  -- stay, they stay from where it begins.**
  pub KeepsRow-before : (j c u v : ℕ) (t : ℤ) → j < length net.edges → j ≢ place → ((d : Edge) → (get_or net.edges j d).from ≡ u) → ((d : Edge) → (get_or net.edges j d).to ≡ c)
      → IsTo net place v → KeepsRow net place c → IsFar (arcs_of net.edges) c v (Finite t) → IsWayOn net j v t → KeepsRow net place u
  KeepsRow-before j c u v t below other from at to keeps far way =
      let arcs : List (Arc ℕ) = arcs_of net.edges in
      let rest : List (Arc ℕ) = rest_of net place in
      let there : (f : Edge) × ((d : Edge) → get_or net.edges j d ≡ f) = edge_at net.edges j below in
      let f : Edge = there.0 in
      let adds : Adds rest (arc_of (get_or net.edges place f)) arcs = Adds-remove net.edges place f lt in
      let is : get_or arcs j (arc_of f) ≡ arc_of f = get_or-map arc_of net.edges j f (arc_of f) below ∙ ap arc_of (there.1 f) in
      let m : Contains rest (arc_of f) = subst (Contains rest) is (left_at arcs place j (arc_of f) (omega (arith, below, length-map net.edges arc_of)) other) in
      let r : HasWalk rest c v t = (keeps v (Finite t) far).reached in
      let ends : f.to ≡ c = ap (λ (g : Edge). g.to) (sym (there.1 f)) ∙ at f in
      let begins : f.from ≡ u = ap (λ (g : Edge). g.from) (sym (there.1 f)) ∙ from f in
      let whole : IsFar arcs f.from v (Finite (t +ℤ f.weight)) = subst (λ (g : Edge). IsFar arcs g.from v (Finite (t +ℤ g.weight))) (there.1 f) (way f) in
      let left : IsFar rest f.from v (Finite (t +ℤ f.weight)) = record {
        reached = (arc_of f ∷ r.0, (m, refl, subst (λ (p : ℕ). IsWalk rest p v r.0) (sym ends) r.1), omega (arith, ints, r.2));
        least = λ walk h. whole.least walk (IsWalk-kept rest arcs adds.kept f.from v walk h);
      } in
      subst (KeepsRow net place) begins (KeepsRow-onward f.from v (Finite (t +ℤ f.weight)) to whole left)

-- a row that stays has the distances
pub IsFarRow-keeps : (net : Net) (place a : ℕ) (row : ℕ → Bound) → IsPresentRow net a row → KeepsRow net place a → IsFarRow net place a row
IsFarRow-keeps net place a row present keeps q in_q = keeps q (row q) (present q in_q)

-- what holds of all points and of one more holds of all then
pub All-added : (P : ℕ → Type 0) (old new : List ℕ) (p : ℕ) → All P old → P p → ((q : ℕ) → Contains new q → Contains old q ⊎ (q ≡ p)) → All P new
All-added P old new p all is only = All-from_contains P new (λ q m. elim (only q m) [ inl there ↦ All-contains P old q all there | inr same ↦ subst P (sym same) is ])
