-- Walks over edges as steps between named points.
use Rattle.std.proofs.Common.{◌≡◌, ◌∙◌, ℕ, ◌<◌, List, [], ◌∷◌, ◌++◌, map, get_or, append_assoc, append-nil, ap, sym, subst, arith, refl, ℤ, ◌+ℤ◌, false, Option, Some, None, IsSome, inl, inr, unwrap_or}
use Rattle.std.specs.List.{All, AllByRecursion, Contains, IsDistinct}
use Rattle.std.proofs.lemmas.Bool.{false≢true, eq-eqb}
use Rattle.std.proofs.lemmas.Bool.Decides.{Decides-eqb}
use Rattle.std.proofs.lemmas.List.{map-append, get_or_default}
use Rattle.std.proofs.lemmas.List.Elements.{All-contains, All-tail}
use Rattle.std.proofs.lemmas.Map.Keys.{IsDistinct-cons, IsDistinct-head, IsDistinct-tail}
use Rattle.tmm_model.specs.declared.bound.Bound.{Bound}
use Rattle.tmm_model.specs.declared.bound.Bound.TheVariants.{Finite, Free}
use Rattle.tmm_model.specs.declared.point.PointName.{PointName}
use Rattle.tmm_model.specs.declared.point.PointName.TheVariants.{Start}
use Rattle.tmm_model.specs.declared.walk.WalkStep.{WalkStep}
use Rattle.tmm_model.specs.Cycles.{Leads, sum_of, begins, IsPath, IsCycleBy}
use Rattle.tmm_model.specs.Bounds.{after}
use Rattle.tmm_model.specs.Points.{same_point}
use Rattle.tmm_model.specs.Walks.{Arc, HasDates, total}
use Rattle.walk_theory.specs.LeastWalks.{IsWalk, IsFar, points}
use Rattle.walk_theory.proofs.Members.{All-from_contains, Contains-map, Contains-map_from}
use Rattle.walk_theory.proofs.Dates.{Solved}
use Rattle.walk_theory.proofs.Reach.{solved}
use Rattle.walk_theory.proofs.Points.{Decides-same_point, tells}
use Rattle.dist_net.specs.declared.Edge.{Edge}
use Rattle.dist_net.specs.declared.Conflict.{Conflict}
use Rattle.dist_net.specs.Net.{IsConflict, Net, arcs_of, same_number, IsInUse, AreInUse, AreDistinct}
use Rattle.neg_cycle.specs.Ranks.{HasFar, IsLeastPath, IsNext, AppendsPath}
use Rattle.dist_net.specs.Steps.{point_at, step_of, steps_in_net}
use Rattle.neg_cycle.proofs.Followed.{IsFollowing, IsFollowing-start, IsFollowing-more, IsLeastPath-end}

-- ---- names

-- a number in use has a name
named_at : (names : List (Option PointName)) (p : ℕ) → IsInUse names p → get_or names p None ≡ Some (point_at names p)
named_at names p used = some (get_or names p None) used
  where
    some : (x : Option PointName) → IsSome x → x ≡ Some (unwrap_or x Start)
    some (Some name) h = refl
    some None h = absurd (false≢true h)

-- two numbers in use have two names
apart : (names : List (Option PointName)) → AreDistinct names → (p q : ℕ) → IsInUse names p → IsInUse names q → same_number p q ≡ false → same_point (point_at names p) (point_at names q) ≡ false
apart names distinct p q used_p used_q ne =
    elim (tells same_point Decides-same_point (point_at names p) (point_at names q)) [
      | inl same ↦ (let is : p ≡ q = distinct p q (point_at names p) (named_at names p used_p) (named_at names q used_q ∙ sym (ap Some same.1)) in
          absurd (false≢true (sym ne ∙ ap (same_number p) (sym is) ∙ eq-eqb p p refl)))
      | inr other ↦ other.0
    ]

all_apart : (names : List (Option PointName)) → AreDistinct names → (p : ℕ) (ps : List ℕ) → IsInUse names p → AllByRecursion (IsInUse names) ps → AllByRecursion (λ q. same_number p q ≡ false) ps → AllByRecursion (λ q. same_point (point_at names p) q ≡ false) (map (point_at names) ps)
all_apart names distinct p [] used all ne = tt
all_apart names distinct p (q ∷ ps) used all ne = (apart names distinct p q used all.0 ne.0, all_apart names distinct p ps used all.1 ne.1)

IsDistinct-nil : IsDistinct same_point []
unfolding IsDistinct
IsDistinct-nil = tt

IsDistinct-named : (names : List (Option PointName)) → AreDistinct names → (ps : List ℕ) → AllByRecursion (IsInUse names) ps → IsDistinct same_number ps → IsDistinct same_point (map (point_at names) ps)
IsDistinct-named names distinct [] all d = IsDistinct-nil
IsDistinct-named names distinct (p ∷ ps) all d =
    IsDistinct-cons same_point (point_at names p) (map (point_at names) ps) (all_apart names distinct p ps all.0 all.1 (IsDistinct-head same_number p ps d))
    (IsDistinct-named names distinct ps all.1 (IsDistinct-tail same_number p ps d))

-- ---- walks

begins-named : (names : List (Option PointName)) (path : List Edge) (b : ℕ) → begins (map (step_of names) path) ++ point_at names b ∷ [] ≡ map (point_at names) (points (arcs_of path) b)
begins-named names [] b = refl
begins-named names (e ∷ path) b = ap (λ (t : List PointName). point_at names e.from ∷ t) (begins-named names path b)

pub sum_of-named : (names : List (Option PointName)) (path : List Edge) → sum_of (map (step_of names) path) ≡ total (arcs_of path)
sum_of-named names [] = refl
sum_of-named names (e ∷ path) = ap (λ (s : ℤ). e.weight +ℤ s) (sum_of-named names path)

Leads-named : (names : List (Option PointName)) (arcs : List (Arc ℕ)) (a b : ℕ) (path : List Edge) → IsWalk arcs a b (arcs_of path) → Leads (point_at names a) (point_at names b) (map (step_of names) path)
Leads-named names arcs a b [] h = ap (point_at names) h
Leads-named names arcs a b (e ∷ path) h = (ap (point_at names) h.1, Leads-named names arcs e.to b path h.2)

-- the points of a walk are in use
points_in_walk : (names : List (Option PointName)) (edges : List Edge) → AreInUse names edges → (b : ℕ) → IsInUse names b → (path : List Edge) → All (Contains edges) path → AllByRecursion (IsInUse names) (points (arcs_of path) b)
points_in_walk names edges used b used_b [] own = (used_b, tt)
points_in_walk names edges used b used_b (e ∷ path) own = (
  (All-contains (λ (x : Edge). IsInUse names x.from × IsInUse names x.to) edges e used (own 0 e (omega arith))).0,
  points_in_walk names edges used b used_b path (All-tail (Contains edges) e path own),
)

-- **A least path over the edges is a path of the network between the points' names.**
pub IsPath-named : (net : Net) → AreDistinct net.names → AreInUse net.names net.edges → (a b : ℕ) → IsInUse net.names b → (path : List Edge) → IsLeastPath net.edges a b path →
    IsPath (steps_in_net net) (point_at net.names a) (point_at net.names b) (map (step_of net.names) path)
IsPath-named net distinct used a b used_b path is = record {
  own = All-from_contains (Contains (steps_in_net net)) (map (step_of net.names) path)
      (λ s m.
      (let r : (e : Edge) × Contains path e × (step_of net.names e ≡ s) = Contains-map_from (step_of net.names) path s m in
      subst (Contains (steps_in_net net)) r.2 (Contains-map (step_of net.names) net.edges r.0 (All-contains (Contains net.edges) path r.0 is.own r.1))));
  leads = Leads-named net.names (arcs_of net.edges) a b path is.walk;
  distinct = subst (IsDistinct same_point) (sym (begins-named net.names path b))
      (IsDistinct-named net.names distinct (points (arcs_of path) b) (points_in_walk net.names net.edges used b used_b path is.own) is.distinct);
}

-- ---- following

-- new has old's steps, and then those of edges that lead from a to the point
pub record IsWalking (net : Net) (a b : ℕ) (rank : List ℕ) (at : ℕ) (old new : List WalkStep) : Type 0 where
  pub path : List Edge
  pub following : IsFollowing net.edges a b rank at path
  pub appended : new ≡ old ++ map (step_of net.names) path

pub IsWalking-start : (net : Net) (a b : ℕ) (rank : List ℕ) (old : List WalkStep) → HasFar net.edges a b → 0 < get_or rank a 0 → IsWalking net a b rank a old old
IsWalking-start net a b rank old (s, far) some = record { path = []; following = IsFollowing-start net.edges a b rank s some far; appended = sym (append-nil old) }

pub IsWalking-more : (net : Net) (a b : ℕ) (rank : List ℕ) (at : ℕ) (old steps new : List WalkStep) (e : Edge) → IsWalking net a b rank at old steps → IsNext net.edges b rank at e → new ≡ steps ++ step_of net.names e ∷ [] → IsWalking net a b rank e.to old new
IsWalking-more net a b rank at old steps new e is next pushed = record {
  path = is.path ++ e ∷ [];
  following = IsFollowing-more net.edges a b rank at is.path e is.following next;
  appended = pushed ∙ (ap (λ (t : List WalkStep). t ++ step_of net.names e ∷ []) is.appended
      ∙ (append_assoc old (map (step_of net.names) is.path) (step_of net.names e ∷ []) ∙ ap (λ (t : List WalkStep). old ++ t) (sym (map-append (step_of net.names) is.path (e ∷ [])))));
}

pub AppendsPath-end : (net : Net) (a b : ℕ) (rank : List ℕ) (at : ℕ) (old new : List WalkStep) → HasDates 0 (arcs_of net.edges) → at ≡ b → IsWalking net a b rank at old new → AppendsPath net a b old new
AppendsPath-end net a b rank at old new dates same is =
    record { path = is.path; is = IsLeastPath-end net.edges a b rank at is.path dates same is.following; appended = is.appended }

-- ---- for the answers of `walk`

module _ (net : Net) (a b : ℕ) (old steps : List WalkStep) (none : old ≡ []) (is : AppendsPath net a b old steps) where
  steps_are : steps ≡ map (step_of net.names) is.path
  steps_are = is.appended ∙ ap (λ (t : List WalkStep). t ++ map (step_of net.names) is.path) none

  pub sum_of-appended : sum_of steps ≡ total (arcs_of is.path)
  sum_of-appended = ap sum_of steps_are ∙ sum_of-named net.names is.path

  pub IsFar-appended : IsFar (arcs_of net.edges) a b (Finite (sum_of steps))
  IsFar-appended = subst (λ (z : ℤ). IsFar (arcs_of net.edges) a b (Finite z)) (sym sum_of-appended) is.is.least

  pub IsPath-appended : AreDistinct net.names → AreInUse net.names net.edges → IsInUse net.names b → IsPath (steps_in_net net) (point_at net.names a) (point_at net.names b) steps
  IsPath-appended distinct used used_b =
      subst (IsPath (steps_in_net net) (point_at net.names a) (point_at net.names b)) (sym steps_are) (IsPath-named net distinct used a b used_b is.path is.is)

-- ---- for the answers of `cycle`

apart_bounds : {x y : ℤ} → Finite x ≡ Finite y → x ≡ y
apart_bounds h = cc

-- a conflict has a way back
pub HasFar-conflict : (edges new : List Edge) (found : Conflict) (e : Edge) → HasDates 0 (arcs_of edges) → e ≡ get_or new found.edge e → IsConflict edges new found → HasFar edges e.to e.from
HasFar-conflict edges new found e dates at conflict = reached (table.table e.to e.from) (table.is_far e.to e.from)
  where
    table : Solved 0 (arcs_of edges)
    table = solved same_number Decides-eqb 0 (arcs_of edges) dates

    reached : (x : Bound) → IsFar (arcs_of edges) e.to e.from x → HasFar edges e.to e.from
    reached (Finite s) far = (s, far)
    reached Free far =
        let F : Edge → Type 0 = λ y. IsFar (arcs_of edges) y.to y.from Free → after y.weight Free ≡ Finite found.sum in
        absurd (none (subst F (sym at) (conflict.sums e Free) far))
      where
        none : {x : ℤ} → Free ≡ Finite x → ⊥
        none h = cc

pub IsCycleBy-appended : (net : Net) (new : List Edge) (found : Conflict) (e : Edge) (old steps : List WalkStep) → AreDistinct net.names → AreInUse net.names net.edges → AreInUse net.names new → e ≡ get_or new found.edge e → IsConflict net.edges new found →
    old ≡ step_of net.names e ∷ [] → AppendsPath net e.to e.from old steps → (d : Edge) → IsCycleBy (steps_in_net net) (step_of net.names (get_or new found.edge d)) found.sum steps
IsCycleBy-appended net new found e old steps distinct used used_new at conflict begun is d =
    let ends : IsInUse net.names e.from × IsInUse net.names e.to = All-contains (λ (x : Edge). IsInUse net.names x.from × IsInUse net.names x.to) new e used_new (found.edge, conflict.place, sym at) in
    let F : Edge → Type 0 = λ y. IsFar (arcs_of net.edges) y.to y.from (Finite (total (arcs_of is.path))) → after y.weight (Finite (total (arcs_of is.path))) ≡ Finite found.sum in
    let sum : e.weight +ℤ total (arcs_of is.path) ≡ found.sum = apart_bounds (subst F (sym at) (conflict.sums e (Finite (total (arcs_of is.path)))) is.is.least) in
    let rest : List WalkStep = map (step_of net.names) is.path in
    let are : steps ≡ step_of net.names e ∷ rest = is.appended ∙ ap (λ (t : List WalkStep). t ++ rest) begun in
    subst (λ (y : Edge). IsCycleBy (steps_in_net net) (step_of net.names y) found.sum steps) (at ∙ get_or_default new found.edge e d conflict.place)
    (record {
      rest = rest;
      are = are;
      back = IsPath-named net distinct used e.to e.from ends.0 is.path is.is;
      sums = ap sum_of are ∙ (ap (λ (z : ℤ). e.weight +ℤ z) (sum_of-named net.names is.path) ∙ sum);
    })
