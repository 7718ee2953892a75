-- A least walk followed from rank to rank.
use Rattle.std.proofs.Common.{◌≡◌, ◌∙◌, ◌⊎◌, inl, inr, ℕ, ◌+◌, ◌<◌, ◌≤◌, List, [], ◌∷◌, ◌++◌, length, get_or, ap, sym, subst, arith, refl, ℤ, pos, ◌+ℤ◌, ◌≤ℤ◌, true, false, eqb}
use Rattle.std.specs.List.{All, Contains, IsDistinct, list_any}
use Rattle.std.proofs.lemmas.Bool.{cases_eq, eqb-true, or_cases, or_left, or_right, false_from_ne_true, false≢true}
use Rattle.std.proofs.lemmas.Map.Keys.{IsDistinct-cons, IsDistinct-push}
use Rattle.std.proofs.lemmas.Int.{ints}
use Rattle.std.proofs.lemmas.List.{map-append, get_or_default}
use Rattle.std.proofs.lemmas.List.Elements.{All-push}
use Rattle.tmm_model.specs.declared.bound.Bound.TheVariants.{Finite}
use Rattle.tmm_model.specs.Walks.{Arc, HasDates, total}
use Rattle.walk_theory.specs.LeastWalks.{IsWalk, IsFar, HasWalk, points}
use Rattle.walk_theory.proofs.Members.{Contains-map, Contains-map_from}
use Rattle.walk_theory.proofs.Paths.{IsFar-same}
use Rattle.walk_theory.proofs.Sizes.{Fits-round}
use Rattle.walk_theory.proofs.Walks.{IsWalk-append, total-append}
use Rattle.dist_net.specs.declared.Edge.{Edge}
use Rattle.dist_net.specs.Net.{arc_of, arcs_of, same_number}
use Rattle.neg_cycle.specs.declared.ranks.Ways.{Ways}
use Rattle.neg_cycle.specs.Ends.{IsAt}
use Rattle.neg_cycle.specs.Ranks.{HasFar, IsTight, IsNext, AreWays, IsFurther, IsVisited, IsLeastPath}
use Rattle.neg_cycle.proofs.Ranked.{IsDistinct-none, eqb_laws, IsVisited-kept}

-- each edge with which a least walk to b begins is from a ranked point, where it leads to one
abbrev pub IsClosed : List Edge → ℕ → List ℕ → Type 0
IsClosed edges b rank = (place : ℕ) (e : Edge) → IsAt edges place e → IsTight edges b e → 0 < get_or rank e.to 0 → 0 < get_or rank e.from 0

-- what is left of a least walk is a least walk
least_tail : (arcs : List (Arc ℕ)) (p b : ℕ) (e : Arc ℕ) (walk : List (Arc ℕ)) → IsWalk arcs p b (e ∷ walk) → IsFar arcs p b (Finite (e.weight +ℤ total walk)) → IsFar arcs e.to b (Finite (total walk))
least_tail arcs p b e walk h far = record {
  reached = (walk, h.2, refl);
  least = λ v k. (let le : (e.weight +ℤ total walk) ≤ℤ (e.weight +ℤ total v) = far.least (e ∷ v) (h.0, h.1, k) in omega (arith, ints));
}

-- then each point of a least walk to b is ranked
ranked_from : (edges : List Edge) (b : ℕ) (rank : List ℕ) → 0 < get_or rank b 0 → IsClosed edges b rank → (p : ℕ) (walk : List (Arc ℕ)) → IsWalk (arcs_of edges) p b walk → IsFar (arcs_of edges) p b (Finite (total walk)) → 0 < get_or rank p 0
ranked_from edges b rank at_end closed p [] h far = subst (λ (q : ℕ). 0 < get_or rank q 0) (sym h) at_end
ranked_from edges b rank at_end closed p (x ∷ walk) h far =
    let arcs : List (Arc ℕ) = arcs_of edges in
    let rest : IsFar arcs x.to b (Finite (total walk)) = least_tail arcs p b x walk h far in
    let some : 0 < get_or rank x.to 0 = ranked_from edges b rank at_end closed x.to walk h.2 rest in
    let r : (e : Edge) × Contains edges e × (arc_of e ≡ x) = Contains-map_from arc_of edges x h.0 in
    let P : Arc ℕ → Type 0 = λ y. ((t : ℤ) × IsFar arcs y.to b (Finite t) × IsFar arcs y.from b (Finite (y.weight +ℤ t))) → 0 < get_or rank y.to 0 → 0 < get_or rank y.from 0 in
    let leads : P (arc_of r.0) = λ tight to. closed r.1.0 r.0 (r.1.1, r.1.2) tight to in
    subst (λ (q : ℕ). 0 < get_or rank q 0) h.1 (subst P r.2 leads (total walk, rest, subst (λ (q : ℕ). IsFar arcs q b (Finite (x.weight +ℤ total walk))) (sym h.1) far) some)

-- ---- going through the ranked points

-- the first `done` of the ranked points are gone through
abbrev pub IsThrough : List Edge → ℕ → ℕ → List ℕ → List ℕ → Type 0
IsThrough edges b done rank ranked = (k : ℕ) → k < done → IsVisited edges b rank (get_or ranked k 0)

pub IsThrough-more : (edges : List Edge) (b done : ℕ) (old new : Ways) → done < length old.ranked.items → IsThrough edges b done old.rank.items old.ranked.items → IsFurther old new →
    IsVisited edges b new.rank.items (get_or old.ranked.items done 0) → IsThrough edges b (done + 1) new.rank.items new.ranked.items
IsThrough-more edges b done old new lt is further here k below =
    let begins : get_or new.ranked.items k 0 ≡ get_or old.ranked.items k 0 = further.begins k (omega (arith, lt, below)) in
    subst (IsVisited edges b new.rank.items) (sym begins)
    (elim (cases_eq k done) [
      | inl same ↦ subst (λ (j : ℕ). IsVisited edges b new.rank.items (get_or old.ranked.items j 0)) (sym same) here
      | inr other ↦ IsVisited-kept edges b (get_or old.ranked.items k 0) old.rank.items new.rank.items further.kept (is k (omega (arith, below, other)))
    ])

-- when all are gone through, every point with a walk to b is ranked
pub all_ranked : (edges : List Edge) (a b done : ℕ) (ways : Ways) → AreWays edges b ways → IsThrough edges b done ways.rank.items ways.ranked.items → length ways.ranked.items ≤ done → HasFar edges a b → 0 < get_or ways.rank.items a 0
all_ranked edges a b done ways are through all (s, far) =
    let r : HasWalk (arcs_of edges) a b s = far.reached in
    ranked_from edges b ways.rank.items are.leading.at_end closed a r.0 r.1 (subst (λ (z : ℤ). IsFar (arcs_of edges) a b (Finite z)) (sym r.2) far)
  where
    closed : IsClosed edges b ways.rank.items
    closed place e at tight some =
        let m : Contains ways.ranked.items e.to = are.listed.all e.to some in
        let is : get_or ways.ranked.items m.0 0 ≡ e.to = get_or_default ways.ranked.items m.0 0 e.to m.1 ∙ m.2 in
        through m.0 (omega (arith, m.1, all)) place e at (sym is) tight

-- ---- following

-- the steps lead from a to the point, and a least walk goes on from there to b
pub record IsFollowing (edges : List Edge) (a b : ℕ) (rank : List ℕ) (at : ℕ) (steps : List Edge) : Type 0 where
  pub walk : IsWalk (arcs_of edges) a at (arcs_of steps)
  pub own : All (Contains edges) steps
  pub ranked : 0 < get_or rank at 0
  pub rest : ℤ
  pub far : IsFar (arcs_of edges) a b (Finite (total (arcs_of steps) +ℤ rest))
  pub rest_far : IsFar (arcs_of edges) at b (Finite rest)
  pub distinct : IsDistinct same_number (points (arcs_of steps) at)
  pub above : (q : ℕ) → list_any (eqb q) (points (arcs_of steps) at) ≡ true → get_or rank at 0 ≤ get_or rank q 0

points-push : (walk : List (Arc ℕ)) (e : Arc ℕ) (b : ℕ) → points (walk ++ e ∷ []) b ≡ points walk e.from ++ b ∷ []
points-push [] e b = refl
points-push (x ∷ walk) e b = ap (λ (t : List ℕ). x.from ∷ t) (points-push walk e b)

-- the point behind the last is not visited before: its rank is lower
fresh : (edges : List Edge) (a b : ℕ) (rank : List ℕ) (at next : ℕ) (steps : List Edge) → IsFollowing edges a b rank at steps → get_or rank next 0 < get_or rank at 0 → list_any (eqb next) (points (arcs_of steps) at) ≡ false
fresh edges a b rank at next steps is lower =
    false_from_ne_true (list_any (eqb next) (points (arcs_of steps) at)) (λ t. omega (arith, is.above next t, lower))

list_any-push : (q b : ℕ) (ps : List ℕ) → list_any (eqb q) (ps ++ b ∷ []) ≡ true → (list_any (eqb q) ps ≡ true) ⊎ (q ≡ b)
list_any-push q b [] t = elim (or_cases (eqb q b) false t) [ inl same ↦ inr (eqb-true q b same) | inr k ↦ absurd (false≢true k) ]
list_any-push q b (p ∷ ps) t =
    elim (or_cases (eqb q p) (list_any (eqb q) (ps ++ b ∷ [])) t) [
      | inl same ↦ inl (or_left (eqb q p) (list_any (eqb q) ps) same)
      | inr k ↦ elim (list_any-push q b ps k) [ inl m ↦ inl (or_right (eqb q p) (list_any (eqb q) ps) m) | inr e ↦ inr e ]
    ]

pub IsFollowing-start : (edges : List Edge) (a b : ℕ) (rank : List ℕ) (s : ℤ) → 0 < get_or rank a 0 → IsFar (arcs_of edges) a b (Finite s) → IsFollowing edges a b rank a []
IsFollowing-start edges a b rank s some far = record {
  ranked = some;
  walk = refl;
  own = λ k d lt. absurd (omega (arith, lt));
  rest = s;
  far = let same : s ≡ pos 0 +ℤ s = omega (arith, ints) in subst (λ (z : ℤ). IsFar (arcs_of edges) a b (Finite z)) same far;
  rest_far = far;
  distinct = IsDistinct-cons eqb a [] tt IsDistinct-none;
  above = λ q t. elim (or_cases (eqb q a) false t) [ inl same ↦ omega (arith, ap (λ (p : ℕ). get_or rank p 0) (eqb-true q a same)) | inr k ↦ absurd (false≢true k) ];
}

pub IsFollowing-more : (edges : List Edge) (a b : ℕ) (rank : List ℕ) (at : ℕ) (steps : List Edge) (e : Edge) → IsFollowing edges a b rank at steps → IsNext edges b rank at e → IsFollowing edges a b rank e.to (steps ++ e ∷ [])
IsFollowing-more edges a b rank at steps e is l =
    let arcs : List (Arc ℕ) = arcs_of edges in
    let pushed : arcs_of (steps ++ e ∷ []) ≡ arcs_of steps ++ arc_of e ∷ [] = map-append arc_of steps (e ∷ []) in
    let m : Contains arcs (arc_of e) = Contains-map arc_of edges e l.member in
    let t : ℤ = l.tight.0 in
    let same : is.rest ≡ e.weight +ℤ t =
    finite_same is.rest (e.weight +ℤ t) (IsFar-same arcs at b (Finite is.rest) (Finite (e.weight +ℤ t)) is.rest_far (subst (λ (p : ℕ). IsFar arcs p b (Finite (e.weight +ℤ t))) l.from l.tight.2)) in
    let sum : total (arcs_of steps) +ℤ is.rest ≡ total (arcs_of (steps ++ e ∷ [])) +ℤ t =
    omega (arith, ints, same, ap total pushed, total-append (arcs_of steps) (arc_of e ∷ [])) in
    let seen : points (arcs_of (steps ++ e ∷ [])) e.to ≡ points (arcs_of steps) at ++ e.to ∷ [] =
    ap (λ (w : List (Arc ℕ)). points w e.to) pushed ∙ (points-push (arcs_of steps) (arc_of e) e.to ∙ ap (λ (p : ℕ). points (arcs_of steps) p ++ e.to ∷ []) l.from) in
    record {
      walk = subst (λ (w : List (Arc ℕ)). IsWalk arcs a e.to w) (sym pushed) (IsWalk-append arcs a at e.to (arcs_of steps) (arc_of e ∷ []) is.walk (m, l.from, refl));
      own = All-push (Contains edges) steps e is.own l.member;
      ranked = l.ranked;
      rest = t;
      far = subst (λ (z : ℤ). IsFar arcs a b (Finite z)) sum is.far;
      rest_far = l.tight.1;
      distinct = subst (IsDistinct same_number) (sym seen) (IsDistinct-push eqb_laws (points (arcs_of steps) at) e.to is.distinct (fresh edges a b rank at e.to steps is l.lower));
      above = λ q visited.
          elim (list_any-push q e.to (points (arcs_of steps) at) (subst (λ (ps : List ℕ). list_any (eqb q) ps ≡ true) seen visited))
          [ inl before ↦ omega (arith, is.above q before, l.lower) | inr here ↦ omega (arith, ap (λ (p : ℕ). get_or rank p 0) here) ];
    }
  where
    finite_same : (x y : ℤ) → Finite x ≡ Finite y → x ≡ y
    finite_same x y h = cc

pub IsLeastPath-end : (edges : List Edge) (a b : ℕ) (rank : List ℕ) (at : ℕ) (steps : List Edge) → HasDates 0 (arcs_of edges) → at ≡ b → IsFollowing edges a b rank at steps → IsLeastPath edges a b steps
IsLeastPath-end edges a b rank at steps dates same is =
    let arcs : List (Arc ℕ) = arcs_of edges in
    let rest_far : IsFar arcs b b (Finite is.rest) = subst (λ (p : ℕ). IsFar arcs p b (Finite is.rest)) same is.rest_far in
    let low : is.rest ≤ℤ pos 0 = rest_far.least [] refl in
    let high : pos 0 ≤ℤ (pos 0 +ℤ is.rest) = Fits-round 0 arcs dates b (Finite is.rest) rest_far in
    let sum : total (arcs_of steps) +ℤ is.rest ≡ total (arcs_of steps) = omega (arith, ints, low, high) in
    record {
      walk = subst (λ (p : ℕ). IsWalk arcs a p (arcs_of steps)) same is.walk;
      own = is.own;
      least = subst (λ (z : ℤ). IsFar arcs a b (Finite z)) sum is.far;
      distinct = subst (λ (p : ℕ). IsDistinct same_number (points (arcs_of steps) p)) same is.distinct;
    }
