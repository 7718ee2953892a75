-- The first look at the edges that lead to the suspects of a row.
use Rattle.std.proofs.Common.{◌≡◌, ◌≢◌, ◌∙◌, ◌⊎◌, inl, inr, ℕ, ◌+◌, ◌<◌, ◌≤◌, ◌≤ℤ◌, ◌+ℤ◌, List, [], Option, Some, length, get_or, sym, subst, ap, arith}
use Rattle.std.specs.List.{Contains}
use Rattle.std.proofs.lemmas.Bool.{cases_eq}
use Rattle.std.proofs.lemmas.Int.{ints}
use Rattle.std.proofs.lemmas.List.{get_or-map, length-map}
use Rattle.std.proofs.lemmas.List.Elements.{Contains-get_or}
use Rattle.tmm_model.specs.declared.bound.Bound.{Bound}
use Rattle.tmm_model.specs.declared.bound.Bound.TheVariants.{Finite, Free}
use Rattle.walk_theory.specs.LeastWalks.{AtMost, IsFar}
use Rattle.tmm_model.specs.Bounds.{IfFinite, after}
use Rattle.tmm_model.specs.Walks.{Arc, total}
use Rattle.walk_theory.proofs.Bounds.{AtMost-weaker}
use Rattle.walk_theory.proofs.Walks.{IsWalk-kept}
use Rattle.dist_net.specs.declared.Edge.{Edge}
use Rattle.dist_net.specs.Net.{Net, IsInUse, arc_of, arcs_of}
use Rattle.dist_net.proofs.Ends.{edge_at, ends_in_use}
use Rattle.dist_repair.specs.Ends.{number_at, IsLastOf}
use Rattle.dist_repair.specs.Rows.{rest_of, tos_of, IsStartedRow, IsPresentBeside, ArePlaces, IsSound, IsRelaxed, IsDone, IsDoneAt, AreDone, IsLooked}
use Rattle.dist_repair.proofs.Columns.{StandsFrom, later}
use Rattle.dist_repair.proofs.Detours.{AtMost-after_walk, IsFar-among}
use Rattle.dist_repair.proofs.Left.{IsNet, left_sub}
use Rattle.dist_repair.proofs.Listing.{IsAt, IsAt-before, before_this, not_behind, none_to, places_to}
use Rattle.dist_repair.proofs.Passes.{IsDoneAt-lowered}
use Rattle.dist_repair.proofs.Rows.{left_edge}
use Rattle.dist_repair.proofs.Starts.{IsSound-started}

-- ---- one edge

-- a constraint to whose end the row has the distance
IsDone-end : (rest : List (Arc ℕ)) (a : ℕ) (e : Arc ℕ) (row : ℕ → Bound) → Contains rest e → IsFar rest a e.to (row e.to) → IsDone rest a e row
IsDone-end rest a e row m far s walk small = AtMost-after_walk rest a e (Finite s) (row e.to) s m walk far (omega (arith, ints))

-- a constraint to whose beginning the row had the distance when it was relaxed
pub IsDone-beginning : (rest : List (Arc ℕ)) (a : ℕ) (e : Edge) (old new : ℕ → Bound) → IsFar rest a e.from (old e.from) → IsRelaxed old e new → IsDone rest a (arc_of e) new
IsDone-beginning rest a e old new far relaxed s walk small = relaxed s (subst (AtMost (old e.from)) walk.2 (far.least walk.0 walk.1)) small

-- a constraint that would not lower the row even by the distance over more constraints
pub IsDone-idle : (arcs rest : List (Arc ℕ)) → ((x : Arc ℕ) → Contains rest x → Contains arcs x) → (a : ℕ) (e : Arc ℕ) (row : ℕ → Bound) (first : Bound) → IsFar arcs a e.from first → IfFinite (after e.weight first) (AtMost (row e.to)) → IsDone rest a e row
IsDone-idle arcs rest sub a e row (Finite first) far low s walk small =
    let near : first ≤ℤ total walk.0 = far.least walk.0 (IsWalk-kept rest arcs sub a e.from walk.0 walk.1) in
    AtMost-weaker (row e.to) (e.weight +ℤ first) (s +ℤ e.weight) low (omega (arith, ints, near, walk.2))
IsDone-idle arcs rest sub a e row Free far low s walk small = absurd (far.least walk.0 (IsWalk-kept rest arcs sub a e.from walk.0 walk.1))

-- a present distance that a row over the edges that are left has is that over these
pub IsFar-held_by : (net : Net) (place a q : ℕ) (row : ℕ → Bound) → IsSound net.names (rest_of net place) a row → IsInUse net.names q → IsFar (arcs_of net.edges) a q (row q) → IsFar (rest_of net place) a q (row q)
IsFar-held_by net place a q row sound in_q far = IsFar-among (arcs_of net.edges) (rest_of net place) (left_sub (arcs_of net.edges) place) a q (row q) far (sound.reached q in_q)

-- ---- more and more edges

pub IsLooked-none : (net : Net) (place a : ℕ) (old : ℕ → Bound) (list : List ℕ) → IsSound net.names (rest_of net place) a old → ArePlaces net place list → IsLooked net place a old list old list
IsLooked-none net place a old list sound places = record {
  sound = sound;
  lowered = λ q s in_q h. h;
  places = places;
  kept = λ j m. m;
}

pub IsLooked-trans : (net : Net) (place a : ℕ) (old now next : ℕ → Bound) (before list more : List ℕ) → IsLooked net place a old before now list → IsLooked net place a now list next more → IsLooked net place a old before next more
IsLooked-trans net place a old now next before list more x y = record {
  sound = y.sound;
  lowered = λ q s in_q h. y.lowered q s in_q (x.lowered q s in_q h);
  places = y.places;
  kept = λ j m. y.kept j (x.kept j m);
}

module _ (net : Net) (place a : ℕ) (known : IsNet net) (now next : ℕ → Bound) (list more : List ℕ) (step : IsLooked net place a now list next more) where
  still_done : (j : ℕ) → j < length net.edges → IsDoneAt net place list a now j → IsDoneAt net place more a next j
  still_done j below = IsDoneAt-lowered net place a known j below now next step.lowered list more step.kept

-- ---- the edges that lead to one point

-- those behind the present place are done with
pub record IsLooking (net : Net) (place a p : ℕ) (numbers : List ℕ) (old : ℕ → Bound) (before : List ℕ) (at : Option ℕ) (now : ℕ → Bound) (list : List ℕ) : Type 0 where
  pub looked : IsLooked net place a old before now list
  pub each : (j : ℕ) → j < length net.edges → j ≢ place → number_at numbers j ≡ p → IsDoneAt net place list a now j ⊎ (j < places_to at)
  pub here : IsAt numbers p at

module _ (net : Net) (place a p : ℕ) (numbers : List ℕ) (old : ℕ → Bound) (before : List ℕ) (same : numbers ≡ tos_of net.edges) where
  all : length numbers ≡ length net.edges
  all = ap length same ∙ length-map net.edges (λ (e : Edge). e.to)

  module _ (now : ℕ → Bound) (list : List ℕ) (i : ℕ) (is : IsLooking net place a p numbers old before (Some i) now list) (next_at : Option ℕ) (next_is : IsLastOf numbers (number_at numbers i) i next_at) where
    waits : (j : ℕ) → j < places_to (Some i) → j ≢ i → number_at numbers j ≡ p → j < places_to next_at
    waits j to differ there = not_behind numbers p i next_at j (before_this numbers p i is.here next_at next_is) (omega (arith, to, differ)) there

    -- the edge at the place is looked at
    pub IsLooking-more : (next : ℕ → Bound) (more : List ℕ) → IsNet net → IsLooked net place a now list next more → IsDoneAt net place more a next i → IsLooking net place a p numbers old before next_at next more
    IsLooking-more next more known step done = record {
      looked = IsLooked-trans net place a old now next before list more is.looked step;
      each = λ j below ne there.
          elim (is.each j below ne there) [
            | inl d ↦ inl (still_done net place a known now next list more step j below d)
            | inr to ↦ elim (cases_eq j i) [
              | inl e ↦ inl (subst (IsDoneAt net place more a next) (sym e) done)
              | inr differ ↦ inr (waits j to differ there)
            ]
          ];
      here = IsAt-before numbers p i is.here next_at next_is;
    }

    -- the edge that leaves is passed over
    pub IsLooking-skip : i ≡ place → IsLooking net place a p numbers old before next_at now list
    IsLooking-skip leaves = record {
      looked = is.looked;
      each = λ j below ne there.
          elim (is.each j below ne there) [
            | inl d ↦ inl d
            | inr to ↦ inr (waits j to (λ (e : j ≡ i). ne (e ∙ leaves)) there)
          ];
      here = IsAt-before numbers p i is.here next_at next_is;
    }

-- at the end all are
pub IsDoneAt-looked : (net : Net) (place a p : ℕ) (numbers : List ℕ) (old now : ℕ → Bound) (before list : List ℕ) (at : Option ℕ) → ((i : ℕ) → at ≡ Some i → ⊥) → IsLooking net place a p numbers old before at now list →
    (j : ℕ) → j < length net.edges → j ≢ place → number_at numbers j ≡ p → IsDoneAt net place list a now j
IsDoneAt-looked net place a p numbers old now before list at none is j below ne there =
    elim (is.each j below ne there) [ inl d ↦ d | inr to ↦ absurd (omega (arith, to, none_to at none)) ]

-- ---- all edges

-- those that lead to the first i points are done with, and those that lead to no point are
pub record IsSurveying (net : Net) (place a : ℕ) (numbers points : List ℕ) (old : ℕ → Bound) (i : ℕ) (now : ℕ → Bound) (list : List ℕ) : Type 0 where
  pub looked : IsLooked net place a old [] now list
  pub each : (j : ℕ) → j < length net.edges → j ≢ place → IsDoneAt net place list a now j ⊎ StandsFrom points i (number_at numbers j)

module _ (net : Net) (place a : ℕ) (numbers points : List ℕ) (known : IsNet net) (old : ℕ → Bound) where
  pub IsSurveying-start : numbers ≡ tos_of net.edges → IsStartedRow net place a old → IsPresentBeside net points a old → IsSurveying net place a numbers points old 0 old []
  IsSurveying-start same started beside =
      let sound : IsSound net.names (rest_of net place) a old = IsSound-started net place a old started in
      record {
        looked = IsLooked-none net place a old [] sound (λ k d lt. absurd (omega (arith, lt)));
        each = λ j below ne.
            (let e : (e : Edge) × ((d : Edge) → get_or net.edges j d ≡ e) = edge_at net.edges j below in
            let at : number_at numbers j ≡ e.0.to = ap (λ (l : List ℕ). number_at l j) same ∙ (get_or-map (λ (f : Edge). f.to) net.edges j e.0 256 below ∙ ap (λ (f : Edge). f.to) (e.1 e.0)) in
            let in_to : IsInUse net.names e.0.to = subst (λ (f : Edge). IsInUse net.names f.to) (e.1 e.0) (ends_in_use net.names net.edges (get_or net.edges j e.0) known.used (Contains-get_or net.edges j e.0 below)).1 in
            elim (beside e.0.to in_to) [
              | inl m ↦ inr (subst (StandsFrom points 0) (sym at) (m.0, omega arith, m.1, m.2))
              | inr far ↦ inl (λ d.
                  inr (subst (λ (f : Edge). IsDone (rest_of net place) a (arc_of f) old) (sym (e.1 d))
                  (IsDone-end (rest_of net place) a (arc_of e.0) old (subst (λ (f : Edge). Contains (rest_of net place) (arc_of f)) (e.1 d) (left_edge net place j d below ne)) (IsFar-held_by net place a e.0.to old sound in_to far))))
            ]);
      }

  -- the edges that lead to one point more are looked at
  pub IsSurveying-more : (now next : ℕ → Bound) (list more : List ℕ) (i p : ℕ) → IsSurveying net place a numbers points old i now list → p ≡ get_or points i p → IsLooked net place a now list next more →
      ((j : ℕ) → j < length net.edges → j ≢ place → number_at numbers j ≡ p → IsDoneAt net place more a next j) → IsSurveying net place a numbers points old (i + 1) next more
  IsSurveying-more now next list more i p is at step done = record {
    looked = IsLooked-trans net place a old now next [] list more is.looked step;
    each = λ j below ne.
        elim (is.each j below ne) [
          | inl d ↦ inl (still_done net place a known now next list more step j below d)
          | inr s ↦ elim (cases_eq (number_at numbers j) p) [
            | inl there ↦ inl (done j below ne there)
            | inr other ↦ inr (later points i p (number_at numbers j) at other s)
          ]
        ];
  }

-- at the end all are
pub AreDone-surveyed : (net : Net) (place a : ℕ) (numbers points : List ℕ) (old now : ℕ → Bound) (list : List ℕ) (i : ℕ) → length points ≤ i → IsSurveying net place a numbers points old i now list → AreDone net place list a now
AreDone-surveyed net place a numbers points old now list i end is j below ne =
    elim (is.each j below ne) [ inl d ↦ d | inr s ↦ absurd (omega (arith, s.1, s.2, end)) ]
