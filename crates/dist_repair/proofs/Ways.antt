-- Distances from a point to which no edge leads, and to one to which one edge alone does.
use Rattle.std.proofs.Common.{◌≡◌, ◌≢◌, ◌∙◌, ◌⊎◌, inl, inr, ℕ, ◌+◌, ◌<◌, ◌≤◌, List, [], ◌∷◌, ◌++◌, length, get_or, ℤ, ◌+ℤ◌, ap, sym, subst, arith, refl}
use Rattle.std.specs.List.{All, Contains}
use Rattle.std.proofs.lemmas.Bool.{cases_eq}
use Rattle.std.proofs.lemmas.Bool.Decides.{Decides-eqb}
use Rattle.std.proofs.lemmas.Int.{ints}
use Rattle.std.proofs.lemmas.List.{get_or-map, get_or_default, length-map}
use Rattle.std.proofs.lemmas.List.Elements.{All-contains, All-push, Contains-append_left}
use Rattle.tmm_model.specs.declared.bound.Bound.{Bound}
use Rattle.tmm_model.specs.declared.bound.Bound.TheVariants.{Finite, Free}
use Rattle.tmm_model.specs.Bounds.{IfFinite, after, lesser}
use Rattle.tmm_model.specs.Walks.{Arc, total}
use Rattle.walk_theory.specs.LeastWalks.{AtMost, HasWalk, IsFar, IsWalk}
use Rattle.walk_theory.proofs.Bounds.{AtMost-after, AtMost-lesser_left, AtMost-lesser_right, IfFinite-lesser}
use Rattle.walk_theory.proofs.Dates.{Solved}
use Rattle.walk_theory.proofs.Reach.{solved}
use Rattle.walk_theory.proofs.Walks.{IsWalk-kept}
use Rattle.dist_net.specs.declared.Edge.{Edge}
use Rattle.dist_net.specs.Net.{Net, Nets, IsInUse, IsFarWithout, arc_of, arcs_of, entry, same_number}
use Rattle.dist_net.proofs.Ends.{edge_at, in_places}
use Rattle.dist_repair.specs.Rows.{rest_of, IsFrom, IsTo, IsTight, IsTightArc, KeepsRow, IsPresentRow, IsFarRow, ChangesRow}
use Rattle.dist_repair.specs.Ways.{IsWayOut, AreWaysOut, KeepsEnd, IsWayIn}
use Rattle.dist_repair.proofs.Columns.{Contains-last}
use Rattle.dist_repair.proofs.Detours.{IsFar-past}
use Rattle.dist_repair.proofs.Keeping.{KeepsRow-loose, KeepsRow-end}
use Rattle.dist_repair.proofs.Left.{IsNet, Adds-remove, IsFar-taken, left_at, left_from, left_sub}
use Rattle.dist_repair.proofs.Starts.{IsFar-to_first, ChangesRow-none, ChangesRow-trans}

-- ---- constraints and the edges that they are

-- a constraint is an edge
edge_of : (net : Net) (x : Arc ℕ) → Contains (arcs_of net.edges) x → (j : ℕ) × (j < length net.edges) × ((d : Edge) → arc_of (get_or net.edges j d) ≡ x)
edge_of net x m =
    let below : m.0 < length net.edges = omega (arith, m.1, length-map net.edges arc_of) in
    (m.0, below, λ d. sym (get_or-map arc_of net.edges m.0 d x below) ∙ m.2)

-- one that is left is another edge than that at the place
left_edge_of : (net : Net) (place : ℕ) (x : Arc ℕ) → Contains (rest_of net place) x → (j : ℕ) × (j < length net.edges) × (j ≢ place) × ((d : Edge) → arc_of (get_or net.edges j d) ≡ x)
left_edge_of net place x m =
    let l : (j : ℕ) × (j < length (arcs_of net.edges)) × (j ≢ place) × (get_or (arcs_of net.edges) j x ≡ x) = left_from (arcs_of net.edges) place x m in
    let below : l.0 < length net.edges = omega (arith, l.1, length-map net.edges arc_of) in
    (l.0, below, l.2, λ d. sym (get_or-map arc_of net.edges l.0 d x below) ∙ l.3)

-- where no constraint leads to b, no walk from another point does
no_walk_to : (arcs : List (Arc ℕ)) (b : ℕ) → ((x : Arc ℕ) → Contains arcs x → x.to ≡ b → ⊥) → (a : ℕ) → (a ≡ b → ⊥) → (walk : List (Arc ℕ)) → IsWalk arcs a b walk → ⊥
no_walk_to arcs b none a ne [] h = ne h
no_walk_to arcs b none a ne (x ∷ walk) h = no_walk_to arcs b none x.to (none x h.0) walk h.2

-- ---- from a point to which no edge leads

-- a bound on the ways to b that begin with the first k edges of the list
pub record IsLeastOut (net : Net) (place u : ℕ) (list : List ℕ) (b k : ℕ) (x : Bound) : Type 0 where
  pub reached : IfFinite x (HasWalk (rest_of net place) u b)
  pub least : (i j : ℕ) → i < k → i < length list → get_or list i j ≡ j → (d : Edge) (far : Bound) (s : ℤ) → IsFar (arcs_of net.edges) (get_or net.edges j d).to b far → AtMost far s → AtMost x ((get_or net.edges j d).weight +ℤ s)

module _ (net : Net) (place u : ℕ) (known : IsNet net) (lt : place < length net.edges) (from : IsFrom net place u) (list : List ℕ) (ways : AreWaysOut net place u list) where
  unled : (x : Arc ℕ) → Contains (arcs_of net.edges) x → x.to ≡ u → ⊥
  unled x m same =
      let j : (j : ℕ) × (j < length net.edges) × ((d : Edge) → arc_of (get_or net.edges j d) ≡ x) = edge_of net x m in
      ways.none j.0 j.1 (λ d. ap (λ (y : Arc ℕ). y.to) (j.2 d) ∙ same)

  -- **All distances from other points stay.**
  pub KeepsRow-beside : (a : ℕ) → (a ≡ u → ⊥) → KeepsRow net place a
  KeepsRow-beside a ne =
      let e : (e : Edge) × ((d : Edge) → get_or net.edges place d ≡ e) = edge_at net.edges place lt in
      KeepsRow-loose net place known lt a
      (λ (tight : IsTight net place a).
      (let t : IsTightArc (arcs_of net.edges) (arc_of (get_or net.edges place e.0)) a = tight e.0 in
      let r : HasWalk (arcs_of net.edges) a (get_or net.edges place e.0).from t.0 = t.1.reached in
      no_walk_to (arcs_of net.edges) u unled a ne r.0 (subst (λ (p : ℕ). IsWalk (arcs_of net.edges) a p r.0) (from e.0) r.1)))

  before : (b : ℕ) (e : Edge) (far : Bound) → Contains (rest_of net place) (arc_of e) → e.from ≡ u → IfFinite far (HasWalk (rest_of net place) e.to b) → IfFinite (after e.weight far) (HasWalk (rest_of net place) u b)
  before b e (Finite s) m at h = (arc_of e ∷ h.0, (m, at, h.1), omega (arith, ints, h.2))
  before b e Free m at h = tt

  module _ (b : ℕ) where
    pub IsLeastOut-none : IsLeastOut net place u list b 0 Free
    IsLeastOut-none = record { reached = tt; least = λ i j below short at. absurd (omega (arith, below)) }

    -- one edge more
    pub IsLeastOut-more : (k j : ℕ) (x y : Bound) → IsLeastOut net place u list b k x → k < length list → j ≡ get_or list k j → ((d : Edge) (far : Bound) → IsFar (arcs_of net.edges) (get_or net.edges j d).to b far → y ≡ after (get_or net.edges j d).weight far) → IsLeastOut net place u list b (k + 1) (lesser x y)
    IsLeastOut-more k j x y is short at by =
        let arcs : List (Arc ℕ) = arcs_of net.edges in
        let s : Solved 0 arcs = solved same_number Decides-eqb 0 arcs known.dates in
        let way : IsWayOut net place u j = All-contains (IsWayOut net place u) list j ways.ways (k, short, sym at) in
        let there : (e : Edge) × ((d : Edge) → get_or net.edges j d ≡ e) = edge_at net.edges j way.below in
        let e : Edge = get_or net.edges j there.0 in
        let far : Bound = s.table e.to b in
        let beside : e.to ≡ u → ⊥ = λ same. ways.none j way.below (λ d. ap (λ (g : Edge). g.to) (there.1 d ∙ sym (there.1 there.0)) ∙ same) in
        let stays : IsFar (rest_of net place) e.to b far = KeepsRow-beside e.to beside b far (s.is_far e.to b) in
        let m : Contains (rest_of net place) (arc_of e) =
        subst (Contains (rest_of net place)) (get_or-map arc_of net.edges j there.0 (arc_of e) way.below) (left_at arcs place j (arc_of e) (omega (arith, way.below, length-map net.edges arc_of)) way.other) in
        let P : ℤ → Type 0 = HasWalk (rest_of net place) u b in
        record {
          reached = IfFinite-lesser x y P is.reached (subst (λ (z : Bound). IfFinite z P) (sym (by there.0 far (s.is_far e.to b))) (before b e far m (way.from there.0) stays.reached));
          least = λ i q below in_list here d near t is_near h.
              elim (cases_eq i k) [
                | inl last ↦ (let same : j ≡ q = at ∙ (get_or_default list k j q short ∙ (ap (λ (n : ℕ). get_or list n q) (sym last) ∙ here)) in
                    let ends : get_or net.edges q d ≡ get_or net.edges j d = ap (λ (n : ℕ). get_or net.edges n d) (sym same) in
                    let near_j : IsFar arcs (get_or net.edges j d).to b near = subst (λ (g : Edge). IsFar arcs g.to b near) ends is_near in
                    let low : AtMost y ((get_or net.edges j d).weight +ℤ t) = subst (λ (z : Bound). AtMost z ((get_or net.edges j d).weight +ℤ t)) (sym (by d near near_j)) (AtMost-after (get_or net.edges j d).weight near t h) in
                    subst (λ (g : Edge). AtMost (lesser x y) (g.weight +ℤ t)) (sym ends) (AtMost-lesser_right x y ((get_or net.edges j d).weight +ℤ t) low))
                | inr other ↦ AtMost-lesser_left x y ((get_or net.edges q d).weight +ℤ t) (is.least i q (omega (arith, below, other)) in_list here d near t is_near h)
              ];
        }

    -- **The least of them all is the distance.**
    pub IsFar-least_out : (k : ℕ) (x : Bound) → length list ≤ k → (b ≡ u → ⊥) → IsLeastOut net place u list b k x → IsFar (rest_of net place) u b x
    IsFar-least_out k x all ne is = record { reached = is.reached; least = low }
      where
        low : (walk : List (Arc ℕ)) → IsWalk (rest_of net place) u b walk → AtMost x (total walk)
        low [] h = absurd (ne (sym h))
        low (y ∷ walk) h =
            let arcs : List (Arc ℕ) = arcs_of net.edges in
            let s : Solved 0 arcs = solved same_number Decides-eqb 0 arcs known.dates in
            let j : (j : ℕ) × (j < length net.edges) × (j ≢ place) × ((d : Edge) → arc_of (get_or net.edges j d) ≡ y) = left_edge_of net place y h.0 in
            let d : Edge = (edge_at net.edges j.0 j.1).0 in
            let m : Contains list j.0 = ways.all j.0 (record { below = j.1; other = j.2; from = λ c. ap (λ (z : Arc ℕ). z.from) (j.3 c) ∙ h.1 }) in
            let far : Bound = s.table y.to b in
            let near : AtMost far (total walk) = (s.is_far y.to b).least walk (IsWalk-kept (rest_of net place) arcs (left_sub arcs place) y.to b walk h.2) in
            let P : Arc ℕ → Type 0 = λ z. IsFar arcs z.to b far → AtMost x (z.weight +ℤ total walk) in
            subst P (j.3 d) (λ is_far. is.least m.0 j.0 (omega (arith, m.1, all)) m.1 m.2 d far (total walk) is_far near) (s.is_far y.to b)

-- the edges before the one at i are looked at
pub record AreWaysTo (net : Net) (place u i : ℕ) (list : List ℕ) : Type 0 where
  pub none : (j : ℕ) → j < i → j < length net.edges → IsTo net j u → ⊥
  pub ways : All (IsWayOut net place u) list
  pub all : (j : ℕ) → j < i → IsWayOut net place u j → Contains list j

module _ (net : Net) (place u i : ℕ) (list : List ℕ) (e : Edge) (is : AreWaysTo net place u i list) where
  none_yet : ((d : Edge) → e ≡ get_or net.edges i d) → e.to ≢ u → (j : ℕ) → j < i + 1 → j < length net.edges → IsTo net j u → ⊥
  none_yet at ne j before below to =
      elim (cases_eq j i) [
        | inl same ↦ ne (ap (λ (g : Edge). g.to) (at e) ∙ (ap (λ (n : ℕ). (get_or net.edges n e).to) (sym same) ∙ to e))
        | inr other ↦ is.none j (omega (arith, before, other)) below to
      ]

  -- the edge at i begins elsewhere, or is that at the place
  pub AreWaysTo-skip : ((d : Edge) → e ≡ get_or net.edges i d) → e.to ≢ u → (e.from ≡ u → i ≢ place → ⊥) → AreWaysTo net place u (i + 1) list
  AreWaysTo-skip at ne out = record {
    none = none_yet at ne;
    ways = is.ways;
    all = λ j before way.
        elim (cases_eq j i) [
          | inl same ↦ absurd (out (ap (λ (g : Edge). g.from) (at e) ∙ (ap (λ (n : ℕ). (get_or net.edges n e).from) (sym same) ∙ way.from e)) (λ here. way.other (same ∙ here)))
          | inr other ↦ is.all j (omega (arith, before, other)) way
        ];
  }

  -- it is listed
  pub AreWaysTo-more : i < length net.edges → ((d : Edge) → e ≡ get_or net.edges i d) → e.to ≢ u → e.from ≡ u → i ≢ place → AreWaysTo net place u (i + 1) (list ++ i ∷ [])
  AreWaysTo-more below at ne begins differs = record {
    none = none_yet at ne;
    ways = All-push (IsWayOut net place u) list i is.ways (record { below = below; other = differs; from = λ d. sym (ap (λ (g : Edge). g.from) (at d)) ∙ begins });
    all = λ j before way.
        elim (cases_eq j i) [
          | inl same ↦ subst (Contains (list ++ i ∷ [])) (sym same) (Contains-last list i)
          | inr other ↦ Contains-append_left list (i ∷ []) j (is.all j (omega (arith, before, other)) way)
        ];
  }

-- the distances to points below `done` are drafted
pub record IsDraftingOut (old : Nets) (place u done : ℕ) (now : Nets) : Type 0 where
  pub far : (q : ℕ) → q < done → IsInUse old.present.names q → (q ≡ u → ⊥) → IsFar (rest_of old.present place) u q (entry now.draft u q)
  pub itself : entry now.draft u u ≡ entry old.draft u u
  pub changes : ChangesRow u old now

module _ (old : Nets) (place u : ℕ) (known : IsNet old.present) where
  pub IsDraftingOut-none : IsDraftingOut old place u 0 old
  IsDraftingOut-none = record { far = λ q below in_q ne. absurd (omega (arith, below)); itself = refl; changes = ChangesRow-none u old }

  module _ (b : ℕ) (now : Nets) (is : IsDraftingOut old place u b now) where
    pub IsDraftingOut-skip : (IsInUse old.present.names b → b ≡ u) → IsDraftingOut old place u (b + 1) now
    IsDraftingOut-skip here = record {
      far = λ q below in_q ne.
          elim (cases_eq q b) [
            | inl same ↦ absurd (ne (same ∙ here (subst (IsInUse old.present.names) same in_q)))
            | inr other ↦ is.far q (omega (arith, below, other)) in_q ne
          ];
      itself = is.itself;
      changes = is.changes;
    }

    pub IsDraftingOut-more : (next : Nets) (x : Bound) → u < 256 → b < 256 → (b ≡ u → ⊥) → IsFar (rest_of old.present place) u b x → entry next.draft u b ≡ x →
        ((p q : ℕ) → p < 256 → q < 256 → (p ≢ u) ⊎ (q ≢ b) → entry next.draft p q ≡ entry now.draft p q) → next.present ≡ now.present → next.committed ≡ now.committed → IsDraftingOut old place u (b + 1) next
    IsDraftingOut-more next x in_u in_b ne far put others present committed = record {
      far = λ q below in_q q_ne.
          elim (cases_eq q b) [
            | inl same ↦ (let P : ℕ → Type 0 = λ r. IsFar (rest_of old.present place) u r (entry next.draft u r) in
                subst P (sym same) (subst (IsFar (rest_of old.present place) u b) (sym put) far))
            | inr other ↦ subst (IsFar (rest_of old.present place) u q) (sym (others u q in_u (in_places old.present.names known.places q in_q) (inr other))) (is.far q (omega (arith, below, other)) in_q q_ne)
          ];
      itself = others u u in_u in_u (inr (λ e. ne (sym e))) ∙ is.itself;
      changes = ChangesRow-trans u old now next is.changes (record { others = λ p q in_p in_q p_ne. others p q in_p in_q (inl p_ne); present = present; committed = committed });
    }

  -- all are
  pub IsFarRow-out : (done : ℕ) (now : Nets) → place < length old.present.edges → IsFrom old.present place u → IsInUse old.present.names u → IsPresentRow old.present u (entry old.draft u) → ((q : ℕ) → IsInUse old.present.names q → q < done) →
      IsDraftingOut old place u done now → IsFarRow old.present place u (entry now.draft u)
  IsFarRow-out done now lt from in_u present all is q in_q =
      elim (cases_eq q u) [
        | inl same ↦ (let P : ℕ → Type 0 = λ r. IsFar (rest_of old.present place) u r (entry now.draft u r) in
            subst P (sym same) (subst (IsFar (rest_of old.present place) u u) (sym is.itself) (IsFar-to_first old.present place known lt u u (entry old.draft u u) from (present u in_u))))
        | inr other ↦ is.far q (all q in_q) in_q other
      ]

-- the rows of all points: that of u is repaired, and all others keep their distances
pub IsFarWithout-out : (old now : Nets) (place u : ℕ) → IsNet old.present → place < length old.present.edges → IsFrom old.present place u → (list : List ℕ) → AreWaysOut old.present place u list →
    ((a : ℕ) → IsInUse old.present.names a → IsPresentRow old.present a (entry old.draft a)) → IsFarRow old.present place u (entry now.draft u) → ChangesRow u old now → IsFarWithout old.present place now.draft
IsFarWithout-out old now place u known lt from list ways present far changes d a b in_a in_b =
    let rest : List (Arc ℕ) = rest_of old.present place in
    IsFar-taken old.present.edges place d lt a b (entry now.draft a b)
    (elim (cases_eq a u) [
      | inl same ↦ subst (λ (r : ℕ). IsFar rest r b (entry now.draft r b)) (sym same) (far b in_b)
      | inr other ↦ subst (IsFar rest a b) (sym (changes.others a b (in_places old.present.names known.places a in_a) (in_places old.present.names known.places b in_b) other))
          (KeepsRow-beside old.present place u known lt from list ways a other b (entry old.draft a b) (present a in_a b in_b))
    ])

-- ---- to a point to which one edge alone leads

module _ (net : Net) (place u v : ℕ) (known : IsNet net) (lt : place < length net.edges) (from : IsFrom net place u) (to : IsTo net place v) (way : IsWayIn net place u) where
  first : (e : Edge) × ((d : Edge) → get_or net.edges place d ≡ e)
  first = edge_at net.edges place lt

  -- **All distances to other points stay.**
  pub IsFar-way_in : (a b : ℕ) (x : Bound) → (b ≡ v → ⊥) → IsFar (arcs_of net.edges) a b x → IsFar (rest_of net place) a b x
  IsFar-way_in a b x ne far =
      let arcs : List (Arc ℕ) = arcs_of net.edges in
      let rest : List (Arc ℕ) = rest_of net place in
      let s : Solved 0 arcs = solved same_number Decides-eqb 0 arcs known.dates in
      let g : Edge = get_or net.edges place first.0 in
      IsFar-past arcs rest (arc_of g) (Adds-remove net.edges place first.0 lt) a b x
      (λ same. ne (sym same ∙ to first.0))
      (λ same. way.apart (λ d. ap (λ (e : Edge). e.to) (first.1 d ∙ sym (first.1 first.0)) ∙ (sym same ∙ from first.0)))
      (λ y n at.
      (let j : (j : ℕ) × (j < length net.edges) × (j ≢ place) × ((d : Edge) → arc_of (get_or net.edges j d) ≡ y) = left_edge_of net place y n in
      let t : Bound = s.table u y.to in
      let P : ℕ → Type 0 = λ p. IsFar arcs p y.to t in
      let Q : ℕ → Type 0 = λ p. IsFar rest p y.to t in
      let begins : IsFrom net j.0 v = λ d. ap (λ (z : Arc ℕ). z.from) (j.3 d) ∙ (at ∙ to first.0) in
      let ends : IsTo net j.0 y.to = λ d. ap (λ (z : Arc ℕ). z.to) (j.3 d) in
      (t, subst P (sym (from first.0)) (s.is_far u y.to), subst Q (sym (from first.0)) (way.on v j.0 to j.1 j.2 begins y.to t ends (s.is_far u y.to)))))
      far

  -- **From other points there is no way to its end.**
  pub Free-way_in : (a : ℕ) → (a ≡ v → ⊥) → IsFar (rest_of net place) a v Free
  Free-way_in a ne =
      let none : (x : Arc ℕ) → Contains (rest_of net place) x → x.to ≡ v → ⊥ = λ x m same.
      (let j : (j : ℕ) × (j < length net.edges) × (j ≢ place) × ((d : Edge) → arc_of (get_or net.edges j d) ≡ x) = left_edge_of net place x m in
      way.alone v j.0 to j.1 j.2 (λ d. ap (λ (y : Arc ℕ). y.to) (j.3 d) ∙ same)) in
      record { reached = tt; least = λ walk h. absurd (no_walk_to (rest_of net place) v none a ne walk h) }

-- the draft has no way from the first points to v, and is old's for all other ends
pub record IsClosing (old : Nets) (v done : ℕ) (now : Nets) : Type 0 where
  pub none : (a : ℕ) → a < done → a < 256 → (a ≡ v → ⊥) → entry now.draft a v ≡ Free
  pub others : (p q : ℕ) → p < 256 → q < 256 → (p ≡ v) ⊎ (q ≢ v) → entry now.draft p q ≡ entry old.draft p q
  pub present : now.present ≡ old.present
  pub committed : now.committed ≡ old.committed

module _ (old : Nets) (v : ℕ) where
  pub IsClosing-none : IsClosing old v 0 old
  IsClosing-none = record { none = λ a below. absurd (omega (arith, below)); others = λ p q in_p in_q one. refl; present = refl; committed = refl }

  module _ (a : ℕ) (now : Nets) (is : IsClosing old v a now) where
    pub IsClosing-skip : a ≡ v → IsClosing old v (a + 1) now
    IsClosing-skip same = record {
      none = λ p below in_p ne.
          elim (cases_eq p a) [
            | inl here ↦ absurd (ne (here ∙ same))
            | inr other ↦ is.none p (omega (arith, below, other)) in_p ne
          ];
      others = is.others;
      present = is.present;
      committed = is.committed;
    }

    pub IsClosing-more : (next : Nets) → v < 256 → (a ≡ v → ⊥) → entry next.draft a v ≡ Free → ((p q : ℕ) → p < 256 → q < 256 → (p ≢ a) ⊎ (q ≢ v) → entry next.draft p q ≡ entry now.draft p q) →
        next.present ≡ now.present → next.committed ≡ now.committed → IsClosing old v (a + 1) next
    IsClosing-more next in_v ne put others present committed = record {
      none = λ p below in_p p_ne.
          elim (cases_eq p a) [
            | inl here ↦ subst (λ (r : ℕ). entry next.draft r v ≡ Free) (sym here) put
            | inr other ↦ others p v in_p in_v (inl other) ∙ is.none p (omega (arith, below, other)) in_p p_ne
          ];
      others = λ p q in_p in_q one.
          elim one [
            | inl at ↦ others p q in_p in_q (inl (λ e. ne (sym e ∙ at))) ∙ is.others p q in_p in_q (inl at)
            | inr other ↦ others p q in_p in_q (inr other) ∙ is.others p q in_p in_q (inr other)
          ];
      present = present ∙ is.present;
      committed = committed ∙ is.committed;
    }

-- at the end
pub IsFarWithout-in : (old now : Nets) (place u v done : ℕ) → IsNet old.present → place < length old.present.edges → IsFrom old.present place u → IsTo old.present place v → IsWayIn old.present place u →
    ((a : ℕ) → IsInUse old.present.names a → IsPresentRow old.present a (entry old.draft a)) → ((q : ℕ) → IsInUse old.present.names q → q < done) → IsClosing old v done now → IsFarWithout old.present place now.draft
IsFarWithout-in old now place u v done known lt from to way present all is d a b in_a in_b =
    let net : Net = old.present in
    let rest : List (Arc ℕ) = rest_of net place in
    let small_a : a < 256 = in_places net.names known.places a in_a in
    let small_b : b < 256 = in_places net.names known.places b in_b in
    IsFar-taken net.edges place d lt a b (entry now.draft a b)
    (elim (cases_eq b v) [
      | inr other ↦ subst (IsFar rest a b) (sym (is.others a b small_a small_b (inr other))) (IsFar-way_in net place u v known lt from to way a b (entry old.draft a b) other (present a in_a b in_b))
      | inl same ↦ elim (cases_eq a v) [
        | inl itself ↦ subst (IsFar rest a b) (sym (is.others a b small_a small_b (inl itself)))
            (subst (KeepsRow net place) (sym itself) (KeepsRow-end net place known lt v to) b (entry old.draft a b) (present a in_a b in_b))
        | inr apart ↦ (let P : ℕ → Type 0 = λ r. IsFar rest a r (entry now.draft a r) in
            subst P (sym same) (subst (IsFar rest a v) (sym (is.none a (all a in_a) small_a apart)) (Free-way_in net place u v known lt from to way a apart)))
      ]
    ])

-- the edges before the one at i, that at the place aside, do not lead to v, and those from there
-- lead to points to which the distance from u stays
pub record IsSearchingIn (net : Net) (place u v i : ℕ) : Type 0 where
  pub alone : (j : ℕ) → j < i → j < length net.edges → j ≢ place → IsTo net j v → ⊥
  pub on : (j : ℕ) → j < i → j < length net.edges → j ≢ place → IsFrom net j v → KeepsEnd net place u j

module _ (net : Net) (place u v i : ℕ) where
  -- the edge at i leads elsewhere, and where it begins at v it leads to a point to which the
  -- distance from u stays
  pub IsSearchingIn-more : (e : Edge) → IsSearchingIn net place u v i → ((d : Edge) → e ≡ get_or net.edges i d) → e.to ≢ v → (e.from ≡ v → KeepsEnd net place u i) → IsSearchingIn net place u v (i + 1)
  IsSearchingIn-more e is at ne keeps = record {
    alone = λ j before below differs to.
        elim (cases_eq j i) [
          | inl same ↦ ne (ap (λ (g : Edge). g.to) (at e) ∙ (ap (λ (n : ℕ). (get_or net.edges n e).to) (sym same) ∙ to e))
          | inr other ↦ is.alone j (omega (arith, before, other)) below differs to
        ];
    on = λ j before below differs from.
        elim (cases_eq j i) [
          | inl same ↦ subst (KeepsEnd net place u) (sym same) (keeps (ap (λ (g : Edge). g.from) (at e) ∙ (ap (λ (n : ℕ). (get_or net.edges n e).from) (sym same) ∙ from e)))
          | inr other ↦ is.on j (omega (arith, before, other)) below differs from
        ];
  }

  -- the edge at the place is passed over
  pub IsSearchingIn-skip : IsSearchingIn net place u v i → i ≡ place → IsSearchingIn net place u v (i + 1)
  IsSearchingIn-skip is here = record {
    alone = λ j before below differs to. is.alone j (omega (arith, before, λ (e : j ≡ i). differs (e ∙ here))) below differs to;
    on = λ j before below differs from. is.on j (omega (arith, before, λ (e : j ≡ i). differs (e ∙ here))) below differs from;
  }

  -- at the end
  pub IsWayIn-searched : IsTo net place v → u ≢ v → length net.edges ≤ i → IsSearchingIn net place u v i → (lt : place < length net.edges) → IsWayIn net place u
  IsWayIn-searched to ne all is lt =
      let e : Edge = (edge_at net.edges place lt).0 in
      record {
        apart = λ at. ne (sym (at e) ∙ to e);
        alone = λ w j to_w below differs to_j. is.alone j (omega (arith, below, all)) below differs (λ d. to_j d ∙ (sym (to_w e) ∙ to e));
        on = λ w j to_w below differs from_j. is.on j (omega (arith, below, all)) below differs (λ d. from_j d ∙ (sym (to_w e) ∙ to e));
      }
