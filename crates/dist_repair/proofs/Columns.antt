-- The columns that change, the suspects among them, and the edges that lead to them.
use Rattle.std.proofs.Common.{◌≡◌, ◌≢◌, ◌⊎◌, ◌∙◌, inl, inr, ℕ, ◌+◌, ◌<◌, ◌≤◌, ◌++◌, List, [], ◌∷◌, length, get_or, sym, subst, ap, arith, refl}
use Rattle.std.specs.List.{All, Contains}
use Rattle.std.proofs.lemmas.Bool.{cases_eq}
use Rattle.std.proofs.lemmas.List.{length-append, get_or_default}
use Rattle.std.proofs.lemmas.List.Elements.{All-push, Contains-append_left, Contains-append_right, Contains-push_cases}
use Rattle.tmm_model.specs.declared.bound.Bound.{Bound}
use Rattle.walk_theory.specs.LeastWalks.{IsFar}
use Rattle.dist_net.specs.declared.Edge.{Edge}
use Rattle.dist_net.specs.Net.{Net, IsInUse, arcs_of, arc_of}
use Rattle.dist_net.proofs.Ends.{edge_at}
use Rattle.dist_repair.specs.Rows.{rest_of, IsFirstRow, IsPresentBeside, IsPresentRow, IsStarted, IsSafe}
use Rattle.dist_repair.proofs.Left.{IsNet}
use Rattle.dist_repair.proofs.Starts.{IsStarted-far, IsFar-safe, IsFar-held}

-- the last of a list stands in it
pub Contains-last : (xs : List ℕ) (x : ℕ) → Contains (xs ++ x ∷ []) x
Contains-last xs x = Contains-append_right xs (x ∷ []) x (0, omega arith, refl)

-- what holds of two values holds of equal ones
pub of_equal : (P : List ℕ → List Bound → Type 0) → {l m : List ℕ} {x y : List Bound} → l ≡ m → x ≡ y → P m y → P l x
of_equal P {l} {m} {x} {y} same_list same_row h = subst (λ (n : List Bound). P l n) (sym same_row) (subst (λ (k : List ℕ). P k y) (sym same_list) h)

-- ---- the columns

-- the points below b are looked at
pub record IsCollecting (net : Net) (u : ℕ) (row : ℕ → Bound) (b : ℕ) (columns : List ℕ) : Type 0 where
  pub few : length columns ≤ b
  pub used : All (IsInUse net.names) columns
  pub beside : (q : ℕ) → q < b → IsInUse net.names q → Contains columns q ⊎ IsFar (arcs_of net.edges) u q (row q)
  pub differs : (q : ℕ) → Contains columns q → IsFar (arcs_of net.edges) u q (row q) → ⊥

module _ (net : Net) (u : ℕ) (row : ℕ → Bound) where
  pub IsCollecting-more : (b : ℕ) (columns : List ℕ) → IsCollecting net u row b columns → IsInUse net.names b → (IsFar (arcs_of net.edges) u b (row b) → ⊥) → IsCollecting net u row (b + 1) (columns ++ b ∷ [])
  IsCollecting-more b columns is in_b other = record {
    few = omega (arith, is.few, length-append columns (b ∷ []));
    used = All-push (IsInUse net.names) columns b is.used in_b;
    beside = λ q below in_q.
        elim (cases_eq q b) [
          | inl same ↦ inl (subst (Contains (columns ++ b ∷ [])) (sym same) (Contains-last columns b))
          | inr differ ↦ elim (is.beside q (omega (arith, below, differ)) in_q) [
            | inl m ↦ inl (Contains-append_left columns (b ∷ []) q m)
            | inr far ↦ inr far
          ]
        ];
    differs = λ q m far.
        elim (Contains-push_cases columns b q m) [
          | inl k ↦ is.differs q k far
          | inr same ↦ other (subst (λ (p : ℕ). IsFar (arcs_of net.edges) u p (row p)) (sym same) far)
        ];
  }

  pub IsCollecting-skip : (b : ℕ) (columns : List ℕ) → IsCollecting net u row b columns → (IsInUse net.names b → IsFar (arcs_of net.edges) u b (row b)) → IsCollecting net u row (b + 1) columns
  IsCollecting-skip b columns is far_b = record {
    few = omega (arith, is.few);
    used = is.used;
    beside = λ q below in_q.
        elim (cases_eq q b) [
          | inl same ↦ (let P : ℕ → Type 0 = λ p. IsFar (arcs_of net.edges) u p (row p) in inr (subst P (sym same) (far_b (subst (IsInUse net.names) same in_q))))
          | inr differ ↦ is.beside q (omega (arith, below, differ)) in_q
        ];
    differs = is.differs;
  }

-- ---- a row that begins

-- q stands in the columns, at k or later
abbrev pub StandsFrom : List ℕ → ℕ → ℕ → Type 0
StandsFrom columns k q = (i : ℕ) × (k ≤ i) × (i < length columns) × (get_or columns i q ≡ q)

pub later : (columns : List ℕ) (k b q : ℕ) → b ≡ get_or columns k b → (q ≢ b) → StandsFrom columns k q → StandsFrom columns (k + 1) q
later columns k b q at ne s =
    let differ : s.0 ≢ k = λ same. ne (sym s.3 ∙ (get_or_default columns s.0 q b s.2 ∙ (ap (λ (i : ℕ). get_or columns i b) same ∙ sym at))) in
    (s.0, omega (arith, s.1, differ), s.2, s.3)

-- at most k points are suspects so far, and those that wait have their present distances
pub record IsBounding (net : Net) (place : ℕ) (waits : ℕ → Type 0) (a k : ℕ) (suspects : List ℕ) (row : ℕ → Bound) : Type 0 where
  pub few : length suspects ≤ k
  pub used : All (IsInUse net.names) suspects
  pub begun : (q : ℕ) → IsInUse net.names q → IsStarted (rest_of net place) a q (row q) ⊎ (waits q × IsFar (arcs_of net.edges) a q (row q))
  pub beside : IsPresentBeside net suspects a row

-- all points wait
pub IsBounding-all : (net : Net) (place a : ℕ) (row : ℕ → Bound) → IsPresentRow net a row → IsBounding net place (λ q. 0 ≤ q) a 0 [] row
IsBounding-all net place a row present = record {
  few = omega arith;
  used = λ k d below. absurd (omega (arith, below));
  begun = λ q in_q. inr (omega arith, present q in_q);
  beside = λ q in_q. inr (present q in_q);
}

-- the columns wait, and the others keep their distances
pub IsBounding-columns : (net : Net) (place u : ℕ) (columns : List ℕ) (a : ℕ) (first_row row : ℕ → Bound) → IsNet net → place < length net.edges → IsFirstRow net place u columns first_row → IsPresentRow net a row → IsBounding net place (StandsFrom columns 0) a 0 [] row
IsBounding-columns net place u columns a first_row row known lt first present = record {
  few = omega arith;
  used = λ k d below. absurd (omega (arith, below));
  begun = λ q in_q.
      elim (first.beside q in_q) [
        | inl m ↦ inr ((m.0, omega arith, m.1, m.2), present q in_q)
        | inr far ↦ inl (IsStarted-far net place known a q in_q (row q)
            (IsFar-held net place known lt u a q (row q) (first_row q) first.from far (first.far q in_q) (present q in_q)))
      ];
  beside = λ q in_q. inr (present q in_q);
}

module _ (net : Net) (place : ℕ) (waits still : ℕ → Type 0) (suspects : List ℕ) (a k b : ℕ) (now : ℕ → Bound) (known : IsNet net) (is : IsBounding net place waits a k suspects now)
    (step : (q : ℕ) → IsInUse net.names q → q ≢ b → waits q → still q) where
  pub IsBounding-more : (next : ℕ → Bound) (value : Bound) → IsInUse net.names b → IsStarted (rest_of net place) a b value →
      next b ≡ value → ((q : ℕ) → q ≢ b → next q ≡ now q) → IsBounding net place still a (k + 1) (suspects ++ b ∷ []) next
  IsBounding-more next value in_b started written others = record {
    few = omega (arith, is.few, length-append suspects (b ∷ []));
    used = All-push (IsInUse net.names) suspects b is.used in_b;
    begun = λ q in_q.
        elim (cases_eq q b) [
          | inl same ↦ (let P : ℕ → Type 0 = λ r. IsStarted (rest_of net place) a r (next r) in
              inl (subst P (sym same) (subst (λ (x : Bound). IsStarted (rest_of net place) a b x) (sym written) started)))
          | inr other ↦ elim (is.begun q in_q) [
            | inl s ↦ inl (subst (λ (x : Bound). IsStarted (rest_of net place) a q x) (sym (others q other)) s)
            | inr s ↦ inr (step q in_q other s.0, subst (λ (x : Bound). IsFar (arcs_of net.edges) a q x) (sym (others q other)) s.1)
          ]
        ];
    beside = λ q in_q.
        elim (cases_eq q b) [
          | inl same ↦ inl (subst (Contains (suspects ++ b ∷ [])) (sym same) (Contains-last suspects b))
          | inr other ↦ elim (is.beside q in_q) [
            | inl m ↦ inl (Contains-append_left suspects (b ∷ []) q m)
            | inr far ↦ inr (subst (λ (x : Bound). IsFar (arcs_of net.edges) a q x) (sym (others q other)) far)
          ]
        ];
  }

  -- a pair that is no suspect keeps its distance
  pub IsBounding-skip : place < length net.edges → ((d : Edge) → IsSafe (arcs_of net.edges) (arc_of (get_or net.edges place d)) a b) → IsBounding net place still a (k + 1) suspects now
  IsBounding-skip in_edges safe =
      let d : Edge = (edge_at net.edges place in_edges).0 in
      record {
        few = omega (arith, is.few);
        used = is.used;
        begun = λ q in_q.
            elim (is.begun q in_q) [
              | inl s ↦ inl s
              | inr s ↦ elim (cases_eq q b) [
                | inl same ↦ (let P : ℕ → Type 0 = λ r. IsSafe (arcs_of net.edges) (arc_of (get_or net.edges place d)) a r in
                    inl (IsStarted-far net place known a q in_q (now q) (IsFar-safe net place known in_edges a q d (now q) s.1 (subst P (sym same) (safe d)))))
                | inr other ↦ inr (step q in_q other s.0, s.1)
              ]
            ];
        beside = is.beside;
      }

  -- a number that is not in use is passed over
  pub IsBounding-unused : (IsInUse net.names b → ⊥) → IsBounding net place still a (k + 1) suspects now
  IsBounding-unused none = record {
    few = omega (arith, is.few);
    used = is.used;
    begun = λ q in_q.
        elim (is.begun q in_q) [
          | inl s ↦ inl s
          | inr s ↦ (let other : q ≢ b = λ same. none (subst (IsInUse net.names) same in_q) in inr (step q in_q other s.0, s.1))
        ];
    beside = is.beside;
  }

-- none waits any more
pub IsStarted-bounded : (net : Net) (place : ℕ) (waits : ℕ → Type 0) (suspects : List ℕ) (a k : ℕ) (row : ℕ → Bound) → IsBounding net place waits a k suspects row →
    ((q : ℕ) → IsInUse net.names q → waits q → ⊥) → (q : ℕ) → IsInUse net.names q → IsStarted (rest_of net place) a q (row q)
IsStarted-bounded net place waits suspects a k row is none q in_q =
    elim (is.begun q in_q) [ inl s ↦ s | inr s ↦ absurd (none q in_q s.0) ]
