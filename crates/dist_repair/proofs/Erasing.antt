-- Row after row is repaired.
use Rattle.std.proofs.Common.{◌≡◌, ◌≢◌, ◌∙◌, inl, inr, ℕ, ◌+◌, ◌<◌, ◌≤◌, List, length, sym, subst, arith}
use Rattle.std.proofs.lemmas.Bool.{cases_eq}
use Rattle.std.proofs.lemmas.List.Elements.{All-contains}
use Rattle.tmm_model.specs.declared.bound.Bound.{Bound}
use Rattle.walk_theory.specs.LeastWalks.{IsFar}
use Rattle.dist_net.specs.Net.{Net, Nets, IsInUse, IsFarWithout, entry, arcs_of}
use Rattle.dist_net.proofs.Ends.{in_places}
use Rattle.dist_repair.specs.Rows.{rest_of, IsFarRow, IsFirstRow, IsPresentRow, KeepsRow, IsFrom, ChangesRow}
use Rattle.dist_repair.proofs.Left.{IsNet, IsFar-taken}
use Rattle.dist_repair.proofs.Starts.{IsFar-held}
use Rattle.dist_repair.proofs.Keeping.{IsFarRow-keeps}

-- ---- rows with the same bounds

module _ (net : Net) (a : ℕ) (old new : ℕ → Bound) (same : (q : ℕ) → IsInUse net.names q → new q ≡ old q) where
  pub IsPresentRow-same : IsPresentRow net a old → IsPresentRow net a new
  IsPresentRow-same h q in_q = subst (λ (x : Bound). IsFar (arcs_of net.edges) a q x) (sym (same q in_q)) (h q in_q)

  pub IsFarRow-same : (place : ℕ) → IsFarRow net place a old → IsFarRow net place a new
  IsFarRow-same place h q in_q = subst (λ (x : Bound). IsFar (rest_of net place) a q x) (sym (same q in_q)) (h q in_q)

  pub IsFirstRow-same : (place : ℕ) (columns : List ℕ) → IsFirstRow net place a columns old → IsFirstRow net place a columns new
  IsFirstRow-same place columns h = record {
    from = h.from;
    few = h.few;
    far = IsFarRow-same place h.far;
    used = h.used;
    beside = λ q in_q. elim (h.beside q in_q) [ inl m ↦ inl m | inr far ↦ inr (subst (λ (x : Bound). IsFar (arcs_of net.edges) a q x) (sym (same q in_q)) far) ];
    differs = λ q m far. h.differs q m (subst (λ (x : Bound). IsFar (arcs_of net.edges) a q x) (same q (All-contains (IsInUse net.names) columns q h.used m)) far);
  }

-- ---- the rows

-- the first `done` rows are repaired, the others are as the draft began, and that of the edge's
-- beginning u stays
pub record IsErasing (old : Nets) (place u : ℕ) (columns : List ℕ) (done : ℕ) (now : Nets) : Type 0 where
  pub far : (p : ℕ) → p < done → IsInUse old.present.names p → IsFarRow old.present place p (entry now.draft p)
  pub draft : (p : ℕ) → done ≤ p → IsInUse old.present.names p → p ≢ u → IsPresentRow old.present p (entry now.draft p)
  pub first : IsFirstRow old.present place u columns (entry now.draft u)
  pub present : now.present ≡ old.present
  pub committed : now.committed ≡ old.committed

module _ (old now : Nets) (place u : ℕ) (columns : List ℕ) (a : ℕ) (is : IsErasing old place u columns a now) (known : IsNet old.present) where
  pub IsErasing-more : (next : Nets) → IsInUse old.present.names u → a ≢ u → IsFarRow now.present place a (entry next.draft a) → ChangesRow a now next → IsErasing old place u columns (a + 1) next
  IsErasing-more next in_u ne here changes =
      let same : (p : ℕ) → IsInUse old.present.names p → p ≢ a → (q : ℕ) → IsInUse old.present.names q → entry next.draft p q ≡ entry now.draft p q =
      λ p in_p other q in_q. changes.others p q (in_places old.present.names known.places p in_p) (in_places old.present.names known.places q in_q) other in
      let u_same : (q : ℕ) → IsInUse old.present.names q → entry next.draft u q ≡ entry now.draft u q = same u in_u (λ e. ne (sym e)) in
      record {
        far = λ p below in_p.
            elim (cases_eq p a) [
              | inl e ↦ (let P : ℕ → Type 0 = λ r. IsFarRow old.present place r (entry next.draft r) in
                  subst P (sym e) (subst (λ (n : Net). IsFarRow n place a (entry next.draft a)) is.present here))
              | inr other ↦ IsFarRow-same old.present p (entry now.draft p) (entry next.draft p) (same p in_p other) place (is.far p (omega (arith, below, other)) in_p)
            ];
        draft = λ p above in_p p_ne.
            IsPresentRow-same old.present p (entry now.draft p) (entry next.draft p) (same p in_p (λ e. omega (arith, above, e))) (is.draft p (omega (arith, above)) in_p p_ne);
        first = IsFirstRow-same old.present u (entry now.draft u) (entry next.draft u) u_same place columns is.first;
        present = changes.present ∙ is.present;
        committed = changes.committed ∙ is.committed;
      }

  -- a row that keeps its distances
  pub IsErasing-keeps : IsInUse old.present.names a → a ≢ u → KeepsRow now.present place a → IsErasing old place u columns (a + 1) now
  IsErasing-keeps in_a ne keeps = record {
    far = λ p below in_p.
        elim (cases_eq p a) [
          | inl e ↦ (let P : ℕ → Type 0 = λ r. IsFarRow old.present place r (entry now.draft r) in
              subst P (sym e) (IsFarRow-keeps old.present place a (entry now.draft a) (is.draft a (omega arith) in_a ne) (subst (λ (n : Net). KeepsRow n place a) is.present keeps)))
          | inr other ↦ is.far p (omega (arith, below, other)) in_p
        ];
    draft = λ p above. is.draft p (omega (arith, above));
    first = is.first;
    present = is.present;
    committed = is.committed;
  }

  -- the row of u is repaired already, and a number that is not in use has no row
  pub IsErasing-skip : (IsInUse old.present.names a → a ≡ u) → IsErasing old place u columns (a + 1) now
  IsErasing-skip is_first = record {
    far = λ p below in_p.
        elim (cases_eq p a) [
          | inl e ↦ (let P : ℕ → Type 0 = λ r. IsFarRow old.present place r (entry now.draft r) in
              subst P (sym (e ∙ is_first (subst (IsInUse old.present.names) e in_p))) is.first.far)
          | inr other ↦ is.far p (omega (arith, below, other)) in_p
        ];
    draft = λ p above. is.draft p (omega (arith, above));
    first = is.first;
    present = is.present;
    committed = is.committed;
  }

-- where all distances from the edge's beginning stay, all others do
pub IsFarWithout-kept : (net : Net) (place u : ℕ) (table : List Bound) → IsNet net → place < length net.edges → IsFrom net place u → KeepsRow net place u → IsInUse net.names u →
    ((a : ℕ) → IsInUse net.names a → IsPresentRow net a (entry table a)) → IsFarWithout net place table
IsFarWithout-kept net place u table known lt from keeps in_u present d a b in_a in_b =
    IsFar-taken net.edges place d lt a b (entry table a b)
    (IsFar-held net place known lt u a b (entry table a b) (entry table u b) from (present u in_u b in_b) (keeps b (entry table u b) (present u in_u b in_b)) (present a in_a b in_b))
