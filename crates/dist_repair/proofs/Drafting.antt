-- Bounds of a row that are written to the draft.
use Rattle.std.proofs.Common.{◌≡◌, ◌≢◌, ◌∙◌, ◌⊎◌, inl, inr, ℕ, ◌+◌, ◌<◌, List, length, get_or, ap, sym, subst, arith, refl}
use Rattle.std.specs.List.{All, Contains}
use Rattle.std.proofs.lemmas.Bool.{cases_eq}
use Rattle.std.proofs.lemmas.List.{get_or_default}
use Rattle.std.proofs.lemmas.List.Elements.{All-contains}
use Rattle.tmm_model.specs.declared.bound.Bound.{Bound}
use Rattle.tmm_model.specs.declared.bound.Bound.TheVariants.{Finite, Free}
use Rattle.tmm_model.specs.Bounds.{IfFinite}
use Rattle.tmm_model.specs.Walks.{Arc, total}
use Rattle.walk_theory.specs.LeastWalks.{IsFar, HasWalk}
use Rattle.walk_theory.proofs.Walks.{IsWalk-kept}
use Rattle.dist_net.specs.Net.{Net, Nets, entry, arcs_of}
use Rattle.dist_net.proofs.Ends.{in_places}
use Rattle.dist_repair.specs.Rows.{rest_of, IsLowered, IsFarRow, IsPresentRow, IsPresentBeside, ChangesRow}
use Rattle.dist_repair.proofs.Left.{left_sub}
use Rattle.dist_repair.proofs.Starts.{ChangesRow-none, ChangesRow-trans}
use Rattle.walk_theory.proofs.Paths.{IsFar-same}

-- the bounds to the first i points are written
pub record IsDrafting (old : Nets) (a : ℕ) (points : List ℕ) (row : ℕ → Bound) (i : ℕ) (now : Nets) : Type 0 where
  pub written : (q j : ℕ) → j < i → j < length points → get_or points j q ≡ q → entry now.draft a q ≡ row q
  pub kept : (q : ℕ) → q < 256 → Contains points q ⊎ (entry now.draft a q ≡ entry old.draft a q)
  pub changes : ChangesRow a old now

module _ (old : Nets) (a : ℕ) (points : List ℕ) (row : ℕ → Bound) where
  pub IsDrafting-none : IsDrafting old a points row 0 old
  IsDrafting-none = record {
    written = λ q j below short at. absurd (omega (arith, below));
    kept = λ q in_q. inr refl;
    changes = ChangesRow-none a old;
  }

  pub IsDrafting-more : (now next : Nets) (i b : ℕ) → IsDrafting old a points row i now → a < 256 → All (λ p. p < 256) points → i < length points → b ≡ get_or points i b →
      entry next.draft a b ≡ row b → ((p q : ℕ) → p < 256 → q < 256 → (p ≢ a) ⊎ (q ≢ b) → entry next.draft p q ≡ entry now.draft p q) →
      next.present ≡ now.present → next.committed ≡ now.committed → IsDrafting old a points row (i + 1) next
  IsDrafting-more now next i b is in_a small lt at put others present committed = record {
    written = λ q j below short here.
        elim (cases_eq q b) [
          | inl same ↦ subst (λ (r : ℕ). entry next.draft a r ≡ row r) (sym same) put
          | inr other ↦ (let differ : j ≢ i = λ e. other (sym here ∙ (ap (λ (k : ℕ). get_or points k q) e ∙ (get_or_default points i q b lt ∙ sym at))) in
              others a q in_a (All-contains (λ p. p < 256) points q small (j, short, here)) (inr other) ∙ is.written q j (omega (arith, below, differ)) short here)
        ];
    kept = λ q in_q.
        elim (cases_eq q b) [
          | inl same ↦ inl (i, lt, subst (λ (r : ℕ). get_or points i r ≡ r) (sym same) (sym at))
          | inr other ↦ elim (is.kept q in_q) [ inl m ↦ inl m | inr e ↦ inr (others a q in_a in_q (inr other) ∙ e) ]
        ];
    changes = ChangesRow-trans a old now next is.changes (record { others = λ p q in_p in_q ne. others p q in_p in_q (inl ne); present = present; committed = committed });
  }

-- what is reached over fewer constraints is reached
reached_kept : (rest arcs : List (Arc ℕ)) → ((x : Arc ℕ) → Contains rest x → Contains arcs x) → (a b : ℕ) (x : Bound) → IfFinite x (HasWalk rest a b) → IfFinite x (HasWalk arcs a b)
reached_kept rest arcs sub a b (Finite s) h = (h.0, IsWalk-kept rest arcs sub a b h.0 h.1, h.2)
reached_kept rest arcs sub a b Free h = tt

-- a row whose listed bounds are drafted has its distances in the draft: all others are the present
-- ones
pub IsFarRow-drafted : (net : Net) (place a : ℕ) (points : List ℕ) (start row old new : ℕ → Bound) → length net.names ≡ 256 → IsPresentBeside net points a start → IsLowered net.names start row → IsFarRow net place a row → IsPresentRow net a old →
    ((q : ℕ) → Contains points q → new q ≡ row q) → ((q : ℕ) → q < 256 → Contains points q ⊎ (new q ≡ old q)) → IsFarRow net place a new
IsFarRow-drafted net place a points start row old new places beside lowered far present written kept q in_q =
    let rest : List (Arc ℕ) = rest_of net place in
    let arcs : List (Arc ℕ) = arcs_of net.edges in
    let by_row : new q ≡ row q → IsFar rest a q (new q) = λ same. subst (λ (x : Bound). IsFar rest a q x) (sym same) (far q in_q) in
    elim (kept q (in_places net.names places q in_q)) [
      | inl m ↦ by_row (written q m)
      | inr same ↦ elim (beside q in_q) [
        | inl m ↦ by_row (written q m)
        | inr now ↦ (let here : IsFar arcs a q (row q) = record { reached = reached_kept rest arcs (left_sub arcs place) a q (row q) (far q in_q).reached; least = λ walk h. lowered q (total walk) in_q (now.least walk h) } in
            by_row (same ∙ IsFar-same arcs a q (old q) (row q) (present q in_q) here))
      ]
    ]
