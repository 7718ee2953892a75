-- A token is supported by the tokens of its own class alone.
use Rattle.std.proofs.Common.{◌≡◌, ℕ, true, not, ◌&&◌, List, refl, ap, subst}
use Rattle.std.specs.Prelude.{◌↔◌, Option, Some, None}
use Rattle.std.specs.List.{list_any}
use Rattle.std.specs.Cmp.{both_ways}
use Rattle.tmm_model.specs.declared.bound.Bound.{Bound}
use Rattle.tmm_model.specs.declared.token.TokenRow.{TokenRow}
use Rattle.tmm_model.specs.Points.{same_name}
use Rattle.tmm_model.specs.Tokens.{of_one_class, clips, cuts, is_by, is_before, lasts_to, supports}
use Rattle.list_theory.proofs.Elements.{both, In, list_any-In, In-list_any}

module _ {P : Type 0} (far : P → P → Bound) (class : List ℕ) (all own : List (TokenRow P))
    (is_own : (k : TokenRow P) → In k own ↔ (In k all × (same_name class k.class ≡ true))) where
  cut_alike : (k : TokenRow P) (q : P) → k.class ≡ class → list_any (cuts of_one_class far k q) own ≡ list_any (cuts of_one_class far k q) all
  cut_alike k q e = both_ways (list_any (cuts of_one_class far k q) own) (list_any (cuts of_one_class far k q) all) out back
    where
      out : list_any (cuts of_one_class far k q) own ≡ true → list_any (cuts of_one_class far k q) all ≡ true
      out h = let (c, at, cut) = list_any-In (cuts of_one_class far k q) own h in In-list_any (cuts of_one_class far k q) all c (((is_own c).0 at).0) cut

      back : list_any (cuts of_one_class far k q) all ≡ true → list_any (cuts of_one_class far k q) own ≡ true
      back h =
          let (c, at, cut) = list_any-In (cuts of_one_class far k q) all h in
          let clip = (both (clips of_one_class far k c) (is_by far c.spot q) cut).0 in
          let differ = (both (of_one_class k c) (is_before far k.spot c.spot) clip).0 in
          let one_class = (both (same_name k.class c.class) (not (same_name k.fact c.fact)) differ).0 in
          In-list_any (cuts of_one_class far k q) own c ((is_own c).1 (at, subst (λ z. same_name z c.class ≡ true) e one_class)) cut

  pub support_alike : (f : List ℕ) (p q : P) (k : TokenRow P) → k.class ≡ class → supports of_one_class far own f p q k ≡ supports of_one_class far all f p q k
  support_alike f p q k e = ap (λ b. same_name k.fact f && is_by far k.spot p && b) (by k.end)
    where
      by : (o : Option P) → lasts_to of_one_class far own k q o ≡ lasts_to of_one_class far all k q o
      by None = ap not (cut_alike k q e)
      by (Some x) = refl
