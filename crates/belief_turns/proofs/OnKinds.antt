-- No two premises are of one rule on a kind.
use Rattle.std.proofs.Common.{◌≡◌, ◌∙◌, ℕ, suc, List, [], ◌∷◌, ◌++◌, map, take, drop, sym, ap, subst, inl, inr}
use Rattle.std.specs.Prelude.{Some, slice_get}
use Rattle.std.specs.List.{filter_map}
use Rattle.std.proofs.lemmas.List.{map-append}
use Rattle.std.proofs.lemmas.List.Elements.{filter_map-append}
use Rattle.tmm_model.specs.declared.premise.Premise.{Premise}
use Rattle.tmm_model.specs.Beliefs.{on_kind}
use Rattle.list_theory.proofs.Distinct.{Distinct}
use Rattle.list_theory.proofs.Elements.{In, In-left}
use Rattle.spots.proofs.Grown.{parted}

-- what stands in front in a list without repeats is not what follows
apart_in : {X : Type 0} (xs ys : List X) → Distinct (xs ++ ys) → (x : X) → In x xs → In x ys → ⊥
apart_in [] ys once x at there = absurd at
apart_in (z ∷ xs) ys once x (inl is) there = once.0 (subst (λ w. In w (xs ++ ys)) (sym is) (right xs ys x there))
  where
    right : {X : Type 0} (xs ys : List X) (x : X) → In x ys → In x (xs ++ ys)
    right [] ys x at = at
    right (y ∷ xs) ys x at = inr (right xs ys x at)
apart_in (z ∷ xs) ys once x (inr at) there = apart_in xs ys once.1 x at there

pub rules_apart : (kind : List ℕ) (premises : List Premise) (i : ℕ) (p : Premise) → slice_get premises i ≡ Some p → Distinct (filter_map (on_kind kind) premises)
    → (r : List ℕ) → In r (filter_map (on_kind kind) (take i premises)) → In r (filter_map (on_kind kind) (p ∷ [])) → ⊥
rules_apart kind premises i p at once r there here =
    let told = filter_map (on_kind kind) in
    let rest = drop (suc i) premises in
    let whole : told premises ≡ told (take i premises) ++ (told (p ∷ []) ++ told rest) =
    ap told (sym (parted premises i p at)) ∙ filter_map-append (on_kind kind) (take i premises) (p ∷ rest) ∙ ap (λ l. told (take i premises) ++ l) (filter_map-append (on_kind kind) (p ∷ []) rest) in
    apart_in (told (take i premises)) (told (p ∷ []) ++ told rest) (subst Distinct whole once) r there (In-left (told (p ∷ [])) (told rest) r here)

-- nor are two places of one name
pub places_apart : (name : ℕ → List ℕ) (places : List ℕ) (i place : ℕ) → slice_get places i ≡ Some place → Distinct (map name places)
    → (r : List ℕ) → In r (map name (take i places)) → In r (name place ∷ []) → ⊥
places_apart name places i place at once r there here =
    let rest = drop (suc i) places in
    let whole : map name places ≡ map name (take i places) ++ (name place ∷ map name rest) = ap (map name) (sym (parted places i place at)) ∙ map-append name (take i places) (place ∷ rest) in
    apart_in (map name (take i places)) (name place ∷ map name rest) (subst Distinct whole once) r there (In-left (name place ∷ []) (map name rest) r here)
