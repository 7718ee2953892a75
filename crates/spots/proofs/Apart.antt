-- How far apart rules lead, and the last of their names.
use Rattle.std.proofs.Common.{◌≡◌, ℕ, Bool, true, false, List, [], ◌∷◌, ◌<◌, refl, sym, subst}
use Rattle.tmm_model.specs.Bounds.{bound_less}
use Rattle.tmm_model.specs.Points.{same_name}
use Rattle.spots.specs.declared.link.Link.{Link}
use Rattle.spots.specs.Spots.{links_low, links_high, links_apart}

pub apart_from_none : (u : List Link) → links_apart u [] ≡ bound_less (links_high []) (links_low u)
apart_from_none [] = refl
apart_from_none (l ∷ u) = refl

module _ (l k : Link) (u v : List Link) where
  pub apart_same : same_name l.rule k.rule ≡ true → links_apart (l ∷ u) (k ∷ v) ≡ links_apart u v
  apart_same e =
      subst (λ (b : Bool). (elim b [ true ↦ links_apart u v | false ↦ bound_less (links_high (k ∷ v)) (links_low (l ∷ u)) ]) ≡ links_apart u v) (sym e) refl

  pub apart_differ : same_name l.rule k.rule ≡ false → links_apart (l ∷ u) (k ∷ v) ≡ bound_less (links_high (k ∷ v)) (links_low (l ∷ u))
  apart_differ e =
      subst (λ (b : Bool). (elim b [ true ↦ links_apart u v | false ↦ bound_less (links_high (k ∷ v)) (links_low (l ∷ u)) ]) ≡ bound_less (links_high (k ∷ v)) (links_low (l ∷ u))) (sym e) refl

pub apart_to_none : (v : List Link) → links_apart [] v ≡ bound_less (links_high v) (links_low [])
apart_to_none [] = refl
apart_to_none (k ∷ v) = refl
