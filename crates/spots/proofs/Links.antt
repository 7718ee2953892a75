-- The delays of the links are those of the list's rules.
use Rattle.std.proofs.Common.{◌≡◌, ◌+ℤ◌, pos, true, false, List, [], ◌∷◌, ℕ, map, refl, sym, arith}
use Rattle.std.specs.List.{All}
use Rattle.std.proofs.lemmas.List.Elements.{All-tail}
use Rattle.tmm_model.specs.declared.bound.Bound.TheVariants.{Finite}
use Rattle.tmm_model.specs.Bounds.{bound_plus, bound_less}
use Rattle.tmm_model.specs.Moments.{low, high, apart}
use Rattle.tmm_model.specs.Points.{same_name}
use Rattle.tmm_model.specs.Standing.{Standing}
use Rattle.spots.specs.declared.link.Link.{Link}
use Rattle.spots.specs.OfLists.{IsLinkOf}
use Rattle.spots.specs.Spots.{links_low, links_high, links_apart}

abbrev pub rules_in : List Link → List (List ℕ)
rules_in links = map (λ (l : Link). l.rule) links

module _ (s : Standing) where
  head_is : (l : Link) (links : List Link) → All (IsLinkOf s) (l ∷ links) → IsLinkOf s l
  head_is l links all = all 0 l (omega arith)

  tail_are : (l : Link) (links : List Link) → All (IsLinkOf s) (l ∷ links) → All (IsLinkOf s) links
  tail_are l links all = All-tail (IsLinkOf s) l links all

  pub low_is : (links : List Link) → All (IsLinkOf s) links → links_low links ≡ low s (rules_in links)
  low_is [] all = refl
  low_is (l ∷ links) all =
      let lo = sym (head_is l links all).lo in
      let rest = low_is links (tail_are l links all) in
      λ i. lo i +ℤ rest i

  pub high_is : (links : List Link) → All (IsLinkOf s) links → links_high links ≡ high s (rules_in links)
  high_is [] all = refl
  high_is (l ∷ links) all =
      let hi = sym (head_is l links all).hi in
      let rest = high_is links (tail_are l links all) in
      λ i. bound_plus (hi i) (rest i)

  pub apart_is : (u v : List Link) → All (IsLinkOf s) u → All (IsLinkOf s) v → links_apart u v ≡ apart s (rules_in u) (rules_in v)
  apart_is [] [] all_u all_v = refl
  apart_is [] (k ∷ v) all_u all_v = let h = high_is (k ∷ v) all_v in λ i. bound_less (h i) (pos 0)
  apart_is (l ∷ u) [] all_u all_v = let h = low_is (l ∷ u) all_u in λ i. bound_less (Finite (pos 0)) (h i)
  apart_is (l ∷ u) (k ∷ v) all_u all_v =
      let rest = apart_is u v (tail_are l u all_u) (tail_are k v all_v) in
      let high_v = high_is (k ∷ v) all_v in
      let low_u = low_is (l ∷ u) all_u in
      λ i. elim (same_name l.rule k.rule) [ true ↦ rest i | false ↦ bound_less (high_v i) (low_u i) ]
