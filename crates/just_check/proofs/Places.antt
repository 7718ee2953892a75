-- Elements of a list by their places.
use Rattle.std.proofs.Common.{◌≡◌, ◌∙◌, ℕ, suc, ◌+◌, ◌<◌, List, [], ◌∷◌, ◌++◌, map, take, drop, get_or, length, sym, ap}
use Rattle.std.proofs.Math.Seq.{drop-cons}
use Rattle.std.proofs.lemmas.List.{map-append, take-append-drop}
use Rattle.list_theory.proofs.Elements.{In, In-from_Contains}
use Rattle.supports.proofs.Taken.{next_taken}

module _ {X Y : Type 0} (h : X → Y) (xs : List X) (i : ℕ) (x : X) (below : i < length xs) (is : x ≡ get_or xs i x) where
  pub mapped_more : map h (take (i + 1) xs) ≡ map h (take i xs) ++ h x ∷ []
  mapped_more = ap (map h) (next_taken xs i x below is) ∙ map-append h (take i xs) (x ∷ [])

  pub element_in : In x xs
  element_in = In-from_Contains xs x (i, below, sym is)

  -- the list, parted at the place
  pub mapped_parts : map h (take i xs) ++ h x ∷ map h (drop (suc i) xs) ≡ map h xs
  mapped_parts =
      sym (map-append h (take i xs) (x ∷ drop (suc i) xs))
      ∙ ap (map h) (ap (λ l. take i xs ++ l) ((λ j. is j ∷ drop (suc i) xs) ∙ sym (drop-cons xs i x below)) ∙ take-append-drop i xs)
