-- The first supporters of antecedents, one after the other.
use Rattle.std.proofs.Common.{◌≡◌, ◌∙◌, ℕ, ◌+◌, ◌<◌, List, [], ◌∷◌, ◌++◌, map, take, length, get_or, refl, sym, ap}
use Rattle.std.specs.Prelude.{Option, Some, None}
use Rattle.std.specs.List.{filter_map, cons_option}
use Rattle.std.specs.Option.{option_map, option_to_list}
use Rattle.std.proofs.lemmas.List.{map-append}
use Rattle.std.proofs.lemmas.List.Elements.{filter_map-append}
use Rattle.tmm_model.specs.Moments.{Moment}
use Rattle.supports.proofs.Taken.{next_taken}

module _ {A X : Type 0} (g : X → Moment) (h : A → Option Moment) where
  listed : (o : Option X) → map g (option_to_list o) ≡ cons_option (option_map g o) []
  listed None = refl
  listed (Some x) = refl

  pub found_more : (xs new : List X) (facts : List A) (i : ℕ) (fact : A) (o : Option X) → map g xs ≡ filter_map (λ k. k) (map h (take i facts)) → i < length facts → fact ≡ get_or facts i fact
      → option_map g o ≡ h fact → new ≡ xs ++ option_to_list o → map g new ≡ filter_map (λ k. k) (map h (take (i + 1) facts))
  found_more xs new facts i fact o before below is one grown =
      ap (map g) grown
      ∙ map-append g xs (option_to_list o)
      ∙ (λ j. before j ++ (listed o ∙ ap (λ k. cons_option k []) one) j)
      ∙ sym (filter_map-append (λ k. k) (map h (take i facts)) (h fact ∷ []))
      ∙ ap (filter_map (λ k. k)) (sym (map-append h (take i facts) (fact ∷ [])) ∙ ap (map h) (sym (next_taken facts i fact below is)))
