-- The first word of a line, read.
use Rattle.std.proofs.Common.{◌≡◌, ℕ, List, ◌∷◌, Option, Some, None, refl, ap, ◌∙◌}
use Rattle.std.specs.Prelude.{option_map}
use Rattle.tmm_grammar.specs.Reading.{◌>>=◌, front}

same : {A B : Type 0} (f : A → B) (r : Option A) → option_map f r ≡ (r >>= λ x. Some (f x))
same f None = refl
same f (Some x) = refl

pub front_is : {A : Type 0} (read : List ℕ → Option A) (ws : List (List ℕ)) (w : List ℕ) (rest : List (List ℕ)) (r : Option A) → ws ≡ w ∷ rest → r ≡ read w → option_map {U = A × List (List ℕ)} (λ x. (x, rest)) r ≡ front read ws
front_is {A} read ws w rest r is e =
    let f : A → A × List (List ℕ) = λ x. (x, rest) in
    same f r ∙ ap (λ (r : Option A). r >>= λ x. Some (f x)) e ∙ rw is refl
