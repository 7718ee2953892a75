-- A set of points, as a list and as marks, with one point more.
use Rattle.std.proofs.Common.{◌∙◌, inl, inr, ℕ, ◌<◌, ◌++◌, List, [], ◌∷◌, Bool, true, false, refl, sym, subst, arith}
use Rattle.std.specs.Prelude.{slice_set}
use Rattle.std.specs.List.{Contains}
use Rattle.std.proofs.lemmas.Bool.{cases_eq}
use Rattle.std.proofs.lemmas.List.{length-set, get_or-set_other}
use Rattle.std.proofs.lemmas.List.Elements.{All-push, Contains-append_left, Contains-append_right}
use Rattle.dist_repair.specs.Held.{AreMarked}

pub AreMarked-more : (points : List ℕ) (marks : List Bool) (p : ℕ) → p < 256 → AreMarked points marks → AreMarked (points ++ p ∷ []) (slice_set marks p true)
AreMarked-more points marks p small is = record {
  small = All-push (λ q. q < 256) points p is.small small;
  all = length-set marks p true ∙ is.all;
  listed = λ q marked.
      elim (cases_eq q p) [
        | inl same ↦ subst (Contains (points ++ p ∷ [])) (sym same) (Contains-append_right points (p ∷ []) p (0, omega arith, refl))
        | inr other ↦ Contains-append_left points (p ∷ []) q (is.listed q (sym (get_or-set_other marks p q true false other) ∙ marked))
      ];
}
