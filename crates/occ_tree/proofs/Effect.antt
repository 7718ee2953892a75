-- What a rule leads to from a node, found by its name.
use Rattle.std.proofs.Common.{◌≡◌, ◌∙◌, ℕ, List, [], ◌∷◌, ◌++◌, Option, Some, None, refl, sym, ap}
use Rattle.std.specs.Prelude.{MatchOption}
use Rattle.tmm_model.specs.declared.point.PointName.TheVariants.{Begin}
use Rattle.tmm_model.specs.Moments.{Moment, At, After, along}
use Rattle.belief_theory.proofs.Moments.{along-push}
use Rattle.spots.specs.Forest.{Member, member, moment_at, rules_of, IsFound}
use Rattle.spots.proofs.Nodes.{moment_at-is}
use Rattle.occ_tree.specs.Named.{IsNamed}
use Rattle.occ_tree.specs.Nodes.{Nodes, forest_in, ArePlaced}
use Rattle.occ_tree.proofs.Finding.{moment_spelt, spelt_further, spelt_moment, no_further}

module _ (node : Nodes) (placed : ArePlaced node) (x : ℕ) (m : Member) (at : member (forest_in node) x ≡ Some m) (rule : List ℕ) where
  effect_is : along (At (Begin m.root)) (rules_of m ++ rule ∷ []) ≡ After (moment_at (forest_in node) x) rule
  effect_is = along-push (At (Begin m.root)) (rules_of m) rule ∙ ap (λ (t : Moment). After t rule) (sym (moment_at-is (forest_in node) x m at))

  pub effect_found : (found : Option ℕ) → MatchOption found ((z : ℕ) → IsNamed node (Some x) rule z → ⊥) (IsNamed node (Some x) rule)
      → IsFound (forest_in node) (After (moment_at (forest_in node) x) rule) found
  effect_found (Some z) named =
      let spelt = moment_spelt node placed x m m.root (rules_of m) at refl in
      let (k, there, is) = spelt_moment node placed z m.root (rules_of m ++ rule ∷ []) (spelt_further node placed x z (m.root ∷ rules_of m) rule spelt named) in
      (k, there, is ∙ effect_is)
  effect_found None none = λ y n there is.
      no_further node placed x y (m.root ∷ rules_of m) rule [] (moment_spelt node placed x m m.root (rules_of m) at refl) none
      (moment_spelt node placed y n m.root (rules_of m ++ rule ∷ []) there (is ∙ sym effect_is))
