-- What stays of a list where premises fall.
use Rattle.std.proofs.Common.{◌≡◌, ℕ, suc, ◌<◌, ◌≤◌, List, [], ◌∷◌, ◌++◌, length, take, drop, ap, subst, sym, ◌∙◌, arith}
use Rattle.std.proofs.lemmas.List.{take-append-le, take-take, length-append, length-take-le}
use Rattle.tmm_model.specs.declared.premise.Premise.{Premise}
use Rattle.tmm_model.specs.Erasure.{kept_after, kept_without}
use Rattle.list_theory.specs.WellNamed.{IsWellNamed}
use Rattle.list_theory.proofs.Erasure.{kept_without-IsWellNamed}
use Rattle.premise_list.specs.Found.{IsFoundAt}
use Rattle.premise_list.specs.Past.{without}
use Rattle.premise_list.specs.Rivalries.{rivalries}
use Rattle.premise_list.proofs.Moves.{drop_again}
use Rattle.premise_list.proofs.PairsOfFacts.{rivalries-append, rivalries_parted, rivalry_counts}

-- the places of those that fall with a name, which is found
module _ (n : List ℕ) (ps : List Premise) (first : ℕ) (found : IsFoundAt n ps first) (premises : List Premise) (same : premises ≡ ps) (places : List ℕ)
    (kept : without places premises ≡ take first premises ++ kept_after n [] (drop first premises)) where
  pub kept_behind : without places ps ≡ take first ps ++ kept_without n (drop first ps)
  kept_behind = subst (λ l. without places l ≡ take first l ++ kept_after n [] (drop first l)) same kept

  pub kept_all : without places ps ≡ kept_without n ps
  kept_all = kept_behind ∙ sym found.kept

  pub well_named_still : IsWellNamed ps → IsWellNamed (without places ps)
  well_named_still h = subst IsWellNamed (sym kept_all) (kept_without-IsWellNamed n ps h)

  pub first_long : first ≡ length (take first ps)
  first_long = let within : first < length ps = found.within in sym (length-take-le first ps (omega arith))

  pub before_stays : take first (without places ps) ≡ take first ps
  before_stays =
      let long = first_long in
      ap (take first) kept_behind ∙ take-append-le first (take first ps) (kept_without n (drop first ps)) (omega arith) ∙ take-take first first ps (omega arith)

  -- the pairs of the first premises, and of those that stay behind them
  pub pairs_still : rivalries (take first ps) ++ rivalries (drop first (without places ps)) ≡ rivalries (without places ps)
  pairs_still = ap (λ l. rivalries l ++ rivalries (drop first (without places ps))) (sym before_stays) ∙ sym (rivalries_parted first (without places ps))

-- no more pairs than before
pub rivalries_without : (is : List ℕ) (ps : List Premise) → length (rivalries (without is ps)) ≤ length (rivalries ps)
rivalries_without [] ps = omega arith
rivalries_without (i ∷ is) ps =
    let xs = without is ps in
    let rest = rivalries_without is ps in
    let parted = rivalry_counts i xs in
    let behind = rivalry_counts 1 (drop i xs) in
    let last = ap (λ l. length (rivalries l)) (drop_again i xs) in
    let here = ap length (rivalries-append (take i xs) (drop (suc i) xs)) ∙ length-append (rivalries (take i xs)) (rivalries (drop (suc i) xs)) in
    omega arith
