-- Why a door is believed to be shut after a push: the lines that `why e/r` is answered.
use Rattle.std.proofs.Common.{◌≡◌, inl, inr, List, [], ◌∷◌, pos, negsuc, refl, sym, subst, arith}
use Rattle.std.specs.Prelude.{◌↔◌, codes}
use Rattle.std.specs.List.{AllZip, IsDistinct, Contains, list_all}
use Rattle.std.specs.List.Sorted.{IsStrictlySortedBy}
use Rattle.std.specs.declared.cmp.Ordering.TheVariants.{Less}
use Rattle.tmm_model.specs.declared.point.PointName.TheVariants.{Start, Begin}
use Rattle.tmm_model.specs.declared.walk.Side.TheVariants.{Hi, Lo}
use Rattle.tmm_model.specs.declared.walk.WalkStep.{WalkStep}
use Rattle.tmm_model.specs.Maps.{TimeMap, built, gap, order}
use Rattle.tmm_model.specs.Moments.{Moment}
use Rattle.tmm_model.specs.Cycles.{steps_in, IsPath}
use Rattle.tmm_model.specs.Paths.{IsLeastWalk}
use Rattle.tmm_model.specs.Reasons.{Reason, by_premise, by_order, by_rule, Upholds, pairs, belief_line, IsOrderLine, IsWhy}
use Rattle.tmm_model.specs.Standing.{Standing}
use Rattle.list_theory.proofs.Elements.{In-from_Contains}
use Rattle.belief_theory.proofs.FarTables.{by_table, of_map}
use Rattle.walk_theory.proofs.Members.{All-from_contains}
use Rattle.belief_theory.proofs.Upholding.{all_upheld, is_closed, reaches}
use Rattle.tmm_examples.proofs.WorkedScripts.{within, push, root, effect}

abbrev pushed : Standing
pushed = within 1000 push

abbrev k : Moment
k = root (codes "k")

abbrev e : Moment
e = root (codes "e")

abbrev er : Moment
er = effect (codes "e") (codes "r")

-- dist x start e 10 10, from below, and dist z start k 0 0, from above
abbrev to_k : List WalkStep
to_k =
    record { premise = codes "x"; side = Lo; from = Begin (codes "e"); to = Start; weight = negsuc 9 }
    ∷ record { premise = codes "z"; side = Hi; from = Start; to = Begin (codes "k"); weight = pos 0 } ∷ []

from_e_to_k : IsPath (steps_in push) (Begin (codes "e")) (Begin (codes "k")) to_k
unfolding IsDistinct
from_e_to_k = record {
  own =
      All-from_contains (Contains (steps_in push)) to_k (λ x at.
      elim (In-from_Contains to_k x at) [
        | inl is ↦ subst (Contains (steps_in push)) is (5, omega arith, refl)
        | inr rest ↦ elim rest [ inl is ↦ subst (Contains (steps_in push)) is (1, omega arith, refl) | inr none ↦ absurd none ]
      ]);
  leads = (refl, (refl, refl));
  distinct = ((refl, (refl, tt)), ((refl, tt), (tt, tt)));
}

from_e : IsLeastWalk (built pushed) (Begin (codes "e")) (Begin (codes "k")) to_k
from_e = record { path = from_e_to_k; least = by_table (λ far. far (Begin (codes "e")) (Begin (codes "k"))) push }

-- k is surely at or before e, since it is 10 before it at the least
k_before_e : IsOrderLine (built pushed) (k, e) (by_order k e (negsuc 9) to_k)
k_before_e = record { far = negsuc 9; steps = to_k; shown = refl; distance = of_map (λ m. gap m e k) pushed; walk = from_e }

-- premise k / premise e / order k e -10, with the two steps / e/r by r on e with k
abbrev its_rule : Reason
its_rule = by_rule er (codes "r") e (k ∷ []) []

abbrev lines : List Reason
lines = by_premise (codes "k") ∷ by_premise (codes "e") ∷ by_order k e (negsuc 9) to_k ∷ its_rule ∷ []

abbrev rested_on : List Moment
rested_on = k ∷ e ∷ er ∷ []

its_rests : (x : Moment) → Contains rested_on x ↔ Upholds (built pushed) er x
its_rests = all_upheld (built pushed) 1 er rested_on refl (of_map (λ m. is_closed m rested_on) pushed) (of_map (λ m. list_all (reaches m 1 er) rested_on) pushed)

-- lines of a map in which this is so
told : (m : TimeMap) → ((x : Moment) → Contains rested_on x ↔ Upholds m er x) → order m k e ≡ Less → order m k er ≡ Less → order m e er ≡ Less
    → pairs m er ≡ (k, e) ∷ [] → belief_line m er ≡ its_rule → IsOrderLine m (k, e) (by_order k e (negsuc 9) to_k) → IsWhy m er lines
unfolding IsStrictlySortedBy
told m all first second third its_pairs own line = record {
  occs = rested_on;
  all = all;
  in_order = ((first, (second, tt)), ((third, tt), (tt, tt)));
  told = (
    [],
    by_premise (codes "e") ∷ by_order k e (negsuc 9) to_k ∷ its_rule ∷ [],
    refl,
    tt,
    (
      [],
      by_order k e (negsuc 9) to_k ∷ its_rule ∷ [],
      refl,
      tt,
      (by_order k e (negsuc 9) to_k ∷ [], [], (λ i. by_order k e (negsuc 9) to_k ∷ own_back i ∷ []), subst (λ ps. AllZip (IsOrderLine m) ps (by_order k e (negsuc 9) to_k ∷ [])) (sym its_pairs) (line, tt), refl),
    ),
  );
}
  where
    own_back : its_rule ≡ belief_line m er
    own_back = sym own

why_shut : IsWhy (built pushed) er lines
why_shut =
    told (built pushed) its_rests
    (of_map (λ m. order m k e) pushed) (of_map (λ m. order m k er) pushed) (of_map (λ m. order m e er) pushed)
    (of_map (λ m. pairs m er) pushed) (of_map (λ m. belief_line m er) pushed) k_before_e
