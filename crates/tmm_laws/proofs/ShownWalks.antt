-- Where two points have a distance, constraints can be shown that give it.
use Rattle.std.proofs.Common.{◌≡◌, ◌∙◌, List, [], ◌∷◌, ◌++◌, map, ℤ, ◌≤ℤ◌, refl, sym, ap, subst, arith}
use Rattle.std.specs.List.{All, Contains, IsDistinct}
use Rattle.std.proofs.lemmas.Int.{ints}
use Rattle.std.proofs.lemmas.List.Elements.{All-nil, All-cons}
use Rattle.tmm_model.specs.declared.bound.Bound.TheVariants.{Finite}
use Rattle.tmm_model.specs.declared.point.PointName.{PointName}
use Rattle.tmm_model.specs.declared.point.PointName.TheVariants.{Start}
use Rattle.tmm_model.specs.declared.walk.WalkStep.{WalkStep}
use Rattle.tmm_model.specs.Cycles.{steps_in, Leads, sum_of, begins, IsPath}
use Rattle.tmm_model.specs.Points.{same_point}
use Rattle.tmm_model.specs.Standing.{Standing, arc_of, arcs_in, far_in}
use Rattle.tmm_model.specs.Walks.{Arc, total}
use Rattle.walk_theory.specs.LeastWalks.{IsWalk, HasWalk, IsFar, points}
use Rattle.walk_theory.proofs.Members.{Contains-map_from}
use Rattle.walk_theory.proofs.Paths.{Path, closed_walks, shorten}
use Rattle.walk_theory.proofs.Points.{Decides-same_point}
use Rattle.list_theory.specs.WellNamed.{IsSound}
use Rattle.list_theory.proofs.Cycles.{arcs_of_steps}
use Rattle.belief_theory.proofs.Sound.{far_in-IsFar}
use Rattle.tmm_model.specs.declared.premise.Premise.{Premise}

-- the steps whose constraints are those of a walk
record Shown (known : List WalkStep) (p q : PointName) (walk : List (Arc PointName)) : Type 0 where
  steps : List WalkStep
  own : All (Contains known) steps
  leads : Leads p q steps
  are : map arc_of steps ≡ walk

shown : (known : List WalkStep) (p q : PointName) (walk : List (Arc PointName)) → IsWalk (map arc_of known) p q walk → Shown known p q walk
shown known p q [] h = record { steps = []; own = All-nil (Contains known); leads = h; are = refl }
shown known p q (e ∷ walk) h =
    let (s, own, is) = Contains-map_from arc_of known e h.0 in
    let rest : Shown known e.to q walk = shown known e.to q walk h.2 in
    let back : Shown known s.to q walk = subst (λ (a : Arc PointName). Shown known a.to q walk) (sym is) rest in
    record {
      steps = s ∷ back.steps;
      own = All-cons (Contains known) s back.steps own back.own;
      leads = (ap (λ (a : Arc PointName). a.from) is ∙ h.1, back.leads);
      are = (λ i. is i ∷ back.are i);
    }

visited : (steps : List WalkStep) (q : PointName) → points (map arc_of steps) q ≡ begins steps ++ q ∷ []
visited [] q = refl
visited (s ∷ steps) q = ap (λ (l : List PointName). s.from ∷ l) (visited steps q)

-- constraints of the premises that lead from p to q, visit no point twice and have this sum
pub record HasPath (premises : List Premise) (p q : PointName) (sum : ℤ) : Type 0 where
  pub steps : List WalkStep
  pub path : IsPath (steps_in premises) p q steps
  pub sums : sum_of steps ≡ sum

-- **A distance can be shown.**
pub has_path : (s : Standing) → IsSound s → (p q : PointName) (d : ℤ) → far_in s.premises p q ≡ Finite d → HasPath s.premises p q d
has_path s sound p q d is =
    let known = steps_in s.premises in
    let arcs = arcs_in s.premises in
    let far : IsFar arcs p q (Finite d) = subst (IsFar arcs p q) is (far_in-IsFar s sound p q) in
    let r : HasWalk arcs p q d = far.reached in
    let short : Path same_point arcs p q (total r.0) = shorten same_point Decides-same_point arcs (closed_walks Start arcs sound.dates) p q r.0 r.1 in
    let told : Shown known p q short.walk = shown known p q short.walk (subst (λ (l : List (Arc PointName)). IsWalk l p q short.walk) (sym (arcs_of_steps s.premises)) short.leads) in
    let least : d ≤ℤ total short.walk = far.least short.walk short.leads in
    record {
      steps = told.steps;
      path = record {
        own = told.own;
        leads = told.leads;
        distinct = subst (IsDistinct same_point) (ap (λ (w : List (Arc PointName)). points w q) (sym told.are) ∙ visited told.steps q) short.distinct;
      };
      sums = ap total told.are ∙ omega (arith, ints, least, short.no_longer, r.2);
    }
