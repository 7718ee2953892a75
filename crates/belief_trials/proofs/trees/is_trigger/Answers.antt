use Rattle.std.proofs.Common.{◌≡◌, ◌∙◌, ◌∷◌, ◌++◌, ℕ, List, [], Some, length, sym, ap, arith}
use Rattle.tmm_model.specs.Moments.{At, After, along}
use Rattle.tmm_model.specs.declared.point.PointName.TheVariants.{Begin}
use Rattle.belief_theory.proofs.Moments.{along-push}
use Rattle.spots.specs.Forest.{Forest, Member, moment, moment_at, rules_of}
use Rattle.spots.proofs.Nodes.{moment_at-is}
use Rattle.occ_tree.specs.Standing.{present, forest}
use Rattle.belief_trials.proofs.trees.is_trigger.Goals as goal

-- where an effect begins
effect_moment : (f : Forest) (x : ℕ) (m n : Member) (rule : List ℕ) → f x ≡ Some m → n.root ≡ m.root → rules_of n ≡ rules_of m ++ rule ∷ [] → moment n ≡ After (moment_at f x) rule
effect_moment f x m n rule at root same =
    (λ i. along (At (Begin (root i))) (same i)) ∙ along-push (At (Begin m.root)) (rules_of m) rule ∙ ap (λ t. After t rule) (sym (moment_at-is f x m at))

pub returns-in-None : goal.returns-in-None
returns-in-None c e =
    let (m, here, none) = c.is_root.ensures c.if-not-is_root.false in (
      m,
      here,
      record {
        event = sym (c.row.ensures m here).shape ∙ c.in-Event.is;
        room = let short = ap length none in omega (arith, short);
        new = λ y n y_at root same. c.in-None.ensures y n y_at (effect_moment (forest (present c.args.tree.now)) c.args.x m n c.args.rule.now here root same);
      },
    )
