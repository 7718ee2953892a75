use Rattle.std.proofs.Common.{ℕ, List, sym, subst}
use Rattle.std.specs.List.{All, Contains}
use Rattle.spots.specs.Forest.{IsLive}
use Rattle.occ_tree.specs.Standing.{present, forest}
use Rattle.occ_tree.proofs.Touching.{tokens_before}
use Rattle.occ_tree.proofs.tree.Tree.touched.Goals as goal

pub returns-in_err-nodes-clause-before : goal.returns-in_err-nodes-clause-before
returns-in_err-nodes-clause-before c = tokens_before c.args.self.now c.classes.ensures.stands

pub touched_classes-requires : goal.touched_classes-requires
touched_classes-requires c = subst (All (IsLive (forest (present c.args.self.now)))) (sym c.as_slice.ensures.value) c.in_ok-nodes.ensures.live

pub returns-in_err-classes-clause-before : goal.returns-in_err-classes-clause-before
returns-in_err-classes-clause-before c = tokens_before c.args.self.now c.classes.ensures.stands

pub returns-clause-classes : goal.returns-clause-classes
returns-clause-classes c class other = record {
  tokens = c.in_ok-classes.ensures.others class other;
  unmoved = λ x m at has moved.
      let there = subst (λ (l : List ℕ). Contains l x) (sym c.as_slice.ensures.value) (c.in_ok-nodes.ensures.nodes x m at moved) in
      other (c.in_ok-classes.ensures.nodes class x m there at has);
}

pub returns-clause-before : goal.returns-clause-before
returns-clause-before c = tokens_before c.args.self.now c.classes.ensures.stands
