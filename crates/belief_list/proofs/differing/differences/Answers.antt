use Rattle.std.proofs.Common.{◌≡◌, true, false, length, refl, ◌∙◌, ap, subst, arith}
use Rattle.std.proofs.lemmas.List.{length-replicate}
use Rattle.std.proofs.lemmas.List.Elements.{Contains-get_or}
use Rattle.belief_list.specs.Finding.{mark_under, IsClassSettled}
use Rattle.belief_list.proofs.Finding.{found_first, each_more, settled_more, classes_settled, places_marked}
use Rattle.belief_list.proofs.Untouched.{differences_are}
use Rattle.belief_list.proofs.differing.differences.Goals as goal

pub loop-class-init : goal.loop-class-init
loop-class-init c = record {
  long = ap length c.in_ok-found.ensures.marks ∙ length-replicate (length c.args.kept.now) false;
  found =
      found_first c.args.map.now.standing.now.present c.args.map.now.net.now.present c.args.map.now.tree.now c.args.classes.now c.args.kept.now c.requires.room (length c.args.kept.now) refl
      c.in_ok-found.found.marks.items c.in_ok-found.ensures.marks c.in_ok-found.found.differences.items c.in_ok-found.ensures.none;
  done = λ j d below. absurd (omega (arith, below));
}

pub loop-class-preserved : goal.loop-class-preserved
loop-class-preserved c =
    let lists = c.args.map.now.standing.now in
    let tree = c.args.map.now.tree.now in
    let nodes = c.args.nodes.now in
    let kept = c.args.kept.now in
    let marks = c.loop-class.found.marks.items in
    let new = c.tell_class.new.found.marks.items in
    record {
      long = c.in_ok-tell_class.ensures.long;
      found = c.in_ok-tell_class.ensures.found c.args.classes.now c.loop-class.invariant.found;
      done = each_more (IsClassSettled lists tree nodes kept marks) (IsClassSettled lists tree nodes kept new) c.args.classes.now c.loop-class.class-index c.class-item.result c.loop-class-test.true
          (settled_more lists tree nodes kept marks new c.in_ok-tell_class.ensures.stay)
          (subst (IsClassSettled lists tree nodes kept new) c.class-item.is (c.in_ok-tell_class.ensures.settled nodes c.in_ok-touched.ensures.touched)) c.loop-class.invariant.done;
    }

pub loop-x-init : goal.loop-x-init
loop-x-init c = record {
  long = c.loop-class.invariant.long;
  found = c.loop-class.invariant.found;
  classes =
      classes_settled c.args.map.now.standing.now c.args.map.now.tree.now c.args.nodes.now c.args.kept.now c.loop-class.found.marks.items c.args.classes.now
      (λ j d lt. c.loop-class.invariant.done j d (omega (arith, lt, c.loop-class-test.false)));
  counted = tt;
  done = λ j d below. absurd (omega (arith, below));
}

pub loop-x-preserved : goal.loop-x-preserved
loop-x-preserved c =
    let marks = c.loop-x.found.marks.items in
    let new = c.tell_node.new.found.marks.items in
    record {
      long = c.in_ok-tell_node.ensures.long;
      found = c.in_ok-tell_node.ensures.found c.args.map.now.net.now.present c.args.nodes.now c.args.classes.now (Contains-get_or c.args.nodes.now c.loop-x.x-index _ c.loop-x-test.true) c.loop-x.invariant.classes c.loop-x.invariant.found;
      classes = λ class there. settled_more c.args.map.now.standing.now c.args.map.now.tree.now c.args.nodes.now c.args.kept.now marks new c.in_ok-tell_node.ensures.stay class (c.loop-x.invariant.classes class there);
      counted = c.tell_node.ensures.last;
      done = each_more (λ y. mark_under marks y ≡ true) (λ y. mark_under new y ≡ true) c.args.nodes.now c.loop-x.x-index _ c.loop-x-test.true
          c.in_ok-tell_node.ensures.stay c.in_ok-tell_node.ensures.marked c.loop-x.invariant.done;
    }

pub returns-clause-made : goal.returns-clause-made
returns-clause-made c = λ edit edited.
    differences_are c.args.map.now.standing.now c.args.map.now.net.now edit c.args.map.now.tree.now c.args.kept.now c.args.nodes.now c.args.classes.now edited c.requires.kept c.requires.covered
    c.moved.ensures.moved c.have_tokens.ensures.rows c.requires.seen.dated c.loop-x.found.marks.items c.loop-x.found.differences.items c.loop-x.invariant.found
    (places_marked c.loop-x.found.marks.items c.args.nodes.now (λ j d lt. c.loop-x.invariant.done j d (omega (arith, lt, c.loop-x-test.false)))) c.loop-x.invariant.classes
