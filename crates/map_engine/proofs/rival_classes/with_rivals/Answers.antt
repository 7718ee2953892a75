use Rattle.std.proofs.Common.{ℕ, List, sym, subst}
use Rattle.std.specs.List.{Contains}
use Rattle.premise_list.specs.Rivalries.{rivalries}
use Rattle.map_engine.specs.RivalClasses.{FollowsBoth}
use Rattle.map_engine.proofs.RivalClasses.{is_there_more}
use Rattle.map_engine.proofs.rival_classes.with_rivals.Goals as goal

pub returns : goal.returns
returns c =
    let lists = c.args.standing.now in
    let s = lists.present in
    let now = rivalries s.premises in
    let then = rivalries lists.committed.premises in
    let mid = c.push_changed.new.found.items in
    let new = c.push_near.new.found.items in
    let changed = c.in_ok-push_changed.ensures in
    let near = c.in_ok-push_near.ensures in
    record {
      own = λ class at. near.kept class (changed.kept class (c.in_ok-push_names.ensures.pushed class (subst (λ (l : List (List ℕ)). Contains l class) (sym c.as_slice.ensures.value) at)));
      gone = λ pair at. is_there_more s mid new near.kept now pair (changed.gone pair at);
      come = λ pair at. is_there_more s mid new near.kept then pair (changed.come pair at);
      near = λ pair at. subst (λ (l : List (List ℕ)). FollowsBoth s l new pair) c.as_slice-2.ensures.value (near.near pair at);
    }
