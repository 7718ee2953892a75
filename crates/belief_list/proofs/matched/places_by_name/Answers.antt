use Rattle.std.proofs.Common.{map, sym, subst, arith}
use Rattle.std.proofs.lemmas.List.{length-set}
use Rattle.spots.specs.Forest.{moment_at}
use Rattle.occ_tree.specs.Places.{forest}
use Rattle.occ_tree.specs.Standing.{Kept}
use Rattle.belief_list.specs.declared.list.BeliefRow.{BeliefRow}
use Rattle.belief_list.specs.Rows.{IsListing}
use Rattle.belief_list.specs.Matches.{IsMatch}
use Rattle.belief_list.specs.Tables.{IsTable}
use Rattle.belief_list.proofs.Matches.{matched_more}
use Rattle.belief_list.proofs.matched.places_by_name.Goals as goal

pub loop-x-preserved : goal.loop-x-preserved
loop-x-preserved c =
    let f = forest c.args.other.now in
    let rows = c.args.rows.now in
    let places = c.loop-x.places.items in
    let x = c.loop-x.x in
    let place = c.same_place.result in
    let e = c.in_ok-names.ensures in
    let table = subst (IsTable (map (λ (r : BeliefRow). r.node) rows)) (sym c.as_slice.ensures.value) c.in_ok-own.ensures in
    let listing = subst (λ (k : Kept). IsListing (forest k) rows) (sym e) c.requires in
    record {
      long = λ y live. rw length-set (c.loop-x.invariant.long y live);
      matched =
          matched_more f (forest c.args.tree.now) rows places x place
          (c.loop-x.invariant.long x)
          (λ live. subst (λ (k : Kept). IsMatch (moment_at f x) (forest k) rows place) e (c.same_place.ensures rows listing table live))
          c.loop-x.invariant.matched;
    }

pub returns : goal.returns
returns c = record {
  listing = c.requires;
  same = λ x live. c.loop-x.invariant.matched x (omega (arith, c.limit-limit.ensures.above x live)) live;
}
