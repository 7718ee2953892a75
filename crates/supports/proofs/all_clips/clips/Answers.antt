use Rattle.std.proofs.Common.{◌≡◌, ◌+◌, ◌-◌, ◌<◌, ◌∙◌, sym, arith, None}
use Rattle.std.specs.Prelude.{IfSome, length, slice_index_or}
use Rattle.std.specs.Option.{option_map}
use Rattle.std.proofs.lemmas.List.{length-map, length-set}
use Rattle.tmm_model.specs.Answers.{clip}
use Rattle.occ_tree.specs.Ranks.{nodes_of}
use Rattle.spots.specs.Forest.{IsLive, moment_at}
use Rattle.spots.specs.OfLists.{map_of}
use Rattle.occ_tree.specs.Places.{forest}
use Rattle.supports.specs.Behind.{IsClip}
use Rattle.supports.proofs.Falling.{same_maps, set_on}
use Rattle.supports.proofs.all_clips.clips.Goals as goal

pub loop-i-preserved : goal.loop-i-preserved
loop-i-preserved c =
    let at : c.loop-i.i - 1 + 1 ≡ c.loop-i.i = omega arith in
    let within : c.loop-i.i - 1 < length c.args.ranked.now = omega arith in record {
      count = length-set c.loop-i.clips.items (c.loop-i.i - 1) c.in_ok-clips-2.field-0 ∙ c.loop-i.invariant.count;
      live = set_on (λ j clip. IfSome clip (IsLive (forest c.args.tree.now))) c.loop-i.clips.items (length c.args.ranked.now) c.loop-i.i (c.loop-i.i - 1) c.in_ok-clips-2.field-0
          c.loop-i.invariant.count at within c.in_ok-clips-2.ensures.live c.loop-i.invariant.live;
      clip = set_on (λ j clip. IsClip c.args.standing.now.present c.args.net.now.present (forest c.args.tree.now) (slice_index_or (nodes_of c.args.ranked.now) j 0) clip) c.loop-i.clips.items (length c.args.ranked.now) c.loop-i.i (c.loop-i.i - 1) c.in_ok-clips-2.field-0
          c.loop-i.invariant.count at within c.in_ok-clips-2.ensures.clip c.loop-i.invariant.clip;
      behind = c.in_ok-clips-2.ensures.behind;
    }

pub returns-clause-first : goal.returns-clause-first
returns-clause-first c b seen holds =
    same_maps (option_map (moment_at (forest c.args.tree.now))) (λ x. clip (map_of c.args.standing.now.present b) (moment_at (forest c.args.tree.now) x)) None 0 c.loop-i.clips.items (nodes_of c.args.ranked.now)
    (c.loop-i.invariant.count ∙ sym (length-map c.args.ranked.now (λ r. r.node)))
    (λ j lt. c.loop-i.invariant.clip j None (omega (arith, c.loop-i-test.false)) (omega (arith, lt, length-map c.args.ranked.now (λ r. r.node))) b seen holds)
