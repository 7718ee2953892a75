use Rattle.std.proofs.Common.{◌≡◌, ◌∙◌, ◌+◌, ◌<◌, [], ◌∷◌, ◌++◌, length, take, sym, ap, subst, arith}
use Rattle.std.proofs.lemmas.List.{take_more, take_all}
use Rattle.std.proofs.lemmas.Option.{slice_get_within, get_or_from_slice_get}
use Rattle.premise_list.specs.Rivalries.{rivalries}
use Rattle.premise_list.proofs.PairsOfFacts.{In-slice_get}
use Rattle.tmm_model.specs.Beliefs.{contradicts_in}
use Rattle.tmm_model.specs.Tokens.{of_one_class}
use Rattle.occ_tree.specs.Places.{forest}
use Rattle.occ_tree.specs.Tokens.{number_of}
use Rattle.supports.specs.Clips.{of_pairs, IsClipBy}
use Rattle.supports.proofs.ByPairs.{none_yet, all_pairs, span_unclipped}
use Rattle.supports.proofs.rivals.clip.Goals as goal

pub returns-then-is_some-clause-clip : goal.returns-then-is_some-clause-clip
returns-then-is_some-clause-clip c b seen holds =
    c.requires.own b seen holds
    ∙ span_unclipped seen holds (number_of c.args.k.now.spot) c.args.k.now c.requires.token of_one_class (contradicts_in c.args.standing.now.present) (sym c.is_some.ensures ∙ c.if-is_some.true)

pub loop-i-init : goal.loop-i-init
loop-i-init c = record {
  few = omega arith;
  live = c.requires.live;
  clip = subst (λ contradicts. IsClipBy contradicts c.args.standing.now.present c.args.net.now.present (forest c.args.tree.now) (number_of c.args.k.now.spot) c.args.own) (sym none_yet) c.requires.own;
}

pub clip_with-clip-requires-clause-pair : goal.clip_with-clip-requires-clause-pair
clip_with-clip-requires-clause-pair c = In-slice_get (rivalries c.args.standing.now.present.premises) c.loop-i.i c.rivalry.result c.rivalry.ensures

pub loop-i-preserved : goal.loop-i-preserved
loop-i-preserved c =
    let pairs = rivalries c.args.standing.now.present.premises in
    let pair = c.rivalry.result in
    let within : c.loop-i.i < length pairs = slice_get_within pairs c.loop-i.i pair c.rivalry.ensures in
    let taken : take (c.loop-i.i + 1) pairs ≡ take c.loop-i.i pairs ++ pair ∷ [] =
    take_more pairs c.loop-i.i pair within ∙ ap (λ y. take c.loop-i.i pairs ++ y ∷ []) (get_or_from_slice_get pairs c.loop-i.i pair pair c.rivalry.ensures) in
    record {
      few = omega (arith, within);
      live = c.clip_with-clip.ensures.live;
      clip = subst (λ some. IsClipBy (of_pairs some) c.args.standing.now.present c.args.net.now.present (forest c.args.tree.now) (number_of c.args.k.now.spot) c.clip_with-clip.result) (sym taken)
          (c.clip_with-clip.ensures.clip (take c.loop-i.i pairs) c.loop-i.invariant.clip);
    }

pub returns-clause-clip : goal.returns-clause-clip
returns-clause-clip c =
    let s = c.args.standing.now.present in
    let pairs = rivalries s.premises in
    subst (λ contradicts. IsClipBy contradicts s c.args.net.now.present (forest c.args.tree.now) (number_of c.args.k.now.spot) c.loop-i.clip) (all_pairs s)
    (subst (λ some. IsClipBy (of_pairs some) s c.args.net.now.present (forest c.args.tree.now) (number_of c.args.k.now.spot) c.loop-i.clip) (take_all c.loop-i.i pairs (omega (arith, c.loop-i-test.false, c.rivalries-i-end.ensures))) c.loop-i.invariant.clip)
