use Rattle.std.proofs.Common.{◌≡◌, ◌∙◌, ◌<◌, false, inl, inr, length, sym, subst, arith}
use Rattle.std.proofs.lemmas.Bool.{cases_lt}
use Rattle.std.proofs.lemmas.List.{get_or_read}
use Rattle.std.specs.Prelude.{slice_index_or}
use Rattle.tmm_model.specs.Tokens.{of_one_class, clips}
use Rattle.occ_tree.specs.Places.{forest}
use Rattle.spots.specs.Spots.{spot_distance}
use Rattle.supports.proofs.OfLaterDates.{spot_there}
use Rattle.supports.proofs.near.first_between.Goals as goal

pub clips_after-requires-clause-c_live : goal.clips_after-requires-clause-c_live
clips_after-requires-clause-c_live c =
    let (class, are) = c.requires.tokens in
    let within : c.loop-at.at < length c.args.rows.now = omega (arith, c.requires.within, c.loop-at-test.true) in
    spot_there c.requires.dates are c.loop-at.at within c.index-rows-at.result c.index-rows-at.is

pub loop-at-preserved : goal.loop-at-preserved
loop-at-preserved c i d from lt = elim (cases_lt i c.loop-at.at) [
  | inl less ↦ c.loop-at.invariant i d from less
  | inr more ↦
      let rows = c.args.rows.now in
      let within : c.loop-at.at < length rows = omega (arith, c.requires.within, c.loop-at-test.true) in
      let here : c.loop-at.at ≡ i = omega (arith, lt, more) in
      let test = clips of_one_class (spot_distance c.args.order.now.net.now.present (forest c.args.order.now.tree.now)) c.args.k.now in
      subst (λ j. test (slice_index_or rows j d) ≡ false) here
      (subst (λ r. test r ≡ false) (get_or_read rows c.loop-at.at c.index-rows-at.result within c.index-rows-at.is d) (sym c.clips_after.ensures ∙ c.if-clips_after.false))
]
