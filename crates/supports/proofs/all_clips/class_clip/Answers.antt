use Rattle.std.proofs.Common.{◌≡◌, ◌∙◌, true, false, sym, subst}
use Rattle.std.proofs.lemmas.List.{get_or_default}
use Rattle.std.specs.Prelude.{Some, None, slice_index_or}
use Rattle.std.specs.Option.{is_some}
use Rattle.tmm_model.specs.Tokens.{of_one_class}
use Rattle.supports.specs.Entries.{no_row, row_at, node_at}
use Rattle.supports.specs.Firsts.{IsFirstOf, IsClipper}
use Rattle.supports.proofs.BranchesEntering.{node_live, node_read, spot_read}
use Rattle.occ_tree.specs.Places.{forest}
use Rattle.occ_tree.specs.Tokens.{numbers_in}
use Rattle.spots.specs.Forest.{IsLive}
use Rattle.supports.specs.Clips.{IsClipBy}
use Rattle.supports.proofs.ByDate.{by_date}
use Rattle.supports.proofs.FirstBehind.{no_end, span_has_none, first_is_clip}
use Rattle.supports.proofs.all_clips.class_clip.Goals as goal

pub returns-then-is_some-clause-clip : goal.returns-then-is_some-clause-clip
returns-then-is_some-clause-clip c =
    let (class, are) = c.requires.tokens in
    span_has_none c.requires.dates are c.requires.in_order c.args.i c.requires.within
    (subst (λ r. is_some r.end ≡ true) (get_or_default c.args.rows.now c.args.i c.index-rows-i.result no_row c.requires.within) (sym c.is_some.ensures ∙ c.if-is_some.true))

pub clip_place-requires-clause-by_date : goal.clip_place-requires-clause-by_date
clip_place-requires-clause-by_date c = let (class, are) = c.requires.tokens in by_date c.requires.dates are c.requires.in_order

pub node_of-requires : goal.node_of-requires
node_of-requires c =
    let (class, are) = c.requires.tokens in
    let net = c.args.net.now.present in
    let f = forest c.args.tree.now in
    let rows = c.args.rows.now in
    let place = c.in-Some.place in
    let first = subst (IsFirstOf (IsClipper net f rows c.args.i)) c.in-Some.is c.in_ok-place.ensures.first in
    (node_at rows place, spot_read f class rows are place first.0.0 c.index-rows-place.result c.index-rows-place.is)

pub returns-in-Some-clause-live : goal.returns-in-Some-clause-live
returns-in-Some-clause-live c =
    let (class, are) = c.requires.tokens in
    let net = c.args.net.now.present in
    let f = forest c.args.tree.now in
    let rows = c.args.rows.now in
    let place = c.in-Some.place in
    let first = subst (IsFirstOf (IsClipper net f rows c.args.i)) c.in-Some.is c.in_ok-place.ensures.first in
    subst (IsLive f) (sym (node_read f class rows are place first.0.0 c.index-rows-place.result c.index-rows-place.is c.node_of.result c.node_of.ensures)) (node_live f class rows are place first.0.0)

pub returns-in-Some-clause-clip : goal.returns-in-Some-clause-clip
returns-in-Some-clause-clip c =
    let (class, are) = c.requires.tokens in
    let net = c.args.net.now.present in
    let f = forest c.args.tree.now in
    let rows = c.args.rows.now in
    let place = c.in-Some.place in
    let first = subst (IsFirstOf (IsClipper net f rows c.args.i)) c.in-Some.is c.in_ok-place.ensures.first in
    let no_span = no_end (row_at rows c.args.i).end (subst (λ r. is_some r.end ≡ false) (get_or_default rows c.args.i c.index-rows-i.result no_row c.requires.within) (sym c.is_some.ensures ∙ c.if-is_some.false)) in
    λ s. subst (λ y. IsClipBy of_one_class s net f (slice_index_or (numbers_in rows) c.args.i 0) (Some y)) (sym (node_read f class rows are place first.0.0 c.index-rows-place.result c.index-rows-place.is c.node_of.result c.node_of.ensures))
    (first_is_clip c.requires.dates are c.requires.in_order c.args.i c.requires.within no_span (Some place) first s)

pub returns-in-None-clause-clip : goal.returns-in-None-clause-clip
returns-in-None-clause-clip c =
    let (class, are) = c.requires.tokens in
    let rows = c.args.rows.now in
    let no_span = no_end (row_at rows c.args.i).end (subst (λ r. is_some r.end ≡ false) (get_or_default rows c.args.i c.index-rows-i.result no_row c.requires.within) (sym c.is_some.ensures ∙ c.if-is_some.false)) in
    first_is_clip c.requires.dates are c.requires.in_order c.args.i c.requires.within no_span None
    (subst (IsFirstOf (IsClipper c.args.net.now.present (forest c.args.tree.now) rows c.args.i)) c.in-None.is c.in_ok-place.ensures.first)
