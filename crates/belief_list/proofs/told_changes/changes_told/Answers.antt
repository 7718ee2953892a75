use Rattle.std.proofs.Common.{◌∙◌, List, map, sym, ap, subst}
use Rattle.std.specs.List.{All, filter_map}
use Rattle.spots.specs.Forest.{IsLive}
use Rattle.occ_tree.specs.Places.{forest}
use Rattle.belief_list.specs.declared.kept_rows.Difference.{Difference}
use Rattle.belief_list.specs.declared.left_nodes.LeftNode.{LeftNode}
use Rattle.belief_list.specs.Tables.{IsTable}
use Rattle.belief_list.specs.Told.{entered_at, loosened_at, clipped_at, left_at, differences_of}
use Rattle.belief_list.proofs.Told.{told_live, entered_is, loosened_is, clipped_is, gone_told}
use Rattle.belief_list.proofs.told_changes.changes_told.Goals as goal

pub entered_told-requires : goal.entered_told-requires
entered_told-requires c =
    let f = forest c.args.tree.now in
    subst (λ (l : List Difference). All (λ (d : Difference). IsLive f d.node) l) (sym c.as_slice-present.ensures.value) (told_live f c.args.differences.now c.in_ok-present.present.items c.in_ok-present.ensures.same)

pub loosened_told-requires : goal.loosened_told-requires
loosened_told-requires c =
    let f = forest c.args.tree.now in
    subst (λ (l : List Difference). All (λ (d : Difference). IsLive f d.node) l) (sym c.as_slice-present.ensures.value) (told_live f c.args.differences.now c.in_ok-present.present.items c.in_ok-present.ensures.same)

pub clips_told-requires : goal.clips_told-requires
clips_told-requires c =
    let f = forest c.args.tree.now in
    subst (λ (l : List Difference). All (λ (d : Difference). IsLive f d.node) l) (sym c.as_slice-present.ensures.value) (told_live f c.args.differences.now c.in_ok-present.present.items c.in_ok-present.ensures.same)

pub returns : goal.returns
returns c = λ lists edit kept made.
    let nets = c.args.net.now in
    let tree = c.args.tree.now in
    let ds = c.args.differences.now in
    let f = forest tree in
    let left = c.args.left.now in
    let places = c.as_slice-places.result.now in
    let table = subst (IsTable (map (λ (n : LeftNode). n.node) left)) (sym c.as_slice-places.ensures.value) c.in_ok-places.ensures in
    let gone = c.in_ok-gone.gone.items in
    let told = c.in_ok-present.present.items in
    let was = c.in_ok-gone.ensures in
    let is = c.in_ok-present.ensures in
    record {
      left = c.in_ok-left_told.ensures
          ∙ ap (λ l. filter_map (left_at left places) (differences_of l)) c.as_slice.ensures.value
          ∙ gone_told lists nets edit tree kept ds made left c.requires.left places table gone was.same was.dated was.in_order;
      entered = c.in_ok-entered_told.ensures
          ∙ ap (λ l. filter_map (entered_at f) l) c.as_slice-present.ensures.value
          ∙ entered_is lists nets edit tree kept ds made told is.same c.requires.dates.dated (is.in_order lists.present nets.present made.edited.seen_now c.requires.dates.dated);
      loose = c.in_ok-loosened_told.ensures
          ∙ ap (λ l. filter_map (loosened_at f) l) c.as_slice-present.ensures.value
          ∙ loosened_is lists nets edit tree kept ds made told is.same c.requires.dates.dated (is.in_order lists.present nets.present made.edited.seen_now c.requires.dates.dated);
      clips = c.in_ok-clips_told.ensures
          ∙ ap (λ l. filter_map (clipped_at f) l) c.as_slice-present.ensures.value
          ∙ clipped_is lists nets edit tree kept ds made told is.same c.requires.dates.dated (is.in_order lists.present nets.present made.edited.seen_now c.requires.dates.dated);
    }
