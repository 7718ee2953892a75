use Rattle.std.proofs.Common.{◌≡◌, ◌∙◌, ◌+◌, [], ◌∷◌, ◌++◌, Some, ap, sym, subst}
use Rattle.std.proofs.lemmas.List.{append_assoc}
use Rattle.row_links.specs.Lists.{IsOn, AreOnce, row_after}
use Rattle.row_links.proofs.Lists.{IsOn-first, IsOn-append_right}
use Rattle.undo_rows.specs.Changes.{table_in}
use Rattle.occ_tree.specs.Standing.{present_rows, siblings_in}
use Rattle.occ_tree.proofs.Gathering.{first_split, after_front}
use Rattle.occ_tree.proofs.Listed.{listed_live}
use Rattle.occ_tree.proofs.below.push_children.Goals as goal

pub next-child-requires : goal.next-child-requires
next-child-requires c =
    let (front, rest, is, items, child) = c.loop-child.invariant in
    let (more, rest_is) = first_split rest c.in-Some.y (sym child ∙ c.in-Some.is) in
    let rows = c.args.nodes.now.rows in
    let on = subst (λ l. IsOn l c.in-Some.y) (sym (is ∙ ap (λ l. front ++ l) rest_is)) (IsOn-append_right front (c.in-Some.y ∷ more) c.in-Some.y (IsOn-first c.in-Some.y more)) in
    listed_live (table_in rows.rows rows.families) c.first-child.ensures.listed 0 (c.args.x + 1) c.in-Some.y on

pub loop-child-preserved : goal.loop-child-preserved
loop-child-preserved c =
    let (front, rest, is, items, child) = c.loop-child.invariant in
    let y = c.in-Some.y in
    let (more, rest_is) = first_split rest y (sym child ∙ c.in-Some.is) in
    let list = siblings_in (present_rows c.args.nodes.now) (Some c.args.x) in
    let whole : list ≡ front ++ y ∷ more = is ∙ ap (λ l. front ++ l) rest_is in
    let on = subst (λ l. IsOn l y) (sym whole) (IsOn-append_right front (y ∷ more) y (IsOn-first y more)) in
    let once = subst AreOnce whole (c.first-child.ensures.listed.once 0 (c.args.x + 1)) in (
      front ++ y ∷ [],
      more,
      whole ∙ sym (append_assoc front (y ∷ []) more),
      c.in_ok-push.ensures ∙ ap (λ l. l ++ y ∷ []) items ∙ append_assoc c.args.numbers.now.items front (y ∷ []),
      c.next-child.ensures (Some c.args.x) on ∙ ap (row_after y) whole ∙ after_front front y more once,
    )
