use Rattle.std.proofs.Common.{◌≡◌, ◌∙◌, [], ◌∷◌, ◌++◌, length, None, refl, ap, sym, subst, arith}
use Rattle.std.proofs.lemmas.List.{append_assoc}
use Rattle.row_links.specs.Lists.{IsOn, AreOnce, row_after}
use Rattle.row_links.proofs.Lists.{IsOn-first, IsOn-append_right, AreApart-from_once}
use Rattle.undo_rows.specs.Changes.{table_in}
use Rattle.occ_tree.specs.Standing.{nodes_in, present_rows, siblings_in}
use Rattle.occ_tree.proofs.Effects.{no_above}
use Rattle.occ_tree.proofs.Gathering.{first_split, after_front}
use Rattle.occ_tree.proofs.Late.{AreLateOf, late_start, late_next, late_all, roots_are_tops}
use Rattle.occ_tree.proofs.Listed.{listed_live, siblings_are}
use Rattle.occ_tree.proofs.Walked.{from_on, from_next}
use Rattle.occ_tree.proofs.re_dating.late_roots.Goals as goal

pub loop-next-init : goal.loop-next-init
loop-next-init c =
    let node = nodes_in (present_rows c.args.nodes.now) in
    ([], siblings_in (present_rows c.args.nodes.now) None, refl, c.first-next.ensures.first, subst (AreLateOf c.args.net.now.present node []) (sym c.new-numbers.ensures.items) (late_start c.args.net.now.present node))

pub push_if_late-requires-clause-root : goal.push_if_late-requires-clause-root
push_if_late-requires-clause-root c =
    let rows = c.args.nodes.now.rows in
    let list = siblings_in (present_rows c.args.nodes.now) None in
    let x = c.in-Some.root in
    let (front, rest, is, next, late) = c.loop-next.invariant in
    let (more, rest_is) = first_split rest x (sym next ∙ c.in-Some.is) in
    let whole : list ≡ front ++ x ∷ more = is ∙ ap (λ l. front ++ l) rest_is in
    let on : IsOn list x = subst (λ l. IsOn l x) (sym whole) (IsOn-append_right front (x ∷ more) x (IsOn-first x more)) in
    let (n, at, top) = (siblings_are (table_in rows.rows rows.families) c.first-next.ensures.listed rows.places c.first-next.ensures.stands None x).0 on in
    (n, at, no_above n top)

pub next-next-requires : goal.next-next-requires
next-next-requires c =
    let rows = c.args.nodes.now.rows in
    let list = siblings_in (present_rows c.args.nodes.now) None in
    let x = c.in-Some.root in
    let (front, rest, is, next, late) = c.loop-next.invariant in
    let (more, rest_is) = first_split rest x (sym next ∙ c.in-Some.is) in
    let whole : list ≡ front ++ x ∷ more = is ∙ ap (λ l. front ++ l) rest_is in
    let on : IsOn list x = subst (λ l. IsOn l x) (sym whole) (IsOn-append_right front (x ∷ more) x (IsOn-first x more)) in
    listed_live (table_in rows.rows rows.families) c.first-next.ensures.listed 0 0 x on

pub loop-next-smaller : goal.loop-next-smaller
loop-next-smaller c =
    let rows = c.args.nodes.now.rows in
    let list = siblings_in (present_rows c.args.nodes.now) None in
    let x = c.in-Some.root in
    let (front, rest, is, next, late) = c.loop-next.invariant in
    let (more, rest_is) = first_split rest x (sym next ∙ c.in-Some.is) in
    let whole : list ≡ front ++ x ∷ more = is ∙ ap (λ l. front ++ l) rest_is in
    let on : IsOn list x = subst (λ l. IsOn l x) (sym whole) (IsOn-append_right front (x ∷ more) x (IsOn-first x more)) in
    let after = c.next-next.ensures None on in
    let here : from_on c.loop-next.next list ≡ x ∷ from_on c.next-next.result list =
    ap (λ o. from_on o list) c.in-Some.is ∙ from_next list x (c.first-next.ensures.listed.once 0 0) on ∙ ap (λ o. x ∷ from_on o list) (sym after) in
    omega (arith, ap length here)

pub loop-next-preserved : goal.loop-next-preserved
loop-next-preserved c =
    let rows = c.args.nodes.now.rows in
    let list = siblings_in (present_rows c.args.nodes.now) None in
    let x = c.in-Some.root in
    let (front, rest, is, next, late) = c.loop-next.invariant in
    let (more, rest_is) = first_split rest x (sym next ∙ c.in-Some.is) in
    let whole : list ≡ front ++ x ∷ more = is ∙ ap (λ l. front ++ l) rest_is in
    let on : IsOn list x = subst (λ l. IsOn l x) (sym whole) (IsOn-append_right front (x ∷ more) x (IsOn-first x more)) in
    let node = nodes_in (present_rows c.args.nodes.now) in
    let once = subst AreOnce whole (c.first-next.ensures.listed.once 0 0) in (
      front ++ x ∷ [],
      more,
      whole ∙ sym (append_assoc front (x ∷ []) more),
      c.next-next.ensures None on ∙ ap (row_after x) whole ∙ after_front front x more once,
      late_next c.args.net.now.present node front c.loop-next.numbers.items c.push_if_late.new.numbers.items x (λ there. (AreApart-from_once front (x ∷ more) once).apart x there (IsOn-first x more)) late c.in_ok-push_if_late.ensures,
    )

pub returns-clause-tops : goal.returns-clause-tops
returns-clause-tops c =
    let rows = c.args.nodes.now.rows in
    let node = nodes_in (present_rows c.args.nodes.now) in
    let f = c.first-next.ensures in
    let (front, rest, is, next, late) = c.loop-next.invariant in
    let all = late_all c.args.net.now.present node (siblings_in (present_rows c.args.nodes.now) None) front rest c.loop-next.numbers.items is (sym next ∙ c.in_default.is) late in
    roots_are_tops node f.stands.placed c.loop-next.numbers.items all.once (λ y on.
    let (n, at, top) = (siblings_are (table_in rows.rows rows.families) f.listed rows.places f.stands None y).0 (all.among y on) in
    (n, at, no_above n top))

pub returns-clause-right : goal.returns-clause-right
returns-clause-right c =
    let (front, rest, is, next, late) = c.loop-next.invariant in
    let all = late_all c.args.net.now.present (nodes_in (present_rows c.args.nodes.now)) (siblings_in (present_rows c.args.nodes.now) None) front rest c.loop-next.numbers.items is (sym next ∙ c.in_default.is) late in
    all.right
