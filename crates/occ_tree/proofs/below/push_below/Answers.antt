use Rattle.std.proofs.Common.{◌≡◌, ◌∙◌, ◌≤◌, ◌<◌, [], ◌∷◌, ◌++◌, ◌+◌, length, Some, ap, sym, subst, refl, arith}
use Rattle.std.proofs.lemmas.List.{append_assoc, append-nil, length_push}
use Rattle.row_links.specs.Lists.{IsOn}
use Rattle.row_links.proofs.Lists.{IsOn-first, IsOn-append_right}
use Rattle.undo_rows.specs.Changes.{table_in}
use Rattle.occ_tree.specs.Standing.{nodes_in, present_rows, siblings_in}
use Rattle.occ_tree.proofs.Gathering.{Gathers, gathers_start, gathers_more, list_all, few_from_once, item_at, rest_split, rest_none}
use Rattle.occ_tree.proofs.Grown.{below_limit}
use Rattle.occ_tree.proofs.Listed.{siblings_are}
use Rattle.occ_tree.proofs.OnWays.{way_leads}
use Rattle.occ_tree.proofs.Placing.{have_parents}
use Rattle.occ_tree.proofs.TokenLists.{some_is}
use Rattle.occ_tree.proofs.below.push_below.Goals as goal

pub loop-next-init : goal.loop-next-init
loop-next-init c =
    let node = nodes_in (present_rows c.args.nodes.now) in
    ([], c.args.numbers.now.items, refl, refl, gathers_start node c.args.numbers.now.items c.requires)

pub push_children-requires : goal.push_children-requires
push_children-requires c =
    let node = nodes_in (present_rows c.args.nodes.now) in
    let (first, others, is, long, g) = c.loop-next.invariant in
    let within : c.loop-next.next < length c.loop-next.numbers.items = omega (arith, c.loop-next-test.true, c.len.ensures) in
    let (h, rest, others_are) = rest_split first others (subst (λ l. length first < length l) is (omega (arith, within, long))) in
    let whole : c.loop-next.numbers.items ≡ first ++ h ∷ rest = is ∙ ap (λ l. first ++ l) others_are in
    let here : c.index.result.now ≡ h = item_at c.loop-next.numbers.items first h rest c.loop-next.next c.index.result.now whole long c.index.ensures in
    let (x, top, way) = g.each h (subst (λ l. IsOn (first ++ l) h) (sym others_are) (IsOn-append_right first (h ∷ rest) h (IsOn-first h rest))) in
    let (n, at) = way_leads node x h way in
    some_is (node c.index.result.now) n (ap node here ∙ at)

pub loop-next-smaller : goal.loop-next-smaller
loop-next-smaller c =
    let node = nodes_in (present_rows c.args.nodes.now) in
    let (first, others, is, long, g) = c.loop-next.invariant in
    let within : c.loop-next.next < length c.loop-next.numbers.items = omega (arith, c.loop-next-test.true, c.len.ensures) in
    let few : length c.loop-next.numbers.items ≤ c.args.nodes.now.rows.places = subst (λ l. length l ≤ c.args.nodes.now.rows.places) (sym is) (few_from_once (first ++ others) c.args.nodes.now.rows.places g.once (λ y on. let (x, top, way) = g.each y on in let (n, at) = way_leads node x y way in below_limit (present_rows c.args.nodes.now) c.args.nodes.now.rows.places y c.limit.ensures.stands (some_is (node y) n at))) in
    omega (arith, within, few)

pub loop-next-preserved : goal.loop-next-preserved
loop-next-preserved c =
    let node = nodes_in (present_rows c.args.nodes.now) in
    let rows = c.args.nodes.now.rows in
    let (first, others, is, long, g) = c.loop-next.invariant in
    let within : c.loop-next.next < length c.loop-next.numbers.items = omega (arith, c.loop-next-test.true, c.len.ensures) in
    let (h, rest, others_are) = rest_split first others (subst (λ l. length first < length l) is (omega (arith, within, long))) in
    let whole : c.loop-next.numbers.items ≡ first ++ h ∷ rest = is ∙ ap (λ l. first ++ l) others_are in
    let here : c.index.result.now ≡ h = item_at c.loop-next.numbers.items first h rest c.loop-next.next c.index.result.now whole long c.index.ensures in
    let children = siblings_in (present_rows c.args.nodes.now) (Some h) in
    let listed = c.in_ok-push_children.ensures.listed in (
      first ++ h ∷ [],
      rest ++ children,
      c.in_ok-push_children.ensures.ok ∙ (λ i. whole i ++ siblings_in (present_rows c.args.nodes.now) (Some (here i))) ∙ append_assoc first (h ∷ rest) children ∙ sym (append_assoc first (h ∷ []) (rest ++ children)),
      length_push first h ∙ (let e : length first + 1 ≡ c.loop-next.next + 1 = omega (arith, long) in omega (arith, e)),
      gathers_more node (have_parents node c.limit.ensures.stands.placed) c.args.numbers.now.items c.requires first h rest children (listed.once 0 (h + 1))
          (siblings_are (table_in rows.rows rows.families) listed c.args.nodes.now.rows.places c.limit.ensures.stands (Some h)) (subst (Gathers node c.args.numbers.now.items first) others_are g),
    )

pub returns : goal.returns
returns c =
    let node = nodes_in (present_rows c.args.nodes.now) in
    let numbers = c.loop-next.numbers.items in
    let (first, others, is, long, g) = c.loop-next.invariant in
    let past : length numbers ≤ c.loop-next.next = omega (arith, c.loop-next-test.false, c.len.ensures) in
    let none = rest_none first others (subst (λ l. length l ≤ length first) is (omega (arith, past, long))) in
    let all : numbers ≡ first = is ∙ ap (λ l. first ++ l) none ∙ append-nil first in
    let done : Gathers node c.args.numbers.now.items numbers [] = subst (λ l. Gathers node c.args.numbers.now.items l []) (sym all) (subst (Gathers node c.args.numbers.now.items first) none g) in
    let few : length numbers ≤ c.limit.result = subst (λ l. length l ≤ c.limit.result) (sym is) (few_from_once (first ++ others) c.limit.result g.once (λ y on. let (x, top, way) = g.each y on in let (n, at) = way_leads node x y way in c.limit.ensures.above y (some_is (node y) n at))) in
    list_all node (have_parents node c.limit.ensures.stands.placed) c.args.numbers.now.items c.requires numbers done (omega (arith, few))
