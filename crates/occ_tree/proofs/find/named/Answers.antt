use Rattle.std.proofs.Common.{◌≡◌, ◌≢◌, ◌∙◌, ◌<◌, ℕ, true, false, Option, Some, IsSome, length, refl, sym, ap, subst}
use Rattle.std.specs.Cmp.Lexicographic.{bytes_decides}
use Rattle.occ_tree.specs.declared.node.Node.{Node}
use Rattle.occ_tree.specs.Standing.{present_rows, siblings_in}
use Rattle.occ_tree.specs.Nodes.{parent_of}
use Rattle.occ_tree.proofs.Looking.{IsLooking, looking_first, looking_next, fewer, looked, named_on}
use Rattle.occ_tree.proofs.Walked.{from_on}
use Rattle.occ_tree.proofs.find.named.Goals as goal

pub loop-next-init : goal.loop-next-init
loop-next-init c = λ listed. looking_first c.args.nodes.now listed c.args.parent c.args.name.now c.first-next.result c.first-next.ensures.first

pub get-requires : goal.get-requires
get-requires c =
    let g = c.args.nodes.now in
    let looking = subst (IsLooking g c.first-next.ensures.listed c.args.parent c.args.name.now) c.in-Some.is (c.loop-next.invariant c.first-next.ensures.listed) in
    let (n, at, below) = named_on g c.first-next.ensures.listed c.args.parent g.rows.places c.in-Some.x c.first-next.ensures.stands (looking.on c.in-Some.x refl) in
    subst (λ (o : Option Node). IsSome o) (sym at) refl

pub returns-then-eq-clause-named : goal.returns-then-eq-clause-named
returns-then-eq-clause-named c =
    let g = c.args.nodes.now in
    let m = c.get.result.now in
    let looking = subst (IsLooking g c.first-next.ensures.listed c.args.parent c.args.name.now) c.in-Some.is (c.loop-next.invariant c.first-next.ensures.listed) in
    let (n, at, below) = named_on g c.first-next.ensures.listed c.args.parent g.rows.places c.in-Some.x c.first-next.ensures.stands (looking.on c.in-Some.x refl) in
    let both : Some n ≡ Some m = sym at ∙ c.get.ensures.node in
    let same : n ≡ m = cc in
    (m, c.get.ensures.node, sym (ap parent_of same) ∙ below, (bytes_decides m.name c.args.name.now).0 (sym c.if-eq.ensures))

pub loop-next-smaller : goal.loop-next-smaller
loop-next-smaller c =
    let g = c.args.nodes.now in
    let list = siblings_in (present_rows g) c.args.parent in
    let looking = subst (IsLooking g c.first-next.ensures.listed c.args.parent c.args.name.now) c.in-Some.is (c.loop-next.invariant c.first-next.ensures.listed) in
    subst (λ (o : Option ℕ). length (from_on c.next-next.result list) < length (from_on o list)) (sym c.in-Some.is)
    (fewer g c.first-next.ensures.listed c.args.parent c.args.name.now c.in-Some.x c.next-next.result looking (c.next-next.ensures c.args.parent (looking.on c.in-Some.x refl)))

pub loop-next-preserved : goal.loop-next-preserved
loop-next-preserved c = λ listed.
    let g = c.args.nodes.now in
    let m = c.get.result.now in
    let looking = subst (IsLooking g listed c.args.parent c.args.name.now) c.in-Some.is (c.loop-next.invariant listed) in
    let other : m.name ≢ c.args.name.now = λ same. let both : false ≡ true = c.if-eq.ensures ∙ (bytes_decides m.name c.args.name.now).1 same in cc in
    looking_next g listed c.args.parent c.args.name.now c.in-Some.x c.next-next.result m looking c.get.ensures.node other (c.next-next.ensures c.args.parent (looking.on c.in-Some.x refl))

pub returns-clause-named : goal.returns-clause-named
returns-clause-named c = λ x named.
    let g = c.args.nodes.now in
    looked g c.first-next.ensures.listed c.args.parent c.args.name.now g.rows.places x c.first-next.ensures.stands
    (subst (IsLooking g c.first-next.ensures.listed c.args.parent c.args.name.now) c.in_default.is (c.loop-next.invariant c.first-next.ensures.listed)) named
