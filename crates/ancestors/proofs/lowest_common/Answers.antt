use Rattle.std.proofs.Common.{◌≡◌, ℕ, zero, suc, ◌+◌, ◌<◌, length, refl, sym, ap, ◌∙◌, arith}
use Rattle.std.proofs.lemmas.List.{length-take-le, length_push}
use Rattle.ancestors.specs.Ways.{shared_front}
use Rattle.ancestors.proofs.Fronts.{shared_front-itself, shared_front-short, shared_front-cut, shared_front-push}
use Rattle.ancestors.proofs.Jumps.{jumped, AreJumped, both_jumped}
use Rattle.ancestors.proofs.lowest_common.Given.{Over}
use Rattle.ancestors.proofs.lowest_common.Goals as goal

pub loop-first-init : goal.loop-first-init
loop-first-init g c =
    let way = g.A.Ancestry.way c.args.tree.now in
    let u = way c.args.x in
    let v = way c.args.y in
    let depth = c.min-depth.result in
    let short = shared_front-short u v in
    let first : length (way c.ancestor_at-first.result) ≡ depth + 1 = ap length c.ancestor_at-first.ensures ∙ length-take-le (depth + 1) u (omega (arith, c.depth.ensures, c.min-depth.ensures)) in
    let second : length (way c.ancestor_at-second.result) ≡ depth + 1 = ap length c.ancestor_at-second.ensures ∙ length-take-le (depth + 1) v (omega (arith, c.depth-2.ensures, c.min-depth.ensures)) in
    record {
      node = omega (arith, first);
      level = second ∙ sym first;
      shared = (λ i. shared_front (c.ancestor_at-first.ensures i) (c.ancestor_at-second.ensures i)) ∙ shared_front-cut (depth + 1) u v (omega (arith, short.0, short.1, c.depth.ensures, c.depth-2.ensures, c.min-depth.ensures));
    }

deeper : (n d : ℕ) → n ≡ d + 1 → (d ≡ 0 → ⊥) → 1 < n
deeper n zero deep no_root = absurd (no_root refl)
deeper n (suc d) deep no_root = omega (arith, deep)

pub loop-first-preserved-then-both : goal.loop-first-preserved-then-both
loop-first-preserved-then-both g c =
    let way = g.A.Ancestry.way c.args.tree.now in
    let p = way c.parent-first.result in
    let q = way c.parent-second.result in
    let first : length (way c.loop-first.first) ≡ length p + 1 = ap length c.parent-first.ensures ∙ length_push p c.loop-first.first in
    let second : length (way c.loop-first.second) ≡ length q + 1 = ap length c.parent-second.ensures ∙ length_push q c.loop-first.second in
    let level : length q ≡ length p = omega (arith, first, second, c.loop-first.invariant.level) in
    let deep = deeper (length (way c.loop-first.first)) c.depth-in-loop-first.result c.depth-in-loop-first.ensures c.if-depth-eq0.false in
    record {
      node = omega (arith, deep, first);
      level = level;
      shared = sym (shared_front-push p q c.loop-first.first c.loop-first.second (sym level) c.loop-first-test.true) ∙ (λ i. shared_front (sym c.parent-first.ensures i) (sym c.parent-second.ensures i)) ∙ c.loop-first.invariant.shared;
    }

-- after jumps to different nodes
jumps : (g : Over) (c : goal.Else-both g) → AreJumped (g.A.Ancestry.way c.args.tree.now) c.loop-first.first c.loop-first.second c.jump.result c.jump-in-loop-first.result
jumps g c =
    let way = g.A.Ancestry.way c.args.tree.now in
    let level = c.loop-first.invariant.level in
    both_jumped way (g.met.A.Ancestry.ends c.args.tree.now) c.loop-first.first c.loop-first.second c.jump.result c.jump-in-loop-first.result c.loop-first.invariant.node level
    (jumped (way c.loop-first.first) (way c.jump.result) c.loop-first.invariant.node c.jump.ensures)
    (jumped (way c.loop-first.second) (way c.jump-in-loop-first.result) (omega (arith, level, c.loop-first.invariant.node)) c.jump-in-loop-first.ensures)
    c.if-both.false

pub loop-first-smaller : goal.loop-first-smaller
loop-first-smaller g c =
    (jumps g c).less (deeper (length (g.A.Ancestry.way c.args.tree.now c.loop-first.first)) c.depth-in-loop-first.result c.depth-in-loop-first.ensures c.if-depth-eq0.false)

pub loop-first-preserved : goal.loop-first-preserved
loop-first-preserved g c = let next = jumps g c in record { node = next.node; level = next.level; shared = next.shared ∙ c.loop-first.invariant.shared }

pub returns-clause-shared : goal.returns-clause-shared
returns-clause-shared g c =
    let way = g.A.Ancestry.way c.args.tree.now in
    sym (shared_front-itself (way c.loop-first.first)) ∙ ap (λ n. shared_front (way c.loop-first.first) (way n)) c.loop-first-test.false ∙ c.loop-first.invariant.shared
