use Rattle.std.proofs.Common.{◌≡◌, ◌∙◌, ◌+◌, min, [], ◌∷◌, refl, ap, subst, arith}
use Rattle.std.proofs.lemmas.List.{take_all}
use Rattle.std.proofs.lemmas.List.Sorted.{length_permutation}
use Rattle.projection.specs.Projecting.{IsStarted, IsGrowing, IsGrowingWith}
use Rattle.projection.proofs.Decided.{holds_at_end, size_at_end, made_at_end}
use Rattle.spots.proofs.Grown.{seen_first, holds_first}
use Rattle.projection.proofs.Settled.{started_first, growing_first}
use Rattle.occ_tree.specs.Places.{forest}
use Rattle.occ_tree.specs.Standing.{present}
use Rattle.occ_tree.proofs.KeptDates.{none_dated}
use Rattle.projection.proofs.growth.rebuild.Goals as goal

pub loop-place-init : goal.loop-place-init
loop-place-init c = (
  started_first c.args.standing.now.present c.args.net.now.present (forest c.make.result) c.make-2.result 0
      (seen_first c.args.standing.now.present c.args.net.now.present (forest c.make.result) c.requires.network c.make.ensures.none) (holds_first (forest c.make.result) c.make.ensures.none) c.make-2.ensures refl,
  none_dated c.args.net.now.present (present c.make.result) c.make.ensures.none,
)

pub loop-pending-init : goal.loop-pending-init
loop-pending-init c =
    let s = c.args.standing.now.present in
    let net = c.args.net.now.present in
    let g = c.loop-place.growing in (
      0,
      growing_first s net (forest g.tree) g.queue g.size
          (subst (λ ps. IsStarted s net ps (forest g.tree) g.queue g.size) (take_all c.loop-place.place s.premises (omega arith)) c.loop-place.invariant.0),
      c.loop-place.invariant.1,
      omega (arith, c.value.ensures),
      omega arith,
    )

pub loop-pending-smaller : goal.loop-pending-smaller
loop-pending-smaller c =
    let nearer = c.in_ok-settle.ensures.nearer in
    omega (arith, nearer, length_permutation c.loop-pending.growing.queue (c.in-Some.pending ∷ c.pop.new.self) c.in-Some.ensures.0)

pub returns : goal.returns
returns c =
    let s = c.args.standing.now.present in
    let net = c.args.net.now.present in
    let g = c.loop-pending.growing in
    let none : g.queue ≡ [] = c.in_default-pop.ensures in
    let (made, growing, dated, counted, kept) = c.loop-pending.invariant in
    let last : IsGrowing s net (forest g.tree) [] g.size made = subst (λ q. IsGrowing s net (forest g.tree) q g.size made) none growing in
    record {
      seen = record { seen = growing.grown.seen; dated = dated };
      holds = holds_at_end s net (forest g.tree) g.size last;
      size = size_at_end s net (forest g.tree) g.size last;
      small = growing.grown.small;
      stops = tt;
      counted = counted ∙ ap (λ n. min (c.args.counter.now + n) 18446744073709551615) (made_at_end s net (forest g.tree) g.size last);
      kept = kept;
    }

pub loop-pending-preserved : goal.loop-pending-preserved
loop-pending-preserved c =
    let s = c.args.standing.now.present in
    let net = c.args.net.now.present in
    let g = c.loop-pending.growing in
    let (made, growing, dated, counted, kept) = c.loop-pending.invariant in
    let before : IsGrowingWith s net (forest g.tree) c.in-Some.pending c.pop.new.self g.size made =
    record {
      queue = g.queue;
      next = record { taken = c.in-Some.ensures.0; first = c.in-Some.ensures.1 };
      growing = growing;
    } in
    (made + 1, c.in_ok-settle.ensures.after made before, c.in_ok-settle.ensures.dated, omega (arith, counted, c.settle.ensures.counted), omega (arith, kept, c.settle.ensures.kept))

pub settle-requires-clause-before : goal.settle-requires-clause-before
settle-requires-clause-before c =
    let (made, growing, dated, counted, kept) = c.loop-pending.invariant in (
      made,
      record {
        queue = c.loop-pending.growing.queue;
        next = record { taken = c.in-Some.ensures.0; first = c.in-Some.ensures.1 };
        growing = growing;
      },
    )
