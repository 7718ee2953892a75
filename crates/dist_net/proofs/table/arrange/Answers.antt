use Rattle.std.proofs.Common.{◌≡◌, ◌∙◌, ◌<◌, ◌∷◌, [], ℕ, List, length, get_or, ap, sym, subst, arith}
use Rattle.std.proofs.lemmas.List.{length-append}
use Rattle.std.proofs.lemmas.List.Sorted.{All-permutation, IsPermutation-refl, IsPermutation-trans, length_permutation}
use Rattle.dist_net.specs.Table.{IsOver}
use Rattle.dist_net.proofs.Groups.{AreNextsTo, AreNextsTo-start, AreNextsTo-more}
use Rattle.dist_net.proofs.table.arrange.Goals as goal

pub loop-place-init : goal.loop-place-init
loop-place-init c = (
  IsPermutation-refl c.args.columns.now,
  AreNextsTo-start c.args.table.now c.args.to c.args.columns.now c.clear.new.self.items c.args.apart c.clear.ensures.items,
  ap length c.clear.ensures.items,
  c.clear.ensures.capacity ∙ c.requires.room,
)

pub begin_group-next-requires-clause-columns : goal.begin_group-next-requires-clause-columns
begin_group-next-requires-clause-columns c = All-permutation (λ b. b < 256) c.args.columns.now c.loop-place.columns c.loop-place.invariant.0 c.requires.columns

pub push_reserved-requires : goal.push_reserved-requires
push_reserved-requires c = omega (arith, c.loop-place.nexts.ok.0, c.loop-place.invariant.2, c.loop-place.invariant.3, c.loop-place-test.true, c.requires.few)

pub loop-place-preserved : goal.loop-place-preserved
loop-place-preserved c =
    let place : length c.loop-place.nexts.items ≡ c.loop-place.place = c.loop-place.invariant.2 in
    let next : ℕ = c.begin_group-next.result in
    let columns : List ℕ = c.begin_group-next.new.columns in (
      IsPermutation-trans c.args.columns.now c.loop-place.columns columns c.loop-place.invariant.0 c.begin_group-next.ensures.columns,
      subst (λ (t : List ℕ). AreNextsTo c.args.table.now c.args.to columns t c.max-end.result) (sym c.push_reserved.ensures.items)
          (AreNextsTo-more c.args.table.now c.args.to c.loop-place.columns columns c.loop-place.nexts.items c.loop-place.end next c.max-end.result c.loop-place.invariant.1
          (length_permutation c.loop-place.columns columns c.begin_group-next.ensures.columns) c.begin_group-next.ensures.kept
          (omega (arith, place, c.begin_group-next.ensures.range.0))
          (subst (λ (n : ℕ). (j : ℕ) → n < j → j < next → IsOver c.args.table.now c.args.to (get_or columns n 0) (get_or columns j 0)) (sym place) c.begin_group-next.ensures.over)
          (omega (arith, c.max-end.ensures)) (omega (arith, c.max-end.ensures))),
      ap length c.push_reserved.ensures.items ∙ omega (arith, length-append c.loop-place.nexts.items (next ∷ []), place),
      omega (arith, c.push_reserved.ensures.capacity, c.loop-place.invariant.3),
    )

pub returns-clause-columns : goal.returns-clause-columns
returns-clause-columns c = c.loop-place.invariant.0

pub returns-clause-nexts : goal.returns-clause-nexts
returns-clause-nexts c = c.loop-place.invariant.1.are

pub returns-clause-beside : goal.returns-clause-beside
returns-clause-beside c = omega (arith, c.loop-place.invariant.2, c.loop-place-test.false, c.loop-place.auto.place-end, c.loop-place.auto.columns)
