use Rattle.std.proofs.Common.{rules, of_calls, sym, subst}
use Rattle.std.proofs.lemmas.Fn.{always_returns_same}
use Rattle.std.specs.Prelude.{int_le}
use Rattle.belief_list.specs.Finding.{IsFirstAfter}
use Rattle.belief_list.proofs.Dates.{parted, first_after}
use Rattle.belief_list.proofs.differing.date_after.Goals as goal

pub returns : goal.returns
returns c =
    let dates = c.args.dates.now in
    let date = c.args.date in
    let rising = c.requires in
    let i = c.partition_point.result in
    subst (IsFirstAfter dates date) (sym c.copied.ensures)
    (first_after dates date rising i
    (c.partition_point.ensures.partitioned (λ d. int_le d date) (always_returns_same _ _ _ (λ a r f k. search (rules, of_calls))) (parted dates date rising))
    c.get.result c.get.ensures.lookup)
