use Rattle.std.proofs.Common.{◌≡◌, ◌∙◌, ◌⊎◌, inl, inr, ◌<◌, true, false, ◌∷◌, [], ℕ, length, subst, rules, arith, w64, to_z, of_z, ap}
use Rattle.std.proofs.lemmas.Int.{ints, to_z-of_z}
use Rattle.std.specs.Prelude.{ℤ, ◌≤ℤ◌, ◌<ℤ◌, int_lt, FitsSigned}
use Rattle.list_theory.proofs.Elements.{In, In-cases}
use Rattle.spots.specs.Forest.{moment_at}
use Rattle.occ_tree.specs.Places.{forest}
use Rattle.spots.proofs.Seen.{early_is}
use Rattle.just_check.specs.Audited.{date_of, decided_in, DecidesThrough}
use Rattle.just_check.proofs.Deciding.{rows_in, decided_node, decided_more, through_next}
use Rattle.just_check.proofs.auditing.decide_through.Goals as goal

no_later : (a b : ℤ) → int_lt a b ≡ false → b ≤ℤ a
no_later a b h = grind (arith, ints)

later : (a b : ℤ) → int_lt a b ≡ true → a <ℤ b
later a b h = grind (arith, ints)

pub loop-checked-preserved : goal.loop-checked-preserved
loop-checked-preserved c =
    let s = c.args.standing.now.present in
    let net = c.args.net.now.present in
    let first = c.args.checked.now in
    let old = c.loop-checked.checked in
    let new = c.decide_next.new.checked in
    let inv = c.loop-checked.invariant in
    let x = c.index.result.now in
    let date = to_z w64 (of_z w64 c.args.date) in
    let early = to_z w64 (of_z w64 c.early.result) in
    let below : old.decided < length old.nodes.items = omega (arith, c.len.ensures) in
    let fits : FitsSigned w64 c.early.result = search rules in
    let live = decided_node s net old x below c.index.ensures inv.taken in
    let date_is : early ≡ date_of s (moment_at (forest old.tree) x) = to_z-of_z w64 c.early.result fits ∙ c.early.ensures ∙ early_is s net (forest old.tree) inv.taken.so_far.seen x live in
    let by : date_of s (moment_at (forest first.tree) x) ≤ℤ date = subst (λ f. date_of s (moment_at f x) ≤ℤ date) (ap forest inv.tree) (subst (λ z. z ≤ℤ date) date_is (no_later date early c.if-early-date.false)) in
    let ensured = c.in_ok-decide_next.ensures in
    let more = decided_more s net old x below c.index.ensures new ensured.tree ensured.nodes ensured.next in
    let own : (y : ℕ) → In y (decided_in new) → In y (decided_in first) ⊎ (date_of s (moment_at (forest first.tree) y) ≤ℤ date) = λ y at. elim (In-cases (decided_in old) (x ∷ []) y (subst (In y) more at)) [
      | inl before ↦ inv.own y before
      | inr (inl same) ↦ inr (subst (λ z. date_of s (moment_at (forest first.tree) z) ≤ℤ date) same by)
      | inr (inr never) ↦ absurd never
    ] in
    record { taken = ensured.taken; tree = ensured.tree ∙ inv.tree; nodes = ensured.nodes ∙ inv.nodes; own = own }

pub returns-then-early-date : goal.returns-then-early-date
returns-then-early-date c =
    let s = c.args.standing.now.present in
    let net = c.args.net.now.present in
    let first = c.args.checked.now in
    let old = c.loop-checked.checked in
    let inv = c.loop-checked.invariant in
    let x = c.index.result.now in
    let date = to_z w64 (of_z w64 c.args.date) in
    let early = to_z w64 (of_z w64 c.early.result) in
    let below : old.decided < length old.nodes.items = omega (arith, c.len.ensures) in
    let fits : FitsSigned w64 c.early.result = search rules in
    let date_fits : FitsSigned w64 c.args.date = search rules in
    let live = decided_node s net old x below c.index.ensures inv.taken in
    let date_is : early ≡ date_of s (moment_at (forest old.tree) x) = to_z-of_z w64 c.early.result fits ∙ c.early.ensures ∙ early_is s net (forest old.tree) inv.taken.so_far.seen x live in
    subst (DecidesThrough s net first old) (to_z-of_z w64 c.args.date date_fits)
    (through_next s net first old date inv.taken inv.tree inv.nodes inv.own x below c.index.ensures (subst (λ z. date <ℤ z) date_is (later date early c.if-early-date.true)))

pub early-requires-clause-dates : goal.early-requires-clause-dates
early-requires-clause-dates c = rows_in c.loop-checked.invariant.taken
