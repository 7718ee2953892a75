use Rattle.std.proofs.Common.{◌≡◌, ◌∙◌, sym, ap, subst, rules, arith, w64, to_z, of_z}
use Rattle.std.proofs.lemmas.Int.{ints, to_z-of_z}
use Rattle.std.proofs.lemmas.Result.{on_ok_weaker}
use Rattle.std.specs.Prelude.{ℤ, pos, ◌-ℤ◌, ◌≤ℤ◌, ◌<ℤ◌, FitsSigned}
use Rattle.belief_theory.proofs.SoundBeliefs.{sound_timed}
use Rattle.spots.specs.Forest.{moment_at}
use Rattle.occ_tree.specs.Places.{forest}
use Rattle.spots.proofs.Seen.{early_is, occurs_at}
use Rattle.just_check.specs.Audited.{date_of, rows_of, DecidesThrough, IsChecked}
use Rattle.just_check.proofs.Deciding.{same_rows, rows_in, checked_through}
use Rattle.just_check.proofs.auditing.decide_before.Goals as goal

fits_less : (z : ℤ) → FitsSigned w64 z → pos 0 ≤ℤ z → FitsSigned w64 (z -ℤ pos 1)
fits_less z fits h = grind (arith, ints)

less : (a b : ℤ) → a ≡ b → (a -ℤ pos 1) <ℤ b
less a b e = omega (arith, ints)

pub overflow_sub-date : goal.overflow_sub-date
overflow_sub-date c =
    let s = c.args.standing.now.present in
    let old = c.args.checked.now in
    let seen = c.requires.before.taken.so_far.seen in
    let fits : FitsSigned w64 c.early-date.result = search rules in
    let same = to_z-of_z w64 c.early-date.result fits in
    let date_is : c.early-date.result ≡ date_of s (moment_at (forest old.tree) c.args.x) = c.early-date.ensures ∙ early_is s c.args.net.now.present (forest old.tree) seen c.args.x c.requires.live in
    let from_start = (sound_timed s seen.network.sound).not_before_start (moment_at (forest old.tree) c.args.x) (occurs_at s c.args.net.now.present (forest old.tree) seen c.args.x c.requires.live) in
    subst (λ z. FitsSigned w64 (z -ℤ pos 1)) (sym same) (fits_less c.early-date.result fits (subst (λ z. pos 0 ≤ℤ z) (sym date_is) from_start))

pub returns-clause-checked : goal.returns-clause-checked
returns-clause-checked c =
    let s = c.args.standing.now.present in
    let net = c.args.net.now.present in
    let old = c.args.checked.now in
    let new = c.decide_through.new.checked in
    let seen = c.requires.before.taken.so_far.seen in
    let fits : FitsSigned w64 c.early-date.result = search rules in
    let early = to_z w64 (of_z w64 c.early-date.result) in
    let date = to_z w64 (of_z w64 (early -ℤ pos 1)) in
    let date_is = to_z-of_z w64 c.early-date.result fits ∙ c.early-date.ensures ∙ early_is s net (forest old.tree) seen c.args.x c.requires.live in
    let date_at : c.early-date.result ≡ date_of s (moment_at (forest old.tree) c.args.x) = c.early-date.ensures ∙ early_is s net (forest old.tree) seen c.args.x c.requires.live in
    let from_start = (sound_timed s seen.network.sound).not_before_start (moment_at (forest old.tree) c.args.x) (occurs_at s net (forest old.tree) seen c.args.x c.requires.live) in
    let still : FitsSigned w64 (early -ℤ pos 1) = subst (λ z. FitsSigned w64 (z -ℤ pos 1)) (sym (to_z-of_z w64 c.early-date.result fits)) (fits_less c.early-date.result fits (subst (λ z. pos 0 ≤ℤ z) (sym date_at) from_start)) in
    let before : date <ℤ date_of s (moment_at (forest old.tree) c.args.x) = subst (λ z. z <ℤ date_of s (moment_at (forest old.tree) c.args.x)) (sym (to_z-of_z w64 (early -ℤ pos 1) still)) (less early (date_of s (moment_at (forest old.tree) c.args.x)) date_is) in
    let go : DecidesThrough s net old new date → IsChecked s net new = checked_through s net old new c.requires.before c.args.x c.requires.live date before in
    on_ok_weaker c.decide_through.result go c.decide_through.ensures

pub early-date-requires-clause-dates : goal.early-date-requires-clause-dates
early-date-requires-clause-dates c = rows_in c.requires.before.taken

pub returns-clause-rows : goal.returns-clause-rows
returns-clause-rows c =
    let old = c.args.checked.now in
    let new = c.decide_through.new.checked in
    let early = to_z w64 (of_z w64 c.early-date.result) in
    let date = to_z w64 (of_z w64 (early -ℤ pos 1)) in
    let go : DecidesThrough c.args.standing.now.present c.args.net.now.present old new date → rows_of new ≡ rows_of old = λ through. same_rows new old (ap forest through.tree) through.nodes in
    on_ok_weaker c.decide_through.result go c.decide_through.ensures
