use Rattle.std.proofs.Common.{◌≡◌, ◌∙◌, ℕ, true, false, sym, subst, rules, arith, w64, to_z, of_z}
use Rattle.std.proofs.lemmas.Int.{ints, to_z-of_z}
use Rattle.std.specs.Prelude.{ℤ, pos, ◌+ℤ◌, ◌≤ℤ◌, FitsSigned}
use Rattle.tmm_model.specs.Moments.{rule_of}
use Rattle.belief_theory.proofs.SoundBeliefs.{sound_timed}
use Rattle.spots.specs.Forest.{moment_at}
use Rattle.occ_tree.specs.Places.{forest}
use Rattle.spots.proofs.Seen.{early_is, occurs_at}
use Rattle.spots.proofs.Rules.{rule_there}
use Rattle.just_check.specs.Audited.{date_of}
use Rattle.just_check.proofs.rules.does_fire.Goals as goal

moved : (a b d e : ℤ) (h k : ℕ) → a ≡ b → d ≡ e → h ≡ k → (a +ℤ d) ≤ℤ pos h → (b +ℤ e) ≤ℤ pos k
moved a b d e h k p q r l = omega (arith, ints)

pub rule_text-text-requires : goal.rule_text-text-requires
rule_text-text-requires c = rule_there c.args.map.now.standing.now.present c.requires.seen.seen.network.sound (moment_at (forest c.args.map.now.tree.now) c.args.x) c.args.rule c.requires.rule

pub is_in_time-requires-clause-early : goal.is_in_time-requires-clause-early
is_in_time-requires-clause-early c =
    let s = c.args.map.now.standing.now.present in
    let fits : FitsSigned w64 c.early.result = search rules in
    let date = c.early.ensures ∙ early_is s c.args.map.now.net.now.present (forest c.args.map.now.tree.now) c.requires.seen.seen c.args.x c.requires.live in
    subst (λ z. pos 0 ≤ℤ z) (sym (to_z-of_z w64 c.early.result fits ∙ date))
    ((sound_timed s c.requires.seen.seen.network.sound).not_before_start (moment_at (forest c.args.map.now.tree.now) c.args.x) (occurs_at s c.args.map.now.net.now.present (forest c.args.map.now.tree.now) c.requires.seen.seen c.args.x c.requires.live))

pub is_in_time-requires-clause-delay : goal.is_in_time-requires-clause-delay
is_in_time-requires-clause-delay c =
    let s = c.args.map.now.standing.now.present in
    let fits : FitsSigned w64 c.rule_text-text.result.lo = search rules in
    subst (λ z. pos 1 ≤ℤ z) (sym (to_z-of_z w64 c.rule_text-text.result.lo fits ∙ c.rule_text-text.ensures.lo))
    ((sound_timed s c.requires.seen.seen.network.sound).delayed (moment_at (forest c.args.map.now.tree.now) c.args.x) c.args.rule c.requires.rule)

pub returns-then-is_in_time : goal.returns-then-is_in_time
returns-then-is_in_time c b holds =
    let s = c.args.map.now.standing.now.present in
    let early_fits : FitsSigned w64 c.early.result = search rules in
    let lo_fits : FitsSigned w64 c.rule_text-text.result.lo = search rules in
    let date = to_z-of_z w64 c.early.result early_fits ∙ c.early.ensures ∙ early_is s c.args.map.now.net.now.present (forest c.args.map.now.tree.now) c.requires.seen.seen c.args.x c.requires.live in
    let delay = to_z-of_z w64 c.rule_text-text.result.lo lo_fits ∙ c.rule_text-text.ensures.lo in
    let in_time = moved (to_z w64 (of_z w64 c.early.result)) (date_of s (moment_at (forest c.args.map.now.tree.now) c.args.x)) (to_z w64 (of_z w64 c.rule_text-text.result.lo)) (rule_of s c.args.rule).lo c.horizon.result s.horizon date delay c.horizon.ensures (c.is_in_time.ensures.0 c.if-is_in_time.true) in
    ((λ h. (in_time, sym (c.is_free.ensures b holds) ∙ h)), (λ h. c.is_free.ensures b holds ∙ h.1))

pub returns-else-is_in_time : goal.returns-else-is_in_time
returns-else-is_in_time c b holds =
    let s = c.args.map.now.standing.now.present in
    let early_fits : FitsSigned w64 c.early.result = search rules in
    let lo_fits : FitsSigned w64 c.rule_text-text.result.lo = search rules in
    let date = to_z-of_z w64 c.early.result early_fits ∙ c.early.ensures ∙ early_is s c.args.map.now.net.now.present (forest c.args.map.now.tree.now) c.requires.seen.seen c.args.x c.requires.live in
    let delay = to_z-of_z w64 c.rule_text-text.result.lo lo_fits ∙ c.rule_text-text.ensures.lo in
    let back = moved (date_of s (moment_at (forest c.args.map.now.tree.now) c.args.x)) (to_z w64 (of_z w64 c.early.result)) (rule_of s c.args.rule).lo (to_z w64 (of_z w64 c.rule_text-text.result.lo)) s.horizon c.horizon.result (sym date) (sym delay) (sym c.horizon.ensures) in
    ((λ h. absurd (let e : true ≡ false = sym h ∙ c.if-is_in_time.false in cc)), (λ h. c.is_in_time.ensures.1 (back h.0)))
