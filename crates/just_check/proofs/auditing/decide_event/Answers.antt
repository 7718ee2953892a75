use Rattle.std.proofs.Common.{◌≡◌, ◌∙◌, subst, rules, w64, to_z, of_z}
use Rattle.std.proofs.lemmas.Int.{to_z-of_z}
use Rattle.std.proofs.lemmas.Result.{on_ok_weaker}
use Rattle.std.specs.Prelude.{FitsSigned}
use Rattle.spots.specs.Forest.{IsLive, moment_at}
use Rattle.occ_tree.specs.Places.{forest}
use Rattle.spots.proofs.Seen.{early_is}
use Rattle.just_check.specs.Audited.{date_of, DecidesThrough, IsReady}
use Rattle.just_check.specs.Origins.{has_event}
use Rattle.just_check.proofs.Deciding.{rows_in, ready_event, ready_root}
use Rattle.just_check.proofs.auditing.decide_event.Goals as goal

pub returns-in-Some-clause-ready : goal.returns-in-Some-clause-ready
returns-in-Some-clause-ready c =
    let s = c.args.standing.now.present in
    let net = c.args.net.now.present in
    let old = c.args.checked.now in
    let new = c.decide_through.new.checked in
    let o = c.args.origin.now in
    let x = c.in-Some.event in
    let live : IsLive (forest old.tree) x = subst (has_event (forest old.tree)) c.in-Some.is c.requires.event in
    let fits : FitsSigned w64 c.early-date.result = search rules in
    let date = to_z w64 (of_z w64 c.early-date.result) in
    let date_is : date ≡ date_of s (moment_at (forest old.tree) x) = to_z-of_z w64 c.early-date.result fits ∙ c.early-date.ensures ∙ early_is s net (forest old.tree) c.requires.before.taken.so_far.seen x live in
    let go : DecidesThrough s net old new date → IsReady s net new o = ready_event s net old new c.requires.before o x c.in-Some.is live date date_is in
    on_ok_weaker c.decide_through.result go c.decide_through.ensures

pub early-date-requires-clause-dates : goal.early-date-requires-clause-dates
early-date-requires-clause-dates c = rows_in c.requires.before.taken

pub returns-in-None-clause-ready : goal.returns-in-None-clause-ready
returns-in-None-clause-ready c =
    let old = c.args.checked.now in
    ready_root c.args.standing.now.present c.args.net.now.present old old c.requires.before c.args.origin.now c.in-None.is
