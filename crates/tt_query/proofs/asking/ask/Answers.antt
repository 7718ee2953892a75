use Rattle.std.proofs.Common.{◌≡◌, ◌∙◌, ap, sym, subst}
use Rattle.std.specs.Prelude.{IfOk}
use Rattle.tmm_model.specs.Answers.{Finding, finding_of, holds}
use Rattle.tmm_model.specs.Maps.{built}
use Rattle.spots.specs.Forest.{moment_at}
use Rattle.spots.specs.Spots.{spot_moment}
use Rattle.occ_tree.specs.Places.{forest}
use Rattle.tt_query.proofs.Asked.{ask_unordered, ask_holds, ask_fails, surely}
use Rattle.tt_query.proofs.asking.ask.Goals as goal

pub returns-then-not-is_by : goal.returns-then-not-is_by
returns-then-not-is_by c =
    let s = c.args.standing.now.present in
    let n = c.args.net.now.present in
    let f = forest c.args.tree.now in
    sym (ask_unordered (built s) c.args.fact (spot_moment n.names f c.args.p) (spot_moment n.names f c.args.q)
    (sym (surely s n f c.requires.seen.seen c.args.p c.args.q c.requires.p c.requires.q) ∙ sym c.is_by.ensures ∙ c.if-not-is_by.true))

pub returns-in-Ok : goal.returns-in-Ok
returns-in-Ok c =
    let s = c.args.standing.now.present in
    let n = c.args.net.now.present in
    let f = forest c.args.tree.now in
    ap holds c.in-Ok.ensures
    ∙ sym (ask_holds (built s) c.args.fact (spot_moment n.names f c.args.p) (spot_moment n.names f c.args.q) (moment_at f c.in-Some.x)
    (sym (surely s n f c.requires.seen.seen c.args.p c.args.q c.requires.p c.requires.q) ∙ sym c.is_by.ensures ∙ c.if-not-is_by.false)
    (sym (c.in-Some.ensures.first (built s).believed c.requires.holds)))

pub returns-in-None : goal.returns-in-None
returns-in-None c =
    let s = c.args.standing.now.present in
    let n = c.args.net.now.present in
    let f = forest c.args.tree.now in
    subst (λ (z : Finding). IfOk c.blamed.result (λ answer. finding_of answer ≡ z))
    (sym (ask_fails (built s) c.args.fact (spot_moment n.names f c.args.p) (spot_moment n.names f c.args.q)
    (sym (surely s n f c.requires.seen.seen c.args.p c.args.q c.requires.p c.requires.q) ∙ sym c.is_by.ensures ∙ c.if-not-is_by.false)
    (sym (c.in-None.ensures.first (built s).believed c.requires.holds))))
    c.blamed.ensures
