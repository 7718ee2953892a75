use Rattle.std.proofs.Common.{refl, ◌∙◌, ap, sym, ◌≡◌}
use Rattle.std.specs.Prelude.{Some, is_some}
use Rattle.tmm_model.specs.Maps.{built}
use Rattle.tmm_model.specs.Questions.{why_cause}
use Rattle.tmm_model.specs.Verdicts.{ill_sorted}
use Rattle.tt_query.proofs.Believed.{root_known, no_root}
use Rattle.occ_tree.specs.Places.{forest}
use Rattle.tt_query.proofs.points.resolve_root.Goals as goal

pub returns-in-Some-clause-known : goal.returns-in-Some-clause-known
returns-in-Some-clause-known c =
    let (m, is, same) = c.in-Some.ensures in
    let (net, seen) = c.requires.seen in
    root_known c.args.standing.now.present net (forest c.args.tree.now) seen c.requires.holds c.args.occ.now c.requires.root c.in-Some.x m is same

pub returns-in-None-clause-stops : goal.returns-in-None-clause-stops
returns-in-None-clause-stops c =
    let (net, seen) = c.requires.seen in
    let o = c.args.occ.now in
    let s = c.args.standing.now.present in
    let cause : why_cause (built s) o o.rules.items ≡ Some (ill_sorted o.root) =
    ap (why_cause (built s) o) c.requires.root ∙ no_root s net (forest c.args.tree.now) seen c.requires.holds o c.requires.root (c.in_default.ensures.ok.0 refl) c.in-None.ensures in
    (ap is_some cause, sym cause)
