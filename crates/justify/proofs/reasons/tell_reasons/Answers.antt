use Rattle.std.proofs.Common.{List, ℕ, map, sym, subst}
use Rattle.std.specs.List.{All}
use Rattle.std.specs.List.Sorted.{IsPermutation}
use Rattle.std.proofs.lemmas.List.Sorted.{All-permutation}
use Rattle.std.proofs.lemmas.Result.{on_ok_weaker}
use Rattle.tmm_model.specs.Maps.{built}
use Rattle.tmm_model.specs.Reasons.{AreReasons, reason_of}
use Rattle.spots.specs.Forest.{IsLive, moment_at}
use Rattle.occ_tree.specs.declared.ranks.Ranked.{Ranked}
use Rattle.occ_tree.specs.Ranks.{nodes_of}
use Rattle.occ_tree.specs.Places.{forest}
use Rattle.map_core.specs.Heard.{AreWhy}
use Rattle.justify.specs.Lines.{AreLinesOfAll}
use Rattle.justify.proofs.AllTold.{reasons_are}
use Rattle.justify.proofs.Told.{hears_so}
use Rattle.justify.proofs.reasons.tell_reasons.Goals as goal

pub tell_all-requires-clause-live : goal.tell_all-requires-clause-live
tell_all-requires-clause-live g c =
    let f = forest c.args.map.now.tree.now in
    let keys = c.in_ok-found.found.keys in
    let ranked = c.in_ok-ranked.ranked.items in
    subst (λ (ps : List Ranked). All (IsLive f) (nodes_of ps)) (sym c.as_slice-2.ensures.value)
    (All-permutation (IsLive f) keys (nodes_of ranked) (subst (λ (l : List ℕ). IsPermutation l (nodes_of ranked)) c.as_slice.ensures.keys c.in_ok-ranked.ensures.same) c.in_ok-found.ensures.live)

pub returns : goal.returns
returns g c =
    let s = c.args.map.now.standing.now.present in
    let f = forest c.args.map.now.tree.now in
    let keys = c.in_ok-found.found.keys in
    let ranked = c.in_ok-ranked.ranked.items in
    on_ok_weaker c.tell_all.result
    (hears_so g.R.Listener.parts_of (AreLinesOfAll (built s) (map (moment_at f) (nodes_of c.as_slice-2.result.now))) (AreWhy (built s) (moment_at f c.args.x))
    (λ lines told.
    reasons_are s c.args.map.now.net.now.present f c.requires.seen.seen c.args.x keys (nodes_of ranked) c.in_ok-found.ensures
    (subst (λ (l : List ℕ). IsPermutation l (nodes_of ranked)) c.as_slice.ensures.keys c.in_ok-ranked.ensures.same) c.in_ok-ranked.ensures.in_order
    (map reason_of lines)
    (subst (λ (ps : List Ranked). AreReasons (built s) (map (moment_at f) (nodes_of ps)) (map reason_of lines)) c.as_slice-2.ensures.value told))
    _ _)
    c.tell_all.ensures
