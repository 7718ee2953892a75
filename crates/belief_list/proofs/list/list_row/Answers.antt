use Rattle.std.proofs.Common.{◌≡◌, [], sym, ◌∙◌, ap, rules, w64}
use Rattle.std.proofs.lemmas.Int.{to_z-of_z}
use Rattle.std.specs.Int.RustNames.{FitsSigned}
use Rattle.std.specs.Prelude.{Option}
use Rattle.std.specs.Option.{option_map_or}
use Rattle.spots.specs.Forest.{Member}
use Rattle.occ_tree.specs.Places.{forest}
use Rattle.spots.proofs.Nodes.{node_at}
use Rattle.belief_list.specs.Rows.{what_at}
use Rattle.belief_list.proofs.list.list_row.Goals as goal

pub returns : goal.returns
returns c =
    let f = forest c.args.tree.now in
    let x = c.args.row.now.node in
    let (m, here) = node_at f x c.requires.live.node in
    let what : c.row.result.what ≡ what_at f x = (c.row.ensures m here).what ∙ sym (ap (λ (o : Option Member). option_map_or (λ n. n.what) o []) here) in
    let fits : FitsSigned w64 c.args.row.now.early = search rules in
    let date = to_z-of_z w64 c.args.row.now.early fits in
    λ i. record { date = date i; occ = c.requires.own i; what = what i; clip = c.in_ok-clip.ensures i }
