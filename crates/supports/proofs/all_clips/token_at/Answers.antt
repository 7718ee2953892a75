use Rattle.std.proofs.Common.{rules, ◌≡◌, ◌∙◌, sym, ap, Some, None}
use Rattle.std.specs.Option.{option_map}
use Rattle.spots.proofs.Nodes.{node_at}
use Rattle.spots.specs.declared.spot.Spot.TheVariants.{Declared, Node}
use Rattle.occ_tree.specs.Places.{forest}
use Rattle.supports.proofs.Behind.{token_made}
use Rattle.supports.proofs.all_clips.token_at.Goals as goal

pub returns-in_err-class : goal.returns-in_err-class
returns-in_err-class c =
    let (m, here) = node_at (forest c.args.tree.now) c.args.x c.requires in
    c.from_residual.ensures ∙ sym (token_made (forest c.args.tree.now) c.args.x m None here (sym (c.row-row.ensures m here).class ∙ c.in_err-class.was))

pub returns : goal.returns
returns c =
    let (m, here) = node_at (forest c.args.tree.now) c.args.x c.requires in
    let row = c.row-row.ensures m here in
    let ends : c.map.result ≡ option_map Declared c.row-row.result.end = search rules in
    (λ i. Some (record { spot = Node c.args.x; end = (ends ∙ ap (option_map Declared) row.end) i; fact = row.what i; class = c.in_ok-class.class }))
    ∙ sym (token_made (forest c.args.tree.now) c.args.x m (Some c.in_ok-class.class) here (sym row.class ∙ c.in_ok-class.was))
