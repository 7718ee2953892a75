use Rattle.std.proofs.Common.{◌≡◌, ◌∙◌, Some, rules, sym, ap}
use Rattle.std.specs.Option.{option_map}
use Rattle.spots.specs.declared.spot.Spot.TheVariants.{Declared, Node}
use Rattle.bearing.proofs.moving_tokens.token_at.Goals as goal

pub returns : goal.returns
returns c = λ m at has.
    let row = c.row-node.ensures m at in
    let made : c.map.result ≡ option_map Declared c.row-node.result.end = search rules in
    let ends : option_map Declared m.end ≡ c.map.result = ap (option_map Declared) (sym row.end) ∙ sym made in
    ap (option_map (λ class. record { spot = Node c.args.x; end = option_map Declared m.end; fact = m.what; class = class })) has
    ∙ (λ i. Some (record { spot = Node c.args.x; end = ends i; fact = sym row.what i; class = c.args.class }))
