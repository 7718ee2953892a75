use Rattle.std.proofs.Common.{◌≡◌, Bool, true, false, Option, Some, None, map, refl, sym, ◌∙◌, ap}
use Rattle.std.specs.Prelude.{not, ◌&&◌}
use Rattle.std.specs.Option.{is_some, is_none}
use Rattle.tmm_model.specs.Moments.{is_derived}
use Rattle.spots.specs.Forest.{moment_at}
use Rattle.occ_tree.specs.Places.{forest}
use Rattle.spots.proofs.Nodes.{node_at}
use Rattle.belief_list.specs.Compared.{row_in}
use Rattle.belief_list.specs.Rows.{row_at}
use Rattle.belief_list.proofs.Lookups.{has_parent}
use Rattle.belief_list.proofs.Matches.{listed_is}
use Rattle.belief_list.proofs.changes.is_gone.Goals as goal

-- what is not there is none
is_absent : {X : Type 0} (found : Option X) (absent : Bool) → is_some found ≡ not absent → absent ≡ is_none found
is_absent None true e = refl
is_absent None false e = e
is_absent (Some x) true e = e
is_absent (Some x) false e = refl

pub returns-then-is_some : goal.returns-then-is_some
returns-then-is_some c = λ other matched.
    let f = forest c.args.tree.now in
    let rows = c.args.others.now.rows.now in
    let k = moment_at f c.args.node in
    let (m, here) = node_at f c.args.node c.requires in
    let derived : true ≡ is_derived k = sym c.if-is_some.true ∙ c.is_some.ensures ∙ has_parent f c.args.node m c.row.result.parent here (c.row.ensures m here).parent in
    is_absent c.row_of.result c.is_none.result c.is_none.ensures
    ∙ ap is_none c.row_of.ensures
    ∙ sym (listed_is f other rows c.args.others.now.places.now matched c.args.node c.requires)
    ∙ ap (λ d. d && is_none (row_in (map (row_at other) rows) k)) derived

pub returns-else-is_some : goal.returns-else-is_some
returns-else-is_some c = λ other matched.
    let f = forest c.args.tree.now in
    let k = moment_at f c.args.node in
    let (m, here) = node_at f c.args.node c.requires in
    let derived : false ≡ is_derived k = sym c.if-is_some.false ∙ c.is_some.ensures ∙ has_parent f c.args.node m c.row.result.parent here (c.row.ensures m here).parent in
    c.if-is_some.false ∙ ap (λ d. d && is_none (row_in (map (row_at other) c.args.others.now.rows.now) k)) derived
