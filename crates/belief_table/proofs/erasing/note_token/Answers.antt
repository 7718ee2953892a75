use Rattle.std.proofs.Common.{◌∙◌, [], ◌∷◌, sym, ap, subst, Option, None}
use Rattle.std.specs.Prelude.{is_some}
use Rattle.std.specs.Option.{option_map, option_map_or}
use Rattle.spots.specs.Forest.{Member}
use Rattle.spots.proofs.Nodes.{node_at}
use Rattle.occ_tree.specs.Places.{forest}
use Rattle.belief_table.specs.Erasing.{NotesOf}
use Rattle.bearing.specs.Gone.{gone_of, gone_at}
use Rattle.bearing.proofs.LeftTokens.{gone_is}
use Rattle.belief_table.proofs.Parted.{notes_push, notes_no_token}
use Rattle.belief_table.proofs.erasing.note_token.Goals as goal

pub returns-in_ok-push-in-Some : goal.returns-in_ok-push-in-Some
returns-in_ok-push-in-Some c =
    let t = c.args.tree.now in
    let (m, at) = node_at (forest t) c.args.y c.requires in
    let row = c.row-row.ensures m at in
    subst (NotesOf (gone_at t) (c.args.y ∷ []) c.args.tokens.now.items) (sym c.in_ok-push-in-Some.ensures)
    (notes_push (gone_at t) c.args.y (record { class = c.in-Some.class; place = c.place_of.result; is_span = c.is_some.result }) c.args.tokens.now.items
    (gone_is (forest t) c.args.y m c.in-Some.class c.place_of.result c.is_some.result at (sym row.class ∙ c.in-Some.is) c.place_of.ensures (c.is_some.ensures ∙ ap is_some row.«end»)))

pub returns-in-None : goal.returns-in-None
returns-in-None c =
    let t = c.args.tree.now in
    let (m, at) = node_at (forest t) c.args.y c.requires in
    let row = c.row-row.ensures m at in
    notes_no_token t (gone_at t) c.args.y c.args.tokens.now.items
    (ap (λ (o : Option Member). option_map_or gone_of o None) at ∙ ap (option_map (λ class. _)) (sym row.class ∙ c.in-None.is))
