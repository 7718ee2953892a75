use Rattle.std.proofs.Common.{◌≢◌, ◌∙◌, length, refl, sym, w64, rules}
use Rattle.std.specs.Prelude.{FitsSigned}
use Rattle.std.proofs.lemmas.Int.{to_z-of_z}
use Rattle.occ_tree.specs.Places.{forest}
use Rattle.spots.proofs.Nodes.{node_at}
use Rattle.belief_table.proofs.Parted.{tells_no_root, tells_one, root_not_derived, effect_derived}
use Rattle.belief_table.proofs.erasing.tell.Goals as goal

pub returns-then-row-eq0 : goal.returns-then-row-eq0
returns-then-row-eq0 c =
    let t = c.args.tree.now in
    let (m, at) = node_at (forest t) c.args.y c.requires in
    tells_no_root t c.args.y c.args.left.now.items (root_not_derived t c.args.y m at (sym (c.row.ensures m at).rules ∙ c.if-row-eq0.true))

pub returns : goal.returns
returns c =
    let t = c.args.tree.now in
    let (m, at) = node_at (forest t) c.args.y c.requires in
    let fits : FitsSigned w64 c.early.result = search rules in
    let some : length m.links ≢ 0 = λ none. c.if-row-eq0.false ((c.row.ensures m at).rules ∙ none) in
    tells_one t c.args.y c.args.left.now.items c.push.new.self.items _ (effect_derived t c.args.y m at some) c.in_ok-occ_of.ensures (to_z-of_z w64 c.early.result fits ∙ c.early.ensures.date) refl c.in-Ok.ensures.ok
