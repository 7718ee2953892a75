use Rattle.std.proofs.Common.{◌∙◌, sym, subst, IsSome}
use Rattle.undo_lists.specs.Changes as lists
use Rattle.undo_rows.specs.Tables.{Table}
use Rattle.spots.specs.OfLists.{HasList}
use Rattle.occ_tree.specs.Dated.{DatesAll, base_early}
use Rattle.occ_tree.specs.Edits.{AreDated}
use Rattle.occ_tree.specs.Nodes.{forest_in}
use Rattle.occ_tree.specs.Standing.{Kept, nodes_in, present_rows, committed_rows, tokens_under, present, forest, head_for}
use Rattle.occ_tree.proofs.Entered.{committed_same}
use Rattle.occ_tree.proofs.Keeping.{kept_same}
use Rattle.occ_tree.proofs.Late.{members, dated_new, follow_new}
use Rattle.occ_tree.proofs.Moved.{number_all}
use Rattle.occ_tree.proofs.Numbered.{no_more}
use Rattle.occ_tree.proofs.tree.Tree.re_date_all.Goals as goal

pub room_for_late-requires-clause-list : goal.room_for_late-requires-clause-list
room_for_late-requires-clause-list c = subst (λ (k : Kept). HasList c.args.net.now.present (forest (present k))) (sym c.self.view_is) c.requires

pub date_late-requires-clause-list : goal.date_late-requires-clause-list
date_late-requires-clause-list c =
    let list = subst (λ (k : Kept). HasList c.args.net.now.present (forest (present k))) (sym c.self.view_is) c.requires in
    subst (λ (u : Table _ 1). HasList c.args.net.now.present (forest_in (nodes_in u))) (sym c.in_ok-late.ensures.keeps.present_is) list

pub date_late-requires-clause-live : goal.date_late-requires-clause-live
date_late-requires-clause-live c = λ y on. subst (λ (u : Table _ 1). IsSome (nodes_in u y)) (sym c.in_ok-late.ensures.keeps.present_is) (c.in_ok-late.ensures.live y on)

pub invariant_of-self-2 : goal.invariant_of-self-2
invariant_of-self-2 c =
    let r = c.in_ok-late.ensures in
    let a = c.date_late.ensures in
    let net = c.args.net.now.present in
    let names = c.self.inside.classes in
    let t = present_rows c.self.inside.nodes in
    let u = present_rows c.date_late.new.nodes in
    let numbers = c.in_ok-late.late.numbers.items in
    let list = subst (λ (k : Kept). HasList net (forest (present k))) (sym c.self.view_is) c.requires in
    let dated : AreDated t u numbers (base_early net (nodes_in t)) = subst (λ (v : Table _ 1). AreDated v u numbers (base_early net (nodes_in v))) r.keeps.present_is a.dated in
    record {
      now = record {
        tokens = a.tokens;
        numbers = number_all t u (base_early net (nodes_in t)) numbers dated names c.self.invariant.now.numbers;
        dates = follow_new net t u numbers r.stands.placed list r.right dated;
      };
      then_ = kept_same names (committed_rows c.self.inside.nodes) (committed_rows c.date_late.new.nodes) (lists.committed c.self.inside.tokens) (lists.committed c.date_late.new.tokens) (a.committed_rows ∙ r.keeps.committed_is) (a.committed ∙ r.committed) c.self.invariant.then_;
    }

pub returns-clause-ok : goal.returns-clause-ok
returns-clause-ok c =
    let r = c.in_ok-late.ensures in
    let a = c.date_late.ensures in
    let net = c.args.net.now.present in
    let names = c.self.inside.classes in
    let t = present_rows c.self.inside.nodes in
    let u = present_rows c.date_late.new.nodes in
    let numbers = c.in_ok-late.late.numbers.items in
    let old : Kept = record { nodes = c.self.inside.nodes; classes = names; tokens = c.self.inside.tokens } in
    let new : Kept = record { nodes = c.date_late.new.nodes; classes = names; tokens = c.date_late.new.tokens } in
    let list = subst (λ (k : Kept). HasList net (forest (present k))) (sym c.self.view_is) c.requires in
    let dated : AreDated t u numbers (base_early net (nodes_in t)) = subst (λ (v : Table _ 1). AreDated v u numbers (base_early net (nodes_in v))) r.keeps.present_is a.dated in
    subst (λ (s : Kept). DatesAll net s new) c.self.view_is (record {
      dated = dated_new net t u numbers r.stands.placed list r.right dated (tokens_under names (lists.present c.date_late.new.tokens));
      nodes = members net t u numbers r.stands.placed dated;
      lists = λ parent. dated.lists (head_for parent);
      committed_is = committed_same old new c.self.invariant (no_more names) (a.committed_rows ∙ r.keeps.committed_is) (a.committed ∙ r.committed);
    })
