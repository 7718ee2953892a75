use Rattle.std.proofs.Common.{◌≡◌, ℕ, Bool, List, length, sym, ap, subst, arith, slice_index_or, IsSome}
use Rattle.std.specs.Prelude.{Result, Ok, Err, IfOk, Some}
use Rattle.std.specs.List.{All, Contains}
use Rattle.std.specs.Global.{Vec}
use Rattle.undo_lists.specs.Changes as lists
use Rattle.spots.specs.Forest.{Member}
use Rattle.occ_tree.specs.Classes.{place_in}
use Rattle.occ_tree.specs.Marks.{IsMarked, AreMarked, AreListsMarked}
use Rattle.occ_tree.specs.Nodes.{Nodes, forest_in}
use Rattle.occ_tree.specs.Standing.{Grove, nodes_in, present_rows, present, committed}
use Rattle.occ_tree.proofs.Keeping.{node_if_live}
use Rattle.occ_tree.proofs.Marking.{kept_marked}
use Rattle.occ_tree.proofs.TokenLists.{some_is}
use Rattle.occ_tree.proofs.Touching.{others_same, class_told}
use Rattle.occ_tree.proofs.tree.Tree.touched_classes.Goals as goal

if_ok : {A E : Type 0} (P Q : A → Type 0) → ((a : A) → P a → Q a) → (r : Result A E) → IfOk r P → IfOk r Q
if_ok P Q f (Ok a) p = f a p
if_ok P Q f (Err e) p = tt

live_nodes : (node : Nodes) (numbers : List ℕ) → All (λ x. IsSome (forest_in node x)) numbers → All (λ x. IsSome (node x)) numbers
live_nodes node numbers all k d within =
    let y = slice_index_or numbers k d in
    let (n, at) = node_if_live node y (all k d within) in
    some_is (node y) n at

pub mark_lists-requires : goal.mark_lists-requires
mark_lists-requires c =
    subst (λ (g : Grove). All (λ x. IsSome (nodes_in (present_rows g) x)) c.args.nodes.now) (sym c.nodes.ensures)
    (live_nodes (nodes_in (present_rows c.args.self.now.nodes)) c.args.nodes.now c.requires)

-- the classes whose numbers are marked are told
abbrev TellsMarked : List (List ℕ) → List Bool → Vec (List ℕ) → Type 0
TellsMarked names marks told = (class : List ℕ) (k : ℕ) → place_in names class ≡ Some k → IsMarked marks k → Contains told.items class

long : (c : goal.After-drop-marks-2) → length c.mark_lists.new.marks.items ≡ length c.args.self.now.classes
long c =
    let first = c.mark_all.ensures.keeps.long in
    let second = c.mark_lists.ensures.keeps.long in
    let count = c.len.ensures in
    let made = c.in_ok-marks.ensures.len in
    let own = ap (λ (l : List (List ℕ)). length l) c.classes-classes.ensures.classes in
    omega (arith, first, second, count, made, own, c.in_ok-marks.marks.ok.0)

tells : (c : goal.After-drop-marks-2) → IfOk c.marked.result (TellsMarked c.args.self.now.classes c.mark_lists.new.marks.items)
tells c =
    subst (λ marks. IfOk c.marked.result (TellsMarked c.args.self.now.classes marks)) c.as_slice-2.ensures.value
    (subst (λ names. IfOk c.marked.result (TellsMarked names c.as_slice-2.result.now)) c.classes-classes.ensures.classes c.marked.ensures.all)

pub marked-requires : goal.marked-requires
marked-requires c =
    let first = c.mark_all.ensures.keeps.long in
    let second = c.mark_lists.ensures.keeps.long in
    let count = c.len.ensures in
    let made = c.in_ok-marks.ensures.len in
    let own = ap (λ (l : List Bool). length l) c.as_slice-2.ensures.value in
    omega (arith, first, second, count, made, own, c.in_ok-marks.marks.ok.0)

pub returns-clause-others : goal.returns-clause-others
returns-clause-others c =
    let k = c.args.self.now in
    let marks = c.mark_lists.new.marks.items in
    let changed = c.in_ok-changed.changed.items in
    let noted = kept_marked c.mark_all.new.marks.items marks changed c.mark_lists.ensures.keeps (subst (AreMarked c.mark_all.new.marks.items) c.as_slice.ensures.value c.mark_all.ensures.marked) in
    if_ok (TellsMarked k.classes marks) (λ told. (class : List ℕ) → (Contains told.items class → ⊥) → (present k).tokens class ≡ (committed k).tokens class)
    (λ told all. others_same k.classes told.items marks (long c) all k.tokens changed noted c.in_ok-changed.ensures) c.marked.result (tells c)

pub returns-clause-nodes : goal.returns-clause-nodes
returns-clause-nodes c =
    let k = c.args.self.now in
    let marks = c.mark_lists.new.marks.items in
    let node = nodes_in (present_rows k.nodes) in
    let noted = subst (λ (g : Grove). AreListsMarked (nodes_in (present_rows g)) marks c.args.nodes.now) c.nodes.ensures c.mark_lists.ensures.marked in
    if_ok (TellsMarked k.classes marks) (λ told. (class : List ℕ) (x : ℕ) (m : Member) → Contains c.args.nodes.now x → forest_in node x ≡ Some m → m.class ≡ Some class → Contains told.items class)
    (λ told all. class_told k.classes told.items marks (long c) all node (lists.present k.tokens) c.args.nodes.now c.classes-classes.ensures.stands.now noted) c.marked.result (tells c)

pub returns-clause-once : goal.returns-clause-once
returns-clause-once c = c.marked.ensures.once
