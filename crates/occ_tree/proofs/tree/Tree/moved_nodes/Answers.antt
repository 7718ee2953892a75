use Rattle.std.proofs.Common.{◌≡◌, ◌∙◌, ◌∷◌, [], ◌++◌, ◌<◌, ℕ, List, length, take, sym, ap, subst, arith}
use Rattle.std.specs.Prelude.{Result, Ok, Err, IfOk, Some}
use Rattle.std.specs.List.{Contains}
use Rattle.std.specs.Global.{Vec}
use Rattle.std.proofs.lemmas.List.{take_more, take_all}
use Rattle.spots.specs.Forest.{Forest, Member, member, IsLive}
use Rattle.spots.proofs.Nodes.{live_at}
use Rattle.occ_tree.specs.AtPoints.{HaveNodesAt}
use Rattle.occ_tree.specs.Standing.{present, forest}
use Rattle.occ_tree.specs.Touched.{IsAtMoved}
use Rattle.occ_tree.proofs.AtPoints.{at_none, at_more, at_moved, no_start}
use Rattle.occ_tree.proofs.tree.Tree.moved_nodes.Goals as goal

every_node : (f : Forest) (moved : List ℕ) {E : Type 0} (r : Result (Vec ℕ) E) → IfOk r (λ numbers. (x : ℕ) → IsLive f x → Contains numbers.items x)
    → IfOk r (λ nodes. (x : ℕ) (m : Member) → member f x ≡ Some m → IsAtMoved moved m → Contains nodes.items x)
every_node f moved (Ok numbers) all = λ x m at is. all x (live_at f x m at)
every_node f moved (Err e) all = tt

pub returns-then-contains-clause-nodes : goal.returns-then-contains-clause-nodes
returns-then-contains-clause-nodes c = every_node (forest (present c.args.self.now)) c.args.net.now.moved c.numbers.result c.numbers.ensures.all

pub loop-p-init : goal.loop-p-init
loop-p-init c = at_none (forest (present c.args.self.now)) c.new-nodes.result.items c.new-nodes.ensures.items

pub loop-p-preserved : goal.loop-p-preserved
loop-p-preserved c =
    let f = forest (present c.args.self.now) in
    let moved = c.moved-moved.result.now in
    let i = c.loop-p.p-index in
    let was = c.loop-p.nodes.items in
    let now = c.extend_from_slice.new.self.items in
    let at = c.in_ok-at.at.items in
    let within : i < length moved = omega (arith, c.loop-p-test.true) in
    let grown : now ≡ was ++ at = c.in_ok-extend_from_slice.ensures.items ∙ ap (λ (l : List ℕ). was ++ l) c.as_slice.ensures.value in
    subst (λ l. HaveNodesAt f l now) (sym (take_more moved i _ within)) (at_more f (take i moved) (_ ∷ []) was at now grown c.loop-p.invariant c.in_ok-at.ensures)

pub returns-clause-nodes : goal.returns-clause-nodes
returns-clause-nodes c =
    let f = forest (present c.args.self.now) in
    let moved = c.moved-moved.result.now in
    let i = c.loop-p.p-index in
    let nodes = c.loop-p.nodes.items in
    let all = take_all i moved (omega (arith, c.loop-p-test.false)) in
    let at = subst (λ l. HaveNodesAt f l nodes) all c.loop-p.invariant in
    let none = no_start moved (sym c.contains.ensures.value ∙ c.if-contains.false) in
    subst (λ l. (x : ℕ) (m : Member) → member f x ≡ Some m → IsAtMoved l m → Contains nodes x) c.moved-moved.ensures.list (at_moved f moved nodes none at)

pub returns-clause-live : goal.returns-clause-live
returns-clause-live c = c.loop-p.invariant.live
