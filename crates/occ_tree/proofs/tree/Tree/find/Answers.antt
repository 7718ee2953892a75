use Rattle.std.proofs.Common.{◌≡◌, ◌∙◌, ◌∷◌, ◌+◌, ℕ, List, take, drop, sym, ap, subst}
use Rattle.std.proofs.lemmas.List.{take_all}
use Rattle.spots.specs.Forest.{Forest}
use Rattle.occ_tree.specs.Nodes.{forest_in}
use Rattle.occ_tree.specs.Standing.{Grove, nodes_in, present_rows, present, forest}
use Rattle.occ_tree.proofs.Finding.{Spells, spelt_root, spelt_further, spelt_moment, moment_spelt, no_root, no_further, name_taken, names_cut}
use Rattle.occ_tree.proofs.tree.Tree.find.Goals as goal

pub loop-rule-init : goal.loop-rule-init
loop-rule-init c = record {
  items = c.items-rule-items.ensures;
  here = spelt_root (nodes_in (present_rows c.nodes-nodes.result.now)) c.in_ok-x.ensures.placed c.in_ok-x.x c.args.occ.now.root c.in_ok-x.ensures.named;
}

pub returns-in_err-x : goal.returns-in_err-x
returns-in_err-x c =
    let node = nodes_in (present_rows c.nodes-nodes.result.now) in
    let occ = c.args.occ.now in
    let view : forest (present c.args.self.now) ≡ forest_in node = sym (ap (λ (g : Grove). forest_in (nodes_in (present_rows g))) c.nodes-nodes.ensures) in
    rw c.from_residual.ensures
    (λ y m at is.
    no_root node c.in_err-x.ensures.placed y occ.root occ.rules.items c.in_err-x.ensures.named
    (moment_spelt node c.in_err-x.ensures.placed y m occ.root occ.rules.items (sym (ap (λ (f : Forest). f y) view) ∙ at) is))

pub returns-in_err-x-2 : goal.returns-in_err-x-2
returns-in_err-x-2 c =
    let node = nodes_in (present_rows c.nodes-nodes.result.now) in
    let occ = c.args.occ.now in
    let placed = c.in_err-x-2.ensures.placed in
    let items = c.items-rule-items.result.now in
    let i = c.loop-rule.rule-index in
    let r = c.rule-item.result in
    let view : forest (present c.args.self.now) ≡ forest_in node = sym (ap (λ (g : Grove). forest_in (nodes_in (present_rows g))) c.nodes-nodes.ensures) in
    let names = sym c.loop-rule.invariant.items ∙ names_cut items i r c.loop-rule-test.true c.rule-item.is in
    rw c.from_residual-in_err-x-2.ensures
    (λ y m at is.
    no_further node placed c.loop-rule.x y (occ.root ∷ take i items) r (drop (i + 1) items) c.loop-rule.invariant.here c.in_err-x-2.ensures.named
    (subst (λ (l : List (List ℕ)). Spells node y (occ.root ∷ l)) names (moment_spelt node placed y m occ.root occ.rules.items (sym (ap (λ (f : Forest). f y) view) ∙ at) is)))

pub loop-rule-preserved : goal.loop-rule-preserved
loop-rule-preserved c =
    let node = nodes_in (present_rows c.nodes-nodes.result.now) in
    let root = c.args.occ.now.root in
    let items = c.items-rule-items.result.now in
    let i = c.loop-rule.rule-index in
    let r = c.rule-item.result in
    record {
      items = c.loop-rule.invariant.items;
      here = subst (λ (l : List (List ℕ)). Spells node c.in_ok-x-2.x (root ∷ l)) (sym (name_taken items i r c.loop-rule-test.true c.rule-item.is))
          (spelt_further node c.in_ok-x-2.ensures.placed c.loop-rule.x c.in_ok-x-2.x (root ∷ take i items) r c.loop-rule.invariant.here c.in_ok-x-2.ensures.named);
    }

pub returns : goal.returns
returns c =
    let node = nodes_in (present_rows c.nodes-nodes.result.now) in
    let occ = c.args.occ.now in
    let items = c.items-rule-items.result.now in
    let view : forest_in node ≡ forest (present c.args.self.now) = ap (λ (g : Grove). forest_in (nodes_in (present_rows g))) c.nodes-nodes.ensures in
    let names = take_all c.loop-rule.rule-index items c.loop-rule-test.false ∙ c.loop-rule.invariant.items in
    let (m, at, is) = spelt_moment node c.in_ok-x.ensures.placed c.loop-rule.x occ.root occ.rules.items (subst (λ (l : List (List ℕ)). Spells node c.loop-rule.x (occ.root ∷ l)) names c.loop-rule.invariant.here) in
    (m, sym (ap (λ (f : Forest). f c.loop-rule.x) view) ∙ at, is)
