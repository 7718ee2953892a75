use Rattle.std.proofs.Common.{◌∙◌, ℕ, MatchOption, subst}
use Rattle.occ_tree.specs.Named.{IsNamed}
use Rattle.occ_tree.specs.Standing.{Kept, nodes_in, present_rows}
use Rattle.occ_tree.proofs.Indexed.{under_key}
use Rattle.occ_tree.proofs.by_name.ByName.named.Goals as goal

pub returns-clause-named : goal.returns-clause-named
returns-clause-named c =
    let tree = c.self.inside.tree.now in
    subst (λ (k : Kept). MatchOption c.copied.result ((x : ℕ) → IsNamed (nodes_in (present_rows k.nodes)) c.args.parent c.args.name.now x → ⊥) (IsNamed (nodes_in (present_rows k.nodes)) c.args.parent c.args.name.now)) c.self.view_is
    (under_key (nodes_in (present_rows tree.nodes)) c.self.inside.numbers.entries c.self.invariant c.args.parent c.args.name.now c.copied.result (c.copied.ensures ∙ c.get.ensures.value))
