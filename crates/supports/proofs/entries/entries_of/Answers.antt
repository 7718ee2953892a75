use Rattle.std.proofs.Common.{◌<◌, length}
use Rattle.std.proofs.lemmas.List.Sorted.{All-permutation, Contains-permutation}
use Rattle.occ_tree.specs.Places.{forest}
use Rattle.supports.specs.Under.{IsUnder}
use Rattle.supports.specs.Entries.{node_at}
use Rattle.supports.proofs.BranchesEntering.{made_at}
use Rattle.supports.proofs.InOrder.{all_up}
use Rattle.supports.proofs.entries.entries_of.Goals as goal

pub returns-clause-entries : goal.returns-clause-entries
returns-clause-entries c =
    let old = c.in_ok-entries.entries.items in
    let new = c.sort_unstable.new.self.items in
    let are = c.in_ok-entries.ensures in
    record {
      own = All-permutation (λ e. (e.place < length c.args.rows.now) × IsUnder (forest c.args.tree.now) e.node (node_at c.args.rows.now e.place)) old new c.sort_unstable.ensures.permutation are.own;
      all = λ x i lt u. Contains-permutation old new (made_at i x) c.sort_unstable.ensures.permutation (are.all x i lt u);
    }

pub returns-clause-sorted : goal.returns-clause-sorted
returns-clause-sorted c = all_up c.sort_unstable.new.self.items c.sort_unstable.ensures.sorted
