use Rattle.std.proofs.Common.{◌∙◌, sym, ap, option_and_then}
use Rattle.occ_tree.specs.AtPoints.{owner_of}
use Rattle.occ_tree.specs.Standing.{present}
use Rattle.occ_tree.proofs.AtPoints.{no_root_at, named_root_at}
use Rattle.occ_tree.proofs.tree.Tree.root_at.Goals as goal

pub returns-in_err-point : goal.returns-in_err-point
returns-in_err-point c =
    rw c.from_residual.ensures
    (no_root_at c.args.net.now.present (present c.args.self.now) c.requires.list c.args.p (ap (option_and_then owner_of) (sym c.name_of.ensures ∙ c.in_err-point.was)))

pub returns-in_err-name : goal.returns-in_err-name
returns-in_err-name c =
    rw c.from_residual-in_err-name.ensures
    (no_root_at c.args.net.now.present (present c.args.self.now) c.requires.list c.args.p (ap (option_and_then owner_of) (sym c.name_of.ensures ∙ c.in_ok-point.was) ∙ sym c.owner.ensures ∙ c.in_err-name.was))

pub returns : goal.returns
returns c =
    named_root_at c.args.net.now.present (present c.args.self.now) c.requires.list c.args.p c.in_ok-name.name c.root_named.result
    (ap (option_and_then owner_of) (sym c.name_of.ensures ∙ c.in_ok-point.was) ∙ sym c.owner.ensures ∙ c.in_ok-name.was) c.root_named.ensures.roots c.root_named.ensures.found
