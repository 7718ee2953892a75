use Rattle.std.proofs.Common.{◌≡◌, ◌∙◌, ℕ, List, sym, subst, refl}
use Rattle.dist_net.specs.Net.{entry}
use Rattle.dist_repair.specs.Rows.{row_of, IsPresentBeside}
use Rattle.dist_repair.proofs.Drafting.{IsFarRow-drafted}
use Rattle.dist_repair.proofs.settle_row.Goals as goal

pub returns-clause-far : goal.returns-clause-far
returns-clause-far c done =
    let same : c.as_slice.result.now ≡ c.args.work.now.suspects.items = c.as_slice.ensures.value ∙ c.relax_suspects.ensures.suspects in
    IsFarRow-drafted c.args.net.now.present c.args.place c.args.a c.as_slice.result.now (row_of c.args.work.now.row) (row_of c.relax_suspects.new.work.row) (entry c.args.net.now.draft c.args.a) (entry c.draft_row.new.net.draft c.args.a) c.invariants.ensures.names
    (subst (λ (l : List ℕ). IsPresentBeside c.args.net.now.present l c.args.a (row_of c.args.work.now.row)) (sym same) c.requires.beside)
    c.relax_suspects.ensures.lowered (c.if-not-relax_suspects.ensures.far refl) c.requires.draft c.draft_row.ensures.written c.draft_row.ensures.kept
