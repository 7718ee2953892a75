use Rattle.std.proofs.Common.{ℕ, List, sym, subst, refl}
use Rattle.dist_repair.specs.Rows.{AreDone, row_of}
use Rattle.dist_repair.proofs.relax_suspects.Goals as goal

pub relax-requires-clause-done : goal.relax-requires-clause-done
relax-requires-clause-done c =
    subst (λ (l : List ℕ). AreDone c.args.net.now.present c.args.place l c.args.a (row_of c.look_once.new.row)) (sym c.as_slice-2.ensures.value) (c.if-not-look_once.ensures.done refl)
