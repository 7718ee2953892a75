use Rattle.std.proofs.Common.{refl, subst, rules, w64, to_z, of_z}
use Rattle.std.proofs.lemmas.Int.{to_z-of_z}
use Rattle.std.specs.Prelude.{FitsSigned}
use Rattle.undo_rows.specs.Changes.{present as table}
use Rattle.occ_tree.specs.Standing.{present}
use Rattle.occ_tree.proofs.Numbered.{no_more}
use Rattle.joined.specs.Listed.{IsListedUnder}
use Rattle.belief_table.specs.Marks.{Marks, IsAsLate}
use Rattle.belief_table.specs.Waiting.{dates_in}
use Rattle.belief_table.proofs.Marked.{none_spared}
use Rattle.marking.proofs.token_moves.mark_token.Goals as goal

pub returns-in_err-number-clause-last : goal.returns-in_err-number-clause-last
returns-in_err-number-clause-last c = record { rows = refl; rules = no_more c.args.decisions.now.rules; classes = c.enter.ensures.more }

pub returns-in_err-mark_class-clause-last : goal.returns-in_err-mark_class-clause-last
returns-in_err-mark_class-clause-last c = record { rows = refl; rules = no_more c.args.decisions.now.rules; classes = c.enter.ensures.more }

pub returns-clause-ok : goal.returns-clause-ok
returns-clause-ok c =
    let tree = c.args.tree.now in
    let rows = table c.args.decisions.now.rows in
    let old = dates_in c.args.decisions.now.waiting in
    let new = dates_in c.mark_class.new.waiting in
    let number = c.in_ok-number.number in
    let fits : FitsSigned w64 c.args.from = search rules in
    record {
      rows = refl;
      rules = refl;
      number = number;
      numbered = c.in_ok-number.ensures.entered;
      marks = subst (λ z. Marks (present tree) rows (λ i row. IsListedUnder rows number i × IsAsLate (present tree) z row) old new) (to_z-of_z w64 c.args.from fits)
          (none_spared (present tree) rows (IsListedUnder rows number) (to_z w64 (of_z w64 c.args.from)) old new c.in_ok-mark_class.ensures);
    }

pub returns-clause-last : goal.returns-clause-last
returns-clause-last c = record { rows = refl; rules = no_more c.args.decisions.now.rules; classes = c.enter.ensures.more }
