use Rattle.std.proofs.Common.{◌≡◌, map, Some, refl, subst}
use Rattle.tmm_model.specs.Beliefs.{class_of}
use Rattle.occ_tree.specs.Classes.{place_in}
use Rattle.occ_tree.proofs.Numbered.{no_more}
use Rattle.belief_turns.proofs.rows.heads_of.Goals as goal

pub returns-in_err-number-clause-names : goal.returns-in_err-number-clause-names
returns-in_err-number-clause-names c = record { rules = c.enter.ensures.more; classes = no_more c.args.decisions.now.classes; rows = refl; waiting = refl }

pub returns-clause-heads : goal.returns-clause-heads
returns-clause-heads c = record {
  number = c.in_ok-number.ensures.entered;
  numbers = subst (λ facts. map (λ fact. place_in c.numbers_of.new.classes (class_of c.args.standing.now.present fact)) facts ≡ map Some c.in_ok-classes.classes.items) c.requires.read c.in_ok-classes.ensures.numbers;
  few = c.in_ok-classes.ensures.few;
}
