use Rattle.std.proofs.Common.{◌≡◌, ◌∙◌, ℕ, Bool, true, false, refl, sym, subst, rules, w64, to_z, of_z}
use Rattle.std.proofs.lemmas.Int.{to_z-of_z}
use Rattle.std.proofs.lemmas.Result.{on_ok_weaker}
use Rattle.std.specs.Prelude.{FitsSigned}
use Rattle.tmm_model.specs.Standing.{Standing as List}
use Rattle.spots.specs.Spots.{spot_distance}
use Rattle.undo_rows.specs.Changes.{present as table}
use Rattle.occ_tree.specs.Places.{forest}
use Rattle.occ_tree.specs.Standing.{present, early}
use Rattle.occ_tree.proofs.Numbered.{no_more}
use Rattle.joined.specs.Listed.{IsListedUnder}
use Rattle.marking.specs.EditMarks.{CoversFrom, MarksFrom}
use Rattle.marking.specs.Covered.{Covers}
use Rattle.marking.specs.TokenMarks.{MarksOwn}
use Rattle.belief_table.specs.Marks.{Marks, IsAsLate}
use Rattle.belief_table.specs.Waiting.{dates_in}
use Rattle.bearing.specs.Windows.{IsSparedBy, is_spared, net_in, tree_in}
use Rattle.marking.proofs.Covering.{covered_marks, marks_covered, class_covered}
use Rattle.bearing.proofs.Spared.{spared_by}
use Rattle.marking.proofs.token_moves.mark_own.Goals as goal

pub returns-in_err-number-clause-last : goal.returns-in_err-number-clause-last
returns-in_err-number-clause-last c = record { rows = refl; rules = no_more c.args.decisions.now.rules; classes = c.enter.ensures.more }

pub returns-then-covers-clause-last : goal.returns-then-covers-clause-last
returns-then-covers-clause-last c = record { rows = refl; rules = no_more c.args.decisions.now.rules; classes = c.enter.ensures.more }

pub returns-in_err-many-clause-last : goal.returns-in_err-many-clause-last
returns-in_err-many-clause-last c = record { rows = refl; rules = no_more c.args.decisions.now.rules; classes = c.enter.ensures.more }

pub returns-in_err-window-clause-last : goal.returns-in_err-window-clause-last
returns-in_err-window-clause-last c = record { rows = refl; rules = no_more c.args.decisions.now.rules; classes = c.enter.ensures.more }

pub returns-in_err-mark_class-clause-last : goal.returns-in_err-mark_class-clause-last
returns-in_err-mark_class-clause-last c = record { rows = refl; rules = no_more c.args.decisions.now.rules; classes = c.enter.ensures.more }

pub returns-in_err-mark_class-2-clause-last : goal.returns-in_err-mark_class-2-clause-last
returns-in_err-mark_class-2-clause-last c = record { rows = refl; rules = no_more c.args.decisions.now.rules; classes = c.enter.ensures.more }

pub returns-then-many-clause-last : goal.returns-then-many-clause-last
returns-then-many-clause-last c = record { rows = refl; rules = no_more c.args.decisions.now.rules; classes = c.enter.ensures.more }

pub returns-clause-last : goal.returns-clause-last
returns-clause-last c = record { rows = refl; rules = no_more c.args.decisions.now.rules; classes = c.enter.ensures.more }

-- ---- where the class is marked already

pub returns-then-covers-clause-ok : goal.returns-then-covers-clause-ok
returns-then-covers-clause-ok c =
    let s = present c.args.tree.now in
    let number = c.in_ok-number.number in
    let fits : FitsSigned w64 c.early-from.result = search rules in
    let date = to_z-of_z w64 c.early-from.result fits ∙ c.early-from.ensures.date in
    record {
      rows = refl;
      rules = refl;
      number = number;
      numbered = c.in_ok-number.ensures.entered;
      spares = λ t. false;
      spared = λ t e. absurd (let no : false ≡ true = e in cc);
      marks = covered_marks s c.args.decisions.now c.args.marks.now number (early s c.args.x) c.first.ensures.listed c.requires.covered
          (subst (CoversFrom c.args.marks.now number) date (c.covers.ensures.0 c.if-covers.true));
    }

-- ---- where there were many tokens

pub returns-then-many-clause-ok : goal.returns-then-many-clause-ok
returns-then-many-clause-ok c =
    let s = present c.args.tree.now in
    let rows = table c.args.decisions.now.rows in
    let new = c.mark_class.new.waiting in
    let number = c.in_ok-number.number in
    let fits : FitsSigned w64 c.early-from.result = search rules in
    let date = to_z-of_z w64 c.early-from.result fits ∙ c.early-from.ensures.date in
    let net = c.args.net.now.present in
    on_ok_weaker {P = MarksFrom c.count.new.self c.mark.new.self number (to_z w64 (of_z w64 c.early-from.result))}
    {Q = MarksOwn net c.args.tree.now c.args.moving.now c.args.x c.args.class c.args.decisions.now (record c.args.decisions.now { classes = c.enter.new.self; waiting = new })} c.mark.result
    (λ marked. record {
      rows = refl;
      rules = refl;
      number = number;
      numbered = c.in_ok-number.ensures.entered;
      spares = λ t. false;
      spared = λ t e. absurd (let no : false ≡ true = e in cc);
      marks = subst (λ z. Marks s rows (λ i row. IsListedUnder rows number i × IsAsLate s z row × (◌≡◌ {A = Bool} false false)) (dates_in c.args.decisions.now.waiting) (dates_in new))
          date c.in_ok-mark_class.ensures;
    })
    c.mark.ensures

pub returns-then-many-clause-covered : goal.returns-then-many-clause-covered
returns-then-many-clause-covered c =
    let s = present c.args.tree.now in
    let old = c.args.decisions.now in
    let new = record old { classes = c.enter.new.self; waiting = c.mark_class.new.waiting } in
    let m = c.count.new.self in
    let number = c.in_ok-number.number in
    let from = to_z w64 (of_z w64 c.early-from.result) in
    on_ok_weaker {P = MarksFrom m c.mark.new.self number from} {Q = (list : List) → Covers list s old c.args.marks.now → Covers list s new c.mark.new.self} c.mark.result
    (λ marked list covered. class_covered list s old new m c.mark.new.self number from c.first.ensures.listed refl refl c.in_ok-mark_class.ensures marked (subst (Covers list s old) (sym c.count.ensures) covered))
    c.mark.ensures

-- ---- where there were few

pub mark_class-requires-2-clause-window : goal.mark_class-requires-2-clause-window
mark_class-requires-2-clause-window c = ((c.args.moving.now, c.args.x, c.in_ok-window.ensures.window), c.in_ok-window.ensures.tree)

pub returns-clause-ok : goal.returns-clause-ok
returns-clause-ok c =
    let tree = c.args.tree.now in
    let x = c.args.x in
    let rows = table c.args.decisions.now.rows in
    let number = c.in_ok-number.number in
    let w = c.in_ok-window.window in
    let spares : ℕ → Bool = λ t. is_spared (spot_distance (net_in w) (forest (tree_in w))) w.token w.walls.items t in
    let fits : FitsSigned w64 c.early-from.result = search rules in
    record {
      rows = refl;
      rules = refl;
      number = number;
      numbered = c.in_ok-number.ensures.entered;
      spares = spares;
      spared = λ t e. subst (λ net. IsSparedBy net (forest tree) c.args.moving.now x t) c.in_ok-window.ensures.net
          (subst (λ k. IsSparedBy (net_in w) (forest k) c.args.moving.now x t) c.in_ok-window.ensures.tree (spared_by c.args.moving.now x w c.in_ok-window.ensures.window t e));
      marks = subst (λ z. Marks (present tree) rows (λ i row. IsListedUnder rows number i × IsAsLate (present tree) z row × (spares row.value.trigger ≡ false)) (dates_in c.args.decisions.now.waiting) (dates_in c.mark_class-2.new.waiting))
          (to_z-of_z w64 c.early-from.result fits ∙ c.early-from.ensures.date) c.in_ok-mark_class-2.ensures;
    }

pub returns-clause-covered : goal.returns-clause-covered
returns-clause-covered c =
    let s = present c.args.tree.now in
    let old = c.args.decisions.now in
    let rows = table old.rows in
    let w = c.in_ok-window.window in
    let spares : ℕ → Bool = λ t. is_spared (spot_distance (net_in w) (forest (tree_in w))) w.token w.walls.items t in
    λ list covered. marks_covered list s old (record old { classes = c.enter.new.self; waiting = c.mark_class-2.new.waiting }) c.count.new.self
    (λ i row. IsListedUnder rows c.in_ok-number.number i × IsAsLate s (to_z w64 (of_z w64 c.early-from.result)) row × (spares row.value.trigger ≡ false)) refl refl c.in_ok-mark_class-2.ensures (subst (Covers list s old) (sym c.count.ensures) covered)
