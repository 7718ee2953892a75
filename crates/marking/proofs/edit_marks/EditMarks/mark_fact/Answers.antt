use Rattle.std.proofs.Common.{sym, subst, rules, w64, to_z, of_z}
use Rattle.std.specs.Prelude.{FitsSigned, OnOk}
use Rattle.std.proofs.lemmas.Int.{to_z-of_z}
use Rattle.marking.specs.EditMarks.{Marked, MarksFact}
use Rattle.marking.proofs.Covered.{fact_marked}
use Rattle.marking.proofs.edit_marks.EditMarks.mark_fact.Goals as goal
use Rattle.marking.proofs.edit_marks.EditMarks.mark_fact.Goals.{in-Ok, in-Err}

pub returns : goal.returns
returns c =
    let m : Marked = record { classes = c.self.inside.classes.items; facts = c.self.inside.facts.entries; decided = c.self.inside.decided } in
    let after : Marked = record m { facts = c.insert.new.self.entries } in
    let fits : FitsSigned w64 c.args.from = search rules in
    elim c.match-insert.branch [
      | in-Ok w ↦
          subst (λ r. OnOk r (MarksFact c.args.self.now after c.args.fact c.args.from)) (sym w.result-is)
          (subst (λ z. MarksFact c.args.self.now after c.args.fact z) (to_z-of_z w64 c.args.from fits)
          (subst (λ z. MarksFact z after c.args.fact (to_z w64 (of_z w64 c.args.from))) c.self.view_is
          (fact_marked m c.insert.new.self.entries c.args.fact (to_z w64 (of_z w64 c.args.from)) (λ other. w.in-Ok.ensures.updates.0 other))))
      | in-Err w ↦ subst (λ r. OnOk r (MarksFact c.args.self.now after c.args.fact c.args.from)) (sym w.result-is) tt
    ]
