use Rattle.std.proofs.Common.{ℕ, List, arith, ◌++◌, [], ◌∷◌}
use Rattle.undo_rows.proofs.Undoing.{LeadsBack-then}
use Rattle.undo_rows.specs.Tables.{head_in}
use Rattle.undo_rows.proofs.Lists.{AreChanged-next}
use Rattle.undo_rows.proofs.steps.link_all.Goals as goal

pub loop-family-preserved : goal.loop-family-preserved
loop-family-preserved g c =
    let f = c.loop-family.family in
    let now = c.loop-family.links in
    let new = c.link_under.new.links in
    let change : List ℕ → List ℕ = λ rows. rows ++ c.args.x ∷ [] in
    record {
      lists = AreChanged-next c.args.links.now now new (head_in c.args.heads.now) change f c.loop-family.invariant.lists
          (λ h. c.link_under.ensures.own h)
          c.link_under.ensures.others;
      back = LeadsBack-then c.args.links.now now new c.args.log.now.items c.loop-family.log.items c.link_under.new.log.items c.loop-family.invariant.back c.link_under.ensures.back;
      spare = omega arith;
    }
