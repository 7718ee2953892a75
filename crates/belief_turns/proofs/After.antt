-- What holds once the row that is due first is decided.
use Rattle.std.proofs.Common.{◌≡◌, ◌∙◌, ◌≤◌, true, false, Some, sym, ap, subst}
use Rattle.tmm_model.specs.Moments.{After}
use Rattle.tmm_model.specs.Standing.{Standing}
use Rattle.belief_theory.specs.KeptLists.{last_horizon}
use Rattle.dist_net.specs.Net.{Net}
use Rattle.spots.specs.Forest.{member, moment_at}
use Rattle.spots.specs.Growing.{MayEnter}
use Rattle.occ_tree.specs.Places.{forest}
use Rattle.occ_tree.specs.Standing.{Kept}
use Rattle.joined.specs.Rows.{fires_by}
use Rattle.joined.proofs.Entering.{effect_there, may_enter}
use Rattle.belief_turns.specs.declared.deciding.Due.{Due}
use Rattle.belief_table.specs.declared.state.Beliefs.{Beliefs}
use Rattle.belief_turns.specs.Turning.{rows_of, IsFit, IsDecided}
use Rattle.belief_turns.specs.Turns.{IsAfter, HasEffect}
use Rattle.belief_turns.proofs.Turned.{seen_row, row_there, fit_decided, found_right}

module _ (s : Standing) (net : Net) (b c : Beliefs) (due : Due) (after : IsAfter s net b c due) where
  abbrev d : IsDecided s b c due
  d = after.decided

  pub fit_after : IsFit s net c
  fit_after = fit_decided s net b c due after.fit after.decided

  pub there_after : fires_by due.before ≡ true → HasEffect c.tree due.trigger due.rule
  there_after fired =
      let r = after.revising in
      let (y, m, at, is) = effect_there r.old r.edit net (forest b.tree) (rows_of b) r.taken due.row (seen_row b due.row d.row) r.underway.netted (row_there b due.row d.row d.at) (ap fires_by d.before ∙ fired) in
      (y, m, subst (λ (t : Kept). member (forest t) y ≡ Some m) (sym d.tree) at, is ∙ (λ i. After (moment_at (forest (sym d.tree i)) (d.trigger i)) (d.rule i)))

  pub enters_after : s.horizon ≤ last_horizon → fires_by due.found ≡ true → fires_by due.before ≡ false → MayEnter s (forest c.tree) due.trigger due.rule
  enters_after small now before =
      let r = after.revising in
      let right = found_right s net b c due after.fit after.decided r.old r.edit r.taken r.list r.underway in
      let enters = may_enter r.old r.edit net (forest b.tree) (rows_of b) r.taken due.row (seen_row b due.row d.row) due.found r.underway.sound_after (subst (λ (l : Standing). l.horizon ≤ last_horizon) (sym r.list) small)
      r.underway.netted (row_there b due.row d.row d.at) right now (ap fires_by d.before ∙ before) in
      subst (λ (t : Kept). MayEnter s (forest t) due.trigger due.rule) (sym d.tree)
      (subst (λ x. MayEnter s (forest b.tree) x due.rule) d.trigger
      (subst (MayEnter s (forest b.tree) d.row.value.trigger) d.rule
      (subst (λ l. MayEnter l (forest b.tree) d.row.value.trigger (seen_row b due.row d.row).rule) r.list enters)))
