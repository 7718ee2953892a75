use Rattle.std.proofs.Common.{◌≡◌, ◌∙◌, suc, ◌-◌, ◌<◌, length, map, sym, ap, subst, arith}
use Rattle.std.specs.Prelude.{filter}
use Rattle.tmm_model.specs.Bounds.{lesser}
use Rattle.tmm_model.specs.Maps.{built}
use Rattle.timeline.specs.Calendars.{rows_on, comes_from}
use Rattle.timeline.specs.Days.{played}
use Rattle.timeline.specs.Entries.{AddsEntries}
use Rattle.timeline.specs.Rows.{moment, AreRowsOf}
use Rattle.timeline.specs.Until.{least_by, coming_bound, row_bound, until_later, until_row}
use Rattle.timeline.proofs.Calendars.{rows_on-index}
use Rattle.timeline.proofs.Gathered.{IsGathered, gathered_later, gathered_day, all_gathered}
use Rattle.timeline.proofs.listing.entries.Goals as goal

pub loop-back-init : goal.loop-back-init
loop-back-init c = record {
  gathered = λ sound d is. (
      let s = c.args.standing.now.present in
      let later = c.args.calendar.now.later.items in
      let new = c.add_later.new.entries.items in
      let first : suc s.horizon ≡ d = omega arith in
      subst (λ n. IsGathered s sound n c.note_all.new.coming.items new) first (gathered_later s sound later c.note_all.new.coming.items new
      c.requires.played.rows.later
      (c.requires.played.later ∙ ap (λ n. filter (comes_from (built s) n) (played (built s))) c.requires.played.len)
      (λ q. c.in_ok-note_all.ensures q ∙ (λ i. lesser (least_by (row_bound q) (c.as_slice-2.ensures.value i)) (least_by (coming_bound q) (c.new-coming.ensures.items i))))
      (subst (λ l. AddsEntries later (until_later s later) l new) c.new-entries.ensures.items (subst (λ l. AddsEntries l (until_later s l) c.new-entries.result.items new) c.as_slice.ensures.value c.in_ok-add_later.ensures))));
}

pub loop-back-preserved : goal.loop-back-preserved
loop-back-preserved c = record {
  gathered = λ sound d is. (
      let s = c.args.standing.now.present in
      let days = c.args.calendar.now.days.items in
      let rows = c.as_slice-rows.result.now in
      let new = c.add_day.new.entries.items in
      let count : c.len-count.result ≡ suc s.horizon = omega (arith, c.len-count.ensures, c.requires.played.len) in
      let below : d < length days = omega (arith, c.requires.played.len) in
      let on : c.len-count.result - 1 - c.loop-back.back ≡ d = omega (arith, count) in
      let inside : c.len-count.result - 1 - c.loop-back.back < length days = omega (arith, on, below) in
      let here : rows ≡ rows_on days d = c.as_slice-rows.ensures.value ∙ rows_on-index days (c.len-count.result - 1 - c.loop-back.back) c.index.result.now inside c.index.ensures ∙ ap (rows_on days) on in
      gathered_day s sound d rows c.loop-back.coming.items c.note_all-in-loop-back.new.coming.items c.loop-back.entries.items new
      (subst (AreRowsOf (built s)) (sym here) (c.requires.played.rows.days d))
      (ap (map moment) here ∙ c.requires.played.days d below)
      (c.loop-back.invariant.gathered sound (suc d) (omega arith))
      (subst (λ l. AddsEntries rows (until_row s l) c.loop-back.entries.items new) c.as_slice-in-loop-back.ensures.value c.in_ok-add_day.ensures)
      c.in_ok-note_all-2.ensures);
}

pub returns : goal.returns
returns c =
    let s = c.args.standing.now.present in
    let sound = c.requires.kept.sound in
    let count : c.len-count.result ≡ suc s.horizon = omega (arith, c.len-count.ensures, c.requires.played.len) in
    all_gathered s sound c.loop-back.coming.items c.loop-back.entries.items (c.loop-back.invariant.gathered sound 0 (omega (arith, count)))
