-- How many decisions are counted.
use Rattle.std.proofs.Common.{◌≡◌, ◌∙◌, ℕ, suc, ◌+◌, ◌≤◌, true, cond, List, ◌∷◌, length, refl, sym, ap, subst, inl, inr, arith}
use Rattle.std.specs.Prelude.{◌≤ℤ◌, min, is_some}
use Rattle.tmm_model.specs.declared.premise.Edit.{Edit}
use Rattle.tmm_model.specs.Edits.{next_list}
use Rattle.tmm_model.specs.Maps.{built}
use Rattle.tmm_model.specs.Moments.{Moment}
use Rattle.tmm_model.specs.Standing.{Standing}
use Rattle.list_theory.proofs.Distinct.{sum_inside}
use Rattle.list_theory.proofs.Elements.{In}
use Rattle.belief_theory.specs.Outcomes.{decisions}
use Rattle.belief_theory.specs.Touched.{touched}
use Rattle.dist_net.specs.Net.{Net}
use Rattle.spots.specs.Forest.{Forest, moment_at}
use Rattle.occ_tree.specs.Places.{forest}
use Rattle.revisions.specs.Keeping.{IsLeast}
use Rattle.revisions.specs.Maps.{revision}
use Rattle.revisions.specs.Revisions.{Revision}
use Rattle.revisions.proofs.Bounds.{decisions_each}
use Rattle.revisions.proofs.Counting.{count_all}
use Rattle.revisions.proofs.Lawful.{lawful}
use Rattle.revisions.proofs.Turning.{now_believed, touched_now}
use Rattle.joined.specs.Rows.{IsWaiting}
use Rattle.belief_table.specs.declared.state.Beliefs.{Beliefs}
use Rattle.belief_table.specs.Decided.{rule_in}
use Rattle.belief_turns.specs.Moving.{date_at}
use Rattle.belief_turns.specs.Settling.{counted}
use Rattle.belief_turns.specs.Turning.{rows_of, IsFit, IsUnderway}
use Rattle.belief_turns.specs.Turns.{IsFirst, one_more, CountsOne}
use Rattle.belief_table.specs.Waiting.{dates_in}
use Rattle.belief_turns.proofs.Turned.{seen_row, row_there, row_waits, waits_at}

-- ---- what is due first is touched, and not made yet

module _ (old : Standing) (edit : Edit) (net : Net) (b : Beliefs) (taken : List (Moment × List ℕ)) (fit : IsFit (next_list old edit) net b) (k : IsUnderway old edit net b taken)
    (first : IsFirst (dates_in b.decisions.waiting)) where
  abbrev new : Standing
  new = next_list old edit

  abbrev R : Revision
  R = revision (built old) (built (next_list old edit))

  abbrev f : Forest
  f = forest b.tree

  least_counted : length taken + 1 ≤ touched old (next_list old edit)
  least_counted =
      let (i, date, at, least) = first in
      let (row, there, is) = fit.dated i date at in
      let t = moment_at f row.value.trigger in
      let r = rule_in b.decisions row in
      let n = k.netted in
      let laws = lawful old edit k.sound k.sound_after in
      let date_is = waits_at new net b fit i row date there at in
      let due : IsLeast R (IsWaiting (forest b.tree) (rows_of b)) t r = record {
        waits = (i, seen_row b i row, row_there b i row there, ap is_some at, refl, refl);
        least = λ u q (j, o, at_o, waits_o, same, named).
            let (date_o, here, of_o) = row_waits new net b fit j o at_o waits_o in
            subst (λ z. date_at new t ≤ℤ date_at new z) same (subst (λ z. z ≤ℤ date_at new (moment_at f o.trigger)) date_is (subst (λ z. date ≤ℤ z) of_o (least j date_o here)));
      } in
      let believed = now_believed R laws n.nodes n.kept (IsWaiting f (rows_of b)) taken n.date n.keeping t r due in
      let is_touched = touched_now R laws n.nodes n.kept (IsWaiting f (rows_of b)) taken n.date n.keeping t r due in
      let stands = (n.keeping.waits t r due.waits).stands in
      let all = decisions new (built new).believed in
      let each = count_all (λ (e : Moment × List ℕ). R.touched e.0 e.1) ((t, r) ∷ taken) (λ e here. elim here [
        | inl same ↦ subst (λ (z : Moment × List ℕ). R.touched z.0 z.1 ≡ true) same is_touched
        | inr made ↦ (n.keeping.made e.0 e.1 made).touched
      ]) in
      let inside = sum_inside (λ (e : Moment × List ℕ). cond (R.touched e.0 e.1) 1 0) ((t, r) ∷ taken) all ((λ made. (n.keeping.made t r made).gone due.waits), n.keeping.once) (λ e here. elim here [
        | inl same ↦ subst (λ z. In z all) same ((decisions_each new k.sound_after t r).1 (believed, stands))
        | inr made ↦ (let m = n.keeping.made e.0 e.1 made in (decisions_each new k.sound_after e.0 e.1).1 (m.believed, m.stands))
      ]) in
      omega (arith, each, inside)

pub first_counted : (s : Standing) (net : Net) (b : Beliefs) → IsFit s net b → IsFirst (dates_in b.decisions.waiting)
    → (old : Standing) (edit : Edit) (taken : List (Moment × List ℕ)) → next_list old edit ≡ s → IsUnderway old edit net b taken
    → length taken + 1 ≤ touched old (next_list old edit)
first_counted s net b fit first old edit taken list k = least_counted old edit net b taken (subst (λ l. IsFit l net b) (sym list) fit) k first

-- ---- counts up to the greatest

pub counted_more : (before made : ℕ) → one_more (counted before made) ≡ counted before (suc made)
counted_more before made = by before made (suc made) refl
  where
    by : (a n m : ℕ) → m ≡ suc n → min (min (a + n) 18446744073709551615 + 1) 18446744073709551615 ≡ min (a + m) 18446744073709551615
    by a n m is = omega (arith, is)

pub counted_below : (before made most : ℕ) → made ≤ most → counted before made ≤ counted before most
counted_below before made most less = omega (arith, less)

pub counted_none : (before : ℕ) → before ≤ 18446744073709551615 → before ≡ counted before 0
counted_none before few = omega (arith, few)

-- a turn that ends without its work counts no more than is touched
pub counts_within : (before made most count_before count : ℕ) (b : Beliefs) → count_before ≡ counted before made → made ≤ most
    → (IsFirst (dates_in b.decisions.waiting) → made + 1 ≤ most) → CountsOne b count_before count → count ≤ counted before most
counts_within before made most count_before count b is within more (inl (same, none)) = subst (λ n. n ≤ counted before most) (sym (same ∙ is)) (counted_below before made most within)
counts_within before made most count_before count b is within more (inr (one, first)) =
    subst (λ n. n ≤ counted before most) (sym (one ∙ ap one_more is ∙ counted_more before made)) (counted_below before (suc made) most (let h = more first in omega (arith, h)))
