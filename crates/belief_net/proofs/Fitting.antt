-- Nodes and rows stay fit where a node enters, where rows enter at it, and where rows are let wait.
use Rattle.std.proofs.Common.{◌≡◌, ◌∙◌, ℕ, List, Some, sym, ap, subst, inl, inr, ◌⊎◌}
use Rattle.tmm_model.specs.Standing.{Standing}
use Rattle.dist_net.specs.Net.{Net}
use Rattle.spots.specs.Forest.{IsLive}
use Rattle.spots.proofs.Nodes.{live_at}
use Rattle.undo_rows.specs.declared.row.Row.{Row as TableRow}
use Rattle.decision_rows.specs.declared.row.Pair.{Pair}
use Rattle.occ_tree.specs.OfLists.{IsTreeOf}
use Rattle.occ_tree.specs.Places.{forest}
use Rattle.occ_tree.specs.Standing.{Kept, present, early}
use Rattle.belief_table.specs.declared.state.Beliefs.{Beliefs}
use Rattle.belief_table.specs.declared.state.Decisions.{Decisions}
use Rattle.belief_net.specs.Adding.{AddsRule}
use Rattle.belief_table.specs.Decided.{table_of, AreUnder, AddsRows}
use Rattle.belief_table.specs.Marks.{Marks, WaitsAt}
use Rattle.belief_turns.specs.Turning.{IsFit}
use Rattle.belief_table.specs.Waiting.{dates_in}

module _ (s : Standing) (net : Net) (b : Beliefs) (fit : IsFit s net b) where
  pub fit_grown : (t : Kept) → IsTreeOf s net t → ((x : ℕ) → IsLive (forest b.tree) x → IsLive (forest t) x)
      → ((x : ℕ) → IsLive (forest b.tree) x → early (present t) x ≡ early (present b.tree) x) → IsFit s net (record b { tree = t })
  fit_grown t of live dates = record {
    tree = of;
    events = λ i row at. live row.value.trigger (fit.events i row at);
    under = fit.under;
    dated = λ i date at. let (row, there, is) = fit.dated i date at in (row, there, is ∙ sym (dates row.value.trigger (fit.events i row there)));
  }

  -- other rows and dates, on the same nodes
  pub fit_only : (d : Decisions) (P : ℕ → TableRow Pair 8 → Type 0) → d.rows ≡ b.decisions.rows → AreUnder s d
      → ((i : ℕ) → (dates_in d.waiting i ≡ dates_in b.decisions.waiting i)
      ⊎ ((row : TableRow Pair 8) × ((table_of b.decisions).row i ≡ Some row) × P i row × WaitsAt (present b.tree) (dates_in d.waiting) i row))
      → IsFit s net (record b { decisions = d })
  fit_only d P rows under only = record {
    tree = fit.tree;
    events = λ i row at. fit.events i row (was i row at);
    under = under;
    dated = λ i date at. elim (only i) [
      | inl same ↦ (let (row, there, is) = fit.dated i date (sym same ∙ at) in (row, is_there i row there, is))
      | inr marked ↦ (
          let both : Some (early (present b.tree) marked.0.value.trigger) ≡ Some date = sym marked.3 ∙ at in
          let one : early (present b.tree) marked.0.value.trigger ≡ date = cc in
          (marked.0, is_there i marked.0 marked.1, sym one))
    ];
  }
    where
      was : (i : ℕ) (row : TableRow Pair 8) → (table_of d).row i ≡ Some row → (table_of b.decisions).row i ≡ Some row
      was i row at = ap (λ rs. (table_of (record b.decisions { rows = rs })).row i) (sym rows) ∙ at

      is_there : (i : ℕ) (row : TableRow Pair 8) → (table_of b.decisions).row i ≡ Some row → (table_of d).row i ≡ Some row
      is_there i row at = ap (λ rs. (table_of (record b.decisions { rows = rs })).row i) rows ∙ at

  pub fit_marked : (d : Decisions) (P : ℕ → TableRow Pair 8 → Type 0) → d.rows ≡ b.decisions.rows → AreUnder s d
      → Marks (present b.tree) (table_of b.decisions) P (dates_in b.decisions.waiting) (dates_in d.waiting) → IsFit s net (record b { decisions = d })
  fit_marked d P rows under marks = fit_only d P rows under marks.only

  pub fit_with_rows : (d : Decisions) (rules : List (List ℕ)) (y : ℕ) → IsLive (forest b.tree) y → AddsRows rules y (early (present b.tree) y) b.decisions d → AreUnder s d
      → IsFit s net (record b { decisions = d })
  fit_with_rows d rules y live adds under = record {
    tree = fit.tree;
    events = λ i row at. elim (adds.each i) [
      | inl same ↦ fit.events i row (sym same.row ∙ at)
      | inr added ↦ (
          let both : Some added.0 ≡ Some row = sym added.1.there ∙ at in
          let one : added.0 ≡ row = cc in
          subst (IsLive (forest b.tree)) (sym added.1.at_event ∙ ap (λ (z : TableRow Pair 8). z.value.trigger) one) live)
    ];
    under = under;
    dated = λ i date at. elim (adds.each i) [
      | inl same ↦ (let (row, there, is) = fit.dated i date (sym same.waits ∙ at) in (row, same.row ∙ there, is))
      | inr added ↦ (
          let both : Some (early (present b.tree) y) ≡ Some date = sym added.1.waits ∙ at in
          let one : early (present b.tree) y ≡ date = cc in
          (added.0, added.1.there, sym one ∙ ap (early (present b.tree)) (sym added.1.at_event)))
    ];
  }

  pub fit_with_rule : (d : Decisions) (rule kind : List ℕ) → AddsRule b.tree rule kind b.decisions d → AreUnder s d → IsFit s net (record b { decisions = d })
  fit_with_rule d rule kind adds under = record {
    tree = fit.tree;
    events = λ i row at. elim (adds.each i) [
      | inl same ↦ fit.events i row (sym same.row ∙ at)
      | inr (x, other, is, added, named) ↦ (
          let both : Some other ≡ Some row = sym added.there ∙ at in
          let one : other ≡ row = cc in
          subst (IsLive (forest b.tree)) (sym added.at_event ∙ ap (λ (z : TableRow Pair 8). z.value.trigger) one) (live_at (forest b.tree) x is.node is.at))
    ];
    under = under;
    dated = λ i date at. elim (adds.each i) [
      | inl same ↦ (let (row, there, is) = fit.dated i date (sym same.waits ∙ at) in (row, same.row ∙ there, is))
      | inr (x, other, event, added, named) ↦ (
          let both : Some (early (present b.tree) x) ≡ Some date = sym added.waits ∙ at in
          let one : early (present b.tree) x ≡ date = cc in
          (other, added.there, sym one ∙ ap (early (present b.tree)) (sym added.at_event)))
    ];
  }
