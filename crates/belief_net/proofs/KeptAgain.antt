-- Nodes and rows that a commit or a rollback makes those of the last commit.
use Rattle.std.proofs.Common.{◌≡◌, ◌∙◌, ℕ, ◌+◌, ◌<◌, List, length, Option, Some, None, refl, sym, ap, subst, arith}
use Rattle.std.proofs.lemmas.List.{length-append}
use Rattle.std.specs.Prelude.{is_some}
use Rattle.std.specs.Option.{option_map}
use Rattle.tmm_model.specs.Standing.{Standing}
use Rattle.dist_net.specs.Net.{Net}
use Rattle.spots.specs.Forest.{IsLive}
use Rattle.spots.specs.OfLists.{IsForestOf}
use Rattle.undo_rows.specs.declared.row.Row.{Row as TableRow}
use Rattle.undo_rows.specs.Changes.{present as rows_now, committed as rows_then}
use Rattle.undo_rows.specs.Tables.{Table}
use Rattle.decision_rows.specs.declared.row.Pair.{Pair}
use Rattle.occ_tree.specs.Classes.{HaveMore}
use Rattle.occ_tree.specs.Dated.{IsDatedBy}
use Rattle.occ_tree.specs.Places.{forest}
use Rattle.occ_tree.specs.Standing.{State, present, committed, forest as forest_of}
use Rattle.joined.specs.Netted.{IsCurrent}
use Rattle.joined.specs.Rows.{Rows, as_row}
use Rattle.belief_table.specs.declared.state.Beliefs.{Beliefs}
use Rattle.belief_table.specs.Decided.{table_of}
use Rattle.belief_table.specs.Numbers.{name_in}
use Rattle.belief_turns.specs.Turning.{rows_of, IsFit}
use Rattle.belief_net.specs.Updating.{IsKept}
use Rattle.belief_table.specs.Waiting.{dates_in, waits_in}
use Rattle.belief_table.proofs.Named.{under_more, name_stays}

none_some : {X : Type 0} (x : X) → None ≡ Some x → ⊥
none_some x e = cc

-- a number that was given is still one of those that were
pub named_more : (old new : List (List ℕ)) (k : ℕ) → HaveMore old new → k < length old → k < length new
named_more old new k (more, is) within =
    let size : length new ≡ length old + length more = ap length is ∙ length-append old more in
    omega (arith, within, size)

-- the nodes and rows of r are those of b, which are those of the list, and are committed
module _ (s : Standing) (net : Net) (b r : Beliefs) (fit : IsFit s net b) (current : IsCurrent s net (forest b.tree) (rows_of b)) (rested : (i : ℕ) → dates_in b.decisions.waiting i ≡ None)
    (same_tree : present r.tree ≡ present b.tree) (same_rows : table_of r.decisions ≡ table_of b.decisions)
    (rules : HaveMore b.decisions.rules r.decisions.rules) (classes : HaveMore b.decisions.classes r.decisions.classes) (rests : (i : ℕ) → dates_in r.decisions.waiting i ≡ None)
    (tree_then : committed r.tree ≡ present r.tree) (table_then : rows_then r.decisions.rows ≡ rows_now r.decisions.rows) where
  was : (i : ℕ) (row : TableRow Pair 8) → (table_of r.decisions).row i ≡ Some row → (table_of b.decisions).row i ≡ Some row
  was i row at = ap (λ (t : Table Pair 8). t.row i) (sym same_rows) ∙ at

  fit_again : IsFit s net r
  fit_again = record {
    tree = record {
      seen = subst (λ (k : State). IsForestOf s net (forest_of k)) (sym same_tree) fit.tree.seen;
      dated = subst (IsDatedBy net) (sym same_tree) fit.tree.dated;
    };
    events = λ i row at. subst (λ (k : State). IsLive (forest_of k) row.value.trigger) (sym same_tree) (fit.events i row (was i row at));
    under = record {
      classes = λ i row at. under_more s b.decisions.rules r.decisions.rules b.decisions.classes r.decisions.classes row rules classes (fit.under.named i row (was i row at)) (fit.under.classes i row (was i row at));
      named = λ i row at. named_more b.decisions.rules r.decisions.rules row.value.rule rules (fit.under.named i row (was i row at));
    };
    dated = λ i date at. absurd (none_some date (sym (rests i) ∙ at));
  }

  row_same : (i : ℕ) → rows_of r i ≡ rows_of b i
  row_same i = ap (λ (t : Table Pair 8). option_map (as_row (name_in r.decisions.rules) (waits_in r.decisions.waiting i)) (t.row i)) same_rows ∙ by ((table_of b.decisions).row i) refl
    where
      waits_same : waits_in r.decisions.waiting i ≡ waits_in b.decisions.waiting i
      waits_same = ap is_some (rests i) ∙ sym (ap is_some (rested i))

      by : (o : Option (TableRow Pair 8)) → (table_of b.decisions).row i ≡ o
          → option_map (as_row (name_in r.decisions.rules) (waits_in r.decisions.waiting i)) ((table_of b.decisions).row i) ≡ option_map (as_row (name_in b.decisions.rules) (waits_in b.decisions.waiting i)) ((table_of b.decisions).row i)
      by None is = ap (option_map (as_row (name_in r.decisions.rules) (waits_in r.decisions.waiting i))) is ∙ sym (ap (option_map (as_row (name_in b.decisions.rules) (waits_in b.decisions.waiting i))) is)
      by (Some row) is =
          let named : name_in r.decisions.rules row.value.rule ≡ name_in b.decisions.rules row.value.rule = name_stays b.decisions.rules r.decisions.rules row.value.rule rules (fit.under.named i row is) in
          let one : as_row (name_in r.decisions.rules) (waits_in r.decisions.waiting i) row ≡ as_row (name_in b.decisions.rules) (waits_in b.decisions.waiting i) row =
          λ j. record { trigger = row.value.trigger; rule = named j; found = row.value.decision; waits = waits_same j } in
          ap (option_map (as_row (name_in r.decisions.rules) (waits_in r.decisions.waiting i))) is ∙ ap Some one ∙ sym (ap (option_map (as_row (name_in b.decisions.rules) (waits_in b.decisions.waiting i))) is)

  rows_same : rows_of r ≡ rows_of b
  rows_same = λ j i. row_same i j

  pub kept_again : IsKept s net r
  kept_again = record {
    fit = fit_again;
    current = subst (λ (rows : Rows). IsCurrent s net (forest r.tree) rows) (sym rows_same) (subst (λ (k : State). IsCurrent s net (forest_of k) (rows_of b)) (sym same_tree) current);
    none_waits = rests;
    tree = tree_then;
    rows = table_then;
  }
