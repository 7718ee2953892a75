-- What is kept of a list in which nothing is declared to occur.
use Rattle.std.proofs.Common.{◌≡◌, ◌∙◌, ℕ, List, [], Option, Some, None, sym, ap}
use Rattle.std.specs.Prelude.{ℤ}
use Rattle.std.specs.Option.{option_map}
use Rattle.spots.specs.Forest.{member}
use Rattle.spots.proofs.Nodes.{node_at}
use Rattle.spots.proofs.Grown.{seen_first}
use Rattle.undo_rows.specs.Changes.{present as rows_now, committed as rows_then}
use Rattle.occ_tree.specs.Places.{forest}
use Rattle.occ_tree.specs.Standing.{present, committed}
use Rattle.joined.specs.Rows.{as_row}
use Rattle.joined.proofs.Netted.{nothing_current}
use Rattle.belief_table.specs.declared.state.Beliefs.{Beliefs}
use Rattle.belief_table.specs.Decided.{table_of}
use Rattle.belief_table.specs.Numbers.{name_in}
use Rattle.belief_turns.specs.Turning.{rows_of}
use Rattle.belief_net.specs.Updating.{KeepsNothing}
use Rattle.belief_table.specs.Waiting.{dates_in, waits_in}

none_some : {X : Type 0} (x : X) → None ≡ Some x → ⊥
none_some x e = cc

pub nothing_kept : (b : Beliefs) → ((x : ℕ) → member (forest b.tree) x ≡ None) → ((i : ℕ) → (table_of b.decisions).row i ≡ None) → b.decisions.waiting ≡ []
    → committed b.tree ≡ present b.tree → rows_then b.decisions.rows ≡ rows_now b.decisions.rows → KeepsNothing b
nothing_kept b no_node no_row no_wait tree rows = λ s net network none. record {
  fit = record {
    tree = record {
      seen = seen_first s net (forest b.tree) network no_node;
      dated = λ x live. (let (m, at) = node_at (forest b.tree) x live in absurd (none_some m (sym (no_node x) ∙ at)));
    };
    events = λ i row at. absurd (none_some row (sym (no_row i) ∙ at));
    under = record {
      classes = λ i row at. absurd (none_some row (sym (no_row i) ∙ at));
      named = λ i row at. absurd (none_some row (sym (no_row i) ∙ at));
    };
    dated = λ i date at. absurd (none_some date (sym (rests i) ∙ at));
  };
  current = nothing_current s net (forest b.tree) (rows_of b) network none no_node
      (λ i. ap (option_map (as_row (name_in b.decisions.rules) (waits_in b.decisions.waiting i))) (no_row i));
  none_waits = rests;
  tree = tree;
  rows = rows;
}
  where
    rests : (i : ℕ) → dates_in b.decisions.waiting i ≡ None
    rests i = ap (λ (l : List (Option ℤ)). dates_in l i) no_wait
