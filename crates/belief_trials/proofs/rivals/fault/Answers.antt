use Rattle.std.proofs.Common.{◌≡◌, List, [], ◌∷◌, slice_index_or, subst, sym, w32, to_z, of_z}
use Rattle.tmm_model.specs.declared.token.TokenRow.{TokenRow}
use Rattle.clipping.specs.Across.{list_at, all_of}
use Rattle.clipping.specs.Rivals.{of_rivals}
use Rattle.belief_trials.specs.Dates.{Date, date_far}
use Rattle.belief_trials.specs.Pairs.{are_pair}
use Rattle.belief_trials.proofs.Unheld.{unheld}
use Rattle.belief_trials.proofs.rivals.fault.Goals as goal

pub blame-requires-clause-no_supporter : goal.blame-requires-clause-no_supporter
blame-requires-clause-no_supporter c x at =
    let lists : List (List (TokenRow Date)) = c.args.tokens.now.door.now ∷ c.args.tokens.now.lock.now ∷ [] in
    let row = c.in_ok-token.token.now in
    let read : row ≡ slice_index_or (list_at lists c.args.k.list) c.args.k.at row = subst (λ (xs : List (TokenRow Date)). row ≡ slice_index_or xs c.args.k.at row) c.list.ensures c.in_ok-token.ensures.lookup.1 in
    unheld (of_rivals (are_pair c.args.pair.now.one c.args.pair.now.other)) date_far (all_of lists) (list_at lists c.args.k.list) c.args.k.at row x (0, to_z w32 (of_z w32 c.args.p), 8) (0, to_z w32 (of_z w32 c.args.q), 8) read at (sym c.if-is_held.ensures)
