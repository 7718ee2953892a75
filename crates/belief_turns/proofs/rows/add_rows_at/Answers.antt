use Rattle.std.proofs.Common.{◌≡◌, ◌∙◌, ◌+◌, [], ◌∷◌, ◌++◌, get_or, map, take, sym, ap, subst, w64, to_z, of_z, rules, arith}
use Rattle.std.specs.Prelude.{Some, slice_get, FitsSigned}
use Rattle.std.proofs.lemmas.Int.{to_z-of_z}
use Rattle.std.proofs.lemmas.Option.{slice_get-get_or}
use Rattle.std.proofs.lemmas.List.{get_or_default, map-append, take_all}
use Rattle.supports.proofs.Taken.{next_taken}
use Rattle.projection.specs.Places.{name_at}
use Rattle.belief_table.specs.Decided.{AddsRows}
use Rattle.belief_turns.proofs.Entered.{adds_more}
use Rattle.belief_turns.proofs.OnKinds.{places_apart}
use Rattle.belief_table.proofs.Named.{last_on}
use Rattle.belief_turns.proofs.rows.add_rows_at.Goals as goal

pub loop-place-preserved : goal.loop-place-preserved
loop-place-preserved c =
    let s = c.args.standing.now.present in
    let places = c.args.places.now in
    let i = c.loop-place.place-index in
    let place = get_or places i 0 in
    let at : slice_get places i ≡ Some place = slice_get-get_or places i 0 c.loop-place-test.true in
    let old = c.args.decisions.now in
    let mid = c.loop-place.decisions in
    let new = c.add_row_at.new.decisions in
    let z = to_z w64 (of_z w64 c.args.date) in
    let more : map (name_at s) (take (i + 1) places) ≡ map (name_at s) (take i places) ++ name_at s place ∷ [] =
    ap (map (name_at s)) (next_taken places i place c.loop-place-test.true (get_or_default places i 0 place c.loop-place-test.true)) ∙ map-append (name_at s) (take i places) (place ∷ []) in
    record {
      adds = subst (λ l. AddsRows l c.args.event z old new) (sym more)
          (adds_more s c.args.event z (map (name_at s) (take i places)) (name_at s place ∷ []) old mid new c.loop-place.invariant.under
          c.in_ok-add_row_at.ensures.last c.loop-place.invariant.adds c.in_ok-add_row_at.ensures.adds (places_apart (name_at s) places i place at c.requires.once));
      under = c.in_ok-add_row_at.ensures.under;
      last = last_on old mid new c.loop-place.invariant.last c.in_ok-add_row_at.ensures.last;
    }

pub returns-clause-adds : goal.returns-clause-adds
returns-clause-adds c =
    let s = c.args.standing.now.present in
    let places = c.args.places.now in
    let i = c.loop-place.place-index in
    let fits : FitsSigned w64 c.args.date = search rules in
    let all : take i places ≡ places = take_all i places (omega (arith, c.loop-place-test.false)) in
    subst (λ l. AddsRows (map (name_at s) l) c.args.event c.args.date c.args.decisions.now c.loop-place.decisions) all
    (subst (λ z. AddsRows (map (name_at s) (take i places)) c.args.event z c.args.decisions.now c.loop-place.decisions) (to_z-of_z w64 c.args.date fits) c.loop-place.invariant.adds)
