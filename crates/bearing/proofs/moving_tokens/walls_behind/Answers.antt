use Rattle.std.proofs.Common.{◌≡◌, ◌<◌, ℕ, false, List, Option, Some, None, length, refl, sym, subst, arith}
use Rattle.std.specs.Prelude.{is_some, slice_index_or}
use Rattle.std.proofs.lemmas.List.Elements.{Contains-get_or}
use Rattle.tmm_model.specs.declared.token.TokenRow.{TokenRow}
use Rattle.spots.specs.declared.spot.Spot.{Spot}
use Rattle.spots.specs.Forest.{Forest, Member, member}
use Rattle.spots.specs.Spots.{AreTokens, token_row}
use Rattle.occ_tree.specs.Places.{forest}
use Rattle.supports.proofs.ByDate.{by_date}
use Rattle.supports.proofs.TokenRows.{rows_live}
use Rattle.bearing.proofs.moving_tokens.walls_behind.Goals as goal

none_of : {X : Type 0} (o : Option X) → is_some o ≡ false → o ≡ None
none_of None e = refl
none_of (Some x) e = cc

-- the node of the row at a place
row_at : (f : Forest) (class : List ℕ) (rows : List (TokenRow Spot)) → AreTokens f class rows → (i : ℕ) (row : TokenRow Spot) → i < length rows → row ≡ slice_index_or rows i row
    → (x : ℕ) × (m : Member) × (member f x ≡ Some m) × (token_row x m ≡ Some row) × (row.class ≡ class)
row_at f class rows are i row within is =
    subst (λ (z : TokenRow Spot). (x : ℕ) × (m : Member) × (member f x ≡ Some m) × (token_row x m ≡ Some z) × (z.class ≡ class)) (sym is) (are.own (slice_index_or rows i row) (Contains-get_or rows i row within))

pub place_of-requires-clause-all_live : goal.place_of-requires-clause-all_live
place_of-requires-clause-all_live c = rows_live {s = c.requires.tree.list.0} {net = c.args.order.now.net.now.present} {k = c.args.order.now.tree.now} (record { seen = c.requires.tree.list.1; dated = c.requires.tree.dated }) c.tokens-rows.ensures.rows

pub place_of-requires-clause-by_date : goal.place_of-requires-clause-by_date
place_of-requires-clause-by_date c = by_date c.requires.tree c.tokens-rows.ensures.rows c.tokens-rows.ensures.in_order

pub add_wall-requires-clause-other : goal.add_wall-requires-clause-other
add_wall-requires-clause-other c =
    let (x, m, at, made, _) = row_at (forest c.args.order.now.tree.now) c.args.token.now.class c.tokens-rows.result.now c.tokens-rows.ensures.rows c.loop-i.i c.index-rows-i.result (omega (arith, c.loop-i-test.true, c.min-i-end.ensures)) c.index-rows-i.is in
    (x, m, at, made)

pub add_wall-requires-clause-class : goal.add_wall-requires-clause-class
add_wall-requires-clause-class c =
    let (_, _, _, _, class) = row_at (forest c.args.order.now.tree.now) c.args.token.now.class c.tokens-rows.result.now c.tokens-rows.ensures.rows c.loop-i.i c.index-rows-i.result (omega (arith, c.loop-i-test.true, c.min-i-end.ensures)) c.index-rows-i.is in
    class

pub add_wall-requires-clause-endless : goal.add_wall-requires-clause-endless
add_wall-requires-clause-endless c = none_of c.args.token.now.end (sym c.if-is_some.ensures)

pub loop-i-preserved : goal.loop-i-preserved
loop-i-preserved c = c.in_ok-add_wall.ensures c.loop-i.invariant

pub returns-then-len-ge2 : goal.returns-then-len-ge2
returns-then-len-ge2 c = c.loop-i.invariant
