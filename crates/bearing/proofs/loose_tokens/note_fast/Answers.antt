use Rattle.std.proofs.Common.{◌∙◌, sym, subst}
use Rattle.std.proofs.lemmas.List.Elements.{All-push}
use Rattle.std.specs.List.{All}
use Rattle.spots.proofs.Nodes.{live_at}
use Rattle.occ_tree.specs.Places.{forest}
use Rattle.bearing.specs.declared.walls.FastToken.{FastToken}
use Rattle.bearing.specs.Fast.{is_out}
use Rattle.bearing.specs.Shifts.{IsFastToken}
use Rattle.bearing.proofs.Shifted.{fast_row}
use Rattle.bearing.proofs.loose_tokens.note_fast.Goals as goal

pub place_at-place-requires : goal.place_at-place-requires
place_at-place-requires c = let (x, m, is) = c.requires.row in (x, live_at (forest c.args.tree.now) x m is.here, is.spot)

pub returns-then-not-stands_fast : goal.returns-then-not-stands_fast
returns-then-not-stands_fast c = λ before. before

pub returns : goal.returns
returns c =
    let f = forest c.args.tree.now in
    let fast = c.args.fast.now in
    let row = c.args.row.now in
    let (x, m, is) = c.requires.row in
    let place = c.place_at-place.result in
    let at = c.place_at-place.ensures x is.spot in
    let token : FastToken = record { place = place; fact = row.fact } in
    λ before. subst (All (IsFastToken f (is_out fast) row.class)) (sym c.in_ok-push.ensures)
    (All-push (IsFastToken f (is_out fast) row.class) c.args.tokens.now.items token before (record {
      node = x;
      token = m;
      here = is.here;
      of = is.class;
      fast = fast_row f fast row x m place is at (sym c.stands_fast.ensures ∙ c.if-not-stands_fast.false);
      place = at;
      fact = is.fact;
    }))
