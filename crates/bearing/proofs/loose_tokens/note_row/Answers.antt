use Rattle.std.proofs.Common.{◌≡◌, ◌∙◌, List, Bool, true, sym, ap, subst}
use Rattle.spots.proofs.Nodes.{live_at}
use Rattle.occ_tree.specs.Places.{forest}
use Rattle.bearing.specs.Fast.{is_out}
use Rattle.bearing.specs.PointSets.{is_in}
use Rattle.bearing.specs.Shifts.{stands_fast, NotesRow}
use Rattle.bearing.proofs.Shifted.{tokens_both, noted_fast, noted_loose}
use Rattle.bearing.proofs.loose_tokens.note_row.Goals as goal

pub place_at-place-requires : goal.place_at-place-requires
place_at-place-requires c = let (x, m, is) = c.requires.row in (x, live_at (forest c.args.tree.now) x m is.here, is.spot)

pub returns-then-stands_fast : goal.returns-then-stands_fast
returns-then-stands_fast c =
    let stands : stands_fast c.args.moves.now.fast.items c.place_at-place.result c.args.row.now.end ≡ true =
    ap (λ (l : List Bool). stands_fast l c.place_at-place.result c.args.row.now.end) (sym c.deref.ensures.value) ∙ sym c.stands_fast.ensures ∙ c.if-stands_fast.true in
    λ more. noted_fast (forest c.args.tree.now) c.args.moves.now.fast.items c.args.net.now c.args.row.now c.args.shifts.now.items c.place_at-place.result c.place_at-place.ensures stands

pub shift_of-requires-clause-place : goal.shift_of-requires-clause-place
shift_of-requires-clause-place c =
    c.requires.kept c.place_at-place.result.base (ap (λ (l : List Bool). is_in l c.place_at-place.result.base) (sym c.deref-2.ensures.value) ∙ sym c.is_in.ensures ∙ c.if-not-is_in.false)

pub shift_of-requires-clause-tokens : goal.shift_of-requires-clause-tokens
shift_of-requires-clause-tokens c =
    tokens_both (forest c.args.tree.now) c.args.moves.now.fast.items c.args.net.now c.args.row.now.class c.args.tokens.now c.requires.fast c.requires.tokens

pub returns : goal.returns
returns c =
    let f = forest c.args.tree.now in
    let fast = c.args.moves.now.fast.items in
    let nets = c.args.net.now in
    let row = c.args.row.now in
    let place = c.place_at-place.result in
    let in_both = c.requires.kept place.base (ap (λ (l : List Bool). is_in l place.base) (sym c.deref-2.ensures.value) ∙ sym c.is_in.ensures ∙ c.if-not-is_in.false) in
    let have = tokens_both f fast nets row.class c.args.tokens.now c.requires.fast c.requires.tokens in
    λ more. subst (NotesRow nets f (is_out fast) row c.args.shifts.now.items) (sym c.in_ok-push.ensures)
    (noted_loose f fast nets row c.args.shifts.now.items place c.args.tokens.now c.in_ok-shift.shift c.place_at-place.ensures in_both c.requires.tokens have c.in_ok-shift.ensures)
