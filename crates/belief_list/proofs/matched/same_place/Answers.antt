use Rattle.std.proofs.Common.{◌≡◌, sym, subst}
use Rattle.std.specs.Prelude.{None, Some}
use Rattle.spots.specs.Forest.{IsFound, moment_at}
use Rattle.occ_tree.specs.Places.{forest}
use Rattle.belief_list.specs.Matches.{IsMatch}
use Rattle.belief_list.proofs.Matches.{match_found}
use Rattle.belief_list.proofs.matched.same_place.Goals as goal

pub returns-in_err-find_same : goal.returns-in_err-find_same
returns-in_err-find_same c = λ rows listing table live.
    let f = forest c.args.names.now in
    let k = moment_at (forest c.args.other.now) c.args.x in
    let none : c.find_same.result ≡ None = cc in
    subst (IsMatch k f rows) (sym c.from_residual.ensures)
    (match_found f k None (subst (IsFound f k) none c.find_same.ensures) rows c.args.places.now listing table)

pub returns : goal.returns
returns c = λ rows listing table live.
    let f = forest c.args.names.now in
    let k = moment_at (forest c.args.other.now) c.args.x in
    let x = c.in_ok-find_same.field-0 in
    let some : c.find_same.result ≡ Some x = cc in
    subst (IsMatch k f rows) (sym c.place_of.ensures)
    (match_found f k (Some x) (subst (IsFound f k) some c.find_same.ensures) rows c.args.places.now listing table)
