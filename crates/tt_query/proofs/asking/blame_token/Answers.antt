use Rattle.std.proofs.Common.{◌≡◌, ◌∙◌, ℕ, List, Some, None, slice_index_or, sym, ap, subst}
use Rattle.tmm_model.specs.Beliefs.{holder, token_of}
use Rattle.tmm_model.specs.Maps.{built}
use Rattle.tmm_model.specs.Standing.{far_in}
use Rattle.spots.specs.Forest.{moment_at}
use Rattle.spots.specs.Spots.{spot_moment}
use Rattle.occ_tree.specs.Places.{forest}
use Rattle.occ_tree.specs.Tokens.{number_of}
use Rattle.supports.proofs.TokenRows.{no_row, at_place, fact_is}
use Rattle.tt_query.specs.Firsts.{token_at_node}
use Rattle.tt_query.proofs.FirstTokens.{token_of_fact}
use Rattle.tt_query.proofs.asking.blame_token.Goals as goal

pub blame-requires-clause-no_supporter : goal.blame-requires-clause-no_supporter
blame-requires-clause-no_supporter c =
    let s = c.args.map.now.standing.now.present in
    let names = c.args.map.now.net.now.present.names in
    let f = forest c.args.map.now.tree.now in
    let rows = c.args.rows.now in
    let seen = c.requires.seen.seen in
    let place = c.requires.place in
    let (class, are) = c.requires.tokens in
    let (fact, (m, here, some, what), none) = c.requires.none in
    let is = fact_is seen are (slice_index_or rows c.args.token.place no_row) (at_place seen are c.args.token.place no_row place.within) c.args.token.node (place.at no_row) m here ∙ what in (
      (built s).believed,
      c.requires.holds,
      subst (λ (n : List ℕ). holder s (far_in s.premises) (built s).believed n (spot_moment names f c.args.p) (spot_moment names f c.args.q) ≡ None) (sym is) none,
    )

pub returns : goal.returns
returns c =
    let s = c.args.map.now.standing.now.present in
    let f = forest c.args.map.now.tree.now in
    let (fact, of_fact, none) = c.requires.none in
    let token = token_of_fact s c.args.map.now.net.now.present f c.requires.seen.seen c.requires.holds fact c.args.token.node of_fact in
    let made = subst (λ x. token_of s (moment_at f x) ≡ Some (token_at_node (built s) f c.args.token.node)) (sym (ap number_of (c.requires.place.at no_row))) token.made in
    let fault = c.in_ok-cause.ensures ∙ sym (c.blame.ensures.fault (built s).believed (token_at_node (built s) f c.args.token.node) c.requires.holds made) in
    (λ i. (c.in_ok-occ_of.ensures i, fault i))
