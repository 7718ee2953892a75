use Rattle.std.proofs.Common.{◌≡◌, ◌+◌, ◌∙◌, sym, ap, subst}
use Rattle.std.specs.Prelude.{Some, drop, length, slice_index_or}
use Rattle.std.specs.List.{All}
use Rattle.std.specs.Option.{ForSome}
use Rattle.clipping.specs.Stretches.{rows_of, IsStretch, HaveStretches}
use Rattle.occ_tree.specs.Ranks.{nodes_of}
use Rattle.spots.specs.Spots.{IsSpot}
use Rattle.supports.specs.Behind.{token_at}
use Rattle.supports.specs.Nodes.{IsOfNode}
use Rattle.std.specs.Prelude.{MatchOption, IsNone}
use Rattle.tmm_model.specs.Tokens.{of_one_class, clips}
use Rattle.spots.specs.Spots.{spot_distance}
use Rattle.occ_tree.specs.Places.{forest}
use Rattle.occ_tree.specs.Tokens.{number_of}
use Rattle.supports.specs.Behind.{IsLastNode, IsClip}
use Rattle.supports.specs.Clips.{IsClipBy}
use Rattle.name_lists.specs.Lists.{list_of}
use Rattle.supports.proofs.Behind.{spot_of, behind_event, behind_token, behind_of_nodes, behind_there, place_node, live_place, within_nodes}
use Rattle.supports.proofs.Nearest.{nearest_is, tokens_among, event_has_none}
use Rattle.supports.proofs.all_clips.clip_at.Goals as goal

pub token_at-requires : goal.token_at-requires
token_at-requires c = live_place (forest c.args.tree.now) c.args.ranked.now c.args.i _ c.requires.within c.requires.live

pub returns-in_default-clause-clip : goal.returns-in_default-clause-clip
returns-in_default-clause-clip c b seen holds =
    sym (event_has_none seen b (slice_index_or (nodes_of c.args.ranked.now) c.args.i 0) (c.requires.live c.args.i 0 (within_nodes c.args.ranked.now c.args.i c.requires.within))
    (ap (token_at (forest c.args.tree.now)) (place_node c.args.ranked.now c.args.i _ c.requires.within) ∙ sym c.token_at.ensures ∙ c.in_default.is))

pub returns-in_default-clause-behind : goal.returns-in_default-clause-behind
returns-in_default-clause-behind c =
    behind_event (forest c.args.tree.now) (nodes_of c.args.ranked.now) c.args.i (within_nodes c.args.ranked.now c.args.i c.requires.within)
    (ap (token_at (forest c.args.tree.now)) (place_node c.args.ranked.now c.args.i _ c.requires.within) ∙ sym c.token_at.ensures ∙ c.in_default.is)
    (list_of c.args.behind.now) c.requires.behind

pub next_clip-own-requires-clause-nodes : goal.next_clip-own-requires-clause-nodes
next_clip-own-requires-clause-nodes c =
    subst (All IsOfNode) (sym (ap rows_of c.of-others.ensures ∙ (c.requires.behind c.in-Some.token.class).0)) (behind_of_nodes (forest c.args.tree.now) c.in-Some.token.class (drop (c.args.i + 1) (nodes_of c.args.ranked.now)))

pub next_clip-own-requires-clause-live : goal.next_clip-own-requires-clause-live
next_clip-own-requires-clause-live c =
    subst (All (λ row. IsSpot c.args.net.now.present.names (forest c.args.tree.now) row.spot × ForSome row.end (IsSpot c.args.net.now.present.names (forest c.args.tree.now)))) (sym (ap rows_of c.of-others.ensures ∙ (c.requires.behind c.in-Some.token.class).0))
    (behind_there (forest c.args.tree.now) c.in-Some.token.class c.requires.dates.list.0 c.args.net.now.present c.requires.dates.list.1 (drop (c.args.i + 1) (nodes_of c.args.ranked.now)))

pub next_clip-own-requires-clause-stretches : goal.next_clip-own-requires-clause-stretches
next_clip-own-requires-clause-stretches c = subst HaveStretches (sym c.of-others.ensures) (c.requires.behind c.in-Some.token.class).1

pub stretch_behind-first-requires : goal.stretch_behind-first-requires
stretch_behind-first-requires c = record { stretches = subst HaveStretches (sym c.of-others.ensures) (c.requires.behind c.in-Some.token.class).1 }

pub clip-clip-requires-clause-token : goal.clip-clip-requires-clause-token
clip-clip-requires-clause-token c =
    let f = forest c.args.tree.now in
    let is = sym c.token_at.ensures ∙ c.in-Some.is in
    ap (λ p. token_at f (number_of p)) (spot_of f _ c.in-Some.token is) ∙ is

pub clip-clip-requires-clause-own : goal.clip-clip-requires-clause-own
clip-clip-requires-clause-own c =
    let f = forest c.args.tree.now in
    let nodes = nodes_of c.args.ranked.now in
    let token = c.in-Some.token in
    let own = c.next_clip-own.result in
    let is : token_at f (slice_index_or nodes c.args.i 0) ≡ Some token = ap (token_at f) (place_node c.args.ranked.now c.args.i _ c.requires.within) ∙ sym c.token_at.ensures ∙ c.in-Some.is in
    subst (λ x. IsClipBy of_one_class c.args.standing.now.present c.args.net.now.present f x own) (ap number_of (sym (spot_of f (slice_index_or nodes c.args.i 0) token is)))
    (λ b seen holds. nearest_is seen holds nodes c.args.i (within_nodes c.args.ranked.now c.args.i c.requires.within) c.requires.in_order token is
    (tokens_among f nodes c.requires.all token.class) own
    (subst (λ rows. MatchOption token.end (IsLastNode (clips of_one_class (spot_distance c.args.net.now.present f) token) rows own) (λ _. IsNone own))
    (ap rows_of c.of-others.ensures ∙ (c.requires.behind token.class).0) c.next_clip-own.ensures.last))

pub returns-clause-clip : goal.returns-clause-clip
returns-clause-clip c =
    let f = forest c.args.tree.now in
    let nodes = nodes_of c.args.ranked.now in
    let token = c.in-Some.token in
    let is : token_at f (slice_index_or nodes c.args.i 0) ≡ Some token = ap (token_at f) (place_node c.args.ranked.now c.args.i _ c.requires.within) ∙ sym c.token_at.ensures ∙ c.in-Some.is in
    subst (λ x. IsClip c.args.standing.now.present c.args.net.now.present f x c.clip-clip.result) (ap number_of (spot_of f (slice_index_or nodes c.args.i 0) token is)) c.clip-clip.ensures.clip

pub returns-clause-behind : goal.returns-clause-behind
returns-clause-behind c =
    behind_token (forest c.args.tree.now) (nodes_of c.args.ranked.now) c.args.i (within_nodes c.args.ranked.now c.args.i c.requires.within) c.in-Some.token
    (ap (token_at (forest c.args.tree.now)) (place_node c.args.ranked.now c.args.i _ c.requires.within) ∙ sym c.token_at.ensures ∙ c.in-Some.is) c.stretch_behind-first.result
    (list_of c.args.behind.now) (list_of c.push.new.self) c.requires.behind
    (subst (λ others. IsStretch (rows_of others) c.in-Some.token.fact c.stretch_behind-first.result (length others)) c.of-others.ensures c.stretch_behind-first.ensures)
    c.in_ok-push.ensures.ok
