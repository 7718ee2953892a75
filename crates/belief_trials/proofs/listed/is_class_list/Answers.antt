use Rattle.std.proofs.Common.{◌≡◌, ◌<◌, List, length, subst, sym, arith, rules}
use Rattle.std.specs.Prelude.{nat_eq, slice_index_or}
use Rattle.std.specs.List.{All, Contains}
use Rattle.std.proofs.lemmas.Bool.{both_ways, false≢true}
use Rattle.std.proofs.lemmas.List.Elements.{Contains-get_or}
use Rattle.tmm_model.specs.declared.token.TokenRow.{TokenRow}
use Rattle.tmm_model.specs.Points.{same_name}
use Rattle.clipping.specs.Across.{list_at}
use Rattle.belief_trials.proofs.OneClass.{class_agrees}
use Rattle.belief_trials.proofs.listed.is_class_list.Goals as goal

pub returns-then-not-agree : goal.returns-then-not-agree
returns-then-not-agree g c = (
  (λ t. absurd (false≢true t)),
  λ is.
      (let lists = g.T.Tokens.lists c.args.tokens.now in
      let list = c.list-list.result.now in
      let first = slice_index_or list 0 c.index-list-0.result in
      let some : 0 < length list = search rules in
      let at : Contains (list_at lists c.args.own) first = subst (λ (xs : List (TokenRow g.row.T-Spot.Denot)). Contains xs first) c.list-list.ensures (Contains-get_or list 0 c.index-list-0.result some) in
      let within : c.loop-i.i < length lists = omega arith in
      let agree : All (λ (k : TokenRow g.row.T-Spot.Denot). same_name k.class first.class ≡ nat_eq c.loop-i.i c.args.own) c.list.result.now =
      subst (λ (xs : List (TokenRow g.row.T-Spot.Denot)). All (λ (k : TokenRow g.row.T-Spot.Denot). same_name k.class first.class ≡ nat_eq c.loop-i.i c.args.own) xs) (sym c.list.ensures) (class_agrees lists c.args.own is first at c.loop-i.i within) in
      absurd (both_ways c.agree.result c.if-not-agree.true (c.agree.ensures.1 agree))),
)
