use Rattle.std.proofs.Common.{◌≡◌, ◌∙◌, ◌++◌, ◌∷◌, [], List, ℕ, replicate, ap, sym, subst, rules, set}
use Rattle.neg_cycle.specs.Ranks.{AreListed}
use Rattle.neg_cycle.proofs.Ranked.{IsRanked-start, AreListed-start}
use Rattle.neg_cycle.proofs.ranks.Ways.make.Goals as goal

pub returns : goal.returns
returns c edges =
    let rank = c.in_ok-vec.field-0.items in
    let none : rank ≡ replicate 256 0 = c.in_ok-vec.ensures.items_if_clones_equal (λ y e. e) in
    let first : c.in_ok-vec-2.field-0.items ≡ replicate 256 0 = c.in_ok-vec-2.ensures.items_if_clones_equal (λ y e. e) in
    record {
      leading = IsRanked-start edges c.args.b rank c.in_ok-vec-2.field-0.items none first c.requires;
      listed = subst (AreListed (set rank c.args.b 1)) (sym (c.push_reserved.ensures.items ∙ ap (λ (t : List ℕ). t ++ c.args.b ∷ []) c.in_ok-with_capacity.ensures.items)) (AreListed-start c.args.b rank none c.requires);
      room = search rules;
    }
