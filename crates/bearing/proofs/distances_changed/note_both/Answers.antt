use Rattle.std.proofs.Common.{◌≡◌, ◌∙◌, sym, inl, inr}
use Rattle.bearing.specs.MovedPairs.{is_moved_among}
use Rattle.bearing.specs.PointSets.{is_in}
use Rattle.bearing.proofs.Pairs.{OfBoth, none_of_other, pairs_both}
use Rattle.bearing.proofs.distances_changed.note_both.Goals as goal

pub returns-then-not-is_in : goal.returns-then-not-is_in
returns-then-not-is_in c =
    none_of_other c.args.net.now (is_in c.args.kept.now) (OfBoth c.args.p c.args.q) c.args.q c.args.pairs.now.items (sym c.is_in.ensures ∙ c.if-not-is_in.true)
    (λ a b of. elim of [ inl from ↦ inr from.1 | inr to ↦ inl to.0 ])

pub returns : goal.returns
returns c =
    let moves = is_moved_among c.args.net.now (is_in c.args.kept.now) in
    pairs_both moves (λ a b. (a ≡ c.args.p) × (b ≡ c.args.q)) (λ a b. (a ≡ c.args.q) × (b ≡ c.args.p)) (OfBoth c.args.p c.args.q) c.args.pairs.now.items c.note_pair.new.pairs.items c.note_pair-2.new.pairs.items
    (λ a b la lb of. of) c.note_pair.ensures c.note_pair-2.ensures
