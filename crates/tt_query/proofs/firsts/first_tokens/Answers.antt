use Rattle.std.proofs.Common.{◌≡◌, ◌∙◌, ◌+◌, [], ◌∷◌, ◌++◌, ap, sym, subst, arith}
use Rattle.std.specs.List.{All}
use Rattle.std.specs.Prelude.{Some}
use Rattle.std.proofs.lemmas.List.{map-append}
use Rattle.std.proofs.lemmas.List.Elements.{All-push}
use Rattle.tt_query.specs.declared.firsts.Placed.{Placed}
use Rattle.tt_query.specs.Firsts.{node_for, placed_nodes, IsPlaced}
use Rattle.tt_query.proofs.FirstNodes.{Keeps, keeps_more, keeps_full, keeps_same, placed_here}
use Rattle.tt_query.proofs.firsts.first_tokens.Goals as goal
use Rattle.tt_query.proofs.firsts.first_tokens.Goals.{in-Some, then-count-lt-BLAMES, else-count-lt-BLAMES, in_default}

pub loop-place-preserved : goal.loop-place-preserved
loop-place-preserved c =
    let fact = c.args.fact in
    let rows = c.args.rows.now in
    let i = c.loop-place.place in
    let row = c.index-rows-place.result in
    let kept = c.loop-place.tokens.items in
    let count = c.loop-place.count in
    let nodes = c.loop-place.invariant.nodes in
    let places = c.loop-place.invariant.places in
    elim c.match-node_for.branch [
      | in-Some w ↦
          let e : node_for fact row ≡ Some w.in-Some.node = sym c.node_for.ensures ∙ w.in-Some.is in
          elim w.if-count-lt-BLAMES.branch [
            | then-count-lt-BLAMES v ↦
                let token : Placed = record { node = w.in-Some.node; place = i } in
                let pushed : c.match-node_for.tokens.items ≡ kept ++ token ∷ [] = ap (λ a. a.items) w.tokens-is ∙ ap (λ a. a.items) v.tokens-is ∙ v.push.ensures.items in record {
                  nodes = subst (λ n. Keeps fact rows (i + 1) (placed_nodes c.match-node_for.tokens.items) n) (sym w.count-is)
                      (subst (λ l. Keeps fact rows (i + 1) l (count + 1)) (sym (ap placed_nodes pushed ∙ map-append (λ (t : Placed). t.node) kept (token ∷ [])))
                      (keeps_more fact rows i row c.loop-place-test.true (sym c.index-rows-place.is) (placed_nodes kept) count nodes w.in-Some.node e (omega (arith, v.if-count-lt-BLAMES.true))));
                  places = subst (All (IsPlaced rows)) (sym pushed) (All-push (IsPlaced rows) kept token places (placed_here fact rows i row c.loop-place-test.true c.index-rows-place.is w.in-Some.node e));
                }
            | else-count-lt-BLAMES v ↦
                let same = ap (λ a. a.items) w.tokens-is ∙ ap (λ a. a.items) v.tokens-is in record {
                  nodes = subst (λ n. Keeps fact rows (i + 1) (placed_nodes c.match-node_for.tokens.items) n) (sym w.count-is)
                      (subst (λ l. Keeps fact rows (i + 1) (placed_nodes l) (count + 1)) (sym same)
                      (keeps_full fact rows i row c.loop-place-test.true (sym c.index-rows-place.is) (placed_nodes kept) count nodes w.in-Some.node e (omega (arith, v.if-count-lt-BLAMES.false))));
                  places = subst (All (IsPlaced rows)) (sym same) places;
                }
          ]
      | in_default w ↦
          let same = ap (λ a. a.items) w.tokens-is in record {
            nodes = subst (λ n. Keeps fact rows (i + 1) (placed_nodes c.match-node_for.tokens.items) n) (sym w.count-is)
                (subst (λ l. Keeps fact rows (i + 1) (placed_nodes l) count) (sym same)
                (keeps_same fact rows i row c.loop-place-test.true (sym c.index-rows-place.is) (placed_nodes kept) count nodes (sym c.node_for.ensures ∙ w.in_default.is)));
            places = subst (All (IsPlaced rows)) (sym same) places;
          }
    ]
