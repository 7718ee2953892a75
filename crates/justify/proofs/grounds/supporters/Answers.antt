use Rattle.std.proofs.Common.{◌≡◌, ◌∙◌, ◌∷◌, [], ◌++◌, length, sym, ap, subst, append-nil, arith}
use Rattle.std.specs.Prelude.{Some, None}
use Rattle.std.specs.List.{All}
use Rattle.std.proofs.lemmas.List.{length-append}
use Rattle.std.proofs.lemmas.List.Elements.{All-push}
use Rattle.tmm_model.specs.Beliefs.{holder}
use Rattle.tmm_model.specs.Maps.{built}
use Rattle.tmm_model.specs.Standing.{far_in}
use Rattle.spots.specs.Forest.{IsLive, moment_at}
use Rattle.occ_tree.specs.Places.{forest}
use Rattle.justify.proofs.Antecedents.{found_more}
use Rattle.justify.proofs.grounds.supporters.Goals as goal
use Rattle.justify.proofs.grounds.supporters.Goals.{in-Some, in-None}

pub loop-fact-preserved : goal.loop-fact-preserved
loop-fact-preserved c =
    let s = c.args.map.now.standing.now.present in
    let f = forest c.args.map.now.tree.now in
    let t = moment_at f c.args.event in
    let old = c.loop-fact.found.items in
    let i = c.loop-fact.fact-index in
    let invariant = c.loop-fact.invariant in
    elim c.match-supporter.branch [
      | in-Some w ↦
          let x = w.in-Some.x in
          let grown : c.match-supporter.found.items ≡ old ++ x ∷ [] = ap (λ a. a.items) w.found-is ∙ w.push.ensures.items in
          record {
            count = (let n = ap length grown ∙ length-append old (x ∷ []) in omega (arith, invariant.count));
            live = subst (All (IsLive f)) (sym grown) (All-push (IsLive f) old x invariant.live w.in-Some.ensures.live);
            first =
                found_more (moment_at f) (λ fact. holder s (far_in s.premises) (built s).believed fact t t) old c.match-supporter.found.items c.args.facts.now i c.fact-item.result (Some x)
                invariant.first c.loop-fact-test.true c.fact-item.is (w.in-Some.ensures.first (built s).believed c.requires.holds) grown;
          }
      | in-None w ↦
          let same : c.match-supporter.found.items ≡ old = ap (λ a. a.items) w.found-is in
          record {
            count = (let n = ap length same in omega (arith, invariant.count));
            live = subst (All (IsLive f)) (sym same) invariant.live;
            first =
                found_more (moment_at f) (λ fact. holder s (far_in s.premises) (built s).believed fact t t) old c.match-supporter.found.items c.args.facts.now i c.fact-item.result None
                invariant.first c.loop-fact-test.true c.fact-item.is (w.in-None.ensures.first (built s).believed c.requires.holds) (same ∙ sym (append-nil old));
          }
    ]
