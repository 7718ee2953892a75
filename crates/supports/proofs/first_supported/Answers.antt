use Rattle.std.proofs.Common.{◌≡◌, ◌∙◌, true, false, map, sym, ap, rules, arith}
use Rattle.std.proofs.lemmas.List.{take_all}
use Rattle.tmm_model.specs.Beliefs.{holder, has_support}
use Rattle.tmm_model.specs.Standing.{far_in}
use Rattle.belief_theory.specs.Outcomes.{first_with}
use Rattle.belief_theory.proofs.Outcomes.{no_holder}
use Rattle.spots.specs.Spots.{spot_moment}
use Rattle.occ_tree.specs.Places.{forest}
use Rattle.supports.proofs.FirstFacts.{none_yet, first_here}
use Rattle.supports.proofs.first_supported.Goals as goal

pub returns-then-is_supported : goal.returns-then-is_supported
returns-then-is_supported c b holds =
    let s = c.args.map.now.standing.now.present in
    let p = spot_moment c.args.map.now.net.now.present.names (forest c.args.map.now.tree.now) c.args.at in
    let fact = c.index-facts-place.result in
    let held : c.is_supported.result ≡ true = search rules in
    let has : has_support s (far_in s.premises) b fact p p ≡ true = sym (c.is_supported.ensures b holds) ∙ held in
    first_here (λ fact. holder s (far_in s.premises) b fact p p) c.args.facts.now c.loop-place.place fact (omega arith) c.index-facts-place.is (c.loop-place.invariant b holds)
    (λ none. (let no : has_support s (far_in s.premises) b fact p p ≡ false = (no_holder s (far_in s.premises) b p fact).0 none in let both : true ≡ false = sym has ∙ no in cc))

pub loop-place-preserved : goal.loop-place-preserved
loop-place-preserved c b holds =
    let s = c.args.map.now.standing.now.present in
    let p = spot_moment c.args.map.now.net.now.present.names (forest c.args.map.now.tree.now) c.args.at in
    let fact = c.index-facts-place.result in
    let refused : c.is_supported.result ≡ false = search rules in
    let none = (no_holder s (far_in s.premises) b p fact).1 (sym (c.is_supported.ensures b holds) ∙ refused) in
    none_yet (λ fact. holder s (far_in s.premises) b fact p p) c.args.facts.now c.loop-place.place fact (omega arith) c.index-facts-place.is (c.loop-place.invariant b holds) none

pub returns : goal.returns
returns c b holds =
    let s = c.args.map.now.standing.now.present in
    let p = spot_moment c.args.map.now.net.now.present.names (forest c.args.map.now.tree.now) c.args.at in
    sym (c.loop-place.invariant b holds) ∙ ap (λ l. first_with (map (λ fact. holder s (far_in s.premises) b fact p p) l)) (take_all c.loop-place.place c.args.facts.now (omega arith))
