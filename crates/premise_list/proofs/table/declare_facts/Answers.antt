use Rattle.std.proofs.Common.{◌≡◌, ◌+◌, map, take, drop, ◌++◌, ◌∷◌, [], ap, subst, sym, ◌∙◌, arith, append_assoc, add-one}
use Rattle.std.specs.Prelude.{None}
use Rattle.std.proofs.Math.Seq.{drop-cons}
use Rattle.std.proofs.lemmas.List.{take_more, map_push}
use Rattle.std.specs.Map.{keys_of}
use Rattle.indexmap.specs.IndexMap.{keys}
use Rattle.tmm_model.specs.Verdicts.{first_taken}
use Rattle.list_theory.proofs.WellNamed.{first_taken-none, first_taken-turned}
use Rattle.tmm_model.specs.declared.name.Name.{Name}
use Rattle.premise_list.specs.declared.table.Word.{Word}
use Rattle.premise_list.specs.Table.{fact_entry}
use Rattle.premise_list.proofs.table.declare_facts.Goals as goal

pub loop-fact-preserved : goal.loop-fact-preserved
loop-fact-preserved c =
    let i = c.loop-fact.fact-index in
    let facts = c.args.facts.now in
    let fact = c.fact-item.result in
    let lt = c.loop-fact-test.true in
    let next : drop i facts ≡ fact ∷ drop (i + 1) facts = drop-cons facts i fact lt ∙ (λ j. sym c.fact-item.is j ∷ drop (sym (add-one i) j) facts) in
    let taken : take (i + 1) facts ≡ take i facts ++ fact ∷ [] = take_more facts i fact lt ∙ ap (λ x. take i facts ++ x ∷ []) (sym c.fact-item.is) in
    let then_new = first_taken-none (keys c.loop-fact.words) fact (drop (i + 1) facts) (sym (ap (first_taken (keys c.loop-fact.words)) next) ∙ c.loop-fact.invariant.new) in
    let entry : Name → Name × Word = fact_entry c.args.place in
    record {
      entries =
          c.declare.ensures.entries ∙ ap (λ l. l ++ entry fact ∷ []) c.loop-fact.invariant.entries
          ∙ append_assoc c.args.words.now.entries (map entry (take i facts)) (entry fact ∷ [])
          ∙ ap (λ l. c.args.words.now.entries ++ l) (sym (ap (map entry) taken ∙ map_push entry (take i facts) fact));
      room = omega arith;
      new =
          subst (λ known. first_taken known (drop (i + 1) facts) ≡ None) (sym (ap keys_of c.declare.ensures.entries ∙ map_push (λ e. e.0) c.loop-fact.words.entries (entry fact)))
          (first_taken-turned (keys c.loop-fact.words) fact (drop (i + 1) facts) then_new.rest);
    }
