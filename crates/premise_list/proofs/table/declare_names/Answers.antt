use Rattle.std.proofs.Common.{◌≡◌, ◌++◌, ◌∷◌, [], map, length, ap, ◌∙◌, arith}
use Rattle.std.specs.List.{list_any}
use Rattle.std.specs.Map.{keys_of}
use Rattle.std.proofs.lemmas.List.{map_push}
use Rattle.indexmap.specs.IndexMap.{keys}
use Rattle.tmm_model.specs.Points.{same_name}
use Rattle.tmm_model.specs.Standing.{name_of}
use Rattle.tmm_model.specs.Verdicts.{first_taken}
use Rattle.list_theory.proofs.WellNamed.{first_taken-turned}
use Rattle.premise_list.specs.declared.table.Word.{Word}
use Rattle.premise_list.specs.Words.{facts_of}
use Rattle.premise_list.specs.Table.{entry_seen, fact_entry}
use Rattle.premise_list.proofs.TableFacts.{declared_by_parted, own_name_new, entries_push}
use Rattle.premise_list.proofs.table.declare_names.Goals as goal

pub declare-requires-clause-new : goal.declare-requires-clause-new
declare-requires-clause-new c =
    ap (λ n. list_any (same_name n) (keys c.args.words.now)) c.name_of.ensures ∙ (own_name_new (keys c.args.words.now) c.args.premise.now c.requires.new).new

pub declare_facts-requires-clause-room : goal.declare_facts-requires-clause-room
declare_facts-requires-clause-room c =
    let parted = ap length (declared_by_parted c.args.premise.now) in
    let facts = ap length c.facts_of.ensures.value in
    omega arith

pub declare_facts-requires-clause-new : goal.declare_facts-requires-clause-new
declare_facts-requires-clause-new c =
    let p = c.args.premise.now in
    let known = keys c.args.words.now in
    let rest = (own_name_new known p c.requires.new).rest in
    let keys_now : keys c.declare.new.words ≡ known ++ name_of p ∷ [] = ap keys_of c.declare.ensures.entries ∙ map_push (λ e. e.0) c.args.words.now.entries (c.name_of.result, record { sort = c.sort_of.result; place = c.args.place }) ∙ ap (λ n. known ++ n ∷ []) c.name_of.ensures in
    ap (first_taken (keys c.declare.new.words)) c.facts_of.ensures.value ∙ ap (λ k. first_taken k (facts_of p)) keys_now ∙ first_taken-turned known (name_of p) (facts_of p) rest

pub returns-clause-entries : goal.returns-clause-entries
returns-clause-entries c =
    let p = c.args.premise.now in
    let es = c.args.words.now.entries in
    let place = c.args.place in
    let word : Word = record { sort = c.sort_of.result; place = place } in
    let entries_now : c.declare_facts.new.words.entries ≡ (es ++ (name_of p, word) ∷ []) ++ map (fact_entry place) (facts_of p) =
    c.declare_facts.ensures.entries ∙ ap (λ l. l ++ map (fact_entry place) c.facts_of.result.now) c.declare.ensures.entries
    ∙ (λ i. (es ++ (c.name_of.ensures i, word) ∷ []) ++ map (fact_entry place) (c.facts_of.ensures.value i)) in
    ap (map entry_seen) entries_now ∙ entries_push es p word c.sort_of.ensures

pub returns-clause-room : goal.returns-clause-room
returns-clause-room c =
    let parted = ap length (declared_by_parted c.args.premise.now) in
    let facts = ap length c.facts_of.ensures.value in
    omega arith
