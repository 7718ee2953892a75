use Rattle.std.proofs.Common.{◌≡◌, ℕ, ap, sym, ◌∙◌, arith}
use Rattle.std.specs.Prelude.{Some, None, slice_get, unwrap_or}
use Rattle.std.specs.Map.{lookup}
use Rattle.std.specs.Option.{option_map}
use Rattle.tmm_model.specs.Points.{same_name}
use Rattle.tmm_model.specs.Standing.{name_of}
use Rattle.tmm_model.specs.Sorts.{Sort, a_fact, is_fact}
use Rattle.premise_list.specs.Words.{sort_seen}
use Rattle.premise_list.specs.Table.{placed}
use Rattle.premise_list.proofs.Lookups.{not_fact, class_found, class_absent}
use Rattle.premise_list.proofs.TableFacts.{distinct_words}
use Rattle.premise_list.proofs.table.Table.class_of.Goals as goal

pub returns-in_err-word : goal.returns-in_err-word
returns-in_err-word c =
    let ps = c.args.self.now.premises in
    let distinct = distinct_words c.self.inside c.args.self.now c.self.view_is c.self.invariant c.len-distinct.ensures.unique in
    let unknown : None ≡ lookup (same_name c.args.fact) (placed 0 ps) = c.in_err-word.ensures in
    rw c.from_residual.ensures (sym (class_absent c.args.fact ps distinct (λ s k e. cc)))

pub returns-in_default : goal.returns-in_default
returns-in_default c =
    let ps = c.args.self.now.premises in
    let distinct = distinct_words c.self.inside c.args.self.now c.self.view_is c.self.invariant c.len-distinct.ensures.unique in
    let known : Some (sort_seen c.in_ok-word.word.sort, c.in_ok-word.word.place) ≡ lookup (same_name c.args.fact) (placed 0 ps) = c.in_ok-word.ensures in
    sym (class_absent c.args.fact ps distinct (λ s k e. ap (λ o. is_fact (unwrap_or {T = Sort × ℕ} o (s, k)).0) (sym e ∙ sym known) ∙ not_fact c.in_ok-word.word.sort c.in_default.not-Fact))

pub returns-in_err-at-in-Fact : goal.returns-in_err-at-in-Fact
returns-in_err-at-in-Fact c =
    let ps = c.args.self.now.premises in
    let known : Some (sort_seen c.in_ok-word.word.sort, c.in_ok-word.word.place) ≡ lookup (same_name c.args.fact) (placed 0 ps) = c.in_ok-word.ensures in
    let as_fact : lookup (same_name c.args.fact) (placed 0 ps) ≡ Some (a_fact, c.in_ok-word.word.place) = sym known ∙ ap (λ s. Some (sort_seen s, c.in_ok-word.word.place)) c.in-Fact.is in
    let (j, at, is) = class_found c.args.fact 0 ps c.in_ok-word.word.place as_fact in
    let here : j ≡ c.in_ok-word.word.place = omega arith in
    let there : None ≡ slice_get ps c.in_ok-word.word.place = c.in_err-at-in-Fact.ensures in
    rw c.from_residual-in_err-at-in-Fact.ensures (ap (option_map name_of) there ∙ ap (λ k. option_map name_of (slice_get ps k)) (sym here) ∙ sym is)

pub returns-in_ok-at-in-Fact : goal.returns-in_ok-at-in-Fact
returns-in_ok-at-in-Fact c =
    let ps = c.args.self.now.premises in
    let known : Some (sort_seen c.in_ok-word.word.sort, c.in_ok-word.word.place) ≡ lookup (same_name c.args.fact) (placed 0 ps) = c.in_ok-word.ensures in
    let as_fact : lookup (same_name c.args.fact) (placed 0 ps) ≡ Some (a_fact, c.in_ok-word.word.place) = sym known ∙ ap (λ s. Some (sort_seen s, c.in_ok-word.word.place)) c.in-Fact.is in
    let (j, at, is) = class_found c.args.fact 0 ps c.in_ok-word.word.place as_fact in
    let here : j ≡ c.in_ok-word.word.place = omega arith in
    let there : Some c.in_ok-at-in-Fact.field-0.now ≡ slice_get ps c.in_ok-word.word.place = c.in_ok-at-in-Fact.ensures in
    ap Some c.name_of.ensures ∙ ap (option_map name_of) there ∙ ap (λ k. option_map name_of (slice_get ps k)) (sym here) ∙ sym is
