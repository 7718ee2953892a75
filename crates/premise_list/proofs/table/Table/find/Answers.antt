use Rattle.std.proofs.Common.{◌≡◌, ℕ, ap, sym, ◌∙◌, arith}
use Rattle.std.specs.Prelude.{Some, None, slice_get, unwrap_or}
use Rattle.std.specs.Map.{lookup}
use Rattle.tmm_model.specs.Points.{same_name}
use Rattle.tmm_model.specs.Sorts.{Sort, is_fact}
use Rattle.premise_list.specs.Words.{sort_seen}
use Rattle.premise_list.specs.Table.{placed}
use Rattle.premise_list.proofs.Lookups.{not_fact, premise_found, premise_absent}
use Rattle.premise_list.proofs.TableFacts.{distinct_words}
use Rattle.premise_list.proofs.table.Table.find.Goals as goal

pub returns-in_err-word : goal.returns-in_err-word
returns-in_err-word c =
    let ps = c.args.self.now.premises in
    let distinct = distinct_words c.self.inside c.args.self.now c.self.view_is c.self.invariant c.len-distinct.ensures.unique in
    let unknown : None ≡ lookup (same_name c.args.name) (placed 0 ps) = c.in_err-word.ensures in
    rw c.from_residual.ensures (sym (premise_absent c.args.name ps distinct (λ s k e. cc)))

pub returns-in-Fact : goal.returns-in-Fact
returns-in-Fact c =
    let ps = c.args.self.now.premises in
    let distinct = distinct_words c.self.inside c.args.self.now c.self.view_is c.self.invariant c.len-distinct.ensures.unique in
    let known : Some (sort_seen c.in_ok-word.word.sort, c.in_ok-word.word.place) ≡ lookup (same_name c.args.name) (placed 0 ps) = c.in_ok-word.ensures in
    sym (premise_absent c.args.name ps distinct (λ s k e. ap (λ o. is_fact (unwrap_or {T = Sort × ℕ} o (s, k)).0) (sym e ∙ sym known) ∙ ap (λ s. is_fact (sort_seen s)) c.in-Fact.is))

pub returns-in_default : goal.returns-in_default
returns-in_default c =
    let ps = c.args.self.now.premises in
    let known : Some (sort_seen c.in_ok-word.word.sort, c.in_ok-word.word.place) ≡ lookup (same_name c.args.name) (placed 0 ps) = c.in_ok-word.ensures in
    let (j, at, is) = premise_found c.args.name 0 ps (sort_seen c.in_ok-word.word.sort) c.in_ok-word.word.place (sym known) (not_fact c.in_ok-word.word.sort c.in_default.not-Fact) in
    let here : c.in_ok-word.word.place ≡ j = omega arith in
    c.at.ensures ∙ ap (slice_get ps) here ∙ sym is
