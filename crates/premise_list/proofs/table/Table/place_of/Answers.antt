use Rattle.std.proofs.Common.{◌≡◌, ap, subst, sym, ◌∙◌, arith}
use Rattle.std.specs.Prelude.{Some, None}
use Rattle.std.specs.Map.{lookup}
use Rattle.std.specs.Option.{option_map}
use Rattle.tmm_model.specs.Points.{same_name}
use Rattle.tmm_model.specs.Sorts.{sort_in}
use Rattle.tmm_model.specs.Verdicts.{unknown, premise_cause}
use Rattle.premise_list.specs.Words.{sort_seen}
use Rattle.premise_list.specs.Table.{placed}
use Rattle.premise_list.specs.Found.{IsFoundAt}
use Rattle.premise_list.proofs.Lookups.{lookup-placed}
use Rattle.premise_list.proofs.Parts.{found_at}
use Rattle.premise_list.proofs.table.Table.place_of.Goals as goal

pub returns-in-Some : goal.returns-in-Some
returns-in-Some c =
    let n = c.args.name in
    let ps = c.args.self.now.premises in
    let found : lookup (same_name n) (placed 0 ps) ≡ Some (sort_seen c.in-Some.word.sort, c.in-Some.word.place) = sym c.in-Some.ensures in
    let (j, at, is) = found_at n 0 ps (sort_seen c.in-Some.word.sort) c.in-Some.word.place found in
    let here : j ≡ c.in-Some.word.place = omega arith in
    subst (IsFoundAt n ps) here is

pub returns-in-None : goal.returns-in-None
returns-in-None c =
    let n = c.args.name in
    let ps = c.args.self.now.premises in
    let no_sort : None ≡ sort_in ps n = ap (option_map (λ v. v.0)) c.in-None.ensures ∙ lookup-placed (same_name n) 0 ps in
    let cause : Some (unknown n) ≡ None = ap (λ s. premise_cause s n) no_sort ∙ c.requires in
    cc
