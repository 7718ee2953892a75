use Rattle.std.proofs.Common.{◌≡◌, false, ◌||◌, refl, ap, sym, ◌∙◌}
use Rattle.std.specs.Prelude.{Option, Some, None, is_some}
use Rattle.std.specs.Option.{option_map}
use Rattle.std.specs.List.{list_any}
use Rattle.tmm_model.specs.Points.{same_name}
use Rattle.tmm_model.specs.Sorts.{is_reserved, declarations_in}
use Rattle.tmm_model.specs.Verdicts.{words_known}
use Rattle.list_theory.proofs.WellNamed.{known-sort}
use Rattle.premise_list.specs.Words.{sort_seen}
use Rattle.premise_list.proofs.table.Table.is_taken.Goals as goal

is_some-map : {X Y : Type 0} (f : X → Y) (o : Option X) → is_some o ≡ is_some (option_map f o)
is_some-map f None = refl
is_some-map f (Some x) = refl

pub returns-else-is_reserved : goal.returns-else-is_reserved
returns-else-is_reserved c =
    let word = c.args.word in
    let ps = c.args.self.now.premises in
    let free : false ≡ is_reserved word = sym c.if-is_reserved.false ∙ c.is_reserved.ensures in
    c.is_some.ensures ∙ is_some-map sort_seen c.sort_of.result ∙ ap is_some c.sort_of.ensures ∙ known-sort (same_name word) (declarations_in ps)
    ∙ ap (λ b. b || list_any (same_name word) (words_known ps)) free
