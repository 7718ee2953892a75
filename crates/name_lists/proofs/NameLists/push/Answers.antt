use Rattle.std.proofs.Common.{cond, ◌∙◌, ◌∷◌, ◌++◌, [], Some, ap, subst, refl}
use Rattle.std.specs.Prelude.{IsSome}
use Rattle.std.specs.Option.{option_map_or}
use Rattle.std.specs.Map.{lookup}
use Rattle.indexmap.specs.IndexMap.{get_by}
use Rattle.tmm_model.specs.Points.{same_name}
use Rattle.name_lists.proofs.Added.{appends, unchanged}
use Rattle.name_lists.proofs.NameLists.push.Goals as goal

pub returns-in-Ok-clause-ok : goal.returns-in-Ok-clause-ok
returns-in-Ok-clause-ok g c =
    let old = c.args.self.now in
    let there : IsSome (get_by (same_name c.args.name) old.lists) = subst IsSome c.in-Some.ensures.value refl in
    appends old record { lists = c.get_mut.follows.lender c.push.new.self } c.args.name c.push.new.self ((c.get_mut.follows.holds c.push.new.self).3 there).0 c.args.element
    (c.in-Ok.ensures.items ∙ ap (λ o. option_map_or (λ v. v.items) o [] ++ c.args.element ∷ []) c.in-Some.ensures.value)

pub returns-in-Err-clause-err : goal.returns-in-Err-clause-err
returns-in-Err-clause-err g c =
    let old = c.args.self.now in
    let there : IsSome (get_by (same_name c.args.name) old.lists) = subst IsSome c.in-Some.ensures.value refl in
    unchanged old record { lists = c.get_mut.follows.lender c.push.new.self } c.args.name c.push.new.self ((c.get_mut.follows.holds c.push.new.self).3 there).0
    (c.in-Err.ensures.items ∙ ap (λ o. option_map_or (λ v. v.items) o []) c.in-Some.ensures.value)

pub returns-in-Ok-insert-clause-ok : goal.returns-in-Ok-insert-clause-ok
returns-in-Ok-insert-clause-ok g c =
    let list = c.push_reserved.new.self in
    appends c.args.self.now record { lists = c.insert.new.self } c.args.name list
    (λ q. c.in-Ok-insert.ensures.updates.0 q ∙ ap (λ m. cond (same_name c.args.name q) (Some list) (lookup (same_name q) m.entries)) c.get_mut.follows.holds-at-none)
    c.args.element
    (c.push_reserved.ensures.items
    ∙ ap (λ xs. xs ++ c.args.element ∷ []) c.in_ok-list.ensures.items
    ∙ ap (λ o. option_map_or (λ v. v.items) o [] ++ c.args.element ∷ []) c.in_default.ensures.value)
