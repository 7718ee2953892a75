use Rattle.std.proofs.Common.{◌≡◌, ◌∙◌, ◌+◌, ◌∷◌, ◌++◌, [], take, sym, ap, Some, None, arith, add-one}
use Rattle.std.specs.Prelude.{slice_get}
use Rattle.std.specs.List.{filter_map}
use Rattle.std.specs.Option.{option_copied}
use Rattle.std.proofs.lemmas.List.{take_all}
use Rattle.std.proofs.lemmas.List.Elements.{filter_map-append}
use Rattle.tmm_model.specs.Beliefs.{on_kind}
use Rattle.name_lists.specs.Lists.{list_of}
use Rattle.spots.proofs.Grown.{taken, not_none}
use Rattle.just_check.proofs.rules.RulesByKind.of.Goals as goal
use Rattle.just_check.proofs.rules.RulesByKind.of.Goals.{in-Some+in_ok-add, in_default}

pub loop-place-preserved : goal.loop-place-preserved
loop-place-preserved c =
    let s = c.args.standing.now.present in
    let ps = s.premises in
    let i = c.loop-place.place in
    elim c.match-at.branch [
      | in-Some+in_ok-add w ↦
          let p = w.in-Some.premise.now in
          let at : slice_get ps i ≡ Some p = sym w.in-Some.ensures in
          let more : take i ps ++ p ∷ [] ≡ take (i + 1) ps = sym (taken ps i p at) ∙ ap (λ n. take n ps) (sym (add-one i)) in
          λ kind.
          ap (λ m. list_of m.rules kind) w.rules-is
          ∙ w.in_ok-add.ensures kind
          ∙ ap (λ l. l ++ filter_map (on_kind kind) (p ∷ [])) (c.loop-place.invariant kind)
          ∙ sym (filter_map-append (on_kind kind) (take i ps) (p ∷ []))
          ∙ ap (filter_map (on_kind kind)) more
      | in_default w ↦
          let none : None ≡ slice_get ps i = sym (ap option_copied w.in_default.is) ∙ c.at.ensures in
          absurd (not_none ps i (sym none) (omega arith))
    ]

pub returns : goal.returns
returns c kind = c.loop-place.invariant kind ∙ ap (filter_map (on_kind kind)) (take_all c.loop-place.place c.args.standing.now.present.premises (omega arith))
