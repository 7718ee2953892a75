use Rattle.std.proofs.Common.{◌≡◌, ◌∙◌, ◌+◌, ◌∷◌, ◌++◌, [], ℕ, List, map, take, sym, ap, subst, Some, None, arith, add-one}
use Rattle.std.specs.Prelude.{slice_get}
use Rattle.std.specs.List.{All, filter_map}
use Rattle.std.specs.Option.{option_copied}
use Rattle.std.proofs.lemmas.List.{take_all}
use Rattle.tmm_model.specs.Beliefs.{on_kind}
use Rattle.name_lists.specs.Lists.{list_of}
use Rattle.timeline.specs.Kinds.{name_at, IsRuleAt}
use Rattle.timeline.proofs.AtPlaces.{taken, not_none, next_named, next_places}
use Rattle.timeline.proofs.kinds.RulesByKind.of.Goals as goal
use Rattle.timeline.proofs.kinds.RulesByKind.of.Goals.{in-Some+in_ok-add, in_default}

pub loop-place-preserved : goal.loop-place-preserved
loop-place-preserved c =
    let s = c.args.standing.now.present in
    let ps = s.premises in
    let i = c.loop-place.place in
    elim c.match-at.branch [
      | in-Some+in_ok-add w ↦
          let p = w.in-Some.premise.now in
          let at : slice_get ps i ≡ Some p = sym w.in-Some.ensures in
          let more : take i ps ++ p ∷ [] ≡ take (i + 1) ps = sym (taken ps i p at) ∙ ap (λ n. take n ps) (sym (add-one i)) in
          let is : (kind : List ℕ) → list_of c.match-at.rules.rules kind ≡ list_of c.loop-place.rules.rules kind ++ map (λ name. i) (filter_map (on_kind kind) (p ∷ [])) = λ kind. ap (λ m. list_of m.rules kind) w.rules-is ∙ w.in_ok-add.ensures kind in
          record {
            named = λ kind.
                (ap (map (name_at s)) (is kind)
                ∙ next_named s kind i p at (list_of c.loop-place.rules.rules kind) (take i ps) (c.loop-place.invariant.named kind)
                ∙ ap (filter_map (on_kind kind)) more);
            places = λ kind. subst (All (IsRuleAt s)) (sym (is kind)) (next_places s kind i p at (list_of c.loop-place.rules.rules kind) (c.loop-place.invariant.places kind));
          }
      | in_default w ↦
          let none : None ≡ slice_get ps i = sym (ap option_copied w.in_default.is) ∙ c.at.ensures in
          absurd (not_none ps i (sym none) (omega arith))
    ]

pub returns : goal.returns
returns c = record {
  named = λ kind. c.loop-place.invariant.named kind ∙ ap (filter_map (on_kind kind)) (take_all c.loop-place.place c.args.standing.now.present.premises (omega arith));
  places = c.loop-place.invariant.places;
}
