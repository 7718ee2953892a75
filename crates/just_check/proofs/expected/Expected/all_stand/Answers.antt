use Rattle.std.proofs.Common.{◌≡◌, ◌∙◌, not, sym, ap, subst, Some, None, refl, arith}
use Rattle.std.specs.Map.Iter.{deref_pair}
use Rattle.std.specs.Option.{option_map}
use Rattle.std.specs.Prelude.{slice_get}
use Rattle.std.proofs.lemmas.List.{take_all}
use Rattle.spots.proofs.Grown.{not_none}
use Rattle.just_check.specs.Origins.{same_origin}
use Rattle.just_check.proofs.Entries.{AllStand, none_awaited, more_stand}
use Rattle.just_check.proofs.Origins.{none_from}
use Rattle.just_check.proofs.expected.Expected.all_stand.Goals as goal
use Rattle.just_check.proofs.expected.Expected.all_stand.Goals.{in-Some+else-is_none, in_default}

pub returns-then-is_none : goal.returns-then-is_none
returns-then-is_none c = (
  (λ h. absurd (cc)),
  (λ all. absurd (all c.in-Some.field-0-0.now (c.in-Some.ensures.value ∙ ap Some (none_from c.in-Some.node.now (c.is_none.ensures ∙ ap not c.if-is_none.true))))),
)

pub loop-place-preserved : goal.loop-place-preserved
loop-place-preserved c =
    let es = c.args.self.now.nodes.entries in
    let i = c.loop-place.place in
    elim c.match-get_index.branch [
      | in-Some+else-is_none w ↦ more_stand es i (w.in-Some.field-0-0.now, w.in-Some.node.now) (sym w.in-Some.ensures.entry) (w.is_none.ensures ∙ ap not w.if-is_none.false) c.loop-place.invariant
      | in_default w ↦
          let none : None ≡ slice_get es i = sym (ap (option_map deref_pair) w.in_default.is) ∙ c.get_index.ensures.entry in
          absurd (not_none es i (sym none) (omega (arith, c.len-place-end.ensures.len)))
    ]

pub returns : goal.returns
returns c =
    let es = c.args.self.now.nodes.entries in
    let all : AllStand es = subst AllStand (take_all c.loop-place.place es (omega (arith, c.len-place-end.ensures.len))) c.loop-place.invariant in
    ((λ h o. none_awaited (same_origin o) es all), (λ h. refl))
