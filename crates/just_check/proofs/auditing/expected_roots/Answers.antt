use Rattle.std.proofs.Common.{◌≡◌, ◌∙◌, ◌+◌, ◌∷◌, ◌++◌, [], take, sym, ap, subst, Some, None, arith, add-one}
use Rattle.std.specs.Prelude.{slice_get}
use Rattle.std.specs.List.{filter_map}
use Rattle.std.specs.Option.{option_copied}
use Rattle.std.proofs.lemmas.List.Elements.{filter_map-append}
use Rattle.tmm_model.specs.Beliefs.{root_of}
use Rattle.spots.proofs.Grown.{taken, not_none}
use Rattle.just_check.specs.Checking.{AwaitsRoots}
use Rattle.just_check.proofs.auditing.expected_roots.Goals as goal
use Rattle.just_check.proofs.auditing.expected_roots.Goals.{in-Some+in_ok-expect_root, in_default}

pub loop-place-preserved : goal.loop-place-preserved
loop-place-preserved c =
    let ps = c.args.standing.now.present.premises in
    let i = c.loop-place.place in
    elim c.match-at.branch [
      | in-Some+in_ok-expect_root w ↦
          let p = w.in-Some.premise.now in
          let at : slice_get ps i ≡ Some p = sym w.in-Some.ensures in
          let more : take i ps ++ p ∷ [] ≡ take (i + 1) ps = sym (taken ps i p at) ∙ ap (λ n. take n ps) (sym (add-one i)) in
          let roots : filter_map root_of (take i ps) ++ filter_map root_of (p ∷ []) ≡ filter_map root_of (take (i + 1) ps) = sym (filter_map-append root_of (take i ps) (p ∷ [])) ∙ ap (filter_map root_of) more in
          subst (AwaitsRoots (filter_map root_of (take (i + 1) ps))) (sym w.expected-is)
          (subst (λ ks. AwaitsRoots ks w.expect_root.new.expected) roots (w.in_ok-expect_root.ensures (filter_map root_of (take i ps)) c.loop-place.invariant))
      | in_default w ↦
          let none : None ≡ slice_get ps i = sym (ap option_copied w.in_default.is) ∙ c.at.ensures in
          absurd (not_none ps i (sym none) (omega arith))
    ]
