use Rattle.std.proofs.Common.{◌≡◌, ◌∙◌, ◌++◌, ◌∷◌, List, [], refl, sym, ap, subst, inl}
use Rattle.std.specs.List.{Contains, cons_option}
use Rattle.tmm_model.specs.declared.premise.Premise.{Premise}
use Rattle.tmm_model.specs.Answers.{broken}
use Rattle.tmm_model.specs.Edits.{next_list}
use Rattle.tmm_model.specs.Maps.{built}
use Rattle.tmm_model.specs.Standing.{Standing}
use Rattle.list_theory.proofs.Elements.{In, In-from_Contains, In-right, Contains-from_In}
use Rattle.protections.specs.declared.review.Reviewed.{Reviewed}
use Rattle.protections.specs.Found.{found_in}
use Rattle.protections.specs.Reviews.{AreReviewed}
use Rattle.protections.proofs.AfterReview.{added_reviewed, none_reviewed}
use Rattle.protections.proofs.LeftAlone.{all_left_alone}
use Rattle.protections.proofs.Stood.{stood_all}
use Rattle.protections.proofs.reviewing.review_added.Goals.{in-Add+in_ok-look+in_ok-push_some_to, in_default}
use Rattle.protections.proofs.reviewing.review_added.Goals as goal

pub look-requires-clause-stands : goal.look-requires-clause-stands
look-requires-clause-stands c =
    let lists = c.args.map.now.standing.now in
    let p = c.in-Add.premise in
    let premises : lists.present.premises ≡ lists.committed.premises ++ p ∷ [] =
    ap (λ (s : Standing). s.premises) (c.requires.edited.list ∙ ap (next_list lists.committed) c.in-Add.is) in
    subst (λ (l : List Premise). Contains l p) (sym premises)
    (Contains-from_In (lists.committed.premises ++ p ∷ []) p (In-right lists.committed.premises (p ∷ []) p (inl refl)))

pub returns : goal.returns
returns c =
    let lists = c.args.map.now.standing.now in
    let found = found_in c.args.old.now in
    let named = c.requires.edited.seen_then.network.sound.well_named in
    let same : (p : Premise) → In p lists.committed.premises → In p lists.present.premises → broken (built lists.present) p ≡ broken (built lists.committed) p =
    λ p before now.
    all_left_alone lists c.args.map.now.net.now c.args.edit.now c.args.map.now.tree.now c.requires.edited c.moved.ensures.moved c.requires.unmoved c.requires.others c.have_tokens.ensures.rows
    p (Contains-from_In lists.committed.premises p before) (Contains-from_In lists.present.premises p now) in
    elim c.match-edit.branch [
      | in-Add+in_ok-look+in_ok-push_some_to w ↦ (
          let p = w.in-Add.premise in
          let o = w.in_ok-look.field-0 in
          let premises : lists.present.premises ≡ lists.committed.premises ++ p ∷ [] =
          ap (λ (s : Standing). s.premises) (c.requires.edited.list ∙ ap (next_list lists.committed) w.in-Add.is) in
          subst (λ (l : List Reviewed). AreReviewed (built lists.present) found lists.present.premises l)
          (sym (ap (λ v. v.items) w.found-is ∙ w.in_ok-push_some_to.ensures ∙ ap (λ (l : List Reviewed). l ++ cons_option o []) c.new-found.ensures.items))
          (added_reviewed lists.committed lists.present named found c.requires.old same p premises o w.in_ok-look.ensures))
      | in_default w ↦ (
          subst (λ (l : List Reviewed). AreReviewed (built lists.present) found lists.present.premises l)
          (sym (ap (λ v. v.items) w.found-is ∙ c.new-found.ensures.items))
          (none_reviewed lists.committed lists.present named found c.requires.old same
          (λ p at.
          In-from_Contains lists.committed.premises p
          (stood_all c.args.edit.now w.in_default.not-Add lists.committed p
          (subst (λ s. Contains s.premises p) c.requires.edited.list (Contains-from_In lists.present.premises p at))))))
    ]
