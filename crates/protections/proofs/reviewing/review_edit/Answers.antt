use Rattle.std.proofs.Common.{◌≡◌, ◌∙◌, List, [], ◌∷◌, length, refl, sym, subst, eqb-true}
use Rattle.tmm_model.specs.Maps.{built}
use Rattle.supports.specs.Apart.{AreOthersApart}
use Rattle.protections.specs.Found.{found_in}
use Rattle.protections.specs.Reviews.{AreReviewed}
use Rattle.protections.proofs.AfterReview.{review_of}
use Rattle.protections.proofs.reviewing.review_edit.Goals.{then-is_empty+then-is_empty-2+in_ok-reviewed, else-is_empty+in_ok-reviewed-2}
use Rattle.protections.proofs.reviewing.review_edit.Goals as goal

none_there : {X : Type 0} (xs : List X) → length xs ≡ 0 → xs ≡ []
none_there [] none = refl
none_there (x ∷ xs) none = cc

pub review_added-requires-clause-others : goal.review_added-requires-clause-others
review_added-requires-clause-others c =
    let none : c.args.classes.now ≡ [] = none_there c.args.classes.now (eqb-true (length c.args.classes.now) 0 (sym c.is_empty-then-is_empty.ensures ∙ c.if-is_empty-2.true)) in
    subst (AreOthersApart c.args.standing.now c.args.net.now c.args.tree.now) none c.requires.others

pub review_added-requires-clause-unmoved : goal.review_added-requires-clause-unmoved
review_added-requires-clause-unmoved c =
    sym c.moved.ensures.list ∙ none_there c.moved.result.now (eqb-true (length c.moved.result.now) 0 (sym c.is_empty.ensures ∙ c.if-is_empty.true))

pub returns : goal.returns
returns c =
    let lists = c.args.standing.now in
    let found = found_in c.args.old.now in
    let reviewed : AreReviewed (built lists.present) found lists.present.premises c.if-is_empty.reviewed.items =
    elim c.if-is_empty.branch [
      | then-is_empty+then-is_empty-2+in_ok-reviewed w ↦
          subst (λ v. AreReviewed (built lists.present) found lists.present.premises v.items) (sym w.reviewed-is) w.in_ok-reviewed.ensures
      | else-is_empty+in_ok-reviewed-2 w ↦
          subst (λ v. AreReviewed (built lists.present) found lists.present.premises v.items) (sym w.reviewed-is) w.in_ok-reviewed-2.ensures
    ] in
    review_of lists.committed lists.present c.requires.edited.seen_then.network.sound.well_named c.requires.edited.seen_now.network.sound.well_named
    found c.requires.old c.args.erased.now c.in_ok-erased.erased.items c.requires.left_out c.in_ok-erased.ensures
    c.if-is_empty.reviewed.items reviewed
    (record { erased = c.in_ok-erased.erased; reviewed = c.if-is_empty.reviewed }) refl refl
