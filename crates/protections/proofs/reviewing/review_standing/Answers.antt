use Rattle.std.proofs.Common.{◌≡◌, ◌∙◌, ◌+◌, ◌++◌, ◌∷◌, List, [], ap, sym, subst, take, refl}
use Rattle.std.specs.Prelude.{Option, Some, None, slice_get}
use Rattle.std.specs.List.{cons_option}
use Rattle.std.specs.Option.{option_copied}
use Rattle.std.proofs.lemmas.List.{append-nil}
use Rattle.std.proofs.lemmas.Option.{slice_get_within, get_or_from_slice_get}
use Rattle.tmm_model.specs.declared.premise.Premise.{Premise}
use Rattle.tmm_model.specs.Maps.{built}
use Rattle.protections.specs.declared.review.Reviewed.{Reviewed}
use Rattle.protections.specs.Found.{found_in}
use Rattle.protections.specs.Reviews.{Reviews, AreReviewed}
use Rattle.protections.proofs.Reviews.{reviewed_push}
use Rattle.protections.proofs.Turns.{take_next}
use Rattle.protections.proofs.reviewing.review_standing.Goals.{then-not-is_left_alone+in_ok-look-in-Some+in_ok-push_some_to-in-Some, else-not-is_left_alone}
use Rattle.protections.proofs.reviewing.review_standing.Goals as goal

pub loop-i-preserved : goal.loop-i-preserved
loop-i-preserved c =
    let m = built c.args.map.now.standing.now.present in
    let found = found_in c.args.old.now in
    let ps = c.args.map.now.standing.now.present.premises in
    let i = c.loop-i.i in
    let p = c.in-Some.premise.now in
    let rs = c.loop-i.found.items in
    let at : slice_get ps i ≡ Some p = sym c.at.ensures ∙ ap option_copied c.in-Some.is in
    let taken : take (i + 1) ps ≡ take i ps ++ p ∷ [] = take_next ps i p p (slice_get_within ps i p at) (get_or_from_slice_get ps i p p at) in
    let next : (o : Option Reviewed) → Reviews m found p o → (more : List Reviewed) → more ≡ rs ++ cons_option o [] → AreReviewed m found (take (i + 1) ps) more =
    λ o one more is.
    subst (λ (l : List Premise). AreReviewed m found l more) (sym taken)
    (subst (λ (l : List Reviewed). AreReviewed m found (take i ps ++ p ∷ []) l) (sym is)
    (reviewed_push m found (take i ps) rs p o c.loop-i.invariant one)) in
    elim c.if-not-is_left_alone.branch [
      | then-not-is_left_alone+in_ok-look-in-Some+in_ok-push_some_to-in-Some w ↦ next w.in_ok-look-in-Some.field-0 w.in_ok-look-in-Some.ensures _ (ap (λ v. v.items) w.found-is ∙ w.in_ok-push_some_to-in-Some.ensures)
      | else-not-is_left_alone w ↦ next None (w.if-not-is_left_alone.ensures refl found c.requires.old) _ (ap (λ v. v.items) w.found-is ∙ sym (append-nil rs))
    ]
