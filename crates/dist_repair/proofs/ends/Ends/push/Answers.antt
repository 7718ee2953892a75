use Rattle.std.proofs.Common.{◌≡◌, ◌<◌, ◌++◌, ◌∷◌, ◌∙◌, [], ℕ, List, Option, None, Some, length, refl, ap, sym, subst, slice_index_or}
use Rattle.std.specs.Prelude.{slice_set}
use Rattle.std.specs.List.{refill}
use Rattle.std.proofs.lemmas.List.{length-set}
use Rattle.dist_net.proofs.Adding.{refilled}
use Rattle.dist_repair.specs.Ends.{AreLinked}
use Rattle.dist_repair.proofs.Linked.{AreLinked-more}
use Rattle.dist_repair.proofs.ends.Ends.push.Goals as goal

pub invariant_of-self : goal.invariant_of-self
invariant_of-self c =
    let points : List ℕ = c.self.inside.points.items in
    let last : List (Option ℕ) = c.self.inside.last.items in
    let room : length points < 4000 = subst (λ (xs : List ℕ). length xs < 4000) (sym c.self.view_is) c.requires.room in
    let made : AreLinked (points ++ c.args.point ∷ []) (slice_set last c.args.point (Some (length points))) (c.self.inside.before.items ++ slice_index_or last c.args.point None ∷ []) =
    AreLinked-more points last c.self.inside.before.items c.args.point c.requires.point room c.self.invariant in
    let place : c.len-place.result ≡ length points = c.len-place.ensures.value in
    let written : refill (length last) last (slice_set c.deref_mut.result.now c.args.point (Some c.len-place.result)) ≡ slice_set last c.args.point (Some (length points)) =
    ap (λ (xs : List (Option ℕ)). refill (length last) last (slice_set xs c.args.point (Some c.len-place.result))) c.deref_mut.ensures.value
    ∙ (refilled last (slice_set last c.args.point (Some c.len-place.result)) (length last) refl (length-set last c.args.point (Some c.len-place.result))
    ∙ ap (λ (n : ℕ). slice_set last c.args.point (Some n)) place) in
    let front : c.push.new.self.items ≡ c.self.inside.before.items ++ slice_index_or last c.args.point None ∷ [] =
    c.push.ensures.items ∙ ap (λ (xs : List (Option ℕ)). c.self.inside.before.items ++ slice_index_or xs c.args.point None ∷ []) c.deref.ensures.0 in
    subst (λ (xs : List ℕ). AreLinked xs (refill (length last) last (slice_set c.deref_mut.result.now c.args.point (Some c.len-place.result))) c.push.new.self.items) (sym c.push-2.ensures.items)
    (subst (λ (xs : List (Option ℕ)). AreLinked (points ++ c.args.point ∷ []) xs c.push.new.self.items) (sym written)
    (subst (AreLinked (points ++ c.args.point ∷ []) (slice_set last c.args.point (Some (length points)))) (sym front) made))
