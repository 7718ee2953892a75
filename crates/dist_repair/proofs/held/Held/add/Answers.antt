use Rattle.std.proofs.Common.{◌≡◌, ◌∙◌, ◌++◌, ◌∷◌, [], ℕ, List, Bool, true, length, refl, ap, sym, subst}
use Rattle.std.specs.Prelude.{slice_set}
use Rattle.std.specs.List.{refill}
use Rattle.std.proofs.lemmas.List.{length-set}
use Rattle.dist_net.proofs.Adding.{refilled}
use Rattle.dist_repair.specs.Held.{AreMarked}
use Rattle.dist_repair.proofs.Marked.{AreMarked-more}
use Rattle.dist_repair.proofs.held.Held.add.Goals as goal

pub invariant_of-self : goal.invariant_of-self
invariant_of-self c =
    let points : List ℕ = c.self.inside.points.items in
    let marks : List Bool = c.self.inside.marks.items in
    let written : refill (length marks) marks (slice_set c.deref_mut.result.now c.args.p true) ≡ slice_set marks c.args.p true =
    ap (λ (xs : List Bool). refill (length marks) marks (slice_set xs c.args.p true)) c.deref_mut.ensures.value
    ∙ refilled marks (slice_set marks c.args.p true) (length marks) refl (length-set marks c.args.p true) in
    subst (λ (xs : List ℕ). AreMarked xs (refill (length marks) marks (slice_set c.deref_mut.result.now c.args.p true))) (sym c.push.ensures.items)
    (subst (AreMarked (points ++ c.args.p ∷ [])) (sym written) (AreMarked-more points marks c.args.p c.requires c.self.invariant))
