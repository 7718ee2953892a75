use Rattle.std.proofs.Common.{ℕ, ◌+◌, ap, sym, ◌∙◌, ℤ, subst, arith}
use Rattle.std.specs.Prelude.{◌+ℤ◌, ◌≤ℤ◌, pos}
use Rattle.tmm_model.specs.declared.bound.Bound.{Bound}
use Rattle.tmm_model.specs.Bounds.{IfFinite}
use Rattle.spots.proofs.Delays.{both_fit, both_seen, low_seen, low_push, bounded-finite, unbounded-finite, bounded-free, unbounded-free, sums_small}
use Rattle.spots.proofs.sums.Sums.with.Goals as goal

pub overflow_add-low : goal.overflow_add-low
overflow_add-low c =
    let (links, light, room, are) = c.requires.room in
    let (low, _, _) = sums_small c.args.self links light are in
    both_fit c.args.self.low c.args.link.now.lo low (c.requires.light.least, c.requires.light.most)

pub overflow_add-result : goal.overflow_add-result
overflow_add-result c =
    let (links, light, room, are) = c.requires.room in
    let (_, bounded, _) = sums_small c.args.self links light are in
    let most = subst (λ (x : Bound). IfFinite x (λ h. (pos 0 ≤ℤ h) × (h ≤ℤ pos 1000000000))) c.in-Finite.is c.requires.light.high in
    both_fit c.args.self.bounded c.in-Finite.hi bounded most

pub overflow_add-result-in-Free : goal.overflow_add-result-in-Free
overflow_add-result-in-Free c =
    let (links, light, room, are) = c.requires.room in
    let (_, _, few) = sums_small c.args.self links light are in
    omega (arith, few)

pub returns-in-Finite : goal.returns-in-Finite
returns-in-Finite c links of_links =
    let (known, light, room, are) = c.requires.room in
    let (low, bounded, _) = sums_small c.args.self known light are in
    let l = c.args.link.now in
    let most = subst (λ (x : Bound). IfFinite x (λ h. (pos 0 ≤ℤ h) × (h ≤ℤ pos 1000000000))) c.in-Finite.is c.requires.light.high in
    record {
      low = both_seen c.args.self.low l.lo low (c.requires.light.least, c.requires.light.most) ∙ ap (λ (z : ℤ). z +ℤ l.lo) of_links.low ∙ sym (low_push links l);
      bounded = both_seen c.args.self.bounded c.in-Finite.hi bounded most ∙ ap (λ (z : ℤ). z +ℤ c.in-Finite.hi) of_links.bounded ∙ sym (bounded-finite links l c.in-Finite.hi c.in-Finite.is);
      unbounded = of_links.unbounded ∙ sym (unbounded-finite links l c.in-Finite.hi c.in-Finite.is);
    }

pub returns-in-Free : goal.returns-in-Free
returns-in-Free c links of_links =
    let (known, light, room, are) = c.requires.room in
    let (low, bounded, _) = sums_small c.args.self known light are in
    let l = c.args.link.now in
    record {
      low = both_seen c.args.self.low l.lo low (c.requires.light.least, c.requires.light.most) ∙ ap (λ (z : ℤ). z +ℤ l.lo) of_links.low ∙ sym (low_push links l);
      bounded = low_seen c.args.self.bounded bounded ∙ of_links.bounded ∙ sym (bounded-free links l c.in-Free.is);
      unbounded = ap (λ (n : ℕ). n + 1) of_links.unbounded ∙ sym (unbounded-free links l c.in-Free.is);
    }
