use Rattle.std.proofs.Common.{◌-◌, ℕ, get_or, inl, inr, sym, subst, arith}
use Rattle.std.proofs.lemmas.Bool.{cases_eq, cases_lt}
use Rattle.neg_cycle.specs.Ends.{IsAt, HasTo, IsLastTo}
use Rattle.neg_cycle.proofs.Ranked.{IsFurther-more}
use Rattle.neg_cycle.proofs.ranks.Ways.visit_all.Goals as goal

pub loop-next-preserved : goal.loop-next-preserved
loop-next-preserved c =
    let edges = c.args.net.now.present.edges in
    let place = c.loop-next.next - 1 in
    let here : HasTo edges place c.args.p = c.loop-next.invariant.leads (omega arith) in
    let link : IsLastTo edges place c.args.p c.before-next.result = subst (IsLastTo edges place c.args.p) (sym c.before-next.ensures) (subst (λ (q : ℕ). IsLastTo edges place q (get_or c.args.ends.now.before.items place 0)) here.2 (c.requires.ends.before_it place here.0 here.1)) in
    record {
      ways = c.visit.ensures.ways;
      further = IsFurther-more c.args.self.now c.loop-next.self c.visit.new.self c.loop-next.invariant.further c.visit.ensures.further;
      leads = link.leads;
      visited = λ k f below at to tight.
          elim (cases_lt k place) [
            | inl sooner ↦ absurd (omega (arith, below, link.last k f sooner at to))
            | inr later ↦ elim (cases_eq k place) [
              | inl same ↦ c.visit.ensures.visited f (subst (λ (j : ℕ). IsAt edges j f) same at) tight
              | inr other ↦ (let some = c.loop-next.invariant.visited k f (omega (arith, later, other)) at to tight in omega (arith, some, c.visit.ensures.further.kept f.from some))
            ]
          ];
    }
