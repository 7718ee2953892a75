use Rattle.std.proofs.Common.{◌∙◌, sym, subst, inl, inr}
use Rattle.list_theory.proofs.Elements.{In}
use Rattle.timeline.proofs.Held.{same_there, pushed}
use Rattle.timeline.proofs.holding.add.Goals as goal

pub returns-then-is_there : goal.returns-then-is_there
returns-then-is_there c h = (
  λ at. inl at,
  λ at. elim at [
    | inl there ↦ there
    | inr is ↦ subst (In h) c.as_slice.ensures.value (same_there c.as_slice.result.now c.args.held.now h (sym c.is_there.ensures ∙ c.if-is_there.true) is)
  ],
)

pub returns : goal.returns
returns c h = pushed c.args.holding.now.items c.args.held.now c.push.new.self.items c.in_ok-push.ensures.items h
