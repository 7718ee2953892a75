use Rattle.std.proofs.Common.{◌∙◌, nat_eq}
use Rattle.std.specs.Cmp.Lexicographic.{pointwise}
use Rattle.tmm_model.proofs.Padded.{equal_padded}
use Rattle.tmm_model.proofs.name.NamePartialEq.eq.Goals as goal

pub returns-then-self-other : goal.returns-then-self-other
returns-then-self-other c =
    c.same_bytes.ensures
    ∙ equal_padded c.self.inside.bytes c.other.inside.bytes c.self.inside.len c.other.inside.len c.self.invariant c.other.invariant c.if-self-other.true
    ∙ (λ i. pointwise nat_eq (c.self.view_is i) (c.other.view_is i))
