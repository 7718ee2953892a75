use Rattle.std.proofs.Common.{◌∙◌, ◌+◌, ◌*◌, ℕ, set, length-set, sym, subst, refl}
use Rattle.dist_net.specs.Table.{AreTied}
use Rattle.dist_net.specs.Changes.{Listed}
use Rattle.dist_net.proofs.Tied.{AreTied-drafted, AreTied-read}
use Rattle.dist_net.proofs.DistNet.set_draft.Goals as goal

pub invariant_of-self : goal.invariant_of-self
invariant_of-self c =
    let inside = c.self.inside in
    let changes : Listed = c.deref_mut.result.now in
    let place : ℕ = c.args.a * 256 + c.args.b in
    let tied : AreTied inside.committed.value inside.present.value inside.draft.items changes inside.kept =
    AreTied-read inside.committed.value inside.present.value inside.draft.items inside.changes.value inside.kept inside.committed.value inside.present.value changes c.self.invariant.1
    refl refl c.deref_mut.ensures.value in (
      length-set inside.draft.items place c.args.far ∙ c.self.invariant.0,
      subst (λ (t : Listed). AreTied inside.committed.value inside.present.value (set inside.draft.items place c.args.far) t inside.kept) (sym c.note_draft.ensures.kept)
          (AreTied-drafted inside.committed.value inside.present.value inside.draft.items changes inside.kept place c.args.far c.note_draft.new.self.drafted tied c.note_draft.ensures.drafted),
      c.self.invariant.2,
      c.self.invariant.3,
      c.self.invariant.4,
    )
