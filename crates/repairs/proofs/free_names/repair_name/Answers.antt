use Rattle.std.proofs.Common.{◌≡◌, ◌∙◌, ap, subst, true, ℕ, List}
use Rattle.std.proofs.lemmas.Bool.{false≢true}
use Rattle.std.specs.Prelude.{None, IsSome}
use Rattle.tmm_model.specs.Names.{is_name}
use Rattle.repairs.proofs.FreeNames.{named}
use Rattle.repairs.proofs.free_names.repair_name.Goals as goal

pub unreachable-requires : goal.unreachable-requires
unreachable-requires c =
    let is : is_name c.as_slice.result.now ≡ true = ap is_name (c.as_slice.ensures.value ∙ c.repair_bytes.ensures) ∙ named c.args.number c.requires in
    let some : IsSome {T = List ℕ} None = subst IsSome c.in-None.is (c.of.ensures.some.1 is) in
    false≢true some
