use Rattle.std.proofs.Common.{◌≡◌, ◌∙◌, ◌<◌, ◌*◌, ◌+◌, ◌-◌, List, take, drop, get_or, ap, sym, subst, arith}
use Rattle.std.proofs.lemmas.List.{get_or-take, get_or-drop}
use Rattle.tmm_model.specs.declared.bound.Bound.{Bound}
use Rattle.tmm_model.specs.declared.bound.Bound.TheVariants.{Free}
use Rattle.tmm_model.specs.Bounds.{IfFinite, IsWithin}
use Rattle.dist_net.specs.Net.{entry, IsInUse}
use Rattle.dist_net.specs.Table.{Kept, IsState}
use Rattle.dist_net.proofs.Names.{below_limit}
use Rattle.dist_net.proofs.States.{small_entry}
use Rattle.dist_net.proofs.state.State.row.Goals as goal

pub returns-clause-small : goal.returns-clause-small
returns-clause-small c b in_b =
    let inside = c.self.inside in
    let state : Kept = record { names = inside.names.items; edges = inside.edges.items; table = inside.table.items; limit = inside.limit } in
    let is : IsState state = c.self.invariant.0 in
    let used_a : IsInUse state.names c.args.a = subst (λ (s : Kept). IsInUse s.names c.args.a) (sym c.self.view_is) c.requires.from in
    let in_a : c.args.a < 256 = omega (arith, is.names.within, below_limit state.names state.limit c.args.a is.names used_a) in
    let read : get_or (take (c.args.a * 256 + 256 - c.args.a * 256) (drop (c.args.a * 256) c.deref.result.now)) b Free ≡ entry state.table c.args.a b =
    get_or-take (c.args.a * 256 + 256 - c.args.a * 256) (drop (c.args.a * 256) c.deref.result.now) b Free (omega (arith, in_b))
    ∙ (get_or-drop (c.args.a * 256) c.deref.result.now b Free ∙ ap (λ (t : List Bound). entry t c.args.a b) c.deref.ensures.value) in
    subst (λ (x : Bound). IfFinite x (IsWithin 255000000000)) (sym read) (small_entry state is c.args.a b in_a in_b)
