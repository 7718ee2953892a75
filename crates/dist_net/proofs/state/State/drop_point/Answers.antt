use Rattle.std.proofs.Common.{◌≢◌, subst, sym}
use Rattle.std.specs.List.{All}
use Rattle.dist_net.specs.Table.{Kept}
use Rattle.dist_net.proofs.Indexing.{AreIndexed-dropped}
use Rattle.dist_net.proofs.Points.{IsState-dropped}
use Rattle.dist_net.proofs.state.State.drop_point.Goals as goal

pub invariant_of-self : goal.invariant_of-self
invariant_of-self c =
    let inside = c.self.inside in
    let state : Kept = record { names = inside.names.items; edges = inside.edges.items; table = inside.table.items; limit = inside.limit } in
    let none : All (λ e. (e.from ≢ c.args.p) × (e.to ≢ c.args.p)) state.edges =
    subst (λ (s : Kept). All (λ e. (e.from ≢ c.args.p) × (e.to ≢ c.args.p)) s.edges) (sym c.self.view_is) c.requires.free in (
      IsState-dropped state c.args.p c.self.invariant.0 c.requires.other none,
      c.self.invariant.1,
      AreIndexed-dropped state.names inside.index c.args.p c.self.invariant.2,
    )
