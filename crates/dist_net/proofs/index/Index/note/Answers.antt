use Rattle.std.proofs.Common.{◌≡◌, ◌∙◌, ◌<◌, Some, cond, length, ap, subst, refl, sym, arith}
use Rattle.std.specs.Prelude.{IsSome}
use Rattle.std.specs.Map.{lookup}
use Rattle.indexmap.specs.IndexMap.{get_by, spare}
use Rattle.tmm_model.specs.contracts.point.PointNamePartialEq.TheImpl as derived
use Rattle.dist_net.proofs.Indexing.{is_same, on_ok}
use Rattle.dist_net.proofs.index.Index.note.Goals as goal

pub returns-in-Some-clause-noted : goal.returns-in-Some-clause-noted
returns-in-Some-clause-noted c q =
    let there : IsSome (get_by (derived.eq-value.it c.args.name) c.self.inside.numbers) = subst IsSome c.in-Some.ensures.value refl in
    (λ i. lookup (sym is_same i q) (c.get_mut.follows.lender c.args.p).entries)
    ∙ ((c.get_mut.follows.holds c.args.p).3 there).0 q
    ∙ (λ i. cond (is_same i c.args.name q) (Some c.args.p) (lookup (is_same i q) (c.self.view_is i)))

pub returns-clause-noted : goal.returns-clause-noted
returns-clause-noted c q =
    let same = c.get_mut.follows.holds-at-none in
    let count : length c.self.inside.numbers.entries ≡ length c.args.self.now = ap length c.self.view_is in
    let before : 0 < spare c.self.inside.numbers = omega (arith, count, c.self.invariant, c.requires.room) in
    let room = subst (λ m. 0 < spare m) (sym same) before in
    (λ i. lookup (sym is_same i q) c.insert-room.new.self.entries)
    ∙ (on_ok c.insert-room.result (c.insert-room.ensures.succeeds room) c.insert-room.ensures.updates).0 q
    ∙ ap (λ m. cond (derived.eq-value.it c.args.name q) (Some c.args.p) (lookup (derived.eq-value.it q) m.entries)) same
    ∙ (λ i. cond (is_same i c.args.name q) (Some c.args.p) (lookup (is_same i q) (c.self.view_is i)))
