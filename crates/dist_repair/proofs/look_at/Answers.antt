use Rattle.std.proofs.Common.{◌≡◌, ◌∙◌, inl, inr, ℕ, List, get_or, ap, sym, subst, refl}
use Rattle.std.specs.List.{Contains}
use Rattle.std.proofs.lemmas.List.{get_or_default}
use Rattle.std.proofs.lemmas.List.Elements.{Contains-get_or}
use Rattle.tmm_model.specs.declared.bound.Bound.{Bound}
use Rattle.walk_theory.specs.LeastWalks.{IsFar}
use Rattle.dist_net.specs.declared.Edge.{Edge}
use Rattle.dist_net.specs.Net.{Net, IsInUse, arcs_of}
use Rattle.dist_net.proofs.Ends.{ends_in_use}
use Rattle.dist_repair.specs.Rows.{rest_of, row_of}
use Rattle.dist_repair.proofs.Columns.{Contains-last}
use Rattle.dist_repair.proofs.Looking.{IsDone-beginning, IsFar-held_by, IsLooked-none}
use Rattle.dist_repair.proofs.look_at.Goals as goal
use Rattle.dist_repair.proofs.look_at.Goals.{then-is_raised+else-is_full, else-is_raised}

pub returns-clause-done : goal.returns-clause-done
returns-clause-done c answer d =
    let net : Net = c.args.net.now.present in
    let i : ℕ = c.args.i in
    let row : ℕ → Bound = row_of c.args.row.now in
    let f : Edge = get_or net.edges i d in
    let r : Edge = c.index-edges-i.result in
    let at : get_or c.edges.result.now i r ≡ f = ap (λ (t : List Edge). get_or t i r) c.edges.ensures.list ∙ get_or_default net.edges i r d c.requires.i in
    elim c.if-is_raised.branch [
      | then-is_raised+else-is_full w ↦ inl (subst (λ (l : List ℕ). Contains l i) (sym (ap (λ t. t.items) w.again-is ∙ w.push.ensures.items)) (Contains-last c.args.again.now.items i))
      | else-is_raised w ↦ (let far : IsFar (arcs_of net.edges) c.args.a f.from (row f.from) = subst (λ (e : Edge). IsFar (arcs_of net.edges) c.args.a e.from (row e.from)) at (w.if-is_raised.ensures refl) in
          let in_from : IsInUse net.names f.from = (ends_in_use net.names net.edges f c.edges.ensures.in_use (Contains-get_or net.edges i d c.requires.i)).0 in
          inr (IsDone-beginning (rest_of net c.args.place) c.args.a f row (row_of c.visit.new.row)
          (IsFar-held_by net c.args.place c.args.a f.from row c.requires.sound in_from far) (c.visit.ensures.relaxed d)))
    ]

pub returns-then-is_idle-clause-done : goal.returns-then-is_idle-clause-done
returns-then-is_idle-clause-done c answer d = inr (c.if-is_idle.ensures refl c.args.place d)

pub returns-then-is_idle-clause-looked : goal.returns-then-is_idle-clause-looked
returns-then-is_idle-clause-looked c = IsLooked-none c.args.net.now.present c.args.place c.args.a (row_of c.args.row.now) c.args.again.now.items c.requires.sound c.requires.places
