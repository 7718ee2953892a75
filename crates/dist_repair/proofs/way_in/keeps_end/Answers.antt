use Rattle.std.proofs.Common.{◌≡◌, ◌∙◌, ℕ, Bool, true, false, not, List, get_or, ap, sym, subst, refl}
use Rattle.std.specs.Prelude.{IsTrue}
use Rattle.walk_theory.specs.LeastWalks.{IsFar}
use Rattle.dist_net.specs.declared.Edge.{Edge}
use Rattle.dist_net.specs.Net.{Net, arcs_of}
use Rattle.dist_repair.specs.Rows.{rest_of}
use Rattle.dist_repair.proofs.Left.{IsNet}
use Rattle.dist_repair.proofs.Starts.{IsFar-safe, IsFar-to_first}
use Rattle.dist_repair.proofs.way_in.keeps_end.Goals as goal

negated : (b : Bool) → IsTrue (not b) → b ≡ false
negated true h = cc
negated false h = refl

-- the end of the edge, as the code reads it
ends : (net : Net) (i : ℕ) (seen : List Edge) (e : Edge) (q : ℕ) → seen ≡ net.edges → ((d : Edge) → (get_or net.edges i d).to ≡ q) → (get_or seen i e).to ≡ q
ends net i seen e q same to = ap (λ (t : List Edge). (get_or t i e).to) same ∙ to e

pub returns-then-to-from : goal.returns-then-to-from
returns-then-to-from c answer q x to far =
    let net : Net = c.args.net.now.present in
    let known : IsNet net = record { places = c.invariants.ensures.names; used = c.invariants.ensures.in_use; light = c.invariants.ensures.light; dates = c.invariants.ensures.dates } in
    let same : c.args.from ≡ q = sym c.if-to-from.true ∙ ends net c.args.i c.edges.result.now c.index-edges-i.result q c.edges.ensures.list to in
    let P : ℕ → Type 0 = λ p. IsFar (arcs_of net.edges) c.args.from p x in
    let Q : ℕ → Type 0 = λ p. IsFar (rest_of net c.args.place) c.args.from p x in
    subst Q same (IsFar-to_first net c.args.place known c.requires.place c.args.from c.args.from x c.requires.from (subst P (sym same) far))

pub returns : goal.returns
returns c answer q x to far =
    let net : Net = c.args.net.now.present in
    let known : IsNet net = record { places = c.invariants.ensures.names; used = c.invariants.ensures.in_use; light = c.invariants.ensures.light; dates = c.invariants.ensures.dates } in
    let e : Edge = c.index-edges-i.result in
    let b : ℕ = (get_or c.edges.result.now c.args.i e).to in
    let same : b ≡ q = ends net c.args.i c.edges.result.now e q c.edges.ensures.list to in
    let P : ℕ → Type 0 = λ p. IsFar (arcs_of net.edges) c.args.from p x in
    let Q : ℕ → Type 0 = λ p. IsFar (rest_of net c.args.place) c.args.from p x in
    subst Q same (IsFar-safe net c.args.place known c.requires.place c.args.from b e x (subst P (sym same) far) (c.is_suspect.ensures.safe (negated c.is_suspect.result answer) e))
