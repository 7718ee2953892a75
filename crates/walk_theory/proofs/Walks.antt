-- Laws of walks.
use Rattle.std.proofs.Common.{◌≡◌, ◌++◌, List, [], ◌∷◌, ◌+ℤ◌, arith, ap, sym, refl}
use Rattle.std.specs.List.{Contains}
use Rattle.std.proofs.lemmas.Int.{ints}
use Rattle.tmm_model.specs.Walks.{Arc, total}
use Rattle.walk_theory.specs.LeastWalks.{IsWalk}

module _ {P : Type 0} where
  pub IsWalk-append : (arcs : List (Arc P)) (a c b : P) (v w : List (Arc P)) → IsWalk arcs a c v → IsWalk arcs c b w → IsWalk arcs a b (v ++ w)
  IsWalk-append arcs a c b [] w h k = rw h k
  IsWalk-append arcs a c b (e ∷ v) w h k = (h.0, h.1, IsWalk-append arcs e.to c b v w h.2 k)

  -- the walk stands in a list that has more
  pub IsWalk-kept : (old new : List (Arc P)) → ((x : Arc P) → Contains old x → Contains new x) → (a b : P) (walk : List (Arc P)) → IsWalk old a b walk → IsWalk new a b walk
  IsWalk-kept old new sub a b [] h = h
  IsWalk-kept old new sub a b (e ∷ walk) h = (sub e h.0, h.1, IsWalk-kept old new sub e.to b walk h.2)

  pub total-append : (v w : List (Arc P)) → total (v ++ w) ≡ total v +ℤ total w
  total-append [] w = omega (arith, ints)
  total-append (e ∷ v) w = omega (arith, ints, total-append v w)

  -- a walk that is not empty has a last constraint
  pub record Last (arcs : List (Arc P)) (a b : P) (walk : List (Arc P)) : Type 0 where
    pub front : List (Arc P)
    pub arc : Arc P
    pub is : walk ≡ front ++ arc ∷ []
    pub leads : IsWalk arcs a arc.from front
    pub member : Contains arcs arc
    pub ends : arc.to ≡ b

  pub last_of : (arcs : List (Arc P)) (a b : P) (e : Arc P) (walk : List (Arc P)) → IsWalk arcs a b (e ∷ walk) → Last arcs a b (e ∷ walk)
  last_of arcs a b e [] h = record { front = []; arc = e; is = refl; leads = sym h.1; member = h.0; ends = h.2 }
  last_of arcs a b e (f ∷ walk) h =
      let l : Last arcs e.to b (f ∷ walk) = last_of arcs e.to b f walk h.2 in
      record { front = e ∷ l.front; arc = l.arc; is = ap (λ (t : List (Arc P)). e ∷ t) l.is; leads = (h.0, h.1, l.leads); member = l.member; ends = l.ends }
