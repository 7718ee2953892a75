-- Edges taken out from the last on.
use Rattle.std.proofs.Common.{◌≡◌, ◌∙◌, ◌≤◌, ◌+◌, ◌-◌, ℕ, List, length, take, set, get_or, ap, arith}
use Rattle.std.specs.List.{swap_remove}
use Rattle.std.proofs.lemmas.List.{length-take, take-set-le, take-take}
use Rattle.dist_net.specs.declared.Edge.{Edge}
use Rattle.dist_net.specs.Net.{Net, Nets}
use Rattle.dist_net.proofs.Ends.{edge_at}

-- the edges before the place are left
pub record IsErasingLast (old : Nets) (place : ℕ) (now : Nets) : Type 0 where
  pub present : now.present ≡ record old.present { edges = take place old.present.edges }
  pub committed : now.committed ≡ old.committed
  pub within : place ≤ length old.present.edges

-- the last edge is taken out
pub IsErasingLast-more : (old : Nets) (place : ℕ) (now new : Nets) → IsErasingLast old (place + 1) now → ((d : Edge) → new.present ≡ record now.present { edges = swap_remove now.present.edges place d })
    → new.committed ≡ now.committed → IsErasingLast old place new
IsErasingLast-more old place now new is taken committed =
    let edges = old.present.edges in
    let front : List Edge = take (place + 1) edges in
    let d : Edge = (edge_at edges place (omega (arith, is.within))).0 in
    let at_front : now.present.edges ≡ front = ap (λ (n : Net). n.edges) is.present in
    let many : length front - 1 ≡ place = omega (arith, length-take (place + 1) edges, is.within) in
    let last : Edge = get_or front (length front - 1) d in
    let left : swap_remove front place d ≡ take place edges =
    ap (λ (k : ℕ). take k (set front place last)) many ∙ take-set-le place front place last (omega arith) ∙ take-take place (place + 1) edges (omega arith) in
    record {
      present = taken d ∙ ap (λ (n : Net). record n { edges = swap_remove n.edges place d }) is.present ∙ ap (λ (l : List Edge). record old.present { edges = l }) left;
      committed = committed ∙ is.committed;
      within = omega (arith, is.within);
    }
