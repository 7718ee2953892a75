-- What stands in a word behind so many names.
use Rattle.std.proofs.Common.{◌≡◌, ℕ, zero, suc, Bool, true, false, ◌&&◌, ◌+◌, ◌<◌, ◌≤◌, List, [], ◌∷◌, ◌++◌, map, length, take, drop, Some, IsSome, refl, sym, ap, ◌∙◌, arith, append_assoc}
use Rattle.std.specs.Prelude.{nat_le}
use Rattle.std.proofs.Math.Dec.{ltb}
use Rattle.std.specs.List.{list_all}
use Rattle.std.specs.Option.{option_map_or}
use Rattle.std.proofs.lemmas.List.{append-nil, length-drop, take-append-drop, length_push, length-take-le}
use Rattle.tmm_model.specs.Names.{is_name, is_letter, is_name_byte}
use Rattle.list_theory.proofs.Elements.{both}
use Rattle.std.proofs.lemmas.Bool.{leb-true, ltb-true}
use Rattle.std.proofs.lemmas.Bool.Decides.{nat_tests}
use Rattle.occ_tree.specs.declared.node.Node.{Node}
use Rattle.occ_tree.specs.Ends.{way_ends}
use Rattle.occ_tree.specs.Nodes.{Nodes, name_at, way_to}
use Rattle.occ_tree.specs.Words.{slash_if, first_piece, piece_at}
use Rattle.occ_tree.proofs.Ways.{length-way, live_by_way}

-- a name has at most 24 bytes
pub short_name : (name : List ℕ) → is_name name ≡ true → length name ≤ 24
short_name [] word = omega arith
short_name (b ∷ bs) word = let few : length bs ≤ 23 = leb-true (length bs) 23 (both (is_letter b && list_all is_name_byte bs) (nat_le (length bs) 23) word).1 in omega (arith, few)

pub drop_past : (u : List ℕ) (k : ℕ) → length u ≤ k → drop k u ≡ []
drop_past [] zero past = refl
drop_past [] (suc k) past = refl
drop_past (x ∷ u) zero past = absurd (omega (arith, past))
drop_past (x ∷ u) (suc k) past = drop_past u k (omega (arith, past))

-- where one more is taken than so many, the last of them is the first behind these
pub drop_last : (u front : List ℕ) (k r : ℕ) → k < length u → take (k + 1) u ≡ front ++ r ∷ [] → drop k u ≡ r ∷ drop (k + 1) u
drop_last u front k r within is =
    let long : length front ≡ k = (let l = length_push front r in let t = length-take-le (k + 1) u (omega (arith, within)) in let e = ap length is in omega (arith, l, t, e)) in
    let whole : u ≡ front ++ (r ∷ drop (k + 1) u) = sym (take-append-drop (k + 1) u) ∙ ap (λ l. l ++ drop (k + 1) u) is ∙ append_assoc front (r ∷ []) (drop (k + 1) u) in
    ap (drop k) whole ∙ ap (λ n. drop n (front ++ (r ∷ drop (k + 1) u))) (sym long) ∙ drop_front front (r ∷ drop (k + 1) u)
  where
    drop_front : (a b : List ℕ) → drop (length a) (a ++ b) ≡ b
    drop_front [] b = refl
    drop_front (x ∷ a) b = drop_front a b

pub no_piece : (node : Nodes) (x k : ℕ) (n : Node) → node x ≡ Some n → n.depth < k → piece_at node x k ≡ []
no_piece node x k n at past =
    let long = length-way node x n at in
    ap (λ l. first_piece (map (name_at node) l)) (drop_past (way_to node x).numbers k (omega (arith, long, past)))

module _ (node : Nodes) (x k r : ℕ) (n : Node) (at : node x ≡ Some n) (within : k ≤ n.depth) (up : (way_to node r).numbers ≡ take (k + 1) (way_to node x).numbers) where
  pub ancestor_live : IsSome (node r)
  ancestor_live =
      let long = length-way node x n at in
      let taken = length-take-le (k + 1) (way_to node x).numbers (omega (arith, long, within)) in
      let e = ap length up in
      live_by_way node r (omega (arith, taken, e))

  pub is_piece : (q : Node) → node r ≡ Some q → piece_at node x k ≡ q.name ++ slash_if (ltb k n.depth)
  is_piece q q_at =
      let long = length-way node x n at in
      let way_long = length-way node r q q_at in
      let (front, ends) = way_ends node r (omega (arith, way_long)) in
      let rest = drop_last (way_to node x).numbers front k r (omega (arith, long, within)) (sym up ∙ ends) in
      ap (λ l. first_piece (map (name_at node) l)) rest ∙ by (ltb k n.depth) refl (drop (k + 1) (way_to node x).numbers) refl
    where
      name : name_at node r ≡ q.name
      name = ap (λ o. option_map_or (λ (z : Node). z.name) o []) q_at

      by : (t : Bool) → ltb k n.depth ≡ t → (rest : List ℕ) → drop (k + 1) (way_to node x).numbers ≡ rest → first_piece (name_at node r ∷ map (name_at node) rest) ≡ q.name ++ slash_if t
      by true less [] none = let long = length-way node x n at in let l = length-drop (k + 1) (way_to node x).numbers in let e = ap length none in let below = ltb-true k n.depth less in absurd (omega (arith, long, l, e, below))
      by true less (y ∷ rest) some = ap (λ p. p ++ 47 ∷ []) name
      by false all [] none = name ∙ sym (append-nil q.name)
      by false all (y ∷ rest) some = let long = length-way node x n at in let l = length-drop (k + 1) (way_to node x).numbers in let e = ap length some in let past : n.depth ≤ k = grind (arith, nat_tests) in absurd (omega (arith, long, l, e, past))
