-- Lists with room for the tokens that are out.
use Rattle.std.proofs.Common.{◌≡◌, ◌≢◌, ℕ, zero, suc, Bool, true, false, cond, eqb, ◌+◌, ◌<◌, ◌≤◌, List, [], ◌∷◌, length, Option, Some, refl, sym, ap, ◌∙◌, subst, inl, inr, arith, eq-eqb, ne_eqb, remove, insert}
use Rattle.std.specs.Option.{option_map_or}
use Rattle.std.proofs.lemmas.Bool.{cases_eq, cond-true, cond-false}
use Rattle.std.proofs.lemmas.List.Edits.{length-remove, length-insert}
use Rattle.std.specs.List.{sum_by}
use Rattle.std.specs.List.Sorted.{IsPermutation}
use Rattle.std.proofs.lemmas.List.Recursion.{is_sum_by}
use Rattle.std.proofs.lemmas.List.Sorted.{sum_by-IsPermutation}
use Rattle.undo_lists.specs.Changes.{Logged, present, rooms}
use Rattle.undo_lists.specs.Rooms.{with_item, without_item}
use Rattle.tmm_model.specs.declared.token.TokenRow.{TokenRow}
use Rattle.spots.specs.declared.spot.Spot.{Spot}
use Rattle.occ_tree.specs.declared.node.Node.{Node}
use Rattle.occ_tree.specs.Nodes.{Nodes}
use Rattle.occ_tree.specs.Tokens.{HasList, HasRoom, is_of, count_of, HaveRoomFor}
use Rattle.occ_tree.proofs.TokenLists.{with_list-same, with_list-other}

-- whether a node's list is this one
abbrev is_list : ℕ → Option ℕ → Bool
is_list k list = option_map_or (eqb k) list false

module _ (node : Nodes) (x : ℕ) (n : Node) (at : node x ≡ Some n) where
  is_of-list : (k : ℕ) (list : Option ℕ) → n.list ≡ list → is_of node k x ≡ is_list k list
  is_of-list k list has = ap (λ o. option_map_or (λ (q : Node). is_list k q.list) o false) at ∙ ap (is_list k) has

  pub count_own : (k : ℕ) (out : List ℕ) → n.list ≡ Some k → count_of node k (x ∷ out) ≡ count_of node k out + 1
  count_own k out has = cond-true (is_of node k x) (count_of node k out + 1) (count_of node k out) (is_of-list k (Some k) has ∙ eq-eqb k k refl)

  pub count_other : (k m : ℕ) (out : List ℕ) → n.list ≡ Some k → m ≢ k → count_of node m (x ∷ out) ≡ count_of node m out
  count_other k m out has other = cond-false (is_of node m x) (count_of node m out + 1) (count_of node m out) (is_of-list m (Some k) has ∙ ne_eqb m k other)

  -- there is room for the first of those that are out
  pub room_first : (tokens : Logged (TokenRow Spot)) (out : List ℕ) → 0 < tokens.spare → HaveRoomFor node tokens (x ∷ out) → (k : ℕ) → HasList node x k → HasRoom tokens k
  room_first tokens out spare room k (q, q_at, list) =
      let both : Some n ≡ Some q = sym at ∙ q_at in
      let same : n ≡ q = cc in
      let count = count_own k out (ap (λ (z : Node). z.list) same ∙ list) in
      let r = room k (omega (arith, count)) in
      (omega (arith, r, count), spare)

  module _ (old new : Logged (TokenRow Spot)) (k i : ℕ) (out : List ℕ) (list : n.list ≡ Some k) (rooms_are : rooms new ≡ rooms old) where
    -- a token that leaves its list leaves room for it
    pub room_taken : present new ≡ without_item (present old) k i → i < length (present old k) → length (present new k) < rooms new k → HaveRoomFor node old out → HaveRoomFor node new (x ∷ out)
    room_taken is within left room = λ m some. elim (cases_eq m k) [
      | inl same ↦ subst (λ j. length (present new j) + count_of node j (x ∷ out) ≤ rooms new j) (sym same) (own (count_of node k out) refl)
      | inr other ↦
          let count = count_other k m out list other in
          let rows = ap (λ l. length (l m)) is ∙ ap length (with_list-other (present old) k (remove (present old k) i) m other) in
          let space = ap (λ r. r m) rooms_are in
          let r = room m (omega (arith, some, count)) in
          omega (arith, r, count, rows, space)
    ]
      where
        shorter : length (present new k) + 1 ≡ length (present old k)
        shorter = ap (λ l. length (l k) + 1) is ∙ ap (λ l. length l + 1) (with_list-same (present old) k (remove (present old k) i)) ∙ length-remove (present old k) i within

        own : (c : ℕ) → count_of node k out ≡ c → length (present new k) + count_of node k (x ∷ out) ≤ rooms new k
        own zero none = let count = count_own k out list in omega (arith, count, none, left)
        own (suc c) more =
            let count = count_own k out list in
            let r = room k (omega (arith, more)) in
            let space = ap (λ r. r k) rooms_are in
            omega (arith, count, r, shorter, space)

    -- one that enters its list takes its own
    pub room_put : (row : TokenRow Spot) → present new ≡ with_item (present old) k i row → i ≤ length (present old k) → HaveRoomFor node old (x ∷ out) → HaveRoomFor node new out
    room_put row is within room = λ m some. elim (cases_eq m k) [
      | inl same ↦ subst (λ j. length (present new j) + count_of node j out ≤ rooms new j) (sym same) own
      | inr other ↦
          let count = count_other k m out list other in
          let rows = ap (λ l. length (l m)) is ∙ ap length (with_list-other (present old) k (insert (present old k) i row) m other) in
          let space = ap (λ r. r m) rooms_are in
          let r = room m (omega (arith, some, count)) in
          omega (arith, r, count, rows, space)
    ]
      where
        longer : length (present new k) ≡ length (present old k) + 1
        longer = ap (λ l. length (l k)) is ∙ ap length (with_list-same (present old) k (insert (present old k) i row)) ∙ length-insert (present old k) i row within

        own : length (present new k) + count_of node k out ≤ rooms new k
        own =
            let count = count_own k out list in
            let r = room k (omega (arith, count)) in
            let space = ap (λ r. r k) rooms_are in
            omega (arith, count, r, longer, space)

-- ---- nodes of the same classes

pub room_kept : (a b : Nodes) (tokens : Logged (TokenRow Spot)) (out : List ℕ) → ((k y : ℕ) → is_of b k y ≡ is_of a k y) → HaveRoomFor a tokens out → HaveRoomFor b tokens out
room_kept a b tokens out same room = λ k some. let count = counts k out in let r = room k (omega (arith, some, count)) in omega (arith, r, count)
  where
    counts : (k : ℕ) (xs : List ℕ) → count_of b k xs ≡ count_of a k xs
    counts k [] = refl
    counts k (x ∷ xs) = λ i. cond (same k x i) (counts k xs i + 1) (counts k xs i)

-- ---- the same nodes in another order

pub room_sorted : (node : Nodes) (tokens : Logged (TokenRow Spot)) (xs ys : List ℕ) → IsPermutation xs ys → HaveRoomFor node tokens xs → HaveRoomFor node tokens ys
room_sorted node tokens xs ys same room = λ k some. let count = counts k in let r = room k (omega (arith, some, count)) in omega (arith, r, count)
  where
    more : (b : Bool) (c : ℕ) → cond b (c + 1) c ≡ cond b 1 0 + c
    more true c = omega arith
    more false c = omega arith

    sums : (k : ℕ) (zs : List ℕ) → count_of node k zs ≡ sum_by (λ x. cond (is_of node k x) 1 0) zs
    sums k zs = is_sum_by (count_of node k) (λ x. cond (is_of node k x) 1 0) refl (λ x l. more (is_of node k x) (count_of node k l)) zs

    counts : (k : ℕ) → count_of node k ys ≡ count_of node k xs
    counts k = sums k ys ∙ sum_by-IsPermutation (λ x. cond (is_of node k x) 1 0) xs ys same ∙ sym (sums k xs)
