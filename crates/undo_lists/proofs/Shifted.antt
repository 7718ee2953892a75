-- Items behind free places, and items that move by one.
use Rattle.std.proofs.Common.{◌≡◌, ℕ, suc, ◌+◌, ◌-◌, ◌<◌, ◌≤◌, List, ◌++◌, length, take, drop, sym, ap, ◌∙◌, arith, insert, remove, append_assoc}
use Rattle.std.proofs.lemmas.List.{length-append, length-drop, length-take-le, take-append-drop, take-take, drop_at, drop-drop}
use Rattle.std.proofs.lemmas.List.Edits.{insert-append_right, remove-append_right}
use borrow.Rule.Slice.PartMut.{put_mid, mid_of}

module _ {T : Type 0} (xs : List T) (s p : ℕ) where
  -- ---- s places are free, and the items behind a place move

  pub drop-insert : (x : T) → s + p ≤ length xs → drop s (insert xs (s + p) x) ≡ insert (drop s xs) p x
  drop-insert x within =
      let long : length (take s xs) ≡ s = length-take-le s xs (omega (arith, within)) in
      let on : s + p - s ≡ p = omega arith in
      ap (λ l. drop s (insert l (s + p) x)) (sym (take-append-drop s xs))
      ∙ ap (drop s) (insert-append_right (take s xs) (drop s xs) s (s + p) x long (omega arith))
      ∙ drop_at (take s xs) (insert (drop s xs) (s + p - s) x) s long
      ∙ ap (λ k. insert (drop s xs) k x) on

  pub drop-remove : s + p < length xs → drop s (remove xs (s + p)) ≡ remove (drop s xs) p
  drop-remove within =
      let long : length (take s xs) ≡ s = length-take-le s xs (omega (arith, within)) in
      let on : s + p - s ≡ p = omega arith in
      ap (λ l. drop s (remove l (s + p))) (sym (take-append-drop s xs))
      ∙ ap (drop s) (remove-append_right (take s xs) (drop s xs) s (s + p) long (omega arith))
      ∙ drop_at (take s xs) (remove (drop s xs) (s + p - s)) s long
      ∙ ap (remove (drop s xs)) on

  -- ---- the items before a place move by one, over the item there

  -- k items from s on were rotated, so that the last is first
  module _ (k : ℕ) (ys : List T) (is_k : k ≡ p + 1) (within : s + p < length xs) (rotated : ys ≡ drop (length (mid_of s k xs) - 1) (mid_of s k xs) ++ take (length (mid_of s k xs) - 1) (mid_of s k xs)) where
    length-mid : length (mid_of s k xs) ≡ k
    length-mid = length-take-le k (drop s xs) (omega (arith, is_k, within, length-drop s xs))

    pub length-closed : length (put_mid s k xs ys) ≡ length xs
    length-closed =
        let mid : List T = take k (drop s xs) in
        let n : ℕ = length mid - 1 in
        let turned : length ys ≡ length (drop n mid) + length (take n mid) = ap (λ (l : List T). length l) rotated ∙ length-append (drop n mid) (take n mid) in
        let front : length (take s xs) ≡ s = length-take-le s xs (omega (arith, within)) in
        let short : length (take n mid) ≡ n = length-take-le n mid (omega arith) in
        omega (arith, is_k, within, turned, short, front, length-mid, length-drop n mid, length-drop s xs, length-drop k (drop s xs), length-append (take s xs) (ys ++ drop k (drop s xs)), length-append ys (drop k (drop s xs)))

    pub closed_up : drop (s + 1) (put_mid s k xs ys) ≡ remove (drop s xs) p
    closed_up =
        let mid : List T = take k (drop s xs) in
        let rest : List T = drop k (drop s xs) in
        let n : ℕ = length mid - 1 in
        let long : length (take s xs) ≡ s = length-take-le s xs (omega (arith, within)) in
        let is_p : n ≡ p = omega (arith, is_k, length-mid) in
        let one : length (drop n mid) ≡ 1 = omega (arith, is_k, length-mid, length-drop n mid) in
        let next : k ≡ suc p = omega (arith, is_k) in
        sym (drop-drop 1 s (put_mid s k xs ys))
        ∙ ap (drop 1) (drop_at (take s xs) (ys ++ rest) s long)
        ∙ ap (λ l. drop 1 (l ++ rest)) rotated
        ∙ ap (drop 1) (append_assoc (drop n mid) (take n mid) rest)
        ∙ drop_at (drop n mid) (take n mid ++ rest) 1 one
        ∙ ap (λ m. take m mid ++ rest) is_p
        ∙ ap (λ l. l ++ rest) (take-take p k (drop s xs) (omega (arith, is_k)))
        ∙ ap (λ m. take p (drop s xs) ++ drop m (drop s xs)) next
