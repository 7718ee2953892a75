-- Names that are written behind a `/`, each with the zeros behind it.
use Rattle.std.proofs.Common.{◌≡◌, ℕ, ◌+◌, ◌≤◌, List, [], ◌∷◌, ◌++◌, length, take, slice_set, ap, sym, ◌∙◌, arith, append_assoc, length-take-le, take-add, take-take, take_at, drop_at}
use Rattle.std.proofs.lemmas.List.{length-set, take_more_set}
use Rattle.std.proofs.lemmas.Slice.{take-put_mid}
use borrow.Rule.Slice.PartMut.{put_mid}

-- what counts of a name that is written at a place, with its padding
pub link_written : (xs bytes ys : List ℕ) (at k len : ℕ) → at + 25 ≤ length xs → length bytes ≡ 24 → len ≤ 24 → ys ≡ bytes → take (at + 1 + len) (put_mid (at + 1) k (slice_set xs at 47) ys) ≡ take at xs ++ 47 ∷ take len bytes
link_written xs bytes ys at k len room size within same =
    let s = slice_set xs at 47 in
    let long : length s ≡ length xs = length-set xs at 47 in
    let many = ap length same in
    let front = length-take-le (at + 1) s (omega (arith, long, room)) in
    sym (take-take (at + 1 + len) (at + 25) (put_mid (at + 1) k s ys) (omega (arith, within)))
    ∙ ap (take (at + 1 + len)) (take-put_mid (at + 1) k s ys (at + 25) (omega (arith, many, size)) (omega (arith, long, room)))
    ∙ take-add (at + 1) len (take (at + 1) s ++ ys)
    ∙ (λ i. take_at (take (at + 1) s) ys (at + 1) front i ++ take len (drop_at (take (at + 1) s) ys (at + 1) front i))
    ∙ (λ i. take_more_set xs at 47 (omega (arith, room)) i ++ take len (same i))
    ∙ append_assoc (take at xs) (47 ∷ []) (take len bytes)
