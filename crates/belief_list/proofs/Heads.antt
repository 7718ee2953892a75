-- Nodes in the order of their dates and heads are in the order of nodes.
use Rattle.std.proofs.Common.{◌≡◌, ◌∙◌, ℕ, zero, suc, ◌+◌, ◌*◌, ◌<◌, Bool, true, false, List, [], ◌∷◌, ◌++◌, map, length, take, Some, refl, sym, ap, subst, arith, inl, inr, append_assoc}
use Rattle.std.specs.Prelude.{slice_index_or, nat_lt}
use Rattle.std.specs.List.{All}
use Rattle.std.specs.declared.cmp.Ordering.{Ordering}
use Rattle.std.specs.declared.cmp.Ordering.TheVariants.{Less, Equal, Greater}
use Rattle.std.specs.Ordering.{int_cmp, nat_cmp, is_lt, ordering_then, ordering_reverse}
use Rattle.std.specs.Cmp.{IsTotalOrder}
use Rattle.std.specs.Cmp.Lexicographic.{slice_cmp, nat_list_cmp_total}
use Rattle.std.proofs.lemmas.Bool.{cases_order, cases_lt}
use Rattle.std.proofs.lemmas.Bool.Decides.{Decides-ltb}
use Rattle.std.proofs.lemmas.Cmp.{ranked, then_total, on_total, int_cmp_total, nat_cmp_total}
use Rattle.std.proofs.lemmas.List.{append-nil, get_or-map, length-map}
use Rattle.tmm_model.specs.declared.point.PointName.TheVariants.{Begin}
use Rattle.tmm_model.specs.Moments.{Moment, At, After, along, printed}
use Rattle.tmm_model.specs.Points.{same_name, slashed}
use Rattle.tmm_model.specs.Standing.{Standing}
use Rattle.walk_theory.proofs.Points.{same_name-is, same_name-self}
use Rattle.list_theory.proofs.Elements.{In}
use Rattle.belief_theory.proofs.Order.{IsSpelt}
use Rattle.belief_theory.proofs.Spelt.{spelt}
use Rattle.dist_net.specs.Net.{Net}
use Rattle.spots.specs.declared.link.Link.{Link}
use Rattle.spots.specs.declared.node_row.NodeRow.{NodeRow}
use Rattle.spots.specs.Forest.{Forest, Member, member, IsLive, rules_of, last_name, moment_at}
use Rattle.spots.specs.OfLists.{IsForestOf}
use Rattle.spots.specs.Rows.{IsRow, IsRowOf}
use Rattle.spots.specs.Spots.{node_cmp, node_early}
use Rattle.spots.proofs.Nodes.{node_at, moment_at-is}
use Rattle.spots.proofs.Seen.{occurs_at}
use Rattle.occ_tree.specs.Dated.{IsDatedBy}
use Rattle.occ_tree.specs.Ranks.{rank_cmp}
use Rattle.occ_tree.specs.Standing.{State, forest, early, nodes_in}
use Rattle.occ_tree.specs.Words.{slash_if}
use Rattle.occ_tree.proofs.Ordered.{rank_is}
use Rattle.occ_tree.proofs.Ranking.{rank_total}
use Rattle.occ_tree.proofs.Wording.{Follows, cmp_parted, cmp-front, nat_cmp-itself}
use Rattle.belief_list.specs.declared.kept_rows.Difference.{Difference}
use Rattle.belief_list.specs.declared.told_changes.Headed.{Headed}
use Rattle.belief_list.specs.Heads.{told_in, front, AreBytes, head_text, IsHeaded, headed_cmp, AreHeadsInOrder}
use Rattle.belief_list.specs.Told.{AreRanked}

pub headed_total : (s : State) → IsTotalOrder (headed_cmp s)
headed_total s =
    then_total (on_total (λ (h : Headed). h.early) int_cmp_total)
    (then_total (on_total (λ (h : Headed). h.head) nat_cmp_total) (on_total (λ (h : Headed). h.difference.now.node) (rank_total (nodes_in s.rows))))

-- ---- the first byte in which two texts differ decides

less_is : (a b : ℕ) → a < b → nat_cmp a b ≡ Less
less_is a b lt = by (nat_cmp a b) refl
  where
    by : (o : Ordering) → o ≡ nat_cmp a b → nat_cmp a b ≡ Less
    by Less e = sym e
    by Equal e = let same : a ≡ b = ranked a b Equal e in absurd (omega (arith, lt, same))
    by Greater e = let more : b < a = ranked a b Greater e in absurd (omega (arith, lt, more))

lower_at : (n : ℕ) (v w : List ℕ) → ((i : ℕ) → i < n → slice_index_or v i 0 ≡ slice_index_or w i 0) → slice_index_or v n 0 < slice_index_or w n 0 → slice_cmp nat_cmp v w ≡ Less
lower_at zero [] [] same less = absurd (omega (arith, less))
lower_at (suc n) [] [] same less = absurd (omega (arith, less))
lower_at n [] (b ∷ w) same less = refl
lower_at zero (a ∷ v) [] same less = absurd (omega (arith, less))
lower_at (suc n) (a ∷ v) [] same less = absurd (omega (arith, less))
lower_at zero (a ∷ v) (b ∷ w) same less = ap (λ o. ordering_then o (slice_cmp nat_cmp v w)) (less_is a b less)
lower_at (suc n) (a ∷ v) (b ∷ w) same less =
    let first : a ≡ b = same zero (omega arith) in
    ap (λ z. ordering_then (nat_cmp a z) (slice_cmp nat_cmp v w)) (sym first)
    ∙ ap (λ o. ordering_then o (slice_cmp nat_cmp v w)) (nat_cmp-itself a)
    ∙ lower_at n v w (λ i lt. same (suc i) (omega (arith, lt))) less

same_bytes : (n : ℕ) (v w : List ℕ) → AreBytes n v → AreBytes n w → front n v ≡ front n w → (i : ℕ) → i < n → slice_index_or v i 0 ≡ slice_index_or w i 0
same_bytes zero v w bytes_v bytes_w same i lt = absurd (omega (arith, lt))
same_bytes (suc n) v w bytes_v bytes_w same i lt =
    let byte_v : slice_index_or v n 0 < 256 = bytes_v n (omega arith) in
    let byte_w : slice_index_or w n 0 < 256 = bytes_w n (omega arith) in
    let sums : front n v * 256 + slice_index_or v n 0 ≡ front n w * 256 + slice_index_or w n 0 = same in
    elim (cases_lt i n) [
      | inl before ↦ same_bytes n v w (λ j l. bytes_v j (omega (arith, l))) (λ j l. bytes_w j (omega (arith, l))) (omega (arith, sums, byte_v, byte_w)) i before
      | inr behind ↦ (let last : i ≡ n = omega (arith, lt, behind) in subst (λ j. slice_index_or v j 0 ≡ slice_index_or w j 0) (sym last) (omega (arith, sums, byte_v, byte_w)))
    ]

front_less : (n : ℕ) (v w : List ℕ) → AreBytes n v → AreBytes n w → front n v < front n w → slice_cmp nat_cmp v w ≡ Less
front_less zero v w bytes_v bytes_w less = absurd (omega (arith, less))
front_less (suc n) v w bytes_v bytes_w less =
    let byte_v : slice_index_or v n 0 < 256 = bytes_v n (omega arith) in
    let byte_w : slice_index_or w n 0 < 256 = bytes_w n (omega arith) in
    let sums : front n v * 256 + slice_index_or v n 0 < front n w * 256 + slice_index_or w n 0 = less in
    let first_v : AreBytes n v = λ j l. bytes_v j (omega (arith, l)) in
    let first_w : AreBytes n w = λ j l. bytes_w j (omega (arith, l)) in
    elim (cases_order (front n v) (front n w)) [
      | inl same ↦ lower_at n v w (same_bytes n v w first_v first_w same) (omega (arith, sums, same))
      | inr other ↦ (elim other [
        | inl before ↦ front_less n v w first_v first_w before
        | inr after ↦ absurd (omega (arith, sums, after, byte_v, byte_w))
      ])
    ]

-- ---- heads of words

one_more : (s t : List ℕ) → slice_cmp nat_cmp (take 1 s) (take 1 t) ≡ Less → slice_cmp nat_cmp s t ≡ Less
one_more [] [] less = less
one_more [] (b ∷ t) less = refl
one_more (a ∷ s) [] less = less
one_more (a ∷ s) (b ∷ t) less = by (nat_cmp a b) less
  where
    by : (o : Ordering) → ordering_then o Equal ≡ Less → ordering_then o (slice_cmp nat_cmp s t) ≡ Less
    by Less e = refl
    by Equal e = cc
    by Greater e = e

heads_less : (p q s t : List ℕ) → (In 47 p → ⊥) → (In 47 q → ⊥) → Follows s → Follows t → AreBytes 8 (p ++ take 1 s) → AreBytes 8 (q ++ take 1 t) → front 8 (p ++ take 1 s) < front 8 (q ++ take 1 t)
    → slice_cmp nat_cmp (p ++ s) (q ++ t) ≡ Less
heads_less p q s t no_p no_q f g bytes_p bytes_q less = by (same_name p q) refl
  where
    pieces : slice_cmp nat_cmp (p ++ take 1 s) (q ++ take 1 t) ≡ Less
    pieces = front_less 8 (p ++ take 1 s) (q ++ take 1 t) bytes_p bytes_q less

    by : (b : Bool) → same_name p q ≡ b → slice_cmp nat_cmp (p ++ s) (q ++ t) ≡ Less
    by true e =
        let one : p ≡ q = same_name-is p q e in
        ap (λ z. slice_cmp nat_cmp (p ++ s) (z ++ t)) (sym one)
        ∙ cmp-front p s t
        ∙ one_more s t (sym (cmp-front p (take 1 s) (take 1 t)) ∙ ap (λ z. slice_cmp nat_cmp (p ++ take 1 s) (z ++ take 1 t)) one ∙ pieces)
    by false e =
        cmp_parted p q s t (λ one. (let yes : same_name p q ≡ true = ap (same_name p) (sym one) ∙ same_name-self p in cc)) no_p no_q f g
        ∙ pieces

-- what leads on from a root begins with a slash
follows : (rules : List (List ℕ)) → Follows (slashed rules)
follows [] = tt
follows (r ∷ rules) = refl

-- the word of what rules lead on to
pub printed_along : (t : Moment) (rs : List (List ℕ)) → printed (along t rs) ≡ printed t ++ slashed rs
printed_along t [] = sym (append-nil (printed t))
printed_along t (r ∷ rs) = printed_along (After t r) rs ∙ append_assoc (printed t) (47 ∷ r) (slashed rs)

spelt_along : (t : Moment) (rs : List (List ℕ)) → IsSpelt (along t rs) → IsSpelt t
spelt_along t [] is = is
spelt_along t (r ∷ rs) is = (spelt_along (After t r) rs is).0

module _ (s : Standing) (net : Net) (k : State) (seen : IsForestOf s net (forest k)) (dated : IsDatedBy net k) where
  word_is : (x : ℕ) (m : Member) → member (forest k) x ≡ Some m → printed (moment_at (forest k) x) ≡ m.root ++ slashed (rules_of m)
  word_is x m here = ap printed (moment_at-is (forest k) x m here) ∙ printed_along (At (Begin m.root)) (rules_of m)

  plain_root : (x : ℕ) (m : Member) → member (forest k) x ≡ Some m → IsLive (forest k) x → In 47 m.root → ⊥
  plain_root x m here live =
      spelt_along (At (Begin m.root)) (rules_of m)
      (subst IsSpelt (moment_at-is (forest k) x m here) (spelt s seen.network.sound.well_formed (moment_at (forest k) x) (occurs_at s net (forest k) seen x live)))

  -- a lower head is of an earlier word
  words_less : (p q : Headed) → IsHeaded k p → IsHeaded k q → p.head < q.head → slice_cmp nat_cmp (printed (moment_at (forest k) p.difference.now.node)) (printed (moment_at (forest k) q.difference.now.node)) ≡ Less
  words_less p q is_p is_q less =
      let x = p.difference.now.node in
      let y = q.difference.now.node in
      let (m, here) = node_at (forest k) x is_p.live in
      let (n, there) = node_at (forest k) y is_q.live in
      let lower : front 8 (head_text m) < front 8 (head_text n) = subst (λ a. a < front 8 (head_text n)) (is_p.head m here) (subst (λ b. p.head < b) (is_q.head n there) less) in
      (λ i. slice_cmp nat_cmp (word_is x m here i) (word_is y n there i))
      ∙ heads_less m.root n.root (slashed (rules_of m)) (slashed (rules_of n)) (plain_root x m here is_p.live) (plain_root y n there is_q.live) (follows (rules_of m)) (follows (rules_of n))
      (is_p.bytes m here) (is_q.bytes n there) lower

  headed_is : (p q : Headed) → IsHeaded k p → IsHeaded k q → headed_cmp k p q ≡ rank_cmp k p.difference.now.node q.difference.now.node
  headed_is p q is_p is_q =
      (λ i. ordering_then (int_cmp ((is_p.date ∙ dated x is_p.live) i) ((is_q.date ∙ dated y is_q.live) i)) (ordering_then (nat_cmp p.head q.head) (rank_cmp k x y)))
      ∙ by (int_cmp (node_early net (forest k) x) (node_early net (forest k) y)) refl
      ∙ sym rank
    where
      x : ℕ
      x = p.difference.now.node

      y : ℕ
      y = q.difference.now.node

      words : Ordering
      words = slice_cmp nat_cmp (printed (moment_at (forest k) x)) (printed (moment_at (forest k) y))

      rank : rank_cmp k x y ≡ node_cmp net (forest k) x y
      rank = rank_is net k dated x y is_p.live is_q.live

      decided : (o : Ordering) → o ≡ nat_cmp p.head q.head → ordering_then (nat_cmp p.head q.head) words ≡ words
      decided Less e = ap (λ o. ordering_then o words) (sym e) ∙ sym (words_less p q is_p is_q (ranked p.head q.head Less e))
      decided Equal e = ap (λ o. ordering_then o words) (sym e)
      decided Greater e =
          ap (λ o. ordering_then o words) (sym e)
          ∙ sym (nat_list_cmp_total.antisymm (printed (moment_at (forest k) x)) (printed (moment_at (forest k) y)) ∙ ap ordering_reverse (words_less q p is_q is_p (ranked p.head q.head Greater e)))

      by : (o : Ordering) → int_cmp (node_early net (forest k) x) (node_early net (forest k) y) ≡ o
          → ordering_then (int_cmp (node_early net (forest k) x) (node_early net (forest k) y)) (ordering_then (nat_cmp p.head q.head) (rank_cmp k x y)) ≡ node_cmp net (forest k) x y
      by Less e = ap (λ o. ordering_then o (ordering_then (nat_cmp p.head q.head) (rank_cmp k x y))) e ∙ sym (ap (λ o. ordering_then o words) e)
      by Greater e = ap (λ o. ordering_then o (ordering_then (nat_cmp p.head q.head) (rank_cmp k x y))) e ∙ sym (ap (λ o. ordering_then o words) e)
      by Equal e =
          ap (λ o. ordering_then o (ordering_then (nat_cmp p.head q.head) (rank_cmp k x y))) e
          ∙ ap (λ r. ordering_then (nat_cmp p.head q.head) r) (rank ∙ ap (λ o. ordering_then o words) e)
          ∙ decided (nat_cmp p.head q.head) refl
          ∙ sym (ap (λ o. ordering_then o words) e)

  -- **In the order of dates and heads they are in the order of nodes.**
  pub heads_ranked : (headed : List Headed) → All (IsHeaded k) headed → AreHeadsInOrder k headed → AreRanked k (told_in headed)
  heads_ranked [] each up = λ i d from lt. absurd (omega (arith, lt))
  heads_ranked (e ∷ more) each up = λ i d from lt.
      let headed : List Headed = e ∷ more in
      let within : i + 1 < length headed = omega (arith, lt, length-map headed (λ (h : Headed). h.difference.now)) in
      let first = slice_index_or headed i e in
      let second = slice_index_or headed (i + 1) e in
      (λ j. is_lt (rank_cmp k (get_or-map (λ (h : Headed). h.difference.now) headed (i + 1) e d within j).node (get_or-map (λ (h : Headed). h.difference.now) headed i e d (omega (arith, within)) j).node))
      ∙ ap is_lt (sym (headed_is second first (each (i + 1) e within) (each i e (omega (arith, within)))))
      ∙ up i e from within

-- ---- the head of a node

slash_of : (links : List Link) (n : ℕ) → n ≡ length links → slash_if (nat_lt 0 n) ≡ take 1 (slashed (map (λ (l : Link). l.rule) links))
slash_of [] n e = ap (λ k. slash_if (nat_lt 0 k)) e
slash_of (l ∷ links) n e = ap slash_if ((Decides-ltb 0 n).1 (omega (arith, e)))

-- the name of the root, and `/` where there are rules
pub head_text_is : (f : Forest) (m : Member) (row root : NodeRow) → IsRow f m row → IsRowOf f row.root root → root.name ++ slash_if (nat_lt 0 row.rules) ≡ head_text m
head_text_is f m row root is root_is =
    let (n, there, same, none) = is.root in
    let name : root.name ≡ m.root = (root_is n there).name ∙ (λ i. last_name (same i) (none i)) in
    λ i. name i ++ slash_of m.links row.rules is.rules i

pub headed_from : (k : State) (h : Headed) (d : Difference) → h.difference.now ≡ d → IsLive (forest k) d.node → h.early ≡ early k d.node
    → ((m : Member) → member (forest k) d.node ≡ Some m → h.head ≡ front 8 (head_text m)) → ((m : Member) → member (forest k) d.node ≡ Some m → AreBytes 8 (head_text m)) → IsHeaded k h
headed_from k h d same live date head bytes = record {
  live = subst (λ (z : Difference). IsLive (forest k) z.node) (sym same) live;
  date = date ∙ ap (λ (z : Difference). early k z.node) (sym same);
  head = λ m here. head m (ap (λ (z : Difference). member (forest k) z.node) (sym same) ∙ here);
  bytes = λ m here. bytes m (ap (λ (z : Difference). member (forest k) z.node) (sym same) ∙ here);
}
