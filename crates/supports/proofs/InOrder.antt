-- Entries that are sorted.
use Rattle.std.proofs.Common.{◌≡◌, ◌∙◌, ℕ, zero, suc, ◌+◌, ◌-◌, ◌<◌, ◌≤◌, inl, inr, false, List, length, refl, sym, subst, arith}
use Rattle.std.specs.Prelude.{◌⊎◌}
use Rattle.std.specs.List.Sorted.{IsSorted}
use Rattle.std.specs.declared.cmp.Ordering.{Ordering}
use Rattle.std.specs.declared.cmp.Ordering.TheVariants.{Less, Equal, Greater}
use Rattle.std.specs.Ordering.{is_lt, nat_cmp, ordering_then, MatchOrdering}
use Rattle.std.proofs.lemmas.Cmp.{ranked}
use Rattle.supports.specs.declared.entries.Entry.{Entry}
use Rattle.supports.specs.Entries.{no_entry, entry_at, AreSorted}

-- by the nodes, and then by the places
abbrev pub entry_cmp : Entry → Entry → Ordering
entry_cmp a b = ordering_then (nat_cmp a.node b.node) (nat_cmp a.place b.place)

abbrev Up : Entry → Entry → Type 0
Up a b = (a.node < b.node) ⊎ ((a.node ≡ b.node) × (a.place ≤ b.place))

no_lower : (a b : ℕ) → is_lt (nat_cmp b a) ≡ false → a ≤ b
no_lower a b e = by (nat_cmp b a) (ranked b a (nat_cmp b a) refl) e
  where
    by : (r : Ordering) → MatchOrdering r (b < a) (b ≡ a) (a < b) → is_lt r ≡ false → a ≤ b
    by Less h e = cc
    by Equal h e = omega (arith, h)
    by Greater h e = omega (arith, h)

up : (a b : Entry) → is_lt (entry_cmp b a) ≡ false → Up a b
up a b e = by (nat_cmp b.node a.node) (ranked b.node a.node (nat_cmp b.node a.node) refl) e
  where
    by : (r : Ordering) → MatchOrdering r (b.node < a.node) (b.node ≡ a.node) (a.node < b.node) → is_lt (ordering_then r (nat_cmp b.place a.place)) ≡ false → Up a b
    by Less h e = cc
    by Equal h e = inr (sym h, no_lower a.place b.place e)
    by Greater h e = inl h

up_on : (a b c : Entry) → Up a b → Up b c → Up a c
up_on a b c (inl p) (inl q) = inl (omega (arith, p, q))
up_on a b c (inl p) (inr (q, _)) = inl (omega (arith, p, q))
up_on a b c (inr (p, _)) (inl q) = inl (omega (arith, p, q))
up_on a b c (inr (p, le)) (inr (q, less)) = inr (p ∙ q, omega (arith, le, less))

module _ (entries : List Entry) (sorted : IsSorted entry_cmp entries) where
  next : (i : ℕ) → i + 1 < length entries → Up (entry_at entries i) (entry_at entries (i + 1))
  next i lt = up (entry_at entries i) (entry_at entries (i + 1)) (sorted i no_entry (omega arith) lt)

  beyond : (n i : ℕ) → i + 1 + n < length entries → Up (entry_at entries i) (entry_at entries (i + 1 + n))
  beyond zero i lt = let at : i + 1 ≡ i + 1 + zero = omega arith in subst (λ j. Up (entry_at entries i) (entry_at entries j)) at (next i (omega (arith, lt)))
  beyond (suc n) i lt =
      let at : i + 1 + n + 1 ≡ i + 1 + suc n = omega arith in
      subst (λ j. Up (entry_at entries i) (entry_at entries j)) at
      (up_on (entry_at entries i) (entry_at entries (i + 1 + n)) (entry_at entries (i + 1 + n + 1)) (beyond n i (omega (arith, lt))) (next (i + 1 + n) (omega (arith, lt))))

  pub all_up : AreSorted entries
  all_up i j less lt =
      let n : ℕ = j - (i + 1) in
      let at : i + 1 + n ≡ j = omega (arith, less) in
      subst (λ k. Up (entry_at entries i) (entry_at entries k)) at (beyond n i (omega (arith, at, lt)))
