-- One more element at a search for the first.
use Rattle.std.proofs.Common.{◌≡◌, ℕ, ◌+◌, ◌<◌, Bool, true, false, List, length, IsTrue, refl, sym, ◌∙◌, subst, ap, below_more, arith}
use Rattle.std.proofs.lemmas.List.{get_or_read}
use Rattle.std.specs.Prelude.{Option, Some, None, slice_index_or}
use Rattle.std.specs.List.{All}
use Rattle.std.specs.declared.cmp.Ordering.{Ordering}
use Rattle.std.specs.declared.cmp.Ordering.TheVariants.{Less, Equal, Greater}
use Rattle.std.specs.Ordering.{is_gt, ordering_reverse, on}
use Rattle.tmm_model.specs.declared.token.TokenRow.{TokenRow}
use Rattle.tmm_model.specs.Types.{IsOrderOn}
use Rattle.belief_theory.specs.FirstPlaces.{IsFirstAmong, IsFirstPlaceAmong}
use Rattle.clipping.specs.Live.{IsLive}
use Rattle.any_order.specs.Ahead.{IsAhead}
use Rattle.belief_theory.proofs.Firsts.{upto, itself}

module _ {P : Type 0} {live : P → Type 0} {order : P → P → Ordering} (law : IsOrderOn live order) where
  pub turned : (x y : P) → live x → live y → is_gt (order x y) ≡ true → is_gt (order y x) ≡ false
  turned x y lx ly h = ap is_gt (law.antisymm y x ly lx) ∙ by (order x y) h
    where
      by : (r : Ordering) → is_gt r ≡ true → is_gt (ordering_reverse r) ≡ false
      by Less e = cc
      by Equal e = cc
      by Greater e = refl

  module _ (test : TokenRow P → Bool) (xs : List (TokenRow P)) (all : All (IsLive live) xs) where
    abbrev cmp : TokenRow P → TokenRow P → Ordering
    cmp = on (λ k. k.spot) order

    pub first_skipped : (i : ℕ) (best : Option ℕ) → IsFirstPlaceAmong cmp test xs i best → ((d : TokenRow P) → test (slice_index_or xs i d) ≡ false) → IsFirstPlaceAmong cmp test xs (i + 1) best
    first_skipped i None h out = λ j d. below_more (λ k. test (slice_index_or xs k d) ≡ false) i (λ k lt. h k d lt) (out d) j
    first_skipped i (Some b) h out =
        let lt : b < i = h.within in
        record {
          within = omega arith;
          passes = h.passes;
          least = λ j d. below_more (λ k. IsTrue (test (slice_index_or xs k d)) → is_gt (cmp (slice_index_or xs b d) (slice_index_or xs k d)) ≡ false) i (λ k. h.least k d) (λ t. let o : test (slice_index_or xs i d) ≡ false = out d in cc) j;
        }

    -- the element at i is the first of them
    now_first : (i : ℕ) → i < length xs → ((d : TokenRow P) → IsTrue (test (slice_index_or xs i d))) → ((k : ℕ) (d : TokenRow P) → k < i → IsTrue (test (slice_index_or xs k d)) → is_gt (cmp (slice_index_or xs i d) (slice_index_or xs k d)) ≡ false) → IsFirstAmong cmp test xs (i + 1) i
    now_first i lt sure least =
        record {
          within = omega arith;
          passes = sure;
          least = λ j d. below_more (λ k. IsTrue (test (slice_index_or xs k d)) → is_gt (cmp (slice_index_or xs i d) (slice_index_or xs k d)) ≡ false) i (λ k. least k d) (λ t. itself law (slice_index_or xs i d).spot (all i d lt).begin) j;
        }

    -- one that passes and is before the best place takes it
    first_taken : (i : ℕ) (best : Option ℕ) → i < length xs → IsFirstPlaceAmong cmp test xs i best → ((d : TokenRow P) → IsTrue (test (slice_index_or xs i d))) → IsAhead cmp xs best i true → IsFirstAmong cmp test xs (i + 1) i
    first_taken i None lt h sure e =
        now_first i lt sure (λ k d below t. let o : test (slice_index_or xs k d) ≡ false = h k d below in cc)
    first_taken i (Some b) lt h sure e =
        let below : b < i = h.within in
        let before : b < length xs = omega arith in
        now_first i lt sure (λ k d lower t. upto law (slice_index_or xs i d).spot (slice_index_or xs b d).spot (slice_index_or xs k d).spot (all i d lt).begin (all b d before).begin (all k d (omega arith)).begin (turned (slice_index_or xs b d).spot (slice_index_or xs i d).spot (all b d before).begin (all i d lt).begin (sym (e d))) (h.least k d lower t))

    -- the same for the element x that is read at i
    pub first_skip : (x : TokenRow P) (i : ℕ) (best : Option ℕ) → i < length xs → x ≡ slice_index_or xs i x → IsFirstPlaceAmong cmp test xs i best → test x ≡ false → IsFirstPlaceAmong cmp test xs (i + 1) best
    first_skip x i best lt is h out = first_skipped i best h (λ d. subst (λ y. test y ≡ false) (get_or_read xs i x lt is d) out)

    pub first_take : (x : TokenRow P) (i : ℕ) (best : Option ℕ) → i < length xs → x ≡ slice_index_or xs i x → IsFirstPlaceAmong cmp test xs i best → test x ≡ true → IsAhead cmp xs best i true → IsFirstPlaceAmong cmp test xs (i + 1) (Some i)
    first_take x i best lt is h sure e = first_taken i best lt h (λ d. subst (λ y. IsTrue (test y)) (get_or_read xs i x lt is d) sure) e
