-- Which tokens of a touched class are looked at: all others keep what clipped them.
use Rattle.std.proofs.Common.{◌≡◌, ℕ, ◌+◌, ◌<◌, ◌≤◌, Bool, true, false, List, length, refl, sym, ◌∙◌, ap, subst, arith, inl, inr}
use Rattle.std.proofs.lemmas.Bool.{cases_order, cases_lt}
use Rattle.std.proofs.lemmas.Int.{ints}
use Rattle.std.proofs.lemmas.List.{length-map}
use Rattle.std.proofs.lemmas.List.Elements.{Contains-get_or}
use Rattle.std.specs.Prelude.{ℤ, ◌<ℤ◌, ◌≤ℤ◌, Option, Some, None, slice_index_or}
use Rattle.std.specs.List.{Contains}
use Rattle.std.specs.Option.{is_some}
use Rattle.tmm_model.specs.Beliefs.{are_rivals}
use Rattle.tmm_model.specs.declared.token.TokenRow.{TokenRow}
use Rattle.premise_list.specs.States.{States}
use Rattle.dist_net.specs.Net.{Net}
use Rattle.spots.specs.declared.spot.Spot.{Spot}
use Rattle.spots.specs.Forest.{Member, member}
use Rattle.spots.specs.Spots.{AreTokens, spot_early}
use Rattle.spots.proofs.Rows.{member_of_token}
use Rattle.occ_tree.specs.OfLists.{IsTreeIn}
use Rattle.occ_tree.specs.Places.{forest}
use Rattle.occ_tree.specs.Standing.{Kept, present, early, order}
use Rattle.occ_tree.specs.Tokens.{number_of, numbers_in, IsInOrder}
use Rattle.supports.proofs.ByDate.{by_date}
use Rattle.supports.proofs.ClassClips.{spot_here}
use Rattle.supports.proofs.TokenRows.{no_row}
use Rattle.belief_list.specs.declared.differing.Touched.{Touched}
use Rattle.belief_list.specs.declared.kept_rows.KeptRow.{KeptRow}
use Rattle.belief_list.specs.KeptRows.{row_under}
use Rattle.belief_list.specs.Told.{clip_of}
use Rattle.belief_list.specs.Finding.{mark_under, IsFirstAfter, AreTouched, IsClippedBefore, IsAhead, IsPastRivals, AreRivalsKept, MayClip, KeepsClip}
use Rattle.belief_list.proofs.Finding.{token_live, number_at, each_token}
use Rattle.belief_list.proofs.SameRivals.{rivals_kept}

-- ---- marked numbers of a list, and their dates

module _ (date : ℕ → ℤ) (touched : List Bool) (xs : List ℕ) where
  -- no marked number from the place on has a date before this one
  abbrev pub IsNext : ℕ → Option ℤ → Type 0
  IsNext i next = (j : ℕ) → i ≤ j → j < length xs → mark_under touched (slice_index_or xs j 0) ≡ true → (t : ℤ) × (next ≡ Some t) × (t ≤ℤ date (slice_index_or xs j 0))

  -- the number at a place is not marked, and what clipped it comes before all marked ones behind it
  abbrev pub IsPassed : List (Option KeptRow) → ℕ → Type 0
  IsPassed kept i =
      (mark_under touched (slice_index_or xs i 0) ≡ false) × (next : Option ℤ) × IsAhead kept touched (clip_of (row_under kept (slice_index_or xs i 0))) next × IsNext (i + 1) next

  -- where the dates rise, the first date is the number's own once it is marked
  pub next_more : ((i j : ℕ) → i < j → j < length xs → date (slice_index_or xs i 0) ≤ℤ date (slice_index_or xs j 0)) → (i : ℕ) (old new : Option ℤ) → IsNext (i + 1) old
      → (mark_under touched (slice_index_or xs i 0) ≡ true → new ≡ Some (date (slice_index_or xs i 0))) → (mark_under touched (slice_index_or xs i 0) ≡ false → new ≡ old) → IsNext i new
  next_more rise i old new behind own other_stays j from lt marked = by (mark_under touched (slice_index_or xs i 0)) refl
    where
      later : (j ≡ i → ⊥) → i < j
      later other = omega (arith, from, other)

      by : (b : Bool) → mark_under touched (slice_index_or xs i 0) ≡ b → (t : ℤ) × (new ≡ Some t) × (t ≤ℤ date (slice_index_or xs j 0))
      by true e = (
        date (slice_index_or xs i 0),
        own e,
        elim (cases_order i j) [
          | inl same ↦ (let one = ap (λ k. date (slice_index_or xs k 0)) same in omega (arith, ints, one))
          | inr other ↦ (elim other [
            | inl before ↦ rise i j before lt
            | inr after ↦ absurd (omega (arith, from, after))
          ])
        ],
      )
      by false e = elim (cases_order i j) [
        | inl same ↦ (let none : true ≡ false = sym marked ∙ ap (λ k. mark_under touched (slice_index_or xs k 0)) (sym same) ∙ e in absurd (cc none))
        | inr other ↦ (elim other [
          | inl before ↦ (let (t, is, le) = behind j (omega (arith, before)) lt marked in (t, other_stays e ∙ is, le))
          | inr after ↦ absurd (omega (arith, from, after))
        ])
      ]

-- premises let the token at a place keep what clipped it
abbrev pub IsRowPast : States → Kept → Touched → List (Option KeptRow) → List (TokenRow Spot) → ℕ → Type 0
IsRowPast lists k touched kept rows i =
    IsPastRivals lists kept touched (slice_index_or rows i no_row).fact (clip_of (row_under kept (slice_index_or (numbers_in rows) i 0))) (early (present k) (slice_index_or (numbers_in rows) i 0))

-- what comes before the first of some dates that is later than another one comes before each of them
-- that is
before_next : (kept : List (Option KeptRow)) (touched : List Bool) (dates : List ℤ) (date : ℤ) (clip : Option ℕ) (next : Option ℤ) → IsFirstAfter dates date next → IsAhead kept touched clip next
    → (d : ℤ) → Contains dates d → date <ℤ d → IsClippedBefore kept clip d
before_next kept touched dates date clip None first ahead d there later = let le = first d there in absurd (omega (arith, ints, le, later))
before_next kept touched dates date clip (Some t) (at, after, least) ahead d there later =
    let (c, q, own, row, early_q) = ahead.ahead t refl in
    let le = least d there later in
    (c, q, own, row, omega (arith, ints, le, early_q))

-- ---- the tokens of a class

module _ {net : Net} {k : Kept} (tree : IsTreeIn net k) {class : List ℕ} {rows : List (TokenRow Spot)} (are : AreTokens (forest k) class rows) (up : IsInOrder (order (present k)) (numbers_in rows)) where
  abbrev at : ℕ → ℕ
  at i = slice_index_or (numbers_in rows) i 0

  length-numbers : length (numbers_in rows) ≡ length rows
  length-numbers = length-map rows (λ (r : TokenRow Spot). number_of r.spot)

  date_at : (i : ℕ) → i < length rows → spot_early net (forest k) (slice_index_or rows i no_row).spot ≡ early (present k) (at i)
  date_at i lt =
      ap (spot_early net (forest k)) (spot_here (forest k) class rows are i no_row 0 lt)
      ∙ sym (tree.dated (at i) (token_live (forest k) class rows are i no_row lt (at i) (sym (number_at (forest k) class rows are i no_row lt))))

  -- their dates rise
  pub dates_rise : (i j : ℕ) → i < j → j < length (numbers_in rows) → early (present k) (at i) ≤ℤ early (present k) (at j)
  dates_rise i j lt within =
      let short : j < length rows = omega (arith, within, length-numbers) in
      let rises = (by_date tree are up).dates i j no_row lt short in
      let first = date_at i (omega (arith, lt, short)) in
      let second = date_at j short in
      omega (arith, ints, rises, first, second)

  -- if y was touched and has a later date than x, what clipped x has an earlier date than y
  abbrev Reached : List ℕ → List (Option KeptRow) → ℕ → ℕ → Type 0
  Reached nodes kept x y = Contains nodes y → early (present k) x <ℤ early (present k) y → IsClippedBefore kept (clip_of (row_under kept x)) (early (present k) y)

  module _ (lists : States) (touched : Touched) (nodes : List ℕ) (by_edit : AreTouched lists k nodes touched) (kept : List (Option KeptRow)) (i : ℕ) (lt : i < length rows)
      (passed : IsPassed (early (present k)) touched.marks.items (numbers_in rows) kept i)
      (past : IsRowPast lists k touched kept rows i) where
    abbrev fact : List ℕ
    fact = (slice_index_or rows i no_row).fact

    fact_is : (m : Member) → member (forest k) (at i) ≡ Some m → fact ≡ m.what
    fact_is m here =
        let (x, n, own, one) = member_of_token (forest k) class rows are (slice_index_or rows i no_row) (Contains-get_or rows i no_row lt) in
        let there : member (forest k) (at i) ≡ Some n = ap (member (forest k)) (sym (number_at (forest k) class rows are i no_row lt) ∙ ap number_of own.spot) ∙ own.here in
        let both : Some n ≡ Some m = sym there ∙ here in
        let same : n ≡ m = cc in
        own.fact ∙ ap (λ (z : Member). z.what) same

    -- the same facts contradict its own as before
    same_rivals : AreRivalsKept lists fact
    same_rivals = elim past [
      | inl plain ↦ (λ g. (plain g).0 ∙ sym (plain g).1)
      | inr clear ↦ rivals_kept lists touched.pairs.items by_edit.pairs fact clear.unchanged
    ]

    -- what clipped it comes before each touched token of the class
    reached : (j : ℕ) → j < length rows → Reached nodes kept (at i) (at j)
    reached j within touched_there later = elim (cases_lt i j) [
      | inl less ↦ (
          let (free, next, ahead, behind) = passed in
          let (t, is, le) = behind j (omega (arith, less)) (omega (arith, within, length-numbers)) (by_edit.marks (at j) touched_there) in
          let (c, q, clip, row, early_q) = ahead.ahead t is in
          (c, q, clip, row, omega (arith, ints, le, early_q)))
      | inr more ↦ absurd (elim (cases_order j i) [
        | inl same ↦ (let one = ap (λ z. early (present k) (at z)) same in omega (arith, ints, one, later))
        | inr other ↦ (elim other [
          | inl before ↦ (let le = dates_rise j i before (omega (arith, lt, length-numbers)) in omega (arith, ints, le, later))
          | inr after ↦ omega (arith, more, after)
        ])
      ])
    ]

    -- and before each that premises set against it
    past_rival : (n : Member) (y : ℕ) → member (forest k) y ≡ Some n → is_some n.class ≡ true → are_rivals lists.present fact n.what ≡ true → Reached nodes kept (at i) y
    past_rival n y at_y is_token rival touched_there later = elim past [
      | inl plain ↦ (let never : true ≡ false = sym rival ∙ (plain n.what).1 in absurd (cc never))
      | inr clear ↦ (elim by_edit.dates [
        | inl none ↦ (let never : true ≡ false = sym rival ∙ (none fact n.what).1 in absurd (cc never))
        | inr all ↦ before_next kept touched.marks.items touched.dates.items _ _ clear.next clear.first clear.ahead (early (present k) y) (all y touched_there n at_y is_token) later
      ])
    ]

    ahead_of : (n : Member) (y : ℕ) → member (forest k) y ≡ Some n → MayClip lists.present class fact n → Reached nodes kept (at i) y
    ahead_of n y at_y may = elim may [
      | inl own ↦ each_token (forest k) class rows are (Reached nodes kept (at i)) reached y n at_y own
      | inr (is_token, rival) ↦ past_rival n y at_y is_token rival
    ]

    -- **One that is passed over keeps what clipped it.**
    pub passed_keeps : KeepsClip lists k nodes kept class (at i)
    passed_keeps = record {
      own = λ touched_here. (let none : true ≡ false = sym (by_edit.marks (at i) touched_here) ∙ passed.0 in absurd (cc none));
      rivals = λ m here. subst (AreRivalsKept lists) (fact_is m here) same_rivals;
      free = λ c clip touched_there. (let none : true ≡ false = sym (by_edit.marks c touched_there) ∙ passed.2.free c clip in absurd (cc none));
      ahead = λ m n y here at_y may. ahead_of n y at_y (subst (λ f. MayClip lists.present class f n) (sym (fact_is m here)) may);
    }
