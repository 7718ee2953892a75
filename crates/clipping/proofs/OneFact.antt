-- Stretches of tokens of one fact, and a search that passes over them.
use Rattle.std.proofs.Common.{◌≡◌, ℕ, ◌+◌, ◌-◌, ◌<◌, ◌≤◌, true, false, not, inl, inr, List, [], ◌∷◌, ◌++◌, length, refl, sym, ◌∙◌, ap, subst, arith}
use Rattle.std.specs.Prelude.{Some, slice_index_or, slice_get}
use Rattle.std.specs.Cmp.Lexicographic.{bytes_decides}
use Rattle.std.proofs.lemmas.Bool.{cases_lt, and_left, and_right, both_ways}
use Rattle.std.proofs.lemmas.List.{get_or-map, length-map, get_or_append_left, get_or_push, length-append, map-append}
use Rattle.std.proofs.lemmas.Option.{slice_get_within, get_or_from_slice_get}
use Rattle.tmm_model.specs.declared.bound.Bound.{Bound}
use Rattle.tmm_model.specs.declared.token.TokenRow.{TokenRow}
use Rattle.tmm_model.specs.Points.{same_name}
use Rattle.tmm_model.specs.Tokens.{of_one_class, is_before, clips}
use Rattle.clipping.specs.declared.stretches.Stretched.{Stretched}
use Rattle.clipping.specs.ByDate.{NonePass}
use Rattle.clipping.specs.Lasts.{IsLast}
use Rattle.clipping.specs.Stretches.{rows_of, IsStretch, HaveStretches}

-- **No token of its own fact clips a token.**
pub own_fact : {P : Type 0} (far : P → P → Bound) (k c : TokenRow P) → c.fact ≡ k.fact → clips of_one_class far k c ≡ false
own_fact far k c same =
    and_left (of_one_class k c) (is_before far k.spot c.spot)
    (and_right (same_name k.class c.class) (not (same_name k.fact c.fact)) (ap not ((bytes_decides k.fact c.fact).1 (sym same))))

-- a stretch stays where more tokens come behind it
stretch_stays : {P : Type 0} (rows more : List (TokenRow P)) (fact : List ℕ) (first n : ℕ) → n ≤ length rows → IsStretch rows fact first n → IsStretch (rows ++ more) fact first n
stretch_stays rows more fact first n le is = record {
  within = is.within;
  own = λ i d from lt. ap (λ r. r.fact) (get_or_append_left rows more d i (omega arith)) ∙ is.own i d from lt;
  other = λ i d next same. is.other i d next (ap (λ r. r.fact) (sym (get_or_append_left rows more d i (omega (arith, is.within)))) ∙ same);
}

module _ {P : Type 0} (tokens : List (Stretched P)) where
  abbrev rows : List (TokenRow P)
  rows = rows_of tokens

  many : length rows ≡ length tokens
  many = length-map tokens (λ (t : Stretched P). t.row)

  row_at : (i : ℕ) (d : TokenRow P) (e : Stretched P) → i < length tokens → slice_index_or rows i d ≡ (slice_index_or tokens i e).row
  row_at i d e lt = get_or-map (λ (t : Stretched P). t.row) tokens i e d lt

  -- the row of the token that is read at a place
  pub row_read : (n : ℕ) → n < length tokens → (token : Stretched P) → slice_index_or tokens n token ≡ token → (d : TokenRow P) → slice_index_or rows n d ≡ token.row
  row_read n lt token read d = row_at n d token lt ∙ ap (λ t. t.row) read

  stretch_at : HaveStretches tokens → (n : ℕ) → n < length tokens → (token : Stretched P) → slice_index_or tokens n token ≡ token → IsStretch rows token.row.fact token.first n
  stretch_at have n lt token read = subst (λ t. IsStretch rows t.row.fact t.first n) read (have n token lt)

  -- a stretch with the token behind it, which is of its fact too
  one_more : (fact : List ℕ) (first n : ℕ) → IsStretch rows fact first n → ((d : TokenRow P) → (slice_index_or rows n d).fact ≡ fact) → IsStretch rows fact first (n + 1)
  one_more fact first n is here = record {
    within = omega (arith, is.within);
    own = λ i d from lt. elim (cases_lt i n) [
      | inl less ↦ is.own i d from less
      | inr more ↦ (let at : n ≡ i = omega arith in subst (λ j. (slice_index_or rows j d).fact ≡ fact) at (here d))
    ];
    other = is.other;
  }

  -- the stretch of a token's fact that it goes up to, the token with it
  stretch_with : HaveStretches tokens → (n : ℕ) → n < length tokens → (token : Stretched P) → slice_index_or tokens n token ≡ token → (fact : List ℕ) → token.row.fact ≡ fact → IsStretch rows fact token.first (n + 1)
  stretch_with have n lt token read fact same =
      subst (λ f. IsStretch rows f token.first (n + 1)) same
      (one_more token.row.fact token.first n (stretch_at have n lt token read) (λ d. ap (λ r. r.fact) (row_read n lt token read d)))

  -- ---- one token more

  -- behind a last token of the fact its stretch goes on
  pub stretch_on : HaveStretches tokens → (last : Stretched P) → slice_get tokens (length tokens - 1) ≡ Some last → (fact : List ℕ) → same_name last.row.fact fact ≡ true → IsStretch rows fact last.first (length tokens)
  stretch_on have last is fact same =
      let lt = slice_get_within tokens (length tokens - 1) last is in
      let all : length tokens - 1 + 1 ≡ length tokens = omega arith in
      subst (IsStretch rows fact last.first) all
      (stretch_with have (length tokens - 1) lt last (get_or_from_slice_get tokens (length tokens - 1) last last is) fact ((bytes_decides last.row.fact fact).0 same))

  -- behind a last token of another fact a stretch begins
  pub stretch_begins : (last : Stretched P) → slice_get tokens (length tokens - 1) ≡ Some last → (fact : List ℕ) → same_name last.row.fact fact ≡ false → IsStretch rows fact (length tokens) (length tokens)
  stretch_begins last is fact differ =
      let lt = slice_get_within tokens (length tokens - 1) last is in
      record {
        within = omega arith;
        own = λ i d from lt. absurd (omega arith);
        other = λ i d next same.
            let at : length tokens - 1 ≡ i = omega arith in
            let here : (slice_index_or rows i d).fact ≡ last.row.fact =
            subst (λ j. (slice_index_or rows j d).fact ≡ last.row.fact) at
            (ap (λ r. r.fact) (row_read (length tokens - 1) lt last (get_or_from_slice_get tokens (length tokens - 1) last last is) d)) in
            both_ways (same_name last.row.fact fact) differ ((bytes_decides last.row.fact fact).1 (sym here ∙ same));
      }

  -- a token with its stretch comes behind them
  pub stretched_push : HaveStretches tokens → (token : Stretched P) → IsStretch rows token.row.fact token.first (length tokens) → HaveStretches (tokens ++ token ∷ [])
  stretched_push have token is n d lt = elim (cases_lt n (length tokens)) [
    | inl less ↦
        subst (λ t. IsStretch (rows_of (tokens ++ token ∷ [])) t.row.fact t.first n) (sym (get_or_append_left tokens (token ∷ []) d n less))
        (stays (slice_index_or tokens n d) n (omega arith) (have n d less))
    | inr more ↦
        let at : length tokens ≡ n = omega (arith, length-append tokens (token ∷ [])) in
        subst (λ j. IsStretch (rows_of (tokens ++ token ∷ [])) (slice_index_or (tokens ++ token ∷ []) j d).row.fact (slice_index_or (tokens ++ token ∷ []) j d).first j) at
        (subst (λ t. IsStretch (rows_of (tokens ++ token ∷ [])) t.row.fact t.first (length tokens)) (sym (get_or_push tokens token d (length tokens) refl))
        (stays token (length tokens) (omega arith) is))
  ]
    where
      pushed : rows ++ token.row ∷ [] ≡ rows_of (tokens ++ token ∷ [])
      pushed = sym (map-append (λ (t : Stretched P). t.row) tokens (token ∷ []))

      stays : (t : Stretched P) (i : ℕ) → i ≤ length tokens → IsStretch rows t.row.fact t.first i → IsStretch (rows_of (tokens ++ token ∷ [])) t.row.fact t.first i
      stays t i le h = subst (λ l. IsStretch l t.row.fact t.first i) pushed (stretch_stays rows (token.row ∷ []) t.row.fact t.first i (omega (arith, many)) h)

  -- ---- a search from the back

  module _ (far : P → P → Bound) (k : TokenRow P) (left : ℕ) (some : 0 < left) (within : left ≤ length tokens) (fails : NonePass (clips of_one_class far k) rows left (length rows))
      (token : Stretched P) (is : token ≡ slice_index_or tokens (left - 1) token) where
    -- a token of its own fact fails with its stretch
    pub passed_over : HaveStretches tokens → same_name token.row.fact k.fact ≡ true → NonePass (clips of_one_class far k) rows token.first (length rows)
    passed_over have same i d from lt = elim (cases_lt i left) [
      | inl less ↦
          let stretch = stretch_with have (left - 1) (omega arith) token (sym is) k.fact ((bytes_decides token.row.fact k.fact).0 same) in
          own_fact far k (slice_index_or rows i d) (stretch.own i d from (omega arith))
      | inr more ↦ fails i d more lt
    ]

    -- a token that does not clip it fails
    pub failed : clips of_one_class far k token.row ≡ false → NonePass (clips of_one_class far k) rows (left - 1) (length rows)
    failed out i d from lt = elim (cases_lt i left) [
      | inl less ↦
          let at : left - 1 ≡ i = omega arith in
          subst (λ j. clips of_one_class far k (slice_index_or rows j d) ≡ false) at (subst (λ r. clips of_one_class far k r ≡ false) (sym (row_read (left - 1) (omega arith) token (sym is) d)) out)
      | inr more ↦ fails i d more lt
    ]

    -- a token that clips it is the last that does
    pub found : clips of_one_class far k token.row ≡ true → IsLast (clips of_one_class far k) rows (left - 1)
    found passes = record {
      within = omega (arith, many);
      passes = λ d. subst (λ r. clips of_one_class far k r ≡ true) (sym (row_read (left - 1) (omega arith) token (sym is) d)) passes;
      fail = λ j d behind lt. fails j d (omega arith) lt;
    }
