-- Where the first word of a line begins and ends.
use Rattle.std.proofs.Common.{◌≡◌, ℕ, suc, ◌+◌, ◌-◌, ◌<◌, ◌≤◌, Bool, true, false, not, List, [], ◌∷◌, ◌++◌, length, take, drop, Option, Some, None, refl, sym, ap, subst, ◌∙◌, inl, inr, arith}
use Rattle.std.specs.Prelude.{unwrap_or, position, slice_range}
use Rattle.std.specs.List.{prefix_len, position_or_len, list_all}
use Rattle.std.proofs.lemmas.Bool.{and_parts, and_from, cond-true, cases_Bool, cases_lt, ltb-true, lt-ltb, le-ltb, not-true, not_from_false}
use Rattle.std.proofs.lemmas.List.{append-nil, drop-drop, take-append-drop, length-drop, length-take-le}
use Rattle.std.proofs.lemmas.List.Sums.{prefix_len-le-length}
use Rattle.std.proofs.lemmas.Option.{cond_some, none-some}
use Rattle.tmm_model.specs.Lines.{is_blank, goes_on, words}
use Rattle.tmm_model.specs.Modes.{after_word}
use Rattle.tmm_grammar.specs.LineCuts.{AreBlanks, IsWord}
use Rattle.tmm_grammar.proofs.LineWords.{words-blanks, words-word}
use Rattle.tmm_words.specs.Places.{IsFirstWord}

pub position_len : {X : Type 0} (p : X → Bool) (xs : List X) → unwrap_or (position p xs) (length xs) ≡ position_or_len p xs
position_len p xs =
    let le : position_or_len p xs ≤ length xs = prefix_len-le-length (λ x. not (p x)) xs in
    elim (cases_lt (position_or_len p xs) (length xs)) [
      | inl lt ↦ rw (lt-ltb _ _ lt) refl
      | inr ge ↦ rw (le-ltb _ _ ge) (omega arith)
    ]

-- the elements of the prefix pass
pub prefix-passes : {X : Type 0} (q : X → Bool) (xs : List X) → list_all q (take (prefix_len q xs) xs) ≡ true
prefix-passes q [] = refl
prefix-passes q (x ∷ xs) = elim (cases_Bool (q x)) [
  | inl t ↦ let one : 1 + prefix_len q xs ≡ suc (prefix_len q xs) = omega arith in rw (t, one) (and_from _ _ t (prefix-passes q xs))
  | inr f ↦ rw f refl
]

-- behind the prefix nothing is left, or an element that fails
abbrev pub fails_at : {X : Type 0} → (X → Bool) → List X → Bool
fails_at q [] = true
fails_at q (x ∷ _) = not (q x)

pub prefix-stops : {X : Type 0} (q : X → Bool) (xs : List X) → fails_at q (drop (prefix_len q xs) xs) ≡ true
prefix-stops q [] = refl
prefix-stops q (x ∷ xs) = elim (cases_Bool (q x)) [
  | inl t ↦ let one : 1 + prefix_len q xs ≡ suc (prefix_len q xs) = omega arith in rw (t, one) (prefix-stops q xs)
  | inr f ↦ rw (f) (not_from_false (q x) f)
]

stops_word : (xs : List ℕ) → fails_at (λ b. not (is_blank b)) xs ≡ true → goes_on xs ≡ false
stops_word [] h = refl
stops_word (b ∷ xs) h = not-true (not (is_blank b)) h

-- what stands behind blanks is a word or nothing
nothing_left : (xs : List ℕ) → fails_at is_blank xs ≡ true → position_or_len is_blank xs ≡ 0 → xs ≡ []
nothing_left [] h n = refl
nothing_left (b ∷ xs) h n = let f = not-true (is_blank b) h in absurd (zero_one (prefix_len (λ b. not (is_blank b)) xs) (rw (f) at n))
  where
    zero_one : (n : ℕ) → 1 + n ≡ 0 → ⊥
    zero_one n e = omega arith

all_so : (p q : ℕ → Bool) → ((x : ℕ) → p x ≡ true → q x ≡ true) → (xs : List ℕ) → list_all p xs ≡ true → list_all q xs ≡ true
all_so p q f [] h = refl
all_so p q f (x ∷ xs) h = let k = and_parts (p x) (list_all p xs) h in and_from _ _ (f x k.0) (all_so p q f xs k.1)

pub not_twice : (t : Bool) → not (not t) ≡ true → t ≡ true
not_twice true h = refl
not_twice false h = h

stops_blank : (xs : List ℕ) → fails_at (λ b. not (not (is_blank b))) xs ≡ true → fails_at is_blank xs ≡ true
stops_blank [] h = refl
stops_blank (b ∷ xs) h = not_twice (not (is_blank b)) h

-- n blanks stand at the front of the bytes, and a word of m bytes behind them
module _ (line : List ℕ) (from n m : ℕ) (inside : from ≤ length line) (blanks : n ≡ position_or_len (λ b. not (is_blank b)) (drop from line)) (len : m ≡ position_or_len is_blank (drop (from + n) line)) where
  rest : drop n (drop from line) ≡ drop (from + n) line
  rest = drop-drop n from line

  front : AreBlanks (take n (drop from line))
  front = rw blanks (all_so (λ b. not (not (is_blank b))) is_blank (λ b. not_twice (is_blank b)) (take (prefix_len (λ b. not (not (is_blank b))) (drop from line)) (drop from line)) (prefix-passes (λ b. not (not (is_blank b))) (drop from line)))

  stops : fails_at is_blank (drop (from + n) line) ≡ true
  stops = rw (← rest, blanks) (stops_blank (drop (prefix_len (λ b. not (not (is_blank b))) (drop from line)) (drop from line)) (prefix-stops (λ b. not (not (is_blank b))) (drop from line)))

  pub no_word : m ≡ 0 → AreBlanks (drop from line)
  no_word e =
      let none : drop n (drop from line) ≡ [] = rest ∙ nothing_left (drop (from + n) line) stops (sym len ∙ e) in
      rw (← take-append-drop n (drop from line), none, append-nil (take n (drop from line))) front

  pub first_word : 0 < m → IsFirstWord line from (from + n) (from + n + m)
  first_word some =
      let gap : from + n - from ≡ n = omega arith in
      let size : from + n + m - (from + n) ≡ m = omega arith in
      let n-le : n ≤ length (drop from line) = rw blanks (prefix_len-le-length _ _) in
      let m-le : m ≤ length (drop (from + n) line) = rw len (prefix_len-le-length _ _) in
      let word : list_all (λ b. not (is_blank b)) (take m (drop (from + n) line)) ≡ true = rw len (prefix-passes (λ b. not (is_blank b)) (drop (from + n) line)) in
      let long : length (take m (drop (from + n) line)) ≡ m = length-take-le m (drop (from + n) line) m-le in
      let ends : goes_on (drop m (drop (from + n) line)) ≡ false = rw len (stops_word (drop (prefix_len (λ b. not (is_blank b)) (drop (from + n) line)) (drop (from + n) line)) (prefix-stops (λ b. not (is_blank b)) (drop (from + n) line))) in
      record {
        after = omega arith;
        some = omega arith;
        within = omega (arith, length-drop from line, length-drop (from + n) line);
        gap = rw gap front;
        word = rw size ((λ e. let z : length (take m (drop (from + n) line)) ≡ 0 = ap length e in omega arith), word);
        ends = subst (λ (xs : List ℕ). goes_on xs ≡ false) (drop-drop m (from + n) line) ends;
      }

-- the words from a place on are the first one and those behind it
pub words-first : (line : List ℕ) (from begin end : ℕ) → IsFirstWord line from begin end → words (drop from line) ≡ slice_range line begin end ∷ words (drop end line)
words-first line from begin end f =
    let gap : from + (begin - from) ≡ begin = omega (arith, f.after) in
    let size : begin + (end - begin) ≡ end = omega (arith, f.some) in
    let behind : drop (begin - from) (drop from line) ≡ slice_range line begin end ++ drop end line =
    rw (drop-drop, gap) (sym (take-append-drop (end - begin) (drop begin line)) ∙ rw (drop-drop, size) refl) in
    ap words (sym (take-append-drop (begin - from) (drop from line)) ∙ ap (λ (xs : List ℕ). take (begin - from) (drop from line) ++ xs) behind)
    ∙ words-blanks (slice_range line from begin) (slice_range line begin end ++ drop end line) f.gap
    ∙ words-word (slice_range line begin end) (drop end line) f.word f.ends

after-blanks : (gap line : List ℕ) → AreBlanks gap → after_word (gap ++ line) ≡ length gap + after_word line
after-blanks [] line h = omega arith
after-blanks (b ∷ gap) line h = let p = and_parts (is_blank b) (list_all is_blank gap) h in rw (p.0, after-blanks gap line p.1) (omega arith)

after-word : (w rest : List ℕ) → IsWord w → goes_on rest ≡ false → after_word (w ++ rest) ≡ length w
after-word [] rest h ends = absurd (h.0 refl)
after-word (b ∷ []) rest h ends = let p = and_parts (not (is_blank b)) true h.1 in rw (not-true (is_blank b) p.0, ends) refl
after-word (b ∷ c ∷ w) rest h ends =
    let p = and_parts (not (is_blank b)) (list_all (λ b. not (is_blank b)) (c ∷ w)) h.1 in
    let q = and_parts (not (is_blank c)) (list_all (λ b. not (is_blank b)) w) p.1 in
    let more : after_word (c ∷ w ++ rest) ≡ length (c ∷ w) = after-word (c ∷ w) rest (λ e. cc, p.1) ends in
    rw (not-true (is_blank b) p.0, q.0) (rw more (omega arith))

-- the first word of the line ends where the byte after it stands
pub after-first : (line : List ℕ) (begin end : ℕ) → IsFirstWord line 0 begin end → end ≡ after_word line
after-first line begin end f =
    let w = slice_range line begin end in
    let rest = drop end line in
    let size : begin + (end - begin) ≡ end = omega (arith, f.some) in
    let behind : drop begin line ≡ w ++ rest = sym (take-append-drop (end - begin) (drop begin line)) ∙ rw (drop-drop, size) refl in
    let none : begin - 0 ≡ begin = omega arith in
    let front : AreBlanks (take begin line) = rw none at f.gap in
    let gap : length (take begin line) ≡ begin = length-take-le begin line (omega (arith, f.some, f.within)) in
    let long : length w ≡ end - begin = length-take-le (end - begin) (drop begin line) (omega (arith, length-drop begin line, f.within, f.some)) in
    let whole : after_word line ≡ length (take begin line) + length w =
    ap after_word (sym (take-append-drop begin line) ∙ ap (λ (xs : List ℕ). take begin line ++ xs) behind)
    ∙ after-blanks (take begin line) (w ++ rest) front
    ∙ ap (λ (n : ℕ). length (take begin line) + n) (after-word w rest f.word f.ends) in
    omega (arith, whole, gap, long, size)

pub len_of : (m : ℕ) (o : Option ℕ) (w : List ℕ) → m ≡ unwrap_or o (length w) → o ≡ position is_blank w → m ≡ unwrap_or (position is_blank w) (length w)
len_of m o w h e = h ∙ ap (λ (x : Option ℕ). unwrap_or x (length w)) e

all_blank : (xs : List ℕ) → length xs ≤ position_or_len (λ b. not (is_blank b)) xs → AreBlanks xs
all_blank [] h = refl
all_blank (b ∷ xs) h =
    elim (cases_Bool (is_blank b)) [
      | inl t ↦ let k = rw t at h in and_from _ _ t (all_blank xs (omega arith))
      | inr f ↦ let k = rw f at h in absurd (omega arith)
    ]

blank_all : (xs : List ℕ) → AreBlanks xs → position_or_len (λ b. not (is_blank b)) xs ≡ length xs
blank_all [] h = refl
blank_all (b ∷ xs) h = let k = and_parts (is_blank b) (list_all is_blank xs) h in rw (k.0) (omega (arith, blank_all xs k.1))

module _ (line : List ℕ) (from : ℕ) (inside : from ≤ length line) where
  pub blank_from : position (λ b. not (is_blank b)) (drop from line) ≡ None → AreBlanks (drop from line)
  blank_from e =
      let p = position_or_len (λ b. not (is_blank b)) (drop from line) in
      elim (cases_lt p (length (drop from line))) [
        | inl lt ↦ absurd (none-some p (sym e ∙ cond-true _ (Some p) None (lt-ltb _ _ lt)))
        | inr ge ↦ all_blank (drop from line) ge
      ]

  module _ (n : ℕ) (begins : position (λ b. not (is_blank b)) (drop from line) ≡ Some n) where
    at : n ≡ position_or_len (λ b. not (is_blank b)) (drop from line)
    at = sym (cond_some _ _ _ begins).1

    pub byte_from : AreBlanks (drop from line) → ⊥
    byte_from h =
        let lt : position_or_len (λ b. not (is_blank b)) (drop from line) < length (drop from line) = ltb-true _ _ (cond_some _ _ _ begins).0 in
        omega (arith, blank_all (drop from line) h)

    module _ (m : ℕ) (len : m ≡ unwrap_or (position is_blank (drop (from + n) line)) (length (drop (from + n) line))) where
      len_is : m ≡ position_or_len is_blank (drop (from + n) line)
      len_is = len ∙ position_len is_blank (drop (from + n) line)

      some : 0 < m
      some = elim (cases_lt 0 m) [ inl lt ↦ lt | inr le ↦ absurd (byte_from (no_word line from n m inside at len_is (omega arith))) ]

      pub word_from : IsFirstWord line from (from + n) (from + n + m)
      word_from = first_word line from n m inside at len_is some
