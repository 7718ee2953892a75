-- Cutting a line into words, and joining words to a line.
use Rattle.std.proofs.Common.{◌≡◌, ℕ, true, false, cond, List, [], ◌∷◌, ◌++◌, refl, sym, ap, subst, ◌∙◌, inl, inr, append_assoc}
use Rattle.std.specs.Prelude.{not, ◌↔◌}
use Rattle.std.specs.List.{list_all, onto_first, AllByRecursion}
use Rattle.std.proofs.lemmas.Bool.{and_parts, and_from, cases_Bool, not-true, not_from_false, both_ways, true≢false}
use Rattle.std.proofs.lemmas.List.{append-nil}
use Rattle.tmm_model.specs.Lines.{is_blank, goes_on, words, behind_spaces, spaced}
use Rattle.tmm_grammar.specs.LineCuts.{AreBlanks, IsWord, AreWords}

-- blanks at the front part nothing
pub words-blanks : (gap line : List ℕ) → AreBlanks gap → words (gap ++ line) ≡ words line
unfolding words
words-blanks [] line h = refl
words-blanks (b ∷ gap) line h = let p = and_parts (is_blank b) (list_all is_blank gap) h in rw (p.0) (words-blanks gap line p.1)

-- a word at the front that goes on no further
pub words-word : (w rest : List ℕ) → IsWord w → goes_on rest ≡ false → words (w ++ rest) ≡ w ∷ words rest
unfolding words
words-word [] rest h ends = absurd (h.0 refl)
words-word (b ∷ []) rest h ends =
    let p = and_parts (not (is_blank b)) true h.1 in
    rw (not-true (is_blank b) p.0, ends) refl
words-word (b ∷ c ∷ w) rest h ends =
    let p = and_parts (not (is_blank b)) (list_all (λ b. not (is_blank b)) (c ∷ w)) h.1 in
    let q = and_parts (not (is_blank c)) (list_all (λ b. not (is_blank b)) w) p.1 in
    let more : words (c ∷ w ++ rest) ≡ (c ∷ w) ∷ words rest = words-word (c ∷ w) rest (λ e. cc, p.1) ends in
    rw (not-true (is_blank b) p.0, q.0) (ap (onto_first b) more)

words-nil : words [] ≡ []
unfolding words
words-nil = refl

pub words-are : (line : List ℕ) (ws : List (List ℕ)) → AreWords line ws → ws ≡ words line
words-are line [] h = sym words-nil ∙ sym (words-blanks line [] h) ∙ ap words (append-nil line)
words-are line (w ∷ ws) h =
    let e = words-word w h.1 h.4 h.5 in
    ap (λ (t : List (List ℕ)). w ∷ t) (words-are h.1 ws h.6) ∙ sym e ∙ sym (words-blanks h.0 (w ++ h.1) h.3) ∙ ap words (sym (append_assoc h.0 w h.1) ∙ sym h.2)

-- a blank more at the front
AreWords-blank : (b : ℕ) (line : List ℕ) (ws : List (List ℕ)) → is_blank b ≡ true → AreWords line ws → AreWords (b ∷ line) ws
AreWords-blank b line [] blank h = and_from _ _ blank h
AreWords-blank b line (w ∷ ws) blank h = (b ∷ h.0, h.1, ap (λ (t : List ℕ). b ∷ t) h.2, and_from _ _ blank h.3, h.4, h.5, h.6)

-- a byte more in front of a word
AreWords-onto : (b : ℕ) (line : List ℕ) (ws : List (List ℕ)) → is_blank b ≡ false → goes_on line ≡ true → AreWords line ws → AreWords (b ∷ line) (onto_first b ws)
AreWords-onto b [] ws inside on h = absurd (true≢false (sym on))
AreWords-onto b (c ∷ line) [] inside on h = absurd (both_ways (is_blank c) (not-true (is_blank c) on) (and_parts _ _ h).0)
AreWords-onto b (c ∷ line) (w ∷ ws) inside on h = from h.0 h.2 h.3
  where
    from : (gap : List ℕ) → c ∷ line ≡ gap ++ w ++ h.1 → AreBlanks gap → AreWords (b ∷ c ∷ line) ((b ∷ w) ∷ ws)
    from [] e blanks = ([], h.1, ap (λ (t : List ℕ). b ∷ t) e, refl, (λ k. cc, and_from _ _ (not_from_false (is_blank b) inside) h.4.1), h.5, h.6)
    from (d ∷ gap) e blanks =
        let k : c ≡ d = cc in
        absurd (both_ways (is_blank c) (not-true (is_blank c) on) (ap is_blank k ∙ (and_parts _ _ blanks).0))

words_step : (b : ℕ) (line : List ℕ) (ws : List (List ℕ)) → AreWords line ws → AreWords (b ∷ line) (cond (is_blank b) ws (cond (goes_on line) (onto_first b ws) ((b ∷ []) ∷ ws)))
words_step b line ws h =
    elim (cases_Bool (is_blank b)) [
      | inl t ↦ rw t (AreWords-blank b line ws t h)
      | inr f ↦
          elim (cases_Bool (goes_on line)) [
            | inl on ↦ rw (f, on) (AreWords-onto b line ws f on h)
            | inr off ↦ rw (f, off) ([], line, refl, refl, (λ k. cc, and_from _ _ (not_from_false (is_blank b) f) refl), off, h)
          ]
    ]

pub words_of : (line : List ℕ) → AreWords line (words line)
unfolding words
words_of [] = refl
words_of (b ∷ line) = words_step b line (words line) (words_of line)

pub one_list_of_words : (line : List ℕ) (ws : List (List ℕ)) → AreWords line ws ↔ (ws ≡ words line)
one_list_of_words line ws = (words-are line ws, λ e. subst (AreWords line) (sym e) (words_of line))

behind-goes : (ws : List (List ℕ)) → goes_on (behind_spaces ws) ≡ false
behind-goes [] = refl
behind-goes (w ∷ ws) = refl

words-behind : (ws : List (List ℕ)) → AllByRecursion IsWord ws → words (behind_spaces ws) ≡ ws
words-behind [] h = words-nil
words-behind (w ∷ ws) h =
    words-blanks (32 ∷ []) (w ++ behind_spaces ws) refl
    ∙ words-word w (behind_spaces ws) h.0 (behind-goes ws)
    ∙ ap (λ (t : List (List ℕ)). w ∷ t) (words-behind ws h.1)

-- words that are joined are these words
pub words-spaced : (ws : List (List ℕ)) → AllByRecursion IsWord ws → words (spaced ws) ≡ ws
words-spaced [] h = words-nil
words-spaced (w ∷ ws) h = words-word w (behind_spaces ws) h.0 (behind-goes ws) ∙ ap (λ (t : List (List ℕ)). w ∷ t) (words-behind ws h.1)
