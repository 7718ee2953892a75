-- The parts of a word that stand between bytes `/`.
use Rattle.std.proofs.Common.{◌≡◌, ℕ, ◌<◌, ◌≤◌, Bool, true, false, not, List, [], ◌∷◌, ◌++◌, length, take, drop, Option, None, refl, sym, ap, subst, ◌∙◌, arith}
use Rattle.std.specs.Prelude.{◌==◌, ◌↔◌, IsSome, is_some}
use Rattle.std.specs.List.{position_or_len, prefix_len, list_all}
use Rattle.std.proofs.lemmas.Bool.{and_parts, and_from, both_ways, false_from_ne_true, true≢false}
use Rattle.std.proofs.lemmas.List.{append-nil, take-append-drop}
use Rattle.std.proofs.lemmas.List.Folds.{list_all-append}
use Rattle.tmm_model.specs.declared.point.Occ.{Occ}
use Rattle.tmm_model.specs.Names.{is_name}
use Rattle.tmm_model.specs.Points.{slashed, occ_word}
use Rattle.tmm_model.specs.Lines.{IsName, AreNames, IsWellFormedOcc}
use Rattle.tmm_grammar.specs.Reading.{parts, parts_behind}
use Rattle.tmm_grammar.proofs.LinePoints.{parts-occ, parts-first, at_slash, word-parts}
use Rattle.tmm_words.specs.Spelling.{HasRules, begins_derived}
use Rattle.tmm_words.proofs.Places.{fails_at, not_twice, prefix-passes, prefix-stops}

slash_stops : (xs : List ℕ) → fails_at (λ b. not (b == 47)) xs ≡ true → at_slash xs ≡ true
slash_stops [] h = refl
slash_stops (b ∷ xs) h = not_twice (b == 47) h

-- the first part ends at the first `/`
pub part_first : (w : List ℕ) (n : ℕ) → n ≡ position_or_len (λ b. b == 47) w → parts w ≡ take n w ∷ parts_behind (drop n w)
part_first w n e =
    let q : ℕ → Bool = λ b. not (b == 47) in
    let k = parts-first (take (prefix_len q w) w) (drop (prefix_len q w) w) (prefix-passes q w) (slash_stops (drop (prefix_len q w) w) (prefix-stops q w)) in
    rw e (ap parts (sym (take-append-drop (prefix_len q w) w)) ∙ k)

-- a part that is no name makes the word no occurrence's
pub no_occ : (w : List ℕ) (front : List (List ℕ)) (part : List ℕ) (more : List (List ℕ)) → parts w ≡ front ++ (part ∷ more) → is_name part ≡ false → (a : Occ) → IsWellFormedOcc a → w ≡ occ_word a → ⊥
no_occ w front part more e bad a ok is =
    let k : a.root ∷ a.rules.items ≡ front ++ (part ∷ more) = sym (parts-occ a.root a.rules.items ok.0 ok.1) ∙ ap parts (sym is) ∙ e in
    let all : list_all is_name (front ++ (part ∷ more)) ≡ true = subst (λ (x : List (List ℕ)). list_all is_name x ≡ true) k (and_from _ _ ok.0 ok.1) in
    let back = and_parts (list_all is_name front) (list_all is_name (part ∷ more)) (sym (list_all-append is_name front (part ∷ more)) ∙ all) in
    both_ways (is_name part) bad (and_parts (is_name part) (list_all is_name more) back.1).0

-- the parts behind a first byte are those of the rest
pub behind_first : (rest : List ℕ) → 1 ≤ length rest → parts_behind rest ≡ parts (drop 1 rest)
behind_first [] some = absurd (omega arith)
behind_first (b ∷ rest) some = refl

-- with nothing behind its parts the word is their occurrence's
pub occ_whole : (w root : List ℕ) (rules : List (List ℕ)) (rest : List ℕ) → length rest < 1 → parts w ≡ root ∷ (rules ++ parts_behind rest) → w ≡ root ++ slashed rules
occ_whole w root rules [] none e = word-parts w root rules (e ∙ ap (λ (x : List (List ℕ)). root ∷ x) (append-nil rules))
occ_whole w root rules (b ∷ rest) none e = absurd (omega arith)

-- no name was found
pub not_name : (w : List ℕ) (r : Option (List ℕ)) → (IsSome r ↔ IsName w) → r ≡ None → is_name w ≡ false
not_name w r h e = false_from_ne_true (is_name w) (λ t. true≢false (sym (h.1 t) ∙ ap is_some e))

-- a word has some part
some_part : (w : List ℕ) → parts w ≡ [] → ⊥
some_part w e = let k = part_first w (position_or_len (λ b. b == 47) w) refl in cc (k, e)

none_behind : (front more : List (List ℕ)) → front ++ more ≡ [] → more ≡ []
none_behind [] more e = e
none_behind (part ∷ front) more e = absurd (cc (e))

-- where bytes are left behind the root, the word's occurrence has rules
pub some_rules : (w root : List ℕ) (rules : List (List ℕ)) (rest : List ℕ) → 1 ≤ length rest → parts w ≡ root ∷ (rules ++ parts_behind rest) → HasRules w
some_rules w root rules rest some e a ok is none =
    let k : a.root ∷ a.rules.items ≡ root ∷ (rules ++ parts_behind rest) = sym (parts-occ a.root a.rules.items ok.0 ok.1) ∙ ap parts (sym is) ∙ e in
    let all : rules ++ parts_behind rest ≡ [] = cc (k, none) in
    some_part (drop 1 rest) (sym (behind_first rest some) ∙ none_behind rules (parts_behind rest) all)

-- a word with a name behind its root and any rules begins as a derived occurrence's does
pub begins-rules : (w root : List ℕ) (rules : List (List ℕ)) (part : List ℕ) (more : List (List ℕ)) → parts w ≡ root ∷ (rules ++ (part ∷ more)) → IsName root → AreNames rules → IsName part → begins_derived w ≡ true
begins-rules w root [] part more e first names next = rw e (and_from _ _ first next)
begins-rules w root (rule ∷ rules) part more e first names next = rw e (and_from _ _ first (and_parts (is_name rule) (list_all is_name rules) names).0)
