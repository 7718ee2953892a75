-- The line that shows a premise reads as it.
use Rattle.std.proofs.Common.{◌≡◌, ◌≢◌, ℕ, suc, ◌+◌, ◌*◌, ◌<◌, ◌≤◌, ◌^◌, ℤ, pos, negsuc, true, List, [], ◌∷◌, ◌++◌, length, refl, sym, ap, ◌∙◌, arith}
use Rattle.std.specs.Prelude.{◌&&◌, nat_le, not, codes, decimal}
use Rattle.std.specs.List.{list_all, AllByRecursion}
use Rattle.std.specs.Str.Parse.{AllDigits}
use Rattle.std.proofs.lemmas.Bool.{leb-true, and_parts, and_from, or_from, ne_eqb, not_from_false, true≢false}
use Rattle.std.proofs.lemmas.Fmt.{decimal_is_IsNumeral, length_signed_le}
use Rattle.std.proofs.lemmas.Int.{ints}
use lib.Signed.{mag}
use Rattle.std.proofs.lemmas.List.{length-append}
use Rattle.std.proofs.lemmas.List.Folds.{list_all-append}
use Rattle.std.proofs.lemmas.Str.Parse.{digit_from_value}
use Rattle.tmm_model.specs.declared.bound.Bound.{Bound}
use Rattle.tmm_model.specs.declared.bound.Bound.TheVariants.{Finite, Free}
use Rattle.tmm_model.specs.declared.point.PointName.{PointName}
use Rattle.tmm_model.specs.declared.point.PointName.TheVariants.{Start, Begin, End}
use Rattle.tmm_model.specs.declared.premise.Premise.{Premise}
use Rattle.tmm_model.specs.declared.premise.Premise.TheVariants.{Class, Kind, Point, Event, Token, Span, Dist, Rule, Protect, Against}
use Rattle.tmm_model.specs.declared.premise.Edit.TheVariants.{Add}
use Rattle.tmm_model.specs.declared.version.Version.{Version}
use Rattle.tmm_model.specs.declared.line.Line.TheVariants.{Change}
use Rattle.tmm_model.specs.Names.{is_letter, is_name_byte, is_name}
use Rattle.tmm_model.specs.Points.{point_word}
use Rattle.tmm_model.specs.Lines.{is_blank, IsName, AreNames, number_word, bound_word, IsNumber, IsBound, IsWellFormedPoint, IsWellFormedPremise, IsOfVersion, facts_words, behind_spaces, spaced, shown, shown_text, ReadsLine}
use Rattle.tmm_grammar.specs.LineCuts.{IsWord}
use Rattle.tmm_grammar.proofs.LinePoints.{name_bytes, no_blank}
use Rattle.tmm_grammar.proofs.LineWords.{words-spaced}

name_is_word : (n : List ℕ) → IsName n → IsWord n
name_is_word n h = ((λ e. true≢false (sym h ∙ ap is_name e)), no_blank n (name_bytes n h))

names_are_words : (ns : List (List ℕ)) → AreNames ns → AllByRecursion IsWord ns
names_are_words [] h = tt
names_are_words (n ∷ ns) h = let p = and_parts (is_name n) (list_all is_name ns) h in (name_is_word n p.0, names_are_words ns p.1)

point_is_word : (p : PointName) → IsWellFormedPoint p → IsWord (point_word p)
point_is_word Start h = ((λ e. cc), refl)
point_is_word (Begin k) h = name_is_word k h.0
point_is_word (End k) h = (front k, list_all-append (λ b. not (is_blank b)) k (codes ".end") ∙ and_from _ _ (no_blank k (name_bytes k h)) refl)
  where
    front : (k : List ℕ) → k ++ codes ".end" ≢ []
    front [] e = cc
    front (b ∷ k) e = cc

digits_no_blank : (ds : List ℕ) → AllDigits 10 ds → list_all (λ b. not (is_blank b)) ds ≡ true
digits_no_blank [] h = refl
digits_no_blank (b ∷ ds) h =
    let r = digit_from_value b h.0 in
    and_from _ _ (not_from_false (is_blank b) (or_from _ _ (or_from _ _ (ne_eqb b 32 (λ e. omega arith)) (ne_eqb b 9 (λ e. omega arith))) (ne_eqb b 13 (λ e. omega arith)))) (digits_no_blank ds h.1)

pub decimal_is_word : (n : ℕ) → n < 2 ^ 64 → IsWord (decimal n)
decimal_is_word n h =
    let k = decimal_is_IsNumeral n h in
    ((λ e. let z : length (decimal n) ≡ 0 = ap length e in omega (arith, k.0.0)), digits_no_blank (decimal n) k.0.1)

number_is_word : (z : ℤ) → IsNumber z → IsWord (number_word z)
number_is_word (pos n) h = decimal_is_word n (omega (arith, ints, h.1))
number_is_word (negsuc n) h = ((λ e. cc), (decimal_is_word (suc n) (omega (arith, ints, h.0))).1)

bound_is_word : (b : Bound) → IsBound b → IsWord (bound_word b)
bound_is_word (Finite z) h = number_is_word z h
bound_is_word Free h = ((λ e. cc), refl)

facts_are_words : (word : List ℕ) → IsWord word → (fs : List (List ℕ)) → AreNames fs → AllByRecursion IsWord (facts_words word fs)
facts_are_words word is [] h = tt
facts_are_words word is (f ∷ fs) h = (is, names_are_words (f ∷ fs) h)

all_words : (ws vs : List (List ℕ)) → AllByRecursion IsWord ws → AllByRecursion IsWord vs → AllByRecursion IsWord (ws ++ vs)
all_words [] vs h k = k
all_words (w ∷ ws) vs h k = (h.0, all_words ws vs h.1 k)

shown_are_words : (p : Premise) → IsWellFormedPremise p → AllByRecursion IsWord (shown p)
shown_are_words (Class n fs) h = (((λ e. cc), refl), (name_is_word n h.0, names_are_words fs.items h.1))
shown_are_words (Kind n) h = (((λ e. cc), refl), (name_is_word n h, tt))
shown_are_words (Point n) h = (((λ e. cc), refl), (name_is_word n h, tt))
shown_are_words (Event n k) h = (((λ e. cc), refl), (name_is_word n h.0, (name_is_word k h.1, tt)))
shown_are_words (Token n k) h = (((λ e. cc), refl), (name_is_word n h.0, (name_is_word k h.1, tt)))
shown_are_words (Span n k) h = (((λ e. cc), refl), (name_is_word n h.0, (name_is_word k h.1, tt)))
shown_are_words (Dist n p q lo hi) h = (((λ e. cc), refl), (name_is_word n h.0, (point_is_word p h.1, (point_is_word q h.2, (bound_is_word lo h.3, (bound_is_word hi h.4, tt))))))
shown_are_words (Rule n t lo hi x given unless_facts) h =
    let conditions =
    all_words (facts_words (codes "if") given.items) (facts_words (codes "unless") unless_facts.items)
    (facts_are_words (codes "if") ((λ e. cc), refl) given.items h.7) (facts_are_words (codes "unless") ((λ e. cc), refl) unless_facts.items h.9) in
    (((λ e. cc), refl), (name_is_word n h.0, (name_is_word t h.1, (number_is_word lo h.2, (bound_is_word hi h.3, (name_is_word x h.6, conditions))))))
shown_are_words (Protect n f p q) h = (((λ e. cc), refl), (name_is_word n h.0, (name_is_word f h.1, (point_is_word p h.2, (point_is_word q h.3, tt)))))
shown_are_words (Against n f g) h = (((λ e. cc), refl), (name_is_word n h.0, (name_is_word f h.1, (name_is_word g h.2, tt))))

-- how long words are

name_length : (n : List ℕ) → IsName n → length n ≤ 24
name_length [] h = absurd (true≢false (sym h))
name_length (b ∷ bs) h =
    let k = leb-true (length bs) 23 (and_parts (is_letter b && list_all is_name_byte bs) (nat_le (length bs) 23) h).1 in
    omega arith

point_length : (p : PointName) → IsWellFormedPoint p → length (point_word p) ≤ 28
point_length Start h = omega arith
point_length (Begin k) h = omega (arith, name_length k h.0)
point_length (End k) h = omega (arith, name_length k h, length-append k (codes ".end"))

pub number_length : (z : ℤ) → IsNumber z → length (number_word z) ≤ 11
number_length z h = length_signed_le 10 z (magnitude z h) (omega (arith, magnitude z h))
  where
    magnitude : (z : ℤ) → IsNumber z → mag z + 1 < 10 ^ 10
    magnitude (pos n) h = omega (arith, ints, h.1)
    magnitude (negsuc n) h = omega (arith, ints, h.0)

bound_length : (b : Bound) → IsBound b → length (bound_word b) ≤ 11
bound_length (Finite z) h = number_length z h
bound_length Free h = omega arith

-- n words of at most 28 bytes, each behind a space
AreShort : List (List ℕ) → Type 0
AreShort ws = AllByRecursion (λ w. length w ≤ 28) ws

length-behind : (ws : List (List ℕ)) → AreShort ws → length (behind_spaces ws) ≤ 29 * length ws
unfolding AreShort
length-behind [] h = omega arith
length-behind (w ∷ ws) h = omega (arith, length-append w (behind_spaces ws), length-behind ws h.1, h.0)

names_short : (ns : List (List ℕ)) → AreNames ns → AreShort ns
unfolding AreShort
names_short [] h = tt
names_short (n ∷ ns) h = let k = and_parts (is_name n) (list_all is_name ns) h in (omega (arith, name_length n k.0), names_short ns k.1)

facts_short : (word : List ℕ) → length word ≤ 28 → (ns : List (List ℕ)) → AreNames ns → AreShort (facts_words word ns)
unfolding AreShort
facts_short word few [] h = tt
facts_short word few (n ∷ ns) h = (few, names_short (n ∷ ns) h)

all_short : (ws vs : List (List ℕ)) → AreShort ws → AreShort vs → AreShort (ws ++ vs)
unfolding AreShort
all_short [] vs h k = k
all_short (w ∷ ws) vs h k = (h.0, all_short ws vs h.1 k)

length-facts : (word : List ℕ) (ns : List (List ℕ)) → length (facts_words word ns) ≤ suc (length ns)
length-facts word [] = omega arith
length-facts word (n ∷ ns) = omega arith

short_line : (k : List ℕ) (ws : List (List ℕ)) → length k ≤ 7 → AreShort ws → length ws ≤ 13 → length (spaced (k ∷ ws)) ≤ 390
short_line k ws first h few = omega (arith, length-append k (behind_spaces ws), length-behind ws h)

two_short : (k n m : List ℕ) → length k ≤ 7 → IsName n → IsName m → length (spaced (k ∷ n ∷ m ∷ [])) ≤ 390
unfolding AreShort
two_short k n m first h j = short_line k (n ∷ m ∷ []) first (omega (arith, name_length n h), (omega (arith, name_length m j), tt)) (omega arith)

pub shown_short : (p : Premise) → IsWellFormedPremise p → length (shown_text p) ≤ 390
unfolding AreShort
shown_short (Class n fs) h = short_line (codes "class") (n ∷ fs.items) (omega arith) (omega (arith, name_length n h.0), names_short fs.items h.1) (omega (arith, h.3))
shown_short (Kind n) h = short_line (codes "kind") (n ∷ []) (omega arith) (omega (arith, name_length n h), tt) (omega arith)
shown_short (Point n) h = short_line (codes "point") (n ∷ []) (omega arith) (omega (arith, name_length n h), tt) (omega arith)
shown_short (Event n k) h = two_short (codes "event") n k (omega arith) h.0 h.1
shown_short (Token n k) h = two_short (codes "token") n k (omega arith) h.0 h.1
shown_short (Span n k) h = two_short (codes "span") n k (omega arith) h.0 h.1
shown_short (Dist n p q lo hi) h =
    short_line (codes "dist") (n ∷ point_word p ∷ point_word q ∷ bound_word lo ∷ bound_word hi ∷ []) (omega arith)
    (omega (arith, name_length n h.0), (point_length p h.1, (point_length q h.2, (omega (arith, bound_length lo h.3), (omega (arith, bound_length hi h.4), tt)))))
    (omega arith)
shown_short (Rule n t lo hi x given unless_facts) h =
    let given_words = facts_words (codes "if") given.items in
    let exception_words = facts_words (codes "unless") unless_facts.items in
    short_line (codes "rule") (n ∷ t ∷ number_word lo ∷ bound_word hi ∷ x ∷ given_words ++ exception_words) (omega arith) (
      omega (arith, name_length n h.0),
      (
        omega (arith, name_length t h.1),
        (
          omega (arith, number_length lo h.2),
          (
            omega (arith, bound_length hi h.3),
            (
              omega (arith, name_length x h.6),
              all_short given_words exception_words (facts_short (codes "if") (omega arith) given.items h.7) (facts_short (codes "unless") (omega arith) unless_facts.items h.9),
            ),
          ),
        ),
      ),
    )
    (omega (arith, length-append given_words exception_words, length-facts (codes "if") given.items, length-facts (codes "unless") unless_facts.items, h.8, h.10))
shown_short (Protect n f p q) h =
    short_line (codes "protect") (n ∷ f ∷ point_word p ∷ point_word q ∷ []) (omega arith)
    (omega (arith, name_length n h.0), (omega (arith, name_length f h.1), (point_length p h.2, (point_length q h.3, tt))))
    (omega arith)
shown_short (Against n f g) h =
    short_line (codes "against") (n ∷ f ∷ g ∷ []) (omega arith)
    (omega (arith, name_length n h.0), (omega (arith, name_length f h.1), (omega (arith, name_length g h.2), tt)))
    (omega arith)

pub shown_reads : (p : Premise) → IsWellFormedPremise p → (length (shown_text p) ≤ 400) × ((version : Version) → IsOfVersion version p → ReadsLine version (shown_text p) (Change (Add p)))
shown_reads p h = (omega (arith, shown_short p h), λ version of_version. (words-spaced (shown p) (shown_are_words p h), h, of_version))
