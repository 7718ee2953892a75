-- The antecedents and exceptions of a rule are read as they are shown.
use Rattle.std.proofs.Common.{◌≡◌, ℕ, ◌≤◌, Bool, true, false, cond, List, [], ◌∷◌, ◌++◌, length, Option, Some, None, refl, sym, ap, subst, ◌∙◌, inl, inr, arith}
use Rattle.std.specs.Prelude.{◌&&◌, ◌||◌, nat_le, codes}
use Rattle.std.specs.List.{list_all, list_any}
use Rattle.std.proofs.lemmas.List.{append-nil}
use Rattle.std.proofs.lemmas.Bool.{and_parts, leb-true, le-leb}
use Rattle.tmm_model.specs.declared.version.Version.{Version}
use Rattle.tmm_model.specs.declared.version.Version.TheVariants.{One, Two}
use Rattle.tmm_model.specs.Names.{is_name}
use Rattle.tmm_model.specs.Points.{same_name}
use Rattle.tmm_model.specs.Lines.{AreNames, facts_words, is_unless, AreFactsOf}
use Rattle.tmm_grammar.specs.Reading.{◌>>=◌, passing, names_of, facts_of, ends_given, given_part, exception_part, with_exceptions, conditions_of}
use Rattle.tmm_grammar.proofs.LineReaders.{chosen, bind_some, passing_some, IsReader}
use Rattle.walk_theory.proofs.Points.{same_name-is}

-- at most n names
abbrev pub AreFew : ℕ → List (List ℕ) → Type 0
AreFew n fs = AreNames fs × (length fs ≤ n)

pub names_reader : (n : ℕ) → IsReader (λ fs. fs) (AreFew n) (names_of n)
names_reader n = record {
  sound = λ ws fs e.
      let p = passing_some (list_all is_name ws && nat_le (length ws) n) ws fs e in
      let q = and_parts (list_all is_name ws) (nat_le (length ws) n) p.0 in
      (subst (AreFew n) p.1 (q.0, leb-true _ _ q.1), p.1);
  complete = λ fs h. rw (h.0, le-leb (length fs) n h.1) refl;
}

-- ---- facts behind a word

some_facts : (word : List ℕ) (fs : List (List ℕ)) → 1 ≤ length fs → word ∷ fs ≡ facts_words word fs
some_facts word [] some = absurd (omega arith)
some_facts word (f ∷ fs) some = refl

facts-sound : (word : List ℕ) (n : ℕ) (ws fs : List (List ℕ)) → facts_of word n ws ≡ Some fs → AreFew n fs × (ws ≡ facts_words word fs)
unfolding facts_of
facts-sound word n [] fs e = let k : [] ≡ fs = cc in subst (λ (x : List (List ℕ)). AreFew n x × ([] ≡ facts_words word x)) k ((refl, omega arith), refl)
facts-sound word n (w ∷ ws) fs e =
    elim (chosen (same_name w word) (names_of n ws >>= λ facts. passing (nat_le 1 (length facts)) facts) None (Some fs) e) [
      | inl p ↦
          let a = bind_some (names_of n ws) (λ facts. passing (nat_le 1 (length facts)) facts) fs p.1 in
          let c = passing_some (nat_le 1 (length a.0)) a.0 fs a.2 in
          let r = (names_reader n).sound ws a.0 a.1 in
          let k : ws ≡ fs = r.1 ∙ c.1 in
          (subst (AreFew n) c.1 r.0, (λ i. same_name-is w word p.0 i ∷ k i) ∙ some_facts word fs (subst (λ (x : List (List ℕ)). 1 ≤ length x) c.1 (leb-true 1 (length a.0) c.0)))
      | inr p ↦ absurd cc
    ]

facts-again : (word : List ℕ) (n : ℕ) → same_name word word ≡ true → (fs : List (List ℕ)) → AreFew n fs → facts_of word n (facts_words word fs) ≡ Some fs
unfolding facts_of
facts-again word n same [] h = refl
facts-again word n same (f ∷ fs) h =
    ap (λ b. cond b (names_of n (f ∷ fs) >>= λ facts. passing (nat_le 1 (length facts)) facts) None) same
    ∙ ap (λ (r : Option (List (List ℕ))). r >>= λ facts. passing (nat_le 1 (length facts)) facts) ((names_reader n).complete (f ∷ fs) h)
    ∙ rw (le-leb 1 (length (f ∷ fs)) (omega arith)) refl

pub facts_reader : (word : List ℕ) (n : ℕ) → same_name word word ≡ true → IsReader (facts_words word) (AreFew n) (facts_of word n)
facts_reader word n same = record { sound = facts-sound word n; complete = facts-again word n same }

-- ---- where the exceptions begin

or_false : (a b : Bool) → (a || b) ≡ false → (a ≡ false) × (b ≡ false)
or_false true b e = absurd (cc (e))
or_false false b e = (refl, e)

or_from_false : {a b : Bool} → a ≡ false → b ≡ false → (a || b) ≡ false
or_from_false e k = rw (e, k) refl

module _ (version : Version) where
  parted : (ws : List (List ℕ)) → given_part version ws ++ exception_part version ws ≡ ws
  unfolding given_part exception_part
  parted [] = refl
  parted (w ∷ ws) = by (ends_given version w) (parted ws)
    where
      by : (b : Bool) → given_part version ws ++ exception_part version ws ≡ ws → cond b [] (w ∷ given_part version ws) ++ cond b (w ∷ ws) (exception_part version ws) ≡ w ∷ ws
      by true rest = refl
      by false rest = ap (λ (x : List (List ℕ)). w ∷ x) rest

  none_in_part : (ws : List (List ℕ)) → list_any (ends_given version) (given_part version ws) ≡ false
  unfolding given_part
  none_in_part [] = refl
  none_in_part (w ∷ ws) = by (ends_given version w) refl (none_in_part ws)
    where
      by : (b : Bool) → ends_given version w ≡ b → list_any (ends_given version) (given_part version ws) ≡ false
          → list_any (ends_given version) (cond b [] (w ∷ given_part version ws)) ≡ false
      by true e rest = refl
      by false e rest = or_from_false e rest

  given_part-append : (xs ys : List (List ℕ)) → list_any (ends_given version) xs ≡ false → given_part version (xs ++ ys) ≡ xs ++ given_part version ys
  unfolding given_part
  given_part-append [] ys none = refl
  given_part-append (x ∷ xs) ys none =
      let p = or_false (ends_given version x) (list_any (ends_given version) xs) none in
      ap (λ b. cond b [] (x ∷ given_part version (xs ++ ys))) p.0 ∙ ap (λ (l : List (List ℕ)). x ∷ l) (given_part-append xs ys p.1)

  exception_part-append : (xs ys : List (List ℕ)) → list_any (ends_given version) xs ≡ false → exception_part version (xs ++ ys) ≡ exception_part version ys
  unfolding exception_part
  exception_part-append [] ys none = refl
  exception_part-append (x ∷ xs) ys none =
      let p = or_false (ends_given version x) (list_any (ends_given version) xs) none in
      ap (λ b. cond b (x ∷ xs ++ ys) (exception_part version (xs ++ ys))) p.0 ∙ exception_part-append xs ys p.1

-- ---- antecedents and exceptions

abbrev pub Conditions : Type 0
Conditions = List (List ℕ) × List (List ℕ)

-- the words that show them
abbrev pub condition_words : Conditions → List (List ℕ)
condition_words t = facts_words (codes "if") t.0 ++ facts_words (codes "unless") t.1

-- few names, as the version has them
abbrev pub AreConditions : Version → Conditions → Type 0
AreConditions version t = (AreFew 4 t.0 × AreFew 2 t.1) × AreFactsOf version t.0 t.1

given_reader : IsReader (facts_words (codes "if")) (AreFew 4) (facts_of (codes "if") 4)
given_reader = facts_reader (codes "if") 4 refl

exceptions_reader : IsReader (facts_words (codes "unless")) (AreFew 2) (facts_of (codes "unless") 2)
exceptions_reader = facts_reader (codes "unless") 2 refl

-- in version 1 antecedents end at no word
never : (ws : List (List ℕ)) → list_any (ends_given One) ws ≡ false
never [] = refl
never (w ∷ ws) = never ws

all_given : (ws : List (List ℕ)) → exception_part One ws ≡ []
unfolding exception_part
all_given [] = refl
all_given (w ∷ ws) = all_given ws

-- `if` is no `unless`
none_in_given : (fs : List (List ℕ)) → list_any is_unless (facts_words (codes "if") fs) ≡ list_any is_unless fs
none_in_given [] = refl
none_in_given (f ∷ fs) = refl

no_given : (es : List (List ℕ)) → given_part Two (facts_words (codes "unless") es) ≡ []
unfolding given_part
no_given [] = refl
no_given (e ∷ es) = refl

all_exceptions : (es : List (List ℕ)) → exception_part Two (facts_words (codes "unless") es) ≡ facts_words (codes "unless") es
unfolding exception_part
all_exceptions [] = refl
all_exceptions (e ∷ es) = refl

no_exceptions : (es : List (List ℕ)) → [] ≡ facts_words (codes "unless") es → es ≡ []
no_exceptions [] e = refl
no_exceptions (x ∷ es) e = absurd (cc (e))

as_versioned : (version : Version) (ws fs es : List (List ℕ)) → given_part version ws ≡ facts_words (codes "if") fs → exception_part version ws ≡ facts_words (codes "unless") es → AreFactsOf version fs es
as_versioned One ws fs es given exceptions = no_exceptions es (sym (all_given ws) ∙ exceptions)
as_versioned Two ws fs es given exceptions = sym (none_in_given fs) ∙ ap (list_any is_unless) (sym given) ∙ none_in_part Two ws

conditions-sound : (version : Version) (ws : List (List ℕ)) (t : Conditions) → conditions_of version ws ≡ Some t → AreConditions version t × (ws ≡ condition_words t)
unfolding conditions_of
conditions-sound version ws t e =
    let a = bind_some (facts_of (codes "if") 4 (given_part version ws)) (with_exceptions (exception_part version ws)) t e in
    let b = bind_some (facts_of (codes "unless") 2 (exception_part version ws)) (λ exceptions. Some (a.0, exceptions)) t a.2 in
    let r = given_reader.sound (given_part version ws) a.0 a.1 in
    let s = exceptions_reader.sound (exception_part version ws) b.0 b.1 in
    let some : ◌≡◌ {A = Option Conditions} (Some (a.0, b.0)) (Some t) = b.2 in
    let same : ◌≡◌ {A = Conditions} (a.0, b.0) t = cc in
    subst (λ (z : Conditions). AreConditions version z × (ws ≡ condition_words z)) same
    (((r.0, s.0), as_versioned version ws a.0 b.0 r.1 s.1), sym (parted version ws) ∙ (λ i. r.1 i ++ s.1 i))

with_exceptions-again : (fs es : List (List ℕ)) → AreFew 2 es → with_exceptions (facts_words (codes "unless") es) fs ≡ Some (fs, es)
with_exceptions-again fs es few = rw (exceptions_reader.complete es few) refl

read_parts : (version : Version) (ws fs es : List (List ℕ)) → given_part version ws ≡ facts_words (codes "if") fs → exception_part version ws ≡ facts_words (codes "unless") es
    → AreFew 4 fs → AreFew 2 es → conditions_of version ws ≡ Some (fs, es)
unfolding conditions_of
read_parts version ws fs es given exceptions few few_exceptions =
    (λ i. facts_of (codes "if") 4 (given i) >>= with_exceptions (exceptions i))
    ∙ ap (λ (r : Option (List (List ℕ))). r >>= with_exceptions (facts_words (codes "unless") es)) (given_reader.complete fs few)
    ∙ with_exceptions-again fs es few_exceptions

-- in version 1 all words are antecedents
no_more_given : (given : List (List ℕ)) → given ++ given_part One [] ≡ given
unfolding given_part
no_more_given given = append-nil given

conditions-again : (version : Version) (t : Conditions) → AreConditions version t → conditions_of version (condition_words t) ≡ Some t
conditions-again One (fs, es) h =
    let given = facts_words (codes "if") fs in
    let exceptions = facts_words (codes "unless") es in
    let none : exceptions ≡ [] = ap (facts_words (codes "unless")) h.1 in
    read_parts One (condition_words (fs, es)) fs es
    (given_part-append One given exceptions (never given) ∙ ap (λ (x : List (List ℕ)). given ++ given_part One x) none ∙ no_more_given given)
    (all_given (condition_words (fs, es)) ∙ sym none) h.0.0 h.0.1
conditions-again Two (fs, es) h =
    let given = facts_words (codes "if") fs in
    let exceptions = facts_words (codes "unless") es in
    let none : list_any is_unless given ≡ false = none_in_given fs ∙ h.1 in
    read_parts Two (condition_words (fs, es)) fs es
    (given_part-append Two given exceptions none ∙ ap (λ (x : List (List ℕ)). given ++ x) (no_given es) ∙ append-nil given)
    (exception_part-append Two given exceptions none ∙ all_exceptions es) h.0.0 h.0.1

pub conditions_reader : (version : Version) → IsReader condition_words (AreConditions version) (conditions_of version)
conditions_reader version = record { sound = conditions-sound version; complete = conditions-again version }
