-- Which tokens contradict one of a fact, and where two lists tell the same of it.
use Rattle.std.proofs.Common.{◌≡◌, ◌∙◌, ℕ, Bool, true, false, not, ◌&&◌, ◌||◌, List, [], ◌∷◌, ◌++◌, refl, sym, ap, subst, inl, inr}
pub use Rattle.std.proofs.lemmas.Bool.{or_cases, or_left, or_right}
use Rattle.std.specs.Prelude.{Option, Some, None, IsSome, ◌⊎◌}
use Rattle.std.specs.List.{list_any, list_all, flat_map}
use Rattle.std.specs.Cmp.Lexicographic.{bytes_decides, nat_list_eq_equiv}
use Rattle.tmm_model.specs.declared.premise.Premise.{Premise}
use Rattle.tmm_model.specs.declared.premise.Premise.TheVariants.{Class, Kind, Point, Event, Token, Span, Dist, Rule, Protect, Against}
use Rattle.tmm_model.specs.declared.token.TokenRow.{TokenRow}
use Rattle.tmm_model.specs.Beliefs.{class_of, says_against, are_rivals, contradicts_in}
use Rattle.tmm_model.specs.Moments.{Moment}
use Rattle.tmm_model.specs.Points.{same_name}
use Rattle.tmm_model.specs.Sorts.{class_in}
use Rattle.tmm_model.specs.Standing.{Standing}
use Rattle.tmm_model.specs.Tokens.{of_one_class}
use Rattle.list_theory.proofs.Elements.{In, both, list_any-In, list_all-In, flat_map-In, In-left, In-right}
use Rattle.belief_theory.specs.Touched.{same_bool, bears_on, contradict, facts_said, same_rivals}

pub or_false : (b : Bool) → (b || false) ≡ b
or_false true = refl
or_false false = refl

-- the class that declares a fact is its class
pub class_is : (s : Standing) (fact class : List ℕ) → class_in s.premises fact ≡ Some class → class_of s fact ≡ class
class_is s fact class is = ap (λ (o : Option (List ℕ)). elim o as (λ _. List ℕ) [ Some c ↦ c | None ↦ [] ]) is

-- and it is a class that declares the fact, where one does
pub known_class : (s : Standing) (fact : List ℕ) → IsSome (class_in s.premises fact) → class_in s.premises fact ≡ Some (class_of s fact)
known_class s fact known = by (class_in s.premises fact) known
  where
    by : (o : Option (List ℕ)) → IsSome o → o ≡ Some (elim o as (λ _. List ℕ) [ Some c ↦ c | None ↦ [] ])
    by (Some c) h = refl
    by None h = cc

-- ---- premises that say so

-- a premise that says that f and g contradict each other speaks of g
says_of : (f g : List ℕ) (p : Premise) → says_against f g p ≡ true → In g (facts_said p)
says_of f g (Class name facts) e = cc
says_of f g (Kind name) e = cc
says_of f g (Point name) e = cc
says_of f g (Event name kind) e = cc
says_of f g (Token name fact) e = cc
says_of f g (Span name fact) e = cc
says_of f g (Dist name from to lo hi) e = cc
says_of f g (Rule name trigger lo hi effect given unless_facts) e = cc
says_of f g (Protect name fact from to) e = cc
says_of f g (Against name one other) e =
    elim (or_cases (same_name one f && same_name other g) (same_name one g && same_name other f) e) [
      | inl h ↦ inr (inl ((bytes_decides other g).0 (both (same_name one f) (same_name other g) h).1))
      | inr h ↦ inl ((bytes_decides one g).0 (both (same_name one g) (same_name other f) h).0)
    ]

-- so premises among which are those of the list speak of a rival
pub rival_said : (s : Standing) (ps : List Premise) → ((p : Premise) → In p s.premises → In p ps) → (f g : List ℕ) → are_rivals s f g ≡ true → In g (flat_map facts_said ps)
rival_said s ps within f g e =
    let (p, at, says) = list_any-In (says_against f g) s.premises (both (not (same_name f g)) (list_any (says_against f g) s.premises) e).1 in
    flat_map-In facts_said ps p g (within p at) (says_of f g p says)

-- ---- tokens

-- the token has the class of its fact
abbrev pub HasClass : Standing → TokenRow Moment → Type 0
HasClass s k = k.class ≡ class_of s k.fact

-- such tokens contradict each other as their facts do
pub contradicts_is : (s : Standing) (k c : TokenRow Moment) → HasClass s k → HasClass s c → contradicts_in s k c ≡ contradict s k.fact c.fact
contradicts_is s k c own_k own_c = λ i. (same_name (own_k i) (own_c i) && not (same_name k.fact c.fact)) || are_rivals s k.fact c.fact

-- tokens of whose facts no premise says that they are rivals contradict each other by their class
pub contradicts_plain : (s : Standing) (k c : TokenRow Moment) → are_rivals s k.fact c.fact ≡ false → contradicts_in s k c ≡ of_one_class k c
contradicts_plain s k c none = ap (λ b. of_one_class k c || b) none ∙ or_false (of_one_class k c)

-- tokens of one class contradict each other where their facts differ, whatever premises say
one_class_alike : (a b c : Bool) → (a || (a && b)) ≡ (a || (a && c))
one_class_alike true b c = refl
one_class_alike false b c = refl

pub contradict_in_class : (s t : Standing) (k c : TokenRow Moment) → same_name k.class c.class ≡ true → contradicts_in s k c ≡ contradicts_in t k c
contradict_in_class s t k c one =
    (λ i. (one i && not (same_name k.fact c.fact)) || are_rivals s k.fact c.fact)
    ∙ one_class_alike (not (same_name k.fact c.fact)) (list_any (says_against k.fact c.fact) s.premises) (list_any (says_against k.fact c.fact) t.premises)
    ∙ sym (λ i. (one i && not (same_name k.fact c.fact)) || are_rivals t k.fact c.fact)

-- a token of the class of a fact bears on it
pub class_bears : (s : Standing) (f : List ℕ) (k : TokenRow Moment) → k.class ≡ class_of s f → bears_on s f k ≡ true
class_bears s f k own =
    or_left (same_name (class_of s f) k.class) (are_rivals s f k.fact)
    (subst (λ c. same_name (class_of s f) c ≡ true) (sym own) (nat_list_eq_equiv.refl (class_of s f)))

-- what contradicts a token of a fact bears on that fact
pub contradicts_bears : (s : Standing) (f : List ℕ) (k c : TokenRow Moment) → k.fact ≡ f → k.class ≡ class_of s f → contradicts_in s k c ≡ true → bears_on s f c ≡ true
contradicts_bears s f k c fact own e =
    elim (or_cases (of_one_class k c) (are_rivals s k.fact c.fact) e) [
      | inl one ↦ class_bears s f c (sym ((bytes_decides k.class c.class).0 (both (same_name k.class c.class) (not (same_name k.fact c.fact)) one).0) ∙ own)
      | inr rival ↦ or_right (same_name (class_of s f) c.class) (are_rivals s f c.fact) (subst (λ z. are_rivals s z c.fact ≡ true) fact rival)
    ]

-- ---- two lists

same_bool_is : (a b : Bool) → same_bool a b ≡ true → a ≡ b
same_bool_is true b e = sym e
same_bool_is false true e = cc
same_bool_is false false e = refl

-- what some premise of either list calls a rival of f contradicts f in both
abbrev pub HaveSameRivals : Standing → Standing → List ℕ → Type 0
HaveSameRivals s t f = (g : List ℕ) → (are_rivals s f g ≡ true) ⊎ (are_rivals t f g ≡ true) → contradict s f g ≡ contradict t f g

-- the test tells so
pub same_rivals_have : (s t : Standing) (f : List ℕ) → same_rivals s t f ≡ true → HaveSameRivals s t f
same_rivals_have s t f same g rival =
    same_bool_is (contradict s f g) (contradict t f g) (list_all-In (λ g. same_bool (contradict s f g) (contradict t f g)) (flat_map facts_said (s.premises ++ t.premises)) same g (said rival))
  where
    said : (are_rivals s f g ≡ true) ⊎ (are_rivals t f g ≡ true) → In g (flat_map facts_said (s.premises ++ t.premises))
    said (inl e) = rival_said s (s.premises ++ t.premises) (λ p at. In-left s.premises t.premises p at) f g e
    said (inr e) = rival_said t (s.premises ++ t.premises) (λ p at. In-right s.premises t.premises p at) f g e

-- where the same facts contradict f, the test says so
pub same_rivals_from : (s t : Standing) (f : List ℕ) → ((g : List ℕ) → In g (flat_map facts_said (s.premises ++ t.premises)) → contradict s f g ≡ contradict t f g) → same_rivals s t f ≡ true
same_rivals_from s t f same = all (flat_map facts_said (s.premises ++ t.premises)) same
  where
    same_is : (a b : Bool) → a ≡ b → same_bool a b ≡ true
    same_is true b e = sym e
    same_is false b e = ap not (sym e)

    all : (gs : List (List ℕ)) → ((g : List ℕ) → In g gs → contradict s f g ≡ contradict t f g) → list_all (λ g. same_bool (contradict s f g) (contradict t f g)) gs ≡ true
    all [] h = refl
    all (g ∷ gs) h = λ i. same_is (contradict s f g) (contradict t f g) (h g (inl refl)) i && all gs (λ x at. h x (inr at)) i

module _ (s t : Standing) (f : List ℕ) (same : HaveSameRivals s t f) where
  -- **Tokens that both lists have contradict each other in both or in neither**, where one is of f.
  pub contradicts_alike : (k c : TokenRow Moment) → k.fact ≡ f → HasClass s k → HasClass t k → HasClass s c → HasClass t c → contradicts_in s k c ≡ contradicts_in t k c
  contradicts_alike k c fact k_s k_t c_s c_t = by (are_rivals s f c.fact) refl (are_rivals t f c.fact) refl
    where
      spoken : (are_rivals s f c.fact ≡ true) ⊎ (are_rivals t f c.fact ≡ true) → contradicts_in s k c ≡ contradicts_in t k c
      spoken rival =
          contradicts_is s k c k_s c_s
          ∙ (λ i. contradict s (fact i) c.fact)
          ∙ same c.fact rival
          ∙ (λ i. contradict t (sym fact i) c.fact)
          ∙ sym (contradicts_is t k c k_t c_t)

      by : (a : Bool) → are_rivals s f c.fact ≡ a → (b : Bool) → are_rivals t f c.fact ≡ b → contradicts_in s k c ≡ contradicts_in t k c
      by true e b g = spoken (inl e)
      by false e true g = spoken (inr g)
      by false e false g =
          (λ i. of_one_class k c || (ap (λ z. are_rivals s z c.fact) fact ∙ e) i)
          ∙ sym (λ i. of_one_class k c || (ap (λ z. are_rivals t z c.fact) fact ∙ g) i)

  -- **A token of the first list that bears on f in the second bears on it in the first.**
  pub bears_alike : (k : TokenRow Moment) → HasClass s k → class_of s f ≡ class_of t f → bears_on t f k ≡ true → bears_on s f k ≡ true
  bears_alike k own class e =
      elim (or_cases (same_name (class_of t f) k.class) (are_rivals t f k.fact) e) [
        | inl one ↦ class_bears s f k (sym ((bytes_decides (class_of t f) k.class).0 one) ∙ sym class)
        | inr rival ↦
            let here : contradict s f k.fact ≡ true =
            same k.fact (inr rival) ∙ or_right (same_name (class_of t f) (class_of t k.fact) && not (same_name f k.fact)) (are_rivals t f k.fact) rival in
            elim (or_cases (same_name (class_of s f) (class_of s k.fact) && not (same_name f k.fact)) (are_rivals s f k.fact) here) [
              | inl one ↦
                  let same_class = (bytes_decides (class_of s f) (class_of s k.fact)).0 (both (same_name (class_of s f) (class_of s k.fact)) (not (same_name f k.fact)) one).0 in
                  class_bears s f k (own ∙ sym same_class)
              | inr is ↦ or_right (same_name (class_of s f) k.class) (are_rivals s f k.fact) is
            ]
      ]
