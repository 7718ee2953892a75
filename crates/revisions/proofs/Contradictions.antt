-- A fact that a rule of both lists reads contradicts the same facts in both, as far as premises say
-- the same of it: a class declares the same facts as long as it stands.
use Rattle.std.proofs.Common.{◌≡◌, ◌∙◌, ℕ, true, List, [], refl, sym, ap, subst, inl, inr, not, ◌&&◌, ◌||◌}
use Rattle.std.specs.Prelude.{Option, Some, None, IsSome}
use Rattle.std.specs.List.{Contains, list_any}
use Rattle.std.specs.Cmp.{both_ways}
use Rattle.std.specs.Cmp.Lexicographic.{bytes_decides}
use Rattle.std.proofs.lemmas.List.Elements.{All-contains}
use Rattle.tmm_model.specs.declared.premise.Edit.{Edit}
use Rattle.tmm_model.specs.declared.premise.Premise.{Premise}
use Rattle.tmm_model.specs.declared.premise.Premise.TheVariants.{Class, Kind, Point, Event, Token, Span, Dist, Rule, Protect, Against}
use Rattle.tmm_model.specs.Beliefs.{class_of, rules_at, are_rivals}
use Rattle.tmm_model.specs.Edits.{next_list}
use Rattle.tmm_model.specs.Lines.{IsName, IsWellFormedPremise}
use Rattle.tmm_model.specs.Moments.{Moment, read_by, rule_of}
use Rattle.tmm_model.specs.Points.{same_name}
use Rattle.tmm_model.specs.Sorts.{class_in}
use Rattle.tmm_model.specs.Standing.{Standing, name_of, premise_in}
use Rattle.list_theory.specs.WellNamed.{IsSound}
use Rattle.list_theory.proofs.Elements.{In, Contains-from_In, some_value}
use Rattle.list_theory.proofs.KnownNames.{found}
use Rattle.belief_theory.specs.Touched.{contradict}
use Rattle.belief_theory.proofs.NextLists.{AreWithin, one_way}
use Rattle.belief_theory.proofs.Rivals.{class_is}
use Rattle.premise_list.specs.Words.{facts_of}
use Rattle.spots.proofs.Rules.{rule_there, read_known}
use Rattle.revisions.proofs.Names.{class_found, class_after, classes_within}

-- ---- the class of a fact

class_name : (p : Premise) → IsWellFormedPremise p → (f : List ℕ) → list_any (same_name f) (facts_of p) ≡ true → IsName (name_of p)
class_name (Class name facts) h f e = h.0
class_name (Kind name) h f e = cc
class_name (Point name) h f e = cc
class_name (Event name kind) h f e = cc
class_name (Token name fact) h f e = cc
class_name (Span name fact) h f e = cc
class_name (Dist name from to lo hi) h f e = cc
class_name (Rule name trigger lo hi effect given unless_facts) h f e = cc
class_name (Protect name fact from to) h f e = cc
class_name (Against name one other) h f e = cc

-- a class has a name
named : (s : Standing) → IsSound s → (f c : List ℕ) → class_in s.premises f ≡ Some c → c ≡ [] → ⊥
named s sound f c is none =
    let (p, at, has, name) = class_found s.premises f c is in
    let own : IsName (name_of p) = class_name p (All-contains IsWellFormedPremise s.premises p sound.well_formed (Contains-from_In s.premises p at)) f has in
    let never : IsName [] = subst IsName (name ∙ none) own in
    cc

-- so what is of the class is declared by it
pub declared : (s : Standing) → IsSound s → (f c : List ℕ) → class_in s.premises f ≡ Some c → (g : List ℕ) → class_of s g ≡ c → class_in s.premises g ≡ Some c
declared s sound f c is g same = by (class_in s.premises g) refl
  where
    by : (o : Option (List ℕ)) → class_in s.premises g ≡ o → class_in s.premises g ≡ Some c
    by None e = absurd (named s sound f c is (sym same ∙ ap (λ (o : Option (List ℕ)). elim o as (λ _. List ℕ) [ Some class ↦ class | None ↦ [] ]) e))
    by (Some d) e = e ∙ ap Some (sym (class_is s g d e) ∙ same)

module _ (s t : Standing) (sound_s : IsSound s) (sound_t : IsSound t) (within : AreWithin s.premises t.premises) (f c : List ℕ) (is : class_in s.premises f ≡ Some c) where
  is_there : class_in t.premises f ≡ Some c
  is_there = classes_within s.premises t.premises within sound_t.well_named f c is

  -- the class declares the same facts in more premises
  same_facts : (g : List ℕ) → class_in t.premises g ≡ Some c → class_in s.premises g ≡ Some c
  same_facts g there =
      let (p, at_p, has_p, name_p) = class_found s.premises f c is in
      let (q, at_q, has_q, name_q) = class_found t.premises g c there in
      let one : premise_in t.premises c ≡ Some p = subst (λ n. premise_in t.premises n ≡ Some p) name_p (found t.premises sound_t.well_named p (within p at_p)) in
      let two : premise_in t.premises c ≡ Some q = subst (λ n. premise_in t.premises n ≡ Some q) name_q (found t.premises sound_t.well_named q at_q) in
      let both_are : Some q ≡ Some p = sym two ∙ one in
      let same : q ≡ p = cc in
      class_after [] s.premises sound_s.well_named p at_p g (subst (λ z. list_any (same_name g) (facts_of z) ≡ true) same has_q) ∙ ap Some name_p

  one_class : (g : List ℕ) → same_name (class_of s f) (class_of s g) ≡ same_name (class_of t f) (class_of t g)
  one_class g = both_ways (same_name (class_of s f) (class_of s g)) (same_name (class_of t f) (class_of t g)) out back
    where
      out : same_name (class_of s f) (class_of s g) ≡ true → same_name (class_of t f) (class_of t g) ≡ true
      out e =
          let here = declared s sound_s f c is g (sym ((bytes_decides (class_of s f) (class_of s g)).0 e) ∙ class_is s f c is) in
          let there = classes_within s.premises t.premises within sound_t.well_named g c here in
          (bytes_decides (class_of t f) (class_of t g)).1 (class_is t f c is_there ∙ sym (class_is t g c there))

      back : same_name (class_of t f) (class_of t g) ≡ true → same_name (class_of s f) (class_of s g) ≡ true
      back e =
          let there = declared t sound_t f c is_there g (sym ((bytes_decides (class_of t f) (class_of t g)).0 e) ∙ class_is t f c is_there) in
          (bytes_decides (class_of s f) (class_of s g)).1 (class_is s f c is ∙ sym (class_is s g c (same_facts g there)))

-- a fact that a rule reads has a class
pub read_class : (s : Standing) → IsSound s → (t : Moment) (r f : List ℕ) → Contains (rules_at s t) r → In f (read_by (rule_of s r)) → (c : List ℕ) × (class_in s.premises f ≡ Some c)
read_class s sound t r f stands at =
    some_value (class_in s.premises f)
    (All-contains (λ fact. IsSome (class_in s.premises fact)) (read_by (rule_of s r)) f (read_known s sound r (rule_there s sound t r stands)) (Contains-from_In (read_by (rule_of s r)) f at))

-- ---- an edit

module _ (old : Standing) (edit : Edit) (sound_old : IsSound old) (sound_new : IsSound (next_list old edit)) (t : Moment) (r f : List ℕ)
    (before : Contains (rules_at old t) r) (now : Contains (rules_at (next_list old edit) t) r) (at_old : In f (read_by (rule_of old r))) (at_new : In f (read_by (rule_of (next_list old edit) r))) where
  abbrev new : Standing
  new = next_list old edit

  -- the same facts are of the class of what the rule reads
  pub class_stays : (g : List ℕ) → same_name (class_of old f) (class_of old g) ≡ same_name (class_of new f) (class_of new g)
  class_stays g =
      elim (one_way old edit) [
        | inl more ↦ let (c, is) = read_class old sound_old t r f before at_old in one_class old new sound_old sound_new more f c is g
        | inr fewer ↦ let (c, is) = read_class new sound_new t r f now at_new in sym (one_class new old sound_new sound_old fewer f c is g)
      ]

  -- **A fact contradicts what the rule reads in both lists or in neither, if premises say so in
  -- both or in neither.**
  pub contradict_stays : (g : List ℕ) → are_rivals old f g ≡ are_rivals new f g → contradict old f g ≡ contradict new f g
  contradict_stays g rivals = λ i. (class_stays g i && not (same_name f g)) || rivals i
