-- Lists with the same premises of those that beliefs read say the same of all that beliefs read, if
-- the same facts contradict each other.
use Rattle.std.proofs.Common.{◌≡◌, ◌∙◌, ℕ, Bool, true, false, not, ◌&&◌, ◌||◌, cond, List, [], ◌∷◌, ◌++◌, refl, sym, ap, subst, inl}
use Rattle.std.specs.Prelude.{Option, Some, None}
use Rattle.std.specs.List.{list_any, filter_map, cons_option}
use Rattle.std.specs.Map.{lookup}
use Rattle.std.specs.Option.{option_or}
use Rattle.std.specs.Cmp.Lexicographic.{bytes_decides}
use Rattle.tmm_model.specs.declared.premise.Premise.{Premise}
use Rattle.tmm_model.specs.declared.premise.Premise.TheVariants.{Class, Kind, Point, Event, Token, Span, Dist, Rule, Protect, Against}
use Rattle.tmm_model.specs.declared.point.PointName.TheVariants.{Start, Begin, End}
use Rattle.tmm_model.specs.Beliefs.{as_root, as_effect, is_of, root_of, on_kind, class_of, says_against, are_rivals}
use Rattle.tmm_model.specs.Moments.{Moment, At, After, as_rule, rule_of}
use Rattle.tmm_model.specs.Points.{same_name}
use Rattle.tmm_model.specs.Sorts.{Sort, a_point, a_dist, a_protection, a_rivalry, declarations_of, declarations_in, declared_by, sort_in, class_in}
use Rattle.tmm_model.specs.Standing.{Standing, name_of, premise_in}
use Rattle.tmm_model.specs.Verdicts.{words_known}
use Rattle.list_theory.specs.WellNamed.{AllFollow, IsWellNamed}
use Rattle.list_theory.proofs.Elements.{In, list_any-In, In-right, In-filter, In-map, map-In, In-flat_map}
use Rattle.list_theory.proofs.Erased.{not_found}
use Rattle.list_theory.proofs.KnownNames.{fresh}
use Rattle.list_theory.proofs.WellNamed.{lookup-append, lookup-unknown}
use Rattle.belief_theory.specs.Touched.{contradict}
use Rattle.revisions.specs.Alike.{SayAlike, is_told, told_of, is_read, read_of}
use Rattle.revisions.proofs.Names.{fresh_word}

-- ---- members

filter_map_told : {Y : Type 0} (h : Premise → Option Y) → ((p : Premise) → is_told p ≡ false → h p ≡ None) → (ps : List Premise) → filter_map h ps ≡ filter_map h (told_of ps)
filter_map_told h unread [] = refl
filter_map_told {Y} h unread (p ∷ ps) = by (is_told p) refl (filter_map_told h unread ps)
  where
    by : (b : Bool) → is_told p ≡ b → filter_map h ps ≡ filter_map h (told_of ps) → cons_option (h p) (filter_map h ps) ≡ filter_map h (cond b (p ∷ told_of ps) (told_of ps))
    by true e again = ap (cons_option (h p)) again
    by false e again = ap (λ o. cons_option o (filter_map h ps)) (unread p e) ∙ again

no_root : (p : Premise) → is_told p ≡ false → root_of p ≡ None
no_root (Class name facts) e = refl
no_root (Kind name) e = refl
no_root (Point name) e = refl
no_root (Event name kind) e = cc
no_root (Token name fact) e = cc
no_root (Span name fact) e = cc
no_root (Dist name from to lo hi) e = refl
no_root (Rule name trigger lo hi effect given unless_facts) e = refl
no_root (Protect name fact from to) e = refl
no_root (Against name one other) e = refl

no_rule : (kind : List ℕ) (p : Premise) → is_told p ≡ false → on_kind kind p ≡ None
no_rule kind (Class name facts) e = refl
no_rule kind (Kind name) e = refl
no_rule kind (Point name) e = refl
no_rule kind (Event name kind_) e = refl
no_rule kind (Token name fact) e = refl
no_rule kind (Span name fact) e = refl
no_rule kind (Dist name from to lo hi) e = refl
no_rule kind (Rule name trigger lo hi effect given unless_facts) e = cc
no_rule kind (Protect name fact from to) e = refl
no_rule kind (Against name one other) e = refl

class_told : (fact : List ℕ) (ps : List Premise) → class_in ps fact ≡ class_in (told_of ps) fact
class_told fact [] = refl
class_told fact (Class name facts ∷ ps) = ap (λ o. elim (list_any (same_name fact) facts.items) as (λ _. Option (List ℕ)) [ true ↦ Some name | false ↦ o ]) (class_told fact ps)
class_told fact (Kind name ∷ ps) = class_told fact ps
class_told fact (Point name ∷ ps) = class_told fact ps
class_told fact (Event name kind ∷ ps) = class_told fact ps
class_told fact (Token name fact_ ∷ ps) = class_told fact ps
class_told fact (Span name fact_ ∷ ps) = class_told fact ps
class_told fact (Dist name from to lo hi ∷ ps) = class_told fact ps
class_told fact (Rule name trigger lo hi effect given unless_facts ∷ ps) = class_told fact ps
class_told fact (Protect name fact_ from to ∷ ps) = class_told fact ps
class_told fact (Against name one other ∷ ps) = class_told fact ps

-- ---- what is found under a name

-- what sees no premise that is not told sees the same under each name
found_told : {X : Type 0} (h : Option Premise → X) → ((p : Premise) → is_told p ≡ false → h (Some p) ≡ h None)
    → (earlier ps : List Premise) → AllFollow earlier ps → (n : List ℕ) → h (premise_in ps n) ≡ h (premise_in (told_of ps) n)
found_told h unseen earlier [] follow n = refl
found_told {X} h unseen earlier (p ∷ ps) follow n = by (same_name n (name_of p)) refl (is_told p) refl (found_told h unseen (earlier ++ p ∷ []) ps follow.1 n)
  where
    other : same_name n (name_of p) ≡ true → (q : Premise) → In q (told_of ps) → same_name n (name_of q) ≡ true → ⊥
    other e q at f =
        let named : n ≡ name_of p = (bytes_decides n (name_of p)).0 e in
        let named_too : n ≡ name_of q = (bytes_decides n (name_of q)).0 f in
        fresh (earlier ++ p ∷ []) ps follow.1 q (In-filter is_told ps q at).0 p (In-right earlier (p ∷ []) p (inl refl)) ((bytes_decides (name_of q) (name_of p)).1 (sym named_too ∙ named))

    by : (b : Bool) → same_name n (name_of p) ≡ b → (c : Bool) → is_told p ≡ c → h (premise_in ps n) ≡ h (premise_in (told_of ps) n)
        → h (cond b (Some p) (premise_in ps n)) ≡ h (premise_in (cond c (p ∷ told_of ps) (told_of ps)) n)
    by true eb true ec again = ap (λ b. h (cond b (Some p) (premise_in (told_of ps) n))) (sym eb)
    by true eb false ec again = unseen p ec ∙ ap h (sym (not_found (told_of ps) n (other eb)))
    by false eb true ec again = again ∙ ap (λ b. h (cond b (Some p) (premise_in (told_of ps) n))) (sym eb)
    by false eb false ec again = again

no_root_found : (p : Premise) → is_told p ≡ false → as_root (Some p) ≡ as_root None
no_root_found (Class name facts) e = refl
no_root_found (Kind name) e = refl
no_root_found (Point name) e = refl
no_root_found (Event name kind) e = cc
no_root_found (Token name fact) e = cc
no_root_found (Span name fact) e = cc
no_root_found (Dist name from to lo hi) e = refl
no_root_found (Rule name trigger lo hi effect given unless_facts) e = refl
no_root_found (Protect name fact from to) e = refl
no_root_found (Against name one other) e = refl

no_rule_found : (p : Premise) → is_told p ≡ false → as_rule (Some p) ≡ as_rule None
no_rule_found (Class name facts) e = refl
no_rule_found (Kind name) e = refl
no_rule_found (Point name) e = refl
no_rule_found (Event name kind) e = refl
no_rule_found (Token name fact) e = refl
no_rule_found (Span name fact) e = refl
no_rule_found (Dist name from to lo hi) e = refl
no_rule_found (Rule name trigger lo hi effect given unless_facts) e = cc
no_rule_found (Protect name fact from to) e = refl
no_rule_found (Against name one other) e = refl

-- ---- what a name is declared as

-- the one name that a premise that is not told declares, as what is no kind
unread_declares : (x : List ℕ) (p : Premise) → is_told p ≡ false → (n : List ℕ) (sort : Sort) → lookup (same_name n) (declarations_of p) ≡ Some sort
    → (as_effect x (Some sort) ≡ as_effect x None) × In n (declared_by p)
unread_declares x p e n sort at = by p e at
  where
    one : (name : List ℕ) (own : Sort) → as_effect x (Some own) ≡ as_effect x None → cond (same_name n name) (Some own) None ≡ Some sort → (as_effect x (Some sort) ≡ as_effect x None) × In n (name ∷ [])
    one name own quiet at = here (same_name n name) refl at
      where
        here : (b : Bool) → same_name n name ≡ b → cond b (Some own) None ≡ Some sort → (as_effect x (Some sort) ≡ as_effect x None) × In n (name ∷ [])
        here true e at = let is : own ≡ sort = cc in (subst (λ z. as_effect x (Some z) ≡ as_effect x None) is quiet, inl (sym ((bytes_decides n name).0 e)))
        here false e at = cc

    by : (p : Premise) → is_told p ≡ false → lookup (same_name n) (declarations_of p) ≡ Some sort → (as_effect x (Some sort) ≡ as_effect x None) × In n (declared_by p)
    by (Class name facts) e at = cc
    by (Kind name) e at = cc
    by (Point name) e at = one name a_point refl at
    by (Event name kind) e at = cc
    by (Token name fact) e at = cc
    by (Span name fact) e at = cc
    by (Dist name from to lo hi) e at = one name a_dist refl at
    by (Rule name trigger lo hi effect given unless_facts) e at = cc
    by (Protect name fact from to) e at = one name a_protection refl at
    by (Against name one_ other) e at = one name a_rivalry refl at

-- what a premise declares none after it does
undeclared : (earlier : List Premise) (p : Premise) (ps : List Premise) → AllFollow (earlier ++ p ∷ []) ps → (n : List ℕ) → In n (declared_by p) → sort_in (told_of ps) n ≡ None
undeclared earlier p ps follow n own = lookup-unknown (same_name n) (declarations_in (told_of ps)) (by (list_any (same_name n) (words_known (told_of ps))) refl)
  where
    by : (b : Bool) → list_any (same_name n) (words_known (told_of ps)) ≡ b → b ≡ false
    by false e = refl
    by true e =
        let (w, among, same) = list_any-In (same_name n) (words_known (told_of ps)) e in
        let (d, there, is) = In-map (λ d. d.0) (declarations_in (told_of ps)) w among in
        let (q, at, of) = In-flat_map declarations_of (told_of ps) d there in
        let named : w ≡ n = sym ((bytes_decides n w).0 same) in
        let declares : In n (declared_by q) = subst (λ z. In z (declared_by q)) (is ∙ named) (map-In (λ (d : List ℕ × Sort). d.0) (declarations_of q) d of) in
        absurd (fresh_word (earlier ++ p ∷ []) ps follow q (In-filter is_told ps q at).0 n declares p (In-right earlier (p ∷ []) p (inl refl)) own)

effect_told : (x : List ℕ) (earlier ps : List Premise) → AllFollow earlier ps → (n : List ℕ) → as_effect x (sort_in ps n) ≡ as_effect x (sort_in (told_of ps) n)
effect_told x earlier [] follow n = refl
effect_told x earlier (p ∷ ps) follow n =
    ap (as_effect x) (lookup-append (same_name n) (declarations_of p) (declarations_in ps))
    ∙ by (is_told p) refl (lookup (same_name n) (declarations_of p)) refl (effect_told x (earlier ++ p ∷ []) ps follow.1 n)
  where
    by : (b : Bool) → is_told p ≡ b → (o : Option Sort) → lookup (same_name n) (declarations_of p) ≡ o → as_effect x (sort_in ps n) ≡ as_effect x (sort_in (told_of ps) n)
        → as_effect x (option_or o (sort_in ps n)) ≡ as_effect x (sort_in (cond b (p ∷ told_of ps) (told_of ps)) n)
    by true e None at again =
        again ∙ sym (ap (as_effect x) (lookup-append (same_name n) (declarations_of p) (declarations_in (told_of ps)) ∙ ap (λ o. option_or o (sort_in (told_of ps) n)) at))
    by true e (Some sort) at again = sym (ap (as_effect x) (lookup-append (same_name n) (declarations_of p) (declarations_in (told_of ps)) ∙ ap (λ o. option_or o (sort_in (told_of ps) n)) at))
    by false e None at again = again
    by false e (Some sort) at again = let d = unread_declares x p e n sort at in d.0 ∙ ap (as_effect x) (sym (undeclared earlier p ps follow.1 n d.1))

-- ---- alike

module _ (s t : Standing) (named_s : IsWellNamed s.premises) (named_t : IsWellNamed t.premises) (same : told_of s.premises ≡ told_of t.premises) where
  rule_same : (r : List ℕ) → rule_of s r ≡ rule_of t r
  rule_same r =
      found_told as_rule no_rule_found [] s.premises named_s r
      ∙ ap (λ ps. as_rule (premise_in ps r)) same
      ∙ sym (found_told as_rule no_rule_found [] t.premises named_t r)

  effect_same : (x : List ℕ) → as_effect x (sort_in s.premises x) ≡ as_effect x (sort_in t.premises x)
  effect_same x = effect_told x [] s.premises named_s x ∙ ap (λ ps. as_effect x (sort_in ps x)) same ∙ sym (effect_told x [] t.premises named_t x)

  is_same : (x : Moment) → is_of s x ≡ is_of t x
  is_same (At Start) = refl
  is_same (At (End k)) = refl
  is_same (At (Begin k)) =
      found_told as_root no_root_found [] s.premises named_s k
      ∙ ap (λ ps. as_root (premise_in ps k)) same
      ∙ sym (found_told as_root no_root_found [] t.premises named_t k)
  is_same (After u r) = ap Some (ap (λ x. as_effect x (sort_in s.premises x)) (λ i. (rule_same r i).effect) ∙ effect_same (rule_of t r).effect)

  pub class_same : (fact : List ℕ) → class_of s fact ≡ class_of t fact
  class_same fact =
      ap (λ o. elim o as (λ _. List ℕ) [ Some class ↦ class | None ↦ [] ]) (class_told fact s.premises ∙ ap (λ ps. class_in ps fact) same ∙ sym (class_told fact t.premises))

  pub same_told : s.horizon ≡ t.horizon → ((f g : List ℕ) → contradict s f g ≡ contradict t f g) → SayAlike s t
  same_told horizon contradicts = record {
    declared = filter_map_told root_of no_root s.premises ∙ ap (filter_map root_of) same ∙ sym (filter_map_told root_of no_root t.premises);
    is = is_same;
    on = λ kind. filter_map_told (on_kind kind) (no_rule kind) s.premises ∙ ap (filter_map (on_kind kind)) same ∙ sym (filter_map_told (on_kind kind) (no_rule kind) t.premises);
    rule = rule_same;
    class = class_same;
    contradict = contradicts;
    horizon = horizon;
  }

  -- the same facts contradict each other where the same do by premises that say so
  pub contradict_same : (f g : List ℕ) → are_rivals s f g ≡ are_rivals t f g → contradict s f g ≡ contradict t f g
  contradict_same f g rivals = λ i. (same_name (class_same f i) (class_same g i) && not (same_name f g)) || rivals i

-- ---- lists with the same of all premises that beliefs read

any_read : (h : Premise → Bool) → ((p : Premise) → is_read p ≡ false → h p ≡ false) → (ps : List Premise) → list_any h ps ≡ list_any h (read_of ps)
any_read h unread [] = refl
any_read h unread (p ∷ ps) = by (is_read p) refl (any_read h unread ps)
  where
    by : (b : Bool) → is_read p ≡ b → list_any h ps ≡ list_any h (read_of ps) → (h p || list_any h ps) ≡ list_any h (cond b (p ∷ read_of ps) (read_of ps))
    by true e again = ap (λ b. h p || b) again
    by false e again = ap (λ b. b || list_any h ps) (unread p e) ∙ again

no_rivalry : (f g : List ℕ) (p : Premise) → is_read p ≡ false → says_against f g p ≡ false
no_rivalry f g (Class name facts) e = refl
no_rivalry f g (Kind name) e = refl
no_rivalry f g (Point name) e = refl
no_rivalry f g (Event name kind) e = refl
no_rivalry f g (Token name fact) e = refl
no_rivalry f g (Span name fact) e = refl
no_rivalry f g (Dist name from to lo hi) e = refl
no_rivalry f g (Rule name trigger lo hi effect given unless_facts) e = refl
no_rivalry f g (Protect name fact from to) e = refl
no_rivalry f g (Against name one other) e = cc

told_read : (ps : List Premise) → told_of ps ≡ told_of (read_of ps)
told_read [] = refl
told_read (Class name facts ∷ ps) = ap (λ l. Class name facts ∷ l) (told_read ps)
told_read (Kind name ∷ ps) = ap (λ l. Kind name ∷ l) (told_read ps)
told_read (Point name ∷ ps) = told_read ps
told_read (Event name kind ∷ ps) = ap (λ l. Event name kind ∷ l) (told_read ps)
told_read (Token name fact ∷ ps) = ap (λ l. Token name fact ∷ l) (told_read ps)
told_read (Span name fact ∷ ps) = ap (λ l. Span name fact ∷ l) (told_read ps)
told_read (Dist name from to lo hi ∷ ps) = told_read ps
told_read (Rule name trigger lo hi effect given unless_facts ∷ ps) = ap (λ l. Rule name trigger lo hi effect given unless_facts ∷ l) (told_read ps)
told_read (Protect name fact from to ∷ ps) = told_read ps
told_read (Against name one other ∷ ps) = told_read ps

pub same_read : (s t : Standing) → IsWellNamed s.premises → IsWellNamed t.premises → read_of s.premises ≡ read_of t.premises → s.horizon ≡ t.horizon → SayAlike s t
same_read s t named_s named_t same horizon =
    same_told s t named_s named_t told horizon (λ f g. contradict_same s t named_s named_t told f g (rivals f g))
  where
    told : told_of s.premises ≡ told_of t.premises
    told = told_read s.premises ∙ ap told_of same ∙ sym (told_read t.premises)

    rivals : (f g : List ℕ) → are_rivals s f g ≡ are_rivals t f g
    rivals f g =
        ap (λ b. not (same_name f g) && b)
        (any_read (says_against f g) (no_rivalry f g) s.premises ∙ ap (list_any (says_against f g)) same ∙ sym (any_read (says_against f g) (no_rivalry f g) t.premises))
