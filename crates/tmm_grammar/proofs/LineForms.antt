-- What each form of a line reads as, and that a line reads as at most one thing.
use Rattle.std.proofs.Common.{◌≡◌, ◌≢◌, ℕ, ◌≤◌, ℤ, pos, true, false, not, cond, List, [], ◌∷◌, length, Option, Some, None, refl, sym, ap, subst, ◌∙◌, inl, inr, arith}
use Rattle.std.specs.Prelude.{◌≤ℤ◌, int_le, decimal, option_map, ◌&&◌, nat_le, codes}
use Rattle.std.specs.Option.{option_or}
use Rattle.std.proofs.lemmas.Bool.{and_parts, leb-true, le-leb, not-true, true≢false}
use Rattle.std.proofs.lemmas.Int.{ints}
use Rattle.std.proofs.lemmas.Option.{same_Some, none-some}
use Rattle.tmm_model.specs.declared.bound.Bound.{Bound}
use Rattle.tmm_model.specs.declared.bound.Bound.TheVariants.{Finite, Free}
use Rattle.tmm_model.specs.declared.point.PointName.{PointName}
use Rattle.tmm_model.specs.declared.point.QueryPoint.{QueryPoint}
use Rattle.tmm_model.specs.declared.point.QueryPoint.TheVariants.{Declared, Derived}
use Rattle.tmm_model.specs.declared.premise.Premise.{Premise}
use Rattle.tmm_model.specs.declared.premise.Premise.TheVariants.{Class, Kind, Point, Event, Token, Span, Dist, Rule, Protect, Against}
use Rattle.tmm_model.specs.declared.premise.Edit.{Edit}
use Rattle.tmm_model.specs.declared.premise.Edit.TheVariants.{Add, Erase, Horizon, Upgrade}
use Rattle.tmm_model.specs.declared.version.Version.{Version}
use Rattle.tmm_model.specs.declared.version.Version.TheVariants.{One, Two}
use Rattle.tmm_model.specs.declared.line.Query.{Query}
use Rattle.tmm_model.specs.declared.line.Query.TheVariants.{Bounds, Path, Ask, Why, Check, List as Listing, Dump, Audit, Size}
use Rattle.tmm_model.specs.declared.line.Line.{Line}
use Rattle.tmm_model.specs.declared.line.Line.TheVariants.{Silent, Change, Question}
use Rattle.tmm_model.specs.Points.{same_name, point_word, occ_word, query_word}
use Rattle.tmm_model.specs.Lines.{IsName, AreNames, number_word, bound_word, IsNumber, IsBound, IsRange, IsWellFormedPoint, IsWellFormedPremise, IsWellFormedEdit, IsWellFormedQuery, IsWellFormedQueryPoint, IsOfVersion, IsEditOf, IsTwo, shown, edit_words, query_words, is_comment, Reads}
use Rattle.tmm_grammar.specs.Bare.{bare_point, bare_query, bare_line, SameLine}
use Rattle.tmm_grammar.specs.Reading.{◌>>=◌, passing, ended, alone, both, name_of, names_of, number_of, bound_of, point_of, occ_of, horizon_of, is_range, class_of, dist_of, conditions_of, rule_of, protect_of, name_alone_of, two_names_of, rivals_of, against_of, two_points_of, ask_of, premise_of, two_of, upgrade_of, edit_of, query_of, line_of}
use Rattle.tmm_grammar.proofs.LineReaders.{chosen, bind_some, map_some, passing_some, ended_some, IsReader, alone_reader, both_reader}
use Rattle.tmm_grammar.proofs.LineFacts.{names_reader, Conditions, condition_words, AreConditions, conditions_reader}
use Rattle.tmm_grammar.proofs.LineNumbers.{number_reader}
use Rattle.tmm_grammar.proofs.LinePoints.{name_reader, bound_reader, point_reader, IsBareOcc, occ_reader, IsBarePoint, query_point_reader, horizon_reader}
use Rattle.walk_theory.proofs.Points.{same_name-is, names_differ, names_apart}

-- in the version the words declare the premise
abbrev pub Declares : Version → List (List ℕ) → Premise → Type 0
Declares version ws p = (ws ≡ shown p) × IsWellFormedPremise p × IsOfVersion version p

-- ---- bounds

int_le_true : (a b : ℤ) → int_le a b ≡ true → a ≤ℤ b
int_le_true a b h = omega (arith, ints)

int_le_from : (a b : ℤ) → a ≤ℤ b → int_le a b ≡ true
int_le_from a b h = grind (arith, ints)

range_true : (lo hi : Bound) → is_range lo hi ≡ true → IsRange lo hi
range_true (Finite lo) (Finite hi) h = int_le_true lo hi h
range_true (Finite lo) Free h = tt
range_true Free (Finite hi) h = tt
range_true Free Free h = true≢false (sym h)

range_from : (lo hi : Bound) → IsRange lo hi → is_range lo hi ≡ true
range_from (Finite lo) (Finite hi) h = int_le_from lo hi h
range_from (Finite lo) Free h = refl
range_from Free (Finite hi) h = refl
range_from Free Free h = absurd h

-- ---- premises

class_words : IsReader (λ (t : List ℕ × List (List ℕ)). t.0 ∷ t.1) (λ t. IsName t.0 × (AreNames t.1 × (length t.1 ≤ 8))) (both name_of (names_of 8))
class_words = both_reader name_reader (names_reader 8)

class-sound : (version : Version) (ws : List (List ℕ)) (p : Premise) → class_of ws ≡ Some p → Declares version (codes "class" ∷ ws) p
unfolding class_of
class-sound version ws p e =
    let a = bind_some (both name_of (names_of 8) ws) (λ t. passing (nat_le 1 (length t.1)) (Class t.0 (record { items = t.1 }))) p e in
    let c = passing_some (nat_le 1 (length a.0.1)) (Class a.0.0 (record { items = a.0.1 })) p a.2 in
    let r = class_words.sound ws a.0 a.1 in
    subst (Declares version (codes "class" ∷ ws)) c.1 (ap (λ (x : List (List ℕ)). codes "class" ∷ x) r.1, (r.0.0, r.0.1.0, leb-true 1 (length a.0.1) c.0, r.0.1.1), tt)

class-again : (n : List ℕ) (fs : List (List ℕ)) → IsName n → AreNames fs → 1 ≤ length fs → length fs ≤ 8 → class_of (n ∷ fs) ≡ Some (Class n (record { items = fs }))
unfolding class_of
class-again n fs h k some few =
    ap (λ (r : Option (List ℕ × List (List ℕ))). r >>= λ t. passing (nat_le 1 (length t.1)) (Class t.0 (record { items = t.1 }))) (class_words.complete (n, fs) (h, (k, few)))
    ∙ rw (le-leb 1 (length fs) some) refl

IsDistWords : List ℕ × (PointName × (PointName × (Bound × Bound))) → Type 0
IsDistWords t = IsName t.0 × (IsWellFormedPoint t.1.0 × (IsWellFormedPoint t.1.1.0 × (IsBound t.1.1.1.0 × IsBound t.1.1.1.1)))

dist_words : IsReader (λ (t : List ℕ × (PointName × (PointName × (Bound × Bound)))). t.0 ∷ point_word t.1.0 ∷ point_word t.1.1.0 ∷ bound_word t.1.1.1.0 ∷ bound_word t.1.1.1.1 ∷ []) IsDistWords (both name_of (both point_of (both point_of (both bound_of (alone bound_of)))))
unfolding IsDistWords
dist_words = both_reader name_reader (both_reader point_reader (both_reader point_reader (both_reader bound_reader (alone_reader bound_reader))))

dist_from : List ℕ × (PointName × (PointName × (Bound × Bound))) → Option Premise
dist_from t = passing (is_range t.1.1.1.0 t.1.1.1.1) (Dist t.0 t.1.0 t.1.1.0 t.1.1.1.0 t.1.1.1.1)

dist-sound : (version : Version) (ws : List (List ℕ)) (p : Premise) → dist_of ws ≡ Some p → Declares version (codes "dist" ∷ ws) p
unfolding dist_of dist_from IsDistWords
dist-sound version ws p e =
    let a = bind_some (both name_of (both point_of (both point_of (both bound_of (alone bound_of)))) ws) dist_from p e in
    let t = a.0 in
    let c = passing_some (is_range t.1.1.1.0 t.1.1.1.1) (Dist t.0 t.1.0 t.1.1.0 t.1.1.1.0 t.1.1.1.1) p a.2 in
    let r = dist_words.sound ws t a.1 in
    subst (Declares version (codes "dist" ∷ ws)) c.1 (ap (λ (x : List (List ℕ)). codes "dist" ∷ x) r.1, (r.0.0, r.0.1.0, r.0.1.1.0, r.0.1.1.1.0, r.0.1.1.1.1, range_true t.1.1.1.0 t.1.1.1.1 c.0), tt)

dist-again : (t : List ℕ × (PointName × (PointName × (Bound × Bound)))) → IsDistWords t → IsRange t.1.1.1.0 t.1.1.1.1
    → dist_of (t.0 ∷ point_word t.1.0 ∷ point_word t.1.1.0 ∷ bound_word t.1.1.1.0 ∷ bound_word t.1.1.1.1 ∷ []) ≡ Some (Dist t.0 t.1.0 t.1.1.0 t.1.1.1.0 t.1.1.1.1)
unfolding dist_of dist_from
dist-again t h k = ap (λ (r : Option (List ℕ × (PointName × (PointName × (Bound × Bound))))). r >>= dist_from) (dist_words.complete t h) ∙ rw (range_from t.1.1.1.0 t.1.1.1.1 k) refl

abbrev RuleWords : Type 0
RuleWords = List ℕ × (List ℕ × (ℤ × (Bound × (List ℕ × Conditions))))

IsRuleWords : Version → RuleWords → Type 0
IsRuleWords version t = IsName t.0 × (IsName t.1.0 × (IsNumber t.1.1.0 × (IsBound t.1.1.1.0 × (IsName t.1.1.1.1.0 × AreConditions version t.1.1.1.1.1))))

rule_text : RuleWords → List (List ℕ)
rule_text t = t.0 ∷ t.1.0 ∷ number_word t.1.1.0 ∷ bound_word t.1.1.1.0 ∷ t.1.1.1.1.0 ∷ condition_words t.1.1.1.1.1

rule_words : (version : Version) → IsReader rule_text (IsRuleWords version) (both name_of (both name_of (both number_of (both bound_of (both name_of (conditions_of version))))))
unfolding IsRuleWords rule_text
rule_words version = both_reader name_reader (both_reader name_reader (both_reader number_reader (both_reader bound_reader (both_reader name_reader (conditions_reader version)))))

rule_from : RuleWords → Option Premise
rule_from t = passing (int_le (pos 1) t.1.1.0 && is_range (Finite t.1.1.0) t.1.1.1.0) (Rule t.0 t.1.0 t.1.1.0 t.1.1.1.0 t.1.1.1.1.0 (record { items = t.1.1.1.1.1.0 }) (record { items = t.1.1.1.1.1.1 }))

rule-sound : (version : Version) (ws : List (List ℕ)) (p : Premise) → rule_of version ws ≡ Some p → Declares version (codes "rule" ∷ ws) p
unfolding rule_of rule_from IsRuleWords rule_text
rule-sound version ws p e =
    let a = bind_some (both name_of (both name_of (both number_of (both bound_of (both name_of (conditions_of version))))) ws) rule_from p e in
    let t = a.0 in
    let c = passing_some (int_le (pos 1) t.1.1.0 && is_range (Finite t.1.1.0) t.1.1.1.0) (Rule t.0 t.1.0 t.1.1.0 t.1.1.1.0 t.1.1.1.1.0 (record { items = t.1.1.1.1.1.0 }) (record { items = t.1.1.1.1.1.1 })) p a.2 in
    let d = and_parts (int_le (pos 1) t.1.1.0) (is_range (Finite t.1.1.0) t.1.1.1.0) c.0 in
    let r = (rule_words version).sound ws t a.1 in
    let q = r.0.1.1.1.1.1 in
    subst (Declares version (codes "rule" ∷ ws)) c.1 (
      ap (λ (x : List (List ℕ)). codes "rule" ∷ x) r.1,
      (
        r.0.0,
        r.0.1.0,
        r.0.1.1.0,
        r.0.1.1.1.0,
        int_le_true (pos 1) t.1.1.0 d.0,
        range_true (Finite t.1.1.0) t.1.1.1.0 d.1,
        r.0.1.1.1.1.0,
        q.0.0.0,
        q.0.0.1,
        q.0.1.0,
        q.0.1.1,
      ),
      q.1,
    )

rule-again : (version : Version) (t : RuleWords) → IsRuleWords version t → rule_from t ≡ rule_of version (rule_text t)
unfolding rule_of rule_from
rule-again version t h = sym (ap (λ (r : Option RuleWords). r >>= rule_from) ((rule_words version).complete t h))

protect_words : IsReader {A = List ℕ × (List ℕ × (PointName × PointName))} (λ t. t.0 ∷ t.1.0 ∷ point_word t.1.1.0 ∷ point_word t.1.1.1 ∷ []) (λ t. IsName t.0 × (IsName t.1.0 × (IsWellFormedPoint t.1.1.0 × IsWellFormedPoint t.1.1.1))) (both name_of (both name_of (both point_of (alone point_of))))
protect_words = both_reader name_reader (both_reader name_reader (both_reader point_reader (alone_reader point_reader)))

protect-sound : (version : Version) (ws : List (List ℕ)) (p : Premise) → protect_of ws ≡ Some p → Declares version (codes "protect" ∷ ws) p
unfolding protect_of
protect-sound version ws p e =
    let a = map_some (λ t. Protect t.0 t.1.0 t.1.1.0 t.1.1.1) (both name_of (both name_of (both point_of (alone point_of))) ws) p e in
    let r = protect_words.sound ws a.0 a.1 in
    subst (Declares version (codes "protect" ∷ ws)) a.2 (ap (λ (x : List (List ℕ)). codes "protect" ∷ x) r.1, (r.0.0, r.0.1.0, r.0.1.1.0, r.0.1.1.1), tt)

protect-again : (n f : List ℕ) (p q : PointName) → IsName n → IsName f → IsWellFormedPoint p → IsWellFormedPoint q → protect_of (n ∷ f ∷ point_word p ∷ point_word q ∷ []) ≡ Some (Protect n f p q)
unfolding protect_of
protect-again n f p q h k x y = ap (option_map (λ t. Protect t.0 t.1.0 t.1.1.0 t.1.1.1)) (protect_words.complete (n, (f, (p, q))) (h, (k, (x, y))))

name_alone : IsReader (λ n. n ∷ []) IsName name_alone_of
unfolding name_alone_of
name_alone = alone_reader name_reader

two_names : IsReader {A = List ℕ × List ℕ} (λ t. t.0 ∷ t.1 ∷ []) (λ t. IsName t.0 × IsName t.1) two_names_of
unfolding two_names_of
two_names = both_reader name_reader (alone_reader name_reader)

rivals_words : IsReader {A = List ℕ × (List ℕ × List ℕ)} (λ t. t.0 ∷ t.1.0 ∷ t.1.1 ∷ []) (λ t. IsName t.0 × (IsName t.1.0 × IsName t.1.1)) (both name_of two_names_of)
rivals_words = both_reader name_reader two_names

rivals_from : List ℕ × (List ℕ × List ℕ) → Option Premise
rivals_from t = passing (not (same_name t.1.0 t.1.1)) (Against t.0 t.1.0 t.1.1)

rivals-sound : (ws : List (List ℕ)) (p : Premise) → rivals_of ws ≡ Some p → Declares Two (codes "against" ∷ ws) p
unfolding rivals_of rivals_from
rivals-sound ws p e =
    let a = bind_some (both name_of two_names_of ws) rivals_from p e in
    let t = a.0 in
    let c = passing_some (not (same_name t.1.0 t.1.1)) (Against t.0 t.1.0 t.1.1) p a.2 in
    let r = rivals_words.sound ws t a.1 in
    subst (Declares Two (codes "against" ∷ ws)) c.1 (ap (λ (x : List (List ℕ)). codes "against" ∷ x) r.1, (r.0.0, r.0.1.0, r.0.1.1, names_apart t.1.0 t.1.1 (not-true (same_name t.1.0 t.1.1) c.0)), tt)

rivals-again : (n f g : List ℕ) → IsName n → IsName f → IsName g → f ≢ g → rivals_of (n ∷ f ∷ g ∷ []) ≡ Some (Against n f g)
unfolding rivals_of rivals_from
rivals-again n f g h k j apart =
    ap (λ (r : Option (List ℕ × (List ℕ × List ℕ))). r >>= rivals_from) (rivals_words.complete (n, (f, g)) (h, (k, j)))
    ∙ rw (names_differ f g apart) refl

against-sound : (version : Version) (ws : List (List ℕ)) (p : Premise) → against_of version ws ≡ Some p → Declares version (codes "against" ∷ ws) p
unfolding against_of
against-sound One ws p e = absurd cc
against-sound Two ws p e = rivals-sound ws p e

against-again : (version : Version) (n f g : List ℕ) → IsName n → IsName f → IsName g → f ≢ g → IsTwo version → against_of version (n ∷ f ∷ g ∷ []) ≡ Some (Against n f g)
unfolding against_of
against-again One n f g h k j apart two = absurd two
against-again Two n f g h k j apart two = rivals-again n f g h k j apart

-- one keyword after the other
keyed : {A : Type 0} (w k : List ℕ) (x y : Option A) (p : A) (P : List ℕ → Type 0) → cond (same_name w k) x y ≡ Some p → (x ≡ Some p → P k) → (y ≡ Some p → P w) → P w
keyed w k x y p P e here else =
    elim (chosen (same_name w k) x y (Some p) e) [
      | inl q ↦ subst P (sym (same_name-is w k q.0)) (here q.1)
      | inr q ↦ else q.1
    ]

one_name_premise : (c : List ℕ → Premise) (ws : List (List ℕ)) (p : Premise) (P : Premise → Type 0) → ((n : List ℕ) → IsName n → ws ≡ n ∷ [] → P (c n)) → option_map c (name_alone_of ws) ≡ Some p → P p
one_name_premise c ws p P f e =
    let a = map_some c (name_alone_of ws) p e in
    let r = name_alone.sound ws a.0 a.1 in
    subst P a.2 (f a.0 r.0 r.1)

two_name_premise : (c : List ℕ → List ℕ → Premise) (ws : List (List ℕ)) (p : Premise) (P : Premise → Type 0) → ((n m : List ℕ) → IsName n → IsName m → ws ≡ n ∷ m ∷ [] → P (c n m)) → option_map (λ t. c t.0 t.1) (two_names_of ws) ≡ Some p → P p
two_name_premise c ws p P f e =
    let a = map_some (λ t. c t.0 t.1) (two_names_of ws) p e in
    let r = two_names.sound ws a.0 a.1 in
    subst P a.2 (f a.0.0 a.0.1 r.0.0 r.0.1 r.1)

behind : (k : List ℕ) (ws vs : List (List ℕ)) → ws ≡ vs → k ∷ ws ≡ k ∷ vs
behind k ws vs e = ap (λ (x : List (List ℕ)). k ∷ x) e

pub premise_of-sound : (version : Version) (w : List ℕ) (ws : List (List ℕ)) (p : Premise) → premise_of version w ws ≡ Some p → Declares version (w ∷ ws) p
unfolding premise_of
premise_of-sound version w ws p e =
    let P = λ (v : List ℕ). Declares version (v ∷ ws) p in
    keyed w (codes "class") _ _ p P e (class-sound version ws p) (λ e.
    keyed w (codes "kind") _ _ p P e (one_name_premise Kind ws p (Declares version (codes "kind" ∷ ws)) (λ n h q. (behind _ ws _ q, h, tt))) (λ e.
    keyed w (codes "point") _ _ p P e (one_name_premise Point ws p (Declares version (codes "point" ∷ ws)) (λ n h q. (behind _ ws _ q, h, tt))) (λ e.
    keyed w (codes "event") _ _ p P e (two_name_premise Event ws p (Declares version (codes "event" ∷ ws)) (λ n m h k q. (behind _ ws _ q, (h, k), tt))) (λ e.
    keyed w (codes "token") _ _ p P e (two_name_premise Token ws p (Declares version (codes "token" ∷ ws)) (λ n m h k q. (behind _ ws _ q, (h, k), tt))) (λ e.
    keyed w (codes "span") _ _ p P e (two_name_premise Span ws p (Declares version (codes "span" ∷ ws)) (λ n m h k q. (behind _ ws _ q, (h, k), tt))) (λ e.
    keyed w (codes "dist") _ _ p P e (dist-sound version ws p) (λ e.
    keyed w (codes "rule") _ _ p P e (rule-sound version ws p) (λ e.
    keyed w (codes "protect") _ _ p P e (protect-sound version ws p) (λ e.
    keyed w (codes "against") _ _ p P e (against-sound version ws p) (λ e. absurd cc))))))))))

-- what the first word and the words behind it read as
premise_in : Version → List (List ℕ) → Option Premise
premise_in version [] = None
premise_in version (w ∷ ws) = premise_of version w ws

premise_in-shown : (version : Version) (p : Premise) → IsWellFormedPremise p → IsOfVersion version p → premise_in version (shown p) ≡ Some p
unfolding premise_in premise_of rule_text IsRuleWords rule_from IsDistWords
premise_in-shown version (Class n fs) h of_version = class-again n fs.items h.0 h.1 h.2 h.3
premise_in-shown version (Kind n) h of_version = ap (option_map Kind) (name_alone.complete n h)
premise_in-shown version (Point n) h of_version = ap (option_map Point) (name_alone.complete n h)
premise_in-shown version (Event n k) h of_version = ap (option_map (λ t. Event t.0 t.1)) (two_names.complete (n, k) h)
premise_in-shown version (Token n k) h of_version = ap (option_map (λ t. Token t.0 t.1)) (two_names.complete (n, k) h)
premise_in-shown version (Span n k) h of_version = ap (option_map (λ t. Span t.0 t.1)) (two_names.complete (n, k) h)
premise_in-shown version (Dist n p q lo hi) h of_version = dist-again (n, (p, (q, (lo, hi)))) (h.0, (h.1, (h.2, (h.3, h.4)))) h.5
premise_in-shown version (Rule n t lo hi x given unless_facts) h of_version =
    sym (rule-again version (n, (t, (lo, (hi, (x, (given.items, unless_facts.items)))))) (h.0, (h.1, (h.2, (h.3, (h.6, (((h.7, h.8), (h.9, h.10)), of_version)))))))
    ∙ rw (int_le_from (pos 1) lo h.4, range_from (Finite lo) hi h.5) refl
premise_in-shown version (Protect n f p q) h of_version = protect-again n f p q h.0 h.1 h.2 h.3
premise_in-shown version (Against n f g) h of_version = against-again version n f g h.0 h.1 h.2 h.3 of_version

-- ---- changes

horizon_words : IsReader (λ n. decimal n ∷ []) (λ n. n ≤ 100000) (alone horizon_of)
horizon_words = alone_reader horizon_reader

abbrev pub Edits : Version → List (List ℕ) → Edit → Type 0
Edits version ws e = (ws ≡ edit_words e) × IsWellFormedEdit e × IsEditOf version e

two_reader : IsReader {A = Edit} (λ _. codes "2") (λ e. e ≡ Upgrade) two_of
two_reader = record {
  sound = λ w e is. let p = passing_some (same_name w (codes "2")) Upgrade e is in (sym p.1, same_name-is w (codes "2") p.0);
  complete = λ e is. ap Some (sym is);
}

upgrade_words : IsReader {A = Edit} (λ _. codes "2" ∷ []) (λ e. e ≡ Upgrade) (alone two_of)
upgrade_words = alone_reader two_reader

upgrade-sound : (version : Version) (ws : List (List ℕ)) (e : Edit) → upgrade_of version ws ≡ Some e → Edits version (codes "tmm" ∷ ws) e
unfolding upgrade_of
upgrade-sound One ws e is = let r = upgrade_words.sound ws e is in subst (Edits One (codes "tmm" ∷ ws)) (sym r.0) (behind _ ws _ r.1, tt, tt)
upgrade-sound Two ws e is = absurd cc

pub edit_of-sound : (version : Version) (w : List ℕ) (ws : List (List ℕ)) (e : Edit) → edit_of version w ws ≡ Some e → Edits version (w ∷ ws) e
unfolding edit_of
edit_of-sound version w ws d e =
    let P = λ (v : List ℕ). Edits version (v ∷ ws) d in
    keyed w (codes "erase") _ _ d P e (λ e.
    let a = map_some Erase (name_alone_of ws) d e in
    let r = name_alone.sound ws a.0 a.1 in
    subst (Edits version (codes "erase" ∷ ws)) a.2 (behind _ ws _ r.1, r.0, tt)) (λ e.
    keyed w (codes "horizon") _ _ d P e (λ e.
    let a = map_some Horizon (alone horizon_of ws) d e in
    let r = horizon_words.sound ws a.0 a.1 in
    subst (Edits version (codes "horizon" ∷ ws)) a.2 (behind _ ws _ r.1, r.0, tt)) (λ e.
    keyed w (codes "tmm") _ _ d P e (upgrade-sound version ws d) (λ e.
    let a = map_some Add (premise_of version w ws) d e in
    let r = premise_of-sound version w ws a.0 a.1 in
    subst (Edits version (w ∷ ws)) a.2 r)))

edit_in : Version → List (List ℕ) → Option Edit
edit_in version [] = None
edit_in version (w ∷ ws) = edit_of version w ws

edit_in-add : (version : Version) (p : Premise) → edit_in version (shown p) ≡ option_map Add (premise_in version (shown p))
unfolding edit_in edit_of premise_in
edit_in-add version (Class n fs) = refl
edit_in-add version (Kind n) = refl
edit_in-add version (Point n) = refl
edit_in-add version (Event n k) = refl
edit_in-add version (Token n k) = refl
edit_in-add version (Span n k) = refl
edit_in-add version (Dist n p q lo hi) = refl
edit_in-add version (Rule n t lo hi x given unless_facts) = refl
edit_in-add version (Protect n f p q) = refl
edit_in-add version (Against n f g) = refl

upgrade-again : (version : Version) → IsEditOf version Upgrade → upgrade_of version (codes "2" ∷ []) ≡ Some Upgrade
unfolding upgrade_of
upgrade-again One h = upgrade_words.complete Upgrade refl
upgrade-again Two h = absurd h

edit_in-words : (version : Version) (e : Edit) → IsWellFormedEdit e → IsEditOf version e → edit_in version (edit_words e) ≡ Some e
unfolding edit_in edit_of
edit_in-words version (Add p) h of_version = edit_in-add version p ∙ ap (option_map Add) (premise_in-shown version p h of_version)
edit_in-words version (Erase n) h of_version = ap (option_map Erase) (name_alone.complete n h)
edit_in-words version (Horizon n) h of_version = ap (option_map Horizon) (horizon_words.complete n h)
edit_in-words version Upgrade h of_version = upgrade-again version of_version

-- ---- questions

two_points : IsReader {A = QueryPoint × QueryPoint} (λ t. query_word t.0 ∷ query_word t.1 ∷ []) (λ t. IsBarePoint t.0 × IsBarePoint t.1) two_points_of
unfolding two_points_of
two_points = both_reader query_point_reader (alone_reader query_point_reader)

ask_words : IsReader {A = List ℕ × (QueryPoint × QueryPoint)} (λ t. t.0 ∷ query_word t.1.0 ∷ query_word t.1.1 ∷ []) (λ t. IsName t.0 × (IsBarePoint t.1.0 × IsBarePoint t.1.1)) (both name_of two_points_of)
ask_words = both_reader name_reader two_points

occ_words : IsReader (λ o. occ_word o ∷ []) IsBareOcc (alone occ_of)
occ_words = alone_reader occ_reader

-- a question whose lists have no room
abbrev pub IsBareQuery : Query → Type 0
IsBareQuery (Bounds p q) = IsBarePoint p × IsBarePoint q
IsBareQuery (Path p q) = IsBarePoint p × IsBarePoint q
IsBareQuery (Ask fact p q) = IsName fact × IsBarePoint p × IsBarePoint q
IsBareQuery (Why o) = IsBareOcc o
IsBareQuery _ = Unit {0}

abbrev Asks : List (List ℕ) → Query → Type 0
Asks ws q = (ws ≡ query_words q) × IsBareQuery q

points_query : (c : QueryPoint → QueryPoint → Query) (ws : List (List ℕ)) (q : Query) (P : Query → Type 0) → ((x y : QueryPoint) → IsBarePoint x → IsBarePoint y → ws ≡ query_word x ∷ query_word y ∷ [] → P (c x y)) → option_map (λ t. c t.0 t.1) (two_points_of ws) ≡ Some q → P q
points_query c ws q P f e =
    let a = map_some (λ t. c t.0 t.1) (two_points_of ws) q e in
    let r = two_points.sound ws a.0 a.1 in
    subst P a.2 (f a.0.0 a.0.1 r.0.0 r.0.1 r.1)

plain_query : (c : Query) (k : List ℕ) (ws : List (List ℕ)) (q : Query) → Asks (k ∷ []) c → ended c ws ≡ Some q → Asks (k ∷ ws) q
plain_query c k ws q h e = let a = ended_some c q ws e in subst (Asks (k ∷ ws)) a.1 (behind k ws [] a.0 ∙ h.0, h.1)

pub query_of-sound : (w : List ℕ) (ws : List (List ℕ)) (q : Query) → query_of w ws ≡ Some q → Asks (w ∷ ws) q
unfolding query_of ask_of
query_of-sound w ws q e =
    let P = λ (v : List ℕ). Asks (v ∷ ws) q in
    keyed w (codes "ask") _ _ q P e (λ e.
    let a = map_some (λ t. Ask t.0 t.1.0 t.1.1) (both name_of two_points_of ws) q e in
    let r = ask_words.sound ws a.0 a.1 in
    subst (Asks (codes "ask" ∷ ws)) a.2 (behind _ ws _ r.1, (r.0.0, r.0.1.0, r.0.1.1))) (λ e.
    keyed w (codes "bounds") _ _ q P e (points_query Bounds ws q (Asks (codes "bounds" ∷ ws)) (λ x y h k r. (behind _ ws _ r, (h, k)))) (λ e.
    keyed w (codes "path") _ _ q P e (points_query Path ws q (Asks (codes "path" ∷ ws)) (λ x y h k r. (behind _ ws _ r, (h, k)))) (λ e.
    keyed w (codes "why") _ _ q P e (λ e.
    let a = map_some Why (alone occ_of ws) q e in
    let r = occ_words.sound ws a.0 a.1 in
    subst (Asks (codes "why" ∷ ws)) a.2 (behind _ ws _ r.1, r.0)) (λ e.
    keyed w (codes "check") _ _ q P e (plain_query Check (codes "check") ws q (refl, tt)) (λ e.
    keyed w (codes "list") _ _ q P e (plain_query Listing (codes "list") ws q (refl, tt)) (λ e.
    keyed w (codes "dump") _ _ q P e (plain_query Dump (codes "dump") ws q (refl, tt)) (λ e.
    keyed w (codes "audit") _ _ q P e (plain_query Audit (codes "audit") ws q (refl, tt)) (λ e.
    keyed w (codes "size") _ _ q P e (plain_query Size (codes "size") ws q (refl, tt)) (λ e. absurd cc)))))))))

query_in : List (List ℕ) → Option Query
query_in [] = None
query_in (w ∷ ws) = query_of w ws

query_in-words : (q : Query) → IsBareQuery q → query_in (query_words q) ≡ Some q
unfolding query_in query_of ask_of
query_in-words (Bounds p q) h = ap (option_map (λ t. Bounds t.0 t.1)) (two_points.complete (p, q) h)
query_in-words (Path p q) h = ap (option_map (λ t. Path t.0 t.1)) (two_points.complete (p, q) h)
query_in-words (Ask f p q) h = ap (option_map (λ t. Ask t.0 t.1.0 t.1.1)) (ask_words.complete (f, (p, q)) (h.0, (h.1, h.2)))
query_in-words (Why o) h = ap (option_map Why) (occ_words.complete o h)
query_in-words Check h = refl
query_in-words Listing h = refl
query_in-words Dump h = refl
query_in-words Audit h = refl
query_in-words Size h = refl

no_edit : (version : Version) (q : Query) → edit_in version (query_words q) ≡ None
unfolding edit_in edit_of premise_of
no_edit version (Bounds p q) = refl
no_edit version (Path p q) = refl
no_edit version (Ask f p q) = refl
no_edit version (Why o) = refl
no_edit version Check = refl
no_edit version Listing = refl
no_edit version Dump = refl
no_edit version Audit = refl
no_edit version Size = refl

-- ---- lines

-- words that are no comment
spoken : Version → List (List ℕ) → Option Line
spoken version ws = option_or (option_map Change (edit_in version ws)) (option_map Question (query_in ws))

line_of-spoken : (version : Version) (w : List ℕ) (ws : List (List ℕ)) → is_comment w ≡ false → line_of version (w ∷ ws) ≡ spoken version (w ∷ ws)
unfolding line_of spoken edit_in query_in
line_of-spoken version w ws h = rw h refl

spoken-premise : (version : Version) (p : Premise) → line_of version (shown p) ≡ spoken version (shown p)
spoken-premise version (Class n fs) = line_of-spoken _ _ _ refl
spoken-premise version (Kind n) = line_of-spoken _ _ _ refl
spoken-premise version (Point n) = line_of-spoken _ _ _ refl
spoken-premise version (Event n k) = line_of-spoken _ _ _ refl
spoken-premise version (Token n k) = line_of-spoken _ _ _ refl
spoken-premise version (Span n k) = line_of-spoken _ _ _ refl
spoken-premise version (Dist n p q lo hi) = line_of-spoken _ _ _ refl
spoken-premise version (Rule n t lo hi x given unless_facts) = line_of-spoken _ _ _ refl
spoken-premise version (Protect n f p q) = line_of-spoken _ _ _ refl
spoken-premise version (Against n f g) = line_of-spoken _ _ _ refl

spoken-edit : (version : Version) (e : Edit) → line_of version (edit_words e) ≡ spoken version (edit_words e)
spoken-edit version (Add p) = spoken-premise version p
spoken-edit version (Erase n) = line_of-spoken _ _ _ refl
spoken-edit version (Horizon n) = line_of-spoken _ _ _ refl
spoken-edit version Upgrade = line_of-spoken _ _ _ refl

spoken-query : (version : Version) (q : Query) → line_of version (query_words q) ≡ spoken version (query_words q)
spoken-query version (Bounds p q) = line_of-spoken _ _ _ refl
spoken-query version (Path p q) = line_of-spoken _ _ _ refl
spoken-query version (Ask f p q) = line_of-spoken _ _ _ refl
spoken-query version (Why o) = line_of-spoken _ _ _ refl
spoken-query version Check = line_of-spoken _ _ _ refl
spoken-query version Listing = line_of-spoken _ _ _ refl
spoken-query version Dump = line_of-spoken _ _ _ refl
spoken-query version Audit = line_of-spoken _ _ _ refl
spoken-query version Size = line_of-spoken _ _ _ refl

-- a point or a question, with and without the room of its lists
bare_point_ok : (p : QueryPoint) → IsWellFormedQueryPoint p → IsBarePoint (bare_point p)
bare_point_ok (Declared p) h = h
bare_point_ok (Derived o) h = ((h.0, refl), h.1)

point_ok : (p : QueryPoint) → IsBarePoint (bare_point p) → IsWellFormedQueryPoint p
point_ok (Declared p) h = h
point_ok (Derived o) h = (h.0.0, h.1)

bare_point_word : (p : QueryPoint) → query_word (bare_point p) ≡ query_word p
bare_point_word (Declared p) = refl
bare_point_word (Derived o) = refl

bare_query_ok : (q : Query) → IsWellFormedQuery q → IsBareQuery (bare_query q)
bare_query_ok (Bounds p q) h = (bare_point_ok p h.0, bare_point_ok q h.1)
bare_query_ok (Path p q) h = (bare_point_ok p h.0, bare_point_ok q h.1)
bare_query_ok (Ask f p q) h = (h.0, bare_point_ok p h.1, bare_point_ok q h.2)
bare_query_ok (Why o) h = (h, refl)
bare_query_ok Check h = tt
bare_query_ok Listing h = tt
bare_query_ok Dump h = tt
bare_query_ok Audit h = tt
bare_query_ok Size h = tt

query_ok : (q : Query) → IsBareQuery (bare_query q) → IsWellFormedQuery q
query_ok (Bounds p q) h = (point_ok p h.0, point_ok q h.1)
query_ok (Path p q) h = (point_ok p h.0, point_ok q h.1)
query_ok (Ask f p q) h = (h.0, point_ok p h.1, point_ok q h.2)
query_ok (Why o) h = h.0
query_ok Check h = tt
query_ok Listing h = tt
query_ok Dump h = tt
query_ok Audit h = tt
query_ok Size h = tt

bare_query_words : (q : Query) → query_words (bare_query q) ≡ query_words q
bare_query_words (Bounds p q) = λ i. codes "bounds" ∷ bare_point_word p i ∷ bare_point_word q i ∷ []
bare_query_words (Path p q) = λ i. codes "path" ∷ bare_point_word p i ∷ bare_point_word q i ∷ []
bare_query_words (Ask f p q) = λ i. codes "ask" ∷ f ∷ bare_point_word p i ∷ bare_point_word q i ∷ []
bare_query_words (Why o) = refl
bare_query_words Check = refl
bare_query_words Listing = refl
bare_query_words Dump = refl
bare_query_words Audit = refl
bare_query_words Size = refl

silent : (version : Version) (ws : List (List ℕ)) → Reads version ws Silent → line_of version ws ≡ Some Silent
unfolding line_of
silent version [] h = refl
silent version (w ∷ ws) h = rw h refl

-- a line that words read as is what the function gives, without room
pub line_of-complete : (version : Version) (ws : List (List ℕ)) (l : Line) → Reads version ws l → line_of version ws ≡ Some (bare_line l)
unfolding spoken
line_of-complete version ws Silent h = silent version ws h
line_of-complete version ws (Change e) h = ap (line_of version) h.0 ∙ spoken-edit version e ∙ rw (edit_in-words version e h.1 h.2) refl
line_of-complete version ws (Question q) h =
    let k = sym (bare_query_words q) in
    ap (line_of version) (h.0 ∙ k) ∙ spoken-query version (bare_query q) ∙ rw (no_edit version (bare_query q), query_in-words (bare_query q) (bare_query_ok q h.1)) refl

abbrev Found : Version → List (List ℕ) → Line → Type 0
Found version ws (Question q) = Asks ws q
Found version ws l = Reads version ws l

or_some : {A : Type 0} (r s : Option A) (y : A) (P : A → Type 0) → option_or r s ≡ Some y → (r ≡ Some y → P y) → (s ≡ Some y → P y) → P y
or_some (Some x) s y P e f g = f e
or_some None s y P e f g = g e

line_of-found : (version : Version) (ws : List (List ℕ)) (l : Line) → line_of version ws ≡ Some l → Found version ws l
unfolding line_of
line_of-found version [] l e = let k : Silent ≡ l = cc in subst (Found version []) k tt
line_of-found version (w ∷ ws) l e =
    elim (chosen (is_comment w) (Some Silent) (option_or (option_map Change (edit_of version w ws)) (option_map Question (query_of w ws))) (Some l) e) [
      | inl p ↦ let k : Silent ≡ l = cc in subst (Found version (w ∷ ws)) k p.0
      | inr p ↦
          or_some (option_map Change (edit_of version w ws)) (option_map Question (query_of w ws)) l (Found version (w ∷ ws)) p.1
          (λ e. let a = map_some Change (edit_of version w ws) l e in subst (Found version (w ∷ ws)) a.2 (edit_of-sound version w ws a.0 a.1))
          (λ e. let a = map_some Question (query_of w ws) l e in subst (Found version (w ∷ ws)) a.2 (query_of-sound w ws a.0 a.1))
    ]

-- what is found but for its room is read
found_reads : (version : Version) (ws : List (List ℕ)) (l : Line) → Found version ws (bare_line l) → Reads version ws l
found_reads version ws Silent h = h
found_reads version ws (Change e) h = h
found_reads version ws (Question q) h = (h.0 ∙ bare_query_words q, query_ok q h.1)

pub line_of-sound : (version : Version) (ws : List (List ℕ)) (l : Line) → line_of version ws ≡ Some (bare_line l) → Reads version ws l
line_of-sound version ws l e = found_reads version ws l (line_of-found version ws (bare_line l) e)

pub one_reading : (version : Version) (ws : List (List ℕ)) (a b : Line) → Reads version ws a → Reads version ws b → SameLine a b
one_reading version ws a b h k =
    let e : Some (bare_line a) ≡ Some (bare_line b) = sym (line_of-complete version ws a h) ∙ line_of-complete version ws b k in
    same_Some (bare_line a) (bare_line b) e

pub line_of-none : (version : Version) (ws : List (List ℕ)) (l : Line) → line_of version ws ≡ None → Reads version ws l → ⊥
line_of-none version ws l e h = none-some (bare_line l) (sym e ∙ line_of-complete version ws l h)
