-- Facts that another one contradicts by one of two lists alone, and rules that read them.
use Rattle.std.proofs.Common.{◌≡◌, ◌∙◌, ℕ, length, Bool, true, false, not, ◌&&◌, ◌||◌, List, [], ◌∷◌, Option, Some, refl, sym, ap, subst, inl, inr, ◌⊎◌}
use Rattle.std.proofs.lemmas.Bool.{cases_Bool}
use Rattle.std.specs.Prelude.{pos, is_some, None}
use Rattle.std.specs.List.{Contains, list_any}
use Rattle.std.specs.Cmp.Lexicographic.{bytes_decides}
use Rattle.tmm_model.specs.declared.premise.Edit.{Edit}
use Rattle.tmm_model.specs.Beliefs.{class_of, says_against, are_rivals, rules_at}
use Rattle.tmm_model.specs.Edits.{next_list}
use Rattle.tmm_model.specs.Moments.{Moment, RuleText, read_by, rule_of}
use Rattle.tmm_model.specs.Points.{same_name}
use Rattle.tmm_model.specs.Standing.{Standing}
use Rattle.list_theory.specs.WellNamed.{IsSound}
use Rattle.list_theory.proofs.Elements.{In, both, list_any-In, In-list_any}
use Rattle.belief_theory.specs.Touched.{contradict}
use Rattle.belief_theory.proofs.Rivals.{same_rivals_have, same_rivals_from}
use Rattle.premise_list.specs.Rivalries.{rivalries, is_pair_of, AreChanges}
use Rattle.premise_list.proofs.PairsOfFacts.{any_pair}
use Rattle.row_links.specs.Lists.{IsOn}
use Rattle.undo_rows.specs.declared.row.Row.{Row as TableRow}
use Rattle.undo_rows.specs.Tables.{Table}
use Rattle.decision_rows.specs.declared.row.Pair.{Pair}
use Rattle.occ_tree.specs.Standing.{State}
use Rattle.revisions.proofs.Contradictions.{read_class, declared, class_stays, contradict_stays}
use Rattle.revisions.proofs.Lawful.{text}
use Rattle.joined.specs.Gaps.{ReadsNoRival}
use Rattle.joined.specs.Touching.{RivalsStay}
use Rattle.joined.proofs.Deciding.{true_false}
use Rattle.marking.specs.Contradicted.{AreAlike, ReadsUnlike, ReadsAlike, IsAlikeRow}
use Rattle.belief_table.specs.Marks.{Marks, IsAsLate, Wakes}
use Rattle.belief_table.specs.Waiting.{Dates}
use Rattle.marking.specs.Woken.{IsPlainRule}
use Rattle.marking.proofs.ByRule.{reads_none}
use Rattle.marking.proofs.Waking.{wakes_none}

-- the name of the class, none where no class declares the fact
abbrev or_no_name : Option (List ℕ) → List ℕ
or_no_name o = elim o as (λ _. List ℕ) [ Some class ↦ class | None ↦ [] ]

-- ---- pairs of which that may hold

-- where a list says that facts contradict each other, one of its pairs is of them
pair_of : (s : Standing) (f g : List ℕ) → are_rivals s f g ≡ true → (not (same_name f g) ≡ true) × (pair : List ℕ × List ℕ) × In pair (rivalries s.premises) × (is_pair_of f g pair ≡ true)
pair_of s f g says =
    let (differ, said) = both (not (same_name f g)) (list_any (says_against f g) s.premises) says in
    let (pair, at, is) = list_any-In (is_pair_of f g) (rivalries s.premises) (sym (any_pair f g s.premises) ∙ said) in
    (differ, pair, at, is)

-- and it says so where one is
of_pair : (s : Standing) (f g : List ℕ) (pair : List ℕ × List ℕ) → not (same_name f g) ≡ true → In pair (rivalries s.premises) → is_pair_of f g pair ≡ true → are_rivals s f g ≡ true
of_pair s f g pair differ at is = (λ i. differ i && (any_pair f g s.premises ∙ In-list_any (is_pair_of f g) (rivalries s.premises) pair at is) i)

-- **A fact is contradicted alike by both lists where it is by the pairs that one of them has
-- alone.**
pub all_alike : (old s : Standing) (pairs : List (List ℕ × List ℕ)) → AreChanges (rivalries old.premises) (rivalries s.premises) pairs → (f : List ℕ)
    → ((pair : List ℕ × List ℕ) → In pair pairs → (g : List ℕ) → is_pair_of f g pair ≡ true → AreAlike old s f g) → (g : List ℕ) → AreAlike old s f g
all_alike old s pairs changes f alike g = by (are_rivals old f g) (are_rivals s f g) refl refl
  where
    by : (v w : Bool) → are_rivals old f g ≡ v → are_rivals s f g ≡ w → AreAlike old s f g
    by true true was is = inl (was ∙ sym is)
    by false false was is = inl (was ∙ sym is)
    by true false was is =
        let (differ, pair, at, of) = pair_of old f g was in
        elim (changes.gone pair at) [
          | inl there ↦ (let no : true ≡ false = sym (of_pair s f g pair differ there of) ∙ is in cc)
          | inr alone ↦ alike pair alone g of
        ]
    by false true was is =
        let (differ, pair, at, of) = pair_of s f g is in
        elim (changes.come pair at) [
          | inl there ↦ (let no : true ≡ false = sym (of_pair old f g pair differ there of) ∙ was in cc)
          | inr alone ↦ alike pair alone g of
        ]

-- no pairs: then the fact is
pub none_unlike : (old s : Standing) (pairs : List (List ℕ × List ℕ)) → length pairs ≡ 0 → AreChanges (rivalries old.premises) (rivalries s.premises) pairs → (r : List ℕ) → ReadsAlike old s r
none_unlike old s pairs none changes r f at g = all_alike old s pairs changes f (λ pair on. absurd (by pairs none pair on)) g
  where
    by : (pairs : List (List ℕ × List ℕ)) → length pairs ≡ 0 → (pair : List ℕ × List ℕ) → In pair pairs → ⊥
    by [] e pair on = on
    by (first ∷ others) e pair on = cc

-- the other one of a pair
pub pair_alike : (old s : Standing) (f one other g : List ℕ) → (one ≡ f → AreAlike old s f other) → (other ≡ f → AreAlike old s f one)
    → ((same_name one f && same_name other g) || (same_name one g && same_name other f)) ≡ true → AreAlike old s f g
pair_alike old s f one other g first second is = by (same_name one f && same_name other g) refl is
  where
    by : (v : Bool) → (same_name one f && same_name other g) ≡ v → (v || (same_name one g && same_name other f)) ≡ true → AreAlike old s f g
    by true e _ = let (a, b) = both (same_name one f) (same_name other g) e in subst (AreAlike old s f) ((bytes_decides other g).0 b) (first ((bytes_decides one f).0 a))
    by false _ e = let (a, b) = both (same_name one g) (same_name other f) e in subst (AreAlike old s f) ((bytes_decides one g).0 a) (second ((bytes_decides other f).0 b))

-- ---- the rows of a rule

module _ (st : State) (t : Table Pair 8) (before s : Standing) (name : List ℕ) (n : ℕ) where
  abbrev IsHere : ℕ → TableRow Pair 8 → Type 0
  IsHere i row = IsOn (t.list 1 n) i × ReadsUnlike before s name

  abbrev RestsHere : ℕ → TableRow Pair 8 → Type 0
  RestsHere i row = IsOn (t.list 1 n) i → IsAlikeRow before s st name row

  -- all of them wait
  pub unlike_wake : ReadsUnlike before s name → (old new : Dates) → Marks st t (λ i row. IsOn (t.list 1 n) i × IsAsLate st (pos 0) row) old new
      → Wakes st t (λ i row. IsOn (t.list 1 n) i × ReadsUnlike before s name) (λ i row. IsOn (t.list 1 n) i → IsAlikeRow before s st name row) old new
  unlike_wake unlike old new marks = record {
    only = λ i. elim (marks.only i) [ inl same ↦ inl same | inr (row, at, (on, late), waits) ↦ inr (row, at, (on, unlike), waits) ];
    rests = λ i row at. elim (cases_Bool (is_some (new i))) [
      | inl waits ↦ inl waits
      | inr none ↦ inr (λ on late. true_false (sym (ap is_some (marks.all i row at (on, late))) ∙ none))
    ];
  }

  -- none needs to wait
  pub alike_wake : ReadsAlike before s name → (dates : Dates)
      → Wakes st t (λ i row. IsOn (t.list 1 n) i × ReadsUnlike before s name) (λ i row. IsOn (t.list 1 n) i → IsAlikeRow before s st name row) dates dates
  alike_wake alike dates = wakes_none st t IsHere RestsHere dates (λ i row at. inr (λ on late. alike))

-- ---- an edit

module _ (old : Standing) (edit : Edit) (sound_old : IsSound old) (sound_new : IsSound (next_list old edit)) (t : Moment) (r : List ℕ)
    (before : Contains (rules_at old t) r) (now : Contains (rules_at (next_list old edit) t) r) where
  abbrev new : Standing
  new = next_list old edit

  at_old : (f : List ℕ) → In f (read_by (rule_of new r)) → In f (read_by (rule_of old r))
  at_old f at = subst (λ (x : RuleText). In f (read_by x)) (sym (text old edit sound_old sound_new t r before now)) at

  -- a rule of which no premise says that it reads what others contradict reads no rival
  pub plain_before : IsPlainRule old (next_list old edit) r → ReadsNoRival old r
  plain_before plain = reads_none old r (λ f at g. (plain f (subst (λ (x : RuleText). In f (read_by x)) (text old edit sound_old sound_new t r before now) at) g).0)

  -- facts of one class contradict each other where they differ
  by_class : (s : Standing) (f g : List ℕ) → same_name (class_of s f) (class_of s g) ≡ true → contradict s f g ≡ not (same_name f g)
  by_class s f g one = ap (λ v. (v && not (same_name f g)) || are_rivals s f g) one ∙ or_less (not (same_name f g)) (list_any (says_against f g) s.premises)
    where
      or_less : (a b : Bool) → (a || (a && b)) ≡ a
      or_less true b = refl
      or_less false b = refl

  -- **What it reads has the same rivals where none of it is contradicted by one list alone.**
  pub alike_stay : ReadsAlike old (next_list old edit) r → RivalsStay old (next_list old edit) r
  alike_stay alike f at = same_rivals_from old new f (λ g said. by g (alike f at g))
    where
      by : (g : List ℕ) → AreAlike old new f g → contradict old f g ≡ contradict new f g
      by g (inl same) = contradict_stays old edit sound_old sound_new t r f before now (at_old f at) at g same
      by g (inr (class, of_f, of_g)) =
          let is : same_name (class_of new f) (class_of new g) ≡ true = (bytes_decides (class_of new f) (class_of new g)).1 (ap or_no_name of_f ∙ sym (ap or_no_name of_g)) in
          let was : same_name (class_of old f) (class_of old g) ≡ true = class_stays old edit sound_old sound_new t r f before now (at_old f at) at g ∙ is in
          by_class old f g was ∙ sym (by_class new f g is)

  -- **It has others where some of it is.**
  pub unlike_changes : ReadsUnlike old (next_list old edit) r → RivalsStay old (next_list old edit) r → ⊥
  unlike_changes (f, g, at, (differ, apart)) stay = by (are_rivals old f g) (are_rivals new f g) refl refl
    where
      said : (are_rivals old f g ≡ true) ⊎ (are_rivals new f g ≡ true) → contradict old f g ≡ contradict new f g
      said says = same_rivals_have old new f (stay f at) g says

      -- no class declares both
      other_class : (v : Bool) → same_name (class_of new f) (class_of new g) ≡ v → v ≡ false
      other_class false e = refl
      other_class true e =
          let (class, of_f) = read_class new sound_new t r f now at in
          let same : class_of new g ≡ class = sym ((bytes_decides (class_of new f) (class_of new g)).0 e) ∙ ap or_no_name of_f in
          absurd (apart (class, of_f, declared new sound_new f class of_f g same))

      is_apart : same_name (class_of new f) (class_of new g) ≡ false
      is_apart = other_class (same_name (class_of new f) (class_of new g)) refl

      was_apart : same_name (class_of old f) (class_of old g) ≡ false
      was_apart = class_stays old edit sound_old sound_new t r f before now (at_old f at) at g ∙ is_apart

      -- then they contradict each other as premises say
      by_premises : (s : Standing) → same_name (class_of s f) (class_of s g) ≡ false → contradict s f g ≡ are_rivals s f g
      by_premises s e = ap (λ v. (v && not (same_name f g)) || are_rivals s f g) e

      alike : (are_rivals old f g ≡ true) ⊎ (are_rivals new f g ≡ true) → are_rivals old f g ≡ are_rivals new f g
      alike says = sym (by_premises old was_apart) ∙ said says ∙ by_premises new is_apart

      by : (v w : Bool) → are_rivals old f g ≡ v → are_rivals new f g ≡ w → ⊥
      by true w was is = differ (alike (inl was))
      by false true was is = differ (alike (inr is))
      by false false was is = differ (was ∙ sym is)
