-- Names that keep their numbers.
use Rattle.std.proofs.Common.{◌≡◌, ◌∙◌, ℕ, zero, suc, ◌+◌, ◌<◌, Bool, true, false, cond, List, [], ◌∷◌, ◌++◌, length, map, take, Some, None, refl, sym, ap, subst, inl, inr, ◌⊎◌, arith}
use Rattle.std.proofs.lemmas.Bool.{cases_Bool, both_ways}
use Rattle.std.proofs.lemmas.Map.Keys.{IsDistinct-head, IsDistinct-tail}
use Rattle.std.specs.Prelude.{slice_index_or, if◌then◌else◌}
use Rattle.std.specs.List.{list_any, position_from, IsDistinct}
use Rattle.std.specs.Cmp.Lexicographic.{bytes_decides}
use Rattle.std.proofs.lemmas.Iterator.Adapters.{position_from-zero}
use Rattle.std.proofs.lemmas.List.{append_assoc, get_or_append_left, map-append}
use Rattle.tmm_model.specs.Beliefs.{class_of}
use Rattle.tmm_model.specs.Moments.{read_by, rule_of}
use Rattle.tmm_model.specs.Points.{same_name}
use Rattle.tmm_model.specs.Sorts.{class_in}
use Rattle.tmm_model.specs.Standing.{Standing}
use Rattle.list_theory.proofs.Elements.{In, In-cases, each_in}
use Rattle.undo_rows.specs.declared.row.Row.{Row as TableRow}
use Rattle.decision_rows.specs.declared.row.Pair.{Pair}
use Rattle.occ_tree.specs.Classes.{place_in, HaveMore}
use Rattle.occ_tree.proofs.Numbered.{place_stays, no_more, one_class}
use Rattle.supports.proofs.Taken.{next_taken}
use Rattle.joined.specs.Listed.{AreNumbered, IsUnderClasses}
use Rattle.belief_table.specs.declared.state.Decisions.{Decisions}
use Rattle.belief_table.specs.Decided.{KeepsLast}
use Rattle.belief_table.specs.Numbers.{name_in, HaveOwnNumbers}

pub more_more : (a b c : List (List ℕ)) → HaveMore a b → HaveMore b c → HaveMore a c
more_more a b c (xs, is) (ys, then_) = (xs ++ ys, then_ ∙ ap (λ l. l ++ ys) is ∙ append_assoc a xs ys)

pub name_stays : (old new : List (List ℕ)) (k : ℕ) → HaveMore old new → k < length old → name_in new k ≡ name_in old k
name_stays old new k (more, is) within = ap (λ l. slice_index_or l k []) is ∙ get_or_append_left old more [] k within

pub are_numbered : (names : List (List ℕ)) → AreNumbered (place_in names)
are_numbered names = one_class names

-- numbers of classes stay
pub numbers_stay : {X : Type 0} (class : X → List ℕ) (old new : List (List ℕ)) (xs : List X) (numbers : List ℕ) → HaveMore old new
    → map (λ x. place_in old (class x)) xs ≡ map Some numbers → map (λ x. place_in new (class x)) xs ≡ map Some numbers
numbers_stay class old new [] [] more is = refl
numbers_stay class old new [] (k ∷ numbers) more is = absurd (cc)
numbers_stay class old new (x ∷ xs) [] more is = absurd (cc)
numbers_stay class old new (x ∷ xs) (k ∷ numbers) more is =
    let here : place_in old (class x) ≡ Some k = cc in
    let rest : map (λ x. place_in old (class x)) xs ≡ map Some numbers = cc in
    λ i. place_stays old new more (class x) k here i ∷ numbers_stay class old new xs numbers more rest i

-- the number of the class of a fact more
pub numbers_next : (s : Standing) (old new : List (List ℕ)) (facts : List (List ℕ)) (i : ℕ) (fact class : List ℕ) (k : ℕ) (numbers more : List ℕ)
    → map (λ f. place_in old (class_of s f)) (take i facts) ≡ map Some numbers → HaveMore old new → i < length facts → fact ≡ slice_index_or facts i fact
    → class_in s.premises fact ≡ Some class → place_in new class ≡ Some k → more ≡ numbers ++ k ∷ []
    → map (λ f. place_in new (class_of s f)) (take (i + 1) facts) ≡ map Some more
numbers_next s old new facts i fact class k numbers more before have within is of numbered pushed =
    let class_is : class_of s fact ≡ class = ap (λ o. elim o as (λ _. List ℕ) [ Some c ↦ c | None ↦ [] ]) of in
    ap (map (λ f. place_in new (class_of s f))) (next_taken facts i fact within is)
    ∙ map-append (λ f. place_in new (class_of s f)) (take i facts) (fact ∷ [])
    ∙ (λ j. numbers_stay (class_of s) old new (take i facts) numbers have before j ++ (ap (place_in new) class_is ∙ numbered) j ∷ [])
    ∙ sym (map-append Some numbers (k ∷ []))
    ∙ ap (map Some) (sym pushed)

pub under_more : (s : Standing) (rules rules_after classes classes_after : List (List ℕ)) (row : TableRow Pair 8) → HaveMore rules rules_after → HaveMore classes classes_after
    → row.value.rule < length rules → IsUnderClasses s (name_in rules) (place_in classes) row → IsUnderClasses s (name_in rules_after) (place_in classes_after) row
under_more s rules rules_after classes classes_after row more_rules more_classes named u = record {
  classes = u.classes;
  few = u.few;
  numbers = subst (λ name. map (λ fact. place_in classes_after (class_of s fact)) (read_by (rule_of s name)) ≡ map Some u.classes) (sym (name_stays rules rules_after row.value.rule more_rules named))
      (numbers_stay (class_of s) classes classes_after (read_by (rule_of s (name_in rules row.value.rule))) u.classes more_classes u.numbers);
  heads = u.heads;
}

-- ---- what a rollback leads back to

pub last_stays : (d : Decisions) → KeepsLast d d
last_stays d = record { rows = refl; rules = no_more d.rules; classes = no_more d.classes }

pub last_on : (a b c : Decisions) → KeepsLast a b → KeepsLast b c → KeepsLast a c
last_on a b c first then_ = record {
  rows = then_.rows ∙ first.rows;
  rules = more_more a.rules b.rules c.rules first.rules then_.rules;
  classes = more_more a.classes b.classes c.classes first.classes then_.classes;
}

-- ---- names that stand once

pub in_at : (names : List (List ℕ)) (k : ℕ) → k < length names → In (slice_index_or names k []) names
in_at [] k within = absurd (omega (arith, within))
in_at (n ∷ names) zero within = inl refl
in_at (n ∷ names) (suc k) within = inr (in_at names k (omega (arith, within)))

own_from : (i : ℕ) (names : List (List ℕ)) → IsDistinct same_name names → (k : ℕ) → k < length names → position_from (same_name (slice_index_or names k [])) i names ≡ Some (i + k)
own_from i [] once k within = absurd (omega (arith, within))
own_from i (n ∷ names) once zero within =
    let here : i + 0 ≡ i = omega arith in
    ap (λ t. cond t (Some i) (position_from (same_name n) (i + 1) names)) ((bytes_decides n n).1 refl) ∙ ap Some (sym here)
own_from i (n ∷ names) once (suc k) within =
    let less : k < length names = omega (arith, within) in
    let other = each_in (λ m. same_name n m ≡ false) names (IsDistinct-head same_name n names once) (slice_index_or names k []) (in_at names k less) in
    let later : i + 1 + k ≡ i + suc k = omega arith in
    ap (λ t. cond t (Some i) (position_from (same_name (slice_index_or names k [])) (i + 1) names)) (turned n (slice_index_or names k []) other)
    ∙ own_from (i + 1) names (IsDistinct-tail same_name n names once) k less ∙ ap Some later
  where
    turned : (a b : List ℕ) → same_name a b ≡ false → same_name b a ≡ false
    turned a b other = elim (cases_Bool (same_name b a)) [
      | inl same ↦ absurd (both_ways (same_name a b) other ((bytes_decides a b).1 (sym ((bytes_decides b a).0 same))))
      | inr off ↦ off
    ]

pub own_numbers : (names : List (List ℕ)) → IsDistinct same_name names → HaveOwnNumbers names
own_numbers names once = λ k within. position_from-zero (same_name (name_in names k)) names ∙ own_from 0 names once k within ∙ (let e : 0 + k ≡ k = omega arith in ap Some e)

-- ---- a name more

pub only_pushed : (names new : List (List ℕ)) (name : List ℕ) → new ≡ (if list_any (same_name name) names then names else (names ++ name ∷ []))
    → (other : List ℕ) → In other new → In other names ⊎ (other ≡ name)
only_pushed names new name is other at = by (list_any (same_name name) names) (subst (In other) is at)
  where
    by : (b : Bool) → In other (if b then names else (names ++ name ∷ [])) → In other names ⊎ (other ≡ name)
    by true there = inl there
    by false there = elim (In-cases names (name ∷ []) other there) [
      | inl was ↦ inl was
      | inr new_one ↦ elim new_one [ inl same ↦ inr (sym same) | inr none ↦ absurd none ]
    ]
