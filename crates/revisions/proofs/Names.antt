-- What a name is declared as in a well-named list is what it is declared as in one with fewer
-- premises.
use Rattle.std.proofs.Common.{◌≡◌, ◌∙◌, ℕ, Bool, true, false, cond, List, [], ◌∷◌, ◌++◌, map, refl, sym, ap, subst, inl, inr}
use Rattle.std.proofs.lemmas.Bool.{cases_Bool, or_parts}
use Rattle.std.specs.Prelude.{◌⊎◌, Some, None}
use Rattle.std.specs.List.{list_any}
use Rattle.std.specs.Cmp.Lexicographic.{bytes_decides}
use Rattle.tmm_model.specs.declared.premise.Edit.{Edit}
use Rattle.tmm_model.specs.declared.premise.Premise.{Premise}
use Rattle.tmm_model.specs.Edits.{next_list}
use Rattle.tmm_model.specs.Points.{same_name}
use Rattle.tmm_model.specs.Sorts.{Sort, a_fact, fact_declaration, declarations_of, declarations_in, declared_by, sort_in, class_in}
use Rattle.tmm_model.specs.Standing.{Standing, name_of}
use Rattle.tmm_model.specs.Verdicts.{first_taken, words_known}
use Rattle.list_theory.specs.WellNamed.{AllFollow, IsWellNamed}
use Rattle.list_theory.proofs.Elements.{In, In-list_any, list_any-In, In-left, In-right, map-In, flat_map-In, In-map}
use Rattle.belief_theory.proofs.NextLists.{AreWithin, one_way}
use Rattle.list_theory.proofs.WellNamed.{first_taken-none}
use Rattle.premise_list.specs.Words.{facts_of, own_sort}
use Rattle.premise_list.proofs.Lookups.{declarations_parted}
use Rattle.premise_list.proofs.Facts.{class_in-cons, sort_in-cons}

-- each of some new words was not known
new_of : (known ws : List (List ℕ)) → first_taken known ws ≡ None → (w : List ℕ) → In w ws → list_any (same_name w) known ≡ false
new_of known [] e w at = absurd at
new_of known (v ∷ ws) e w (inl is) = subst (λ z. list_any (same_name z) known ≡ false) is (first_taken-none known v ws e).new
new_of known (v ∷ ws) e w (inr at) = (or_parts (same_name w v) (list_any (same_name w) known) (new_of (v ∷ known) ws (first_taken-none known v ws e).rest w at)).1

known_word : (earlier : List Premise) (q : Premise) (n : List ℕ) → In q earlier → In n (declared_by q) → In n (words_known earlier)
known_word earlier q n at own =
    let (d, there, is) = In-map (λ d. d.0) (declarations_of q) n own in
    subst (λ m. In m (words_known earlier)) is (map-In (λ d. d.0) (declarations_in earlier) d (flat_map-In declarations_of earlier q d at there))

-- no two premises declare one name
pub fresh_word : (earlier premises : List Premise) → AllFollow earlier premises → (p : Premise) → In p premises → (n : List ℕ) → In n (declared_by p)
    → (q : Premise) → In q earlier → In n (declared_by q) → ⊥
fresh_word earlier [] h p at n own q before there = absurd at
fresh_word earlier (o ∷ premises) h p (inl is) n own q before there =
    let new : list_any (same_name n) (words_known earlier) ≡ false = new_of (words_known earlier) (declared_by o) h.0.new n (subst (λ z. In n (declared_by z)) (sym is) own) in
    let known : list_any (same_name n) (words_known earlier) ≡ true = In-list_any (same_name n) (words_known earlier) n (known_word earlier q n before there) ((bytes_decides n n).1 refl) in
    cc
fresh_word earlier (o ∷ premises) h p (inr at) n own q before there = fresh_word (earlier ++ o ∷ []) premises h.1 p at n own q (In-left earlier (o ∷ []) q before) there

-- ---- what a premise declares

declared_parted : (p : Premise) (n : List ℕ) → In n (map (λ (d : List ℕ × Sort). d.0) ((name_of p, own_sort p) ∷ map fact_declaration (facts_of p))) → In n (declared_by p)
declared_parted p n at = subst (λ ds. In n (map (λ (d : List ℕ × Sort). d.0) ds)) (sym (declarations_parted p)) at

declares_name : (p : Premise) (n : List ℕ) → same_name n (name_of p) ≡ true → In n (declared_by p)
declares_name p n e = declared_parted p n (inl (sym ((bytes_decides n (name_of p)).0 e)))

declares_fact : (p : Premise) (n : List ℕ) → list_any (same_name n) (facts_of p) ≡ true → In n (declared_by p)
declares_fact p n e =
    let (f, at, same) = list_any-In (same_name n) (facts_of p) e in
    let here = map-In (λ (d : List ℕ × Sort). d.0) (map fact_declaration (facts_of p)) (fact_declaration f) (map-In fact_declaration (facts_of p) f at) in
    declared_parted p n (inr (subst (λ m. In m (map (λ (d : List ℕ × Sort). d.0) (map fact_declaration (facts_of p)))) (sym ((bytes_decides n f).0 same)) here))

-- the premise declares the name as this
data Declares (p : Premise) (n : List ℕ) (x : Sort) : Type 0 where
  as_name : same_name n (name_of p) ≡ true → own_sort p ≡ x → Declares p n x
  as_fact : same_name n (name_of p) ≡ false → list_any (same_name n) (facts_of p) ≡ true → a_fact ≡ x → Declares p n x

declares_some : (p : Premise) (n : List ℕ) (x : Sort) → Declares p n x → In n (declared_by p)
declares_some p n x (as_name e is) = declares_name p n e
declares_some p n x (as_fact other e is) = declares_fact p n e

sort_found : (ps : List Premise) (n : List ℕ) (x : Sort) → sort_in ps n ≡ Some x → (p : Premise) × In p ps × Declares p n x
sort_found [] n x e = cc
sort_found (p ∷ ps) n x e = by (sort_found ps n x) (same_name n (name_of p)) refl (list_any (same_name n) (facts_of p)) refl (sym (sort_in-cons n p ps) ∙ e)
  where
    by : (sort_in ps n ≡ Some x → (p : Premise) × In p ps × Declares p n x) → (a : Bool) → same_name n (name_of p) ≡ a → (b : Bool) → list_any (same_name n) (facts_of p) ≡ b
        → cond a (Some (own_sort p)) (cond b (Some a_fact) (sort_in ps n)) ≡ Some x → (q : Premise) × In q (p ∷ ps) × Declares q n x
    by again true ea b eb h = let is : own_sort p ≡ x = cc in (p, inl refl, as_name ea is)
    by again false ea true eb h = let is : a_fact ≡ x = cc in (p, inl refl, as_fact ea eb is)
    by again false ea false eb h = let (q, at, d) = again h in (q, inr at, d)

-- another premise before it declares no such name
not_other : (earlier premises : List Premise) (o : Premise) → AllFollow (earlier ++ o ∷ []) premises → (p : Premise) → In p premises → (n : List ℕ) → In n (declared_by p)
    → (same_name n (name_of o) ≡ false) × (list_any (same_name n) (facts_of o) ≡ false)
not_other earlier premises o h p at n own = (name (cases_Bool (same_name n (name_of o))), fact (cases_Bool (list_any (same_name n) (facts_of o))))
  where
    never : In n (declared_by o) → ⊥
    never there = fresh_word (earlier ++ o ∷ []) premises h p at n own o (In-right earlier (o ∷ []) o (inl refl)) there

    name : (same_name n (name_of o) ≡ true) ⊎ (same_name n (name_of o) ≡ false) → same_name n (name_of o) ≡ false
    name (inl e) = absurd (never (declares_name o n e))
    name (inr e) = e

    fact : (list_any (same_name n) (facts_of o) ≡ true) ⊎ (list_any (same_name n) (facts_of o) ≡ false) → list_any (same_name n) (facts_of o) ≡ false
    fact (inl e) = absurd (never (declares_fact o n e))
    fact (inr e) = e

sort_after : (earlier premises : List Premise) → AllFollow earlier premises → (p : Premise) → In p premises → (n : List ℕ) (x : Sort) → Declares p n x → sort_in premises n ≡ Some x
sort_after earlier [] h p at n x d = absurd at
sort_after earlier (o ∷ premises) h p (inl is) n x d = sort_in-cons n o premises ∙ by (subst (λ z. Declares z n x) (sym is) d)
  where
    by : Declares o n x → cond (same_name n (name_of o)) (Some (own_sort o)) (cond (list_any (same_name n) (facts_of o)) (Some a_fact) (sort_in premises n)) ≡ Some x
    by (as_name e same) = ap (λ b. cond b (Some (own_sort o)) (cond (list_any (same_name n) (facts_of o)) (Some a_fact) (sort_in premises n))) e ∙ ap Some same
    by (as_fact other e same) =
        ap (λ b. cond b (Some (own_sort o)) (cond (list_any (same_name n) (facts_of o)) (Some a_fact) (sort_in premises n))) other
        ∙ ap (λ b. cond b (Some a_fact) (sort_in premises n)) e ∙ ap Some same
sort_after earlier (o ∷ premises) h p (inr at) n x d =
    let others = not_other earlier premises o h.1 p at n (declares_some p n x d) in
    sort_in-cons n o premises
    ∙ ap (λ b. cond b (Some (own_sort o)) (cond (list_any (same_name n) (facts_of o)) (Some a_fact) (sort_in premises n))) others.0
    ∙ ap (λ b. cond b (Some a_fact) (sort_in premises n)) others.1
    ∙ sort_after (earlier ++ o ∷ []) premises h.1 p at n x d

-- **A name is declared alike in more premises.**
pub sorts_within : (ps qs : List Premise) → AreWithin ps qs → IsWellNamed qs → (n : List ℕ) (x : Sort) → sort_in ps n ≡ Some x → sort_in qs n ≡ Some x
sorts_within ps qs within named n x e = let (p, at, d) = sort_found ps n x e in sort_after [] qs named p (within p at) n x d

-- ---- classes

pub class_found : (ps : List Premise) (n c : List ℕ) → class_in ps n ≡ Some c → (p : Premise) × In p ps × (list_any (same_name n) (facts_of p) ≡ true) × (name_of p ≡ c)
class_found [] n c e = cc
class_found (p ∷ ps) n c e = by (class_found ps n c) (list_any (same_name n) (facts_of p)) refl (sym (class_in-cons n p ps) ∙ e)
  where
    by : (class_in ps n ≡ Some c → (p : Premise) × In p ps × (list_any (same_name n) (facts_of p) ≡ true) × (name_of p ≡ c)) → (b : Bool) → list_any (same_name n) (facts_of p) ≡ b → cond b (Some (name_of p)) (class_in ps n) ≡ Some c
        → (q : Premise) × In q (p ∷ ps) × (list_any (same_name n) (facts_of q) ≡ true) × (name_of q ≡ c)
    by again true eb h = let is : name_of p ≡ c = cc in (p, inl refl, eb, is)
    by again false eb h = let (q, at, has, is) = again h in (q, inr at, has, is)

pub class_after : (earlier premises : List Premise) → AllFollow earlier premises → (p : Premise) → In p premises → (n : List ℕ) → list_any (same_name n) (facts_of p) ≡ true → class_in premises n ≡ Some (name_of p)
class_after earlier [] h p at n has = absurd at
class_after earlier (o ∷ premises) h p (inl is) n has =
    let there : list_any (same_name n) (facts_of o) ≡ true = subst (λ z. list_any (same_name n) (facts_of z) ≡ true) (sym is) has in
    class_in-cons n o premises ∙ ap (λ b. cond b (Some (name_of o)) (class_in premises n)) there ∙ ap (λ z. Some (name_of z)) is
class_after earlier (o ∷ premises) h p (inr at) n has =
    class_in-cons n o premises
    ∙ ap (λ b. cond b (Some (name_of o)) (class_in premises n)) (not_other earlier premises o h.1 p at n (declares_fact p n has)).1
    ∙ class_after (earlier ++ o ∷ []) premises h.1 p at n has

-- **A fact has its class in more premises.**
pub classes_within : (ps qs : List Premise) → AreWithin ps qs → IsWellNamed qs → (n c : List ℕ) → class_in ps n ≡ Some c → class_in qs n ≡ Some c
classes_within ps qs within named n c e = let (p, at, has, is) = class_found ps n c e in class_after [] qs named p (within p at) n has ∙ ap Some is

-- a fact that both lists declare is of one class
pub class_kept : (old : Standing) (edit : Edit) → IsWellNamed old.premises → IsWellNamed (next_list old edit).premises
    → (fact was is : List ℕ) → class_in old.premises fact ≡ Some was → class_in (next_list old edit).premises fact ≡ Some is → was ≡ is
class_kept old edit named_old named_new fact was is before now =
    elim (one_way old edit) [
      | inl more ↦ (let there : Some was ≡ Some is = sym (classes_within old.premises (next_list old edit).premises more named_new fact was before) ∙ now in cc)
      | inr fewer ↦ (let there : Some was ≡ Some is = sym before ∙ classes_within (next_list old edit).premises old.premises fewer named_old fact is now in cc)
    ]
