-- Names that are declared as something that some premises do not ask for: such a premise mentions
-- none of them, and so it falls with none of them.
use Rattle.std.proofs.Common.{◌≡◌, ◌∙◌, ℕ, Bool, true, false, ◌||◌, cond, List, [], ◌∷◌, ◌++◌, map, refl, sym, ap, subst, inl, inr}
use Rattle.std.specs.Prelude.{Option, Some, None}
use Rattle.std.specs.List.{list_any}
use Rattle.std.specs.Map.{lookup}
use Rattle.std.specs.Option.{option_or}
use Rattle.std.specs.Cmp.Lexicographic.{bytes_decides, nat_list_eq_equiv}
use Rattle.tmm_model.specs.declared.premise.Premise.{Premise}
use Rattle.tmm_model.specs.Erasure.{names_used, mentioned_by, is_among, falls}
use Rattle.tmm_model.specs.Points.{same_name}
use Rattle.tmm_model.specs.Sorts.{Sort, declarations_of, declarations_in, declared_by, sort_in, Use, a_name, uses_of}
use Rattle.tmm_model.specs.Standing.{name_of}
use Rattle.tmm_model.specs.Verdicts.{Cause, ill_sorted, name_cause, use_cause, words_known}
use Rattle.list_theory.specs.WellNamed.{Follows}
use Rattle.list_theory.proofs.Adding.{each_use}
use Rattle.list_theory.proofs.Elements.{In, list_any-In, In-flat_map, In-cases}
use Rattle.list_theory.proofs.KnownNames.{own_new}
use Rattle.list_theory.proofs.WellNamed.{lookup-unknown, sort_in-push}

-- the use asks for a word, and refuses one of these sorts
pub record Refuses (unasked : Sort → Type 0) (u : Use) : Type 0 where
  pub word : List ℕ
  pub wanted : Sort → Bool
  pub is : a_name word wanted ≡ u
  pub refuses : (sort : Sort) → unasked sort → wanted sort ≡ false

-- so does each use of the premise
abbrev pub RefusesEach : (Sort → Type 0) → Premise → Type 0
RefusesEach unasked p = (u : Use) → In u (uses_of p) → Refuses unasked u

-- the names are declared, each as one of these sorts
abbrev pub AreDeclared : (Sort → Type 0) → List Premise → List (List ℕ) → Type 0
AreDeclared unasked earlier names = (w : List ℕ) → In w names → (sort : Sort) × (sort_in earlier w ≡ Some sort) × unasked sort

pub still_declared : (unasked : Sort → Type 0) (earlier : List Premise) (gone : List (List ℕ)) (p : Premise) → AreDeclared unasked earlier gone → AreDeclared unasked (earlier ++ p ∷ []) gone
still_declared unasked earlier gone p declared w at =
    let (sort, here, is) = declared w at in
    (sort, sort_in-push earlier p w ∙ ap (λ o. option_or o (lookup (same_name w) (declarations_of p))) here, is)

pub more_declared : (unasked : Sort → Type 0) (earlier : List Premise) (own gone : List (List ℕ)) → AreDeclared unasked earlier own → AreDeclared unasked earlier gone → AreDeclared unasked earlier (own ++ gone)
more_declared unasked earlier own gone one two w at = elim (In-cases own gone w at) [ inl here ↦ one w here | inr there ↦ two w there ]

-- what a premise declares that declares its name alone
pub declares_alone : (unasked : Sort → Type 0) (earlier : List Premise) (p : Premise) → Follows earlier p → (name : List ℕ) (sort : Sort) → declarations_of p ≡ (name, sort) ∷ [] → name_of p ≡ name → unasked sort
    → AreDeclared unasked (earlier ++ p ∷ []) (declared_by p)
declares_alone unasked earlier p follows name sort declares named is w at = (sort, own (subst (λ ds. In w (map (λ (d : List ℕ × Sort). d.0) ds)) declares at), is)
  where
    own : In w (name ∷ []) → sort_in (earlier ++ p ∷ []) w ≡ Some sort
    own (inl same) =
        let new : lookup (same_name name) (declarations_in earlier) ≡ None = lookup-unknown (same_name name) (declarations_in earlier) (subst (λ n. list_any (same_name n) (words_known earlier) ≡ false) named (own_new earlier p follows)) in
        subst (λ n. sort_in (earlier ++ p ∷ []) n ≡ Some sort) same
        (sort_in-push earlier p name
        ∙ ap (λ o. option_or o (lookup (same_name name) (declarations_of p))) new
        ∙ ap (lookup (same_name name)) declares
        ∙ ap (λ b. cond b (Some sort) None) (nat_list_eq_equiv.refl name))
    own (inr none) = absurd none

-- **A premise each of whose uses refuses these sorts mentions no such name.**
mentions_none : (unasked : Sort → Type 0) (earlier : List Premise) (gone : List (List ℕ)) → AreDeclared unasked earlier gone → (p : Premise) → Follows earlier p → RefusesEach unasked p → list_any (is_among gone) (mentioned_by p) ≡ true → ⊥
mentions_none unasked earlier gone declared p follows each mentions =
    let (w, mentioned, among) = list_any-In (is_among gone) (mentioned_by p) mentions in
    let (v, there, same) = list_any-In (same_name w) gone among in
    let (sort, here, is) = declared w (subst (λ z. In z gone) (sym ((bytes_decides w v).0 same)) there) in
    let (u, used, in_use) = In-flat_map names_used (uses_of p) w mentioned in
    let asks = each u used in
    let word : asks.word ≡ w = one asks.word w (subst (λ z. In w (names_used z)) (sym asks.is) in_use) in
    let known : use_cause earlier (a_name asks.word asks.wanted) ≡ None = subst (λ z. use_cause earlier z ≡ None) (sym asks.is) (each_use earlier (uses_of p) follows.known u used) in
    let none : name_cause (Some sort) w asks.wanted ≡ None = ap (λ o. name_cause o w asks.wanted) (sym here) ∙ subst (λ z. use_cause earlier (a_name z asks.wanted) ≡ None) word known in
    refused w asks.wanted sort (asks.wanted sort) (asks.refuses sort is) none
  where
    one : (a b : List ℕ) → In b (a ∷ []) → a ≡ b
    one a b (inl is) = is
    one a b (inr at) = absurd at

    refused : (word : List ℕ) (wanted : Sort → Bool) (sort : Sort) (b : Bool) → b ≡ false → (elim b as (λ _. Option Cause) [ true ↦ None | false ↦ Some (ill_sorted word) ]) ≡ None → ⊥
    refused word wanted sort true e none = cc
    refused word wanted sort false e none = cc

-- **So where such names are gone it falls as the erased one alone.**
pub falls_alone : (unasked : Sort → Type 0) (erased : List ℕ) (earlier : List Premise) (gone : List (List ℕ)) → AreDeclared unasked earlier gone → (p : Premise) → Follows earlier p → RefusesEach unasked p
    → falls erased gone p ≡ true → same_name erased (name_of p) ≡ true
falls_alone unasked erased earlier gone declared p follows each e = by (same_name erased (name_of p)) refl e
  where
    by : (b : Bool) → same_name erased (name_of p) ≡ b → (b || list_any (is_among gone) (mentioned_by p)) ≡ true → b ≡ true
    by true named e = refl
    by false named e = absurd (mentions_none unasked earlier gone declared p follows each e)
