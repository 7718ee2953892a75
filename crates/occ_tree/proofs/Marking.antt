-- Marks of numbers, and names under marked numbers.
use Rattle.std.proofs.Common.{◌≡◌, ℕ, ◌+◌, ◌<◌, ◌≤◌, Bool, true, false, List, [], ◌∷◌, ◌++◌, length, Some, refl, sym, ap, ◌∙◌, subst, inl, inr, arith, slice_index_or}
use Rattle.std.specs.List.{Contains, IsDistinct, list_any}
use Rattle.std.specs.Cmp.Lexicographic.{nat_list_eq_equiv, bytes_decides}
use Rattle.std.proofs.lemmas.Bool.{cases_eq}
use Rattle.std.proofs.lemmas.List.Elements.{Contains-push, Contains-push_cases, Contains-append_left}
use Rattle.std.proofs.lemmas.Map.Keys.{IsDistinct-push}
use Rattle.std.proofs.lemmas.Map.Made.{AllPairs-from_IsDistinct}
use Rattle.tmm_model.specs.Points.{same_name}
use Rattle.list_theory.proofs.Elements.{list_any-In, Contains-from_In}
use Rattle.occ_tree.specs.Classes.{place_in}
use Rattle.occ_tree.specs.Marks.{IsMarked, KeepsMarks, AreMarked, AreListsMarked}
use Rattle.occ_tree.specs.Nodes.{Nodes}
use Rattle.occ_tree.specs.Tokens.{HasList}
use Rattle.occ_tree.proofs.Numbered.{place_within, placed_name}

-- ---- marks

pub marks_stay : (marks : List Bool) → KeepsMarks marks marks
marks_stay marks = record { long = refl; kept = λ k h. h }

pub marks_again : (a b c : List Bool) → KeepsMarks a b → KeepsMarks b c → KeepsMarks a c
marks_again a b c first then_ = record { long = then_.long ∙ first.long; kept = λ k h. then_.kept k (first.kept k h) }

-- what was marked is marked
pub kept_marked : (old new : List Bool) (numbers : List ℕ) → KeepsMarks old new → AreMarked old numbers → AreMarked new numbers
kept_marked old new numbers keeps all k on within = let long = keeps.long in keeps.kept k (all k on (omega (arith, within, long)))

-- no numbers
no_number : {X : Type 0} (x : X) → Contains [] x → ⊥
no_number x (k, within, is) = absurd (let few : k < 0 = within in omega arith)

pub none_marked : (marks : List Bool) → AreMarked marks []
none_marked marks k on within = absurd (no_number k on)

-- one number more
pub one_marked : (old new : List Bool) (numbers : List ℕ) (x : ℕ) → KeepsMarks old new → (x < length new → IsMarked new x) → AreMarked old numbers → AreMarked new (numbers ++ x ∷ [])
one_marked old new numbers x keeps own all k on within = elim (Contains-push_cases numbers x k on) [
  | inl before ↦ let long = keeps.long in keeps.kept k (all k before (omega (arith, long, within)))
  | inr same ↦ subst (IsMarked new) same (own (subst (λ z. z < length new) (sym same) within))
]

pub no_lists_marked : (node : Nodes) (marks : List Bool) → AreListsMarked node marks []
no_lists_marked node marks x k on has within = absurd (no_number x on)

-- the class of one node more
pub one_list_marked : (node : Nodes) (old new : List Bool) (numbers : List ℕ) (x : ℕ) → KeepsMarks old new → ((k : ℕ) → HasList node x k → k < length new → IsMarked new k) → AreListsMarked node old numbers → AreListsMarked node new (numbers ++ x ∷ [])
one_list_marked node old new numbers x keeps own all y k on has within = elim (Contains-push_cases numbers x y on) [
  | inl before ↦ let long = keeps.long in keeps.kept k (all y k before has (omega (arith, long, within)))
  | inr same ↦ own k (subst (λ z. HasList node z k) (sym same) has) within
]

-- ---- names under marked numbers

-- told are the names of the first n numbers that are marked
pub record AreTold (names : List (List ℕ)) (marks : List Bool) (told : List (List ℕ)) (n : ℕ) : Type 0 where
  pub all : (k : ℕ) → k < n → IsMarked marks k → Contains told (slice_index_or names k [])
  pub own : (name : List ℕ) → Contains told name → (k : ℕ) × (k < n) × (slice_index_or names k [] ≡ name)
  pub once : IsDistinct same_name told

none_once : IsDistinct same_name []
unfolding IsDistinct
none_once = tt

pub told_none : (names : List (List ℕ)) (marks : List Bool) (told : List (List ℕ)) → told ≡ [] → AreTold names marks told 0
told_none names marks told none = subst (λ l. AreTold names marks l 0) (sym none) (record {
  all = λ k low. absurd (omega arith);
  own = λ name on. absurd (no_number name on);
  once = none_once;
})

pub told_skip : (names : List (List ℕ)) (marks : List Bool) (told : List (List ℕ)) (n : ℕ) → slice_index_or marks n false ≡ false → AreTold names marks told n → AreTold names marks told (n + 1)
told_skip names marks told n free so_far = record {
  all = λ k low marked. elim (cases_eq k n) [
    | inl same ↦ absurd (let both : true ≡ false = sym marked ∙ ap (λ j. slice_index_or marks j false) same ∙ free in cc)
    | inr other ↦ so_far.all k (omega (arith, low, other)) marked
  ];
  own = λ name on. let (k, low, is) = so_far.own name on in (k, omega (arith, low), is);
  once = so_far.once;
}

pub told_more : (names : List (List ℕ)) (marks : List Bool) (told more : List (List ℕ)) (n : ℕ) (name : List ℕ) → IsDistinct same_name names → n < length names → slice_index_or names n [] ≡ name → more ≡ told ++ name ∷ [] → AreTold names marks told n → AreTold names marks more (n + 1)
told_more names marks told more n name distinct within named grown so_far = subst (λ l. AreTold names marks l (n + 1)) (sym grown) (record {
  all = λ k low marked. elim (cases_eq k n) [
    | inl same ↦ subst (Contains (told ++ name ∷ [])) (sym (ap (λ j. slice_index_or names j []) same ∙ named)) (Contains-push told name)
    | inr other ↦ Contains-append_left told (name ∷ []) (slice_index_or names k []) (so_far.all k (omega (arith, low, other)) marked)
  ];
  own = λ other on. elim (Contains-push_cases told name other on) [
    | inl before ↦ let (k, low, is) = so_far.own other before in (k, omega (arith, low), is)
    | inr same ↦ (n, omega arith, named ∙ same)
  ];
  once = IsDistinct-push nat_list_eq_equiv told name so_far.once (new (list_any (same_name name) told) refl);
})
  where
    new : (b : Bool) → list_any (same_name name) told ≡ b → list_any (same_name name) told ≡ false
    new false e = e
    new true e =
        let (other, there, same) = list_any-In (same_name name) told e in
        let one : name ≡ other = (bytes_decides name other).0 same in
        let (k, low, is) = so_far.own other (Contains-from_In told other there) in
        absurd (AllPairs-from_IsDistinct bytes_decides names distinct k n [] low within (is ∙ sym one ∙ sym named))

-- where all numbers were looked at, each name of a marked number is told
pub placed_told : (names : List (List ℕ)) (marks : List Bool) (told : List (List ℕ)) (n : ℕ) → length names ≤ n → AreTold names marks told n → (name : List ℕ) (k : ℕ) → place_in names name ≡ Some k → IsMarked marks k → Contains told name
placed_told names marks told n long all name k at marked =
    let within = place_within names name k at in
    subst (Contains told) (placed_name names name k at) (all.all k (omega (arith, within, long)) marked)
