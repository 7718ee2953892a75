-- The part of a list that an erasure walks.
use Rattle.std.proofs.Common.{◌≡◌, ℕ, suc, ◌+◌, ◌<◌, Bool, true, false, ◌||◌, List, [], ◌∷◌, ◌++◌, map, length, refl, sym, ◌∙◌, ap, arith, cond, append_assoc}
use Rattle.std.specs.Prelude.{Option, Some, None, unwrap_or}
use Rattle.std.specs.List.{flat_map, list_any}
use Rattle.std.specs.Map.{lookup}
use Rattle.std.specs.Option.{option_or}
use Rattle.std.proofs.lemmas.List.Folds.{list_any-append}
use Rattle.tmm_model.specs.declared.premise.Premise.{Premise}
use Rattle.tmm_model.specs.Points.{same_name}
use Rattle.tmm_model.specs.Standing.{name_of}
use Rattle.tmm_model.specs.Sorts.{Sort, a_fact, fact_use, declared_by}
use Rattle.tmm_model.specs.Verdicts.{Cause, use_cause, uses_cause}
use Rattle.tmm_model.specs.Erasure.{names_used, is_among, falls, kept_after}
use Rattle.list_theory.specs.Fallen.{fallen_after}
use Rattle.list_theory.proofs.Erasure.{stays_before, kept_after-stays, kept_after-falls, kept_after-same, fallen_after-stays, fallen_after-falls, fallen_after-same}
use Rattle.premise_list.specs.Words.{facts_of, own_sort}
use Rattle.premise_list.specs.Table.{placed}
use Rattle.premise_list.specs.Gone.{SameNames}
use Rattle.premise_list.specs.Found.{IsFoundAt}
use Rattle.premise_list.proofs.Lookups.{lookup-placed_cons}
use Rattle.premise_list.proofs.TableFacts.{declared_by_parted}

-- where a name is found
pub found_at : (n : List ℕ) (i : ℕ) (ps : List Premise) (s : Sort) (k : ℕ) → lookup (same_name n) (placed i ps) ≡ Some (s, k) → (j : ℕ) × (k ≡ i + j) × IsFoundAt n ps j
found_at n i [] s k h = cc
found_at n i (p ∷ ps) s k h =
    by (same_name n (name_of p)) refl (list_any (same_name n) (facts_of p)) (found_at n (suc i) ps s k) (sym (lookup-placed_cons (same_name n) i p ps) ∙ h)
  where
    here : i ≡ k → (j : ℕ) × (k ≡ i + j) × IsFoundAt n (p ∷ ps) j
    here e = (0, omega arith, record { within = omega arith; kept = refl; fallen = refl })

    by : (a : Bool) → same_name n (name_of p) ≡ a → (b : Bool) → (lookup (same_name n) (placed (suc i) ps) ≡ Some (s, k) → (j : ℕ) × (k ≡ suc i + j) × IsFoundAt n ps j)
        → cond a (Some (own_sort p, i)) (cond b (Some (a_fact, i)) (lookup (same_name n) (placed (suc i) ps))) ≡ Some (s, k)
        → (j : ℕ) × (k ≡ i + j) × IsFoundAt n (p ∷ ps) j
    by true f b again e = here (ap (λ o. (unwrap_or {T = Sort × ℕ} o (a_fact, 0)).1) e)
    by false f true again e = here (ap (λ o. (unwrap_or {T = Sort × ℕ} o (a_fact, 0)).1) e)
    by false f false again e =
        let (j, at, found) = again e in
        let stays = stays_before n p f in (
          suc j,
          omega arith,
          record {
            within = let below : j < length ps = found.within in omega arith;
            kept = kept_after-stays n [] p ps stays ∙ ap (λ l. p ∷ l) found.kept;
            fallen = fallen_after-stays n [] p ps stays ∙ found.fallen;
          },
        )

-- the names in a list of facts that are used
pub facts_used : (fs : List (List ℕ)) → flat_map names_used (map fact_use fs) ≡ fs
facts_used [] = refl
facts_used (f ∷ fs) = ap (λ l. f ∷ l) (facts_used fs)

-- two lists of facts that are used, one behind the other
pub used_facts : (ps : List Premise) (fs gs : List (List ℕ)) → uses_cause ps (map fact_use (fs ++ gs)) ≡ option_or (uses_cause ps (map fact_use fs)) (uses_cause ps (map fact_use gs))
used_facts ps [] gs = refl
used_facts ps (f ∷ fs) gs = by (use_cause ps (fact_use f)) (used_facts ps fs gs)
  where
    by : (o : Option Cause) → uses_cause ps (map fact_use (fs ++ gs)) ≡ option_or (uses_cause ps (map fact_use fs)) (uses_cause ps (map fact_use gs))
        → elim o as (λ _. Option Cause) [ Some cause ↦ Some cause | None ↦ uses_cause ps (map fact_use (fs ++ gs)) ]
        ≡ option_or (elim o as (λ _. Option Cause) [ Some cause ↦ Some cause | None ↦ uses_cause ps (map fact_use fs) ]) (uses_cause ps (map fact_use gs))
    by (Some cause) rest = refl
    by None rest = rest

pub any_of_both : (test : List ℕ → Bool) (xs ys : List (List ℕ)) → list_any test (xs ++ ys) ≡ (list_any test xs || list_any test ys)
any_of_both = list_any-append

-- a premise that falls, and one that stays, at the head of those to be walked
module _ (n : List ℕ) (gone : List (List ℕ)) (p : Premise) (rest : List Premise) where
  pub names_fall : (more : List (List ℕ)) (names whole : List (List ℕ)) → falls n gone p ≡ true → SameNames more (declared_by p ++ gone)
      → names ++ map name_of (fallen_after n gone (p ∷ rest)) ≡ whole → (names ++ name_of p ∷ []) ++ map name_of (fallen_after n more rest) ≡ whole
  names_fall more names whole e same h =
      append_assoc names (name_of p ∷ []) (map name_of (fallen_after n more rest))
      ∙ ap (λ l. names ++ name_of p ∷ map name_of l) (fallen_after-same n more (declared_by p ++ gone) same rest)
      ∙ ap (λ l. names ++ map name_of l) (sym (fallen_after-falls n gone p rest e)) ∙ h

  pub names_stay : (names whole : List (List ℕ)) → falls n gone p ≡ false → names ++ map name_of (fallen_after n gone (p ∷ rest)) ≡ whole → names ++ map name_of (fallen_after n gone rest) ≡ whole
  names_stay names whole e h = ap (λ l. names ++ map name_of l) (sym (fallen_after-stays n gone p rest e)) ∙ h

  pub kept_fall : (more : List (List ℕ)) (kept whole : List Premise) → falls n gone p ≡ true → SameNames more (declared_by p ++ gone)
      → kept ++ kept_after n gone (p ∷ rest) ≡ whole → kept ++ kept_after n more rest ≡ whole
  kept_fall more kept whole e same h = ap (λ l. kept ++ l) (kept_after-same n more (declared_by p ++ gone) same rest ∙ sym (kept_after-falls n gone p rest e)) ∙ h

  pub kept_stay : (kept whole : List Premise) → falls n gone p ≡ false → kept ++ kept_after n gone (p ∷ rest) ≡ whole → (kept ++ p ∷ []) ++ kept_after n gone rest ≡ whole
  kept_stay kept whole e h = append_assoc kept (p ∷ []) (kept_after n gone rest) ∙ ap (λ l. kept ++ l) (sym (kept_after-stays n gone p rest e)) ∙ h

-- the names of a premise, lost one after the other
pub all_lost : (p : Premise) (old mid new : List (List ℕ)) → SameNames mid (name_of p ∷ old) → SameNames new (facts_of p ++ mid) → SameNames new (declared_by p ++ old)
all_lost p old mid new first others v =
    others v ∙ list_any-append (same_name v) (facts_of p) mid ∙ ap (λ x. list_any (same_name v) (facts_of p) || x) (first v)
    ∙ by (list_any (same_name v) (facts_of p)) (same_name v (name_of p)) (list_any (same_name v) old)
    ∙ ap (λ x. same_name v (name_of p) || x) (sym (list_any-append (same_name v) (facts_of p) old))
    ∙ ap (λ l. list_any (same_name v) (l ++ old)) (sym (declared_by_parted p))
  where
    by : (x y z : Bool) → (x || (y || z)) ≡ (y || (x || z))
    by true true z = refl
    by true false z = refl
    by false true z = refl
    by false false z = refl

-- a rule whose trigger and effect are not gone
pub rule_mentions : (gone : List (List ℕ)) (trigger effect : List ℕ) (fs : List (List ℕ)) → is_among gone trigger ≡ false → is_among gone effect ≡ false
    → list_any (is_among gone) fs ≡ (is_among gone trigger || (is_among gone effect || list_any (is_among gone) (flat_map names_used (map fact_use fs))))
rule_mentions gone trigger effect fs t e = λ i. sym t i || (sym e i || list_any (is_among gone) (sym (facts_used fs) i))
