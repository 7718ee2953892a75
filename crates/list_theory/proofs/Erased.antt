-- The premises that an edit retracts are those that no longer stand.
use Rattle.std.proofs.Common.{◌≡◌, ◌∙◌, ℕ, Bool, true, false, List, [], ◌∷◌, ◌++◌, map, refl, sym, ap, subst, inl, inr, cond}
use Rattle.std.specs.Prelude.{Some, None, filter}
use Rattle.std.specs.Option.{is_none}
use Rattle.std.specs.Cmp.Lexicographic.{bytes_decides, nat_list_eq_equiv}
use Rattle.tmm_model.specs.declared.premise.Premise.{Premise}
use Rattle.tmm_model.specs.Erasure.{falls, kept_after, kept_without}
use Rattle.list_theory.specs.Fallen.{fallen_after, fallen_with}
use Rattle.tmm_model.specs.Points.{same_name}
use Rattle.tmm_model.specs.Sorts.{declared_by}
use Rattle.tmm_model.specs.Standing.{name_of, premise_in}
use Rattle.list_theory.specs.WellNamed.{AllFollow, IsWellNamed}
use Rattle.list_theory.proofs.Elements.{In, In-right, In-map}
use Rattle.list_theory.proofs.Erasure.{kept_before}
use Rattle.list_theory.proofs.KnownNames.{fresh, found}

-- the names that no premise of the list has
abbrev pub names_without : List Premise → List (List ℕ) → List (List ℕ)
names_without ps names = filter (λ name. is_none (premise_in ps name)) names

names_agree : (ps qs : List Premise) (names : List (List ℕ)) → ((n : List ℕ) → In n names → is_none (premise_in ps n) ≡ is_none (premise_in qs n)) → names_without ps names ≡ names_without qs names
names_agree ps qs [] h = refl
names_agree ps qs (n ∷ names) h = λ i. cond (h n (inl refl) i) (n ∷ names_agree ps qs names (λ m at. h m (inr at)) i) (names_agree ps qs names (λ m at. h m (inr at)) i)

pub not_found : (ps : List Premise) (name : List ℕ) → ((p : Premise) → In p ps → same_name name (name_of p) ≡ true → ⊥) → premise_in ps name ≡ None
not_found [] name h = refl
not_found (p ∷ ps) name h = by (not_found ps name (λ q at. h q (inr at))) (same_name name (name_of p)) refl
  where
    by : premise_in ps name ≡ None → (b : Bool) → same_name name (name_of p) ≡ b → cond b (Some p) (premise_in ps name) ≡ None
    by rest true e = absurd (h p (inl refl) e)
    by rest false e = rest

module _ (erased : List ℕ) where
  gone_after : (earlier : List Premise) (gone : List (List ℕ)) (ps : List Premise) → AllFollow earlier ps → names_without (kept_after erased gone ps) (map name_of ps) ≡ map name_of (fallen_after erased gone ps)
  gone_after earlier gone [] h = refl
  gone_after earlier gone (p ∷ ps) h =
      by (falls erased gone p) (gone_after (earlier ++ p ∷ []) (declared_by p ++ gone) ps h.1) (gone_after (earlier ++ p ∷ []) gone ps h.1)
    where
      other : (q : Premise) → In q ps → same_name (name_of q) (name_of p) ≡ true → ⊥
      other q at e = fresh (earlier ++ p ∷ []) ps h.1 q at p (In-right earlier (p ∷ []) p (inl refl)) e

      turned_round : (q : Premise) → In q ps → same_name (name_of p) (name_of q) ≡ true → ⊥
      turned_round q at e = other q at (subst (λ n. same_name n (name_of p) ≡ true) ((bytes_decides (name_of p) (name_of q)).0 e) (nat_list_eq_equiv.refl (name_of p)))

      -- the first falls: nothing that is kept has its name
      alone : premise_in (kept_after erased (declared_by p ++ gone) ps) (name_of p) ≡ None
      alone = not_found (kept_after erased (declared_by p ++ gone) ps) (name_of p) (λ q at. turned_round q (kept_before erased (declared_by p ++ gone) ps q at))

      -- the first stays: it is not looked at under other names
      past : (n : List ℕ) → In n (map name_of ps) → is_none (premise_in (p ∷ kept_after erased gone ps) n) ≡ is_none (premise_in (kept_after erased gone ps) n)
      past n at = let (q, there, is) = In-map name_of ps n at in over (same_name n (name_of p)) (λ e. other q there (subst (λ z. same_name z (name_of p) ≡ true) (sym is) e))
        where
          over : (b : Bool) → (b ≡ true → ⊥) → is_none (cond b (Some p) (premise_in (kept_after erased gone ps) n)) ≡ is_none (premise_in (kept_after erased gone ps) n)
          over true never = absurd (never refl)
          over false never = refl

      itself : premise_in (p ∷ kept_after erased gone ps) (name_of p) ≡ Some p
      itself = ap (λ b. cond b (Some p) (premise_in (kept_after erased gone ps) (name_of p))) (nat_list_eq_equiv.refl (name_of p))

      by : (b : Bool)
          → names_without (kept_after erased (declared_by p ++ gone) ps) (map name_of ps) ≡ map name_of (fallen_after erased (declared_by p ++ gone) ps)
          → names_without (kept_after erased gone ps) (map name_of ps) ≡ map name_of (fallen_after erased gone ps)
          → names_without (elim b as (λ _. List Premise) [ true ↦ kept_after erased (declared_by p ++ gone) ps | false ↦ p ∷ kept_after erased gone ps ]) (name_of p ∷ map name_of ps)
          ≡ map name_of (elim b as (λ _. List Premise) [ true ↦ p ∷ fallen_after erased (declared_by p ++ gone) ps | false ↦ fallen_after erased gone ps ])
      by true one two =
          ap (λ o. cond (is_none o) (name_of p ∷ names_without (kept_after erased (declared_by p ++ gone) ps) (map name_of ps)) (names_without (kept_after erased (declared_by p ++ gone) ps) (map name_of ps))) alone
          ∙ ap (λ l. name_of p ∷ l) one
      by false one two =
          ap (λ o. cond (is_none o) (name_of p ∷ names_without (p ∷ kept_after erased gone ps) (map name_of ps)) (names_without (p ∷ kept_after erased gone ps) (map name_of ps))) itself
          ∙ names_agree (p ∷ kept_after erased gone ps) (kept_after erased gone ps) (map name_of ps) past
          ∙ two

-- **Of a well-named list, an erasure takes away the names of what it retracts,**
pub gone_by_erasure : (erased : List ℕ) (ps : List Premise) → IsWellNamed ps → names_without (kept_without erased ps) (map name_of ps) ≡ map name_of (fallen_with erased ps)
gone_by_erasure erased ps h = gone_after erased [] [] ps h

-- and an edit that keeps all premises takes none away
pub none_gone : (ps qs : List Premise) → IsWellNamed qs → ((p : Premise) → In p ps → In p qs) → names_without qs (map name_of ps) ≡ []
none_gone [] qs h sub = refl
none_gone (p ∷ ps) qs h sub =
    ap (λ o. cond (is_none o) (name_of p ∷ names_without qs (map name_of ps)) (names_without qs (map name_of ps))) (found qs h p (sub p (inl refl)))
    ∙ none_gone ps qs h (λ q at. sub q (inr at))
