-- What an erasure leaves.
use Rattle.std.proofs.Common.{◌≡◌, ℕ, Bool, true, false, ◌||◌, List, [], ◌∷◌, ◌++◌, refl, sym, ◌∙◌, ap, inl, inr}
use Rattle.std.specs.Prelude.{Option, Some, None}
use Rattle.std.proofs.lemmas.Bool.{or_parts}
use Rattle.std.specs.List.{flat_map, list_any}
use Rattle.std.specs.Map.{lookup}
use Rattle.std.specs.Option.{option_or}
use Rattle.std.proofs.lemmas.List.Folds.{list_any-append}
use Rattle.tmm_model.specs.declared.point.PointName.TheVariants.{Start, Begin, End}
use Rattle.tmm_model.specs.declared.premise.Premise.{Premise}
use Rattle.tmm_model.specs.Points.{same_name, point_word}
use Rattle.tmm_model.specs.Standing.{name_of}
use Rattle.tmm_model.specs.Sorts.{declarations_of, declared_by, sort_in, Use, a_name, a_place, a_premise, uses_of, is_place}
use Rattle.tmm_model.specs.Verdicts.{Cause, words_known, use_cause, uses_cause, name_cause, end_cause, premise_cause}
use Rattle.list_theory.specs.WellNamed.{Follows, AllFollow, IsWellNamed}
use Rattle.tmm_model.specs.Erasure.{names_used, mentioned_by, is_among, falls, kept_after, kept_without}
use Rattle.list_theory.specs.Fallen.{fallen_after}
use Rattle.list_theory.proofs.WellNamed.{words_known-push, first_taken-fewer, lookup-unknown, sort_in-push}
use Rattle.list_theory.proofs.Elements.{In}

-- the same names are gone, in whatever order
abbrev pub SameGone : List (List ℕ) → List (List ℕ) → Type 0
SameGone a b = (v : List ℕ) → is_among a v ≡ is_among b v

SameGone-more : (a b ws : List (List ℕ)) → SameGone a b → SameGone (ws ++ a) (ws ++ b)
SameGone-more a b ws same v = list_any-append (same_name v) ws a ∙ ap (λ x. list_any (same_name v) ws || x) (same v) ∙ sym (list_any-append (same_name v) ws b)

any_same : (a b : List (List ℕ)) → SameGone a b → (ws : List (List ℕ)) → list_any (is_among a) ws ≡ list_any (is_among b) ws
any_same a b same [] = refl
any_same a b same (w ∷ ws) = λ i. same w i || any_same a b same ws i

module _ (erased : List ℕ) where
  falls-same : (a b : List (List ℕ)) → SameGone a b → (p : Premise) → falls erased a p ≡ falls erased b p
  falls-same a b same p = ap (λ x. same_name erased (name_of p) || x) (any_same a b same (mentioned_by p))

  pub kept_after-same : (a b : List (List ℕ)) → SameGone a b → (ps : List Premise) → kept_after erased a ps ≡ kept_after erased b ps
  kept_after-same a b same [] = refl
  kept_after-same a b same (p ∷ ps) =
      λ i. elim (falls-same a b same p i) as (λ _. List Premise) [
        | true ↦ kept_after-same (declared_by p ++ a) (declared_by p ++ b) (SameGone-more a b (declared_by p) same) ps i
        | false ↦ p ∷ kept_after-same a b same ps i
      ]

  pub fallen_after-same : (a b : List (List ℕ)) → SameGone a b → (ps : List Premise) → fallen_after erased a ps ≡ fallen_after erased b ps
  fallen_after-same a b same [] = refl
  fallen_after-same a b same (p ∷ ps) =
      λ i. elim (falls-same a b same p i) as (λ _. List Premise) [
        | true ↦ p ∷ fallen_after-same (declared_by p ++ a) (declared_by p ++ b) (SameGone-more a b (declared_by p) same) ps i
        | false ↦ fallen_after-same a b same ps i
      ]

  -- one premise further
  pub kept_after-falls : (gone : List (List ℕ)) (p : Premise) (ps : List Premise) → falls erased gone p ≡ true → kept_after erased gone (p ∷ ps) ≡ kept_after erased (declared_by p ++ gone) ps
  kept_after-falls gone p ps e = rw (e, kept_after) refl

  pub kept_after-stays : (gone : List (List ℕ)) (p : Premise) (ps : List Premise) → falls erased gone p ≡ false → kept_after erased gone (p ∷ ps) ≡ p ∷ kept_after erased gone ps
  kept_after-stays gone p ps e = rw (e, kept_after) refl

  pub fallen_after-falls : (gone : List (List ℕ)) (p : Premise) (ps : List Premise) → falls erased gone p ≡ true → fallen_after erased gone (p ∷ ps) ≡ p ∷ fallen_after erased (declared_by p ++ gone) ps
  fallen_after-falls gone p ps e = rw (e, fallen_after) refl

  pub fallen_after-stays : (gone : List (List ℕ)) (p : Premise) (ps : List Premise) → falls erased gone p ≡ false → fallen_after erased gone (p ∷ ps) ≡ fallen_after erased gone ps
  fallen_after-stays gone p ps e = rw (e, fallen_after) refl

  -- the others before the erased one stay
  no_mention : (ws : List (List ℕ)) → list_any (is_among []) ws ≡ false
  no_mention [] = refl
  no_mention (w ∷ ws) = no_mention ws

  pub stays_before : (p : Premise) → same_name erased (name_of p) ≡ false → falls erased [] p ≡ false
  stays_before p e = λ i. e i || no_mention (mentioned_by p) i

-- What stays of the earlier premises, where the names `gone` were those of the others: it knows no
-- more names, and those that are not gone have their sorts.
pub record IsPart (gone : List (List ℕ)) (earlier kept : List Premise) : Type 0 where
  pub fewer : (v : List ℕ) → is_among (words_known kept) v ≡ true → is_among (words_known earlier) v ≡ true
  pub sorts : (v : List ℕ) → is_among gone v ≡ false → sort_in kept v ≡ sort_in earlier v

or_left : (a b c : Bool) → (a ≡ true → b ≡ true) → (a || c) ≡ true → (b || c) ≡ true
or_left true b c f h = let e : b ≡ true = f refl in ap (λ x. x || c) e
or_left false true c f h = refl
or_left false false c f h = h

or_true : (a b : Bool) → a ≡ true → (a || b) ≡ true
or_true a b e = ap (λ x. x || b) e

or_none : {X : Type 0} (o : Option X) → option_or o None ≡ o
or_none None = refl
or_none (Some x) = refl

among_push : (ps : List Premise) (p : Premise) (v : List ℕ) → is_among (words_known (ps ++ p ∷ [])) v ≡ (is_among (words_known ps) v || is_among (declared_by p) v)
among_push ps p v = ap (λ l. list_any (same_name v) l) (words_known-push ps p) ∙ list_any-append (same_name v) (words_known ps) (declared_by p)

module _ (gone : List (List ℕ)) (earlier kept : List Premise) (part : IsPart gone earlier kept) where
  use_cause-kept : (u : Use) → list_any (is_among gone) (names_used u) ≡ false → use_cause kept u ≡ use_cause earlier u
  use_cause-kept (a_name word wanted) h = ap (λ s. name_cause s word wanted) (part.sorts word (or_parts (is_among gone word) false h).0)
  use_cause-kept (a_place Start) h = refl
  use_cause-kept (a_place (Begin name)) h = ap (λ s. name_cause s name is_place) (part.sorts name (or_parts (is_among gone name) false h).0)
  use_cause-kept (a_place (End name)) h = ap (λ s. end_cause s (point_word (End name))) (part.sorts name (or_parts (is_among gone name) false h).0)
  use_cause-kept (a_premise word) h = ap (λ s. premise_cause s word) (part.sorts word (or_parts (is_among gone word) false h).0)

  uses_cause-kept : (us : List Use) → list_any (is_among gone) (flat_map names_used us) ≡ false → uses_cause kept us ≡ uses_cause earlier us
  uses_cause-kept [] h = refl
  uses_cause-kept (u ∷ us) h =
      let (first, rest) = or_parts (list_any (is_among gone) (names_used u)) (list_any (is_among gone) (flat_map names_used us)) (sym (list_any-append (is_among gone) (names_used u) (flat_map names_used us)) ∙ h) in
      λ i. elim (use_cause-kept u first i) as (λ _. Option Cause) [ Some cause ↦ Some cause | None ↦ uses_cause-kept us rest i ]

  -- a premise that mentions nothing that is gone follows what stays
  follows_kept : (p : Premise) → list_any (is_among gone) (mentioned_by p) ≡ false → Follows earlier p → Follows kept p
  follows_kept p h f = record {
    new = first_taken-fewer (words_known kept) (words_known earlier) part.fewer (declared_by p) f.new;
    known = uses_cause-kept (uses_of p) h ∙ f.known;
  }

  part_stays : (p : Premise) → IsPart gone (earlier ++ p ∷ []) (kept ++ p ∷ [])
  part_stays p = record {
    fewer = λ v h.
        let inside : (is_among (words_known kept) v || is_among (declared_by p) v) ≡ true = sym (among_push kept p v) ∙ h in
        among_push earlier p v ∙ or_left (is_among (words_known kept) v) (is_among (words_known earlier) v) (is_among (declared_by p) v) (part.fewer v) inside;
    sorts = λ v h. sort_in-push kept p v ∙ ap (λ s. option_or s (lookup (same_name v) (declarations_of p))) (part.sorts v h) ∙ sym (sort_in-push earlier p v);
  }

  part_falls : (p : Premise) → IsPart (declared_by p ++ gone) (earlier ++ p ∷ []) kept
  part_falls p = record {
    fewer = λ v h. among_push earlier p v ∙ or_true (is_among (words_known earlier) v) (is_among (declared_by p) v) (part.fewer v h);
    sorts = λ v h.
        let (apart, other) = or_parts (is_among (declared_by p) v) (is_among gone v) (sym (list_any-append (same_name v) (declared_by p) gone) ∙ h) in
        part.sorts v other ∙ sym (sort_in-push earlier p v ∙ ap (option_or (sort_in earlier v)) (lookup-unknown (same_name v) (declarations_of p) apart) ∙ or_none (sort_in earlier v));
  }

-- each premise that stays follows those that stay before it
kept_follow : (erased : List ℕ) (gone : List (List ℕ)) (earlier kept ps : List Premise) → IsPart gone earlier kept → AllFollow earlier ps → AllFollow kept (kept_after erased gone ps)
kept_follow erased gone earlier kept [] part h = tt
kept_follow erased gone earlier kept (p ∷ ps) part h =
    by (kept_follow erased (declared_by p ++ gone) (earlier ++ p ∷ []) kept ps (part_falls gone earlier kept part p) h.1)
    (kept_follow erased gone (earlier ++ p ∷ []) (kept ++ p ∷ []) ps (part_stays gone earlier kept part p) h.1)
    (falls erased gone p) refl
  where
    by : AllFollow kept (kept_after erased (declared_by p ++ gone) ps) → AllFollow (kept ++ p ∷ []) (kept_after erased gone ps) → (b : Bool) → falls erased gone p ≡ b
        → AllFollow kept (elim b as (λ _. List Premise) [ true ↦ kept_after erased (declared_by p ++ gone) ps | false ↦ p ∷ kept_after erased gone ps ])
    by one two true e = one
    by one two false e = (follows_kept gone earlier kept part p (or_parts (same_name erased (name_of p)) (list_any (is_among gone) (mentioned_by p)) e).1 h.0, two)

-- what an erasure leaves is well named
pub kept_without-IsWellNamed : (erased : List ℕ) (ps : List Premise) → IsWellNamed ps → IsWellNamed (kept_without erased ps)
kept_without-IsWellNamed erased ps h = kept_follow erased [] [] [] ps (record { fewer = λ v e. e; sorts = λ v e. refl }) h

-- what an erasure keeps stood before
pub kept_before : (erased : List ℕ) (gone : List (List ℕ)) (ps : List Premise) (p : Premise) → In p (kept_after erased gone ps) → In p ps
kept_before erased gone [] p at = absurd at
kept_before erased gone (q ∷ ps) p at = by (falls erased gone q) (kept_before erased (declared_by q ++ gone) ps p) (kept_before erased gone ps p) at
  where
    by : (b : Bool) → (In p (kept_after erased (declared_by q ++ gone) ps) → In p ps) → (In p (kept_after erased gone ps) → In p ps)
        → In p (elim b as (λ _. List Premise) [ true ↦ kept_after erased (declared_by q ++ gone) ps | false ↦ q ∷ kept_after erased gone ps ]) → In p (q ∷ ps)
    by true one two at = inr (one at)
    by false one two (inl is) = inl is
    by false one two (inr at) = inr (two at)
