-- The review of an edit, from what was looked at.
use Rattle.std.proofs.Common.{◌≡◌, ◌∙◌, ℕ, Bool, true, false, ◌||◌, cond, List, [], ◌∷◌, ◌++◌, map, refl, sym, ap, subst, inl, inr}
use Rattle.std.specs.Prelude.{Option, Some, None, filter, is_some}
use Rattle.std.specs.List.{cons_option}
use Rattle.std.specs.Option.{is_none}
use Rattle.std.specs.Cmp.Lexicographic.{bytes_decides}
use Rattle.tmm_model.specs.declared.premise.Edit.{Edit}
use Rattle.tmm_model.specs.declared.premise.Premise.{Premise}
use Rattle.tmm_model.specs.Answers.{Finding, broken, reports}
use Rattle.tmm_model.specs.Changes.{protection_name}
use Rattle.tmm_model.specs.Edits.{next_list}
use Rattle.tmm_model.specs.Maps.{built}
use Rattle.tmm_model.specs.Points.{same_name}
use Rattle.tmm_model.specs.Standing.{Standing, name_of, premise_in}
use Rattle.list_theory.specs.WellNamed.{IsWellNamed}
use Rattle.list_theory.proofs.Elements.{In, In-left, In-filter, filter-In, map-In}
use Rattle.list_theory.proofs.KnownNames.{found as found_named, finds}
use Rattle.belief_theory.proofs.NextLists.{one_way}
use Rattle.list_theory.specs.LeftOut.{IsLeftOut}
use Rattle.protections.specs.declared.review.Review.{Review}
use Rattle.protections.specs.declared.review.Reviewed.{Reviewed}
use Rattle.protections.specs.Found.{Found, AreFound, with_report, without, with_all}
use Rattle.protections.specs.Reported.{Reports, is_reported, report_in}
use Rattle.protections.specs.Reviews.{Reviews, AreReviewed, IsReviewOf, news, mends}
use Rattle.protections.proofs.ReportNames.{only_one, report_found, none_under}
use Rattle.protections.proofs.Reviews.{reviewed_push, all_same, found_of, found_beside, news_are, mends_are}
use Rattle.protections.proofs.Unbroken.{unbroken}

-- ---- names taken out

pub without_push : (g : Found) (names : List (List ℕ)) (name : List ℕ) → without g (names ++ name ∷ []) ≡ with_report (without g names) name None
without_push g [] name = refl
without_push g (x ∷ names) name = without_push (with_report g x None) names name

pub with_push : (g : Found) (rs : List Reviewed) (r : Reviewed) → with_all g (rs ++ r ∷ []) ≡ with_all (with_all g rs) (r ∷ [])
with_push g [] r = refl
with_push g (x ∷ rs) r = with_push (with_all g (x ∷ [])) rs r

without_none : (names : List (List ℕ)) (g : Found) (name : List ℕ) → g name ≡ None → without g names name ≡ None
without_none [] g name none = none
without_none (x ∷ names) g name none = without_none names (with_report g x None) name (by (same_name x name))
  where
    by : (b : Bool) → cond b None (g name) ≡ None
    by true = refl
    by false = none

without_in : (names : List (List ℕ)) (g : Found) (name : List ℕ) → In name names → without g names name ≡ None
without_in [] g name at = absurd at
without_in (x ∷ names) g name (inl is) = without_none names (with_report g x None) name (ap (λ b. cond b None (g name)) ((bytes_decides x name).1 is))
without_in (x ∷ names) g name (inr at) = without_in names (with_report g x None) name at

without_other : (names : List (List ℕ)) (g : Found) (name : List ℕ) → (In name names → ⊥) → without g names name ≡ g name
without_other [] g name apart = refl
without_other (x ∷ names) g name apart = without_other names (with_report g x None) name (λ at. apart (inr at)) ∙ by (same_name x name) refl
  where
    by : (b : Bool) → same_name x name ≡ b → cond b None (g name) ≡ g name
    by true same = absurd (apart (inl ((bytes_decides x name).0 same)))
    by false other = refl

-- ---- which names are reported

pub reported_some : (rs : Reports) (name : List ℕ) → is_reported rs name ≡ is_some (report_in rs name)
reported_some [] name = refl
reported_some (r ∷ rs) name = by (same_name r.0 name) refl (same_name name r.0) refl (reported_some rs name)
  where
    by : (b : Bool) → same_name r.0 name ≡ b → (v : Bool) → same_name name r.0 ≡ v → is_reported rs name ≡ is_some (report_in rs name)
        → (b || is_reported rs name) ≡ is_some (cond v (Some r) (report_in rs name))
    by true e true g again = refl
    by false e false g again = again
    by true e false g again = let same : same_name name r.0 ≡ true = (bytes_decides name r.0).1 (sym ((bytes_decides r.0 name).0 e)) in cc
    by false e true g again = let same : same_name r.0 name ≡ true = (bytes_decides r.0 name).1 (sym ((bytes_decides name r.0).0 g)) in cc

-- ---- an edit

module _ (old new : Standing) (named_old : IsWellNamed old.premises) (named_new : IsWellNamed new.premises) (found : Found) (are : AreFound (reports (built old)) found) where
  none_named : (name : List ℕ) → premise_in new.premises name ≡ None → (q : Premise) → In q new.premises → name_of q ≡ name → ⊥
  none_named name none q at same =
      let some : premise_in new.premises name ≡ Some q = subst (λ n. premise_in new.premises n ≡ Some q) same (found_named new.premises named_new q at) in
      let wrong : None ≡ Some q = sym none ∙ some in
      cc

  -- nothing is found under a name that no premise had
  pub none_before : (name : List ℕ) → premise_in old.premises name ≡ None → found name ≡ None
  none_before name none =
      are name ∙ none_under (built old) name old.premises
      (λ q at same.
      (let some : premise_in old.premises name ≡ Some q = subst (λ n. premise_in old.premises n ≡ Some q) same (found_named old.premises named_old q at) in
      let wrong : None ≡ Some q = sym none ∙ some in
      cc))

  module _ (erased gone : List (List ℕ)) (left_out : IsLeftOut old new erased) (is_gone : gone ≡ filter (λ name. is_some (found name)) erased) where
    abbrev falls : List ℕ → Bool
    falls name = is_none (premise_in new.premises name)

    -- what stands is not taken out
    stands_on : (name : List ℕ) (p : Premise) → premise_in new.premises name ≡ Some p → In name gone → ⊥
    stands_on name p is at =
        let erased_too = (In-filter (λ n. is_some (found n)) erased name (subst (In name) is_gone at)).0 in
        let falls_too = (In-filter falls (map name_of old.premises) name (subst (In name) left_out erased_too)).1 in
        let stays : falls name ≡ false = ap is_none is in
        let wrong : true ≡ false = sym falls_too ∙ stays in
        cc

    -- of what stands no more nothing is found
    taken_out : (name : List ℕ) → premise_in new.premises name ≡ None → without found gone name ≡ None
    taken_out name none = by (premise_in old.premises name) refl
      where
        broken_before : (p : Premise) → premise_in old.premises name ≡ Some p → (o : Option (List ℕ × Finding)) → found name ≡ o → without found gone name ≡ None
        broken_before p is None e = without_none gone found name e
        broken_before p is (Some r) e =
            let (at, named) = finds old.premises name p is in
            let on : In name (map name_of old.premises) = subst (λ n. In n (map name_of old.premises)) named (map-In name_of old.premises p at) in
            let erased_too : In name erased = subst (In name) (sym left_out) (filter-In falls (map name_of old.premises) name on (ap is_none none)) in
            without_in gone found name (subst (In name) (sym is_gone) (filter-In (λ n. is_some (found n)) erased name erased_too (ap is_some e)))

        by : (o : Option Premise) → premise_in old.premises name ≡ o → without found gone name ≡ None
        by None e = without_none gone found name (none_before name e)
        by (Some p) e = broken_before p e (found name) refl

    module _ (rs : List Reviewed) (reviewed : AreReviewed (built new) found new.premises rs) where
      -- **Under each name is found what is reported of the list that the edit leaves.**
      pub found_then : AreFound (reports (built new)) (with_all (without found gone) rs)
      found_then name = by (premise_in new.premises name) refl
        where
          by : (o : Option Premise) → premise_in new.premises name ≡ o → with_all (without found gone) rs name ≡ report_in (reports (built new)) name
          by None none =
              found_beside (built new) found name new.premises rs reviewed (none_named name none) (without found gone)
              ∙ taken_out name none
              ∙ sym (none_under (built new) name new.premises (none_named name none))
          by (Some p) is =
              let (at, named) = finds new.premises name p is in
              subst (λ n. with_all (without found gone) rs n ≡ report_in (reports (built new)) n) named
              (found_of (built new) found p new.premises rs reviewed (only_one new.premises named_new p at) at (without found gone)
              (subst (λ n. without found gone n ≡ found n) (sym named) (without_other gone found name (stands_on name p is)))
              ∙ sym (report_found (built new) named_new p at))

      was : (name : List ℕ) → is_reported (reports (built old)) name ≡ is_some (found name)
      was name = reported_some (reports (built old)) name ∙ ap is_some (sym (are name))

      now : (p : Premise) → In p new.premises → is_reported (reports (built new)) (name_of p) ≡ is_some (broken (built new) p)
      now p at = reported_some (reports (built new)) (name_of p) ∙ ap is_some (report_found (built new) named_new p at)

      pub review_of : (review : Review) → review.erased.items ≡ gone → review.reviewed.items ≡ rs → IsReviewOf (built old) (built new) found review
      review_of review erased_are reviewed_are = record {
        after = subst (λ l. AreFound (reports (built new)) (with_all (without found l) review.reviewed.items)) (sym erased_are)
            (subst (λ l. AreFound (reports (built new)) (with_all (without found gone) l)) (sym reviewed_are) found_then);
        broken = ap (λ l. news l) reviewed_are ∙ news_are (built new) found (reports (built old)) was new.premises rs reviewed;
        mended = ap (λ l. mends l) reviewed_are ∙ mends_are (built new) found (reports (built old)) was (reports (built new)) new.premises now rs reviewed;
      }

-- ---- what is not looked at

module _ (old : Standing) (edit : Edit) (named_old : IsWellNamed old.premises) (named_new : IsWellNamed (next_list old edit).premises) (found : Found) (are : AreFound (reports (built old)) found) where
  -- a premise that stood is found as it was reported
  pub found_before : (p : Premise) → In p old.premises → found (name_of p) ≡ broken (built old) p
  found_before p at = are (name_of p) ∙ report_found (built old) named_old p at

  -- a name stays with its premise
  one_premise : (q p : Premise) → In q old.premises → In p (next_list old edit).premises → name_of q ≡ name_of p → q ≡ p
  one_premise q p before now same =
      elim (one_way old edit) [
        | inl more ↦ only_one (next_list old edit).premises named_new p now q (more q before) same
        | inr fewer ↦ only_one old.premises named_old p (fewer p now) q before same
      ]

  -- **Nothing is found of a premise that is no protection.**
  pub found_none : (p : Premise) → In p (next_list old edit).premises → protection_name p ≡ None → found (name_of p) ≡ None
  found_none p at none = by (premise_in old.premises (name_of p)) refl
    where
      by : (o : Option Premise) → premise_in old.premises (name_of p) ≡ o → found (name_of p) ≡ None
      by None e = none_before old (next_list old edit) named_old named_new found are (name_of p) e
      by (Some q) e =
          let (before, same) = finds old.premises (name_of p) q e in
          subst (λ n. found n ≡ None) same
          (found_before q before ∙ unbroken (built old) q (ap protection_name (one_premise q p before at same) ∙ none))

-- ---- where nothing that stood is looked at

module _ (old new : Standing) (named_old : IsWellNamed old.premises) (found : Found) (are : AreFound (reports (built old)) found)
    (same : (p : Premise) → In p old.premises → In p new.premises → broken (built new) p ≡ broken (built old) p) where
  stays : (p : Premise) → In p old.premises → In p new.premises → found (name_of p) ≡ broken (built new) p
  stays p before now = are (name_of p) ∙ report_found (built old) named_old p before ∙ sym (same p before now)

  -- where an edit adds a premise, only that one is looked at
  pub added_reviewed : (p : Premise) → new.premises ≡ old.premises ++ p ∷ [] → (o : Option Reviewed) → Reviews (built new) found p o → AreReviewed (built new) found new.premises (cons_option o [])
  added_reviewed p is o one =
      subst (λ l. AreReviewed (built new) found l (cons_option o [])) (sym is)
      (reviewed_push (built new) found old.premises [] p o
      (all_same (built new) found old.premises (λ q at. stays q at (subst (In q) (sym is) (In-left old.premises (p ∷ []) q at)))) one)

  -- where none is added, none is looked at
  pub none_reviewed : ((p : Premise) → In p new.premises → In p old.premises) → AreReviewed (built new) found new.premises []
  none_reviewed stood = all_same (built new) found new.premises (λ p at. stays p (stood p at) at)
