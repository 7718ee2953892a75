-- What is found and told once the premises of a list are looked at after an edit.
use Rattle.std.proofs.Common.{◌≡◌, ◌∙◌, ℕ, Bool, true, false, not, ◌&&◌, cond, List, [], ◌∷◌, ◌++◌, refl, sym, ap, subst, inl, inr}
use Rattle.std.specs.Prelude.{Option, Some, None, filter, is_some}
use Rattle.std.specs.List.{filter_map, cons_option}
use Rattle.std.specs.Option.{option_map, is_none}
use Rattle.std.specs.Cmp.Lexicographic.{bytes_decides}
use Rattle.tmm_model.specs.declared.answer.Report.{Report}
use Rattle.tmm_model.specs.declared.premise.Premise.{Premise}
use Rattle.tmm_model.specs.Answers.{Finding, broken, report_of}
use Rattle.tmm_model.specs.Changes.{protection_name}
use Rattle.tmm_model.specs.Maps.{TimeMap}
use Rattle.tmm_model.specs.Points.{same_name}
use Rattle.tmm_model.specs.Standing.{name_of}
use Rattle.list_theory.proofs.Elements.{In}
use Rattle.protections.specs.declared.review.Reviewed.{Reviewed}
use Rattle.protections.specs.Found.{Found, with_report, with_all}
use Rattle.protections.specs.Reported.{Reports, is_reported, newly_broken, name_if, is_mended, mended}
use Rattle.protections.specs.Reviews.{news_of, news, mends_of, mends, Reviews, AreReviewed}
use Rattle.protections.proofs.ReportNames.{IsOnly, report_named}
use Rattle.protections.proofs.Unbroken.{name_is}

module _ (m : TimeMap) (found : Found) where
  -- one premise more
  pub reviewed_push : (ps : List Premise) (rs : List Reviewed) (p : Premise) (o : Option Reviewed) → AreReviewed m found ps rs → Reviews m found p o
      → AreReviewed m found (ps ++ p ∷ []) (rs ++ cons_option o [])
  reviewed_push [] rs p o are one = (o, [], ap (λ l. l ++ cons_option o []) are, one, refl)
  reviewed_push (q ∷ ps) rs p o (a, rest, is, own, more) one =
      (a, rest ++ cons_option o [], ap (λ l. l ++ cons_option o []) is ∙ by a, own, reviewed_push ps rest p o more one)
    where
      by : (a : Option Reviewed) → cons_option a rest ++ cons_option o [] ≡ cons_option a (rest ++ cons_option o [])
      by None = refl
      by (Some r) = refl

  -- premises of which each is reported as before
  pub all_same : (ps : List Premise) → ((p : Premise) → In p ps → found (name_of p) ≡ broken m p) → AreReviewed m found ps []
  all_same [] same = refl
  all_same (p ∷ ps) same = (None, [], refl, same p (inl refl), all_same ps (λ q at. same q (inr at)))

  -- ---- what is found once they are taken over

  -- the report of one, where it was looked at, put in its place
  abbrev with_some : Found → Option Reviewed → Found
  with_some g None = g
  with_some g (Some r) = with_report g r.name (option_map report_of r.report)

  all_some : (g : Found) (o : Option Reviewed) (rest : List Reviewed) (name : List ℕ) → with_all g (cons_option o rest) name ≡ with_all (with_some g o) rest name
  all_some g None rest name = refl
  all_some g (Some r) rest name = refl

  own : (p : Premise) (o : Option Reviewed) → Reviews m found p o → (g : Found) → g (name_of p) ≡ found (name_of p) → with_some g o (name_of p) ≡ broken m p
  own p None one g same = same ∙ one
  own p (Some r) one g same =
      let named : same_name r.name (name_of p) ≡ true = (bytes_decides r.name (name_of p)).1 (sym (name_is p r.name one.name)) in
      ap (λ b. cond b (option_map report_of r.report) (g (name_of p))) named ∙ one.report

  own_again : (p : Premise) (o : Option Reviewed) → Reviews m found p o → (g : Found) → g (name_of p) ≡ broken m p → with_some g o (name_of p) ≡ broken m p
  own_again p None one g same = same
  own_again p (Some r) one g same =
      let named : same_name r.name (name_of p) ≡ true = (bytes_decides r.name (name_of p)).1 (sym (name_is p r.name one.name)) in
      ap (λ b. cond b (option_map report_of r.report) (g (name_of p))) named ∙ one.report

  other : (q : Premise) (o : Option Reviewed) → Reviews m found q o → (g : Found) (name : List ℕ) → (name_of q ≡ name → ⊥) → with_some g o name ≡ g name
  other q None one g name apart = refl
  other q (Some r) one g name apart = by (same_name r.name name) refl
    where
      by : (b : Bool) → same_name r.name name ≡ b → cond b (option_map report_of r.report) (g name) ≡ g name
      by true same = absurd (apart (name_is q r.name one.name ∙ (bytes_decides r.name name).0 same))
      by false apart_too = refl

  module _ (p : Premise) where
    -- what is reported of a premise stays so
    keeps : (ps : List Premise) (rs : List Reviewed) → AreReviewed m found ps rs → IsOnly m p ps → (g : Found) → g (name_of p) ≡ broken m p → with_all g rs (name_of p) ≡ broken m p
    keeps [] rs none only g is = ap (λ l. with_all g l (name_of p)) none ∙ is
    keeps (q ∷ ps) rs (o, rest, made, one, more) only g is =
        ap (λ l. with_all g l (name_of p)) made ∙ all_some g o rest (name_of p)
        ∙ keeps ps rest more (λ x at. only x (inr at)) (with_some g o) (by (same_name (name_of q) (name_of p)) refl)
      where
        by : (b : Bool) → same_name (name_of q) (name_of p) ≡ b → with_some g o (name_of p) ≡ broken m p
        by true same = own_again p o (subst (λ x. Reviews m found x o) (only q (inl refl) ((bytes_decides (name_of q) (name_of p)).0 same)) one) g is
        by false apart = other q o one g (name_of p) (λ e. (let same : same_name (name_of q) (name_of p) ≡ true = (bytes_decides (name_of q) (name_of p)).1 e in cc)) ∙ is

    -- **Of each of the premises is found what is reported of it.**
    pub found_of : (ps : List Premise) (rs : List Reviewed) → AreReviewed m found ps rs → IsOnly m p ps → In p ps → (g : Found) → g (name_of p) ≡ found (name_of p) → with_all g rs (name_of p) ≡ broken m p
    found_of [] rs none only at g is = absurd at
    found_of (q ∷ ps) rs (o, rest, made, one, more) only at g is =
        ap (λ l. with_all g l (name_of p)) made ∙ all_some g o rest (name_of p)
        ∙ by (λ there. found_of ps rest more (λ x on. only x (inr on)) there (with_some g o)) (same_name (name_of q) (name_of p)) refl at
      where
        by : (In p ps → with_some g o (name_of p) ≡ found (name_of p) → with_all (with_some g o) rest (name_of p) ≡ broken m p)
            → (b : Bool) → same_name (name_of q) (name_of p) ≡ b → In p (q ∷ ps) → with_all (with_some g o) rest (name_of p) ≡ broken m p
        by again true same here =
            keeps ps rest more (λ x on. only x (inr on)) (with_some g o)
            (own p o (subst (λ x. Reviews m found x o) (only q (inl refl) ((bytes_decides (name_of q) (name_of p)).0 same)) one) g is)
        by again false apart (inl e) = let same : same_name (name_of q) (name_of p) ≡ true = (bytes_decides (name_of q) (name_of p)).1 (ap name_of e) in cc
        by again false apart (inr there) =
            again there (other q o one g (name_of p) (λ e. (let same : same_name (name_of q) (name_of p) ≡ true = (bytes_decides (name_of q) (name_of p)).1 e in cc)) ∙ is)

  -- under any other name all stays
  pub found_beside : (name : List ℕ) (ps : List Premise) (rs : List Reviewed) → AreReviewed m found ps rs → ((q : Premise) → In q ps → name_of q ≡ name → ⊥) → (g : Found) → with_all g rs name ≡ g name
  found_beside name [] rs none never g = ap (λ l. with_all g l name) none
  found_beside name (q ∷ ps) rs (o, rest, made, one, more) never g =
      ap (λ l. with_all g l name) made ∙ all_some g o rest name
      ∙ found_beside name ps rest more (λ x at. never x (inr at)) (with_some g o) ∙ other q o one g name (never q (inl refl))

  -- ---- what is told of them

  module _ (before : Reports) (was : (name : List ℕ) → is_reported before name ≡ is_some (found name)) where
    -- **Those are newly broken that have a report and had none.**
    pub news_are : (ps : List Premise) (rs : List Reviewed) → AreReviewed m found ps rs → news rs ≡ newly_broken before (filter_map (broken m) ps)
    news_are [] rs none = ap news none
    news_are (q ∷ ps) rs (o, rest, made, one, more) = ap news made ∙ by (news_are ps rest more) o one (broken m q) refl
      where
        tail : List (List ℕ × Finding)
        tail = newly_broken before (filter_map (broken m) ps)

        chosen : news rest ≡ tail → (r : Reviewed) (x : List ℕ × Finding) → option_map report_of r.report ≡ Some x → (v : Bool) → r.was_broken ≡ v → is_reported before x.0 ≡ v
            → cons_option (news_of r) (news rest) ≡ cond (not (is_reported before x.0)) (x ∷ tail) tail
        chosen again r x is true first second =
            ap (λ v. cons_option (elim v as (λ _. Option (List ℕ × Finding)) [ true ↦ None | false ↦ option_map report_of r.report ]) (news rest)) first
            ∙ again
            ∙ ap (λ v. cond (not v) (x ∷ tail) tail) (sym second)
        chosen again r x is false first second =
            ap (λ v. cons_option (elim v as (λ _. Option (List ℕ × Finding)) [ true ↦ None | false ↦ option_map report_of r.report ]) (news rest)) first
            ∙ ap (λ z. cons_option z (news rest)) is
            ∙ ap (λ l. x ∷ l) again
            ∙ ap (λ v. cond (not v) (x ∷ tail) tail) (sym second)

        unreported : (r : Reviewed) → option_map report_of r.report ≡ None → (v : Bool) → r.was_broken ≡ v → news_of r ≡ None
        unreported r is true e = ap (λ v. elim v as (λ _. Option (List ℕ × Finding)) [ true ↦ None | false ↦ option_map report_of r.report ]) e
        unreported r is false e = ap (λ v. elim v as (λ _. Option (List ℕ × Finding)) [ true ↦ None | false ↦ option_map report_of r.report ]) e ∙ is

        by : news rest ≡ tail → (o : Option Reviewed) → Reviews m found q o → (b : Option (List ℕ × Finding)) → broken m q ≡ b
            → filter_map news_of (cons_option o rest) ≡ newly_broken before (cons_option b (filter_map (broken m) ps))
        by again None same None e = again
        by again None same (Some x) e =
            let reported : is_reported before x.0 ≡ true = was x.0 ∙ ap (λ n. is_some (found n)) (report_named m q x e) ∙ ap is_some (same ∙ e) in
            again ∙ ap (λ v. cond (not v) (x ∷ tail) tail) (sym reported)
        by again (Some r) looked None e = ap (λ z. cons_option z (news rest)) (unreported r (looked.report ∙ e) r.was_broken refl) ∙ again
        by again (Some r) looked (Some x) e =
            chosen again r x (looked.report ∙ e) r.was_broken refl
            (was x.0 ∙ ap (λ n. is_some (found n)) (report_named m q x e ∙ name_is q r.name looked.name) ∙ sym looked.was)

    -- **Those are mended that had a report and have none.**
    pub mends_are : (after : Reports) (ps : List Premise) → ((p : Premise) → In p ps → is_reported after (name_of p) ≡ is_some (broken m p))
        → (rs : List Reviewed) → AreReviewed m found ps rs → mends rs ≡ mended before after ps
    mends_are after [] now rs none = ap mends none
    mends_are after (q ∷ ps) now rs (o, rest, made, one, more) = ap mends made ∙ by (mends_are after ps (λ p at. now p (inr at)) rest more) o one (protection_name q) refl
      where
        tail : List (List ℕ)
        tail = mended before after ps

        never : (b : Bool) → (b && not b) ≡ false
        never true = refl
        never false = refl

        told : mends rest ≡ tail → (b : Bool) (name : List ℕ) → cons_option (name_if b name) (mends rest) ≡ cond b (name ∷ tail) tail
        told again true name = ap (λ l. name ∷ l) again
        told again false name = again

        seen : (o : Option Report) → is_some (option_map report_of o) ≡ is_some o
        seen None = refl
        seen (Some r) = refl

        by : mends rest ≡ tail → (o : Option Reviewed) → Reviews m found q o → (name : Option (List ℕ)) → protection_name q ≡ name
            → filter_map mends_of (cons_option o rest) ≡ filter (is_mended before after) (cons_option name (filter_map protection_name ps))
        by again None same None e = again
        by again None same (Some name) e =
            let named = name_is q name e in
            let first : is_reported before name ≡ is_some (broken m q) = was name ∙ ap (λ n. is_some (found n)) (sym named) ∙ ap is_some same in
            let second : is_reported after name ≡ is_some (broken m q) = ap (is_reported after) (sym named) ∙ now q (inl refl) in
            let not_mended : is_mended before after name ≡ false = (λ i. first i && not (second i)) ∙ never (is_some (broken m q)) in
            again ∙ ap (λ b. cond b (name ∷ tail) tail) (sym not_mended)
        by again (Some r) looked None e = let wrong : None ≡ Some r.name = sym e ∙ looked.name in cc
        by again (Some r) looked (Some name) e =
            let both : Some name ≡ Some r.name = sym e ∙ looked.name in
            let same : name ≡ r.name = cc in
            let named = name_is q r.name looked.name in
            let first : is_reported before r.name ≡ r.was_broken = was r.name ∙ sym looked.was in
            let second : is_reported after r.name ≡ is_some r.report =
            ap (is_reported after) (sym named) ∙ now q (inl refl) ∙ ap is_some (sym looked.report) ∙ seen r.report in
            let mended_is : (r.was_broken && is_none r.report) ≡ is_mended before after r.name = λ i. sym first i && not (sym second i) in
            told again (r.was_broken && is_none r.report) r.name
            ∙ ap (λ b. cond b (r.name ∷ tail) tail) mended_is
            ∙ ap (λ n. filter (is_mended before after) (n ∷ filter_map protection_name ps)) (sym same)
