-- A network that stands for points and constraints, with one point or some constraints more.
use Rattle.std.proofs.Common.{◌≡◌, ◌≢◌, ◌⊎◌, inl, inr, ◌∙◌, ℕ, zero, suc, cond, ◌+◌, ◌<◌, List, [], ◌∷◌, ◌++◌, map, length, set, get_or, length-append, Option, Some, None, ap, sym, subst, arith, refl, unwrap_or, get_or-set_other, get_or-set_same}
use Rattle.std.specs.List.{Contains, count_by}
use Rattle.std.specs.Option.{is_some}
use Rattle.std.proofs.lemmas.Bool.Decides.{eqb_tells}
use Rattle.std.proofs.lemmas.List.{map-append, length-map}
use Rattle.std.proofs.lemmas.List.Sums.{sum_by-cons}
use Rattle.std.proofs.lemmas.List.Elements.{Contains-append_cases, Contains-append_left, Contains-append_right, Contains-push_cases, Contains-push}
use Rattle.tmm_model.specs.declared.point.PointName.{PointName}
use Rattle.tmm_model.specs.declared.point.PointName.TheVariants.{Start}
use Rattle.tmm_model.specs.Walks.{Arc}
use Rattle.walk_theory.specs.LeastWalks.{renamed}
use Rattle.walk_theory.proofs.Members.{Contains-cons, Contains-cons_first}
use Rattle.net_theory.specs.Represents.{Names, IsNumberOf, name_at, Represents}
use Rattle.net_theory.proofs.Representing.{IsUsed}

-- ---- counting

count-some : (q : PointName) (names : Names) → count_by is_some (Some q ∷ names) ≡ 1 + count_by is_some names
count-some q names = sum_by-cons (λ (x : Option PointName). cond (is_some x) 1 0) (Some q) names

count-none : (names : Names) → count_by is_some (None ∷ names) ≡ count_by is_some names
count-none names = sum_by-cons (λ (x : Option PointName). cond (is_some x) 1 0) None names ∙ omega arith

-- one more is in use
pub count-set : (names : Names) (n : ℕ) (p : PointName) → n < length names → get_or names n None ≡ None → count_by is_some (set names n (Some p)) ≡ 1 + count_by is_some names
count-set [] n p short free = absurd (omega arith)
count-set (None ∷ names) zero p short free = count-some p names ∙ ap (λ k. 1 + k) (sym (count-none names))
count-set (Some q ∷ names) zero p short free = absurd (cc (free))
count-set (None ∷ names) (suc n) p short free =
    count-none (set names n (Some p)) ∙ count-set names n p (omega arith) free ∙ ap (λ k. 1 + k) (sym (count-none names))
count-set (Some q ∷ names) (suc n) p short free =
    count-some q (set names n (Some p)) ∙ ap (λ k. 1 + k) (count-set names n p (omega arith) free ∙ sym (count-some q names))

-- ---- other names

-- constraints whose points keep their names
map-agrees : (f g : ℕ → PointName) (arcs : List (Arc ℕ)) → ((e : Arc ℕ) → Contains arcs e → (f e.from ≡ g e.from) × (f e.to ≡ g e.to)) → map (renamed f) arcs ≡ map (renamed g) arcs
map-agrees f g [] agree = refl
map-agrees f g (e ∷ arcs) agree =
    let here : (f e.from ≡ g e.from) × (f e.to ≡ g e.to) = agree e (Contains-cons_first e arcs) in
    let rest : map (renamed f) arcs ≡ map (renamed g) arcs = map-agrees f g arcs (λ x m. agree x (Contains-cons e arcs x m)) in
    let same : renamed f e ≡ renamed g e = λ i. record { from = here.0 i; to = here.1 i; weight = e.weight } in
    λ i. same i ∷ rest i

module _ (names : Names) (n : ℕ) (p : PointName) (short : n < length names) (free : get_or names n None ≡ None) where
  used_is_other : (k : ℕ) → IsUsed names k → k ≢ n
  used_is_other k used same = let e : get_or names n None ≡ Some used.0 = ap (λ (i : ℕ). get_or names i None) (sym same) ∙ used.1 in cc

  -- a number in use keeps its point
  pub IsNumberOf-kept : (k : ℕ) (q : PointName) → IsNumberOf names k q → IsNumberOf (set names n (Some p)) k q
  IsNumberOf-kept k q is = get_or-set_other names n k (Some p) None (used_is_other k (q, is)) ∙ is

  -- a number in use was that before, or is the new one
  IsNumberOf-cases : (k : ℕ) (q : PointName) → IsNumberOf (set names n (Some p)) k q → IsNumberOf names k q ⊎ (p ≡ q)
  IsNumberOf-cases k q is = elim (eqb_tells k n) [
    | inl same ↦ inr (let e : Some p ≡ Some q = sym (get_or-set_same names n (Some p) None short) ∙ ap (λ (i : ℕ). get_or (set names n (Some p)) i None) (sym same.1) ∙ is in cc)
    | inr other ↦ inl (sym (get_or-set_other names n k (Some p) None other.1) ∙ is)
  ]

  -- **One point more.**
  pub Represents-point : (points : List PointName) (named_arcs : List (Arc PointName)) (arcs : List (Arc ℕ)) → Represents points named_arcs names arcs
      → ((e : Arc ℕ) → Contains arcs e → IsUsed names e.from × IsUsed names e.to)
      → Represents (points ++ p ∷ []) named_arcs (set names n (Some p)) arcs
  Represents-point points named_arcs arcs stands ends =
      let same : map (renamed (name_at (set names n (Some p)))) arcs ≡ map (renamed (name_at names)) arcs =
      map-agrees (name_at (set names n (Some p))) (name_at names) arcs
      (λ e m. (let used = ends e m in (
        ap (λ o. unwrap_or o Start) (get_or-set_other names n e.from (Some p) None (used_is_other e.from used.0)),
        ap (λ o. unwrap_or o Start) (get_or-set_other names n e.to (Some p) None (used_is_other e.to used.1)),
      ))) in record {
        numbered = λ q m. elim (Contains-push_cases points p q m) [
          | inl k ↦ (let r = stands.numbered q k in (r.0, IsNumberOf-kept r.0 q r.1))
          | inr is ↦ (n, get_or-set_same names n (Some p) None short ∙ ap (λ (x : PointName). Some x) is)
        ];
        named = λ k q is. elim (IsNumberOf-cases k q is) [
          | inl before ↦ Contains-append_left points (p ∷ []) q (stands.named k q before)
          | inr new ↦ subst (Contains (points ++ p ∷ [])) new (Contains-push points p)
        ];
        count = count-set names n p short free ∙ ap (λ k. 1 + k) stands.count ∙ (omega (arith, length-append points (p ∷ [])));
        there = λ e m. subst (λ (l : List (Arc PointName)). Contains l e) (sym same) (stands.there e m);
        only = λ e m. stands.only e (subst (λ (l : List (Arc PointName)). Contains l e) same m);
        arcs_count = stands.arcs_count;
      }

-- **Some constraints more.**
pub Represents-arcs : (points : List PointName) (named_arcs more_named : List (Arc PointName)) (names : Names) (arcs more : List (Arc ℕ)) → Represents points named_arcs names arcs
    → map (renamed (name_at names)) more ≡ more_named → Represents points (named_arcs ++ more_named) names (arcs ++ more)
Represents-arcs points named_arcs more_named names arcs more stands e =
    let parts : map (renamed (name_at names)) (arcs ++ more) ≡ map (renamed (name_at names)) arcs ++ more_named =
    map-append (renamed (name_at names)) arcs more ∙ ap (λ l. map (renamed (name_at names)) arcs ++ l) e in record {
      numbered = stands.numbered;
      named = stands.named;
      count = stands.count;
      there = λ x m. subst (λ (l : List (Arc PointName)). Contains l x) (sym parts)
          (elim (Contains-append_cases named_arcs more_named x m) [
            | inl k ↦ Contains-append_left (map (renamed (name_at names)) arcs) more_named x (stands.there x k)
            | inr k ↦ Contains-append_right (map (renamed (name_at names)) arcs) more_named x k
          ]);
      only = λ x m.
          (elim (Contains-append_cases (map (renamed (name_at names)) arcs) more_named x (subst (λ (l : List (Arc PointName)). Contains l x) parts m)) [
            | inl k ↦ Contains-append_left named_arcs more_named x (stands.only x k)
            | inr k ↦ Contains-append_right named_arcs more_named x k
          ]);
      arcs_count = omega (arith, length-append arcs more, length-append named_arcs more_named, stands.arcs_count, length-map more (renamed (name_at names)), ap length e);
    }
