-- The numbers of points under their names.
use Rattle.std.proofs.Common.{◌≡◌, ◌≢◌, ◌∙◌, inl, inr, ℕ, ◌+◌, ◌<◌, ◌≤◌, cond, List, get_or, set, Option, Some, None, ap, sym, subst, refl, arith, length, get_or-set_other}
use Rattle.std.specs.Map.{lookup}
use Rattle.std.specs.Prelude.{Result, Ok, Err, IsOk, OnOk}
use Rattle.std.proofs.lemmas.Bool.{cases_eq}
use Rattle.std.proofs.lemmas.List.{get_or_past}
use Rattle.tmm_model.specs.declared.point.PointName.{PointName}
use Rattle.tmm_model.specs.declared.point.PointName.TheVariants.{Start, Begin, End}
use Rattle.tmm_model.specs.Points.{same_point}
use Rattle.walk_theory.proofs.Points.{Decides-same_point, tells, same_point-self}
use Rattle.tmm_model.specs.contracts.point.PointNamePartialEq.TheImpl as derived
use Rattle.dist_net.specs.Index.{AreIndexed, IsIndexed, IsNoted}
use Rattle.dist_net.specs.Net.{AreDistinct, start_alone}
use Rattle.dist_net.proofs.Names.{apart_none, only_start}
use Rattle.dist_net.proofs.Points.{still_at}

some_same : {A : Type 0} (x y : A) → Some x ≡ Some y → x ≡ y
some_same x y e = cc

pub on_ok : {T E P : Type 0} (r : Result T E) → IsOk r → OnOk r P → P
on_ok (Ok x) ok p = p
on_ok (Err e) ok p = cc

-- ---- the test by which the index tells names apart

same_at : (p q : PointName) → derived.eq-value.it p q ≡ same_point p q
same_at Start Start = refl
same_at Start (Begin b) = refl
same_at Start (End b) = refl
same_at (Begin a) Start = refl
same_at (Begin a) (Begin b) = refl
same_at (Begin a) (End b) = refl
same_at (End a) Start = refl
same_at (End a) (Begin b) = refl
same_at (End a) (End b) = refl

pub is_same : derived.eq-value.it ≡ same_point
is_same i p q = same_at p q i

-- ---- one name noted

module _ (old : List (PointName × ℕ)) (name : PointName) (p : ℕ) (new : List (PointName × ℕ)) (noted : IsNoted old name p new) where
  -- the number stands under the name
  pub noted_there : lookup (same_point name) new ≡ Some p
  noted_there = noted name ∙ ap (λ b. cond b (Some p) (lookup (same_point name) old)) (same_point-self name)

  -- another name stays
  noted_other : (q : PointName) → name ≢ q → lookup (same_point q) new ≡ lookup (same_point q) old
  noted_other q other = elim (tells same_point Decides-same_point name q) [
    | inl same ↦ absurd (other same.1)
    | inr apart ↦ noted q ∙ ap (λ b. cond b (Some p) (lookup (same_point q) old)) apart.0
  ]

  module _ (names : List (Option PointName)) (at : get_or names p None ≡ Some name) where
    -- the number is indexed
    pub IsIndexed-noted : IsIndexed names new p
    IsIndexed-noted other at_other = ap (λ q. lookup (same_point q) new) (some_same other name (sym at_other ∙ at)) ∙ noted_there

    -- and each that was
    pub IsIndexed-kept : AreDistinct names → (q : ℕ) → IsIndexed names old q → IsIndexed names new q
    IsIndexed-kept distinct q was other at_other = elim (cases_eq q p) [
      | inl same ↦ subst (IsIndexed names new) (sym same) IsIndexed-noted other at_other
      | inr apart ↦ noted_other other (λ same. apart (distinct q p other at_other (at ∙ ap Some same))) ∙ was other at_other
    ]

-- a number that is not in use is indexed
pub IsIndexed-none : (names : List (Option PointName)) (entries : List (PointName × ℕ)) (p : ℕ) → get_or names p None ≡ None → IsIndexed names entries p
IsIndexed-none names entries p none name at = absurd (apart_none name (sym none ∙ at))

-- the first `done` numbers are indexed
abbrev pub AreIndexedTo : List (Option PointName) → ℕ → List (PointName × ℕ) → Type 0
AreIndexedTo names done entries = (q : ℕ) → q < done → IsIndexed names entries q

-- the next one is noted
pub AreIndexedTo-noted : (names : List (Option PointName)) (done : ℕ) (old : List (PointName × ℕ)) (name : PointName) (new : List (PointName × ℕ)) → AreDistinct names
    → AreIndexedTo names done old → get_or names done None ≡ Some name → IsNoted old name done new → AreIndexedTo names (done + 1) new
AreIndexedTo-noted names done old name new distinct is at noted q lt = elim (cases_eq q done) [
  | inl same ↦ subst (IsIndexed names new) (sym same) (IsIndexed-noted old name done new noted names at)
  | inr other ↦ IsIndexed-kept old name done new noted names at distinct q (is q (omega (arith, other)))
]

-- the next one is not in use
pub AreIndexedTo-none : (names : List (Option PointName)) (done : ℕ) (entries : List (PointName × ℕ)) → AreIndexedTo names done entries → get_or names done None ≡ None
    → AreIndexedTo names (done + 1) entries
AreIndexedTo-none names done entries is none q lt = elim (cases_eq q done) [
  | inl same ↦ subst (IsIndexed names entries) (sym same) (IsIndexed-none names entries done none)
  | inr other ↦ is q (omega (arith, other))
]

-- the point `start` alone
pub AreIndexed-start : (entries : List (PointName × ℕ)) → lookup (same_point Start) entries ≡ Some 0 → AreIndexed start_alone.names entries
AreIndexed-start entries there p name at =
    let is : (p ≡ 0) × (name ≡ Start) = only_start p name at in
    ap (λ q. lookup (same_point q) entries) is.1 ∙ there ∙ ap Some (sym is.0)

-- ---- names that change

-- numbers from `done` on are indexed where their names are the same in both, and those below are
abbrev pub IsFollowing : List (Option PointName) → List (Option PointName) → ℕ → List (PointName × ℕ) → Type 0
IsFollowing old new done entries = (p : ℕ) → (done ≤ p → get_or old p None ≡ get_or new p None) → IsIndexed new entries p

pub IsFollowing-start : (old new : List (Option PointName)) (entries : List (PointName × ℕ)) → AreIndexed old entries → IsFollowing old new 0 entries
IsFollowing-start old new entries is p same name at = is p name (same (omega arith) ∙ at)

-- the number at hand is indexed, and all others stay so
pub IsFollowing-more : (old new : List (Option PointName)) (done : ℕ) (entries more : List (PointName × ℕ)) → IsFollowing old new done entries
    → IsIndexed new more done → ((q : ℕ) → IsIndexed new entries q → IsIndexed new more q) → IsFollowing old new (done + 1) more
IsFollowing-more old new done entries more is here others p same = elim (cases_eq p done) [
  | inl at ↦ subst (IsIndexed new more) (sym at) here
  | inr apart ↦ others p (is p (λ le. same (omega (arith, apart, le))))
]

-- past the last number no name is in use
pub IsFollowing-end : (old new : List (Option PointName)) (done : ℕ) (entries : List (PointName × ℕ)) → length old ≤ done → length new ≤ done → IsFollowing old new done entries → AreIndexed new entries
IsFollowing-end old new done entries short_old short_new is p =
    is p (λ le. get_or_past old p None (omega arith) ∙ sym (get_or_past new p None (omega arith)))

-- a name that is taken from a number, and one that is given
pub AreIndexed-dropped : (names : List (Option PointName)) (entries : List (PointName × ℕ)) (p : ℕ) → AreIndexed names entries → AreIndexed (set names p None) entries
AreIndexed-dropped names entries p is q name at = is q name (still_at names p q name at)

pub AreIndexed-named : (names : List (Option PointName)) (old new : List (PointName × ℕ)) (p : ℕ) (name : PointName) → AreIndexed names old
    → IsIndexed (set names p (Some name)) new p → ((q : ℕ) → IsIndexed (set names p (Some name)) old q → IsIndexed (set names p (Some name)) new q)
    → AreIndexed (set names p (Some name)) new
AreIndexed-named names old new p name is here others q = elim (cases_eq q p) [
  | inl same ↦ subst (IsIndexed (set names p (Some name)) new) (sym same) here
  | inr other ↦ others q (λ n at. is q n (sym (get_or-set_other names p q (Some name) None other) ∙ at))
]

pub no_number : (names : List (Option PointName)) (entries : List (PointName × ℕ)) (name : PointName) → AreIndexed names entries → lookup (same_point name) entries ≡ None
    → (k : ℕ) → get_or names k None ≢ Some name
no_number names entries name is none k at = apart_none k (sym none ∙ is k name at)
