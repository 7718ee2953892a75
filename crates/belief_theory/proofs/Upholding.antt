-- What an occurrence rests on, found by tests.
use Rattle.std.proofs.Common.{◌≡◌, ℕ, zero, suc, Bool, true, ◌||◌, List, refl, sym, subst, inl, inr, Contains}
use Rattle.std.proofs.lemmas.Bool.{or_cases}
use Rattle.std.specs.Prelude.{◌↔◌, ◌⊎◌}
use Rattle.std.specs.List.{list_any, list_all}
use Rattle.tmm_model.specs.Maps.{TimeMap, is_among}
use Rattle.tmm_model.specs.Moments.{Moment, same_moment}
use Rattle.tmm_model.specs.Reasons.{rests_on, Upholds, itself, through}
use Rattle.list_theory.proofs.Elements.{In-from_Contains, Contains-from_In, list_any-In, In-list_any, list_all-In}
use Rattle.belief_theory.proofs.Moments.{Decides-same_moment}

-- x is o, or what it rests on by at most n steps
abbrev pub reaches : TimeMap → ℕ → Moment → Moment → Bool
reaches m zero o x = same_moment o x
reaches m (suc n) o x = same_moment o x || list_any (λ y. reaches m n y x) (rests_on m o)

-- all that the occurrences rest on is among them
abbrev pub is_closed : TimeMap → List Moment → Bool
is_closed m occs = list_all (λ y. list_all (is_among occs) (rests_on m y)) occs

pub among : (xs : List Moment) (x : Moment) → is_among xs x ≡ true → Contains xs x
among xs x e =
    let (y, at, is) = list_any-In (same_moment x) xs e in
    subst (Contains xs) (sym ((Decides-same_moment x y).0 is)) (Contains-from_In xs y at)

pub is_among-Contains : (xs : List Moment) (x : Moment) → Contains xs x → is_among xs x ≡ true
is_among-Contains xs x at = In-list_any (same_moment x) xs x (In-from_Contains xs x at) ((Decides-same_moment x x).1 refl)

upheld : (m : TimeMap) (n : ℕ) (o x : Moment) → reaches m n o x ≡ true → Upholds m o x
upheld m zero o x e = subst (Upholds m o) ((Decides-same_moment o x).0 e) itself
upheld m (suc n) o x e = by (λ y. upheld m n y x) (or_cases (same_moment o x) (list_any (λ y. reaches m n y x) (rests_on m o)) e)
  where
    by : ((y : Moment) → reaches m n y x ≡ true → Upholds m y x) → (same_moment o x ≡ true) ⊎ (list_any (λ y. reaches m n y x) (rests_on m o) ≡ true) → Upholds m o x
    by again (inl is) = subst (Upholds m o) ((Decides-same_moment o x).0 is) itself
    by again (inr h) = let (y, at, r) = list_any-In (λ y. reaches m n y x) (rests_on m o) h in through (Contains-from_In (rests_on m o) y at) (again y r)

-- what an upholder rests on upholds as well
pub further : (m : TimeMap) (o y x : Moment) → Upholds m o y → Contains (rests_on m y) x → Upholds m o x
further m o y x itself step = through step itself
further m o y x (through first rest) step = through first (further m _ y x rest step)

stays : (m : TimeMap) (occs : List Moment) → is_closed m occs ≡ true → (o x : Moment) → Upholds m o x → Contains occs o → Contains occs x
stays m occs closed o x itself at = at
stays m occs closed o x (through {y = y} step rest) at =
    let inside : list_all (is_among occs) (rests_on m o) ≡ true = list_all-In (λ y. list_all (is_among occs) (rests_on m y)) occs closed o (In-from_Contains occs o at) in
    stays m occs closed y x rest (among occs y (list_all-In (is_among occs) (rests_on m o) inside y (In-from_Contains (rests_on m o) y step)))

-- **A list with o, all that its members rest on, and nothing else.**
pub all_upheld : (m : TimeMap) (n : ℕ) (o : Moment) (occs : List Moment) → is_among occs o ≡ true → is_closed m occs ≡ true → list_all (reaches m n o) occs ≡ true → (x : Moment) → Contains occs x ↔ Upholds m o x
all_upheld m n o occs has closed reached x = (
  (λ at. upheld m n o x (list_all-In (reaches m n o) occs reached x (In-from_Contains occs x at))),
  (λ h. stays m occs closed o x h (among occs o has)),
)
