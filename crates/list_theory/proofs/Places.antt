-- Points and constraints of a list of premises, and the names that they are declared by.
use Rattle.std.proofs.Common.{◌≡◌, ◌≢◌, ◌⊎◌, inl, inr, ◌∙◌, ℕ, ◌*◌, ◌≤◌, ◌||◌, Bool, true, false, cond, List, [], ◌∷◌, ◌++◌, map, length, length-append, append-nil, Option, Some, None, ap, sym, subst, arith, refl, codes}
use Rattle.std.specs.List.{Contains, flat_map, list_any}
use Rattle.std.specs.Map.{lookup}
use Rattle.std.proofs.lemmas.Bool.{false≢true}
use Rattle.std.proofs.lemmas.Grind.{flat_map-append}
use Rattle.std.proofs.lemmas.List.{map-append}
use Rattle.std.proofs.lemmas.List.Folds.{list_any-append}
use Rattle.std.proofs.Math.Bool.{or-true}
use Rattle.std.proofs.lemmas.List.Elements.{Contains-append_left, Contains-append_right, Contains-append_cases}
use Rattle.tmm_model.specs.declared.bound.Bound.{Bound}
use Rattle.tmm_model.specs.declared.bound.Bound.TheVariants.{Finite, Free}
use Rattle.tmm_model.specs.declared.point.PointName.{PointName}
use Rattle.tmm_model.specs.declared.point.PointName.TheVariants.{Start, Begin, End}
use Rattle.tmm_model.specs.declared.premise.Premise.{Premise}
use Rattle.tmm_model.specs.declared.premise.Premise.TheVariants.{Class, Kind, Point, Event, Token, Span, Dist, Rule, Protect, Against}
use Rattle.tmm_model.specs.Points.{same_name}
use Rattle.tmm_model.specs.Standing.{name_of, points_of, points_in, arcs_of, arcs_in}
use Rattle.tmm_model.specs.Sorts.{Sort, a_class, a_fact, a_kind, a_point, an_event, a_token, a_span, a_dist, a_rule, a_protection, a_rivalry, is_place, fact_declaration, declarations_of, declarations_in, sort_in, declared_by}
use Rattle.tmm_model.specs.Verdicts.{Cause, unknown, ill_sorted, place_cause, name_cause, end_cause, first_taken, words_known}
use Rattle.walk_theory.proofs.Members.{Contains-cons, Contains-cons_first, Contains-cons_cases}
use Rattle.walk_theory.proofs.Points.{same_name-is, same_name-self}
use Rattle.list_theory.proofs.WellNamed.{first_taken-none}

-- ---- one premise more

pub arcs_in-push : (ps : List Premise) (p : Premise) → arcs_in (ps ++ p ∷ []) ≡ arcs_in ps ++ arcs_of p
arcs_in-push ps p = flat_map-append arcs_of ps (p ∷ []) ∙ ap (λ l. arcs_in ps ++ l) (append-nil (arcs_of p))

length-arcs_of_dist : (name : List ℕ) (from to : PointName) (lo hi : Bound) → length (arcs_of (Dist name from to lo hi)) ≤ 2
length-arcs_of_dist name from to (Finite lo) (Finite hi) = omega arith
length-arcs_of_dist name from to (Finite lo) Free = omega arith
length-arcs_of_dist name from to Free (Finite hi) = omega arith
length-arcs_of_dist name from to Free Free = omega arith

-- a premise has at most two constraints
pub length-arcs_of-le : (p : Premise) → length (arcs_of p) ≤ 2
length-arcs_of-le (Class name facts) = omega arith
length-arcs_of-le (Kind name) = omega arith
length-arcs_of-le (Point name) = omega arith
length-arcs_of-le (Event name kind) = omega arith
length-arcs_of-le (Token name fact) = omega arith
length-arcs_of-le (Span name fact) = omega arith
length-arcs_of-le (Dist name from to lo hi) = length-arcs_of_dist name from to lo hi
length-arcs_of-le (Rule name trigger lo hi effect given unless_facts) = omega arith
length-arcs_of-le (Protect name fact from to) = omega arith
length-arcs_of-le (Against name one other) = omega arith

pub length-arcs_in-le : (ps : List Premise) → length (arcs_in ps) ≤ 2 * length ps
length-arcs_in-le [] = omega arith
length-arcs_in-le (p ∷ ps) = omega (arith, length-append (arcs_of p) (arcs_in ps), length-arcs_of-le p, length-arcs_in-le ps)

-- ---- points and the names that they are declared by

-- the name of a declared point
abbrev pub base_name : PointName → List ℕ
base_name Start = codes "start"
base_name (Begin name) = name
base_name (End name) = name

-- a name of this sort has its points among these
abbrev HasPoints : List PointName → List ℕ → Sort → Type 0
HasPoints points k a_point = Contains points (Begin k)
HasPoints points k an_event = Contains points (Begin k)
HasPoints points k a_token = Contains points (Begin k)
HasPoints points k a_span = Contains points (Begin k) × Contains points (End k)
HasPoints points k _ = Unit {0}

HasPoints-more : (old new : List PointName) → ((q : PointName) → Contains old q → Contains new q) → (k : List ℕ) (sort : Sort) → HasPoints old k sort → HasPoints new k sort
HasPoints-more old new sub k a_point h = sub (Begin k) h
HasPoints-more old new sub k an_event h = sub (Begin k) h
HasPoints-more old new sub k a_token h = sub (Begin k) h
HasPoints-more old new sub k a_span h = (sub (Begin k) h.0, sub (End k) h.1)
HasPoints-more old new sub k a_class h = tt
HasPoints-more old new sub k a_fact h = tt
HasPoints-more old new sub k a_kind h = tt
HasPoints-more old new sub k a_dist h = tt
HasPoints-more old new sub k a_rule h = tt
HasPoints-more old new sub k a_protection h = tt
HasPoints-more old new sub k a_rivalry h = tt

-- the first entry is what is looked up, or a later one is
lookup-cons : (k name : List ℕ) (s sort : Sort) (entries : List (List ℕ × Sort)) → lookup (same_name k) ((name, s) ∷ entries) ≡ Some sort
    → ((k ≡ name) × (s ≡ sort)) ⊎ (lookup (same_name k) entries ≡ Some sort)
lookup-cons k name s sort entries = by (same_name k name) refl
  where
    by : (b : Bool) → same_name k name ≡ b → cond b (Some s) (lookup (same_name k) entries) ≡ Some sort → ((k ≡ name) × (s ≡ sort)) ⊎ (lookup (same_name k) entries ≡ Some sort)
    by true e found = inl (same_name-is k name e, (let f : s ≡ sort = cc in f))
    by false e found = inr found

lookup-append : (k : List ℕ) (sort : Sort) (xs ys : List (List ℕ × Sort)) → lookup (same_name k) (xs ++ ys) ≡ Some sort
    → (lookup (same_name k) xs ≡ Some sort) ⊎ (lookup (same_name k) ys ≡ Some sort)
lookup-append k sort [] ys found = inr found
lookup-append k sort (x ∷ xs) ys found = by (λ f. lookup-append k sort xs ys f) (same_name k x.0) refl found
  where
    by : (lookup (same_name k) (xs ++ ys) ≡ Some sort → (lookup (same_name k) xs ≡ Some sort) ⊎ (lookup (same_name k) ys ≡ Some sort))
        → (b : Bool) → same_name k x.0 ≡ b → cond b (Some x.1) (lookup (same_name k) (xs ++ ys)) ≡ Some sort
        → (lookup (same_name k) (x ∷ xs) ≡ Some sort) ⊎ (lookup (same_name k) ys ≡ Some sort)
    by rest true e f = inl (ap (λ b. cond b (Some x.1) (lookup (same_name k) xs)) e ∙ f)
    by rest false e f = elim (rest f) [
      | inl here ↦ inl (ap (λ b. cond b (Some x.1) (lookup (same_name k) xs)) e ∙ here)
      | inr later ↦ inr later
    ]

-- facts are no points
facts_have_none : (points : List PointName) (k : List ℕ) (facts : List (List ℕ)) (sort : Sort) → lookup (same_name k) (map fact_declaration facts) ≡ Some sort → HasPoints points k sort
facts_have_none points k [] sort found = absurd (cc (found))
facts_have_none points k (f ∷ facts) sort found = elim (lookup-cons k f a_fact sort (map fact_declaration facts) found) [
  | inl here ↦ subst (HasPoints points k) here.1 tt
  | inr later ↦ facts_have_none points k facts sort later
]

-- a premise with one declaration
one_has : (points : List PointName) (k name : List ℕ) (s sort : Sort) → HasPoints points name s → lookup (same_name k) ((name, s) ∷ []) ≡ Some sort → HasPoints points k sort
one_has points k name s sort has found = elim (lookup-cons k name s sort [] found) [
  | inl here ↦ subst (HasPoints points k) here.1 (subst (λ (n : List ℕ). HasPoints points n s) (sym here.0) has)
  | inr later ↦ absurd (cc (later))
]

has_points : (p : Premise) (k : List ℕ) (sort : Sort) → lookup (same_name k) (declarations_of p) ≡ Some sort → HasPoints (points_of p) k sort
has_points (Class name facts) k sort found = elim (lookup-cons k name a_class sort (map fact_declaration facts.items) found) [
  | inl here ↦ subst (HasPoints [] k) here.1 tt
  | inr later ↦ facts_have_none [] k facts.items sort later
]
has_points (Kind name) k sort found = one_has [] k name a_kind sort tt found
has_points (Point name) k sort found = one_has (Begin name ∷ []) k name a_point sort (Contains-cons_first (Begin name) []) found
has_points (Event name kind) k sort found = one_has (Begin name ∷ []) k name an_event sort (Contains-cons_first (Begin name) []) found
has_points (Token name fact) k sort found = one_has (Begin name ∷ []) k name a_token sort (Contains-cons_first (Begin name) []) found
has_points (Span name fact) k sort found =
    one_has (Begin name ∷ End name ∷ []) k name a_span sort
    (Contains-cons_first (Begin name) (End name ∷ []), Contains-cons (Begin name) (End name ∷ []) (End name) (Contains-cons_first (End name) [])) found
has_points (Dist name from to lo hi) k sort found = one_has [] k name a_dist sort tt found
has_points (Rule name trigger lo hi effect given unless_facts) k sort found = one_has [] k name a_rule sort tt found
has_points (Protect name fact from to) k sort found = one_has [] k name a_protection sort tt found
has_points (Against name one other) k sort found = one_has [] k name a_rivalry sort tt found

have_points : (ps : List Premise) (k : List ℕ) (sort : Sort) → lookup (same_name k) (declarations_in ps) ≡ Some sort → HasPoints (flat_map points_of ps) k sort
have_points [] k sort found = absurd (cc (found))
have_points (p ∷ ps) k sort found = elim (lookup-append k sort (declarations_of p) (declarations_in ps) found) [
  | inl here ↦ HasPoints-more (points_of p) (flat_map points_of (p ∷ ps)) (λ q m. Contains-append_left (points_of p) (flat_map points_of ps) q m) k sort (has_points p k sort here)
  | inr later ↦ HasPoints-more (flat_map points_of ps) (flat_map points_of (p ∷ ps)) (λ q m. Contains-append_right (points_of p) (flat_map points_of ps) q m) k sort (have_points ps k sort later)
]

-- what begins at a point has it
begins : (points : List PointName) (k : List ℕ) (sort : Sort) → is_place sort ≡ true → HasPoints points k sort → Contains points (Begin k)
begins points k a_point place has = has
begins points k an_event place has = has
begins points k a_token place has = has
begins points k a_span place has = has.0
begins points k a_class place has = absurd (cc (place))
begins points k a_fact place has = absurd (cc (place))
begins points k a_kind place has = absurd (cc (place))
begins points k a_dist place has = absurd (cc (place))
begins points k a_rule place has = absurd (cc (place))
begins points k a_protection place has = absurd (cc (place))
begins points k a_rivalry place has = absurd (cc (place))

name_known : (points : List PointName) (k : List ℕ) (o : Option Sort) → name_cause o k is_place ≡ None → ((sort : Sort) → o ≡ Some sort → HasPoints points k sort) → Contains points (Begin k)
name_known points k None none has = by (same_name k (codes "start")) none
  where
    by : (b : Bool) → elim b as (λ _. Option Cause) [ true ↦ Some (ill_sorted k) | false ↦ Some (unknown k) ] ≡ None → Contains points (Begin k)
    by true e = absurd (cc (e))
    by false e = absurd (cc (e))
name_known points k (Some sort) none has = begins points k sort (by (is_place sort) none) (has sort refl)
  where
    by : (b : Bool) → elim b as (λ _. Option Cause) [ true ↦ None | false ↦ Some (ill_sorted k) ] ≡ None → b ≡ true
    by true e = refl
    by false e = absurd (cc (e))

end_known : (points : List PointName) (k word : List ℕ) (o : Option Sort) → end_cause o word ≡ None → ((sort : Sort) → o ≡ Some sort → HasPoints points k sort) → Contains points (End k)
end_known points k word None none has = absurd (cc (none))
end_known points k word (Some a_span) none has = (has a_span refl).1
end_known points k word (Some a_class) none has = absurd (cc (none))
end_known points k word (Some a_fact) none has = absurd (cc (none))
end_known points k word (Some a_kind) none has = absurd (cc (none))
end_known points k word (Some a_point) none has = absurd (cc (none))
end_known points k word (Some an_event) none has = absurd (cc (none))
end_known points k word (Some a_token) none has = absurd (cc (none))
end_known points k word (Some a_dist) none has = absurd (cc (none))
end_known points k word (Some a_rule) none has = absurd (cc (none))
end_known points k word (Some a_protection) none has = absurd (cc (none))
end_known points k word (Some a_rivalry) none has = absurd (cc (none))

-- **A point that has no cause against it is there.**
pub place_known : (ps : List Premise) (p : PointName) → place_cause ps p ≡ None → Contains (points_in ps) p
place_known ps Start none = Contains-cons_first Start (flat_map points_of ps)
place_known ps (Begin k) none = Contains-cons Start (flat_map points_of ps) (Begin k) (name_known (flat_map points_of ps) k (sort_in ps k) none (have_points ps k))
place_known ps (End k) none = Contains-cons Start (flat_map points_of ps) (End k) (end_known (flat_map points_of ps) k (k ++ codes ".end") (sort_in ps k) none (have_points ps k))

-- ---- new points

begin_name : (name : List ℕ) (q : PointName) → Contains (Begin name ∷ []) q → (base_name q ≡ name) × (q ≢ Start)
begin_name name q m = elim (Contains-cons_cases (Begin name) [] q m) [
  | inl none ↦ absurd (omega (arith, none.1))
  | inr is ↦ (ap base_name is, λ at_start. (let e : Begin name ≡ Start = sym is ∙ at_start in cc e))
]

-- a point of a premise has its name, and is not `start`
point_name : (p : Premise) (q : PointName) → Contains (points_of p) q → (base_name q ≡ name_of p) × (q ≢ Start)
point_name (Class name facts) q m = absurd (omega (arith, m.1))
point_name (Kind name) q m = absurd (omega (arith, m.1))
point_name (Point name) q m = begin_name name q m
point_name (Event name kind) q m = begin_name name q m
point_name (Token name fact) q m = begin_name name q m
point_name (Span name fact) q m = elim (Contains-cons_cases (Begin name) (End name ∷ []) q m) [
  | inl last ↦ elim (Contains-cons_cases (End name) [] q last) [
    | inl none ↦ absurd (omega (arith, none.1))
    | inr is ↦ (ap base_name is, λ at_start. (let e : End name ≡ Start = sym is ∙ at_start in cc e))
  ]
  | inr is ↦ (ap base_name is, λ at_start. (let e : Begin name ≡ Start = sym is ∙ at_start in cc e))
]
point_name (Dist name from to lo hi) q m = absurd (omega (arith, m.1))
point_name (Rule name trigger lo hi effect given unless_facts) q m = absurd (omega (arith, m.1))
point_name (Protect name fact from to) q m = absurd (omega (arith, m.1))
point_name (Against name one other) q m = absurd (omega (arith, m.1))

-- the first name that a premise declares is its own
pub first_declared : (p : Premise) → (rest : List (List ℕ)) × (declared_by p ≡ name_of p ∷ rest)
first_declared (Class name facts) = (map (λ d. d.0) (map fact_declaration facts.items), refl)
first_declared (Kind name) = ([], refl)
first_declared (Point name) = ([], refl)
first_declared (Event name kind) = ([], refl)
first_declared (Token name fact) = ([], refl)
first_declared (Span name fact) = ([], refl)
first_declared (Dist name from to lo hi) = ([], refl)
first_declared (Rule name trigger lo hi effect given unless_facts) = ([], refl)
first_declared (Protect name fact from to) = ([], refl)
first_declared (Against name one other) = ([], refl)

list_any-here : (w : List ℕ) (ws more : List (List ℕ)) → list_any (same_name w) ((w ∷ ws) ++ more) ≡ true
list_any-here w ws more = ap (λ b. b || list_any (same_name w) (ws ++ more)) (same_name-self w)

-- the name of a point that is there is known
point_is_known : (ps : List Premise) (q : PointName) → Contains (flat_map points_of ps) q → list_any (same_name (base_name q)) (words_known ps) ≡ true
point_is_known [] q m = absurd (omega (arith, m.1))
point_is_known (p ∷ ps) q m =
    let parts : words_known (p ∷ ps) ≡ declared_by p ++ words_known ps = map-append (λ d. d.0) (declarations_of p) (declarations_in ps) in
    ap (list_any (same_name (base_name q))) parts
    ∙ (elim (Contains-append_cases (points_of p) (flat_map points_of ps) q m) [
      | inl here ↦ (let d = first_declared p in
          ap (λ (n : List ℕ). list_any (same_name n) (declared_by p ++ words_known ps)) (point_name p q here).0
          ∙ ap (λ (l : List (List ℕ)). list_any (same_name (name_of p)) (l ++ words_known ps)) d.1
          ∙ list_any-here (name_of p) d.0 (words_known ps))
      | inr later ↦ list_any-append (same_name (base_name q)) (declared_by p) (words_known ps)
          ∙ ap (λ b. list_any (same_name (base_name q)) (declared_by p) || b) (point_is_known ps q later) ∙ or-true (list_any (same_name (base_name q)) (declared_by p))
    ])

-- **The points of a premise whose names are new are new.**
pub points_new : (ps : List Premise) (p : Premise) → first_taken (words_known ps) (declared_by p) ≡ None → (q : PointName) → Contains (points_of p) q → Contains (points_in ps) q → ⊥
points_new ps p none q m there =
    let d = first_declared p in
    let named = point_name p q m in
    let new : list_any (same_name (name_of p)) (words_known ps) ≡ false =
    (first_taken-none (words_known ps) (name_of p) d.0 (subst (λ (l : List (List ℕ)). first_taken (words_known ps) l ≡ None) d.1 none)).new in
    elim (Contains-cons_cases Start (flat_map points_of ps) q there) [
      | inl later ↦ (let known : list_any (same_name (name_of p)) (words_known ps) ≡ true =
          subst (λ (n : List ℕ). list_any (same_name n) (words_known ps) ≡ true) named.0 (point_is_known ps q later) in
          false≢true (sym new ∙ known))
      | inr is ↦ named.1 is
    ]
