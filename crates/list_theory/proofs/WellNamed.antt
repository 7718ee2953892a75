-- Lists of premises in which each follows those before it.
use Rattle.std.proofs.Common.{◌≡◌, ℕ, ◌≤◌, ◌*◌, Bool, true, false, ◌||◌, List, [], ◌∷◌, ◌++◌, map, length, refl, sym, ◌∙◌, ap, subst, arith, append_assoc, append-nil}
use Rattle.std.specs.Prelude.{Option, Some, None, is_some, cond}
use Rattle.std.specs.List.{flat_map, list_any}
use Rattle.std.specs.Map.{lookup, keys_of}
use Rattle.std.specs.Option.{option_or}
use Rattle.std.proofs.lemmas.Grind.{flat_map-append}
use Rattle.std.proofs.lemmas.List.{length-append, map-append}
use Rattle.std.proofs.lemmas.List.Folds.{list_any-append}
use Rattle.tmm_model.specs.declared.point.PointName.TheVariants.{Start}
use Rattle.tmm_model.specs.declared.premise.Premise.{Premise}
use Rattle.tmm_model.specs.declared.premise.Premise.TheVariants.{Class, Kind, Point, Event, Token, Span, Dist, Rule, Protect, Against}
use Rattle.tmm_model.specs.Points.{same_name}
use Rattle.tmm_model.specs.Standing.{points_of, points_in}
use Rattle.tmm_model.specs.Sorts.{Sort, is_reserved, declarations_of, declarations_in, declared_by, sort_in}
use Rattle.tmm_model.specs.Verdicts.{Cause, taken, first_taken, words_known}
use Rattle.list_theory.specs.WellNamed.{Follows, AllFollow, IsWellNamed}

pub words_known-append : (ps qs : List Premise) → words_known (ps ++ qs) ≡ words_known ps ++ words_known qs
words_known-append ps qs = ap (λ ds. map (λ d. d.0) ds) (flat_map-append declarations_of ps qs) ∙ map-append (λ d. d.0) (declarations_in ps) (declarations_in qs)

pub words_known-push : (ps : List Premise) (p : Premise) → words_known (ps ++ p ∷ []) ≡ words_known ps ++ declared_by p
words_known-push ps p = words_known-append ps (p ∷ []) ∙ ap (λ ds. words_known ps ++ map (λ d. d.0) ds) (append-nil (declarations_of p))

pub points_in-push : (ps : List Premise) (p : Premise) → points_in (ps ++ p ∷ []) ≡ points_in ps ++ points_of p
points_in-push ps p = ap (λ l. Start ∷ l) (flat_map-append points_of ps (p ∷ []) ∙ ap (λ l. flat_map points_of ps ++ l) (append-nil (points_of p)))

-- a premise declares at most two points
pub points_of-few : (p : Premise) → length (points_of p) ≤ 2
points_of-few (Class name facts) = omega arith
points_of-few (Kind name) = omega arith
points_of-few (Point name) = omega arith
points_of-few (Event name kind) = omega arith
points_of-few (Token name fact) = omega arith
points_of-few (Span name fact) = omega arith
points_of-few (Dist name from to lo hi) = omega arith
points_of-few (Rule name trigger lo hi effect given unless_facts) = omega arith
points_of-few (Protect name fact from to) = omega arith
points_of-few (Against name one other) = omega arith

pub points_in-few : (ps : List Premise) → length (flat_map points_of ps) ≤ 2 * length ps
points_in-few [] = omega arith
points_in-few (p ∷ ps) = omega (arith, length-append (points_of p) (flat_map points_of ps), points_of-few p, points_in-few ps)

-- that a word is known, where another one is added first
known_more : (w : List ℕ) (a b : List (List ℕ)) → ((v : List ℕ) → list_any (same_name v) a ≡ true → list_any (same_name v) b ≡ true)
    → (v : List ℕ) → list_any (same_name v) (w ∷ a) ≡ true → list_any (same_name v) (w ∷ b) ≡ true
known_more w a b sub v = by (same_name v w) (list_any (same_name v) a) refl
  where
    by : (x y : Bool) → list_any (same_name v) a ≡ y → (x || y) ≡ true → (x || list_any (same_name v) b) ≡ true
    by true y e h = refl
    by false true e h = sub v e
    by false false e h = cc

-- the first of the words is new, and so are the others after it
pub record IsNewThen (known : List (List ℕ)) (w : List ℕ) (ws : List (List ℕ)) : Type 0 where
  pub allowed : is_reserved w ≡ false
  pub new : list_any (same_name w) known ≡ false
  pub rest : first_taken (w ∷ known) ws ≡ None

pub first_taken-none : (known : List (List ℕ)) (w : List ℕ) (ws : List (List ℕ)) → first_taken known (w ∷ ws) ≡ None → IsNewThen known w ws
first_taken-none known w ws = by (is_reserved w) (list_any (same_name w) known) refl refl
  where
    by : (x y : Bool) → is_reserved w ≡ x → list_any (same_name w) known ≡ y
        → elim (x || y) as (λ _. Option Cause) [ true ↦ Some (taken w) | false ↦ first_taken (w ∷ known) ws ] ≡ None → IsNewThen known w ws
    by true y e f h = cc
    by false true e f h = cc
    by false false e f h = record { allowed = e; new = f; rest = h }

pub none-first_taken : (known : List (List ℕ)) (w : List ℕ) (ws : List (List ℕ)) → IsNewThen known w ws → first_taken known (w ∷ ws) ≡ None
none-first_taken known w ws h =
    let free : (is_reserved w || list_any (same_name w) known) ≡ false = (λ i. h.allowed i || h.new i) in
    rw (free, first_taken) h.rest

-- new names stay new where fewer are known
pub first_taken-fewer : (a b : List (List ℕ)) → ((v : List ℕ) → list_any (same_name v) a ≡ true → list_any (same_name v) b ≡ true)
    → (ws : List (List ℕ)) → first_taken b ws ≡ None → first_taken a ws ≡ None
first_taken-fewer a b sub [] h = refl
first_taken-fewer a b sub (w ∷ ws) h =
    let n = first_taken-none b w ws h in
    none-first_taken a w ws (record {
      allowed = n.allowed;
      new = unknown (list_any (same_name w) a) refl n.new;
      rest = first_taken-fewer (w ∷ a) (w ∷ b) (known_more w a b sub) ws n.rest;
    })
  where
    unknown : (x : Bool) → list_any (same_name w) a ≡ x → list_any (same_name w) b ≡ false → list_any (same_name w) a ≡ false
    unknown false e f = e
    unknown true e f = let t : list_any (same_name w) b ≡ true = sub w e in cc

-- a word that stands last may as well stand first
pub known_turned : (known : List (List ℕ)) (w : List ℕ) (v : List ℕ) → list_any (same_name v) (known ++ w ∷ []) ≡ list_any (same_name v) (w ∷ known)
known_turned known w v = list_any-append (same_name v) known (w ∷ []) ∙ by (list_any (same_name v) known) (same_name v w)
  where
    by : (x y : Bool) → (x || (y || false)) ≡ (y || x)
    by true true = refl
    by true false = refl
    by false true = refl
    by false false = refl

-- the other words, where the first of them is known now
pub first_taken-turned : (known : List (List ℕ)) (w : List ℕ) (ws : List (List ℕ)) → first_taken (w ∷ known) ws ≡ None → first_taken (known ++ w ∷ []) ws ≡ None
first_taken-turned known w ws = first_taken-fewer (known ++ w ∷ []) (w ∷ known) (λ v h. sym (known_turned known w v) ∙ h) ws

pub AllFollow-append : (earlier ps qs : List Premise) → AllFollow earlier (ps ++ qs) → AllFollow earlier ps × AllFollow (earlier ++ ps) qs
AllFollow-append earlier [] qs h = (tt, subst (λ l. AllFollow l qs) (sym (append-nil earlier)) h)
AllFollow-append earlier (p ∷ ps) qs h =
    let (first, rest) = AllFollow-append (earlier ++ p ∷ []) ps qs h.1 in
    ((h.0, first), subst (λ l. AllFollow l qs) (append_assoc earlier (p ∷ []) ps) rest)

pub append-AllFollow : (earlier ps qs : List Premise) → AllFollow earlier ps → AllFollow (earlier ++ ps) qs → AllFollow earlier (ps ++ qs)
append-AllFollow earlier [] qs h g = subst (λ l. AllFollow l qs) (append-nil earlier) g
append-AllFollow earlier (p ∷ ps) qs h g = (h.0, append-AllFollow (earlier ++ p ∷ []) ps qs h.1 (subst (λ l. AllFollow l qs) (sym (append_assoc earlier (p ∷ []) ps)) g))

-- a list with one more premise that follows
pub IsWellNamed-push : (ps : List Premise) (p : Premise) → IsWellNamed ps → Follows ps p → IsWellNamed (ps ++ p ∷ [])
IsWellNamed-push ps p h f = append-AllFollow [] ps (p ∷ []) h (f, tt)

-- a name is known exactly where it has a sort
pub known-sort : (test : List ℕ → Bool) (ds : List (List ℕ × Sort)) → is_some (lookup test ds) ≡ list_any test (map (λ d. d.0) ds)
known-sort test [] = refl
known-sort test (d ∷ ds) = by (test d.0) (known-sort test ds)
  where
    by : (b : Bool) → is_some (lookup test ds) ≡ list_any test (map (λ d. d.0) ds) → is_some (cond b (Some d.1) (lookup test ds)) ≡ (b || list_any test (map (λ d. d.0) ds))
    by true e = refl
    by false e = e

-- which words are known decides, and not their order
pub first_taken-same : (a b : List (List ℕ)) → ((v : List ℕ) → list_any (same_name v) a ≡ list_any (same_name v) b) → (ws : List (List ℕ)) → first_taken a ws ≡ first_taken b ws
first_taken-same a b same [] = refl
first_taken-same a b same (w ∷ ws) =
    λ i. elim (is_reserved w || same w i) as (λ _. Option Cause) [
      | true ↦ Some (taken w)
      | false ↦ first_taken-same (w ∷ a) (w ∷ b) (λ v. ap (λ k. same_name v w || k) (same v)) ws i
    ]

-- past a word that is new
pub first_taken-new : (known : List (List ℕ)) (w : List ℕ) (ws : List (List ℕ)) → (is_reserved w || list_any (same_name w) known) ≡ false → first_taken known (w ∷ ws) ≡ first_taken (w ∷ known) ws
first_taken-new known w ws e = rw (e, first_taken) refl

module _ {K X : Type 0} (test : K → Bool) where
  -- a look-up in one list and then in another
  pub lookup-append : (xs ys : List (K × X)) → lookup test (xs ++ ys) ≡ option_or (lookup test xs) (lookup test ys)
  lookup-append [] ys = refl
  lookup-append (x ∷ xs) ys = by (test x.0) (lookup-append xs ys)
    where
      by : (b : Bool) → lookup test (xs ++ ys) ≡ option_or (lookup test xs) (lookup test ys)
          → cond b (Some x.1) (lookup test (xs ++ ys)) ≡ option_or (cond b (Some x.1) (lookup test xs)) (lookup test ys)
      by true e = refl
      by false e = e

-- a name that is not among the keys
pub lookup-unknown : {K X : Type 0} (test : K → Bool) (es : List (K × X)) → list_any test (keys_of es) ≡ false → lookup test es ≡ None
lookup-unknown test [] h = refl
lookup-unknown test (e ∷ es) h = by (test e.0) (lookup-unknown test es) h
  where
    by : (b : Bool) → (list_any test (keys_of es) ≡ false → lookup test es ≡ None) → (b || list_any test (keys_of es)) ≡ false → cond b (Some e.1) (lookup test es) ≡ None
    by true again h = cc
    by false again h = again h

-- the sort of a name in a list with one more premise
pub sort_in-push : (ps : List Premise) (p : Premise) (v : List ℕ) → sort_in (ps ++ p ∷ []) v ≡ option_or (sort_in ps v) (lookup (same_name v) (declarations_of p))
sort_in-push ps p v =
    ap (lookup (same_name v)) (flat_map-append declarations_of ps (p ∷ []) ∙ ap (λ l. declarations_in ps ++ l) (append-nil (declarations_of p)))
    ∙ lookup-append (same_name v) (declarations_in ps) (declarations_of p)
