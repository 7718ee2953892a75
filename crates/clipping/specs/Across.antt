-- Tokens in several lists, a list for each class.
use Rattle.std.specs.Prelude.{◌≡◌, ◌≢◌, ℕ, ◌<◌, Bool, true, false, List, [], length, Option, IsSome, IsNone, IsTrue, IsFalse, MatchOption, slice_index_or}
use Rattle.std.specs.List.{flat_map, list_any, Contains}
use Rattle.std.specs.declared.cmp.Ordering.{Ordering}
use Rattle.std.specs.Ordering.{is_gt, on}
use Rattle.tmm_model.specs.declared.bound.Bound.{Bound}
use Rattle.tmm_model.specs.declared.token.TokenRow.{TokenRow}
use Rattle.tmm_model.specs.Tokens.{cuts, is_by, is_before}
use Rattle.clipping.specs.declared.across.Place.{Place}
use Rattle.clipping.specs.declared.across.Fault.{Fault}
use Rattle.clipping.specs.declared.across.Fault.TheVariants.{Late, Clipped, Ends}

-- the list at a place among the lists
abbrev pub list_at : {A : Type 0} → List (List A) → ℕ → List A
list_at lists i = slice_index_or lists i []

-- the elements of all lists, in order
abbrev pub all_of : {A : Type 0} → List (List A) → List A
all_of lists = flat_map (λ l. l) lists

-- the tokens of the list `own` are of one class, of which no other list has a token
pub record IsClassList {P : Type 0} (lists : List (List (TokenRow P))) (own : ℕ) : Type 0 where
  pub same : (k c : TokenRow P) → Contains (list_at lists own) k → Contains (list_at lists own) c → k.class ≡ c.class
  pub apart : (other : ℕ) (k c : TokenRow P) → other < length lists → other ≢ own → Contains (list_at lists own) k → Contains (list_at lists other) c → k.class ≢ c.class

-- ---- what cuts tokens of one fact

-- each token of the fact that surely begins before the spot is cut before q among the tokens
pub record IsCutSpot {P : Type 0} (contradicts : TokenRow P → TokenRow P → Bool) (far : P → P → Bound) (live : P → Type 0) (tokens : List (TokenRow P)) (fact : List ℕ) (q spot : P) : Type 0 where
  pub there : live spot
  pub cut : (k : TokenRow P) → k.fact ≡ fact → IsTrue (is_before far k.spot spot) → list_any (cuts contradicts far k q) tokens ≡ true

-- ---- the first of all that passes a test

-- there is an element at a place
pub record IsPlace {A : Type 0} (lists : List (List A)) (p : Place) : Type 0 where
  pub list : p.list < length lists
  pub within : p.at < length (list_at lists p.list)

-- the element at a place
abbrev pub at_place : {A : Type 0} → List (List A) → Place → A → A
at_place lists p d = slice_index_or (list_at lists p.list) p.at d

-- p is the place of the first, by the order, of the elements of the first n lists that pass
pub record IsFirstInLists {A : Type 0} (cmp : A → A → Ordering) (test : A → Bool) (lists : List (List A)) (n : ℕ) (p : Place) : Type 0 where
  pub list : p.list < n
  pub within : p.at < length (list_at lists p.list)
  pub passes : (d : A) → IsTrue (test (at_place lists p d))
  pub least : (i j : ℕ) (d : A) → i < n → j < length (list_at lists i) → IsTrue (test (slice_index_or (list_at lists i) j d)) → is_gt (cmp (at_place lists p d) (slice_index_or (list_at lists i) j d)) ≡ false

-- the place of that element, none exactly where none passes
abbrev pub IsFirstPlaceInLists : {A : Type 0} → (A → A → Ordering) → (A → Bool) → List (List A) → ℕ → Option Place → Type 0
IsFirstPlaceInLists {A} cmp test lists n place =
    MatchOption place ((i j : ℕ) (d : A) → i < n → j < length (list_at lists i) → test (slice_index_or (list_at lists i) j d) ≡ false) (IsFirstInLists cmp test lists n)

-- the same of all lists
abbrev pub IsFirstPlaceOfAll : {A : Type 0} → (A → A → Ordering) → (A → Bool) → List (List A) → Option Place → Type 0
IsFirstPlaceOfAll cmp test lists place = IsFirstPlaceInLists cmp test lists (length lists) place

-- ---- causes

module _ {P : Type 0} (contradicts : TokenRow P → TokenRow P → Bool) (far : P → P → Bound) (order : P → P → Ordering) (lists : List (List (TokenRow P))) (k : TokenRow P) where
  -- the cause for which k does not support its fact throughout p to q
  abbrev pub IsFault : P → P → Fault → Type 0
  IsFault p q Late = IsFalse (is_by far k.spot p)
  IsFault p q (Clipped c) = IsTrue (is_by far k.spot p) × IsNone k.end × IsFirstInLists (on (λ k. k.spot) order) (cuts contradicts far k q) lists (length lists) c
  IsFault p q Ends = IsTrue (is_by far k.spot p) × IsSome k.end
