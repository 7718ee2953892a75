-- The lines of the script, placed by arithmetic.
use Rattle.std.proofs.Common.{◌≡◌, ◌∙◌, inl, inr, ℕ, zero, suc, ◌+◌, ◌-◌, ◌<◌, ◌≤◌, Bool, true, false, List, [], ◌∷◌, ◌++◌, length, Some, None, refl, sym, ap, subst, arith}
use Rattle.std.specs.Prelude.{codes, decimal}
use Rattle.std.specs.List.{slice_get}
use Rattle.std.specs.Ordering.{nat_cmp, MatchOrdering}
use Rattle.std.specs.declared.cmp.Ordering.{Ordering}
use Rattle.std.specs.declared.cmp.Ordering.TheVariants.{Less, Equal, Greater}
use Rattle.std.proofs.lemmas.Bool.Decides.{leb_tells}
use Rattle.std.proofs.lemmas.Cmp.{ranked}
use Rattle.std.proofs.lemmas.List.{length-append}
use Rattle.std.proofs.lemmas.Option.{slice_get_past}
use Rattle.tmm_model.specs.Generator.{first_lines, numbered, date_of, event_lines, events_below, script_of}
use Rattle.tmm_model.specs.Lines.{spaced}
use Rattle.demo_gen.specs.Blocks.{lines_below}

slice_get_front : {X : Type 0} (xs ys : List X) (i : ℕ) → i < length xs → slice_get (xs ++ ys) i ≡ slice_get xs i
slice_get_front [] ys i h = absurd (omega arith)
slice_get_front (x ∷ xs) ys zero h = refl
slice_get_front (x ∷ xs) ys (suc i) h = slice_get_front xs ys i (omega arith)

slice_get_behind : {X : Type 0} (xs ys : List X) (k i : ℕ) → k ≡ length xs + i → slice_get (xs ++ ys) k ≡ slice_get ys i
slice_get_behind [] ys k i h = ap (slice_get ys) (let e : k ≡ i = omega arith in e)
slice_get_behind (x ∷ xs) ys zero i h = absurd (omega arith)
slice_get_behind (x ∷ xs) ys (suc k) i h = slice_get_behind xs ys k i (omega arith)

-- the lines of every event
abbrev pub last_three : ℕ → List (List ℕ)
last_three j =
    spaced (codes "event" ∷ numbered (codes "e") j ∷ codes "go" ∷ [])
    ∷ spaced (codes "dist" ∷ numbered (codes "a") j ∷ codes "start" ∷ numbered (codes "e") j ∷ decimal (date_of j) ∷ decimal (date_of j) ∷ [])
    ∷ spaced (codes "ask" ∷ codes "idle" ∷ numbered (codes "e") j ∷ numbered (codes "e") j ∷ [])
    ∷ []

abbrev erasing : ℕ → List ℕ
erasing j = spaced (codes "erase" ∷ numbered (codes "e") (j - 60) ∷ [])

abbrev when : Bool → ℕ → List (List ℕ)
when b j = elim b [ true ↦ erasing j ∷ [] | false ↦ [] ]

-- from event 60 on, four lines, the first of which erases
pub late_lines : (j : ℕ) → 60 ≤ j → event_lines j ≡ erasing j ∷ last_three j
late_lines j late = elim (leb_tells 60 j) [
  | inl p ↦ ap (λ (b : Bool). when b j ++ last_three j) p.0
  | inr p ↦ absurd (let h : j < 60 = p.1 in omega arith)
]

-- before it, three
pub early_lines : (j : ℕ) → j < 60 → event_lines j ≡ last_three j
early_lines j early = elim (leb_tells 60 j) [
  | inl p ↦ absurd (let h : 60 ≤ j = p.1 in omega arith)
  | inr p ↦ ap (λ (b : Bool). when b j ++ last_three j) p.0
]

pub late_length : (j : ℕ) → 60 ≤ j → length (event_lines j) ≡ 4
late_length j late = ap length (late_lines j late)

pub early_length : (j : ℕ) → j < 60 → length (event_lines j) ≡ 3
early_length j early = ap length (early_lines j early)

-- the lines of one event more
one_more : (j : ℕ) → lines_below (suc j) ≡ lines_below j + length (event_lines j)
one_more j = elim (leb_tells 60 j) [
  | inl p ↦ (let h : 60 ≤ j = p.1 in let l : length (event_lines j) ≡ 4 = late_length j h in omega arith)
  | inr p ↦ (let h : j < 60 = p.1 in let l : length (event_lines j) ≡ 3 = early_length j h in omega arith)
]

length-events_below : (n : ℕ) → length (events_below n) ≡ lines_below n
length-events_below zero = refl
length-events_below (suc n) =
    let all : length (events_below n ++ event_lines n) ≡ length (events_below n) + length (event_lines n) = length-append (events_below n) (event_lines n) in
    let before : length (events_below n) ≡ lines_below n = length-events_below n in
    all ∙ ap (λ (l : ℕ). l + length (event_lines n)) before ∙ sym (one_more n)

-- the lines of an event begin where those of the events below it end
events_at : (n j line : ℕ) → j < n → line < length (event_lines j) → slice_get (events_below n) (lines_below j + line) ≡ slice_get (event_lines j) line
events_at zero j line below within = absurd (omega arith)
events_at (suc n) j line below within =
    let len : length (events_below n) ≡ lines_below n = length-events_below n in
    elim (leb_tells (suc j) n) [
      | inl p ↦
          (let h : suc j ≤ n = p.1 in
          let next : lines_below (suc j) ≡ lines_below j + length (event_lines j) = one_more j in
          let inside : lines_below j + line < length (events_below n) = omega arith in
          slice_get_front (events_below n) (event_lines n) (lines_below j + line) inside ∙ events_at n j line h within)
      | inr p ↦
          (let h : n < suc j = p.1 in
          let same : n ≡ j = omega arith in
          let place : lines_below j + line ≡ length (events_below n) + line = ap (λ (l : ℕ). l + line) (ap lines_below (sym same) ∙ sym len) in
          slice_get_behind (events_below n) (event_lines n) (lines_below j + line) line place ∙ ap (λ (k : ℕ). slice_get (event_lines k) line) same)
    ]

-- one of the fixed lines
pub first_at : (n i : ℕ) → i < 8 → slice_get (script_of n) i ≡ slice_get first_lines i
first_at n i below = slice_get_front first_lines (events_below n ++ codes "size" ∷ []) i below

behind_first : (n i k : ℕ) → i ≡ 8 + k → slice_get (script_of n) i ≡ slice_get (events_below n ++ codes "size" ∷ []) k
behind_first n i k is = slice_get_behind first_lines (events_below n ++ codes "size" ∷ []) i k is

-- a line of an event
pub event_at : (n i k j line : ℕ) → i ≡ 8 + k → lines_below j + line ≡ k → k < lines_below n → line < length (event_lines j) → slice_get (script_of n) i ≡ slice_get (event_lines j) line
event_at n i k j line is place below within =
    let len : length (events_below n) ≡ lines_below n = length-events_below n in
    let inside : k < length (events_below n) = omega arith in
    behind_first n i k is
    ∙ slice_get_front (events_below n) (codes "size" ∷ []) k inside
    ∙ ap (slice_get (events_below n)) (sym place)
    ∙ events_at n j line (let h : j < n = omega arith in h) within

-- the last line
pub last_at : (n i k : ℕ) → i ≡ 8 + k → k ≡ lines_below n → slice_get (script_of n) i ≡ Some (codes "size")
last_at n i k is same =
    let len : length (events_below n) ≡ lines_below n = length-events_below n in
    behind_first n i k is ∙ slice_get_behind (events_below n) (codes "size" ∷ []) k 0 (let e : k ≡ length (events_below n) + 0 = omega arith in e)

-- and nothing past it
pub end_at : (n i k : ℕ) → i ≡ 8 + k → lines_below n < k → slice_get (script_of n) i ≡ None
end_at n i k is past =
    let len : length (events_below n) ≡ lines_below n = length-events_below n in
    let all : length (events_below n ++ codes "size" ∷ []) ≡ length (events_below n) + 1 = length-append (events_below n) (codes "size" ∷ []) in
    behind_first n i k is ∙ slice_get_past (events_below n ++ codes "size" ∷ []) k (let e : length (events_below n ++ codes "size" ∷ []) ≤ k = omega arith in e)

-- what each answer of `cmp` tells
answered : (x y : ℕ) (r s : Ordering) → r ≡ nat_cmp x y → r ≡ s → MatchOrdering s (x < y) (x ≡ y) (y < x)
answered x y r s compares is = subst (λ (o : Ordering). MatchOrdering o (x < y) (x ≡ y) (y < x)) is (ranked x y r compares)

pub less : (x y : ℕ) (r : Ordering) → r ≡ nat_cmp x y → r ≡ Less → x < y
less x y r compares is = answered x y r Less compares is

pub equal : (x y : ℕ) (r : Ordering) → r ≡ nat_cmp x y → r ≡ Equal → x ≡ y
equal x y r compares is = answered x y r Equal compares is

pub greater : (x y : ℕ) (r : Ordering) → r ≡ nat_cmp x y → r ≡ Greater → y < x
greater x y r compares is = answered x y r Greater compares is
