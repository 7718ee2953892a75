-- What holds, as the code has it: which tokens are the same, and what a list of them tells.
use Rattle.std.proofs.Common.{◌≡◌, ◌∙◌, ◌⊎◌, inl, inr, ℕ, ◌+◌, ◌<◌, Bool, true, false, ◌&&◌, ◌||◌, not, List, [], ◌∷◌, ◌++◌, map, take, length, refl, sym, ap, subst}
use Rattle.std.specs.Prelude.{◌↔◌, ℤ, Option, Some, None, filter, cond, slice_index_or}
use Rattle.std.specs.List.{list_any, cons_option}
use Rattle.std.specs.Option.{option_map, option_eq}
use Rattle.std.specs.Ordering.{int_eq}
use Rattle.std.specs.Cmp.{both_ways}
use Rattle.std.specs.Cmp.Lexicographic.{bytes_decides}
use Rattle.std.proofs.lemmas.Bool.Decides.{Decides-int_eq}
use Rattle.std.proofs.lemmas.List.{map-append, take_more}
use Rattle.std.proofs.lemmas.List.Elements.{filter_map-append}
use Rattle.tmm_model.specs.declared.token.TokenRow.{TokenRow}
use Rattle.tmm_model.specs.Beliefs.{token_of, tokens}
use Rattle.tmm_model.specs.Maps.{TimeMap}
use Rattle.tmm_model.specs.Moments.{Moment}
use Rattle.tmm_model.specs.Points.{same_name}
use Rattle.list_theory.proofs.Elements.{In, In-cases, In-left, In-right, In-filter, filter-In, list_any-In, In-list_any, both}
use Rattle.timeline.specs.declared.row.Held.{Held}
use Rattle.timeline.specs.declared.row.Row.{Row}
use Rattle.timeline.specs.Calendars.{AreSame}
use Rattle.timeline.specs.Days.{date, goes_on, holds_on, holding_on, is_held}
use Rattle.timeline.specs.Holding.{same_held, is_held as is_held_here, goes_on as goes_on_here, goes_on_to, IsHeldOn}
use Rattle.timeline.specs.Rows.{moment, clashes, held_of, helds, AreRowsOf}

-- ---- the same token

same_end : (a b : Option ℤ) → option_eq int_eq a b ≡ true → a ≡ b
same_end None None e = refl
same_end None (Some y) e = cc
same_end (Some x) None e = cc
same_end (Some x) (Some y) e = ap Some ((Decides-int_eq x y).0 e)

same_is : (a b : Held) → same_held a b ≡ true → a ≡ b
same_is a b e =
    let (names, ends) = both (same_name a.fact b.fact && same_name a.class b.class) (option_eq int_eq a.end b.end) e in
    let (facts, classes) = both (same_name a.fact b.fact) (same_name a.class b.class) names in
    let f : a.fact ≡ b.fact = (bytes_decides a.fact b.fact).0 facts in
    let g : a.class ≡ b.class = (bytes_decides a.class b.class).0 classes in
    let h : a.end ≡ b.end = same_end a.end b.end ends in
    λ i. record { fact = f i; class = g i; end = h i }

pub same_there : (xs : List Held) (x h : Held) → list_any (λ y. same_held y x) xs ≡ true → x ≡ h → In h xs
same_there xs x h e is =
    let (y, at, same) = list_any-In (λ y. same_held y x) xs e in
    subst (λ z. In z xs) (same_is y x same ∙ is) at

pub pushed : (xs : List Held) (x : Held) (ys : List Held) → ys ≡ xs ++ x ∷ [] → (h : Held) → In h ys ↔ (In h xs ⊎ (x ≡ h))
pushed xs x ys is h = (
  λ at. elim (In-cases xs (x ∷ []) h (subst (In h) is at)) [ inl there ↦ inl there | inr last ↦ elim last [ inl same ↦ inr same | inr none ↦ absurd none ] ],
  λ at. subst (In h) (sym is) (elim at [ inl there ↦ In-left xs (x ∷ []) h there | inr same ↦ In-right xs (x ∷ []) h (inl same) ]),
)

-- one token more of those that come
pub one_more : (base coming : List Held) (i : ℕ) (x : Held) (old new : List Held) → i < length coming → x ≡ slice_index_or coming i x
    → ((h : Held) → In h old ↔ (In h base ⊎ In h (take i coming))) → ((h : Held) → In h new ↔ (In h old ⊎ (x ≡ h))) → (h : Held) → In h new ↔ (In h base ⊎ In h (take (i + 1) coming))
one_more base coming i x old new below is before next h =
    let front = take i coming in
    let more : take (i + 1) coming ≡ front ++ x ∷ [] = take_more coming i x below ∙ ap (λ y. front ++ y ∷ []) (sym is) in (
      (λ at. elim ((next h).0 at) [
        | inl there ↦ elim ((before h).0 there) [ inl own ↦ inl own | inr came ↦ inr (subst (In h) (sym more) (In-left front (x ∷ []) h came)) ]
        | inr same ↦ inr (subst (In h) (sym more) (In-right front (x ∷ []) h (inl same)))
      ]),
      (λ at. elim at [
        | inl own ↦ (next h).1 (inl ((before h).1 (inl own)))
        | inr came ↦ elim (In-cases front (x ∷ []) h (subst (In h) more came)) [
          | inl there ↦ (next h).1 (inl ((before h).1 (inr there)))
          | inr last ↦ elim last [ inl same ↦ (next h).1 (inr same) | inr none ↦ absurd none ]
        ]
      ]),
    )

-- one row more
pub helds_more : (rows : List Row) (i : ℕ) (r : Row) → i < length rows → r ≡ slice_index_or rows i r → helds (take (i + 1) rows) ≡ helds (take i rows) ++ cons_option r.held []
helds_more rows i r below is =
    ap helds (take_more rows i r below ∙ ap (λ y. take i rows ++ y ∷ []) (sym is)) ∙ filter_map-append (λ x. x.held) (take i rows) (r ∷ [])

-- ---- lists of tokens

-- what is made of those that pass is what passes of what is made
map-filter : {X Y : Type 0} (f : X → Y) (p : X → Bool) (q : Y → Bool) → ((x : X) → q (f x) ≡ p x) → (xs : List X) → map f (filter p xs) ≡ filter q (map f xs)
map-filter f p q same [] = refl
map-filter f p q same (x ∷ xs) = by (p x) (q (f x)) (same x) (map-filter f p q same xs)
  where
    by : (a b : Bool) → b ≡ a → map f (filter p xs) ≡ filter q (map f xs) → map f (cond a (x ∷ filter p xs) (filter p xs)) ≡ cond b (f x ∷ filter q (map f xs)) (filter q (map f xs))
    by true true e again = ap (λ l. f x ∷ l) again
    by false false e again = again
    by true false e again = cc
    by false true e again = cc

any-map : {X Y : Type 0} (f : X → Y) (q : Y → Bool) (xs : List X) → list_any q (map f xs) ≡ list_any (λ x. q (f x)) xs
any-map f q [] = refl
any-map f q (x ∷ xs) = ap (λ b. q (f x) || b) (any-map f q xs)

-- lists with the same members have one that passes alike
pub any_alike : {X : Type 0} (p : X → Bool) (xs ys : List X) → ((x : X) → In x xs → In x ys) → ((x : X) → In x ys → In x xs) → list_any p xs ≡ list_any p ys
any_alike p xs ys into back = both_ways (list_any p xs) (list_any p ys) (one xs ys into) (one ys xs back)
  where
    one : (xs ys : List _) → ((x : _) → In x xs → In x ys) → list_any p xs ≡ true → list_any p ys ≡ true
    one xs ys into e = let (x, at, passes) = list_any-In p xs e in In-list_any p ys x (into x at) passes

-- ---- what the definition says of tokens, as the code has it

module _ (m : TimeMap) where
  -- the tokens among rows are those among what occurs
  pub helds-tokens : (rows : List Row) → AreRowsOf m rows → helds rows ≡ map (held_of m) (tokens m.list (map moment rows))
  helds-tokens [] all = refl
  helds-tokens (r ∷ rows) all = by r.held (token_of m.list (moment r)) (all r (inl refl)).held (helds-tokens rows (λ x at. all x (inr at)))
    where
      by : (a : Option Held) (b : Option (TokenRow Moment)) → a ≡ option_map (held_of m) b → helds rows ≡ map (held_of m) (tokens m.list (map moment rows))
          → cons_option a (helds rows) ≡ map (held_of m) (cons_option b (tokens m.list (map moment rows)))
      by None None e again = again
      by (Some x) (Some y) e again = let same : x ≡ held_of m y = cc in λ i. same i ∷ again i
      by None (Some y) e again = cc
      by (Some x) None e again = cc

  -- a token goes on alike
  goes_on-held : (day : ℕ) (coming : List (TokenRow Moment)) (k : TokenRow Moment) → goes_on_here m.list day (map (held_of m) coming) (held_of m k) ≡ holds_on m day coming k
  goes_on-held day coming k = by k.end
    where
      by : (e : Option Moment) → goes_on_to m.list day (map (held_of m) coming) (held_of m k) (option_map (date m) e) ≡ goes_on m day coming k e
      by None = ap not (any-map (held_of m) (clashes m.list (held_of m k)) coming)
      by (Some e) = refl

  -- what holds on a day, as the code has it
  pub holding-held : (day : ℕ) (coming before : List (TokenRow Moment))
      → map (held_of m) (holding_on m day coming before) ≡ map (held_of m) coming ++ filter (goes_on_here m.list day (map (held_of m) coming)) (map (held_of m) before)
  holding-held day coming before =
      map-append (held_of m) coming (filter (holds_on m day coming) before)
      ∙ ap (λ l. map (held_of m) coming ++ l) (map-filter (held_of m) (holds_on m day coming) (goes_on_here m.list day (map (held_of m) coming)) (goes_on-held day coming) before)

  -- then the same facts hold
  pub same_facts : (here : List Held) (holding : List (TokenRow Moment)) → AreSame m here holding → is_held_here here ≡ is_held holding
  same_facts here holding same = λ i fact. (any_alike (λ h. same_name h.fact fact) here (map (held_of m) holding) same.into same.back ∙ any-map (held_of m) (λ h. same_name h.fact fact) holding) i

  -- and a day later too
  pub next_same : (day : ℕ) (coming before : List (TokenRow Moment)) (rows here next : List Held)
      → AreSame m here before → rows ≡ map (held_of m) coming → IsHeldOn m.list day rows here next → AreSame m next (holding_on m day coming before)
  next_same day coming before rows here next same are on = record {
    into = λ h at. subst (In h) (sym (holding-held day coming before)) (into h ((on h).0 at));
    back = λ h at. (on h).1 (back h (In-cases (map (held_of m) coming) (filter test (map (held_of m) before)) h (subst (In h) (holding-held day coming before) at)));
  }
    where
      test : Held → Bool
      test = goes_on_here m.list day (map (held_of m) coming)

      code : Held → Bool
      code = goes_on_here m.list day rows

      tests : code ≡ test
      tests = λ i. goes_on_here m.list day (are i)

      into : (h : Held) → In h (filter code here) ⊎ In h rows → In h (map (held_of m) coming ++ filter test (map (held_of m) before))
      into h (inl at) =
          let (there, passes) = In-filter code here h at in
          In-right (map (held_of m) coming) (filter test (map (held_of m) before)) h (filter-In test (map (held_of m) before) h (same.into h there) (sym (λ i. tests i h) ∙ passes))
      into h (inr at) = In-left (map (held_of m) coming) (filter test (map (held_of m) before)) h (subst (In h) are at)

      back : (h : Held) → In h (map (held_of m) coming) ⊎ In h (filter test (map (held_of m) before)) → In h (filter code here) ⊎ In h rows
      back h (inl at) = inr (subst (In h) (sym are) at)
      back h (inr at) =
          let (there, passes) = In-filter test (map (held_of m) before) h at in
          inl (filter-In code here h (same.back h there) ((λ i. tests i h) ∙ passes))
