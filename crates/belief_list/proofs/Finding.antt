-- Differences as they are found: what was told stays told, and one more number is.
use Rattle.std.proofs.Common.{◌≡◌, ℕ, zero, suc, ◌+◌, ◌<◌, ◌≤◌, ◌==◌, Bool, true, false, List, [], ◌∷◌, ◌++◌, length, replicate, refl, sym, ◌∙◌, ap, subst, arith, inl, inr}
use Rattle.std.specs.Prelude.{◌⊎◌, Option, Some, None, IfSome, nat_eq, slice_index_or, slice_set}
use Rattle.std.specs.List.{All, Contains, IsDistinct, list_any}
use Rattle.std.specs.Option.{is_some, option_map, option_and_then}
use Rattle.std.proofs.lemmas.Bool.{cases_eq}
use Rattle.std.proofs.lemmas.Bool.Decides.{Decides-eqb}
use Rattle.std.proofs.lemmas.Cmp.{nat_eq_equiv}
use Rattle.std.proofs.lemmas.List.{length-map, map-append, get_or-map, get_or-set_same, get_or-set_other, get_or_default, get_or_past}
use Rattle.std.proofs.lemmas.List.Elements.{All-contains, All-nil, All-push, All-weaker, Contains-get_or}
use Rattle.std.proofs.lemmas.Map.Keys.{IsDistinct-push}
use Rattle.tmm_model.specs.declared.token.TokenRow.{TokenRow}
use Rattle.tmm_model.specs.Standing.{Standing}
use Rattle.list_theory.proofs.Elements.{In, In-map, map-In, In-from_Contains, Contains-from_In, list_any-In}
use Rattle.premise_list.specs.States.{States}
use Rattle.dist_net.specs.Net.{Net}
use Rattle.projection.specs.Queues.{weight_at}
use Rattle.spots.specs.declared.spot.Spot.{Spot}
use Rattle.spots.specs.declared.spot.Spot.TheVariants.{Declared, Node}
use Rattle.spots.specs.Forest.{Forest, Member, member, IsLive}
use Rattle.spots.specs.Spots.{AreTokens, token_row}
use Rattle.spots.proofs.Nodes.{live_at}
use Rattle.spots.proofs.Rows.{member_of_token}
use Rattle.occ_tree.specs.Standing.{Kept, forest, present, early}
use Rattle.occ_tree.specs.Tokens.{number_of, numbers_in}
use Rattle.supports.specs.Behind.{IsClip}
use Rattle.belief_list.specs.declared.kept_rows.KeptRow.{KeptRow}
use Rattle.belief_list.specs.declared.kept_rows.Difference.{Difference}
use Rattle.belief_list.specs.KeptRows.{row_under, rows_after, numbers_of}
use Rattle.belief_list.specs.Finding.{IsClipNow, IsNowUnder, mark_under, MarksStay, IsClassSettled, AreClassesSettled, AreFound}

-- ---- marks

-- what is not marked is within the marks
pub unmarked_within : (marks : List Bool) (x : ℕ) → mark_under marks x ≡ false → x < length marks
unmarked_within [] zero e = absurd (cc e)
unmarked_within [] (suc x) e = absurd (cc e)
unmarked_within (b ∷ marks) zero e = omega arith
unmarked_within (b ∷ marks) (suc x) e = let rest = unmarked_within marks x e in omega (arith, rest)

-- where nothing is marked yet, only what is beyond the marks counts as marked
marked_beyond : (n x : ℕ) → mark_under (replicate n false) x ≡ true → n ≤ x
marked_beyond zero x e = omega arith
marked_beyond (suc n) zero e = absurd (cc e)
marked_beyond (suc n) (suc x) e = let rest = marked_beyond n x e in omega (arith, rest)

pub marked_now : (marks : List Bool) (x : ℕ) → x < length marks → mark_under (slice_set marks x true) x ≡ true
marked_now marks x within = get_or-set_same marks x true true within

marks_other : (marks : List Bool) (x y : ℕ) → (y ≡ x → ⊥) → mark_under (slice_set marks x true) y ≡ mark_under marks y
marks_other marks x y apart = get_or-set_other marks x y true true apart

pub marks_stay : (marks : List Bool) (x : ℕ) → x < length marks → MarksStay marks (slice_set marks x true)
marks_stay marks x within y e = elim (cases_eq y x) [
  | inl same ↦ ap (mark_under (slice_set marks x true)) same ∙ marked_now marks x within
  | inr apart ↦ marks_other marks x y apart ∙ e
]

-- a class that is settled stays so
pub settled_more : (lists : States) (tree : Kept) (nodes : List ℕ) (kept : List (Option KeptRow)) (old new : List Bool) → MarksStay old new → (class : List ℕ) → IsClassSettled lists tree nodes kept old class → IsClassSettled lists tree nodes kept new class
settled_more lists tree nodes kept old new stay class settled x m here of = elim (settled x m here of) [
  | inl marked ↦ inl (stay x marked)
  | inr keeps ↦ inr keeps
]

-- a number at a place is marked, where that is wanted, or else something holds of it
pub marked_or : (marks wanted : List Bool) (xs : List ℕ) (P : ℕ → Type 0) (i : ℕ) → (slice_index_or wanted i true ≡ true → mark_under marks (slice_index_or xs i 0) ≡ true)
    → (slice_index_or wanted i true ≡ false → P (slice_index_or xs i 0)) → (mark_under marks (slice_index_or xs i 0) ≡ true) ⊎ P (slice_index_or xs i 0)
marked_or marks wanted xs P i looked passed = by (slice_index_or wanted i true) refl
  where
    by : (b : Bool) → slice_index_or wanted i true ≡ b → (mark_under marks (slice_index_or xs i 0) ≡ true) ⊎ P (slice_index_or xs i 0)
    by true e = inl (looked e)
    by false e = inr (passed e)

-- what holds of the first numbers that are wanted holds of one more
pub wanted_more : (wanted : List Bool) (P Q : ℕ → Type 0) (xs : List ℕ) (i : ℕ) → ((x : ℕ) → P x → Q x) → (slice_index_or wanted i true ≡ true → Q (slice_index_or xs i 0))
    → ((j : ℕ) → j < i → slice_index_or wanted j true ≡ true → P (slice_index_or xs j 0)) → (j : ℕ) → j < i + 1 → slice_index_or wanted j true ≡ true → Q (slice_index_or xs j 0)
wanted_more wanted P Q xs i follows own first j below is = elim (cases_eq j i) [
  | inl last ↦ subst (λ k. Q (slice_index_or xs k 0)) (sym last) (own (ap (λ k. slice_index_or wanted k true) (sym last) ∙ is))
  | inr other ↦ follows (slice_index_or xs j 0) (first j (omega (arith, below, other)) is)
]

-- what holds of the first items holds of one more
pub each_more : {X : Type 0} (P Q : X → Type 0) (xs : List X) (i : ℕ) (d : X) → i < length xs → ((x : X) → P x → Q x) → Q (slice_index_or xs i d) → ((j : ℕ) (d : X) → j < i → P (slice_index_or xs j d))
    → (j : ℕ) (d : X) → j < i + 1 → Q (slice_index_or xs j d)
each_more P Q xs i d within follows own first j e below = elim (cases_eq j i) [
  | inl last ↦ subst Q (get_or_default xs i d e within ∙ ap (λ k. slice_index_or xs k e) (sym last)) own
  | inr other ↦ follows (slice_index_or xs j e) (first j e (omega (arith, below, other)))
]

-- ---- rows once differences are taken over

module _ (rows : List (Option KeptRow)) where
  -- the row of a number stays that none of the differences has
  pub after_none : (ds : List Difference) (x : ℕ) → (In x (numbers_of ds) → ⊥) → rows_after rows ds x ≡ row_under rows x
  after_none [] x out = refl
  after_none (d ∷ ds) x out = by (x == d.node) refl (after_none ds x (λ at. out (inr at)))
    where
      by : (b : Bool) → (x == d.node) ≡ b → rows_after rows ds x ≡ row_under rows x → elim b as (λ _. Option KeptRow) [ true ↦ d.now | false ↦ rows_after rows ds x ] ≡ row_under rows x
      by true e rest = absurd (out (inl (sym ((Decides-eqb x d.node).0 e))))
      by false e rest = rest

  -- of the number of one more difference it is the new row
  after_own : (ds : List Difference) (d : Difference) → (In d.node (numbers_of ds) → ⊥) → rows_after rows (ds ++ d ∷ []) d.node ≡ d.now
  after_own [] d out = by (d.node == d.node) ((Decides-eqb d.node d.node).1 refl)
    where
      by : (b : Bool) → b ≡ true → elim b as (λ _. Option KeptRow) [ true ↦ d.now | false ↦ row_under rows d.node ] ≡ d.now
      by true e = refl
      by false e = absurd (cc e)
  after_own (c ∷ ds) d out = by (d.node == c.node) refl (after_own ds d (λ at. out (inr at)))
    where
      by : (b : Bool) → (d.node == c.node) ≡ b → rows_after rows (ds ++ d ∷ []) d.node ≡ d.now → elim b as (λ _. Option KeptRow) [ true ↦ c.now | false ↦ rows_after rows (ds ++ d ∷ []) d.node ] ≡ d.now
      by true e rest = absurd (out (inl (sym ((Decides-eqb d.node c.node).0 e))))
      by false e rest = rest

  -- those of all others stay
  after_other : (ds : List Difference) (d : Difference) (x : ℕ) → (x ≡ d.node → ⊥) → rows_after rows (ds ++ d ∷ []) x ≡ rows_after rows ds x
  after_other [] d x apart = by (x == d.node) refl
    where
      by : (b : Bool) → (x == d.node) ≡ b → elim b as (λ _. Option KeptRow) [ true ↦ d.now | false ↦ row_under rows x ] ≡ row_under rows x
      by true e = absurd (apart ((Decides-eqb x d.node).0 e))
      by false e = refl
  after_other (c ∷ ds) d x apart =
      let rest = after_other ds d x apart in
      ap (λ (o : Option KeptRow). elim (x == c.node) as (λ _. Option KeptRow) [ true ↦ c.now | false ↦ o ]) rest

-- ---- differences as they are found

-- a number that is not marked is of no difference whose number is
pub not_told : (marks : List Bool) (found : List Difference) (x : ℕ) → All (λ d. mark_under marks d.node ≡ true) found → mark_under marks x ≡ false → In x (numbers_of found) → ⊥
not_told marks found x marked free at =
    let (d, there, is) = In-map (λ (d : Difference). d.node) found x at in
    let yes : mark_under marks d.node ≡ true = All-contains (λ (d : Difference). mark_under marks d.node ≡ true) found d marked (Contains-from_In found d there) in
    let no : true ≡ false = sym yes ∙ ap (mark_under marks) is ∙ free in
    absurd (cc no)

not_any : (xs : List ℕ) (x : ℕ) → (In x xs → ⊥) → list_any (nat_eq x) xs ≡ false
not_any xs x out = by (list_any (nat_eq x) xs) refl
  where
    by : (b : Bool) → list_any (nat_eq x) xs ≡ b → list_any (nat_eq x) xs ≡ false
    by false e = e
    by true e =
        let (y, at, same) = list_any-In (nat_eq x) xs e in
        absurd (out (subst (λ z. In z xs) (sym ((Decides-eqb x y).0 same)) at))

none_once : IsDistinct nat_eq (numbers_of [])
unfolding IsDistinct
none_once = tt

module _ (s : Standing) (net : Net) (tree : Kept) (classes : List (List ℕ)) (kept : List (Option KeptRow)) where
  abbrev g : Forest
  g = forest (present tree)

  -- nothing is told yet
  pub found_first : ((x : ℕ) → IsLive g x → x < length kept) → (n : ℕ) → n ≡ length kept → (marks : List Bool) → marks ≡ replicate n false → (found : List Difference) → found ≡ []
      → AreFound s net tree classes kept marks found
  found_first room n long marks marks_are found found_are =
      subst (λ l. AreFound s net tree classes kept l found) (sym marks_are)
      (subst (AreFound s net tree classes kept (replicate n false)) (sym found_are) (record {
        told = told;
        marked = All-nil (λ (d : Difference). mark_under (replicate n false) d.node ≡ true);
        places = All-nil (λ (d : Difference). d.node < length kept);
        were = All-nil (λ (d : Difference). d.was ≡ row_under kept d.node);
        once = none_once;
      }))
    where
      nowhere : (x : ℕ) → length kept ≤ x → (o : Option Member) → member g x ≡ o → member g x ≡ None
      nowhere x beyond None e = e
      nowhere x beyond (Some m) e = let within = room x (live_at g x m e) in absurd (omega (arith, within, beyond))

      told : (x : ℕ) → mark_under (replicate n false) x ≡ true → IsNowUnder s net tree classes (row_under kept x) x (rows_after kept [] x)
      told x e =
          let past = marked_beyond n x e in
          let beyond : length kept ≤ x = omega (arith, past, long) in
          subst (IsNowUnder s net tree classes (row_under kept x) x) (sym (get_or_past kept x None beyond)) (nowhere x beyond (member g x) refl)

  module _ (marks : List Bool) (found : List Difference) (w : AreFound s net tree classes kept marks found) (x : ℕ) (now : Option KeptRow) (long : length marks ≡ length kept)
      (free : mark_under marks x ≡ false) (is : IsNowUnder s net tree classes (row_under kept x) x now) where
    within : x < length marks
    within = unmarked_within marks x free

    out : In x (numbers_of found) → ⊥
    out = not_told marks found x w.marked free

    marked : All (λ d. mark_under (slice_set marks x true) d.node ≡ true) found
    marked = All-weaker (λ (d : Difference). mark_under marks d.node ≡ true) (λ (d : Difference). mark_under (slice_set marks x true) d.node ≡ true) (λ d e. marks_stay marks x within d.node e) found w.marked

    -- of one number more the row stays
    pub found_same : row_under kept x ≡ now → AreFound s net tree classes kept (slice_set marks x true) found
    found_same same = record { told = told; marked = marked; places = w.places; were = w.were; once = w.once }
      where
        here : IsNowUnder s net tree classes (row_under kept x) x (rows_after kept found x)
        here = subst (IsNowUnder s net tree classes (row_under kept x) x) (sym (after_none kept found x out ∙ same)) is

        told : (y : ℕ) → mark_under (slice_set marks x true) y ≡ true → IsNowUnder s net tree classes (row_under kept y) y (rows_after kept found y)
        told y e = elim (cases_eq y x) [
          | inl one ↦ subst (λ z. IsNowUnder s net tree classes (row_under kept z) z (rows_after kept found z)) (sym one) here
          | inr apart ↦ w.told y (sym (marks_other marks x y apart) ∙ e)
        ]

    -- what is told of it
    abbrev one_more : Difference
    one_more = record { node = x; was = row_under kept x; now = now }

    -- of one number more there is another row
    found_more : AreFound s net tree classes kept (slice_set marks x true) (found ++ one_more ∷ [])
    found_more = record {
      told = told;
      marked = All-push (λ (d : Difference). mark_under (slice_set marks x true) d.node ≡ true) found one_more marked (marked_now marks x within);
      places = All-push (λ (d : Difference). d.node < length kept) found one_more w.places (omega (arith, within, long));
      were = All-push (λ (d : Difference). d.was ≡ row_under kept d.node) found one_more w.were refl;
      once =
          subst (IsDistinct nat_eq) (sym (map-append (λ (d : Difference). d.node) found (one_more ∷ [])))
          (IsDistinct-push nat_eq_equiv (numbers_of found) x w.once (not_any (numbers_of found) x out));
    }
      where
        here : IsNowUnder s net tree classes (row_under kept x) x (rows_after kept (found ++ one_more ∷ []) x)
        here = subst (IsNowUnder s net tree classes (row_under kept x) x) (sym (after_own kept found one_more out)) is

        told : (y : ℕ) → mark_under (slice_set marks x true) y ≡ true → IsNowUnder s net tree classes (row_under kept y) y (rows_after kept (found ++ one_more ∷ []) y)
        told y e = elim (cases_eq y x) [
          | inl one ↦ subst (λ z. IsNowUnder s net tree classes (row_under kept z) z (rows_after kept (found ++ one_more ∷ []) z)) (sym one) here
          | inr apart ↦ subst (IsNowUnder s net tree classes (row_under kept y) y) (sym (after_other kept found one_more y apart)) (w.told y (sym (marks_other marks x y apart) ∙ e))
        ]

    pub found_pushed : (was : Option KeptRow) → was ≡ row_under kept x → (items : List Difference) → items ≡ found ++ record { node = x; was = was; now = now } ∷ [] → AreFound s net tree classes kept (slice_set marks x true) items
    found_pushed was same items pushed =
        subst (AreFound s net tree classes kept (slice_set marks x true))
        (sym (pushed ∙ ap (λ (o : Option KeptRow). found ++ record { node = x; was = o; now = now } ∷ []) same)) found_more

  -- a row of a token with its clip found anew is what is to be kept of it
  pub token_now : (x : ℕ) (m : Member) (class : List ℕ) (was : Option KeptRow) (r : KeptRow) → member g x ≡ Some m → m.class ≡ Some class → r.early ≡ early (present tree) x → r.weight ≡ weight_at s g x
      → IsClip s net g x r.clip → IfSome r.clip (IsLive g) → IsNowUnder s net tree classes was x (Some r)
  token_now x m class was r here of date weight clip live =
      (m, here, record { date = date; weight = weight; clip = subst (λ o. IsClipNow s net g classes was x o r.clip) (sym of) (inl (clip, live)) })

-- ---- what clips a node whose class was not looked at

module _ (s : Standing) (net : Net) (g : Forest) (classes : List (List ℕ)) (was : Option KeptRow) (x : ℕ) where
  pub event_clip : (class o : Option (List ℕ)) → class ≡ o → is_some class ≡ false → IsClipNow s net g classes was x o None
  event_clip None o same none = subst (λ z. IsClipNow s net g classes was x z None) same refl
  event_clip (Some class) o same none = absurd (cc none)

  pub token_clip : (class o : Option (List ℕ)) → class ≡ o → is_some class ≡ true → ((name : List ℕ) → o ≡ Some name → Contains classes name → ⊥)
      → (clip : Option ℕ) → clip ≡ option_and_then (λ r. r.clip) was → IsClipNow s net g classes was x o clip
  token_clip None o same some other clip is = absurd (cc some)
  token_clip (Some class) o same some other clip is = subst (λ z. IsClipNow s net g classes was x z clip) same (inr (other class (sym same), is))

-- ---- tokens of a class

module _ (g : Forest) (class : List ℕ) (rows : List (TokenRow Spot)) (are : AreTokens g class rows) where
  -- the node of a token
  pub token_at : (i : ℕ) (d : TokenRow Spot) → i < length rows → (m : Member) × (member g (number_of (slice_index_or rows i d).spot) ≡ Some m) × (m.class ≡ Some class)
  token_at i d lt =
      let (x, m, own, one) = member_of_token g class rows are (slice_index_or rows i d) (Contains-get_or rows i d lt) in
      (m, ap (member g) (ap number_of own.spot) ∙ own.here, own.class ∙ ap Some one)

  pub token_live : (i : ℕ) (d : TokenRow Spot) → i < length rows → (x : ℕ) → x ≡ number_of (slice_index_or rows i d).spot → IsLive g x
  token_live i d lt x is = let (m, here, _) = token_at i d lt in subst (IsLive g) (sym is) (live_at g (number_of (slice_index_or rows i d).spot) m here)

  -- its number among those of all
  pub number_at : (i : ℕ) (d : TokenRow Spot) → i < length rows → number_of (slice_index_or rows i d).spot ≡ slice_index_or (numbers_in rows) i 0
  number_at i d lt = sym (get_or-map (λ (r : TokenRow Spot). number_of r.spot) rows i d 0 lt)

  -- what holds of the numbers at all places holds of each token of the class
  pub each_token : (P : ℕ → Type 0) → ((i : ℕ) → i < length rows → P (slice_index_or (numbers_in rows) i 0)) → (x : ℕ) (m : Member) → member g x ≡ Some m → m.class ≡ Some class → P x
  each_token P each x m here of =
      let token : TokenRow Spot = record { spot = Node x; end = option_map Declared m.end; fact = m.what; class = class } in
      let is : token_row x m ≡ Some token = rw of refl in
      let (i, lt, e) = Contains-from_In (numbers_in rows) x (map-In (λ (r : TokenRow Spot). number_of r.spot) rows token (In-from_Contains rows token (are.all x m token here is refl))) in
      let within : i < length rows = subst (λ n. i < n) (length-map rows (λ (r : TokenRow Spot). number_of r.spot)) lt in
      subst P (get_or_default (numbers_in rows) i 0 x lt ∙ e) (each i within)

-- all classes are settled where those at all places are
pub classes_settled : (lists : States) (tree : Kept) (nodes : List ℕ) (kept : List (Option KeptRow)) (marks : List Bool) (classes : List (List ℕ))
    → ((j : ℕ) (d : List ℕ) → j < length classes → IsClassSettled lists tree nodes kept marks (slice_index_or classes j d)) → AreClassesSettled lists tree nodes kept marks classes
classes_settled lists tree nodes kept marks classes each class (i, lt, e) = subst (IsClassSettled lists tree nodes kept marks) e (each i class lt)

-- and numbers of a list where those at its places are
pub places_marked : (marks : List Bool) (nodes : List ℕ) → ((j d : ℕ) → j < length nodes → mark_under marks (slice_index_or nodes j d) ≡ true) → (x : ℕ) → Contains nodes x → mark_under marks x ≡ true
places_marked marks nodes each x (i, lt, e) = subst (λ z. mark_under marks z ≡ true) e (each i x lt)
