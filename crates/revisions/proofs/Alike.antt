-- Of lists that are alike in all that beliefs read the same is believed.
use Rattle.std.proofs.Common.{◌≡◌, ◌∙◌, ℕ, zero, suc, Bool, true, false, not, ◌&&◌, List, [], ◌∷◌, ◌++◌, map, length, refl, sym, ap, subst, inl, inr}
use Rattle.std.proofs.lemmas.Bool.{and_right}
use Rattle.std.specs.Prelude.{Option, Some, None, filter, pos, negsuc, ◌+◌, ◌+ℤ◌, sum_by}
use Rattle.std.specs.List.{list_any, list_all, filter_map, flat_map}
use Rattle.std.specs.Option.{option_map, option_map_or, option_and_then, option_eq, is_some, is_none}
use Rattle.std.specs.Ordering.{int_eq, int_cmp, nat_cmp, on, ordering_then}
use Rattle.std.specs.Cmp.Lexicographic.{slice_cmp}
use Rattle.tmm_model.specs.declared.bound.Bound.{Bound}
use Rattle.tmm_model.specs.declared.point.PointName.{PointName}
use Rattle.tmm_model.specs.declared.point.PointName.TheVariants.{Start, Begin, End}
use Rattle.tmm_model.specs.declared.premise.Premise.{Premise}
use Rattle.tmm_model.specs.declared.premise.Premise.TheVariants.{Class, Kind, Point, Event, Token, Span, Dist, Rule, Protect, Against}
use Rattle.tmm_model.specs.declared.token.Shape.{Shape}
use Rattle.tmm_model.specs.declared.token.Shape.TheVariants.{Event as AnEvent, Persistence as APersistence, Span as ASpan}
use Rattle.tmm_model.specs.declared.token.TokenRow.{TokenRow}
use Rattle.tmm_model.specs.Answers.{clip, clip_of, first_believed, row, rows, size}
use Rattle.tmm_model.specs.Beliefs.{as_effect, is_of, root_of, roots, end_of, token_at, token_of, tokens, contradicts_in, rules_for, rules_at, has_support, is_free, due, enters, effects, next_level, level}
use Rattle.tmm_model.specs.Bounds.{bound_plus, bound_less, bound_at_most}
use Rattle.tmm_model.specs.Changes.{changes, in_order, new_clip}
use Rattle.tmm_model.specs.Maps.{built, gap, order, is_believed}
use Rattle.tmm_model.specs.Moments.{Moment, At, After, Distances, base, rules, is_derived, low, high, apart, negated, distance, early, occ_cmp, printed, rule_of, same_moment}
use Rattle.tmm_model.specs.Firsts.{first, sorted}
use Rattle.tmm_model.specs.Points.{same_name, same_point}
use Rattle.tmm_model.specs.Sorts.{Sort, is_kind, sort_in}
use Rattle.tmm_model.specs.Standing.{Standing, far_in}
use Rattle.tmm_model.specs.Tokens.{supports, lasts_to, cuts, clips}
use Rattle.list_theory.proofs.Elements.{In, In-from_Contains, Contains-from_In, In-filter_map, In-cases, In-flat_map, In-map, In-filter}
use Rattle.belief_theory.proofs.Moments.{Decides-same_moment}
use Rattle.belief_theory.proofs.OneRight.{spot-token_of}
use Rattle.belief_theory.proofs.Rivals.{HasClass, contradicts_is}
use Rattle.belief_theory.proofs.Watched.{class-token_of}
use Rattle.belief_theory.proofs.Upholding.{is_among-Contains}
use Rattle.revisions.specs.Alike.{IsAnchor, SayAlike, AreAlike, BelieveAlike, TellsNoBelief}
use Rattle.list_theory.proofs.Pointwise.{any_same, filter_same, map_same, flat_map_same, filter_none, filter_map_none, In_sorted, sorted_same, first_same}

-- ---- where occurrences and their ends stand

-- what is declared to occur begins at its own point
root_begins : (p : Premise) (x : Moment) → root_of p ≡ Some x → (k : List ℕ) × (x ≡ At (Begin k))
root_begins (Event name kind) x e = (name, cc)
root_begins (Token name fact) x e = (name, cc)
root_begins (Span name fact) x e = (name, cc)
root_begins (Class name facts) x e = cc
root_begins (Kind name) x e = cc
root_begins (Point name) x e = cc
root_begins (Dist name from to lo hi) x e = cc
root_begins (Rule name trigger lo hi effect given unless_facts) x e = cc
root_begins (Protect name fact from to) x e = cc
root_begins (Against name one other) x e = cc

-- what a rule brings about is no span
no_span : (x : List ℕ) (o : Option Sort) (what : List ℕ) → as_effect x o ≡ (ASpan, what) → ⊥
no_span x None what e = let f : APersistence ≡ ASpan = ap (λ y. y.0) e in cc
no_span x (Some sort) what e = by (is_kind sort) e
  where
    by : (b : Bool) → (elim b as (λ _. Shape × List ℕ) [ true ↦ (AnEvent, x) | false ↦ (APersistence, x) ]) ≡ (ASpan, what) → ⊥
    by true e = let f : AnEvent ≡ ASpan = ap (λ y. y.0) e in cc
    by false e = let f : APersistence ≡ ASpan = ap (λ y. y.0) e in cc

-- an occurrence that is led to from such a point
abbrev pub IsAnchored : Standing → Moment → Type 0
IsAnchored s x = IsAnchor s (base x)

-- all of these are
abbrev pub AreAnchored : Standing → List Moment → Type 0
AreAnchored s b = (x : Moment) → In x b → IsAnchored s x

-- what occurs as a span is declared
pub span_at : (s : Standing) (x : Moment) (k fact : List ℕ) → base x ≡ Begin k → is_of s x ≡ Some (ASpan, fact) → is_of s (At (Begin k)) ≡ Some (ASpan, fact)
span_at s (At p) k fact root is = ap (λ q. is_of s (At q)) (sym root) ∙ is
span_at s (After t r) k fact root is =
    let e : as_effect (rule_of s r).effect (sort_in s.premises (rule_of s r).effect) ≡ (ASpan, fact) = cc in
    absurd (no_span (rule_of s r).effect (sort_in s.premises (rule_of s r).effect) fact e)

token_end : (s : Standing) (x : Moment) (k : TokenRow Moment) → token_of s x ≡ Some k → (e : Moment) → k.end ≡ Some e → IsAnchored s e
token_end s x k made e ends = by x (is_of s x) refl made
  where
    by : (x : Moment) (o : Option (Shape × List ℕ)) → is_of s x ≡ o → (elim o as (λ _. Option (TokenRow Moment)) [ None ↦ None | Some y ↦ token_at s x y ]) ≡ Some k → IsAnchored s e
    by x None is made = cc
    by x (Some (AnEvent, f)) is made = cc
    by x (Some (APersistence, f)) is made = let none : k.end ≡ None = cc in cc
    by (At Start) (Some (ASpan, f)) is made = cc
    by (At (End j)) (Some (ASpan, f)) is made = cc
    by (After t r) (Some (ASpan, f)) is made = let e : as_effect (rule_of s r).effect (sort_in s.premises (rule_of s r).effect) ≡ (ASpan, f) = cc in absurd (no_span (rule_of s r).effect (sort_in s.premises (rule_of s r).effect) f e)
    by (At (Begin j)) (Some (ASpan, f)) is made =
        let here : k.end ≡ Some (At (End j)) = cc in
        let same : At (End j) ≡ e = cc in
        subst (IsAnchored s) same (f, is)

-- where a token begins, and where it ends; it has the class of its fact
pub record IsBetween (s : Standing) (k : TokenRow Moment) : Type 0 where
  pub class : HasClass s k
  pub begin : IsAnchored s k.spot
  pub «end» : (e : Moment) → k.end ≡ Some e → IsAnchored s e

pub tokens_between : (s : Standing) (b : List Moment) → AreAnchored s b → (k : TokenRow Moment) → In k (tokens s b) → IsBetween s k
tokens_between s b anchored k at =
    let (x, there, made) = In-filter_map (token_of s) b k at in
    record { class = class-token_of s x k made; begin = subst (IsAnchored s) (sym (spot-token_of s x k made)) (anchored x there); «end» = token_end s x k made }

-- ---- all that is the same

module _ (s t : Standing) (say : SayAlike s t) where
  -- ---- without distances

  token_at_same : (x : Moment) (y : Shape × List ℕ) → token_at s x y ≡ token_at t x y
  token_at_same x (AnEvent, kind) = refl
  token_at_same x (APersistence, fact) = ap (λ c. Some (record { spot = x; end = None; fact = fact; class = c })) (say.class fact)
  token_at_same x (ASpan, fact) = ap (λ c. Some (record { spot = x; end = Some (end_of x); fact = fact; class = c })) (say.class fact)

  pub token_same : (x : Moment) → token_of s x ≡ token_of t x
  token_same x = λ i. elim (say.is x i) as (λ _. Option (TokenRow Moment)) [ None ↦ None | Some y ↦ token_at_same x y i ]

  tokens_same : (b : List Moment) → tokens s b ≡ tokens t b
  tokens_same b = λ i. filter_map (λ x. token_same x i) b

  rules_for_same : (o : Option (Shape × List ℕ)) → rules_for s o ≡ rules_for t o
  rules_for_same None = refl
  rules_for_same (Some (AnEvent, kind)) = say.on kind
  rules_for_same (Some (APersistence, fact)) = refl
  rules_for_same (Some (ASpan, fact)) = refl

  -- tokens contradict each other as their facts do
  pub contradicts_same : (k c : TokenRow Moment) → HasClass s k → HasClass s c → contradicts_in s k c ≡ contradicts_in t k c
  contradicts_same k c own_k own_c =
      contradicts_is s k c own_k own_c
      ∙ say.contradict k.fact c.fact
      ∙ sym (contradicts_is t k c (own_k ∙ say.class k.fact) (own_c ∙ say.class c.fact))

  pub rules_same : (x : Moment) → rules_at s x ≡ rules_at t x
  rules_same x = rules_for_same (is_of s x) ∙ ap (rules_for t) (say.is x)

  low_same : (rs : List (List ℕ)) → low s rs ≡ low t rs
  low_same [] = refl
  low_same (r ∷ rs) = λ i. (say.rule r i).lo +ℤ low_same rs i

  high_same : (rs : List (List ℕ)) → high s rs ≡ high t rs
  high_same [] = refl
  high_same (r ∷ rs) = λ i. bound_plus (say.rule r i).hi (high_same rs i)

  apart_same : (u v : List (List ℕ)) → apart s u v ≡ apart t u v
  apart_same [] v = λ i. bound_less (high_same v i) (low_same [] i)
  apart_same (r ∷ u) [] = λ i. bound_less (high_same [] i) (low_same (r ∷ u) i)
  apart_same (r ∷ u) (q ∷ v) =
      λ i. elim (same_name r q) as (λ _. Bound) [ true ↦ apart_same u v i | false ↦ bound_less (high_same (q ∷ v) i) (low_same (r ∷ u) i) ]

  module _ (distances : (p q : PointName) → IsAnchor s p → IsAnchor s q → far_in s.premises p q ≡ far_in t.premises p q) where
    abbrev f : Distances
    f = far_in s.premises

    abbrev g : Distances
    g = far_in t.premises

    -- ---- distances

    pub distance_same : (x y : Moment) → IsAnchored s x → IsAnchored s y → distance s f x y ≡ distance t g x y
    distance_same x y at_x at_y =
        λ i. elim (same_point (base x) (base y)) as (λ _. Bound) [
          | true ↦ apart_same (rules x) (rules y) i
          | false ↦ bound_less (bound_plus (distances (base x) (base y) at_x at_y i) (high_same (rules y) i)) (low_same (rules x) i)
        ]

    early_same : (x : Moment) → IsAnchored s x → early s f x ≡ early t g x
    early_same x at = ap negated (distance_same x (At Start) at tt)

    order_same : (x y : Moment) → IsAnchored s x → IsAnchored s y → occ_cmp s f x y ≡ occ_cmp t g x y
    order_same x y at_x at_y = λ i. ordering_then (int_cmp (early_same x at_x i) (early_same y at_y i)) (slice_cmp nat_cmp (printed x) (printed y))

    -- ---- support

    clips_same : (k c : TokenRow Moment) → IsBetween s k → IsBetween s c → clips (contradicts_in s) (distance s f) k c ≡ clips (contradicts_in t) (distance t g) k c
    clips_same k c at_k at_c = λ i. contradicts_same k c at_k.class at_c.class i && bound_at_most (distance_same c.spot k.spot at_c.begin at_k.begin i) (negsuc 0)

    module _ (b : List Moment) (anchored : AreAnchored s b) where
      lasts_same : (k : TokenRow Moment) → IsBetween s k → (q : Moment) → IsAnchored s q → (o : Option Moment) → ((e : Moment) → o ≡ Some e → IsAnchored s e)
          → lasts_to (contradicts_in s) (distance s f) (tokens s b) k q o ≡ lasts_to (contradicts_in t) (distance t g) (tokens s b) k q o
      lasts_same k at_k q at_q (Some e) ends = ap (λ d. bound_at_most d (negsuc 0)) (distance_same e q (ends e refl) at_q)
      lasts_same k at_k q at_q None ends =
          ap not (any_same (cuts (contradicts_in s) (distance s f) k q) (cuts (contradicts_in t) (distance t g) k q) (tokens s b)
          (λ c at.
          (let at_c = tokens_between s b anchored c at in
          λ i. clips_same k c at_k at_c i && bound_at_most (distance_same q c.spot at_q at_c.begin i) (pos 0))))

      supports_same : (fact : List ℕ) (p q : Moment) → IsAnchored s p → IsAnchored s q → (k : TokenRow Moment) → In k (tokens s b)
          → supports (contradicts_in s) (distance s f) (tokens s b) fact p q k ≡ supports (contradicts_in t) (distance t g) (tokens s b) fact p q k
      supports_same fact p q at_p at_q k at =
          let at_k = tokens_between s b anchored k at in
          let near = distance_same p k.spot at_p at_k.begin in
          let lasts = lasts_same k at_k q at_q k.end at_k.end in
          λ i. same_name k.fact fact && bound_at_most (near i) (pos 0) && lasts i

      support_same : (fact : List ℕ) (p q : Moment) → IsAnchored s p → IsAnchored s q → has_support s f b fact p q ≡ has_support t g b fact p q
      support_same fact p q at_p at_q =
          any_same (supports (contradicts_in s) (distance s f) (tokens s b) fact p q) (supports (contradicts_in t) (distance t g) (tokens s b) fact p q) (tokens s b) (supports_same fact p q at_p at_q)
          ∙ ap (λ ks. list_any (supports (contradicts_in t) (distance t g) ks fact p q) ks) (tokens_same b)

      free_same : (x : Moment) → IsAnchored s x → (r : List ℕ) → is_free s f b x r ≡ is_free t g b x r
      free_same x at r =
          λ i. list_all (λ fact. support_same fact x x at at i) (say.rule r i).given && not (list_any (λ fact. support_same fact x x at at i) (say.rule r i).exceptions)

      -- ---- what enters

      due_same : (x : Moment) → IsAnchored s x → (r : List ℕ) → due s f x r ≡ due t g x r
      due_same x at r = λ i. early_same x at i +ℤ (say.rule r i).lo

      enters_same : (n : ℕ) (x : Moment) → IsAnchored s x → (r : List ℕ) → enters s f b n x r ≡ enters t g b n x r
      enters_same n x at r = λ i. elim (int_eq (due_same x at r i) (pos n)) as (λ _. Bool) [ true ↦ free_same x at r i | false ↦ false ]

      effects_same : (n : ℕ) (x : Moment) → IsAnchored s x → effects s f b n x ≡ effects t g b n x
      effects_same n x at = λ i. map (After x) (filter (λ r. enters_same n x at r i) (rules_same x i))

      next_same : (n : ℕ) → next_level s f b n ≡ next_level t g b n
      next_same n = ap (λ l. b ++ l) (flat_map_same (effects s f b n) (effects t g b n) b (λ x at. effects_same n x (anchored x at)))

      next_anchored : (n : ℕ) → AreAnchored s (next_level s f b n)
      next_anchored n x at = elim (In-cases b (flat_map (effects s f b n) b) x at) [
        | inl before ↦ anchored x before
        | inr entered ↦
            let (y, there, more) = In-flat_map (effects s f b n) b x entered in
            let (r, _, is) = In-map (After y) (filter (enters s f b n y) (rules_at s y)) x more in
            subst (IsAnchored s) is (anchored y there)
      ]

    roots_anchored : AreAnchored s (roots s)
    roots_anchored x at =
        let (p, there, e) = In-filter_map root_of s.premises x at in
        let (k, is) = root_begins p x e in
        subst (IsAnchored s) (sym is) (Contains-from_In (roots s) (At (Begin k)) (subst (λ z. In z (roots s)) is at))

    level_anchored : (n : ℕ) → AreAnchored s (level s f n)
    level_anchored zero = roots_anchored
    level_anchored (suc n) = next_anchored (level s f n) (level_anchored n) (suc n)

    level_same : (n : ℕ) → level s f n ≡ level t g n
    level_same zero = say.declared
    level_same (suc n) = next_same (level s f n) (level_anchored n) (suc n) ∙ ap (λ b. next_level t g b (suc n)) (level_same n)

    believed_same : (built s).believed ≡ (built t).believed
    believed_same = level_same s.horizon ∙ ap (level t g) say.horizon

    pub believed_anchored : AreAnchored s (built s).believed
    believed_anchored = level_anchored s.horizon

    abbrev here : List Moment
    here = (built s).believed

    -- ---- clips and rows

    clip_of_same : (k : TokenRow Moment) → IsBetween s k → (o : Option Moment)
        → (elim o as (λ _. Option Moment) [ Some e ↦ None | None ↦ first_believed (built s) (clips (contradicts_in s) (gap (built s)) k) ])
        ≡ (elim o as (λ _. Option Moment) [ Some e ↦ None | None ↦ first_believed (built t) (clips (contradicts_in t) (gap (built t)) k) ])
    clip_of_same k at_k (Some e) = refl
    clip_of_same k at_k None =
        ap (λ ks. option_map (λ c. c.spot) (first (on (λ (c : TokenRow Moment). c.spot) (occ_cmp s f)) ks)) (filter_same (clips (contradicts_in s) (distance s f) k) (clips (contradicts_in t) (distance t g) k) (tokens s here)
        (λ c at. clips_same k c at_k (tokens_between s here believed_anchored c at)))
        ∙ ap (option_map (λ c. c.spot)) (first_same (on (λ (c : TokenRow Moment). c.spot) (occ_cmp s f)) (on (λ (c : TokenRow Moment). c.spot) (occ_cmp t g)) (filter (clips (contradicts_in t) (distance t g) k) (tokens s here))
        (λ c d at_c at_d.
        order_same c.spot d.spot
        (tokens_between s here believed_anchored c (In-filter (clips (contradicts_in t) (distance t g) k) (tokens s here) c at_c).0).begin
        (tokens_between s here believed_anchored d (In-filter (clips (contradicts_in t) (distance t g) k) (tokens s here) d at_d).0).begin))
        ∙ ap (λ ks. option_map (λ c. c.spot) (first (on (λ (c : TokenRow Moment). c.spot) (occ_cmp t g)) (filter (clips (contradicts_in t) (distance t g) k) ks))) (tokens_same here ∙ ap (tokens t) believed_same)

    clip_same : (x : Moment) → IsAnchored s x → clip (built s) x ≡ clip (built t) x
    clip_same x at = by (token_of s x) refl
      where
        by : (o : Option (TokenRow Moment)) → token_of s x ≡ o → clip (built s) x ≡ clip (built t) x
        by None e = ap (option_and_then (clip_of (built s))) e ∙ sym (ap (option_and_then (clip_of (built t))) (sym (token_same x) ∙ e))
        by (Some k) e =
            ap (option_and_then (clip_of (built s))) e
            ∙ clip_of_same k (record { class = class-token_of s x k e; begin = subst (IsAnchored s) (sym (spot-token_of s x k e)) at; «end» = token_end s x k e }) k.end
            ∙ sym (ap (option_and_then (clip_of (built t))) (sym (token_same x) ∙ e))

    row_same : (x : Moment) → IsAnchored s x → row (built s) x ≡ row (built t) x
    row_same x at = λ i. record { date = early_same x at i; occ = x; what = option_map_or (λ y. y.1) (say.is x i) []; clip = clip_same x at i }

    in_order_same : in_order (built s) ≡ in_order (built t)
    in_order_same =
        sorted_same (order (built s)) (order (built t)) here (λ x y at_x at_y. order_same x y (believed_anchored x at_x) (believed_anchored y at_y))
        ∙ ap (sorted (order (built t))) believed_same

    rows_same : rows (built s) ≡ rows (built t)
    rows_same =
        map_same (row (built s)) (row (built t)) (in_order (built s)) (λ x at. row_same x (believed_anchored x (In_sorted (order (built s)) here x at)))
        ∙ ap (map (row (built t))) in_order_same

    size_same : size (built s) ≡ size (built t)
    size_same = λ i. sum_by (λ x. 1 + length (rules x) + length (rules_same x i)) (believed_same i)

    believe : BelieveAlike s t
    believe = record {
      believed = believed_same;
      tokens = tokens_same here ∙ ap (tokens t) believed_same;
      gaps = λ x y at_x at_y. distance_same x y (believed_anchored x (In-from_Contains here x at_x)) (believed_anchored y (In-from_Contains here y at_y));
      dates = λ x at. early_same x (believed_anchored x (In-from_Contains here x at));
      clips = λ x at. clip_same x (believed_anchored x (In-from_Contains here x at));
      listed = rows_same;
      sized = size_same;
    }

    -- ---- what changes

    -- what is believed of the one is believed of the other
    in_old : (x : Moment) → In x (in_order (built t)) → In x here
    in_old x at = subst (In x) (sym believed_same) (In_sorted (order (built t)) (built t).believed x at)

    old_believed : (x : Moment) → In x here → is_believed (built s) x ≡ true
    old_believed x at = is_among-Contains here x (Contains-from_In here x at)

    new_believed : (x : Moment) → In x here → is_believed (built t) x ≡ true
    new_believed x at = ap (λ b. list_any (same_moment x) b) (sym believed_same) ∙ old_believed x at

    none_loose : (a : Bool) (o : Option Moment) → ((a && is_some o) && is_none o) ≡ false
    none_loose true None = refl
    none_loose false None = refl
    none_loose a (Some c) = and_right (a && true) false refl

    no_new_clip : (x : Moment) → is_believed (built s) x ≡ true → (o : Option Moment) → clip (built s) x ≡ o → new_clip (built s) (built t) x o ≡ None
    no_new_clip x believed None e = refl
    no_new_clip x believed (Some c) e =
        ap (λ b. elim b as (λ _. Option (Moment × Moment)) [ true ↦ None | false ↦ Some (x, c) ])
        (λ i. believed i && (ap (λ o. option_eq same_moment o (Some c)) e ∙ (Decides-same_moment c c).1 refl) i)

    tells : TellsNoBelief (changes s t)
    tells = record {
      left = filter_none (λ x. is_derived x && not (is_believed (built t) x)) (in_order (built s))
          (λ x at. ap (λ b. is_derived x && not b) (new_believed x (In_sorted (order (built s)) here x at)) ∙ and_right (is_derived x) false refl);
      entered = filter_none (λ x. is_derived x && not (is_believed (built s) x)) (in_order (built t))
          (λ x at. ap (λ b. is_derived x && not b) (old_believed x (in_old x at)) ∙ and_right (is_derived x) false refl);
      loose = filter_none (λ x. is_believed (built s) x && is_some (clip (built s) x) && is_none (clip (built t) x)) (in_order (built t))
          (λ x at. ap (λ o. (is_believed (built s) x && is_some (clip (built s) x)) && is_none o) (sym (clip_same x (believed_anchored x (in_old x at)))) ∙ none_loose (is_believed (built s) x) (clip (built s) x));
      clips = filter_map_none (λ x. new_clip (built s) (built t) x (clip (built t) x)) (in_order (built t))
          (λ x at. no_new_clip x (old_believed x (in_old x at)) (clip (built t) x) (clip_same x (believed_anchored x (in_old x at))));
    }

pub alike_believe : (s t : Standing) → AreAlike s t → BelieveAlike s t × TellsNoBelief (changes s t)
alike_believe s t alike = (believe s t alike.say alike.distances, tells s t alike.say alike.distances)
