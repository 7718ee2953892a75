-- The outcome of a decision rests on the tokens alone that bear on what it reads, and of these on
-- those that begin surely at or before its event.
use Rattle.std.proofs.Common.{◌≡◌, ◌∙◌, ℕ, Bool, true, false, not, ◌&&◌, List, [], ◌∷◌, map, refl, ap, inl, inr}
use Rattle.std.specs.Prelude.{Option, Some, None, pos, int_le, filter}
use Rattle.std.specs.List.{list_any}
use Rattle.std.specs.Option.{option_map}
use Rattle.std.specs.Ordering.{on}
use Rattle.std.specs.Cmp.Lexicographic.{bytes_decides}
use Rattle.std.specs.declared.cmp.Ordering.{Ordering}
use Rattle.tmm_model.specs.declared.bound.Bound.{Bound}
use Rattle.tmm_model.specs.declared.token.TokenRow.{TokenRow}
use Rattle.tmm_model.specs.Beliefs.{class_of, token_of, tokens, contradicts_in, due, holder, supporters, against}
use Rattle.belief_theory.specs.Outcomes.{Outcome, beyond, tried, outcome}
use Rattle.tmm_model.specs.Firsts.{earliest, first}
use Rattle.tmm_model.specs.Moments.{Moment, Distances, distance, occ_cmp, read_by, rule_of}
use Rattle.tmm_model.specs.Points.{same_name}
use Rattle.belief_theory.specs.Touched.{bears_on, is_watched}
use Rattle.tmm_model.specs.Standing.{Standing}
use Rattle.tmm_model.specs.Tokens.{is_by, is_before, clips, cuts, lasts_to, supports}
use Rattle.list_theory.proofs.Elements.{In, both, list_any-In, In-list_any, In-filter, filter-In, In-filter_map, In-left, In-right}
use Rattle.belief_theory.proofs.Firsts.{least_is, one_spot}
use Rattle.belief_theory.proofs.Order.{IsSpelt, ordered}
use Rattle.belief_theory.proofs.Rivals.{class_bears, contradicts_bears}
use Rattle.belief_theory.proofs.Watched.{class-token_of}

module _ (s : Standing) (far : Distances) (t : Moment) (r : List ℕ) where
  abbrev gap : Moment → Moment → Bound
  gap = distance s far

  -- each token of b that r watches and that begins by t is one of c
  abbrev pub Sees : List Moment → List Moment → Type 0
  Sees b c = (k : TokenRow Moment) → is_watched s r k ≡ true → is_by gap k.spot t ≡ true → In k (tokens s b) → In k (tokens s c)

  abbrev holds_in : List Moment → List ℕ → TokenRow Moment → Bool
  holds_in b f k = supports (contradicts_in s) gap (tokens s b) f t t k

  own_class : (b : List Moment) (k : TokenRow Moment) → In k (tokens s b) → k.class ≡ class_of s k.fact
  own_class b k at = let (x, _, e) = In-filter_map (token_of s) b k at in class-token_of s x k e

  module _ (f : List ℕ) (given : In f (read_by (rule_of s r))) where
    is_seen : (k : TokenRow Moment) → bears_on s f k ≡ true → is_watched s r k ≡ true
    is_seen k bears = In-list_any (λ fact. bears_on s fact k) (read_by (rule_of s r)) f given bears

    lasts_alike : (b c : List Moment) → Sees c b → (k : TokenRow Moment) → k.fact ≡ f → k.class ≡ class_of s f → (o : Option Moment)
        → lasts_to (contradicts_in s) gap (tokens s b) k t o ≡ true → lasts_to (contradicts_in s) gap (tokens s c) k t o ≡ true
    lasts_alike b c sees k fact own (Some e) h = h
    lasts_alike b c sees k fact own None h = by (list_any (cuts (contradicts_in s) gap k t) (tokens s c)) refl
      where
        found : list_any (cuts (contradicts_in s) gap k t) (tokens s c) ≡ true → list_any (cuts (contradicts_in s) gap k t) (tokens s b) ≡ true
        found e =
            let (row, at, cut) = list_any-In (cuts (contradicts_in s) gap k t) (tokens s c) e in
            let one = both (clips (contradicts_in s) gap k row) (is_by gap row.spot t) cut in
            let differ = (both (contradicts_in s k row) (is_before gap k.spot row.spot) one.0).0 in
            In-list_any (cuts (contradicts_in s) gap k t) (tokens s b) row (sees row (is_seen row (contradicts_bears s f k row fact own differ)) one.1 at) cut

        by : (v : Bool) → list_any (cuts (contradicts_in s) gap k t) (tokens s c) ≡ v → not v ≡ true
        by false e = refl
        by true e = let g : list_any (cuts (contradicts_in s) gap k t) (tokens s b) ≡ true = found e in let u : not (list_any (cuts (contradicts_in s) gap k t) (tokens s b)) ≡ true = h in cc

    -- a supporter among b is one among c
    support_alike : (b c : List Moment) → Sees b c → Sees c b → (k : TokenRow Moment) → In k (tokens s b) → holds_in b f k ≡ true → In k (tokens s c) × (holds_in c f k ≡ true)
    support_alike b c into back k at h =
        let outer = both (same_name k.fact f && is_by gap k.spot t) (lasts_to (contradicts_in s) gap (tokens s b) k t k.end) h in
        let inner = both (same_name k.fact f) (is_by gap k.spot t) outer.0 in
        let fact : k.fact ≡ f = (bytes_decides k.fact f).0 inner.0 in
        let own : k.class ≡ class_of s f = own_class b k at ∙ ap (class_of s) fact in
        let lasting = lasts_alike b c back k fact own k.end outer.1 in
        (into k (is_seen k (class_bears s f k own)) inner.1 at, λ i. outer.0 i && lasting i)

  abbrev by_begin : TokenRow Moment → TokenRow Moment → Ordering
  by_begin = on (λ k. k.spot) (occ_cmp s far)

  abbrev pub AllSpelt : List Moment → Type 0
  AllSpelt b = (k : TokenRow Moment) → In k (tokens s b) → IsSpelt k.spot

  -- two lists with the same members have one first
  one_first : (xs ys : List (TokenRow Moment)) → ((k : TokenRow Moment) → In k xs → IsSpelt k.spot) → ((k : TokenRow Moment) → In k xs → In k ys) → ((k : TokenRow Moment) → In k ys → In k xs)
      → option_map (λ k. k.spot) (first by_begin xs) ≡ option_map (λ k. k.spot) (first by_begin ys)
  one_first [] [] live into back = refl
  one_first [] (y ∷ ys) live into back = absurd (back y (inl refl))
  one_first (x ∷ xs) [] live into back = absurd (into x (inl refl))
  one_first (x ∷ xs) (y ∷ ys) live into back =
      let one = least_is (ordered s far) x xs live in
      let two = least_is (ordered s far) y ys (λ k at. live k (back k at)) in
      let k : TokenRow Moment = earliest by_begin x xs in
      let c : TokenRow Moment = earliest by_begin y ys in
      ap Some (one_spot (ordered s far) k.spot c.spot (live k one.member) (live c (back c two.member)) (one.below c (back c two.member)) (two.below k (into k one.member)))

  module _ (b c : List Moment) (into : Sees b c) (back : Sees c b) (spelt : AllSpelt b) where
    holder_alike : (f : List ℕ) → In f (read_by (rule_of s r)) → holder s far b f t t ≡ holder s far c f t t
    holder_alike f given =
        one_first (filter (holds_in b f) (tokens s b)) (filter (holds_in c f) (tokens s c))
        (λ k at. spelt k (In-filter (holds_in b f) (tokens s b) k at).0)
        (λ k at. let h = In-filter (holds_in b f) (tokens s b) k at in let g = support_alike f given b c into back k h.0 h.1 in filter-In (holds_in c f) (tokens s c) k g.0 g.1)
        (λ k at. let h = In-filter (holds_in c f) (tokens s c) k at in let g = support_alike f given c b back into k h.0 h.1 in filter-In (holds_in b f) (tokens s b) k g.0 g.1)

    all_alike : (facts : List (List ℕ)) → ((f : List ℕ) → In f facts → In f (read_by (rule_of s r))) → map (λ f. holder s far b f t t) facts ≡ map (λ f. holder s far c f t t) facts
    all_alike [] sub = refl
    all_alike (f ∷ facts) sub =
        let here = holder_alike f (sub f (inl refl)) in
        let rest = all_alike facts (λ g at. sub g (inr at)) in
        λ i. here i ∷ rest i

    -- **The outcome is the same among both.**
    pub outcome_local : outcome s far b t r ≡ outcome s far c t r
    outcome_local =
        let given = (rule_of s r).given in
        let exceptions = (rule_of s r).exceptions in
        let found : supporters s far b t r ≡ supporters s far c t r = all_alike given (λ f at. In-left given exceptions f at) in
        let objected : against s far b t r ≡ against s far c t r = all_alike exceptions (λ f at. In-right given exceptions f at) in
        λ i. elim (int_le (due s far t r) (pos s.horizon)) as (λ _. Outcome) [ false ↦ beyond | true ↦ tried (found i) (objected i) ]
