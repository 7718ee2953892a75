-- What a map answers can be said by values of the code: each occurrence of which it tells is one
-- that has a word.
use Rattle.std.proofs.Common.{◌≡◌, ◌∙◌, ℕ, zero, suc, ◌-◌, Bool, true, false, not, ◌&&◌, List, [], ◌∷◌, ◌++◌, map, length, take, filter, refl, sym, ap, subst, inl, inr}
use Rattle.std.specs.Prelude.{Option, Some, None, is_some, is_none}
use Rattle.std.specs.List.{filter_map}
use Rattle.std.specs.Option.{option_eq, option_map, option_map_or, option_and_then}
use Rattle.std.specs.Ordering.{on}
use Rattle.tmm_model.specs.declared.answer.Answer.TheVariants.{Yes, No, Unordered}
use Rattle.tmm_model.specs.declared.answer.Cause.TheVariants.{Late, Clipped, Ends}
use Rattle.tmm_model.specs.declared.point.PointName.TheVariants.{Start, Begin, End}
use Rattle.tmm_model.specs.declared.premise.Premise.{Premise}
use Rattle.tmm_model.specs.declared.premise.Premise.TheVariants.{Class, Kind, Point, Event, Token, Span, Dist, Rule, Protect, Against}
use Rattle.tmm_model.specs.declared.token.TokenRow.{TokenRow}
use Rattle.tmm_model.specs.Answers.{Fault, late, clipped, ends, Finding, holds, fails, unordered, does_hold, most_blames, first_believed, clip_of, clip, fault_before, fault, tokens_for, failing, ask, broken, reports, row, rows, fault_of, blame_of, finding_of, report_of, row_of}
use Rattle.tmm_model.specs.Beliefs.{is_of, token_of, contradicts_in, holder}
use Rattle.tmm_model.specs.Changes.{in_order, is_broken, new_clip, delta, clip_pair, delta_of}
use Rattle.tmm_model.specs.Maps.{TimeMap, built, gap, order, believed_tokens, is_believed}
use Rattle.tmm_model.specs.Moments.{Moment, At, After, is_derived, same_moment, moment_of, early}
use Rattle.tmm_model.specs.Points.{same_name}
use Rattle.tmm_model.specs.Standing.{Standing}
use Rattle.tmm_model.specs.Tokens.{is_by, clips, cuts, supports}
use Rattle.list_theory.specs.WellNamed.{IsSound}
use Rattle.list_theory.proofs.Elements.{In, Contains-from_In, In-filter_map, In-map, In-filter}
use Rattle.list_theory.proofs.Pointwise.{In_sorted}
use Rattle.belief_theory.proofs.Moments.{along-push}
use Rattle.belief_theory.proofs.OneRight.{spot-token_of}
use Rattle.belief_theory.proofs.Order.{IsSpelt}
use Rattle.belief_theory.proofs.Outcomes.{first_token_in}
use Rattle.belief_theory.proofs.SoundBeliefs.{believed_occurs}
use Rattle.belief_theory.proofs.Spelt.{spelt}

-- ---- values that say what is wanted

-- some value is seen as x
abbrev pub IsSaid : {X Y : Type 0} → (Y → X) → X → Type 0
IsSaid {X} {Y} f x = (y : Y) × (f y ≡ x)

pub all_said : {X Y : Type 0} (f : Y → X) (xs : List X) → ((x : X) → In x xs → IsSaid f x) → IsSaid (map f) xs
all_said f [] each = ([], refl)
all_said f (x ∷ xs) each =
    let (y, is) = each x (inl refl) in
    let (ys, are) = all_said f xs (λ z at. each z (inr at)) in
    (y ∷ ys, λ i. is i ∷ are i)

maybe_said : {X Y : Type 0} (f : Y → X) (o : Option X) → ((x : X) → o ≡ Some x → IsSaid f x) → IsSaid (option_map f) o
maybe_said f None each = (None, refl)
maybe_said f (Some x) each = let (y, is) = each x refl in (Some y, ap Some is)

In-take : {X : Type 0} (n : ℕ) (xs : List X) (x : X) → In x (take n xs) → In x xs
In-take zero xs x at = absurd at
In-take (suc n) [] x at = absurd at
In-take (suc n) (y ∷ ys) x (inl is) = inl is
In-take (suc n) (y ∷ ys) x (inr at) = inr (In-take n ys x at)

-- ---- occurrences

-- a moment that is an occurrence, as a script writes it
abbrev pub IsOcc : Moment → Type 0
IsOcc x = IsSaid moment_of x

spelt_occ : (x : Moment) → IsSpelt x → IsOcc x
spelt_occ (At Start) h = absurd h
spelt_occ (At (End k)) h = absurd h
spelt_occ (At (Begin k)) h = (record { root = k; rules = record { items = []; room = 0 } }, refl)
spelt_occ (After t r) h =
    let (o, is) = spelt_occ t h.0 in (
      record { root = o.root; rules = record { items = o.rules.items ++ r ∷ []; room = 0 } },
      along-push (At (Begin o.root)) o.rules.items r ∙ ap (λ (u : Moment). After u r) is,
    )

-- each believed occurrence of the map is one
abbrev pub TellsOccs : TimeMap → Type 0
TellsOccs m = (x : Moment) → In x m.believed → IsOcc x

pub tells_occs : (s : Standing) → IsSound s → TellsOccs (built s)
tells_occs s sound x at = spelt_occ x (spelt s sound.well_formed x (believed_occurs s sound x (Contains-from_In (built s).believed x at)))

-- ---- one map

module _ (m : TimeMap) (all : TellsOccs m) where
  token_said : (k : TokenRow Moment) → In k (believed_tokens m) → IsOcc k.spot
  token_said k at =
      let (x, there, made) = In-filter_map (token_of m.list) m.believed k at in
      subst IsOcc (sym (spot-token_of m.list x k made)) (all x there)

  pub first_said : (test : TokenRow Moment → Bool) (x : Moment) → first_believed m test ≡ Some x → IsOcc x
  first_said test x e =
      let (k, there, _, is) = first_token_in m.list m.far m.believed test x e in
      subst IsOcc is (token_said k there)

  in_order_said : (x : Moment) → In x (in_order m) → IsOcc x
  in_order_said x at = all x (In_sorted (order m) m.believed x at)

  -- ---- clips

  clip_of_said : (k : TokenRow Moment) (c : Moment) → clip_of m k ≡ Some c → IsOcc c
  clip_of_said k c e = by k.end e
    where
      by : (o : Option Moment) → elim o as (λ _. Option Moment) [ Some e ↦ None | None ↦ first_believed m (clips (contradicts_in m.list) (gap m) k) ] ≡ Some c → IsOcc c
      by (Some q) is = cc
      by None is = first_said (clips (contradicts_in m.list) (gap m) k) c is

  clip_said : (x c : Moment) → clip m x ≡ Some c → IsOcc c
  clip_said x c e = by (token_of m.list x) e
    where
      by : (o : Option (TokenRow Moment)) → option_and_then (clip_of m) o ≡ Some c → IsOcc c
      by None is = cc
      by (Some k) is = clip_of_said k c is

  -- ---- whether a fact holds

  fault_said : (p q : Moment) (k : TokenRow Moment) → IsSaid fault_of (fault m p q k)
  fault_said p q k = by (is_by (gap m) k.spot p)
    where
      cut : (o : Option Moment) → first_believed m (cuts (contradicts_in m.list) (gap m) k q) ≡ o → IsSaid fault_of (option_map_or clipped o ends)
      cut None is = (Ends, refl)
      cut (Some c) is = let (o, same) = first_said (cuts (contradicts_in m.list) (gap m) k q) c is in (Clipped o, ap clipped same)

      lasting : (o : Option Moment) → IsSaid fault_of (fault_before m k q o)
      lasting (Some e) = (Ends, refl)
      lasting None = cut (first_believed m (cuts (contradicts_in m.list) (gap m) k q)) refl

      by : (b : Bool) → IsSaid fault_of (elim b as (λ _. Fault) [ false ↦ late | true ↦ fault_before m k q k.end ])
      by false = (Late, refl)
      by true = lasting k.end

  failing_said : (fact : List ℕ) (p q : Moment) → IsSaid finding_of (failing m p q (tokens_for m fact))
  failing_said fact p q =
      let ks = tokens_for m fact in
      let by_fact : TokenRow Moment → Bool = λ k. same_name k.fact fact in
      let blame : TokenRow Moment → Moment × Fault = λ k. (k.spot, fault m p q k) in
      let (blames, are) = all_said blame_of (map blame (take most_blames ks)) (λ b at.
      (let (k, there, is) = In-map blame (take most_blames ks) b at in
      let among : In k (believed_tokens m) = (In-filter by_fact (believed_tokens m) k (In_sorted (on (λ k. k.spot) (order m)) (filter by_fact (believed_tokens m)) k (In-take most_blames ks k there))).0 in
      let (o, same) = token_said k among in
      let (c, because) = fault_said p q k in
      (record { token = o; cause = c }, (λ i. (same i, because i)) ∙ is))) in
      (No (record { items = blames; room = 0 }) (length ks - most_blames), ap (λ (l : List (Moment × Fault)). fails l (length ks - most_blames)) are)

  pub ask_said : (fact : List ℕ) (p q : Moment) → IsSaid finding_of (ask m fact p q)
  ask_said fact p q = by (is_by (gap m) p q)
    where
      held : (o : Option Moment) → holder m.list m.far m.believed fact p q ≡ o → IsSaid finding_of (elim o as (λ _. Finding) [ Some k ↦ holds k | None ↦ failing m p q (tokens_for m fact) ])
      held (Some k) is = let (o, same) = first_said (supports (contradicts_in m.list) (gap m) (believed_tokens m) fact p q) k is in (Yes o, ap holds same)
      held None is = failing_said fact p q

      by : (b : Bool) → IsSaid finding_of (elim b as (λ _. Finding) [ false ↦ unordered | true ↦ elim (holder m.list m.far m.believed fact p q) [ Some k ↦ holds k | None ↦ failing m p q (tokens_for m fact) ] ])
      by false = (Unordered, refl)
      by true = held (holder m.list m.far m.believed fact p q) refl

  -- ---- protections and rows

  report_said : (p : Premise) (r : List ℕ × Finding) → broken m p ≡ Some r → IsSaid report_of r
  report_said (Protect name fact p q) r e = by (does_hold (ask m fact (At p) (At q))) e
    where
      by : (b : Bool) → elim b as (λ _. Option (List ℕ × Finding)) [ true ↦ None | false ↦ Some (name, ask m fact (At p) (At q)) ] ≡ Some r → IsSaid report_of r
      by true is = cc
      by false is =
          let (a, same) = ask_said fact (At p) (At q) in
          let one : (name, ask m fact (At p) (At q)) ≡ r = cc in
          (record { name = name; answer = a }, (λ i. (name, same i)) ∙ one)
  report_said (Class name facts) r e = cc
  report_said (Kind name) r e = cc
  report_said (Point name) r e = cc
  report_said (Event name kind) r e = cc
  report_said (Token name fact) r e = cc
  report_said (Span name fact) r e = cc
  report_said (Dist name from to lo hi) r e = cc
  report_said (Rule name trigger lo hi effect given unless_facts) r e = cc
  report_said (Against name one other) r e = cc

  each_report : (r : List ℕ × Finding) → In r (reports m) → IsSaid report_of r
  each_report r at = let (p, _, e) = In-filter_map (broken m) m.list.premises r at in report_said p r e

  pub reports_said : IsSaid (map report_of) (reports m)
  reports_said = all_said report_of (reports m) each_report

  pub rows_said : IsSaid (map row_of) (rows m)
  rows_said = all_said row_of (rows m) (λ r at.
      (let (x, there, is) = In-map (row m) (in_order m) r at in
      let (o, same) = in_order_said x there in
      let (c, clip_is) = maybe_said moment_of (clip m x) (clip_said x) in
      let what = option_map_or (λ y. y.1) (is_of m.list x) [] in (
        record { early = early m.list m.far x; occ = o; what = what; clip = c },
        (λ i. record { date = early m.list m.far x; occ = same i; what = what; clip = clip_is i }) ∙ is,
      )))

-- ---- what an edit changes

module _ (old new : TimeMap) (before : TellsOccs old) (now : TellsOccs new) where
  kept_said : (m : TimeMap) → TellsOccs m → (test : Moment → Bool) → IsSaid (map moment_of) (filter test (in_order m))
  kept_said m all test = all_said moment_of (filter test (in_order m)) (λ x at. in_order_said m all x (In-filter test (in_order m) x at).0)

  pair_said : (c : Moment × Moment) → In c (filter_map (λ x. new_clip old new x (clip new x)) (in_order new)) → IsSaid clip_pair c
  pair_said pair at =
      let (x, there, e) = In-filter_map (λ x. new_clip old new x (clip new x)) (in_order new) pair at in
      by x there (clip new x) refl e
    where
      tell : (x c : Moment) → In x (in_order new) → clip new x ≡ Some c → (b : Bool)
          → elim b as (λ _. Option (Moment × Moment)) [ true ↦ None | false ↦ Some (x, c) ] ≡ Some pair → IsSaid clip_pair pair
      tell x c there is true e = cc
      tell x c there is false e =
          let (token, same) = in_order_said new now x there in
          let (by, clips_it) = clip_said new now x c is in
          let one : (x, c) ≡ pair = cc in
          (record { token = token; by = by }, (λ i. (same i, clips_it i)) ∙ one)

      by : (x : Moment) → In x (in_order new) → (o : Option Moment) → clip new x ≡ o → new_clip old new x o ≡ Some pair → IsSaid clip_pair pair
      by x there None is e = cc
      by x there (Some c) is e = tell x c there is (is_believed old x && option_eq same_moment (clip old x) (Some c)) e

  pub changes_said : IsSaid delta_of (delta old new)
  changes_said =
      let (left, left_is) = kept_said old before (λ x. is_derived x && not (is_believed new x)) in
      let (entered, entered_is) = kept_said new now (λ x. is_derived x && not (is_believed old x)) in
      let (loose, loose_is) = kept_said new now (λ x. is_believed old x && is_some (clip old x) && is_none (clip new x)) in
      let (clips, clips_are) = all_said clip_pair (filter_map (λ x. new_clip old new x (clip new x)) (in_order new)) pair_said in
      let (broken_now, broken_is) = all_said report_of (filter (λ r. not (is_broken old r.0)) (reports new))
      (λ r at. each_report new now r (In-filter (λ r. not (is_broken old r.0)) (reports new) r at).0) in (
        record {
          erased = record { items = (delta old new).erased; room = 0 };
          left = record { items = left; room = 0 };
          entered = record { items = entered; room = 0 };
          loose = record { items = loose; room = 0 };
          clips = record { items = clips; room = 0 };
          broken = record { items = broken_now; room = 0 };
          mended = record { items = (delta old new).mended; room = 0 };
        },
        λ i. record {
          erased = (delta old new).erased;
          left = left_is i;
          entered = entered_is i;
          loose = loose_is i;
          clips = clips_are i;
          broken = broken_is i;
          mended = (delta old new).mended;
        },
      )
