-- What is due first is decided, and what has entered when nothing waits.
use Rattle.std.proofs.Common.{◌≡◌, ◌∙◌, ◌⊎◌, inl, inr, ℕ, ◌+◌, ◌<◌, ◌≤◌, true, false, List, [], ◌∷◌, ◌++◌, length, refl, sym, ap, subst, arith}
use Rattle.std.proofs.lemmas.Int.{ints}
use Rattle.std.specs.Prelude.{ℤ, pos, ◌+ℤ◌, ◌≤ℤ◌, sum_by}
use Rattle.std.specs.List.{Contains}
use Rattle.std.proofs.lemmas.List.Elements.{All-contains}
use Rattle.std.proofs.lemmas.List.Sums.{sum_by-cons, count_by-le-length}
use Rattle.std.proofs.lemmas.List.Sorted.{IsPermutation-sym, length_permutation}
use Rattle.tmm_model.specs.Answers.{weight, size, most_size}
use Rattle.tmm_model.specs.Beliefs.{due, is_free, rules_at}
use Rattle.tmm_model.specs.Maps.{built}
use Rattle.tmm_model.specs.Moments.{Moment, After, early, rule_of, rules}
use Rattle.belief_theory.specs.Right.{IsRightTo}
use Rattle.tmm_model.specs.Standing.{Standing, far_in}
use Rattle.list_theory.proofs.Distinct.{sum_inside}
use Rattle.list_theory.proofs.Elements.{In, In-from_Contains, Contains-from_In, In-left, In-right}
use Rattle.belief_theory.proofs.Inside.{inside}
use Rattle.belief_theory.proofs.Settling.{Settling, skip, enter, right_at_end}
use Rattle.belief_theory.proofs.SoundBeliefs.{sound_timed, map_is_right, believed_right}
use Rattle.dist_net.specs.Net.{Net}
use Rattle.spots.specs.Forest.{Forest, moment, moment_at}
use Rattle.spots.specs.OfLists.{HasOccurrences}
use Rattle.spots.proofs.Nodes.{node_at, moment_at-is}
use Rattle.projection.specs.declared.pending.Pending.{Pending}
use Rattle.projection.specs.Counted.{is_due, due_rules, decisions_due}
use Rattle.spots.specs.Growing.{Adds, MayEnter}
use Rattle.projection.specs.Places.{rule_at}
use Rattle.projection.specs.Projecting.{IsEntry, Pends, IsGrown, IsGrowing, IsFirstOf, left}
use Rattle.projection.specs.Queues.{Queues, weight_at}
use Rattle.spots.proofs.Believed.{believed_once}
use Rattle.projection.proofs.OnKinds.{node_rules}
use Rattle.projection.proofs.Steps.{push_cases, too_large, pends_kept, pends_new, pends_cases, waits_more, grown_more}
use Rattle.projection.proofs.Waiting.{In-permutation, taken_once, rest_once}

-- an occurrence that has entered counts no more than all
weight_in : (s : Standing) (b : List Moment) (y : Moment) → In y b → weight (built s) y ≤ sum_by (weight (built s)) b
weight_in s [] y at = absurd at
weight_in s (z ∷ b) y (inl same) = let one : weight (built s) z ≡ weight (built s) y = ap (weight (built s)) same in omega (arith, one, sum_by-cons (weight (built s)) z b)
weight_in s (z ∷ b) y (inr at) = omega (arith, weight_in s b y at, sum_by-cons (weight (built s)) z b)

module _ (s : Standing) (net : Net) (f : Forest) (queue : List Pending) (n : ℕ) {made : ℕ} (growing : IsGrowing s net f queue n made) (p : Pending) (rest : List Pending) (next : IsFirstOf queue p rest) where
  abbrev k : Moment
  k = After (moment_at f p.trigger) (rule_at s p)

  -- what waits beside the rules on the effect
  abbrev still : Moment → List ℕ → Type 0
  still u q = Pends s f rest u q ⊎ ((u ≡ After (moment_at f p.trigger) (rule_at s p)) × Contains (rules_at s (After (moment_at f p.trigger) (rule_at s p))) q)

  p_in : In p queue
  p_in = In-permutation (p ∷ rest) queue (IsPermutation-sym queue (p ∷ rest) next.taken) p (inl refl)

  rest_in : (o : Pending) → In o rest → In o queue
  rest_in o at = In-permutation (p ∷ rest) queue (IsPermutation-sym queue (p ∷ rest) next.taken) o (inr at)

  -- one waits less
  taken_one : length queue ≡ 1 + length rest
  taken_one = omega (arith, length_permutation queue (p ∷ rest) next.taken)

  pub entry : IsEntry s f p
  entry = growing.grown.entries p p_in

  believed : Contains growing.entered (moment_at f p.trigger)
  believed =
      let (m, at) = node_at f p.trigger entry.live in
      subst (Contains growing.entered) (sym (moment_at-is f p.trigger m at)) (growing.grown.holds.own p.trigger m at)

  up : growing.date ≤ p.due.0
  up = by (due s (far_in s.premises) (moment_at f p.trigger) (rule_at s p)) growing.date p.due.0 entry.date (growing.settling.pend_later (moment_at f p.trigger) (rule_at s p) (p, p_in, refl, refl))
    where
      by : (z : ℤ) (d e : ℕ) → z ≡ pos e → pos d ≤ℤ z → d ≤ e
      by z d e is le = omega (arith, ints)

  rest_pends : (u : Moment) (q : List ℕ) → Pends s f queue u q → Pends s f rest u q ⊎ ((u ≡ moment_at f p.trigger) × (q ≡ rule_at s p))
  rest_pends u q (o, at, here, named) = elim (In-permutation queue (p ∷ rest) next.taken o at) [
    | inl same ↦ inr (sym here ∙ ap (λ z. moment_at f z.trigger) (sym same), sym named ∙ ap (rule_at s) (sym same))
    | inr there ↦ inl (o, there, here, named)
  ]

  rest_later : (u : Moment) (q : List ℕ) → Pends s f rest u q → pos p.due.0 ≤ℤ due s (far_in s.premises) u q
  rest_later u q (o, at, here, named) =
      by (due s (far_in s.premises) u q) p.due.0 o.due.0
      ((λ i. due s (far_in s.premises) (sym here i) (sym named i)) ∙ (growing.grown.entries o (rest_in o at)).date)
      (All-contains (λ z. p.due.0 ≤ z.due.0) rest o next.first (Contains-from_In rest o at))
    where
      by : (z : ℤ) (d e : ℕ) → z ≡ pos e → d ≤ e → pos d ≤ℤ z
      by z d e is le = omega (arith, ints)

  grown_rest : IsGrown s net growing.entered f rest n
  grown_rest = record {
    seen = growing.grown.seen;
    holds = growing.grown.holds;
    distinct = growing.grown.distinct;
    sized = growing.grown.sized;
    small = growing.grown.small;
    entries = λ o at. growing.grown.entries o (rest_in o at);
    once = rest_once s queue rest p growing.grown.once next.taken;
    undecided = λ o at. growing.grown.undecided o (rest_in o at);
  }

  -- the rule doesn't fire
  pub decided_blocked : is_free s (far_in s.premises) growing.entered (moment_at f p.trigger) (rule_at s p) ≡ false → IsGrowing s net f rest n (made + 1)
  decided_blocked blocked = record {
    entered = growing.entered;
    date = p.due.0;
    sound = growing.sound;
    grown = grown_rest;
    settling =
        skip s (far_in s.premises) (sound_timed s growing.sound) s.horizon growing.date p.due.0 growing.entered growing.entered (Pends s f queue) (Pends s f rest) growing.settling up (moment_at f p.trigger) (rule_at s p)
        believed entry.stands entry.date rest_pends rest_later blocked;
    each = omega (arith, growing.each, taken_one);
  }

  -- ---- the rule fires

  apart : In (After (moment_at f p.trigger) (rule_at s p)) growing.entered → ⊥
  apart = growing.grown.undecided p p_in

  pub may_enter : MayEnter s f p.trigger (rule_at s p)
  may_enter = record {
    stands = entry.stands;
    room = λ m at.
        (let in_b = In-from_Contains growing.entered (moment m) (growing.grown.holds.own p.trigger m at) in
        let counted : weight (built s) (moment m) ≡ 1 + length (rules (moment m)) + length (rules_at s (moment m)) = refl in
        omega (arith, weight_in s growing.entered (moment m) in_b, growing.grown.sized, growing.grown.small, node_rules m, counted));
    new = λ y m at same. apart (subst (λ o. In o growing.entered) same (In-from_Contains growing.entered (moment m) (growing.grown.holds.own y m at)));
  }

  module _ (free : is_free s (far_in s.premises) growing.entered (moment_at f p.trigger) (rule_at s p) ≡ true) where
    with_effect : (pends : Moment → List ℕ → Type 0)
        → ((u : Moment) (q : List ℕ) → Pends s f queue u q → pends u q ⊎ ((u ≡ moment_at f p.trigger) × (q ≡ rule_at s p)))
        → ((u : Moment) (q : List ℕ) → pends u q → pos p.due.0 ≤ℤ due s (far_in s.premises) u q)
        → ((q : List ℕ) → Contains (rules_at s (After (moment_at f p.trigger) (rule_at s p))) q → due s (far_in s.premises) (After (moment_at f p.trigger) (rule_at s p)) q ≤ℤ pos s.horizon → pends (After (moment_at f p.trigger) (rule_at s p)) q)
        → Settling s (far_in s.premises) (sound_timed s growing.sound) s.horizon p.due.0 (growing.entered ++ After (moment_at f p.trigger) (rule_at s p) ∷ []) pends
    with_effect pends keeps later_ new_pend =
        enter s (far_in s.premises) (sound_timed s growing.sound) s.horizon growing.date p.due.0 growing.entered (growing.entered ++ After (moment_at f p.trigger) (rule_at s p) ∷ []) (Pends s f queue) pends growing.settling up
        (moment_at f p.trigger) (rule_at s p) believed entry.stands entry.date keeps later_ free (by p.due.0 s.horizon entry.in_time)
        (λ y at. Contains-from_In (growing.entered ++ k ∷ []) y (In-left growing.entered (k ∷ []) y (In-from_Contains growing.entered y at)))
        (Contains-from_In (growing.entered ++ k ∷ []) k (In-right growing.entered (k ∷ []) k (inl refl)))
        (λ y at. elim (push_cases growing.entered k y (In-from_Contains (growing.entered ++ k ∷ []) y at)) [ inl before ↦ inl (Contains-from_In growing.entered y before) | inr is ↦ inr is ])
        new_pend
      where
        by : (d h : ℕ) → d ≤ h → pos d ≤ℤ pos h
        by d h le = omega (arith, ints)

    -- the rules on the effect are due later
    effect_later : (q : List ℕ) → Contains (rules_at s (After (moment_at f p.trigger) (rule_at s p))) q → pos p.due.0 ≤ℤ due s (far_in s.premises) (After (moment_at f p.trigger) (rule_at s p)) q
    effect_later q on =
        let timed = sound_timed s growing.sound in
        let occurs_t = growing.settling.member_occurs (moment_at f p.trigger) believed in
        by (early s (far_in s.premises) (After (moment_at f p.trigger) (rule_at s p))) (rule_of s q).lo p.due.0
        (timed.due_is (moment_at f p.trigger) (rule_at s p) occurs_t entry.stands ∙ entry.date)
        (timed.delayed (After (moment_at f p.trigger) (rule_at s p)) q on)
      where
        by : (z lo : ℤ) (d : ℕ) → z ≡ pos d → pos 1 ≤ℤ lo → pos d ≤ℤ (z +ℤ lo)
        by z lo d e le = omega (arith, ints)

    module _ (new : Forest) (x : ℕ) (adds : Adds s net.names f new x (After (moment_at f p.trigger) (rule_at s p))) where
      -- where the size is too large with the effect, that of the map is
      pub effect_too_large : most_size < n + weight_at s new x → most_size < size (built s)
      effect_too_large = too_large s net f new x (After (moment_at f p.trigger) (rule_at s p)) adds growing.entered rest rest n grown_rest apart in_map
        where
          in_map : (y : Moment) → In y (growing.entered ++ After (moment_at f p.trigger) (rule_at s p) ∷ []) → In y (built s).believed
          in_map y at =
              let st = with_effect still keeps_it later_ (λ q on in_time. inr (refl, on)) in
              In-from_Contains (built s).believed y
              (inside s (far_in s.premises) (sound_timed s growing.sound) s.horizon p.due.0 (growing.entered ++ After (moment_at f p.trigger) (rule_at s p) ∷ []) (built s).believed still st (believed_right s growing.sound) y
              (Contains-from_In (growing.entered ++ After (moment_at f p.trigger) (rule_at s p) ∷ []) y at))
            where
              keeps_it : (u : Moment) (q : List ℕ) → Pends s f queue u q → still u q ⊎ ((u ≡ moment_at f p.trigger) × (q ≡ rule_at s p))
              keeps_it u q pending = elim (rest_pends u q pending) [ inl waits ↦ inl (inl waits) | inr is ↦ inr is ]

              later_ : (u : Moment) (q : List ℕ) → still u q → pos p.due.0 ≤ℤ due s (far_in s.premises) u q
              later_ u q (inl waits) = rest_later u q waits
              later_ u q (inr is) = subst (λ v. pos p.due.0 ≤ℤ due s (far_in s.premises) v q) (sym is.0) (effect_later q is.1)

      module _ (queue2 : List Pending) (queues : Queues s new x (rules_at s (moment_at new x)) rest queue2) (small : n + weight_at s new x ≤ most_size) where
        other : (o : Pending) → In o rest → After (moment_at f o.trigger) (rule_at s o) ≡ After (moment_at f p.trigger) (rule_at s p) → ⊥
        other o at same =
            let one : moment_at f o.trigger ≡ moment_at f p.trigger = cc in
            let two : rule_at s o ≡ rule_at s p = cc in
            let (m, at_o) = node_at f o.trigger (growing.grown.entries o (rest_in o at)).live in
            let (q, at_p) = node_at f p.trigger entry.live in
            let node : o.trigger ≡ p.trigger = growing.grown.holds.once o.trigger p.trigger m q at_o at_p (sym (moment_at-is f o.trigger m at_o) ∙ one ∙ moment_at-is f p.trigger q at_p) in
            taken_once s queue rest p growing.grown.once next.taken o at node two

        leaf : (q : List ℕ) → In (After (After (moment_at f p.trigger) (rule_at s p)) q) growing.entered → ⊥
        leaf q at =
            apart (In-from_Contains growing.entered (After (moment_at f p.trigger) (rule_at s p)) (growing.settling.fires (After (moment_at f p.trigger) (rule_at s p)) q (Contains-from_In growing.entered (After (After (moment_at f p.trigger) (rule_at s p)) q) at)).believed)

        keeps : (u : Moment) (q : List ℕ) → Pends s f queue u q → Pends s new queue2 u q ⊎ ((u ≡ moment_at f p.trigger) × (q ≡ rule_at s p))
        keeps u q pending = elim (rest_pends u q pending) [
          | inl waits ↦ inl (pends_kept s net f new x (After (moment_at f p.trigger) (rule_at s p)) adds growing.entered rest queue2 n grown_rest apart queues u q waits)
          | inr is ↦ inr is
        ]

        later_still : (u : Moment) (q : List ℕ) → Pends s new queue2 u q → pos p.due.0 ≤ℤ due s (far_in s.premises) u q
        later_still u q pending = elim (pends_cases s net f new x (After (moment_at f p.trigger) (rule_at s p)) adds growing.entered rest queue2 n grown_rest apart queues u q pending) [
          | inl waits ↦ rest_later u q waits
          | inr is ↦ subst (λ v. pos p.due.0 ≤ℤ due s (far_in s.premises) v q) (sym is.0) (effect_later q is.1)
        ]

        -- its effect has entered
        pub decided_fires : IsGrowing s net new queue2 (n + weight_at s new x) (made + 1)
        decided_fires = record {
          entered = growing.entered ++ After (moment_at f p.trigger) (rule_at s p) ∷ [];
          date = p.due.0;
          sound = growing.sound;
          grown = grown_more s net f new x (After (moment_at f p.trigger) (rule_at s p)) adds growing.entered rest queue2 n grown_rest apart queues other leaf small;
          settling = with_effect (Pends s new queue2) keeps later_still (pends_new s net f new x (After (moment_at f p.trigger) (rule_at s p)) adds growing.entered rest queue2 n grown_rest apart queues);
          each = omega (arith, growing.each, taken_one, waits_more s net f new x (After (moment_at f p.trigger) (rule_at s p)) adds growing.entered rest queue2 n grown_rest apart queues);
        }

        pub left_less : left queue2 (n + weight_at s new x) ≤ left rest n
        left_less =
            let counted : weight_at s new x ≡ 1 + length (rules (moment_at new x)) + length (rules_at s (moment_at new x)) = refl in
            omega (arith, queues.count, count_by-le-length (is_due s (moment_at new x)) (rules_at s (moment_at new x)), counted, small)

-- ---- at the end

module _ (s : Standing) (net : Net) (f : Forest) (n : ℕ) {made : ℕ} (growing : IsGrowing s net f [] n made) where
  right : IsRightTo s (far_in s.premises) s.horizon growing.entered
  right = right_at_end s (far_in s.premises) (sound_timed s growing.sound) s.horizon growing.date growing.entered (record {
    has_roots = growing.settling.has_roots;
    member_occurs = growing.settling.member_occurs;
    fires = growing.settling.fires;
    early_enough = growing.settling.early_enough;
    settled = λ u q at on in_time. elim (growing.settling.settled u q at on in_time) [ inl waits ↦ absurd waits.1 | inr made ↦ inr made ];
    pend_later = λ u q never. absurd never;
  })

  pub holds_at_end : HasOccurrences (built s).believed f
  holds_at_end =
      let same = (map_is_right s growing.sound).1 growing.entered right in
      record {
        own = λ x m at. (same (moment m)).0 (growing.grown.holds.own x m at);
        all = λ k at. growing.grown.holds.all k ((same k).1 at);
        once = growing.grown.holds.once;
      }

  -- over what has entered is summed what is over what is believed
  sum_at_end : (h : Moment → ℕ) → sum_by h growing.entered ≡ sum_by h (built s).believed
  sum_at_end h =
      let same = (map_is_right s growing.sound).1 growing.entered right in
      let no_more = sum_inside h growing.entered (built s).believed growing.grown.distinct (λ y at. In-from_Contains (built s).believed y ((same y).0 (Contains-from_In growing.entered y at))) in
      let no_less = sum_inside h (built s).believed growing.entered (believed_once s growing.sound) (λ y at. In-from_Contains growing.entered y ((same y).1 (Contains-from_In (built s).believed y at))) in
      omega (arith, no_more, no_less)

  pub size_at_end : n ≡ size (built s)
  size_at_end = growing.grown.sized ∙ sum_at_end (weight (built s))

  pub made_at_end : made ≡ decisions_due s
  made_at_end = omega (arith, growing.each, sum_at_end (due_rules s))
