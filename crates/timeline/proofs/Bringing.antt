-- What the rules on events bring about, one after the other, and what it counts.
use Rattle.std.proofs.Common.{◌≡◌, ◌∙◌, ℕ, zero, suc, ◌+◌, ◌<◌, ◌≤◌, Bool, List, [], ◌∷◌, ◌++◌, map, take, drop, length, sym, ap, subst, inl, inr, append-nil, arith}
use Rattle.std.specs.Prelude.{filter, sum_by, slice_index_or}
use Rattle.std.specs.List.{flat_map}
use Rattle.std.proofs.lemmas.Grind.{flat_map-append}
use Rattle.std.proofs.lemmas.List.{map-append, take_more, take-append-drop}
use Rattle.std.proofs.lemmas.List.Elements.{filter-append}
use Rattle.std.proofs.lemmas.List.Sums.{sum_by-append}
use Rattle.tmm_model.specs.declared.refusal.Refusal.TheVariants.{LimitLine, Form, Taken, Unknown, Sort, LimitPremises, LimitPoints, Cycle, LimitSize}
use Rattle.tmm_model.specs.declared.refusal.Stop.{Stop}
use Rattle.tmm_model.specs.declared.refusal.Stop.TheVariants.{Refused, NoMemory}
use Rattle.tmm_model.specs.Answers.{weight}
use Rattle.tmm_model.specs.Maps.{TimeMap}
use Rattle.tmm_model.specs.Moments.{Moment, After}
use Rattle.list_theory.proofs.Elements.{In}
use Rattle.timeline.specs.declared.calendar.Calendar.{Calendar}
use Rattle.timeline.specs.declared.row.Row.{Row}
use Rattle.timeline.specs.Calendars.{Brought}
use Rattle.timeline.specs.Days.{brings_about, effects_of}
use Rattle.timeline.specs.Rows.{moment}
use Rattle.timeline.specs.Told.{IsTooLarge}
use Rattle.timeline.proofs.Calendars.{Brought-then}

-- what stops at a size stops at a larger one
pub too_large-more : (n k : ℕ) (stop : Stop) → n ≤ k → IsTooLarge n stop → IsTooLarge k stop
too_large-more n k NoMemory more h = tt
too_large-more n k (Refused LimitSize) more h = omega arith
too_large-more n k (Refused LimitLine) more h = absurd h
too_large-more n k (Refused Form) more h = absurd h
too_large-more n k (Refused (Taken w)) more h = absurd h
too_large-more n k (Refused (Unknown w)) more h = absurd h
too_large-more n k (Refused (Sort w)) more h = absurd h
too_large-more n k (Refused LimitPremises) more h = absurd h
too_large-more n k (Refused LimitPoints) more h = absurd h
too_large-more n k (Refused (Cycle sum steps)) more h = absurd h

-- what is found at a place is an element
pub at_index : {X : Type 0} (xs : List X) (i : ℕ) (x : X) → i < length xs → x ≡ slice_index_or xs i x → In x xs
at_index [] i x h e = absurd (omega arith)
at_index (y ∷ xs) zero x h e = inl (sym e)
at_index (y ∷ xs) (suc i) x h e = inr (at_index xs i x (omega arith) e)

-- a front counts no more than the whole, where parts count one by one
pub front_fewer : {X : Type 0} (f : List X → ℕ) → ((xs ys : List X) → f (xs ++ ys) ≡ f xs + f ys) → (xs : List X) (k : ℕ) → f (take k xs) ≤ f xs
front_fewer f parts xs k =
    let whole = parts (take k xs) (drop k xs) in
    let same : f (take k xs ++ drop k xs) ≡ f xs = ap f (take-append-drop k xs) in
    omega arith

module _ (m : TimeMap) (held : List ℕ → Bool) where
  module _ (t : Moment) where
    -- what rules of these names bring about on the event
    abbrev pub brought : List (List ℕ) → List Moment
    brought names = map (After t) (filter (brings_about m held t) names)

    pub brought-append : (ns ks : List (List ℕ)) → brought (ns ++ ks) ≡ brought ns ++ brought ks
    brought-append ns ks = ap (map (After t)) (filter-append (brings_about m held t) ns ks) ∙ map-append (After t) (filter (brings_about m held t) ns) (filter (brings_about m held t) ks)

    abbrev pub brought_size : List (List ℕ) → ℕ
    brought_size names = sum_by (weight m) (brought names)

    module _ (name : ℕ → List ℕ) (places : List ℕ) (i : ℕ) (below : i < length places) where
      more_names : map name (take (i + 1) places) ≡ map name (take i places) ++ name (slice_index_or places i 0) ∷ []
      more_names = ap (map name) (take_more places i 0 below) ∙ map-append name (take i places) (slice_index_or places i 0 ∷ [])

      -- one rule more
      pub one_rule : (a b c : Calendar) → Brought m (brought (map name (take i places))) a b → Brought m (brought (name (slice_index_or places i 0) ∷ [])) b c → Brought m (brought (map name (take (i + 1) places))) a c
      one_rule a b c first next =
          subst (λ xs. Brought m xs a c) (sym (ap brought more_names ∙ brought-append (map name (take i places)) (name (slice_index_or places i 0) ∷ [])))
          (Brought-then m (brought (map name (take i places))) (brought (name (slice_index_or places i 0) ∷ [])) a b c first next)

      -- at which all is too large
      pub rule_too_large : (a b : Calendar) (stop : Stop) → Brought m (brought (map name (take i places))) a b → IsTooLarge (b.size + brought_size (name (slice_index_or places i 0) ∷ [])) stop
          → IsTooLarge (a.size + brought_size (map name places)) stop
      rule_too_large a b stop first h =
          let parts = λ (xs ys : List ℕ). (let e : brought_size (map name (xs ++ ys)) ≡ brought_size (map name xs) + brought_size (map name ys) =
          ap brought_size (map-append name xs ys) ∙ ap (sum_by (weight m)) (brought-append (map name xs) (map name ys)) ∙ sum_by-append (weight m) (brought (map name xs)) (brought (map name ys)) in e) in
          let fewer : brought_size (map name (take (i + 1) places)) ≤ brought_size (map name places) = front_fewer (λ xs. brought_size (map name xs)) parts places (i + 1) in
          let more : brought_size (map name (take (i + 1) places)) ≡ brought_size (map name (take i places)) + brought_size (name (slice_index_or places i 0) ∷ []) =
          ap brought_size more_names ∙ ap (sum_by (weight m)) (brought-append (map name (take i places)) (name (slice_index_or places i 0) ∷ []))
          ∙ sum_by-append (weight m) (brought (map name (take i places))) (brought (name (slice_index_or places i 0) ∷ [])) in
          let size : b.size ≡ a.size + brought_size (map name (take i places)) = first.size in
          too_large-more (b.size + brought_size (name (slice_index_or places i 0) ∷ [])) (a.size + brought_size (map name places)) stop (omega arith) h

  -- what the rules on these events bring about
  abbrev pub all_brought : List Row → List Moment
  all_brought rows = flat_map (effects_of m held) (map moment rows)

  all_brought-append : (xs ys : List Row) → all_brought (xs ++ ys) ≡ all_brought xs ++ all_brought ys
  all_brought-append xs ys = ap (flat_map (effects_of m held)) (map-append moment xs ys) ∙ flat_map-append (effects_of m held) (map moment xs) (map moment ys)

  abbrev pub all_size : List Row → ℕ
  all_size rows = sum_by (weight m) (all_brought rows)

  module _ (rows : List Row) (i : ℕ) (r : Row) (below : i < length rows) (is : r ≡ slice_index_or rows i r) where
    more_brought : all_brought (take (i + 1) rows) ≡ all_brought (take i rows) ++ effects_of m held (moment r)
    more_brought =
        ap all_brought (take_more rows i r below ∙ ap (λ y. take i rows ++ y ∷ []) (sym is))
        ∙ all_brought-append (take i rows) (r ∷ [])
        ∙ ap (λ l. all_brought (take i rows) ++ l) (append-nil (effects_of m held (moment r)))

    -- one event more
    pub one_event : (a b c : Calendar) → Brought m (all_brought (take i rows)) a b → Brought m (effects_of m held (moment r)) b c → Brought m (all_brought (take (i + 1) rows)) a c
    one_event a b c first next =
        subst (λ xs. Brought m xs a c) (sym more_brought) (Brought-then m (all_brought (take i rows)) (effects_of m held (moment r)) a b c first next)

    -- at which all is too large
    pub event_too_large : (a b : Calendar) (stop : Stop) → Brought m (all_brought (take i rows)) a b → IsTooLarge (b.size + sum_by (weight m) (effects_of m held (moment r))) stop
        → IsTooLarge (a.size + all_size rows) stop
    event_too_large a b stop first h =
        let parts = λ (xs ys : List Row). (let e : all_size (xs ++ ys) ≡ all_size xs + all_size ys = ap (sum_by (weight m)) (all_brought-append xs ys) ∙ sum_by-append (weight m) (all_brought xs) (all_brought ys) in e) in
        let fewer : all_size (take (i + 1) rows) ≤ all_size rows = front_fewer all_size parts rows (i + 1) in
        let more : all_size (take (i + 1) rows) ≡ all_size (take i rows) + sum_by (weight m) (effects_of m held (moment r)) =
        ap (sum_by (weight m)) more_brought ∙ sum_by-append (weight m) (all_brought (take i rows)) (effects_of m held (moment r)) in
        let size : b.size ≡ a.size + all_size (take i rows) = first.size in
        too_large-more (b.size + sum_by (weight m) (effects_of m held (moment r))) (a.size + all_size rows) stop (omega arith) h
