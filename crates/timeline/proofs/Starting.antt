-- The premises of a list gone through: the points that they declare, and what they declare to occur.
use Rattle.std.proofs.Common.{◌≡◌, ◌∙◌, ℕ, suc, ◌+◌, ◌<◌, ◌≤◌, List, [], ◌∷◌, ◌++◌, map, take, length, sym, ap, subst, append-nil, add-one, arith}
use Rattle.std.specs.Prelude.{Some, slice_get, sum_by, filter}
use Rattle.std.specs.List.{filter_map, flat_map}
use Rattle.std.proofs.lemmas.Grind.{flat_map-append}
use Rattle.std.proofs.lemmas.List.{map-append}
use Rattle.std.proofs.lemmas.List.Elements.{filter_map-append}
use Rattle.std.proofs.lemmas.List.Sums.{sum_by-append}
use Rattle.tmm_model.specs.declared.premise.Premise.{Premise}
use Rattle.tmm_model.specs.declared.refusal.Stop.{Stop}
use Rattle.tmm_model.specs.Answers.{weight}
use Rattle.tmm_model.specs.Beliefs.{root_of, roots}
use Rattle.tmm_model.specs.Maps.{built}
use Rattle.tmm_model.specs.Standing.{Standing, points_of}
use Rattle.list_theory.proofs.Elements.{In}
use Rattle.timeline.specs.declared.calendar.Calendar.{Calendar}
use Rattle.timeline.specs.Calendars.{rows_on, comes_from, Brought, IsBefore}
use Rattle.timeline.specs.Days.{comes_on, before_day, played, point_date}
use Rattle.timeline.specs.Rows.{moment}
use Rattle.timeline.specs.Told.{IsTooLarge, StopsTimeline}
use Rattle.timeline.proofs.AtPlaces.{taken}
use Rattle.timeline.proofs.Bringing.{too_large-more, front_fewer}
use Rattle.timeline.proofs.Calendars.{Brought-then}
use Rattle.timeline.proofs.DayByDay.{first_known-is, sizes_rise}

module _ (s : Standing) where
  front : (i : ℕ) (p : Premise) → slice_get s.premises i ≡ Some p → take (i + 1) s.premises ≡ take i s.premises ++ p ∷ []
  front i p at = ap (λ n. take n s.premises) (add-one i) ∙ taken s.premises i p at

  -- the dates of points, one premise more
  pub more_points : (i : ℕ) (p : Premise) → slice_get s.premises i ≡ Some p
      → map (point_date (built s)) (flat_map points_of (take (i + 1) s.premises)) ≡ map (point_date (built s)) (flat_map points_of (take i s.premises)) ++ map (point_date (built s)) (points_of p)
  more_points i p at =
      ap (map (point_date (built s)))
      (ap (flat_map points_of) (front i p at) ∙ flat_map-append points_of (take i s.premises) (p ∷ []) ∙ ap (λ l. flat_map points_of (take i s.premises) ++ l) (append-nil (points_of p)))
      ∙ map-append (point_date (built s)) (flat_map points_of (take i s.premises)) (points_of p)

  more_roots : (i : ℕ) (p : Premise) → slice_get s.premises i ≡ Some p → filter_map root_of (take (i + 1) s.premises) ≡ filter_map root_of (take i s.premises) ++ filter_map root_of (p ∷ [])
  more_roots i p at = ap (filter_map root_of) (front i p at) ∙ filter_map-append root_of (take i s.premises) (p ∷ [])

  -- what is declared to occur enters, one premise more
  pub one_premise : (i : ℕ) (p : Premise) → slice_get s.premises i ≡ Some p → (a b c : Calendar)
      → Brought (built s) (filter_map root_of (take i s.premises)) a b → Brought (built s) (filter_map root_of (p ∷ [])) b c → Brought (built s) (filter_map root_of (take (i + 1) s.premises)) a c
  one_premise i p at a b c first next =
      subst (λ xs. Brought (built s) xs a c) (sym (more_roots i p at)) (Brought-then (built s) (filter_map root_of (take i s.premises)) (filter_map root_of (p ∷ [])) a b c first next)

  abbrev pub roots_size : List Premise → ℕ
  roots_size ps = sum_by (weight (built s)) (filter_map root_of ps)

  -- where it is too large, all that occurs is
  pub roots_too_large : (i : ℕ) (p : Premise) → slice_get s.premises i ≡ Some p → (a b : Calendar) (stop : Stop) → a.size ≡ 0
      → Brought (built s) (filter_map root_of (take i s.premises)) a b → IsTooLarge (b.size + roots_size (p ∷ [])) stop → StopsTimeline (built s) stop
  roots_too_large i p at a b stop none first h =
      let parts = λ (xs ys : List Premise). (let e : roots_size (xs ++ ys) ≡ roots_size xs + roots_size ys =
      ap (sum_by (weight (built s))) (filter_map-append root_of xs ys) ∙ sum_by-append (weight (built s)) (filter_map root_of xs) (filter_map root_of ys) in e) in
      let fewer : roots_size (take (i + 1) s.premises) ≤ roots_size s.premises = front_fewer roots_size parts s.premises (i + 1) in
      let more : roots_size (take (i + 1) s.premises) ≡ roots_size (take i s.premises) + roots_size (p ∷ []) =
      ap (sum_by (weight (built s))) (more_roots i p at) ∙ sum_by-append (weight (built s)) (filter_map root_of (take i s.premises)) (filter_map root_of (p ∷ [])) in
      let first_day : sum_by (weight (built s)) (before_day (built s) 0).played ≡ roots_size s.premises = ap (sum_by (weight (built s))) (first_known-is (built s)) in
      let rise : sum_by (weight (built s)) (before_day (built s) 0).played ≤ sum_by (weight (built s)) (played (built s)) = sizes_rise (built s) 0 (suc s.horizon) (omega arith) in
      let size : b.size ≡ a.size + roots_size (take i s.premises) = first.size in
      too_large-more (b.size + roots_size (p ∷ [])) (sum_by (weight (built s)) (played (built s))) stop (omega arith) h

  -- **What is declared to occur is what is known before the first day.**
  pub started : (a c : Calendar) → length a.days.items ≡ suc s.horizon → ((i : ℕ) → rows_on a.days.items i ≡ []) → a.later.items ≡ [] → a.size ≡ 0
      → Brought (built s) (roots s) a c → IsBefore (built s) 0 c
  started a c len none later size first = record {
    len = first.len ∙ len;
    days = λ i below.
        (first.days i (subst (λ n. i < n) first.len below)
        ∙ ap (λ l. map moment l ++ filter (comes_on (built s) i) (roots s)) (none i)
        ∙ ap (filter (comes_on (built s) i)) (sym (first_known-is (built s))));
    later =
        first.later
        ∙ ap (λ l. map moment l ++ filter (comes_from (built s) (length a.days.items)) (roots s)) later
        ∙ ap (λ n. filter (comes_from (built s) n) (roots s)) (sym first.len)
        ∙ ap (filter (comes_from (built s) (length c.days.items))) (sym (first_known-is (built s)));
    rows = first.rows (record { days = λ i r at. absurd (subst (In r) (none i) at); later = λ r at. absurd (subst (In r) later at) });
    size = omega (arith, first.size, size, ap (sum_by (weight (built s))) (first_known-is (built s)));
    small = first.small;
  }
