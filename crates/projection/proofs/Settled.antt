-- A projection that grows, decision by decision, and what it is at its end.
use Rattle.std.proofs.Common.{◌≡◌, ◌∙◌, inl, inr, ℕ, ◌+◌, ◌<◌, ◌≤◌, List, [], ◌∷◌, ◌++◌, length, refl, sym, ap, subst, arith, append-nil}
use Rattle.std.proofs.lemmas.Int.{ints}
use Rattle.std.specs.Prelude.{Option, Some, None, ℤ, pos, ◌≤ℤ◌, sum_by}
use Rattle.std.specs.List.{Contains, filter_map, cons_option}
use Rattle.std.proofs.lemmas.List.Elements.{filter_map-append}
use Rattle.tmm_model.specs.declared.point.PointName.TheVariants.{Begin}
use Rattle.tmm_model.specs.declared.premise.Premise.{Premise}
use Rattle.tmm_model.specs.declared.refusal.Refusal.TheVariants.{LimitLine, Form, Taken, Unknown, Sort as IllSorted, LimitPremises, LimitPoints, Cycle, LimitSize}
use Rattle.tmm_model.specs.declared.refusal.Stop.{Stop}
use Rattle.tmm_model.specs.declared.refusal.Stop.TheVariants.{Refused, NoMemory}
use Rattle.tmm_model.specs.Answers.{size, most_size}
use Rattle.tmm_model.specs.Beliefs.{due, root_of, roots, rules_at}
use Rattle.tmm_model.specs.Maps.{built}
use Rattle.tmm_model.specs.Moments.{Moment, At, After}
use Rattle.belief_theory.specs.Right.{Occurs}
use Rattle.tmm_model.specs.Standing.{Standing, name_of, far_in}
use Rattle.list_theory.proofs.Elements.{In, In-from_Contains, In-left, In-right, In-filter_map}
use Rattle.dist_net.specs.Net.{Net}
use Rattle.spots.specs.Forest.{Forest, moment_at}
use Rattle.spots.specs.OfLists.{IsForestOf, HasOccurrences}
use Rattle.projection.specs.declared.pending.Pending.{Pending}
use Rattle.projection.specs.Counted.{due_rules}
use Rattle.spots.specs.Growing.{Adds}
use Rattle.projection.specs.Places.{rule_at}
use Rattle.projection.specs.Projecting.{Pends, IsGrown, IsStarted, IsGrowing}
use Rattle.projection.specs.Queues.{is_for, Queues, weight_at, IsTooLarge}
use Rattle.spots.proofs.Grown.{new_root, root_name}
use Rattle.projection.proofs.Steps.{push_cases, too_large, pends_kept, pends_new, waits_more, grown_more, root_no_effect, root_believed}

-- ---- what is declared

module _ (s : Standing) (net : Net) (f : Forest) (queue : List Pending) (n : ℕ) where
  pub started_first : IsForestOf s net f → HasOccurrences [] f → queue ≡ [] → n ≡ 0 → IsStarted s net [] f queue n
  started_first seen holds none zero_ = record {
    grown = record {
      seen = seen;
      holds = holds;
      distinct = tt;
      sized = zero_;
      small = omega (arith, zero_);
      entries = λ p at. absurd (subst (In p) none at);
      once = λ x r. subst (λ q. sum_by (is_for s x r) q ≤ 1) (sym none) (omega arith);
      undecided = λ p at. absurd (subst (In p) none at);
    };
    queued = λ t r at. absurd at;
    waiting = ap length none;
  }

  module _ (front : List Premise) (p : Premise) (back : List Premise) (whole : front ++ p ∷ back ≡ s.premises) (started : IsStarted s net front f queue n) where
    -- a premise that declares nothing
    pub started_none : root_of p ≡ None → IsStarted s net (front ++ p ∷ []) f queue n
    started_none none = record { grown = subst (λ b. IsGrown s net b f queue n) same started.grown; queued = λ t r at. started.queued t r (subst (In t) (sym same) at); waiting = started.waiting ∙ ap (sum_by (due_rules s)) same }
      where
        same : filter_map root_of front ≡ filter_map root_of (front ++ p ∷ [])
        same =
            sym (append-nil (filter_map root_of front))
            ∙ ap (λ o. filter_map root_of front ++ cons_option o []) (sym none)
            ∙ sym (filter_map-append root_of front (p ∷ []))

    module _ (new : Forest) (x : ℕ) (k : Moment) (made : root_of p ≡ Some k) (adds : Adds s net.names f new x k) where
      apart : In k (filter_map root_of front) → ⊥
      apart = new_root s started.grown.seen.network.sound front p back whole k made

      same_roots : filter_map root_of front ++ k ∷ [] ≡ filter_map root_of (front ++ p ∷ [])
      same_roots = ap (λ o. filter_map root_of front ++ cons_option o []) (sym made) ∙ sym (filter_map-append root_of front (p ∷ []))

      -- where the size is too large with it, that of the map is
      pub root_too_large : most_size < n + weight_at s new x → most_size < size (built s)
      root_too_large = too_large s net f new x k adds (filter_map root_of front) queue queue n started.grown apart believed
        where
          believed : (y : Moment) → In y (filter_map root_of front ++ k ∷ []) → In y (built s).believed
          believed y at = elim (push_cases (filter_map root_of front) k y at) [
            | inl before ↦
                let (q, there, declared) = In-filter_map root_of front y before in
                root_believed s started.grown.seen.network.sound q y (subst (In q) whole (In-left front (p ∷ back) q there)) declared
            | inr is ↦
                subst (λ z. In z (built s).believed) (sym is)
                (root_believed s started.grown.seen.network.sound p k (subst (In p) whole (In-right front (p ∷ back) p (inl refl))) made)
          ]

      pub started_more : (queue2 : List Pending) → Queues s new x (rules_at s (moment_at new x)) queue queue2 → n + weight_at s new x ≤ most_size
          → IsStarted s net (front ++ p ∷ []) new queue2 (n + weight_at s new x)
      started_more queue2 queues small = record { grown = subst (λ b. IsGrown s net b new queue2 (n + weight_at s new x)) same_roots grown; queued = λ t r at. queued t r (subst (In t) (sym same_roots) at); waiting = waiting ∙ ap (sum_by (due_rules s)) same_roots }
        where
          at_root : k ≡ At (Begin (name_of p))
          at_root = root_name p k made

          no_effect : (t : Moment) (r : List ℕ) → After t r ≡ k → ⊥
          no_effect t r e = let never : After t r ≡ At (Begin (name_of p)) = e ∙ at_root in cc

          grown : IsGrown s net (filter_map root_of front ++ k ∷ []) new queue2 (n + weight_at s new x)
          grown = grown_more s net f new x k adds (filter_map root_of front) queue queue2 n started.grown apart queues (λ o at. no_effect (moment_at f o.trigger) (rule_at s o)) (λ r. root_no_effect front k r) small

          waiting : length queue2 ≡ sum_by (due_rules s) (filter_map root_of front ++ k ∷ [])
          waiting = omega (arith, started.waiting, waits_more s net f new x k adds (filter_map root_of front) queue queue2 n started.grown apart queues)

          queued : (t : Moment) (r : List ℕ) → In t (filter_map root_of front ++ k ∷ []) → Contains (rules_at s t) r → due s (far_in s.premises) t r ≤ℤ pos s.horizon → Pends s new queue2 t r
          queued t r at on in_time = elim (push_cases (filter_map root_of front) k t at) [
            | inl before ↦ pends_kept s net f new x k adds (filter_map root_of front) queue queue2 n started.grown apart queues t r (started.queued t r before on in_time)
            | inr is ↦
                subst (λ u. Pends s new queue2 u r) (sym is)
                (pends_new s net f new x k adds (filter_map root_of front) queue queue2 n started.grown apart queues r (subst (λ u. Contains (rules_at s u) r) is on)
                (subst (λ u. due s (far_in s.premises) u r ≤ℤ pos s.horizon) is in_time))
          ]

  -- with all that is declared, the first decisions wait
  pub growing_first : IsStarted s net s.premises f queue n → IsGrowing s net f queue n 0
  growing_first started = record {
    entered = roots s;
    date = 0;
    sound = started.grown.seen.network.sound;
    grown = started.grown;
    settling = record {
      has_roots = λ p at. at;
      member_occurs = occurs;
      fires = λ t r at. absurd (root_no_effect s.premises t r (In-from_Contains (roots s) (After t r) at));
      early_enough = λ t r at. absurd (root_no_effect s.premises t r (In-from_Contains (roots s) (After t r) at));
      settled = λ t r at on in_time. inl (started.queued t r (In-from_Contains (roots s) t at) on in_time);
      pend_later = later;
    };
    each = omega (arith, started.waiting);
  }
    where
      occurs : (y : Moment) → Contains (roots s) y → Occurs s y
      occurs (At p) at = at
      occurs (After t r) at = absurd (root_no_effect s.premises t r (In-from_Contains (roots s) (After t r) at))

      later : (t : Moment) (r : List ℕ) → Pends s f queue t r → pos 0 ≤ℤ due s (far_in s.premises) t r
      later t r (p, at, here, named) =
          let date : due s (far_in s.premises) t r ≡ pos p.due.0 = (λ i. due s (far_in s.premises) (sym here i) (sym named i)) ∙ (started.grown.entries p at).date in
          not_before (due s (far_in s.premises) t r) p.due.0 date
        where
          not_before : (z : ℤ) (d : ℕ) → z ≡ pos d → pos 0 ≤ℤ z
          not_before z d e = omega (arith, ints)

-- ---- sizes

-- a size that is too large, where a larger one is
pub larger : (m n : ℕ) (stop : Stop) → (most_size < m → most_size < n) → IsTooLarge m stop → IsTooLarge n stop
larger m n NoMemory more h = tt
larger m n (Refused LimitSize) more h = more h
larger m n (Refused LimitLine) more h = absurd h
larger m n (Refused Form) more h = absurd h
larger m n (Refused (Taken word)) more h = absurd h
larger m n (Refused (Unknown word)) more h = absurd h
larger m n (Refused (IllSorted word)) more h = absurd h
larger m n (Refused LimitPremises) more h = absurd h
larger m n (Refused LimitPoints) more h = absurd h
larger m n (Refused (Cycle sum steps)) more h = absurd h
