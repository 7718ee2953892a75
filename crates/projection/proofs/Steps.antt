-- One occurrence more of a projection.
use Rattle.std.proofs.Common.{◌≡◌, ◌∙◌, ◌⊎◌, inl, inr, ℕ, ◌+◌, ◌<◌, ◌≤◌, List, [], ◌∷◌, ◌++◌, length, sym, ap, subst, arith}
use Rattle.std.specs.Prelude.{Some, None, pos, ◌≤ℤ◌, sum_by}
use Rattle.std.specs.List.{Contains, filter_map}
use Rattle.std.proofs.lemmas.List.{length-append}
use Rattle.std.proofs.lemmas.List.Sums.{sum_by_push}
use Rattle.tmm_model.specs.declared.point.PointName.TheVariants.{Begin}
use Rattle.tmm_model.specs.declared.premise.Premise.{Premise}
use Rattle.tmm_model.specs.Answers.{weight, size, most_size}
use Rattle.tmm_model.specs.Beliefs.{due, root_of, roots, rules_at}
use Rattle.tmm_model.specs.Maps.{built}
use Rattle.tmm_model.specs.Moments.{Moment, At, After, rules}
use Rattle.list_theory.specs.WellNamed.{IsSound}
use Rattle.tmm_model.specs.Standing.{Standing, name_of, far_in}
use Rattle.list_theory.proofs.Distinct.{Distinct, Distinct-append, sum_inside}
use Rattle.list_theory.proofs.Elements.{In, In-from_Contains, Contains-from_In, In-cases, In-filter_map, filter_map-In}
use Rattle.belief_theory.proofs.SoundBeliefs.{believed_right}
use Rattle.dist_net.specs.Net.{Net}
use Rattle.spots.specs.Forest.{Forest, member, moment_at, IsLive}
use Rattle.spots.proofs.Nodes.{node_at, live_at, moment_at-is}
use Rattle.projection.specs.declared.pending.Pending.{Pending}
use Rattle.projection.specs.Counted.{due_rules}
use Rattle.spots.specs.Growing.{Adds}
use Rattle.projection.specs.Places.{rule_at}
use Rattle.projection.specs.Projecting.{IsEntry, Pends, IsGrown}
use Rattle.projection.specs.Queues.{IsDue, Queues, weight_at}
use Rattle.spots.proofs.Grown.{held_apart, adds_seen, adds_holds, node_kept, root_name}
use Rattle.spots.proofs.Believed.{rules_once}
use Rattle.projection.proofs.Waiting.{queued_once}

-- an effect is not its own event
pub not_itself : (k : Moment) (r : List ℕ) → After k r ≡ k → ⊥
not_itself k r e =
    let same : length (rules k ++ r ∷ []) ≡ length (rules k) = ap (λ t. length (rules t)) e in
    omega (arith, same, length-append (rules k) (r ∷ []))

pub distinct_push : (b : List Moment) (k : Moment) → Distinct b → (In k b → ⊥) → Distinct (b ++ k ∷ [])
distinct_push b k d apart = Distinct-append b (k ∷ []) d ((λ none. none), tt) (λ y at is. elim is [ inl same ↦ apart (subst (λ z. In z b) (sym same) at) | inr none ↦ none ])

pub push_cases : (b : List Moment) (k y : Moment) → In y (b ++ k ∷ []) → In y b ⊎ (y ≡ k)
push_cases b k y at = elim (In-cases b (k ∷ []) y at) [ inl before ↦ inl before | inr is ↦ elim is [ inl same ↦ inr (sym same) | inr none ↦ absurd none ] ]

-- occurrences that are all believed count no more than the map
pub inside_size : (s : Standing) → IsSound s → (c : List Moment) → Distinct c → ((y : Moment) → In y c → In y (built s).believed) → sum_by (weight (built s)) c ≤ size (built s)
inside_size s sound c distinct inside = sum_inside (weight (built s)) c (built s).believed distinct inside

module _ (s : Standing) (net : Net) (f new : Forest) (x : ℕ) (k : Moment) (adds : Adds s net.names f new x k) where
  pub at_new : moment_at new x ≡ k
  at_new = moment_at-is new x adds.node adds.enters.entered ∙ adds.is

  pub new_live : IsLive new x
  new_live = live_at new x adds.node adds.enters.entered

  pub kept_live : (y : ℕ) → IsLive f y → IsLive new y
  kept_live y live = let (m, at) = node_at f y live in live_at new y m (node_kept s net f new x k adds y m at)

  pub kept_moment : (y : ℕ) → IsLive f y → moment_at new y ≡ moment_at f y
  kept_moment y live = let (m, at) = node_at f y live in moment_at-is new y m (node_kept s net f new x k adds y m at) ∙ sym (moment_at-is f y m at)

  not_new : (y : ℕ) → IsLive f y → y ≡ x → ⊥
  not_new y live same =
      let (m, at) = node_at f y live in
      let never : None ≡ Some m = sym adds.enters.free ∙ ap (member f) (sym same) ∙ at in
      cc

  pub weight_is : weight_at s new x ≡ weight (built s) k
  weight_is = ap (weight (built s)) at_new

  module _ (b : List Moment) (queue queue2 : List Pending) (n : ℕ) (grown : IsGrown s net b f queue n) (apart : In k b → ⊥) where
    -- what counts with the occurrence
    pub size_is : n + weight_at s new x ≡ sum_by (weight (built s)) (b ++ k ∷ [])
    size_is = (λ i. grown.sized i + weight_is i) ∙ sym (sum_by_push (weight (built s)) b k)

    -- where all that has entered is believed, a size that is too large is that of a map that is too
    -- large
    pub too_large : ((y : Moment) → In y (b ++ k ∷ []) → In y (built s).believed) → most_size < n + weight_at s new x → most_size < size (built s)
    too_large inside large = omega (arith, large, size_is, inside_size s grown.seen.network.sound (b ++ k ∷ []) (distinct_push b k grown.distinct apart) inside)

    module _ (queues : Queues s new x (rules_at s (moment_at new x)) queue queue2) where
      -- what waited waits still
      pub pends_kept : (t : Moment) (r : List ℕ) → Pends s f queue t r → Pends s new queue2 t r
      pends_kept t r (p, at, here, named) = (p, queues.kept p at, kept_moment p.trigger (grown.entries p at).live ∙ here, named)

      -- and so do the rules on the occurrence that are due by the horizon
      pub pends_new : (r : List ℕ) → Contains (rules_at s k) r → due s (far_in s.premises) k r ≤ℤ pos s.horizon → Pends s new queue2 k r
      pends_new r stands in_time =
          let (p, at, trigger, named) =
          queues.all r (In-from_Contains (rules_at s (moment_at new x)) r (subst (λ t. Contains (rules_at s t) r) (sym at_new) stands))
          (subst (λ t. due s (far_in s.premises) t r ≤ℤ pos s.horizon) (sym at_new) in_time) in
          (p, at, ap (moment_at new) trigger ∙ at_new, named)

      -- so many more wait
      pub waits_more : length queue2 + sum_by (due_rules s) b ≡ length queue + sum_by (due_rules s) (b ++ k ∷ [])
      waits_more = omega (arith, queues.count, ap (due_rules s) at_new, sum_by_push (due_rules s) b k)

      -- what waits now waited, or is due for a rule on the occurrence
      pub pends_cases : (t : Moment) (r : List ℕ) → Pends s new queue2 t r
          → Pends s f queue t r ⊎ ((t ≡ k) × Contains (rules_at s k) r)
      pends_cases t r (p, at, here, named) = elim (queues.own p at) [
        | inl before ↦ inl (p, before, sym (kept_moment p.trigger (grown.entries p before).live) ∙ here, named)
        | inr is ↦ inr (
          sym here ∙ ap (moment_at new) is.trigger ∙ at_new,
          subst (λ z. Contains (rules_at s k) z) named (subst (λ u. Contains (rules_at s u) (rule_at s p)) at_new (Contains-from_In (rules_at s (moment_at new x)) (rule_at s p) is.rule)),
        )
      ]

      module _ (other : (p : Pending) → In p queue → After (moment_at f p.trigger) (rule_at s p) ≡ k → ⊥) (leaf : (r : List ℕ) → In (After k r) b → ⊥) (small : n + weight_at s new x ≤ most_size) where
        pub grown_more : IsGrown s net (b ++ k ∷ []) new queue2 (n + weight_at s new x)
        grown_more = record {
          seen = adds_seen s net f new x k adds (held_apart s net f new x k adds b grown.holds apart) grown.seen;
          holds = adds_holds s net f new x k adds b grown.holds apart;
          distinct = distinct_push b k grown.distinct apart;
          sized = size_is;
          small = small;
          entries = entries;
          once = queued_once s new x (rules_at s (moment_at new x)) queue queue2 queues (rules_once s grown.seen.network.sound (moment_at new x)) grown.once
              (λ p at. not_new p.trigger (grown.entries p at).live);
          undecided = undecided;
        }
          where
            old_entry : (p : Pending) → IsEntry s f p → IsEntry s new p
            old_entry p e =
                let same = kept_moment p.trigger e.live in
                record {
                  live = kept_live p.trigger e.live;
                  place = e.place;
                  stands = subst (λ t. Contains (rules_at s t) (rule_at s p)) (sym same) e.stands;
                  date = ap (λ t. due s (far_in s.premises) t (rule_at s p)) same ∙ e.date;
                  in_time = e.in_time;
                }

            new_entry : (p : Pending) → IsDue s new x (rules_at s (moment_at new x)) p → IsEntry s new p
            new_entry p is = record {
              live = subst (IsLive new) (sym is.trigger) new_live;
              place = is.place;
              stands = subst (λ y. Contains (rules_at s (moment_at new y)) (rule_at s p)) (sym is.trigger) (Contains-from_In (rules_at s (moment_at new x)) (rule_at s p) is.rule);
              date = ap (λ y. due s (far_in s.premises) (moment_at new y) (rule_at s p)) is.trigger ∙ is.date;
              in_time = is.in_time;
            }

            entries : (p : Pending) → In p queue2 → IsEntry s new p
            entries p at = elim (queues.own p at) [ inl before ↦ old_entry p (grown.entries p before) | inr is ↦ new_entry p is ]

            undecided : (p : Pending) → In p queue2 → In (After (moment_at new p.trigger) (rule_at s p)) (b ++ k ∷ []) → ⊥
            undecided p at decided = elim (queues.own p at) [
              | inl before ↦
                  let same : After (moment_at new p.trigger) (rule_at s p) ≡ After (moment_at f p.trigger) (rule_at s p) = ap (λ t. After t (rule_at s p)) (kept_moment p.trigger (grown.entries p before).live) in
                  elim (push_cases b k (After (moment_at new p.trigger) (rule_at s p)) decided) [
                    | inl there ↦ grown.undecided p before (subst (λ o. In o b) same there)
                    | inr is ↦ other p before (sym same ∙ is)
                  ]
              | inr is ↦
                  let same : After (moment_at new p.trigger) (rule_at s p) ≡ After k (rule_at s p) = ap (λ t. After t (rule_at s p)) (ap (moment_at new) is.trigger ∙ at_new) in
                  elim (push_cases b k (After (moment_at new p.trigger) (rule_at s p)) decided) [
                    | inl there ↦ leaf (rule_at s p) (subst (λ o. In o b) same there)
                    | inr itself ↦ not_itself k (rule_at s p) (sym same ∙ itself)
                  ]
            ]

-- ---- what is declared

pub root_no_effect : (front : List Premise) (t : Moment) (r : List ℕ) → In (After t r) (filter_map root_of front) → ⊥
root_no_effect front t r at =
    let (q, before, made) = In-filter_map root_of front (After t r) at in
    let never : After t r ≡ At (Begin (name_of q)) = root_name q (After t r) made in
    cc

-- a root is believed
pub root_believed : (s : Standing) → IsSound s → (p : Premise) (k : Moment) → In p s.premises → root_of p ≡ Some k → In k (built s).believed
root_believed s sound p k at made =
    let is : k ≡ At (Begin (name_of p)) = root_name p k made in
    let there : Contains (roots s) k = Contains-from_In (roots s) k (filter_map-In root_of s.premises p k at made) in
    In-from_Contains (built s).believed k
    (subst (λ o. Contains (built s).believed o) (sym is) ((believed_right s sound (At (Begin (name_of p)))).1 (subst (λ o. Contains (roots s) o) is there)))
