-- What an agent holds, by its place among all that is held.
use Rattle.std.proofs.Common.{◌≡◌, ◌≢◌, ℕ, zero, suc, ◌<◌, ◌≤◌, Bool, true, false, not, cond, List, [], ◌∷◌, ◌++◌, map, length, get_or, set, Some, None, refl, sym, ap, ◌∙◌, arith, inl, inr}
use Rattle.std.specs.Prelude.{find, filter, position, nat_le, All}
use Rattle.std.specs.List.{position_or_len}
use Rattle.std.proofs.lemmas.Bool.{cases_lt, lt-ltb, lt-leb}
use Rattle.std.proofs.lemmas.List.{length-map}
use Rattle.std.proofs.lemmas.List.Elements.{All-nil, All-get_or, All-head, All-tail}
use Rattle.std.proofs.lemmas.List.Quantifiers.{position-Some}
use Rattle.std.proofs.lemmas.List.Sums.{fails_before_first}
use Rattle.std.proofs.lemmas.Option.{none-some}
use Rattle.tmm_model.specs.declared.mode.ModeCause.{ModeCause}
use Rattle.tmm_model.specs.declared.mode.ModeCause.TheVariants.{LimitBatch, LimitAgents}
use Rattle.tmm_model.specs.Lines.{IsWellFormedEdit}
use Rattle.tmm_model.specs.Modes.{where_true}
use Rattle.tmm_model.specs.Points.{same_name}
use Rattle.walk_theory.proofs.Points.{same_name-self}
use Rattle.agents.specs.declared.batches.Held.{Held}
use Rattle.agents.specs.declared.batches.Holding.{Holding}
use Rattle.agents.specs.declared.batches.TheConstants.{MOST_HELD, MOST_AGENTS}
use Rattle.agents.specs.Batches.{edits_of, held_by, with_held, without, limit_of, hold_cause}
use Rattle.agents.specs.Holdings.{IsHeld, batch_of}
use Rattle.agents.specs.Worlds.{Batch}

-- a batch by its parts
abbrev batch : List ℕ → List Held → Batch
batch agent edits = record { agent = agent; edits = edits }

module _ (agent : List ℕ) where
  -- whether what is held is the agent's
  abbrev pub is_of : Holding → Bool
  is_of h = same_name h.agent agent

  -- what an agent holds stands at its place
  held_at : (hs : List Holding) (i : ℕ) (d : Holding) → i < length hs → is_of (get_or hs i d) ≡ true → ((k : ℕ) → k < i → is_of (get_or hs k d) ≡ false)
      → held_by (map batch_of hs) agent ≡ (get_or hs i d).edits.items
  held_at [] i d within here before = absurd (omega (arith, within))
  held_at (h ∷ hs) zero d within here before = rw here refl
  held_at (h ∷ hs) (suc i) d within here before =
      let other : is_of h ≡ false = before 0 (omega arith) in
      rw other (held_at hs i d (omega (arith, within)) here (λ k lt. before (suc k) (omega (arith, lt))))

  -- one more edit is put there
  more_at : (hs : List Holding) (i : ℕ) (d new : Holding) (held : Held) → i < length hs → is_of (get_or hs i d) ≡ true → ((k : ℕ) → k < i → is_of (get_or hs k d) ≡ false)
      → batch_of new ≡ batch (get_or hs i d).agent ((get_or hs i d).edits.items ++ held ∷ []) → with_held (map batch_of hs) agent held ≡ map batch_of (set hs i new)
  more_at [] i d new held within here before is = absurd (omega (arith, within))
  more_at (h ∷ hs) zero d new held within here before is = rw here (ap (λ (b : Batch). b ∷ map batch_of hs) (sym is))
  more_at (h ∷ hs) (suc i) d new held within here before is =
      let other : is_of h ≡ false = before 0 (omega arith) in
      rw other (ap (λ (bs : List Batch). batch_of h ∷ bs) (more_at hs i d new held (omega (arith, within)) here (λ k lt. before (suc k) (omega (arith, lt))) is))

  -- an agent without a place holds nothing
  held_nowhere : (hs : List Holding) → ((k : ℕ) (d : Holding) → k < length hs → is_of (get_or hs k d) ≡ false) → held_by (map batch_of hs) agent ≡ []
  held_nowhere [] nowhere = refl
  held_nowhere (h ∷ hs) nowhere =
      let other : is_of h ≡ false = nowhere 0 h (omega arith) in
      rw other (held_nowhere hs (λ k d lt. nowhere (suc k) d (omega (arith, lt))))

  -- its first edit is put behind all others
  first_behind : (hs : List Holding) (held : Held) → ((k : ℕ) (d : Holding) → k < length hs → is_of (get_or hs k d) ≡ false)
      → with_held (map batch_of hs) agent held ≡ map batch_of hs ++ batch agent (held ∷ []) ∷ []
  first_behind [] held nowhere = refl
  first_behind (h ∷ hs) held nowhere =
      let other : is_of h ≡ false = nowhere 0 h (omega arith) in
      rw other (ap (λ (bs : List Batch). batch_of h ∷ bs) (first_behind hs held (λ k d lt. nowhere (suc k) d (omega (arith, lt)))))

  -- where no place is found, nothing is the agent's
  none_is : (hs : List Holding) → position is_of hs ≡ None → (k : ℕ) (d : Holding) → k < length hs → is_of (get_or hs k d) ≡ false
  none_is hs none k d lt = elim (cases_lt (position_or_len is_of hs) (length hs)) [
    | inl found ↦ absurd (none-some (position_or_len is_of hs) (sym none ∙ ap (λ (b : Bool). cond b (Some (position_or_len is_of hs)) None) (lt-ltb _ _ found)))
    | inr past ↦ fails_before_first is_of hs k d (omega arith)
  ]

  -- ---- the same by the place that was found

  module _ (hs : List Holding) (i : ℕ) (found : position is_of hs ≡ Some i) where
    pub place_within : i < length hs
    place_within = place hs i found
      where
        place : (hs : List Holding) (i : ℕ) → position is_of hs ≡ Some i → i < length hs
        place [] i never = absurd (none-some i never)
        place (h ∷ hs) i is = (position-Some is_of (h ∷ hs) i h is).0

    pub held_in_place : (d : Holding) → held_by (map batch_of hs) agent ≡ (get_or hs i d).edits.items
    held_in_place d = let at = position-Some is_of hs i d found in held_at hs i d at.0 at.1 at.2

    pub more_in_place : (d new : Holding) (held : Held) → new.agent ≡ (get_or hs i d).agent → new.edits.items ≡ (get_or hs i d).edits.items ++ held ∷ []
        → with_held (map batch_of hs) agent held ≡ map batch_of (set hs i new)
    more_in_place d new held owner edits =
        let at = position-Some is_of hs i d found in
        more_at hs i d new held at.0 at.1 at.2 (ap (λ (a : List ℕ). batch a new.edits.items) owner ∙ ap (λ (es : List Held). batch (get_or hs i d).agent es) edits)

  module _ (hs : List Holding) (none : position is_of hs ≡ None) where
    pub held_without_place : held_by (map batch_of hs) agent ≡ []
    held_without_place = held_nowhere hs (none_is hs none)

    pub first_without_place : (held : Held) → with_held (map batch_of hs) agent held ≡ map batch_of hs ++ batch agent (held ∷ []) ∷ []
    first_without_place held = first_behind hs held (none_is hs none)

  -- ---- nothing held

  pub forgotten : (hs : List Holding) → map batch_of (filter (λ h. not (is_of h)) hs) ≡ without (map batch_of hs) agent
  forgotten [] = refl
  forgotten (h ∷ hs) = by (forgotten hs) (not (is_of h))
    where
      by : map batch_of (filter (λ h. not (is_of h)) hs) ≡ without (map batch_of hs) agent → (b : Bool)
          → map batch_of (cond b (h ∷ filter (λ h. not (is_of h)) hs) (filter (λ h. not (is_of h)) hs)) ≡ cond b (batch_of h ∷ without (map batch_of hs) agent) (without (map batch_of hs) agent)
      by so true = ap (λ (bs : List Batch). batch_of h ∷ bs) so
      by so false = so

-- whoever else holds something goes on, whatever is written at the agent's place
pub others_kept : (agent : List ℕ) (hs : List Holding) (i : ℕ) (d new : Holding) → i < length hs → is_of agent (get_or hs i d) ≡ true → is_of agent new ≡ true
    → filter (λ h. not (is_of agent h)) (set hs i new) ≡ filter (λ h. not (is_of agent h)) hs
others_kept agent [] i d new within here own = absurd (omega (arith, within))
others_kept agent (h ∷ hs) zero d new within here own = rw (own, here) refl
others_kept agent (h ∷ hs) (suc i) d new within here own = by (others_kept agent hs i d new (omega (arith, within)) here own) (not (is_of agent h))
  where
    by : filter (λ h. not (is_of agent h)) (set hs i new) ≡ filter (λ h. not (is_of agent h)) hs → (b : Bool)
        → cond b (h ∷ filter (λ h. not (is_of agent h)) (set hs i new)) (filter (λ h. not (is_of agent h)) (set hs i new)) ≡ cond b (h ∷ filter (λ h. not (is_of agent h)) hs) (filter (λ h. not (is_of agent h)) hs)
    by so true = ap (λ (l : List Holding). h ∷ l) so
    by so false = so

pub others_in_place : (agent : List ℕ) (hs : List Holding) (i : ℕ) (d new : Holding) → position (is_of agent) hs ≡ Some i → new.agent ≡ (get_or hs i d).agent
    → filter (λ h. not (is_of agent h)) (set hs i new) ≡ filter (λ h. not (is_of agent h)) hs
others_in_place agent hs i d new found owner =
    let at = position-Some (is_of agent) hs i d found in
    others_kept agent hs i d new at.0 at.1 (ap (λ (a : List ℕ). same_name a agent) owner ∙ at.1)

-- where the agent holds nothing, all go on
all_kept : (agent : List ℕ) (hs : List Holding) → ((k : ℕ) (d : Holding) → k < length hs → is_of agent (get_or hs k d) ≡ false) → without (map batch_of hs) agent ≡ map batch_of hs
all_kept agent [] nowhere = refl
all_kept agent (h ∷ hs) nowhere =
    let other : is_of agent h ≡ false = nowhere 0 h (omega arith) in
    rw other (ap (λ (bs : List Batch). batch_of h ∷ bs) (all_kept agent hs (λ k d lt. nowhere (suc k) d (omega (arith, lt)))))

pub all_without_place : (agent : List ℕ) (hs : List Holding) → position (is_of agent) hs ≡ None → without (map batch_of hs) agent ≡ map batch_of hs
all_without_place agent hs none = all_kept agent hs (none_is agent hs none)

-- ---- one more edit that is held

pub held-with : (bs : List Batch) (agent : List ℕ) (held : Held) → held_by (with_held bs agent held) agent ≡ held_by bs agent ++ held ∷ []
held-with [] agent held = rw (same_name-self agent) refl
held-with (b ∷ bs) agent held = by (held-with bs agent held) (same_name b.agent agent) refl
  where
    by : held_by (with_held bs agent held) agent ≡ held_by bs agent ++ held ∷ [] → (t : Bool) → same_name b.agent agent ≡ t
        → held_by (cond t (batch b.agent (b.edits ++ held ∷ []) ∷ bs) (b ∷ with_held bs agent held)) agent ≡ edits_of (cond t (Some b) (find (λ batch. same_name batch.agent agent) bs)) ++ held ∷ []
    by so true is = rw is refl
    by so false is = rw is so

-- ---- what is held is as it should be

-- an agent holds at most 100 edits
pub held_few : (hs : List Holding) (agent : List ℕ) → All IsHeld hs → length (held_by (map batch_of hs) agent) ≤ 100
held_few [] agent all = omega arith
held_few (h ∷ hs) agent all = by (All-head IsHeld h hs all) (held_few hs agent (All-tail IsHeld h hs all)) (same_name h.agent agent)
  where
    by : IsHeld h → length (held_by (map batch_of hs) agent) ≤ 100 → (b : Bool)
        → length (edits_of (cond b (Some (batch_of h)) (find (λ batch. same_name batch.agent agent) (map batch_of hs)))) ≤ 100
    by own rest true = own.few
    by own rest false = rest

-- each of them is one that a line can say
pub held_well_formed : (hs : List Holding) (agent : List ℕ) → All IsHeld hs → All (λ held. IsWellFormedEdit held.edit) (held_by (map batch_of hs) agent)
held_well_formed [] agent all = All-nil (λ held. IsWellFormedEdit held.edit)
held_well_formed (h ∷ hs) agent all = by (All-head IsHeld h hs all) (held_well_formed hs agent (All-tail IsHeld h hs all)) (same_name h.agent agent)
  where
    by : IsHeld h → All (λ held. IsWellFormedEdit held.edit) (held_by (map batch_of hs) agent) → (b : Bool)
        → All (λ held. IsWellFormedEdit held.edit) (edits_of (cond b (Some (batch_of h)) (find (λ batch. same_name batch.agent agent) (map batch_of hs))))
    by own rest true = own.well_formed
    by own rest false = rest

-- ---- why a further edit is not held

limit_some : (edits : List Held) (agents : ℕ) → edits ≢ [] → limit_of edits agents ≡ where_true (nat_le MOST_HELD (length edits)) LimitBatch
limit_some [] agents some = absurd (some refl)
limit_some (held ∷ edits) agents some = refl

module _ (agent : List ℕ) (hs : List Holding) where
  pub cause_in_place : (i : ℕ) (d : Holding) → position (is_of agent) hs ≡ Some i → All IsHeld hs
      → hold_cause (map batch_of hs) agent ≡ where_true (nat_le MOST_HELD (length (get_or hs i d).edits.items)) LimitBatch
  cause_in_place i d found all =
      let own : IsHeld (get_or hs i d) = All-get_or IsHeld hs i d (place_within agent hs i found) all in
      ap (λ (edits : List Held). limit_of edits (length (map batch_of hs))) (held_in_place agent hs i found d)
      ∙ limit_some (get_or hs i d).edits.items (length (map batch_of hs)) own.some

  pub cause_without_place : position (is_of agent) hs ≡ None → hold_cause (map batch_of hs) agent ≡ where_true (nat_le MOST_AGENTS (length hs)) LimitAgents
  cause_without_place none =
      ap (λ (edits : List Held). limit_of edits (length (map batch_of hs))) (held_without_place agent hs none)
      ∙ ap (λ (n : ℕ). where_true (nat_le MOST_AGENTS n) LimitAgents) (length-map hs batch_of)

-- below a limit there is no cause
pub below_limit : (limit n : ℕ) (cause : ModeCause) → n < limit → where_true (nat_le limit n) cause ≡ None
below_limit limit n cause lt = ap (λ (b : Bool). where_true b cause) (lt-leb limit n lt)

-- what is written at a place holds the same as what stood there
pub same_in_place : (hs : List Holding) (i : ℕ) (d new : Holding) → new.agent ≡ (get_or hs i d).agent → new.edits.items ≡ (get_or hs i d).edits.items → i < length hs → map batch_of (set hs i new) ≡ map batch_of hs
same_in_place [] i d new owner edits within = absurd (omega (arith, within))
same_in_place (h ∷ hs) zero d new owner edits within =
    ap (λ (b : Batch). b ∷ map batch_of hs) (ap (λ (a : List ℕ). batch a new.edits.items) owner ∙ ap (λ (es : List Held). batch h.agent es) edits)
same_in_place (h ∷ hs) (suc i) d new owner edits within = ap (λ (bs : List Batch). batch_of h ∷ bs) (same_in_place hs i d new owner edits (omega (arith, within)))
