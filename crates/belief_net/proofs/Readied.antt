-- Nodes and rows that are ready for the list after, of which besides those rows wait that the edit
-- touches.
use Rattle.std.proofs.Common.{◌≡◌, ◌∙◌, ℕ, Bool, true, false, List, Option, Some, None, refl, sym, ap, subst, inl, inr, ◌⊎◌}
use Rattle.std.specs.Prelude.{◌≢◌, is_some, pos, int_le}
use Rattle.std.specs.List.{Contains}
use Rattle.tmm_model.specs.declared.premise.Edit.{Edit}
use Rattle.tmm_model.specs.declared.premise.Edit.TheVariants.{Horizon}
use Rattle.tmm_model.specs.Beliefs.{due, rules_at}
use Rattle.tmm_model.specs.Edits.{next_list, list_until}
use Rattle.tmm_model.specs.Maps.{built}
use Rattle.tmm_model.specs.Moments.{Moment}
use Rattle.tmm_model.specs.Standing.{Standing, far_in}
use Rattle.list_theory.specs.WellNamed.{IsSound}
use Rattle.list_theory.proofs.Elements.{In-from_Contains, Contains-from_In}
use Rattle.belief_theory.specs.Outcomes.{outcome}
use Rattle.belief_theory.specs.Right.{Occurs}
use Rattle.dist_net.specs.Net.{Net}
use Rattle.spots.specs.Forest.{Forest, Member, member, moment, moment_at, IsLive}
use Rattle.spots.specs.OfLists.{HasOccurrences}
use Rattle.spots.proofs.Nodes.{node_at, live_at, moment_at-is}
use Rattle.revisions.specs.Counted.{AreSeeds}
use Rattle.revisions.specs.Maps.{watches}
use Rattle.revisions.specs.Walls.{AllOccur}
use Rattle.joined.specs.Gaps.{SameGaps, MovesAt}
use Rattle.joined.specs.Netted.{IsCurrent}
use Rattle.joined.specs.Rows.{Row, Rows, HasNoRow, AreRowsOf}
use Rattle.joined.specs.Starting.{BeginsFrom, was, is_new, RowsBegin, IsPrepared, AreMarked}
use Rattle.joined.specs.Touching.{RivalsStay, IsUntouched}
use Rattle.joined.proofs.Deciding.{some_row, true_false}
use Rattle.joined.proofs.Preparing.{stays_same, begun_rows}
use Rattle.joined.proofs.Touching.{resting_marked, believed_among, among_believed, horizons_marked}
use Rattle.marking.specs.LeftMarks.{SayNone}
use Rattle.belief_net.specs.Beginning.{IsLeftFrom, those_in, BoreOnNone, IsReady}
use Rattle.marking.proofs.ByRule.{reads_none}
use Rattle.belief_net.proofs.Departing.{read_then}
use Rattle.belief_net.proofs.Staying.{all_or_one, of_both, into_both, stays_or_left, staying, holds_staying, occur_staying, without_left}

none_some : {X : Type 0} (x : X) → None ≡ Some x → ⊥
none_some x e = cc

-- the rows are those before, and those that waited wait on
pub record WaitOn (mid after : Rows) : Type 0 where
  pub was : (i : ℕ) (q : Row) → after i ≡ Some q → (o : Row) × (mid i ≡ Some o) × (q ≡ record o { waits = q.waits }) × (o.waits ≡ true → q.waits ≡ true)
  pub stay : (i : ℕ) (o : Row) → mid i ≡ Some o → (q : Row) × (after i ≡ Some q) × (q ≡ record o { waits = q.waits })

module _ (new : Standing) (g : Forest) (rows mid after : Rows) (begin : RowsBegin new g rows mid) (on : WaitOn mid after) where
  rows_from : (i : ℕ) (q o : Row) → q ≡ record o { waits = q.waits } → (o.waits ≡ true → q.waits ≡ true) → BeginsFrom rows i o → BeginsFrom rows i q
  rows_from i q o is still (was r at is_o) = was r at (is ∙ ap (λ (z : Row). record z { waits = q.waits }) is_o)
  rows_from i q o is still (is_new free none blank waits) = is_new free
      (subst (λ (z : Row). HasNoRow rows z.trigger z.rule) (sym is) none)
      (ap (λ (z : Row). z.found) is ∙ blank)
      (still waits)

  -- rows begin as they did
  pub rows_on : RowsBegin new g rows after
  rows_on = record {
    from = λ i q at. (let (o, there, is, still) = on.was i q at in rows_from i q o is still (begin.from i o there));
    own = λ i q at. (let (o, there, is, still) = on.was i q at in
        subst (λ (z : Row). IsLive g z.trigger × Contains (rules_at new (moment_at g z.trigger)) z.rule) (sym is) (begin.own i o there));
    stay = λ i o at live stands. (let (m, there) = some_row (mid i) (begin.stay i o at live stands) in let (q, here, _) = on.stay i m there in ap is_some here);
    all = λ x rule live stands none. (
        let (i, o, at, tr, ru) = begin.all x rule live stands none in
        let (q, here, is) = on.stay i o at in
        (i, q, here, ap (λ (z : Row). z.trigger) is ∙ tr, ap (λ (z : Row). z.rule) is ∙ ru));
    apart = λ i j q o at_q at_o free free2 trigger rule. (
        let (a, there_a, is_a, _) = on.was i q at_q in
        let (b, there_b, is_b, _) = on.was j o at_o in
        begin.apart i j a b there_a there_b free free2
        (sym (ap (λ (z : Row). z.trigger) is_a) ∙ trigger ∙ ap (λ (z : Row). z.trigger) is_b)
        (sym (ap (λ (z : Row). z.rule) is_a) ∙ rule ∙ ap (λ (z : Row). z.rule) is_b));
  }

-- ---- nodes before and after

module _ (old : Standing) (edit : Edit) (before net : Net) (f g : Forest) (rows mid after : Rows) (sound_old : IsSound old) (sound_new : IsSound (next_list old edit))
    (current : IsCurrent old before f rows) (ready : IsReady old (next_list old edit) before net f g rows mid) (on : WaitOn mid after) where
  abbrev new : Standing
  new = next_list old edit

  begun : RowsBegin (next_list old edit) g rows after
  begun = rows_on (next_list old edit) g rows mid after ready.rows_begin on

  rows_are : AreRowsOf (next_list old edit) g after
  rows_are = begun_rows old (next_list old edit) f g rows after current.rows_are begun

  -- a node of an occurrence that is there still is there
  node_stays : (b : List Moment) → HasOccurrences b g → (x : ℕ) (m : Member) → member f x ≡ Some m → Contains b (moment m) → member g x ≡ Some m
  node_stays b holds x m at among =
      let (z, k, here, is) = holds.all (moment m) among in
      ready.nodes_begin.stay x m at (subst (Occurs (next_list old edit)) is (ready.seen.members z k here).occurs)

  -- a node that was believed was there
  node_was : (x : ℕ) (m : Member) → member g x ≡ Some m → Contains (built old).believed (moment m) → member f x ≡ Some m
  node_was x m at believed =
      let (y, k, there, is) = current.holds.all (moment m) believed in
      let here = ready.nodes_begin.stay y k there (subst (Occurs (next_list old edit)) (sym is) (ready.seen.members x m at).occurs) in
      let one : y ≡ x = ready.seen.once y x k m here at is in
      let both : Some k ≡ Some m = sym here ∙ ap (member g) one ∙ at in
      let same : k ≡ m = cc in
      ap (member f) (sym one) ∙ there ∙ ap Some same

  -- where points moved, and what the marks of moved points say of rows: each that waits newly is at
  -- an event for which points moved, or of a rule of which other facts contradict what it reads;
  -- and each that does not wait may rest, and the same facts contradict what its rule reads
  module _ (moves : ℕ → ℕ → Bool) (rests : List ℕ → ℕ → Type 0) (same_horizon : old.horizon ≡ (next_list old edit).horizon)
      (stay : (r : List ℕ) (x : ℕ) → Contains (rules_at old (moment_at g x)) r → Contains (rules_at (next_list old edit) (moment_at g x)) r → rests r x → RivalsStay old (next_list old edit) r)
      (apart : (b : List Moment) (r : List ℕ) (x : ℕ) → HasOccurrences b g → IsLive g x → Contains (built old).believed (moment_at g x)
      → ((y : Moment) → Contains b y → watches (next_list old edit) r y ≡ true → Contains (built old).believed y)
      → SameGaps old (next_list old edit) b (moment_at g x) r → MovesAt moves (next_list old edit) g r x → ⊥)
      (keeps : (b : List Moment) (r : List ℕ) (x : ℕ) → HasOccurrences b g → IsLive g x → Contains (built old).believed (moment_at g x)
      → Contains (rules_at old (moment_at g x)) r → Contains (rules_at (next_list old edit) (moment_at g x)) r
      → ((y : Moment) → Contains (built old).believed y → watches old r y ≡ true → Contains b y)
      → ((y : Moment) → Contains b y → watches (next_list old edit) r y ≡ true → Contains (built old).believed y)
      → rests r x
      → SameGaps old (next_list old edit) b (moment_at g x) r
      ⊎ (outcome old (far_in old.premises) (built old).believed (moment_at g x) r ≡ outcome (next_list old edit) (far_in (next_list old edit).premises) b (moment_at g x) r))
      (keeps_among : (c b : List Moment) (r : List ℕ) (x : ℕ) → AllOccur old c → HasOccurrences b g → IsLive g x → Contains c (moment_at g x)
      → Contains (rules_at old (moment_at g x)) r → Contains (rules_at (next_list old edit) (moment_at g x)) r
      → ((y : Moment) → Contains c y → watches old r y ≡ true → Contains b y)
      → ((y : Moment) → Contains b y → watches (next_list old edit) r y ≡ true → Contains c y)
      → SayNone old (next_list old edit) → rests r x
      → outcome old (far_in old.premises) c (moment_at g x) r ≡ outcome (next_list old edit) (far_in (next_list old edit).premises) b (moment_at g x) r)
      (all : (i : ℕ) (q : Row) → after i ≡ Some q → (q.waits ≡ true) ⊎ rests q.rule q.trigger)
      (only : (i : ℕ) (o q : Row) → mid i ≡ Some o → after i ≡ Some q → q.waits ≡ true → (o.waits ≡ true) ⊎ (MovesAt moves (next_list old edit) g q.rule q.trigger
      ⊎ (Contains (rules_at old (moment_at g q.trigger)) q.rule → Contains (rules_at (next_list old edit) (moment_at g q.trigger)) q.rule → RivalsStay old (next_list old edit) q.rule → ⊥)))
      (b : List Moment) (holds : HasOccurrences b g) where
    -- a row that does not wait keeps its outcome
    module _ (i : ℕ) (q : Row) (at : after i ≡ Some q) (still : q.waits ≡ false) where
      abbrev o : Row
      o = (on.was i q at).0

      there : mid i ≡ Some o
      there = (on.was i q at).1

      is : q ≡ record o { waits = q.waits }
      is = (on.was i q at).2

      rest : rests q.rule q.trigger
      rest = elim (all i q at) [ inl waits ↦ true_false (sym waits ∙ still) | inr there ↦ there ]

      rested : o.waits ≡ true → ⊥
      rested waits = true_false (sym ((on.was i q at).3 waits) ∙ still)

      live : IsLive g q.trigger
      live = (begun.own i q at).0

      stood : BeginsFrom rows i q → Contains (built old).believed (moment_at g q.trigger) × Contains (rules_at old (moment_at g q.trigger)) q.rule
      stood (is_new free none blank waits) = true_false (sym waits ∙ still)
      stood (was r at_r is_r) =
          let h = current.rows_are.own i r at_r in
          let live_before = subst (λ (z : Row). IsLive f z.trigger) (sym is_r) h.0 in
          let same = stays_same (next_list old edit) f g ready.nodes_begin q.trigger live_before live in
          let (m, m_at) = node_at f q.trigger live_before in (
            subst (Contains (built old).believed) (sym (same ∙ moment_at-is f q.trigger m m_at)) (current.holds.own q.trigger m m_at),
            subst (λ z. Contains (rules_at old z) q.rule) (sym same) (subst (λ (z : Row). Contains (rules_at old (moment_at f z.trigger)) z.rule) (sym is_r) h.1),
          )

      same_rivals : RivalsStay old (next_list old edit) q.rule
      same_rivals = stay q.rule q.trigger (stood (begun.from i q at)).1 (begun.own i q at).1 rest

      -- a token that left, and that the rule watched, bore on no decision there
      left_bore : (y : ℕ) (m : Member) → member f y ≡ Some m → member g y ≡ None → watches old q.rule (moment m) ≡ true → BoreOnNone old (next_list old edit) before f g m q.trigger
      left_bore y m m_at gone reads =
          elim (ready.waits.left i y o m there m_at gone (subst (RivalsStay old (next_list old edit)) (ap (λ (z : Row). z.rule) is) same_rivals)
          (subst (λ z. watches old z (moment m) ≡ true) (ap (λ (z : Row). z.rule) is) reads)) [
            | inl waits ↦ absurd (rested waits)
            | inr bore ↦ subst (λ (z : Row). BoreOnNone old (next_list old edit) before f g m z.trigger) (sym is) bore
          ]

      -- what is believed still is there, if the rule watches it
      abbrev StaysIfWatched : Moment → Type 0
      StaysIfWatched x = watches old q.rule x ≡ true → Contains b x

      -- or it is of a node that left, and watched
      abbrev LeftWatched : Moment → Type 0
      LeftWatched x = (y : ℕ) × (m : Member) × (member f y ≡ Some m) × (member g y ≡ None) × (watches old q.rule (moment m) ≡ true)

      stays_there : (y : ℕ) (m k : Member) → member f y ≡ Some m → member g y ≡ Some k → Contains b (moment m)
      stays_there y m k m_at here = elim (ready.nodes_begin.own y k here) [
        | inl was_there ↦ (
            let both : Some k ≡ Some m = sym was_there ∙ m_at in
            let one : k ≡ m = cc in
            subst (Contains b) (ap moment one) (holds.own y k here))
        | inr added ↦ absurd (none_some m (sym added.0 ∙ m_at))
      ]

      stays_or_watched : (x : Moment) → Contains (built old).believed x → StaysIfWatched x ⊎ LeftWatched x
      stays_or_watched x believed = by (watches old q.rule x) refl
        where
          by : (v : Bool) → watches old q.rule x ≡ v → StaysIfWatched x ⊎ LeftWatched x
          by false off = inl (λ reads. true_false (sym reads ∙ off))
          by true reads = elim (stays_or_left old before f g current.seen current.holds x believed) [
            | inl (y, m, both, same) ↦ (
                let (m_at, (k, here)) = of_both f g y m both in
                inl (λ watched. subst (Contains b) same (stays_there y m k m_at here)))
            | inr (y, m, m_at, gone, same) ↦ inr (y, m, m_at, gone, subst (λ z. watches old q.rule z ≡ true) (sym same) reads)
          ]

      watched_was : (x : Moment) → Contains b x → watches (next_list old edit) q.rule x ≡ true → Contains (built old).believed x
      watched_was x among reads =
          let (y, m, m_at, same) = holds.all x among in
          by y m m_at same (member f y) refl
        where
          by : (y : ℕ) (m : Member) → member g y ≡ Some m → moment m ≡ x → (v : Option Member) → member f y ≡ v → Contains (built old).believed x
          by y m m_at same None new_there = absurd (rested (ready.waits.entered i y o m there new_there m_at
              (subst (λ z. watches (next_list old edit) z (moment m) ≡ true) (ap (λ (z : Row). z.rule) is) (subst (λ z. watches (next_list old edit) q.rule z ≡ true) (sym same) reads))))
          by y m m_at same (Some k) before = elim (ready.nodes_begin.own y m m_at) [
            | inl there ↦ subst (Contains (built old).believed) same (current.holds.own y m there)
            | inr added ↦ absurd (none_some k (sym added.0 ∙ before))
          ]

      -- where some that left were watched, it keeps its outcome: first as these leave, and then as
      -- points moved
      kept_without : LeftWatched (moment_at g q.trigger) → outcome old (far_in old.premises) (built old).believed (moment_at g q.trigger) q.rule
          ≡ outcome (next_list old edit) (far_in (next_list old edit).premises) b (moment_at g q.trigger) q.rule
      kept_without (u, z, z_at, z_gone, z_reads) =
          let none = (left_bore u z z_at z_gone z_reads).0 in
          let (k, here) = node_at g q.trigger live in
          let stands = stood (begun.from i q at) in
          let there_both = into_both f g q.trigger k k (node_was q.trigger k here (subst (Contains (built old).believed) (moment_at-is g q.trigger k here) stands.0)) here in
          let c = staying old before f g current.seen current.holds in
          let holds_c = holds_staying old before f g current.seen current.holds in
          let same : moment_at (those_in f g) q.trigger ≡ moment_at g q.trigger = moment_at-is (those_in f g) q.trigger k there_both ∙ sym (moment_at-is g q.trigger k here) in
          subst (λ t. outcome old (far_in old.premises) (built old).believed t q.rule ≡ outcome old (far_in old.premises) (staying old before f g current.seen current.holds) t q.rule) same
          (without_left old before f g current.seen current.holds q.trigger k (of_both f g q.trigger k there_both).0 k here q.rule (reads_none old q.rule (λ f1 on f2. (none f1 f2).0))
          (λ y n n_at gone reads. (left_bore y n n_at gone reads).1))
          ∙ keeps_among c b q.rule q.trigger (occur_staying old before f g current.seen current.holds) holds live (subst (Contains c) (sym (moment_at-is g q.trigger k here)) (holds_c.own q.trigger k there_both))
          stands.1 (begun.own i q at).1
          (λ x on reads. (
          let (y, n, both, is_x) = holds_c.all x on in
          let (n_at, (n_here, n_there)) = of_both f g y n both in
          subst (Contains b) is_x (stays_there y n n_here n_at n_there)))
          (λ x on reads. (
          let (y, n, n_here, is_x) = holds.all x on in
          let believed = watched_was x on reads in
          let n_at = node_was y n n_here (subst (Contains (built old).believed) (sym is_x) believed) in
          subst (Contains c) is_x (holds_c.own y n (into_both f g y n n n_at n_here))))
          none rest

      -- the edit does not touch it, or it keeps its outcome
      row_keeps : IsUntouched old (next_list old edit) b (moment_at g q.trigger) q.rule
          ⊎ (outcome old (far_in old.premises) (built old).believed (moment_at g q.trigger) q.rule
          ≡ outcome (next_list old edit) (far_in (next_list old edit).premises) b (moment_at g q.trigger) q.rule)
      row_keeps = elim (all_or_one StaysIfWatched LeftWatched (built old).believed (λ x on. stays_or_watched x (Contains-from_In (built old).believed x on))) [
        | inr (x, on, left) ↦ inr (kept_without left)
        | inl stay_all ↦ (
            let stands = stood (begun.from i q at) in
            let watched_stays : (x : Moment) → Contains (built old).believed x → watches old q.rule x ≡ true → Contains b x = λ x believed reads. stay_all x (In-from_Contains (built old).believed x believed) reads in
            elim (keeps b q.rule q.trigger holds live stands.0 stands.1 (begun.own i q at).1 watched_stays watched_was rest) [
              | inr same ↦ inr same
              | inl gaps ↦ inl (record { was = stands; horizon = same_horizon; rivals = same_rivals; left = watched_stays; entered = watched_was; gaps = gaps })
            ])
      ]

    -- a row that waits is touched
    module _ (i : ℕ) (q : Row) (at : after i ≡ Some q) (waits : q.waits ≡ true) (u : IsUntouched old (next_list old edit) b (moment_at g q.trigger) q.rule) where
      abbrev o2 : Row
      o2 = (on.was i q at).0

      there2 : mid i ≡ Some o2
      there2 = (on.was i q at).1

      is2 : q ≡ record o2 { waits = q.waits }
      is2 = (on.was i q at).2

      live2 : IsLive g q.trigger
      live2 = (begun.own i q at).0

      -- its decision was there
      had_row : rows i ≡ None → BeginsFrom rows i q → ⊥
      had_row free (was r at_r is_r) = none_some r (sym free ∙ at_r)
      had_row free (is_new _ none blank _) =
          let (m, m_at) = node_at g q.trigger live2 in
          let is_m = moment_at-is g q.trigger m m_at in
          let before = node_was q.trigger m m_at (subst (Contains (built old).believed) is_m u.was.0) in
          let (j, row, at_j, tr, ru) = current.rows_are.each q.trigger q.rule (live_at f q.trigger m before)
          (subst (λ z. Contains (rules_at old z) q.rule) (is_m ∙ sym (moment_at-is f q.trigger m before)) u.was.1) in
          none j row at_j tr ru

      -- what left was watched
      watched : (x : ℕ) (m : Member) → member f x ≡ Some m → IsLeftFrom old (next_list old edit) q.rule m → watches old q.rule (moment m) ≡ true
      watched x m at_x (inl reads) = reads
      watched x m at_x (inr (class, is, rival)) =
          read_then old edit sound_old sound_new (moment_at g q.trigger) q.rule u.was.1 (begun.own i q at).1 u.rivals before.names m class (current.seen.members x m at_x) is rival

      waited_touched : (rows i ≡ None)
          ⊎ (((x : ℕ) × (m : Member) × (member f x ≡ Some m) × (member g x ≡ None) × IsLeftFrom old (next_list old edit) o2.rule m)
          ⊎ ((x : ℕ) × (m : Member) × (member f x ≡ None) × (member g x ≡ Some m) × (watches (next_list old edit) o2.rule (moment m) ≡ true))) → ⊥
      waited_touched (inl free) = had_row free (begun.from i q at)
      waited_touched (inr (inl (x, m, before, gone, reads))) =
          let among = u.left (moment m) (current.holds.own x m before) (watched x m before (subst (λ z. IsLeftFrom old (next_list old edit) z m) (sym (ap (λ (z : Row). z.rule) is2)) reads)) in
          none_some m (sym gone ∙ node_stays b holds x m before among)
      waited_touched (inr (inr (x, m, free, here, reads))) =
          let believed = u.entered (moment m) (holds.own x m here) (subst (λ z. watches (next_list old edit) z (moment m) ≡ true) (sym (ap (λ (z : Row). z.rule) is2)) reads) in
          none_some m (sym free ∙ node_was x m here believed)

      wait_touched : ⊥
      wait_touched = elim (only i o2 q there2 at waits) [
        | inl waited ↦ waited_touched (ready.waits.only i o2 there2 waited)
        | inr why ↦ elim why [ inl moved ↦ apart b q.rule q.trigger holds live2 u.was.0 u.entered u.gaps moved | inr changed ↦ changed u.was.1 (begun.own i q at).1 u.rivals ]
      ]

    waits_or_keeps : (i : ℕ) (q : Row) → after i ≡ Some q → (v : Bool) → q.waits ≡ v → (q.waits ≡ true)
        ⊎ (IsUntouched old (next_list old edit) b (moment_at g q.trigger) q.rule
        ⊎ (outcome old (far_in old.premises) (built old).believed (moment_at g q.trigger) q.rule ≡ outcome (next_list old edit) (far_in (next_list old edit).premises) b (moment_at g q.trigger) q.rule))
    waits_or_keeps i q at true waits = inl waits
    waits_or_keeps i q at false still = inr (row_keeps i q at still)

    pub moved_marked : AreSeeds old (next_list old edit) b → AreMarked old (next_list old edit) b g after
    moved_marked seeds = resting_marked old edit b g after sound_old sound_new seeds rows_are
        (λ i q at. waits_or_keeps i q at q.waits refl)
        (λ i q at waits u. wait_touched i q at waits u)

  pub prepared_on : ((b : List Moment) → HasOccurrences b g → AreSeeds old (next_list old edit) b → AreMarked old (next_list old edit) b g after)
      → IsPrepared old (next_list old edit) net f g rows after
  prepared_on marked = record { seen = ready.seen; nodes_begin = ready.nodes_begin; rows_begin = begun; marked = marked }

-- ---- another horizon

module _ (old : Standing) (n : ℕ) (before net : Net) (f g : Forest) (rows mid after : Rows) (sound_old : IsSound old) (sound_new : IsSound (list_until old n))
    (current : IsCurrent old before f rows) (ready : IsReady old (list_until old n) before net f g rows mid) (on : WaitOn mid after)
    (all : (i : ℕ) (q : Row) → after i ≡ Some q → q.waits ≡ false
    → int_le (due old (far_in old.premises) (moment_at g q.trigger) q.rule) (pos old.horizon) ≡ int_le (due old (far_in old.premises) (moment_at g q.trigger) q.rule) (pos n))
    (only : (i : ℕ) (o q : Row) → mid i ≡ Some o → after i ≡ Some q → q.waits ≡ true → (o.waits ≡ true) ⊎ (old.horizon ≢ n))
    (b : List Moment) (holds : HasOccurrences b g) (seeds : AreSeeds old (list_until old n) b) where
  began : RowsBegin (list_until old n) g rows after
  began = rows_on (list_until old n) g rows mid after ready.rows_begin on

  -- nodes are those before
  node_before : (x : ℕ) (m : Member) → member g x ≡ Some m → member f x ≡ Some m
  node_before x m at = node_was old (Horizon n) before net f g rows mid after sound_old sound_new current ready on x m at
      (among_believed old n b sound_old seeds (moment m) (holds.own x m at))

  node_after : (x : ℕ) (m : Member) → member f x ≡ Some m → member g x ≡ Some m
  node_after x m at = node_stays old (Horizon n) before net f g rows mid after sound_old sound_new current ready on b holds x m at
      (believed_among old n b sound_old seeds (moment m) (current.holds.own x m at))

  -- no row is new
  row_before : (i : ℕ) (q : Row) → after i ≡ Some q → rows i ≡ None → BeginsFrom rows i q → ⊥
  row_before i q at free (was r at_r is_r) = none_some r (sym free ∙ at_r)
  row_before i q at free (is_new _ none blank _) =
      let h = began.own i q at in
      let (m, m_at) = node_at g q.trigger h.0 in
      let there = node_before q.trigger m m_at in
      let same = moment_at-is g q.trigger m m_at ∙ sym (moment_at-is f q.trigger m there) in
      let (j, row, at_j, tr, ru) = current.rows_are.each q.trigger q.rule (live_at f q.trigger m there) (subst (λ z. Contains (rules_at old z) q.rule) same h.1) in
      none j row at_j tr ru

  -- so none waited for what left or entered
  none_waited : (i : ℕ) (o q : Row) → mid i ≡ Some o → after i ≡ Some q → o.waits ≡ true → ⊥
  none_waited i o q there at waits = by (ready.waits.only i o there waits)
    where
      by : (rows i ≡ None)
          ⊎ (((x : ℕ) × (m : Member) × (member f x ≡ Some m) × (member g x ≡ None) × IsLeftFrom old (list_until old n) o.rule m)
          ⊎ ((x : ℕ) × (m : Member) × (member f x ≡ None) × (member g x ≡ Some m) × (watches (list_until old n) o.rule (moment m) ≡ true))) → ⊥
      by (inl free) = row_before i q at free (began.from i q at)
      by (inr (inl (x, m, stood, gone, _))) = none_some m (sym gone ∙ node_after x m stood)
      by (inr (inr (x, m, free, here, _))) = none_some m (sym free ∙ node_before x m here)

  changed_or_rests : (i : ℕ) (q : Row) → after i ≡ Some q → (v : Bool) → q.waits ≡ v → (q.waits ≡ true)
      ⊎ (int_le (due old (far_in old.premises) (moment_at g q.trigger) q.rule) (pos old.horizon) ≡ int_le (due old (far_in old.premises) (moment_at g q.trigger) q.rule) (pos n))
  changed_or_rests i q at true waits = inl waits
  changed_or_rests i q at false rests = inr (all i q at rests)

  pub due_marked : AreMarked old (list_until old n) b g after
  due_marked = horizons_marked old n b g after sound_old sound_new holds seeds
      (rows_are old (Horizon n) before net f g rows mid after sound_old sound_new current ready on)
      (λ i q at. changed_or_rests i q at q.waits refl)
      (λ i q at waits. (let (o, there, _, _) = on.was i q at in elim (only i o q there at waits) [
        | inl waited ↦ absurd (none_waited i o q there at waited)
        | inr other ↦ other
      ]))
