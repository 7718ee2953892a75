-- A turn keeps what nodes and rows say of a revision, whatever it does to the nodes.
use Rattle.std.proofs.Common.{◌≡◌, ◌∙◌, ℕ, Bool, true, false, ◌&&◌, List, ◌∷◌, refl, sym, ap, subst, inl, inr, arith}
use Rattle.std.proofs.lemmas.Bool.{cases_Bool}
use Rattle.std.proofs.lemmas.Int.{ints}
use Rattle.std.specs.Prelude.{◌⊎◌, ◌≢◌, Some, None, ℤ, ◌≤ℤ◌, ◌<ℤ◌}
use Rattle.std.specs.List.{Contains}
use Rattle.std.specs.Cmp.Lexicographic.{bytes_decides, nat_list_eq_equiv}
use Rattle.tmm_model.specs.declared.premise.Edit.{Edit}
use Rattle.belief_theory.specs.Outcomes.{Outcome, beyond, outcome}
use Rattle.tmm_model.specs.Edits.{next_list}
use Rattle.tmm_model.specs.Maps.{built}
use Rattle.tmm_model.specs.Moments.{Moment, After, same_moment}
use Rattle.tmm_model.specs.Points.{same_name}
use Rattle.list_theory.specs.WellNamed.{IsSound}
use Rattle.tmm_model.specs.Standing.{Standing, far_in}
use Rattle.list_theory.proofs.Elements.{both}
use Rattle.belief_theory.proofs.Moments.{Decides-same_moment}
use Rattle.dist_net.specs.Net.{Net}
use Rattle.spots.specs.Forest.{Forest, Member, member, moment, moment_at, IsLive}
use Rattle.spots.specs.OfLists.{IsForestOf, HasOccurrences}
use Rattle.spots.proofs.Nodes.{node_at, live_at, moment_at-is}
use Rattle.decision_rows.specs.declared.row.Decision.{Decision}
use Rattle.revisions.specs.Keeping.{IsKeeping, IsLeast, Waits}
use Rattle.revisions.specs.Maps.{revision}
use Rattle.revisions.specs.Marks.{ReadsMoved, Marks, Moves}
use Rattle.revisions.specs.Revisions.{Revision, is_firing, IsLawful}
use Rattle.revisions.specs.Steps.{Differs, IsMarked, Makes, Turns}
use Rattle.revisions.proofs.Agreeing.{live_of}
use Rattle.revisions.proofs.Lawful.{lawful}
use Rattle.revisions.proofs.Marking.{marked}
use Rattle.revisions.proofs.Turning.{turned}
use Rattle.joined.specs.Netted.{IsNetted}
use Rattle.joined.specs.Rows.{Row, Rows, fires_by, decision_of, HasRow, IsWaiting, AreApart}
use Rattle.joined.specs.Turning.{IsCodeTurn, Moved, ComesFrom, decided, kept, new}
use Rattle.joined.proofs.Deciding.{fires_told, not_both, some_row, live_or}

-- the outcome kept after a turn: the one made, none yet, or that kept before
abbrev pick : Bool → Bool → Outcome → Outcome → Outcome
pick true b o k = o
pick false true o k = beyond
pick false false o k = k

module _ (old : Standing) (edit : Edit) (net : Net) (f g : Forest) (rows after : Rows) (taken : List (Moment × List ℕ)) (x : ℕ) (p : Row) (found : Decision)
    (sound_old : IsSound old) (sound_new : IsSound (next_list old edit)) (n : IsNetted old (next_list old edit) net f rows taken)
    (turn : IsCodeTurn (revision (built old) (built (next_list old edit))) (next_list old edit) net.names f g rows after x p found) where
  abbrev pub R : Revision
  R = revision (built old) (built (next_list old edit))

  abbrev pub t : Moment
  t = moment_at f p.trigger

  abbrev pub effect : Moment
  effect = After (moment_at f p.trigger) p.rule

  -- what moves
  abbrev pub moved : Moment → Type 0
  moved = Moved f p found

  pub laws : IsLawful (revision (built old) (built (next_list old edit)))
  laws = lawful old edit sound_old sound_new

  pub first : IsLeast (revision (built old) (built (next_list old edit))) (IsWaiting f rows) (moment_at f p.trigger) p.rule
  first = record { waits = (x, p, turn.first.row, turn.first.waits, refl, refl); least = λ u q w. subst (λ z. R.early t ≤ℤ R.early z) w.4 (turn.first.least w.0 w.1 w.2 w.3) }

  pub w : Waits (revision (built old) (built (next_list old edit))) n.nodes n.date (moment_at f p.trigger) p.rule
  w = n.keeping.waits t p.rule first.waits

  pub later_effect : R.early (moment_at f p.trigger) <ℤ R.early (After (moment_at f p.trigger) p.rule)
  later_effect = laws.later t p.rule (live_of R laws n.nodes n.kept (IsWaiting f rows) taken n.date n.keeping t w.live) w.stands

  not_itself : effect ≡ t → ⊥
  not_itself e = by (R.early t) (R.early effect) later_effect (ap R.early e)
    where
      by : (a b : ℤ) → a <ℤ b → b ≡ a → ⊥
      by a b l e = omega (arith, ints)

  pub fires_now : fires_by found ≡ is_firing (outcome (next_list old edit) (far_in (next_list old edit).premises) n.nodes (moment_at f p.trigger) p.rule)
  fires_now = fires_told found (R.outcome n.nodes t p.rule) (turn.right n.nodes n.holds)

  pub fires_was : fires_by p.found ≡ is_firing (n.kept (moment_at f p.trigger) p.rule)
  fires_was = fires_told p.found (n.kept t p.rule) (n.told x p turn.first.row)

  -- what a turn comes to: nodes that one of the three kinds leaves, and with the rows they say what
  -- they have to
  pub record IsTurned : Type 0 where
    pub nodes : List Moment
    pub outcomes : Moment → List ℕ → Outcome
    pub holds : HasOccurrences nodes g
    pub turns : Turns (revision (built old) (built (next_list old edit))) n.nodes nodes n.kept outcomes (IsWaiting g after) (moment_at f p.trigger) p.rule
    pub netted : IsNetted old (next_list old edit) net g after ((moment_at f p.trigger, p.rule) ∷ taken)

  -- two nodes of one moment are one
  one_node : (y z : ℕ) → IsLive f y → IsLive f z → moment_at f y ≡ moment_at f z → y ≡ z
  one_node y z live_y live_z same =
      let (m, there) = node_at f y live_y in
      let (o, here) = node_at f z live_z in
      n.holds.once y z m o there here (sym (moment_at-is f y m there) ∙ same ∙ moment_at-is f z o here)

  in_nodes : (y : ℕ) → IsLive f y → Contains n.nodes (moment_at f y)
  in_nodes y live = let (m, there) = node_at f y live in subst (Contains n.nodes) (sym (moment_at-is f y m there)) (n.holds.own y m there)

  -- another row is of another decision
  differs_rows : (i : ℕ) (o : Row) → rows i ≡ Some o → i ≢ x → Differs t p.rule (moment_at f o.trigger) o.rule
  differs_rows i o at other same = other (n.rows_are.apart i x o p at turn.first.row (one_node o.trigger p.trigger (n.rows_are.own i o at).0 (n.rows_are.own x p turn.first.row).0 same.0) same.1)

  -- ---- rows then and before

  -- a row was there under its number, of the same decision, or is of no node before
  old_or_new : (j : ℕ) (q : Row) → after j ≡ Some q → ((o : Row) × (rows j ≡ Some o) × (q.trigger ≡ o.trigger) × (q.rule ≡ o.rule)) ⊎ (IsLive f q.trigger → ⊥)
  old_or_new j q at = by (turn.own j q at)
    where
      by : ComesFrom R f g rows x p found j q → ((o : Row) × (rows j ≡ Some o) × (q.trigger ≡ o.trigger) × (q.rule ≡ o.rule)) ⊎ (IsLive f q.trigger → ⊥)
      by (decided number is) = inl (p, ap rows number ∙ turn.first.row, ap (λ (z : Row). z.trigger) is, ap (λ (z : Row). z.rule) is)
      by (kept o other was is marks) = inl (o, was, ap (λ (z : Row). z.trigger) is, ap (λ (z : Row). z.rule) is)
      by (new free dead blank wa) = inr dead

  -- what stands under the number of a row is of the same decision
  same_decision : (j : ℕ) (q o : Row) → after j ≡ Some q → rows j ≡ Some o → (q.trigger ≡ o.trigger) × (q.rule ≡ o.rule)
  same_decision j q o at was = by (turn.own j q at)
    where
      as_before : (o2 : Row) → rows j ≡ Some o2 → q.trigger ≡ o2.trigger → q.rule ≡ o2.rule → (q.trigger ≡ o.trigger) × (q.rule ≡ o.rule)
      as_before o2 was2 tr ru =
          let both : Some o2 ≡ Some o = sym was2 ∙ was in
          let one : o2 ≡ o = cc in
          (tr ∙ ap (λ (z : Row). z.trigger) one, ru ∙ ap (λ (z : Row). z.rule) one)

      by : ComesFrom R f g rows x p found j q → (q.trigger ≡ o.trigger) × (q.rule ≡ o.rule)
      by (decided number is) = as_before p (ap rows number ∙ turn.first.row) (ap (λ (z : Row). z.trigger) is) (ap (λ (z : Row). z.rule) is)
      by (kept o2 other was2 is marks) = as_before o2 was2 (ap (λ (z : Row). z.trigger) is) (ap (λ (z : Row). z.rule) is)
      by (new free dead blank wa) = let e : None ≡ Some o = sym free ∙ was in cc

  apart : AreApart after
  apart i j q o at_q at_o trigger rule = elim (old_or_new i q at_q) [
    | inr dead ↦ turn.entered.apart i j q o at_q at_o dead trigger rule
    | inl (q2, was_q, tr_q, ru_q) ↦ elim (old_or_new j o at_o) [
      | inr dead ↦ sym (turn.entered.apart j i o q at_o at_q dead (sym trigger) (sym rule))
      | inl (o2, was_o, tr_o, ru_o) ↦ n.rows_are.apart i j q2 o2 was_q was_o (sym tr_q ∙ trigger ∙ tr_o) (sym ru_q ∙ rule ∙ ru_o)
    ]
  ]

  module _ (entering : Bool) where
    -- the outcomes kept then: those before, but for the one made, and none yet at a node that
    -- enters
    pub kept_after : Moment → List ℕ → Outcome
    kept_after u q = pick (same_moment u t && same_name q p.rule) (entering && same_moment u effect) (R.outcome n.nodes t p.rule) (n.kept u q)

    kept_now : kept_after t p.rule ≡ R.outcome n.nodes t p.rule
    unfolding kept_after
    kept_now =
        let same : (same_moment t t && same_name p.rule p.rule) ≡ true = (λ i. (Decides-same_moment t t).1 refl i && nat_list_eq_equiv.refl p.rule i) in
        ap (λ v. pick v (entering && same_moment t effect) (R.outcome n.nodes t p.rule) (n.kept t p.rule)) same

    not_same : (u : Moment) (q : List ℕ) → Differs t p.rule u q → (same_moment u t && same_name q p.rule) ≡ false
    not_same u q differs = by (same_moment u t && same_name q p.rule) refl
      where
        by : (v : Bool) → (same_moment u t && same_name q p.rule) ≡ v → (same_moment u t && same_name q p.rule) ≡ false
        by false e = e
        by true e = let h = both (same_moment u t) (same_name q p.rule) e in absurd (differs ((Decides-same_moment u t).0 h.0, (bytes_decides q p.rule).0 h.1))

    kept_other : (u : Moment) (q : List ℕ) → Differs t p.rule u q → ((entering && same_moment u effect) ≡ true → ⊥) → kept_after u q ≡ n.kept u q
    unfolding kept_after
    kept_other u q differs other =
        ap (λ v. pick v (entering && same_moment u effect) (R.outcome n.nodes t p.rule) (n.kept u q)) (not_same u q differs)
        ∙ ap (λ v. pick false v (R.outcome n.nodes t p.rule) (n.kept u q)) (by (entering && same_moment u effect) other)
      where
        by : (v : Bool) → (v ≡ true → ⊥) → v ≡ false
        by false h = refl
        by true h = absurd (h refl)

    pub kept_new : (q : List ℕ) → entering ≡ true → kept_after (After (moment_at f p.trigger) p.rule) q ≡ beyond
    unfolding kept_after
    kept_new q e =
        let now : (entering && same_moment effect effect) ≡ true = (λ i. e i && (Decides-same_moment effect effect).1 refl i) in
        ap (λ v. pick v (entering && same_moment effect effect) (R.outcome n.nodes t p.rule) (n.kept effect q)) (not_same effect q (λ s. not_itself s.0))
        ∙ ap (λ v. pick false v (R.outcome n.nodes t p.rule) (n.kept effect q)) now

    module _ (c : List Moment) (holds : HasOccurrences c g) (seen : IsForestOf (next_list old edit) net g)
        (stay_node : (y : ℕ) (m : Member) → member f y ≡ Some m → Contains c (moment m) → member g y ≡ Some m)
        (back_node : (y : ℕ) (m : Member) → member g y ≡ Some m → (member f y ≡ Some m) ⊎ ((moment m ≡ effect) × (entering ≡ true) × (member f y ≡ None)))
        (absent : entering ≡ true → Contains n.nodes effect → ⊥)
        (late : (y : Moment) → moved y → R.early t <ℤ R.early y)
        (effect_moves : entering ≡ true → moved effect)
        (moves : Moves R n.nodes n.kept t p.rule c kept_after (IsWaiting g after) moved) where
      not_new : (u : Moment) → Contains n.nodes u → (entering && same_moment u effect) ≡ true → ⊥
      not_new u there e = let h = both entering (same_moment u effect) e in absent h.0 (subst (Contains n.nodes) ((Decides-same_moment u effect).0 h.1) there)

      in_c : (y : ℕ) → IsLive g y → Contains c (moment_at g y)
      in_c y live = let (m, there) = node_at g y live in subst (Contains c) (sym (moment_at-is g y m there)) (holds.own y m there)

      -- what a number is in both trees
      same_both : (y : ℕ) → IsLive f y → IsLive g y → moment_at g y ≡ moment_at f y
      same_both y before now =
          let (m, there) = node_at f y before in
          let (o, here) = node_at g y now in
          elim (back_node y o here) [
            | inl was ↦ moment_at-is g y o here ∙ sym (moment_at-is f y o was)
            | inr is ↦ (let e : None ≡ Some m = sym is.2 ∙ there in cc)
          ]

      -- what is of no node before is of what enters
      entered : (y : ℕ) → IsLive g y → (IsLive f y → ⊥) → (moment_at g y ≡ effect) × (entering ≡ true)
      entered y now dead =
          let (o, here) = node_at g y now in
          elim (back_node y o here) [ inl was ↦ absurd (dead (live_at f y o was)) | inr is ↦ (moment_at-is g y o here ∙ is.0, is.1) ]

      -- the node of an occurrence that stays
      stays_live : (y : ℕ) → IsLive f y → Contains c (moment_at f y) → IsLive g y
      stays_live y live there = let (m, is) = node_at f y live in live_at g y m (stay_node y m is (subst (Contains c) (moment_at-is f y m is) there))

      -- ---- rows

      -- each is of a rule at a node
      row_stands : (j : ℕ) (q : Row) → after j ≡ Some q → IsLive g q.trigger × Contains (R.rules (moment_at g q.trigger)) q.rule
      row_stands j q at = (
        turn.live j q at,
        elim (old_or_new j q at) [
          | inl (o, was, tr, ru) ↦
              let before = n.rows_are.own j o was in
              let same : moment_at g q.trigger ≡ moment_at f o.trigger = same_both q.trigger (subst (IsLive f) (sym tr) before.0) (turn.live j q at) ∙ ap (moment_at f) tr in
              subst (λ z. Contains (R.rules z) q.rule) (sym same) (subst (Contains (R.rules (moment_at f o.trigger))) (sym ru) before.1)
          | inr dead ↦ turn.entered.stands j q at dead
        ],
      )

      has_row : (y : ℕ) (rule : List ℕ) → IsLive g y → Contains (R.rules (moment_at g y)) rule → HasRow after y rule
      has_row y rule live stands = elim (live_or f y) [
        | inl before ↦
            let (j, o, was, tr, ru) = n.rows_are.each y rule before (subst (λ z. Contains (R.rules z) rule) (same_both y before live) stands) in
            let (q, at) = some_row (after j) (turn.stay j o was (subst (IsLive g) (sym tr) live)) in
            let same = same_decision j q o at was in
            (j, q, at, same.0 ∙ tr, same.1 ∙ ru)
        | inr dead ↦ turn.entered.all y rule live dead stands
      ]

      -- two rows of one decision are one
      one_row : (i j : ℕ) (q o : Row) → after i ≡ Some q → after j ≡ Some o → moment_at g q.trigger ≡ moment_at g o.trigger → q.rule ≡ o.rule → q ≡ o
      one_row i j q o at_q at_o same rule =
          let number : i ≡ j = apart i j q o at_q at_o (one_after q.trigger o.trigger (turn.live i q at_q) (turn.live j o at_o) same) rule in
          let there : Some q ≡ Some o = sym at_q ∙ ap after number ∙ at_o in
          cc
        where
          one_after : (y z : ℕ) → IsLive g y → IsLive g z → moment_at g y ≡ moment_at g z → y ≡ z
          one_after y z live_y live_z same =
              let (m, here) = node_at g y live_y in
              let (o, there) = node_at g z live_z in
              holds.once y z m o here there (sym (moment_at-is g y m here) ∙ same ∙ moment_at-is g z o there)

      -- the row of a decision
      row_of : (u : Moment) (q : List ℕ) → Contains c u → Contains (R.rules u) q → (j : ℕ) × (row : Row) × (after j ≡ Some row) × (moment_at g row.trigger ≡ u) × (row.rule ≡ q)
      row_of u q there stands =
          let (y, m, is, of_u) = holds.all u there in
          let same = moment_at-is g y m is ∙ of_u in
          let (j, row, here, trigger, rule) = has_row y q (live_at g y m is) (subst (λ z. Contains (R.rules z) q) (sym same) stands) in
          (j, row, here, ap (moment_at g) trigger ∙ same, rule)

      -- a row that stays is of the same decision
      kept_u : (j : ℕ) (q : Row) → after j ≡ Some q → (o : Row) → rows j ≡ Some o → q.trigger ≡ o.trigger → moment_at g q.trigger ≡ moment_at f o.trigger
      kept_u j q at o was tr = same_both q.trigger (subst (IsLive f) (sym tr) (n.rows_are.own j o was).0) (row_stands j q at).0 ∙ ap (moment_at f) tr

      decided_t : (j : ℕ) (q : Row) → after j ≡ Some q → q.trigger ≡ p.trigger → moment_at g q.trigger ≡ t
      decided_t j q at tr = same_both q.trigger (subst (IsLive f) (sym tr) (n.rows_are.own x p turn.first.row).0) (row_stands j q at).0 ∙ ap (moment_at f) tr

      -- ---- which rows wait

      stay : (u : Moment) (q : List ℕ) → IsWaiting f rows u q → Contains c u → Differs t p.rule u q → IsWaiting g after u q
      stay u q (i, o, at, waits, of_u, of_q) there differs =
          let live_o = (n.rows_are.own i o at).0 in
          let now = stays_live o.trigger live_o (subst (Contains c) (sym of_u) there) in
          let same = same_both o.trigger live_o now in
          let stands = subst (λ z. Contains (R.rules z) o.rule) (sym same) (n.rows_are.own i o at).1 in
          let (j, row, here, trigger, rule) = has_row o.trigger o.rule now stands in
          (j, row, here, by j row trigger rule (turn.own j row here), ap (moment_at g) trigger ∙ same ∙ of_u, rule ∙ of_q)
        where
          by : (j : ℕ) (row : Row) → row.trigger ≡ o.trigger → row.rule ≡ o.rule → ComesFrom R f g rows x p found j row → row.waits ≡ true
          by j row trigger rule (decided number is) =
              absurd (differs (sym of_u ∙ ap (moment_at f) (sym trigger ∙ ap (λ (z : Row). z.trigger) is), sym of_q ∙ sym rule ∙ ap (λ (z : Row). z.rule) is))
          by j row trigger rule (kept o2 other at2 is marks) =
              let number : j ≡ i = n.rows_are.apart j i o2 o at2 at (sym (ap (λ (z : Row). z.trigger) is) ∙ trigger) (sym (ap (λ (z : Row). z.rule) is) ∙ rule) in
              let there : Some o2 ≡ Some o = sym at2 ∙ ap rows number ∙ at in
              let one : o2 ≡ o = cc in
              marks.on (subst (λ (z : Row). z.waits ≡ true) (sym one) waits)
          by j row trigger rule (new free dead blank wa) = wa

      all : (u : Moment) (q : List ℕ) → Contains c u → Contains (R.rules u) q → ReadsMoved R moved u q → IsWaiting g after u q ⊎ (R.outcome c u q ≡ R.outcome n.nodes u q)
      all u q there stands reads =
          let (j, row, here, of_u, of_q) = row_of u q there stands in
          elim (by j row of_u of_q (turn.own j row here) (row_stands j row here).0) [ inl waits ↦ inl (j, row, here, waits, of_u, of_q) | inr same ↦ inr same ]
        where
          too_late : (a b e : ℤ) → a <ℤ e → e ≤ℤ b → b ≡ a → ⊥
          too_late a b e l h s = omega (arith, ints)

          by : (j : ℕ) (row : Row) → moment_at g row.trigger ≡ u → row.rule ≡ q → ComesFrom R f g rows x p found j row → IsLive g row.trigger
              → (row.waits ≡ true) ⊎ (R.outcome c u q ≡ R.outcome n.nodes u q)
          by j row of_u of_q (decided number is) live =
              let tr : row.trigger ≡ p.trigger = ap (λ (z : Row). z.trigger) is in
              let is_t : u ≡ t = sym of_u ∙ same_both row.trigger (subst (IsLive f) (sym tr) (n.rows_are.own x p turn.first.row).0) live ∙ ap (moment_at f) tr in
              absurd (too_late (R.early t) (R.early u) (R.early reads.0) (late reads.0 reads.1) reads.3 (ap R.early is_t))
          by j row of_u of_q (kept o other at is marks) live =
              elim (marks.all (subst (λ z. ReadsMoved R moved z row.rule) (sym of_u) (subst (ReadsMoved R moved u) (sym of_q) reads))) [
                | inl waits ↦ inl waits
                | inr same ↦ inr (subst (λ z. R.outcome c u z ≡ R.outcome n.nodes u z) of_q (subst (λ z. R.outcome c z row.rule ≡ R.outcome n.nodes z row.rule) of_u (same n.nodes c n.holds holds)))
              ]
          by j row of_u of_q (new free dead blank wa) live = inl wa

      come : (u : Moment) (q : List ℕ) → IsWaiting g after u q
          → (IsWaiting f rows u q × Contains c u × Differs t p.rule u q)
          ⊎ ((Contains c u × Contains (R.rules u) q × (ReadsMoved R moved u q ⊎ ((u ≡ effect) × moved u))) ⊎ IsMarked R c t u q)
      come u q (j, row, here, waits, of_u, of_q) = by (turn.own j row here)
        where
          live : IsLive g row.trigger
          live = (row_stands j row here).0

          in_u : Contains c u
          in_u = subst (Contains c) of_u (in_c row.trigger live)

          stands : Contains (R.rules u) q
          stands = subst (λ z. Contains (R.rules u) z) of_q (subst (λ z. Contains (R.rules z) row.rule) of_u (row_stands j row here).1)

          by : ComesFrom R f g rows x p found j row
              → (IsWaiting f rows u q × Contains c u × Differs t p.rule u q)
              ⊎ ((Contains c u × Contains (R.rules u) q × (ReadsMoved R moved u q ⊎ ((u ≡ effect) × moved u))) ⊎ IsMarked R c t u q)
          by (decided number is) = absurd (not_both row.waits waits (ap (λ (z : Row). z.waits) is))
          by (kept o other at is marks) =
              elim (marks.only waits) [
                | inl was ↦
                    let ru : row.rule ≡ o.rule = ap (λ (z : Row). z.rule) is in
                    let is_u : moment_at f o.trigger ≡ u = sym (kept_u j row here o at (ap (λ (z : Row). z.trigger) is)) ∙ of_u in
                    inl ((j, o, at, was, is_u, sym ru ∙ of_q), in_u, λ s. differs_rows j o at other (is_u ∙ s.0, sym ru ∙ of_q ∙ s.1))
                | inr (inl reads) ↦ inr (inl (in_u, stands, inl (subst (λ z. ReadsMoved R moved u z) of_q (subst (λ z. ReadsMoved R moved z row.rule) of_u reads))))
                | inr (inr may) ↦ inr (inr (record {
                  live = in_u;
                  stands = stands;
                  after = subst (λ z. R.early t <ℤ R.early z) of_u may.after;
                  touched = λ believed. subst (λ z. R.touched u z ≡ true) of_q (subst (λ z. R.touched z row.rule ≡ true) of_u (may.touched (subst (Contains R.believed) (sym of_u) believed)));
                }))
              ]
          by (new free dead blank wa) =
              let is = entered row.trigger live dead in
              let is_effect : u ≡ effect = sym of_u ∙ is.0 in
              inr (inl (in_u, stands, inr (is_effect, subst moved (sym is_effect) (effect_moves is.1))))

      marks : Marks R n.nodes c n.kept kept_after (IsWaiting f rows) (IsWaiting g after) t p.rule moved
      marks = record { now = kept_now; others = λ u q before now stands differs. kept_other u q differs (not_new u before); stay = stay; all = all; come = come }

      test : (u : Moment) (q : List ℕ) → Contains c u → Contains (R.rules u) q → IsWaiting g after u q ⊎ (IsWaiting g after u q → ⊥)
      test u q there stands =
          let (j, row, here, of_u, of_q) = row_of u q there stands in
          elim (cases_Bool row.waits) [
            | inl waits ↦ inl (j, row, here, waits, of_u, of_q)
            | inr not_waits ↦ inr (λ h. not_both row.waits (subst (λ (z : Row). z.waits ≡ true) (one_row h.0 j h.1 row h.2 here (h.4 ∙ sym of_u) (h.5 ∙ sym of_q)) h.3) not_waits)
          ]

      -- ---- what is kept

      made : Makes R n.nodes c n.kept kept_after (IsWaiting f rows) (IsWaiting g after) t p.rule × Turns R n.nodes c n.kept kept_after (IsWaiting g after) t p.rule
      made = marked R laws n.nodes n.kept (IsWaiting f rows) taken n.date n.keeping t p.rule first c kept_after (IsWaiting g after) moved marks test moves

      keeping : IsKeeping R c kept_after (IsWaiting g after) ((t, p.rule) ∷ taken) (R.early t)
      keeping = turned R laws n.nodes n.kept (IsWaiting f rows) taken n.date n.keeping t p.rule first c kept_after (IsWaiting g after) made.0 made.1

      kept_still : (j : ℕ) (q : Row) → after j ≡ Some q → (o : Row) → rows j ≡ Some o → j ≢ x → q ≡ record o { waits = q.waits }
          → kept_after (moment_at g q.trigger) q.rule ≡ n.kept (moment_at f o.trigger) o.rule
      kept_still j q at o was other is =
          (λ i. kept_after (kept_u j q at o was (ap (λ (z : Row). z.trigger) is) i) (is i).rule)
          ∙ kept_other (moment_at f o.trigger) o.rule (differs_rows j o was other) (not_new (moment_at f o.trigger) (in_nodes o.trigger (n.rows_are.own j o was).0))

      kept_decided : (j : ℕ) (q : Row) → after j ≡ Some q → q ≡ record p { found = found; waits = false } → kept_after (moment_at g q.trigger) q.rule ≡ R.outcome n.nodes t p.rule
      kept_decided j q at is = (λ i. kept_after (decided_t j q at (ap (λ (z : Row). z.trigger) is) i) (is i).rule) ∙ kept_now

      told : (j : ℕ) (q : Row) → after j ≡ Some q → q.found ≡ decision_of (kept_after (moment_at g q.trigger) q.rule)
      told j q at = by (turn.own j q at)
        where
          by : ComesFrom R f g rows x p found j q → q.found ≡ decision_of (kept_after (moment_at g q.trigger) q.rule)
          by (decided number is) = ap (λ (z : Row). z.found) is ∙ turn.right n.nodes n.holds ∙ ap decision_of (sym (kept_decided j q at is))
          by (kept o other was is _) = ap (λ (z : Row). z.found) is ∙ n.told j o was ∙ ap decision_of (sym (kept_still j q at o was other is))
          by (new free dead blank wa) =
              let here = entered q.trigger (row_stands j q at).0 dead in
              blank ∙ ap decision_of (sym (ap (λ u. kept_after u q.rule) here.0 ∙ kept_new q.rule here.1))

      netted : IsNetted old (next_list old edit) net g after ((moment_at f p.trigger, p.rule) ∷ taken)
      netted = record {
        nodes = c;
        kept = kept_after;
        date = R.early t;
        seen = seen;
        holds = holds;
        keeping = keeping;
        rows_are = record { each = has_row; own = row_stands; apart = apart };
        told = told;
      }

      pub turned_to : IsTurned
      turned_to = record { nodes = c; outcomes = kept_after; holds = holds; turns = made.1; netted = netted }
