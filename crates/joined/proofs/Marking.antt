-- Rows that are marked by the lists of classes are marked as a turn asks.
use Rattle.std.proofs.Common.{◌≡◌, ◌∙◌, ℕ, Bool, true, false, ◌||◌, List, refl, sym, ap, subst, inl, inr, arith}
use Rattle.std.proofs.lemmas.Int.{ints}
use Rattle.std.specs.Prelude.{◌↔◌, ◌⊎◌, Option, Some, None, ℤ, ◌≤ℤ◌, int_le}
use Rattle.std.specs.List.{Contains}
use Rattle.std.specs.Option.{option_map_or}
use Rattle.tmm_model.specs.declared.premise.Edit.{Edit}
use Rattle.tmm_model.specs.declared.token.TokenRow.{TokenRow}
use Rattle.tmm_model.specs.Edits.{next_list}
use Rattle.tmm_model.specs.Maps.{built}
use Rattle.tmm_model.specs.Moments.{Moment, distance, early}
use Rattle.belief_theory.specs.Touched.{is_watched}
use Rattle.tmm_model.specs.Standing.{Standing, far_in}
use Rattle.tmm_model.specs.Tokens.{is_by}
use Rattle.list_theory.specs.WellNamed.{IsSound}
use Rattle.list_theory.proofs.Elements.{In}
use Rattle.belief_theory.specs.Outcomes.{outcome}
use Rattle.belief_theory.specs.Right.{Occurs}
use Rattle.belief_theory.proofs.OneRight.{spot-token_of}
use Rattle.belief_theory.proofs.SoundBeliefs.{sound_timed}
use Rattle.dist_net.specs.Net.{Net}
use Rattle.spots.specs.Forest.{Forest, Member, member, moment, moment_at}
use Rattle.spots.specs.OfLists.{IsForestOf, IsMemberOf, HasOccurrences}
use Rattle.spots.proofs.Nodes.{moment_at-is}
use Rattle.spots.proofs.Grown.{node_cases, node_kept}
use Rattle.undo_rows.specs.declared.row.Row.{Row as TableRow}
use Rattle.undo_rows.specs.Changes.{Logged, present}
use Rattle.undo_rows.specs.Tables.{AreListed}
use Rattle.decision_rows.specs.declared.row.Pair.{Pair}
use Rattle.decision_rows.specs.declared.row.Decision.{Decision}
use Rattle.revisions.specs.Maps.{revision, watches}
use Rattle.revisions.specs.Marks.{ReadsMoved}
use Rattle.revisions.specs.Revisions.{Revision}
use Rattle.revisions.specs.Steps.{IsUnder}
use Rattle.revisions.specs.Walls.{AllOccur}
use Rattle.joined.specs.Gaps.{reads_class, reads_rival}
use Rattle.joined.specs.Listed.{AreNumbered, IsUnderClasses, IsListedUnder}
use Rattle.joined.specs.Marking.{Mark, IsMarkOf, AreMarksOf, IsMarkedBy}
use Rattle.joined.specs.Rows.{Row}
use Rattle.joined.specs.Sparing.{StaysNode}
use Rattle.joined.specs.Turning.{Moved, came, went, TreeTurns, stays, enters, withdraws, IsMarkedRow, SameOutcome, effect_of}
use Rattle.joined.proofs.Leaving.{leaves}
use Rattle.joined.proofs.Listed.{readers_listed}
use Rattle.joined.proofs.Sparing.{IsSparedFor, IsSparedIn, spared_for, spared_stay, spared_at}
use Rattle.joined.proofs.Starting.{reads_by_class, fact_is}

-- what is not surely begun, by its date
later_not_begun : (s : Standing) → IsSound s → (x t : Moment) → Occurs s x → Occurs s t → int_le (early s (far_in s.premises) x) (early s (far_in s.premises) t) ≡ false
    → is_by (distance s (far_in s.premises)) x t ≡ false
later_not_begun s sound x t of_x of_t later = by (is_by (distance s (far_in s.premises)) x t) refl
  where
    ordered : (a b : ℤ) → int_le a b ≡ false → a ≤ℤ b → ⊥
    ordered a b less more = grind (arith, ints)

    by : (v : Bool) → is_by (distance s (far_in s.premises)) x t ≡ v → v ≡ false
    by false e = refl
    by true e = absurd (ordered (early s (far_in s.premises) x) (early s (far_in s.premises) t) later ((sound_timed s sound).in_order x t of_x of_t e))

no_later : (a b : ℤ) → int_le a b ≡ true → a ≤ℤ b
no_later a b e = grind (arith, ints)

module _ (old : Standing) (edit : Edit) (net : Net) (f g : Forest) (p : Row) (found : Decision)
    (rows : Logged Pair 8) (name : ℕ → List ℕ) (number : List ℕ → Option ℕ) (marks : List Mark) (i : ℕ) (row : TableRow Pair 8) (o q : Row)
    (seen : IsForestOf (next_list old edit) net f) (seen_after : IsForestOf (next_list old edit) net g) (tree : TreeTurns (next_list old edit) net.names f g p found)
    (stays_there : StaysNode f g q.trigger)
    (numbered : AreNumbered number) (listed : AreListed (present rows))
    (here : (present rows).row i ≡ Some row) (under : IsUnderClasses (next_list old edit) name number row) (rule_is : q.rule ≡ name row.value.rule)
    (are : AreMarksOf (revision (built old) (built (next_list old edit))) (next_list old edit) net number f g p found marks)
    (waits : (q.waits ≡ true) ↔ ((o.waits ≡ true) ⊎ IsMarkedBy (revision (built old) (built (next_list old edit))) (next_list old edit) g (present rows) marks i q)) where
  abbrev new : Standing
  new = next_list old edit

  abbrev R : Revision
  R = revision (built old) (built (next_list old edit))

  abbrev u : Moment
  u = moment_at g q.trigger

  not_true : {P : Type 0} → false ≡ true → P
  not_true e = cc

  -- what is read has a class
  class_read : (m : Member) → IsMemberOf new net.names m → watches new q.rule (moment m) ≡ true → (class : List ℕ) × (m.class ≡ Some class)
  class_read m own reads = by m.class (sym (reads_by_class new net.names m q.rule own) ∙ reads)
    where
      by : (c : Option (List ℕ)) → option_map_or (λ class. reads_class new q.rule class || reads_rival new q.rule m.what) c false ≡ true → (class : List ℕ) × (c ≡ Some class)
      by (Some class) e = (class, refl)
      by None e = cc

  -- the row reads a token exactly where it is on a list of its class, or its rule reads a rival
  read_by_mark : (m : Member) → IsMemberOf new net.names m → (mark : Mark) → IsMarkOf R net number f g m mark
      → (watches new q.rule (moment m) ≡ true) ↔ (IsListedUnder (present rows) mark.class i ⊎ (reads_rival new q.rule mark.fact ≡ true))
  read_by_mark m own mark of =
      subst (λ r. (watches new r (moment m) ≡ true) ↔ (IsListedUnder (present rows) mark.class i ⊎ (reads_rival new r mark.fact ≡ true))) (sym rule_is)
      (subst (λ x. (watches new (name row.value.rule) (moment m) ≡ true) ↔ (IsListedUnder (present rows) mark.class i ⊎ (reads_rival new (name row.value.rule) x ≡ true))) (sym of.fact)
      (readers_listed new net.names m rows name number of.class mark.class i row own of.has_class of.numbered numbered listed here under))

  only : IsMarkedBy R new g (present rows) marks i q → ReadsMoved R (Moved f p found) u q.rule
  only (mark, at, by_u, asks) =
      let (m, own, moves, of) = are.own mark at in
      let reads = (read_by_mark m own mark of).1 (elim asks [ inl on ↦ inl on.0 | inr rival ↦ inr rival ]) in
      (moment m, moves, reads, subst (λ z. z ≤ℤ R.early u) of.early by_u)

  -- ---- a row that is not let wait

  u_occurs : Occurs new u
  u_occurs = subst (Occurs new) (sym (moment_at-is g q.trigger stays_there.node stays_there.after)) (seen_after.members q.trigger stays_there.node stays_there.after).occurs

  module _ (rests : q.waits ≡ false) (b c : List Moment) (holds_b : HasOccurrences b f) (holds_c : HasOccurrences c g) where
    -- then each token that moved and that its rule watches is spared
    mark_spares : (m : Member) → IsMemberOf new net.names m → Moved f p found (moment m) → IsSparedIn new b c u q.rule (moment m)
    mark_spares m own moves k is reads = by (int_le (R.early (moment m)) (R.early u)) refl
      where
        reads_m : watches new q.rule (moment m) ≡ true
        reads_m = ap (λ (z : Option (TokenRow Moment)). elim z as (λ _. Bool) [ None ↦ false | Some w ↦ is_watched new q.rule w ]) is ∙ reads

        rests_not : {P : Type 0} → IsMarkedBy R new g (present rows) marks i q → P
        rests_not marked = not_true (sym rests ∙ waits.1 (inr marked))

        -- as the row does not wait, its rule reads no rival of the token, and the mark spares it
        by_mark : R.early (moment m) ≤ℤ R.early u → (mark : Mark) → In mark marks → IsMarkOf R net number f g m mark → (v w : Bool) → reads_rival new q.rule mark.fact ≡ v → mark.spares q.trigger ≡ w
            → IsSparedFor new b c u q.rule k
        by_mark by_u mark at of true w rival spares = rests_not (mark, at, subst (λ z. z ≤ℤ R.early u) (sym of.early) by_u, inr rival)
        by_mark by_u mark at of false true none spares =
            spared_for new b c u q.rule k (spared_at new net f g seen seen_after b c holds_b holds_c q.trigger stays_there.node stays_there.before stays_there.after (moment m) (of.spared q.trigger spares) k is)
            (ap (reads_rival new q.rule) (fact_is new net.names m own k is ∙ sym of.fact) ∙ none)
        by_mark by_u mark at of false false none spares = elim ((read_by_mark m own mark of).0 reads_m) [
          | inl on ↦ rests_not (mark, at, subst (λ z. z ≤ℤ R.early u) (sym of.early) by_u, inl (on, spares))
          | inr rival ↦ not_true (sym none ∙ rival)
        ]

        by : (v : Bool) → int_le (R.early (moment m)) (R.early u) ≡ v → IsSparedFor new b c u q.rule k
        by false later = inl (ap (λ z. is_by (distance new (far_in new.premises)) z u) (spot-token_of new (moment m) k is) ∙ later_not_begun new seen.network.sound (moment m) u own.occurs u_occurs later)
        by true e =
            let (class, has) = class_read m own reads_m in
            let (mark, at, of) = are.all m class own moves has in
            by_mark (no_later (R.early (moment m)) (R.early u) e) mark at of (reads_rival new q.rule mark.fact) (mark.spares q.trigger) refl refl

    spared_moment : (m : Member) → IsMemberOf new net.names m → (x : Moment) → moment m ≡ x → Moved f p found x → IsSparedIn new b c u q.rule x
    spared_moment m own x is moves = subst (IsSparedIn new b c u q.rule) is (mark_spares m own (subst (Moved f p found) (sym is) moves))

    occur_b : AllOccur new b
    occur_b x at = let (y, m, here_y, is) = holds_b.all x at in subst (Occurs new) is (seen.members y m here_y).occurs

    occur_c : AllOccur new c
    occur_c x at = let (y, m, here_y, is) = holds_c.all x at in subst (Occurs new) is (seen_after.members y m here_y).occurs

    -- what was there is there, or moved
    goes : (x : Moment) → Contains b x → Contains c x ⊎ IsSparedIn new b c u q.rule x
    goes x at = let (y, m, here_y, is) = holds_b.all x at in by y m here_y is tree
      where
        stood : (y : ℕ) (m : Member) → member g y ≡ Some m → moment m ≡ x → Contains c x
        stood y m at_y is = subst (Contains c) is (holds_c.own y m at_y)

        by : (y : ℕ) (m : Member) → member f y ≡ Some m → moment m ≡ x → TreeTurns new net.names f g p found → Contains c x ⊎ IsSparedIn new b c u q.rule x
        by y m here_y is (stays alike same) = inl (stood y m (ap (λ (z : Forest). member z y) same ∙ here_y) is)
        by y m here_y is (enters now before z adds) = inl (stood y m (node_kept new net f g z (effect_of f p) adds y m here_y) is)
        by y m here_y is (withdraws not_now before n effect gone) =
            let left = leaves new net b f g n seen holds_b gone in
            elim (left.rest x at) [
              | inl remains ↦ (let (z, k, at_z, is_z) = left.holds.all x remains in inl (stood z k at_z is_z))
              | inr below ↦ inr (spared_moment m (seen.members y m here_y) x is (went not_now before y m here_y is (subst (λ z. IsUnder z x) effect below)))
            ]

    -- and what is there was there, or moved
    comes : (x : Moment) → Contains c x → Contains b x ⊎ IsSparedIn new b c u q.rule x
    comes x at = let (y, m, here_y, is) = holds_c.all x at in by y m here_y is tree
      where
        stood : (y : ℕ) (m : Member) → member f y ≡ Some m → moment m ≡ x → Contains b x
        stood y m at_y is = subst (Contains b) is (holds_b.own y m at_y)

        by : (y : ℕ) (m : Member) → member g y ≡ Some m → moment m ≡ x → TreeTurns new net.names f g p found → Contains b x ⊎ IsSparedIn new b c u q.rule x
        by y m here_y is (stays alike same) = inl (stood y m (ap (λ (z : Forest). member z y) (sym same) ∙ here_y) is)
        by y m here_y is (enters now before z adds) = elim (node_cases new net f g z (effect_of f p) adds y m here_y) [
          | inl entered ↦ inr (spared_moment m (seen_after.members y m here_y) x is (came now before (sym is ∙ ap moment entered.1 ∙ adds.is)))
          | inr before_y ↦ inl (stood y m before_y is)
        ]
        by y m here_y is (withdraws not_now before n effect gone) =
            let left = leaves new net b f g n seen holds_b gone in
            inl (left.out x (by_holds left.nodes left.holds y m here_y is)).0
          where
            by_holds : (d : List Moment) → HasOccurrences d g → (y : ℕ) (m : Member) → member g y ≡ Some m → moment m ≡ x → Contains d x
            by_holds d holds y m at_y is = subst (Contains d) is (holds.own y m at_y)

    -- **So its outcome is the same.**
    same : outcome new (far_in new.premises) c u q.rule ≡ outcome new (far_in new.premises) b u q.rule
    same = sym (spared_stay new b c u q.rule seen.network.sound occur_b occur_c goes comes)

  all : (q.waits ≡ true) ⊎ SameOutcome R f g u q.rule
  all = by q.waits refl
    where
      by : (v : Bool) → q.waits ≡ v → (q.waits ≡ true) ⊎ SameOutcome R f g u q.rule
      by true e = inl e
      by false e = inr (λ b c holds_b holds_c. same e b c holds_b holds_c)

  pub marked_row : IsMarkedRow (revision (built old) (built (next_list old edit))) f g p found o q
  marked_row = record {
    on = λ waited. waits.1 (inl waited);
    all = λ reads. all;
    only = λ now. elim (waits.0 now) [ inl waited ↦ inl waited | inr mark ↦ inr (inl (only mark)) ];
  }
