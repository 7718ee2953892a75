-- A turn in which nodes enter or go keeps what nodes and rows say of the revision.
use Rattle.std.proofs.Common.{◌≡◌, ◌≢◌, ◌∙◌, ℕ, true, false, eqb, List, ◌∷◌, Option, Some, None, IsSome, refl, sym, ap, subst, inl, inr, ◌⊎◌, arith}
use Rattle.std.proofs.lemmas.Bool.{cases_Bool}
use Rattle.std.proofs.lemmas.Bool.Decides.{eqb_tells}
use Rattle.std.proofs.lemmas.Int.{ints}
use Rattle.std.specs.Prelude.{ℤ, ◌≤ℤ◌, ◌<ℤ◌, is_some}
use Rattle.std.specs.List.{Contains}
use Rattle.std.specs.Option.{option_map}
use Rattle.tmm_model.specs.declared.premise.Edit.{Edit}
use Rattle.tmm_model.specs.Beliefs.{rules_at}
use Rattle.tmm_model.specs.Edits.{next_list}
use Rattle.tmm_model.specs.Maps.{built}
use Rattle.tmm_model.specs.Moments.{Moment}
use Rattle.tmm_model.specs.Standing.{Standing}
use Rattle.dist_net.specs.Net.{Net}
use Rattle.spots.specs.Forest.{Forest, Member, member, IsLive, moment_at}
use Rattle.spots.proofs.Nodes.{node_at, moment_at-is}
use Rattle.undo_rows.specs.declared.row.Row.{Row as TableRow}
use Rattle.undo_rows.specs.Changes.{present as table}
use Rattle.decision_rows.specs.Decisions.{decided as with_found}
use Rattle.decision_rows.specs.declared.row.Pair.{Pair}
use Rattle.decision_rows.specs.declared.row.Decision.{Decision}
use Rattle.occ_tree.specs.Classes.{place_in, HaveMore}
use Rattle.occ_tree.specs.Places.{forest}
use Rattle.revisions.specs.Maps.{revision}
use Rattle.revisions.specs.Revisions.{Revision}
use Rattle.joined.specs.Marking.{AreMarksOf, AsksFor, IsMarkedBy}
use Rattle.joined.specs.Netted.{IsNetted}
use Rattle.joined.specs.Rows.{Row}
use Rattle.joined.specs.Sparing.{StaysNode}
use Rattle.joined.specs.Turning.{IsCodeTurn, ComesFrom, decided, kept, new, TreeTurns, stays, enters, withdraws}
use Rattle.joined.proofs.CodeTurns.{code_turned}
use Rattle.joined.proofs.Marking.{marked_row}
use Rattle.belief_turns.specs.declared.deciding.Due.{Due}
use Rattle.belief_table.specs.declared.state.Beliefs.{Beliefs}
use Rattle.belief_table.specs.Decided.{table_of, rule_in}
use Rattle.belief_turns.specs.Moving.{date_at, IsMarkedAt, IsKeptRow, IsComing, TurnsOn, row_due}
use Rattle.belief_table.specs.Numbers.{name_in}
use Rattle.belief_turns.specs.Turning.{rows_of, IsUnderway}
use Rattle.belief_table.specs.Waiting.{waits_in}
use Rattle.belief_table.proofs.Marked.{one_row}
use Rattle.belief_table.proofs.Named.{name_stays, are_numbered}
use Rattle.belief_turns.proofs.Turned.{seen_row, row_there, row_of, decided_row, other_row, row_cases, due_first, found_right}

none_some : {X : Type 0} (x : X) → None ≡ Some x → ⊥
none_some x e = cc

dead : (f : Forest) (x : ℕ) → IsLive f x → member f x ≡ None → ⊥
dead f x live none = let no : false ≡ true = sym (ap (λ (o : Option Member). is_some o) none) ∙ live in cc

-- a node that stays is what it was
member_stays : (s : Standing) (names : _) (f g : Forest) (p : Row) (found : Decision) → TreeTurns s names f g p found
    → (x : ℕ) (m : Member) → member f x ≡ Some m → IsLive g x → member g x ≡ Some m
member_stays s names f g p found (stays alike same) x m at live = ap (λ (h : Forest). member h x) same ∙ at
member_stays s names f g p found (enters now before y adds) x m at live = elim (eqb_tells x y) [
  | inl same ↦ absurd (none_some m (sym adds.enters.free ∙ ap (member f) (sym same.1) ∙ at))
  | inr other ↦ adds.enters.others x other.1 ∙ at
]
member_stays s names f g p found (withdraws now before k is out) x m at live = out.others x m at (λ below. dead g x live (out.gone x m at below))

module _ (old : Standing) (edit : Edit) (net : Net) (b c e : Beliefs) (due : Due) (taken : List (Moment × List ℕ))
    (t : TurnsOn (next_list old edit) net b c e due) (k : IsUnderway old edit net b taken) where
  abbrev s : Standing
  s = next_list old edit

  abbrev R : Revision
  R = revision (built old) (built (next_list old edit))

  abbrev f : Forest
  f = forest b.tree

  abbrev g : Forest
  g = forest e.tree

  abbrev x : ℕ
  x = due.row

  abbrev p : Row
  p = row_due b due.row t.decided.row

  -- the name of a rule under its number, before and after
  name_is : (i : ℕ) (row : TableRow Pair 8) → (table_of b.decisions).row i ≡ Some row → name_in e.decisions.rules row.value.rule ≡ name_in b.decisions.rules row.value.rule
  name_is i row at =
      let more : HaveMore b.decisions.rules e.decisions.rules = subst (λ l. HaveMore l e.decisions.rules) t.decided.rules t.moves.last.rules in
      name_stays b.decisions.rules e.decisions.rules row.value.rule more (t.fit.under.named i row at)

  -- the event of a row that stays
  moment_is : (i : ℕ) (row : TableRow Pair 8) → (table_of b.decisions).row i ≡ Some row → IsLive g row.value.trigger → moment_at g row.value.trigger ≡ moment_at f row.value.trigger
  moment_is i row at live =
      let (m, here) = node_at f row.value.trigger (t.fit.events i row at) in
      let then_ = member_stays s net.names f g p due.found t.tree row.value.trigger m here live in
      moment_at-is g row.value.trigger m then_ ∙ sym (moment_at-is f row.value.trigger m here)

  -- the row that was decided waits no more
  rests : (row : TableRow Pair 8) → (table_of e.decisions).row x ≡ Some row → row ≡ with_found due.found t.decided.row → IsKeptRow s g t.marks c.decisions e.decisions x row → waits_in e.decisions.waiting x ≡ false
  rests row there is keeps = elim (cases_Bool (waits_in e.decisions.waiting x)) [
    | inr no_wait ↦ no_wait
    | inl wait ↦ absurd (by (keeps.waits.0 wait))
  ]
    where
      live_g : IsLive g t.decided.row.value.trigger
      live_g = subst (λ (z : TableRow Pair 8). IsLive g z.value.trigger) is (t.fit_after.events x row there)

      here : moment_at g row.value.trigger ≡ moment_at f due.trigger
      here = ap (λ (z : TableRow Pair 8). moment_at g z.value.trigger) is ∙ moment_is x t.decided.row t.decided.at live_g ∙ ap (moment_at f) t.decided.trigger

      by : (waits_in c.decisions.waiting x ≡ true) ⊎ IsMarkedAt s g (table_of c.decisions) t.marks x row (rule_in e.decisions row) → ⊥
      by (inl waited) = (let no : false ≡ true = sym (ap is_some t.decided.takes.puts.at) ∙ waited in cc)
      by (inr (mark, at, late, _)) =
          let early = t.later mark at in
          let no_later = subst (λ z. mark.from ≤ℤ date_at s z) here late in
          ordered (date_at s (moment_at f due.trigger)) mark.from early no_later
        where
          ordered : (a b : ℤ) → a <ℤ b → b ≤ℤ a → ⊥
          ordered a b less more = omega (arith, ints, less, more)

  marks_are : AreMarksOf (revision (built old) (built (next_list old edit))) (next_list old edit) net (place_in e.decisions.classes) f g p due.found t.marks
  marks_are = record {
    own = λ mark at. let (m, own, moves, of) = t.are.own mark at in (m, own, moves, record { class = of.class; has_class = of.has_class; numbered = of.numbered; fact = of.fact; early = of.from; spared = of.spared });
    all = λ m class own moves has. let (mark, at, of) = t.are.all m class own moves has in (mark, at, record { class = of.class; has_class = of.has_class; numbered = of.numbered; fact = of.fact; early = of.from; spared = of.spared });
  }

  -- where a row comes from
  own : (i : ℕ) (q : Row) → rows_of e i ≡ Some q → ComesFrom (revision (built old) (built (next_list old edit))) f g (rows_of b) x p due.found i q
  own i q at = let (row, there, is) = row_of e i q at in by row there is (t.moves.each i row there)
    where
      by : (row : TableRow Pair 8) → (table_of e.decisions).row i ≡ Some row → q ≡ seen_row e i row
          → IsKeptRow s g t.marks c.decisions e.decisions i row ⊎ IsComing f c.decisions e.decisions i row
          → ComesFrom (revision (built old) (built (next_list old edit))) f g (rows_of b) x p due.found i q
      by row there is (inr coming) =
          new (no_row (eqb_tells i x)) (λ live. coming.event (subst (IsLive f) (ap (λ (z : Row). z.trigger) is) live)) (ap (λ (z : Row). z.found) is ∙ coming.undecided) (ap (λ (z : Row). z.waits) is ∙ coming.waits)
        where
          no_row : ((eqb i x ≡ true) × (i ≡ x)) ⊎ ((eqb i x ≡ false) × (i ≡ x → ⊥)) → rows_of b i ≡ None
          no_row (inl same) = absurd (none_some (with_found due.found t.decided.row) (sym coming.free ∙ ap (table_of c.decisions).row same.1 ∙ decided_row s net b c due t.fit t.decided))
          no_row (inr apart) = ap (option_map (seen_row b i)) (sym (other_row s net b c due t.fit t.decided i apart.1) ∙ coming.free)
      by row there is (inl keeps) = elim (row_cases s net b c due t.fit t.decided i row keeps.there) [
        | inl same ↦ decided same.0 (is ∙ ap (seen_row e i) same.1 ∙ then_decided (rested same.0 same.1) (name_is x t.decided.row t.decided.at))
        | inr other ↦ kept (seen_row b i row) other.0 (row_there b i row other.1) (is ∙ then_kept (sym (ap (λ (z : Row). z.waits) is)) (name_is i row other.1))
            (marked_row old edit net f g p due.found c.decisions.rows (name_in e.decisions.rules) (place_in e.decisions.classes) t.marks i row (seen_row b i row) q
            t.fit.tree.seen t.fit_after.tree.seen t.tree (stays_there other.1) (are_numbered e.decisions.classes) t.moves.listed keeps.there (t.fit_after.under.classes i row there) (ap (λ (z : Row). z.rule) is) marks_are
            (to_marks other.0, from_marks other.0))
      ]
        where
          rested : i ≡ x → row ≡ with_found due.found t.decided.row → waits_in e.decisions.waiting i ≡ false
          rested same one =
              ap (waits_in e.decisions.waiting) same
              ∙ rests row (ap (table_of e.decisions).row (sym same) ∙ there) one (subst (λ z. IsKeptRow s g t.marks c.decisions e.decisions z row) same keeps)

          then_decided : waits_in e.decisions.waiting i ≡ false → name_in e.decisions.rules t.decided.row.value.rule ≡ name_in b.decisions.rules t.decided.row.value.rule
              → seen_row e i (with_found due.found t.decided.row) ≡ record p { found = due.found; waits = false }
          then_decided no_wait named = λ j. record { trigger = t.decided.row.value.trigger; rule = named j; found = due.found; waits = no_wait j }

          then_kept : waits_in e.decisions.waiting i ≡ q.waits → name_in e.decisions.rules row.value.rule ≡ name_in b.decisions.rules row.value.rule
              → seen_row e i row ≡ record (seen_row b i row) { waits = q.waits }
          then_kept waits named = λ j. record { trigger = row.value.trigger; rule = named j; found = row.value.decision; waits = waits j }

          -- its event is there before and after
          stays_there : (table_of b.decisions).row i ≡ Some row → StaysNode f g q.trigger
          stays_there at_b =
              let (m, here) = node_at f row.value.trigger (t.fit.events i row at_b) in
              let then_ = member_stays s net.names f g p due.found t.tree row.value.trigger m here (t.fit_after.events i row there) in
              subst (λ (z : Row). StaysNode f g z.trigger) (sym is) (record { node = m; before = here; after = then_ })

          as_before : i ≢ x → waits_in c.decisions.waiting i ≡ waits_in b.decisions.waiting i
          as_before other = ap is_some (t.decided.takes.puts.others i other)

          to_marks : i ≢ x → q.waits ≡ true → (waits_in b.decisions.waiting i ≡ true) ⊎ IsMarkedBy (revision (built old) (built (next_list old edit))) (next_list old edit) g (table c.decisions.rows) t.marks i q
          to_marks other waits = elim (keeps.waits.0 (sym (ap (λ (z : Row). z.waits) is) ∙ waits)) [
            | inl waited ↦ inl (sym (as_before other) ∙ waited)
            | inr (mark, at, late, asks) ↦ inr (
              mark,
              at,
              subst (λ (z : Row). mark.from ≤ℤ date_at s (moment_at g z.trigger)) (sym is) late,
              subst (λ (z : Row). AsksFor s (table c.decisions.rows) mark i z.trigger z.rule) (sym is) asks,
            )
          ]

          from_marks : i ≢ x → (waits_in b.decisions.waiting i ≡ true) ⊎ IsMarkedBy (revision (built old) (built (next_list old edit))) (next_list old edit) g (table c.decisions.rows) t.marks i q → q.waits ≡ true
          from_marks other (inl waited) = ap (λ (z : Row). z.waits) is ∙ keeps.waits.1 (inl (as_before other ∙ waited))
          from_marks other (inr (mark, at, late, asks)) =
              ap (λ (z : Row). z.waits) is
              ∙ keeps.waits.1 (inr (
                mark,
                at,
                subst (λ (z : Row). mark.from ≤ℤ date_at s (moment_at g z.trigger)) is late,
                subst (λ (z : Row). AsksFor s (table c.decisions.rows) mark i z.trigger z.rule) is asks,
              ))

  live : (i : ℕ) (q : Row) → rows_of e i ≡ Some q → IsLive g q.trigger
  live i q at = let (row, there, is) = row_of e i q at in subst (λ (z : Row). IsLive g z.trigger) (sym is) (t.fit_after.events i row there)

  some_then : (i : ℕ) (row : TableRow Pair 8) → (table_of c.decisions).row i ≡ Some row → IsLive g row.value.trigger → IsSome (rows_of e i)
  some_then i row there is_live = still ((table_of e.decisions).row i) (t.moves.stay i row there is_live)
    where
      still : (o : Option (TableRow Pair 8)) → IsSome o → IsSome (option_map (seen_row e i) o)
      still None none = none
      still (Some r) some = refl

  stay : (i : ℕ) (o : Row) → rows_of b i ≡ Some o → IsLive g o.trigger → IsSome (rows_of e i)
  stay i o at is_live = let (row, there, is) = row_of b i o at in by row there (subst (λ (z : Row). IsLive g z.trigger) is is_live) (eqb_tells i x)
    where
      by : (row : TableRow Pair 8) → (table_of b.decisions).row i ≡ Some row → IsLive g row.value.trigger → ((eqb i x ≡ true) × (i ≡ x)) ⊎ ((eqb i x ≡ false) × (i ≡ x → ⊥)) → IsSome (rows_of e i)
      by row there row_live (inl same) =
          let one = one_row (table_of b.decisions) x row t.decided.row (ap (table_of b.decisions).row (sym same.1) ∙ there) t.decided.at in
          some_then i (with_found due.found t.decided.row) (ap (table_of c.decisions).row same.1 ∙ decided_row s net b c due t.fit t.decided) (subst (λ (z : TableRow Pair 8). IsLive g z.value.trigger) one row_live)
      by row there row_live (inr apart) = some_then i row (other_row s net b c due t.fit t.decided i apart.1 ∙ there) row_live

  pub turn : IsCodeTurn (revision (built old) (built (next_list old edit))) (next_list old edit) net.names f g (rows_of b) (rows_of e) x p due.found
  turn = record {
    first = due_first s net b c due t.fit t.decided old edit taken refl k;
    right = found_right s net b c due t.fit t.decided old edit taken refl k;
    tree = t.tree;
    own = own;
    live = live;
    stay = stay;
    entered = record {
      stands = λ i q at dead_f.
          let (row, there, is) = row_of e i q at in
          subst (λ (z : Row). Contains (rules_at s (moment_at g z.trigger)) z.rule) (sym is) (t.moves.stands i row there (λ row_live. dead_f (subst (λ (z : Row). IsLive f z.trigger) (sym is) row_live)));
      all = λ y rule live_g dead_f on.
          let (i, row, there, at_y, named) = t.moves.all y rule live_g dead_f on in
          (i, seen_row e i row, row_there e i row there, at_y, named);
      apart = λ i j q o at_q at_o dead_f trigger rule.
          let (row, there, is) = row_of e i q at_q in
          let (other, there_o, is_o) = row_of e j o at_o in
          t.moves.apart i j row other there there_o (λ row_live. dead_f (subst (λ (z : Row). IsLive f z.trigger) (sym is) row_live))
          (sym (ap (λ (z : Row). z.trigger) is) ∙ trigger ∙ ap (λ (z : Row). z.trigger) is_o) (sym (ap (λ (z : Row). z.rule) is) ∙ rule ∙ ap (λ (z : Row). z.rule) is_o);
    };
  }

  turned : IsUnderway old edit net e ((moment_at f due.trigger, due.rule) ∷ taken)
  turned = record {
    sound = k.sound;
    sound_after = k.sound_after;
    netted = subst (λ (d : Moment × List ℕ). IsNetted old (next_list old edit) net g (rows_of e) (d ∷ taken)) (λ j. (moment_at f (t.decided.trigger j), t.decided.rule j))
        (code_turned old edit net f g (rows_of b) (rows_of e) taken x p due.found k.sound k.sound_after k.netted turn);
  }

-- **A turn keeps what nodes and rows say of the revision.**
pub turn_kept : (s : Standing) (net : Net) (b c e : Beliefs) (due : Due) → TurnsOn s net b c e due
    → (old : Standing) (edit : Edit) (taken : List (Moment × List ℕ)) → next_list old edit ≡ s → IsUnderway old edit net b taken
    → IsUnderway old edit net e ((moment_at (forest b.tree) due.trigger, due.rule) ∷ taken)
turn_kept s net b c e due t old edit taken list k = turned old edit net b c e due taken (subst (λ l. TurnsOn l net b c e due) (sym list) t) k
