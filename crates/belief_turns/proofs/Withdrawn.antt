-- A turn that withdraws an effect.
use Rattle.std.proofs.Common.{◌≡◌, ◌∙◌, ℕ, true, false, List, [], Option, Some, None, refl, sym, ap, subst, inl, inr, ◌⊎◌, arith}
use Rattle.std.proofs.lemmas.Int.{ints}
use Rattle.std.specs.Prelude.{ℤ, ◌≤ℤ◌, ◌<ℤ◌, is_some}
use Rattle.std.specs.Option.{option_map_or}
use Rattle.std.specs.List.{Contains}
use Rattle.tmm_model.specs.declared.token.TokenRow.{TokenRow}
use Rattle.tmm_model.specs.Beliefs.{rules_at}
use Rattle.tmm_model.specs.Moments.{Moment, At, After}
use Rattle.tmm_model.specs.Standing.{Standing, far_in}
use Rattle.list_theory.proofs.Elements.{In}
use Rattle.list_theory.specs.WellNamed.{IsSound}
use Rattle.belief_theory.specs.Right.{Occurs}
use Rattle.belief_theory.proofs.OneRight.{later as effect_after}
use Rattle.belief_theory.proofs.SoundBeliefs.{sound_timed}
use Rattle.dist_net.specs.Net.{Net}
use Rattle.row_links.specs.Lists.{IsOn}
use Rattle.spots.specs.declared.spot.Spot.{Spot}
use Rattle.spots.specs.Forest.{Forest, Member, member, IsLive, moment, moment_at, Withdraws, IsOnce}
use Rattle.spots.specs.OfLists.{IsForestOf, IsMemberOf}
use Rattle.spots.proofs.Nodes.{node_at, live_at, moment_at-is}
use Rattle.undo_rows.specs.declared.row.Row.{Row as TableRow}
use Rattle.decision_rows.specs.declared.row.Pair.{Pair}
use Rattle.occ_tree.specs.Below.{IsBelow}
use Rattle.occ_tree.specs.Classes.{place_in}
use Rattle.occ_tree.specs.Places.{forest}
use Rattle.occ_tree.specs.Standing.{Kept, present, early}
use Rattle.occ_tree.proofs.KeptDates.{withdrawals_keep_dates}
use Rattle.occ_tree.proofs.Members.{shrinking_withdraws, members_below, below_by_members}
use Rattle.revisions.specs.Steps.{IsUnder}
use Rattle.joined.specs.Marking.{Mark, AsksFor}
use Rattle.joined.specs.Rows.{Row, fires_by}
use Rattle.joined.specs.Sparing.{StaysIn, IsSparedAt}
use Rattle.joined.specs.Turning.{TreeTurns, withdraws, Moved, came, went, effect_of}
use Rattle.joined.proofs.Leaving.{below_under, under_below}
use Rattle.joined.proofs.Deciding.{true_false}
use Rattle.belief_turns.specs.declared.deciding.Due.{Due}
use Rattle.belief_table.specs.declared.state.Beliefs.{Beliefs}
use Rattle.belief_table.specs.Decided.{table_of, rule_in, KeepsLast}
use Rattle.marking.specs.TokenMarks.{what_at, Calls}
use Rattle.belief_turns.specs.Leaving.{TakesAway}
use Rattle.belief_turns.specs.Moving.{date_at, IsMarkAt, IsMarkedAt, Moves, TurnsOn, row_due}
use Rattle.belief_table.specs.Numbers.{name_in}
use Rattle.belief_turns.specs.Turning.{IsFit, IsDecided}
use Rattle.belief_table.specs.Waiting.{dates_in, waits_in}
use Rattle.bearing.specs.Windows.{IsOfOther, IsSparedBy}
use Rattle.belief_turns.proofs.Bringing.{one_class, one_what}
use Rattle.belief_table.proofs.Classes.{class_is_at}
use Rattle.belief_table.proofs.Marked.{one_row}
use Rattle.belief_turns.proofs.Lost.{left_row, lost_under}
use Rattle.belief_turns.proofs.Turned.{date_is, fit_decided}

none_some : {X : Type 0} (o : Option X) (x : X) → o ≡ None → o ≡ Some x → ⊥
none_some o x none some = let both : None ≡ Some x = sym none ∙ some in cc

-- ---- what is below is no earlier

step_late : (s : Standing) → IsSound s → (t : Moment) (r : List ℕ) → Occurs s t → Contains (rules_at s t) r → date_at s t <ℤ date_at s (After t r)
step_late s sound = effect_after s (far_in s.premises) (sound_timed s sound)

under_late : (s : Standing) → IsSound s → (t : Moment) (r : List ℕ) (y : Moment) → Occurs s y → IsUnder (After t r) y → date_at s (After t r) ≤ℤ date_at s y
under_late s sound t r (At p) of under = let e : At p ≡ After t r = under in cc
under_late s sound t r (After u q) of (inl e) = subst (λ z. date_at s (After t r) ≤ℤ date_at s z) (sym e) (itself (date_at s (After t r)))
  where
    itself : (z : ℤ) → z ≤ℤ z
    itself z = omega (arith, ints)
under_late s sound t r (After u q) of (inr under) = by (date_at s (After t r)) (date_at s u) (date_at s (After u q)) (under_late s sound t r u of.0 under) (step_late s sound u q of.0 of.1)
  where
    by : (a z w : ℤ) → a ≤ℤ z → z <ℤ w → a ≤ℤ w
    by a z w h l = omega (arith, ints, h, l)

-- ---- a node with all below it is taken away

module _ (s : Standing) (net : Net) (c e : Beliefs) (x : ℕ) (m : Member) (numbers : List ℕ) (fit : IsFit s net c) (at_x : member (forest c.tree) x ≡ Some m) (takes : TakesAway s net x numbers c e)
    (last : KeepsLast c.decisions e.decisions) where
  abbrev f : Forest
  f = forest c.tree

  abbrev g : Forest
  g = forest e.tree

  abbrev marks : List Mark
  marks = takes.rows.marks

  out : Withdraws (forest c.tree) (forest e.tree) m
  out = shrinking_withdraws (present c.tree) (present e.tree) x m at_x takes.tree.shrinks

  -- ---- nodes

  apart : (y : ℕ) → (IsOn numbers y → ⊥) → IsBelow (forest c.tree) x y → ⊥
  apart y off below = off ((takes.below y).1 below)

  node_stays : (y : ℕ) → (IsOn numbers y → ⊥) → member (forest e.tree) y ≡ member (forest c.tree) y
  node_stays y off = takes.tree.shrinks.others y (apart y off)

  date_stays : (y : ℕ) → (IsOn numbers y → ⊥) → early (present e.tree) y ≡ early (present c.tree) y
  date_stays y off = takes.tree.shrinks.dates y (apart y off)

  off_gone : (y : ℕ) → IsLive (forest e.tree) y → IsOn numbers y → ⊥
  off_gone y live on = let (n, there) = node_at g y live in none_some (member g y) n (takes.tree.shrinks.gone y ((takes.below y).0 on)) there

  was_node : (y : ℕ) (n : Member) → member (forest e.tree) y ≡ Some n → member (forest c.tree) y ≡ Some n
  was_node y n at = sym (node_stays y (off_gone y (live_at g y n at))) ∙ at

  was_live : (y : ℕ) → IsLive (forest e.tree) y → IsLive (forest c.tree) y
  was_live y live = let (n, at) = node_at g y live in live_at f y n (was_node y n at)

  is_live : (y : ℕ) → (IsOn numbers y → ⊥) → IsLive (forest c.tree) y → IsLive (forest e.tree) y
  is_live y off live = let (n, at) = node_at f y live in live_at g y n (node_stays y off ∙ at)

  once : IsOnce (forest e.tree)
  once y z n o at_y at_z same = fit.tree.seen.once y z n o (was_node y n at_y) (was_node z o at_z) same

  seen : IsForestOf s net (forest e.tree)
  seen = record { network = fit.tree.seen.network; members = λ y n at. fit.tree.seen.members y n (was_node y n at); once = once }

  -- ---- rows

  was_row : (i : ℕ) (row : TableRow Pair 8) → (table_of e.decisions).row i ≡ Some row → (table_of c.decisions).row i ≡ Some row
  was_row = left_row s net c.tree numbers numbers c.decisions e.decisions takes.rows

  pub fit_taken : IsFit s net e
  fit_taken = record {
    tree = record { seen = seen; dated = withdrawals_keep_dates net (present c.tree) (present e.tree) x takes.tree.shrinks fit.tree.dated };
    events = λ i row at. is_live row.value.trigger (takes.rows.none i row at) (fit.events i row (was_row i row at));
    under = lost_under s net c.tree numbers numbers c.decisions e.decisions takes.rows last s fit.under;
    dated = dated;
  }
    where
      dated : (i : ℕ) (date : ℤ) → dates_in e.decisions.waiting i ≡ Some date → (row : TableRow Pair 8) × ((table_of e.decisions).row i ≡ Some row) × (date ≡ early (present e.tree) row.value.trigger)
      dated i date at = elim (takes.rows.each i) [
        | inl left ↦ elim left.waits [
          | inl same ↦ (
              let (row, there, is) = fit.dated i date (sym same ∙ at) in
              let here = left.row ∙ there in
              (row, here, is ∙ sym (date_stays row.value.trigger (takes.rows.none i row here))))
          | inr (row, there, marked, waits) ↦ (
              let here = left.row ∙ there in
              let both : Some (early (present c.tree) row.value.trigger) ≡ Some date = sym waits ∙ at in
              let one : early (present c.tree) row.value.trigger ≡ date = cc in
              (row, here, sym one ∙ sym (date_stays row.value.trigger (takes.rows.none i row here))))
        ]
        | inr lost ↦ absurd (none_some (dates_in e.decisions.waiting i) date lost.rests at)
      ]

  -- the date of a row that is left
  later_is : (i : ℕ) (row : TableRow Pair 8) → (table_of e.decisions).row i ≡ Some row → early (present c.tree) row.value.trigger ≡ date_at s (moment_at (forest e.tree) row.value.trigger)
  later_is i row at = sym (date_stays row.value.trigger (takes.rows.none i row at)) ∙ date_is s net e fit_taken row.value.trigger (fit_taken.events i row at)

  to_mark : (i : ℕ) (row : TableRow Pair 8) → (table_of e.decisions).row i ≡ Some row → waits_in e.decisions.waiting i ≡ true
      → (waits_in c.decisions.waiting i ≡ true) ⊎ IsMarkedAt s (forest e.tree) (table_of c.decisions) takes.rows.marks i row (rule_in e.decisions row)
  to_mark i row at waits = elim (takes.rows.each i) [
    | inl left ↦ elim left.waits [
      | inl same ↦ inl (sym (ap is_some same) ∙ waits)
      | inr (r, there, (mark, on, calls), _) ↦ (
          let one = one_row (table_of c.decisions) i r row there (was_row i row at) in
          let (late, asks) = subst (λ z. Calls s (present c.tree) (table_of c.decisions) mark i z (rule_in c.decisions z)) one calls in
          inr (mark, on, subst (λ z. mark.from ≤ℤ z) (later_is i row at) late, subst (λ l. AsksFor s (table_of c.decisions) mark i row.value.trigger (name_in l row.value.rule)) (sym takes.rows.rules) asks))
    ]
    | inr lost ↦ absurd (none_some ((table_of e.decisions).row i) row lost.lost at)
  ]

  from_mark : (i : ℕ) (row : TableRow Pair 8) → (table_of e.decisions).row i ≡ Some row
      → (waits_in c.decisions.waiting i ≡ true) ⊎ IsMarkedAt s (forest e.tree) (table_of c.decisions) takes.rows.marks i row (rule_in e.decisions row) → waits_in e.decisions.waiting i ≡ true
  from_mark i row at (inl waited) = elim (takes.rows.each i) [
    | inl left ↦ elim left.waits [ inl same ↦ ap is_some same ∙ waited | inr marked ↦ ap is_some marked.3 ]
    | inr lost ↦ absurd (none_some ((table_of e.decisions).row i) row lost.lost at)
  ]
  from_mark i row at (inr (mark, on, late, asks)) =
      ap is_some (takes.rows.all i row at (
        mark,
        on,
        (
          subst (λ z. mark.from ≤ℤ z) (sym (later_is i row at)) late,
          subst (λ l. AsksFor s (table_of c.decisions) mark i row.value.trigger (name_in l row.value.rule)) takes.rows.rules asks,
        ),
      ))

  pub moves_taken : Moves s (forest c.tree) (forest e.tree) takes.rows.marks c.decisions e.decisions
  moves_taken = record {
    listed = takes.rows.listed;
    last = last;
    each = λ i row at. inl (record { there = was_row i row at; waits = (to_mark i row at, from_mark i row at) });
    stay = λ i row at live. elim (takes.rows.each i) [
      | inl left ↦ ap is_some (left.row ∙ at)
      | inr lost ↦ (
          let one = one_row (table_of c.decisions) i lost.row row lost.was at in
          absurd (off_gone row.value.trigger live (subst (λ (z : TableRow Pair 8). IsOn numbers z.value.trigger) one lost.at_gone)))
    ];
    stands = λ i row at dead. absurd (dead (fit.events i row (was_row i row at)));
    all = λ y rule live dead on. absurd (dead (was_live y live));
    apart = λ i j row other at there dead. absurd (dead (fit.events i row (was_row i row at)));
  }

  -- ---- marks

  -- a token of a node that does not go stays
  other_stays : (k : TokenRow Spot) → IsOfOther (forest c.tree) numbers k → StaysIn (forest c.tree) (forest e.tree) k
  other_stays k o = record { number = o.number; node = o.node; before = o.here; after = node_stays o.number o.stays ∙ o.here; is = o.is }

  -- what is spared of a node that goes is spared in the turn
  spared_in_turn : (y : ℕ) (n : Member) → member (forest c.tree) y ≡ Some n → (t : ℕ) → IsSparedBy net (forest c.tree) numbers y t → IsSparedAt net (forest c.tree) (forest e.tree) (moment n) t
  spared_in_turn y n at t by = record {
    nodes = forest c.tree;
    of_turn = inl refl;
    number = y;
    node = by.node;
    here = by.here;
    begins = (let both : Some by.node ≡ Some n = sym by.here ∙ at in let one : by.node ≡ n = cc in ap moment one);
    row = by.row;
    is = by.is;
    spared = elim by.spared [
      | inl not_begun ↦ inl not_begun
      | inr off ↦ inr (record { one = off.one; other = off.other; one_stays = other_stays off.one off.one_stays; other_stays = other_stays off.other off.other_stays; walls = off.walls })
    ];
  }

  what_is : (y : ℕ) (n : Member) → member (forest c.tree) y ≡ Some n → what_at c.tree y ≡ n.what
  what_is y n at = ap (λ (o : Option Member). option_map_or (λ (m : Member). m.what) o []) at

  -- the node of a mark
  marked_node : (mark : Mark) → In mark takes.rows.marks
      → (y : ℕ) × (n : Member) × (member (forest c.tree) y ≡ Some n) × IsUnder (moment m) (moment n) × IsMarkAt s net (place_in e.decisions.classes) (forest c.tree) (forest e.tree) n mark
  marked_node mark at =
      let (y, on, is) = takes.rows.are.own mark at in
      let below = (takes.below y).0 on in
      let n = below.below in (
        y,
        n,
        below.below_at,
        below_under m n (members_below f x y m n at_x below.below_at below),
        record {
          class = is.class;
          has_class = sym (class_is_at c.tree y n below.below_at) ∙ is.has_class;
          numbered = is.numbered;
          fact = is.fact ∙ what_is y n below.below_at;
          from = is.from ∙ date_is s net c fit y (live_at f y n below.below_at) ∙ ap (date_at s) (moment_at-is f y n below.below_at);
          spared = λ t spares. spared_in_turn y n below.below_at t (is.spared t spares);
        },
      )

  -- the mark of a token that goes
  mark_of : (n : Member) (class : List ℕ) (y : ℕ) (k : Member) → member (forest c.tree) y ≡ Some k → moment k ≡ moment n → n.class ≡ k.class → k.what ≡ n.what → IsUnder (moment m) (moment n) → n.class ≡ Some class
      → (mark : Mark) × In mark takes.rows.marks × IsMarkAt s net (place_in e.decisions.classes) (forest c.tree) (forest e.tree) n mark
  mark_of n class y k at_y same alike whats under has =
      let on = (takes.below y).1 (below_by_members f x y m k at_x at_y (under_below m k (subst (IsUnder (moment m)) (sym same) under))) in
      let (mark, at, is) = takes.rows.are.all y class on (class_is_at c.tree y k at_y ∙ sym alike ∙ has) in (
        mark,
        at,
        record {
          class = is.class;
          has_class = alike ∙ sym (class_is_at c.tree y k at_y) ∙ is.has_class;
          numbered = is.numbered;
          fact = is.fact ∙ what_is y k at_y ∙ whats;
          from = is.from ∙ date_is s net c fit y (live_at f y k at_y) ∙ ap (date_at s) (moment_at-is f y k at_y ∙ same);
          spared = λ t spares. subst (λ z. IsSparedAt net (forest c.tree) (forest e.tree) z t) same (spared_in_turn y k at_y t (is.spared t spares));
        },
      )

-- ---- the turn

module _ (s : Standing) (net : Net) (b c e : Beliefs) (due : Due) (x : ℕ) (m : Member) (numbers : List ℕ) (fit : IsFit s net b) (d : IsDecided s b c due) (now : fires_by due.found ≡ false) (before : fires_by due.before ≡ true)
    (on : Contains (rules_at s (moment_at (forest b.tree) due.trigger)) due.rule) (at_x : member (forest c.tree) x ≡ Some m) (is_effect : moment m ≡ After (moment_at (forest c.tree) due.trigger) due.rule)
    (takes : TakesAway s net x numbers c e) (last : KeepsLast c.decisions e.decisions) where
  fit_c : IsFit s net c
  fit_c = fit_decided s net b c due fit d

  sound : IsSound s
  sound = fit.tree.seen.network.sound

  live_b : IsLive (forest b.tree) due.trigger
  live_b = subst (IsLive (forest b.tree)) d.trigger (fit.events due.row d.row d.at)

  abbrev p : Row
  p = row_due b due.row d.row

  -- it is the effect of the row that was decided
  effect_is : moment m ≡ effect_of (forest b.tree) (row_due b due.row d.row)
  effect_is = is_effect ∙ (λ i. After (moment_at (forest (d.tree i)) (sym d.trigger i)) (sym d.rule i))

  fired : fires_by d.row.value.decision ≡ true
  fired = ap fires_by d.before ∙ before

  -- the nodes of b are those of c
  at_b : (y : ℕ) (n : Member) → member (forest c.tree) y ≡ Some n → member (forest b.tree) y ≡ Some n
  at_b y n at = subst (λ (t : Kept). member (forest t) y ≡ Some n) d.tree at

  at_c : (y : ℕ) (n : Member) → member (forest b.tree) y ≡ Some n → member (forest c.tree) y ≡ Some n
  at_c y n at = subst (λ (t : Kept). member (forest t) y ≡ Some n) (sym d.tree) at

  tree : TreeTurns s net.names (forest b.tree) (forest e.tree) (row_due b due.row d.row) due.found
  tree = withdraws now fired m effect_is (subst (λ (t : Kept). Withdraws (forest t) (forest e.tree) m) d.tree (out s net c e x m numbers fit_c at_x takes last))

  -- what moves goes
  class_moved : (n : Member) (class : List ℕ) → IsMemberOf s net.names n → Moved (forest b.tree) (row_due b due.row d.row) due.found (moment n) → n.class ≡ Some class
      → (mark : Mark) × In mark takes.rows.marks × IsMarkAt s net (place_in e.decisions.classes) (forest b.tree) (forest e.tree) n mark
  class_moved n class own (came fires fired_not is) has = true_false (sym fires ∙ now)
  class_moved n class own (went fires_not fires y k at same under) has =
      let at_k = at_c y k at in
      subst (λ (t : Kept). (mark : Mark) × In mark takes.rows.marks × IsMarkAt s net (place_in e.decisions.classes) (forest t) (forest e.tree) n mark) d.tree (mark_of s net c e x m numbers fit_c at_x takes last n class y k at_k same (one_class s net.names n k own (fit_c.tree.seen.members y k at_k) (sym same))
      (one_what s net.names k n (fit_c.tree.seen.members y k at_k) own same) (subst (λ z. IsUnder z (moment n)) (sym effect_is) under) has)

  later : (mark : Mark) → In mark takes.rows.marks → date_at s (moment_at (forest b.tree) due.trigger) <ℤ mark.from
  later mark at =
      let (y, n, at_y, under, is) = marked_node s net c e x m numbers fit_c at_x takes last mark at in
      let own = fit_c.tree.seen.members y n at_y in
      let t = moment_at (forest b.tree) due.trigger in
      let effect : moment m ≡ After t due.rule = is_effect ∙ ap (λ (k : Kept). After (moment_at (forest k) due.trigger) due.rule) d.tree in
      let below = under_late s sound t due.rule (moment n) own.occurs (subst (λ z. IsUnder z (moment n)) effect under) in
      let of_t = occurs_b in
      subst (λ z. date_at s t <ℤ z) (sym is.from) (by (date_at s t) (date_at s (After t due.rule)) (date_at s (moment n)) (step_late s sound t due.rule of_t on) below)
    where
      by : (a z w : ℤ) → a <ℤ z → z ≤ℤ w → a <ℤ w
      by a z w h l = omega (arith, ints, h, l)

      occurs_b : Occurs s (moment_at (forest b.tree) due.trigger)
      occurs_b = let (n, at) = node_at (forest b.tree) due.trigger live_b in subst (Occurs s) (sym (moment_at-is (forest b.tree) due.trigger n at)) (fit.tree.seen.members due.trigger n at).occurs

  pub leaves_turn : TurnsOn s net b c e due
  leaves_turn = record {
    fit = fit;
    decided = d;
    fit_after = fit_taken s net c e x m numbers fit_c at_x takes last;
    tree = tree;
    marks = takes.rows.marks;
    moves = subst (λ (t : Kept). Moves s (forest t) (forest e.tree) takes.rows.marks c.decisions e.decisions) d.tree (moves_taken s net c e x m numbers fit_c at_x takes last);
    are = record {
      own = λ mark at.
          let (y, n, at_y, under, is) = marked_node s net c e x m numbers fit_c at_x takes last mark at in (
            n,
            fit_c.tree.seen.members y n at_y,
            went now fired y n (at_b y n at_y) refl (subst (λ z. IsUnder z (moment n)) effect_is under),
            subst (λ (t : Kept). IsMarkAt s net (place_in e.decisions.classes) (forest t) (forest e.tree) n mark) d.tree is,
          );
      all = λ n class own moved has. class_moved n class own moved has;
    };
    later = later;
  }
