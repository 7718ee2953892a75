-- A premise that is added gains its root, or the rows of its rule; without one nothing is gained.
use Rattle.std.proofs.Common.{◌≡◌, ◌∙◌, ℕ, true, false, List, [], ◌∷◌, Option, Some, None, refl, sym, ap, subst, inl, inr, ◌⊎◌}
use Rattle.std.specs.Prelude.{◌↔◌, is_some, pos, ◌≤ℤ◌}
use Rattle.std.specs.List.{Contains}
use Rattle.std.specs.Option.{option_map_or}
use Rattle.tmm_model.specs.declared.premise.Edit.{Edit}
use Rattle.tmm_model.specs.declared.premise.Edit.TheVariants.{Add}
use Rattle.tmm_model.specs.declared.premise.Premise.{Premise}
use Rattle.tmm_model.specs.declared.premise.Premise.TheVariants.{Class, Kind, Point, Event, Token, Span, Dist, Rule, Protect, Against}
use Rattle.tmm_model.specs.declared.token.Shape.{Shape}
use Rattle.tmm_model.specs.declared.token.Shape.TheVariants.{Event as AnEvent, Persistence as APersistence, Span as ASpan}
use Rattle.tmm_model.specs.Beliefs.{is_of, root_of, roots, on_kind, rules_on, rules_at}
use Rattle.tmm_model.specs.Edits.{next_list}
use Rattle.tmm_model.specs.Moments.{Moment}
use Rattle.tmm_model.specs.Standing.{Standing, name_of}
use Rattle.list_theory.specs.WellNamed.{IsSound}
use Rattle.list_theory.proofs.Elements.{In, In-right, In-from_Contains, Contains-from_In, filter_map-In}
use Rattle.belief_theory.specs.Right.{Occurs}
use Rattle.belief_theory.proofs.Sound.{rule_stands}
use Rattle.belief_theory.proofs.SoundBeliefs.{sound_timed}
use Rattle.dist_net.specs.Net.{Net}
use Rattle.spots.specs.Forest.{Forest, Member, member, IsLive, moment, moment_at}
use Rattle.spots.specs.OfLists.{class_for}
use Rattle.spots.proofs.Nodes.{node_at, live_at, moment_at-is}
use Rattle.spots.proofs.Seen.{occurs_at}
use Rattle.spots.proofs.Grown.{node_cases, node_kept, apart_from}
use Rattle.supports.proofs.OnKinds.{no_rules, rules_of_event}
use Rattle.undo_rows.specs.declared.row.Row.{Row as TableRow}
use Rattle.decision_rows.specs.declared.row.Pair.{Pair}
use Rattle.occ_tree.specs.Classes.{place_in}
use Rattle.occ_tree.specs.Places.{forest}
use Rattle.occ_tree.specs.Standing.{present, early}
use Rattle.revisions.specs.Maps.{watches}
use Rattle.joined.specs.Gaps.{reads_rival}
use Rattle.joined.specs.Listed.{IsListedUnder}
use Rattle.joined.proofs.Listed.{readers_listed}
use Rattle.belief_table.specs.declared.state.Beliefs.{Beliefs}
use Rattle.belief_table.specs.declared.state.Decisions.{Decisions}
use Rattle.marking.specs.TokenMarks.{MarksToken}
use Rattle.belief_net.specs.Adding.{FollowsRoot, a_token, an_event, EntersAs, IsEventOf, AddsRule}
use Rattle.belief_table.specs.Decided.{table_of, rule_in, AddsRows, IsNewRow, IsSameRow, KeepsLast}
use Rattle.marking.specs.TokenMarks.{what_at}
use Rattle.belief_table.specs.Erasing.{class_at}
use Rattle.belief_table.specs.Numbers.{name_in}
use Rattle.belief_turns.specs.Turning.{IsFit}
use Rattle.belief_table.proofs.Classes.{class_is_at}
use Rattle.belief_turns.proofs.Brought.{no_event_of_some}
use Rattle.belief_net.proofs.Declared.{root_cases, rule_cases}
use Rattle.belief_table.proofs.Marked.{one_row}
use Rattle.belief_net.proofs.Gains.{IsAddition, Gains, unread}
use Rattle.belief_table.proofs.Named.{name_stays, are_numbered}
use Rattle.belief_turns.proofs.Turned.{date_is, seen_row, row_there}

none_some : {X : Type 0} (x : X) → None ≡ Some x → ⊥
none_some x e = cc

one_added : (p q : Premise) → Add p ≡ Add q → p ≡ q
one_added p q e = cc

-- a premise that is a rule declares nothing to occur
no_root_of_rule : (p : Premise) (kind r : List ℕ) (k : Moment) → on_kind kind p ≡ Some r → root_of p ≡ Some k → ⊥
no_root_of_rule (Rule name trigger lo hi effect given unless_facts) kind r k on root = cc
no_root_of_rule (Class name facts) kind r k on root = cc
no_root_of_rule (Kind name) kind r k on root = cc
no_root_of_rule (Point name) kind r k on root = cc
no_root_of_rule (Event name other) kind r k on root = cc
no_root_of_rule (Token name fact) kind r k on root = cc
no_root_of_rule (Span name fact) kind r k on root = cc
no_root_of_rule (Dist name from to lo hi) kind r k on root = cc
no_root_of_rule (Protect name fact from to) kind r k on root = cc
no_root_of_rule (Against name one other) kind r k on root = cc

-- ---- nothing is gained

pub gains_none : (old : Standing) (edit : Edit) (m : Beliefs)
    → ((k : Moment) → Contains (roots (next_list old edit)) k → Contains (roots old) k)
    → ((x : ℕ) (rule : List ℕ) → IsLive (forest m.tree) x → Contains (rules_at (next_list old edit) (moment_at (forest m.tree) x)) rule → Contains (rules_at old (moment_at (forest m.tree) x)) rule)
    → Gains old (next_list old edit) edit m m
gains_none old edit m roots_were rules_were = record {
  nodes = λ x k at. at;
  own_nodes = λ x k at. inl at;
  rooted = λ k at. inl (roots_were k at);
  rows = λ i row at. at;
  own_rows = λ i row at. inl at;
  all = λ x rule live stands. inr (live, rules_were x rule live stands);
  apart = λ i j row other at there none. absurd (none_some row (sym none ∙ at));
  names = λ i row at. refl;
  waits = λ i row at w. inl w;
  waits_on = λ i row at w. w;
  waits_new = λ i x row k at none now. absurd (none_some k (sym none ∙ now));
}

-- ---- a root

module _ (old : Standing) (p : Premise) (net : Net) (m n : Beliefs) (sound_old : IsSound old) (sound_new : IsSound (next_list old (Add p)))
    (stood : (x : ℕ) → IsLive (forest m.tree) x → Occurs old (moment_at (forest m.tree) x)) (fit_m : IsFit (next_list old (Add p)) net m) (fit_n : IsFit (next_list old (Add p)) net n)
    (last : KeepsLast m.decisions n.decisions) (k : Moment) (root : root_of p ≡ Some k) (en : EntersAs (next_list old (Add p)) net k m n) where
  abbrev new : Standing
  new = next_list old (Add p)

  abbrev g : Forest
  g = forest n.tree

  abbrev y : ℕ
  y = en.number

  abbrev z : Member
  z = en.adds.node

  here : member g y ≡ Some z
  here = en.adds.enters.entered

  addition : IsAddition (Add p)
  addition = (p, refl)

  root_here : Contains (roots new) (moment z)
  root_here = subst (Contains (roots new)) (sym en.adds.is) (Contains-from_In (roots new) k (filter_map-In root_of new.premises p k (In-right old.premises (p ∷ []) p (inl refl)) root))

  kept : (x : ℕ) (o : Member) → member (forest m.tree) x ≡ Some o → member g x ≡ Some o
  kept = node_kept new net (forest m.tree) g y k en.adds

  own_nodes : (x : ℕ) (o : Member) → member g x ≡ Some o → (member (forest m.tree) x ≡ Some o) ⊎ (IsAddition (Add p) × (member (forest m.tree) x ≡ None) × Contains (roots new) (moment o))
  own_nodes x o at = elim (node_cases new net (forest m.tree) g y k en.adds x o at) [
    | inl is ↦ inr (addition, ap (member (forest m.tree)) is.0 ∙ en.adds.enters.free, subst (λ w. Contains (roots new) (moment w)) (sym is.1) root_here)
    | inr was ↦ inl was
  ]

  rooted : (o : Moment) → Contains (roots new) o → Contains (roots old) o ⊎ ((x : ℕ) × (w : Member) × (member g x ≡ Some w) × (moment w ≡ o))
  rooted o at = elim (root_cases old (Add p) o at) [
    | inl was ↦ inl was
    | inr (q, added, is) ↦ (
        let both : Some k ≡ Some o = sym root ∙ ap root_of (one_added p q added) ∙ is in
        let one : k ≡ o = cc in
        inr (y, z, here, en.adds.is ∙ one))
  ]

  -- what enters
  only : (x : ℕ) (o : Member) → member (forest m.tree) x ≡ None → member g x ≡ Some o → (x ≡ y) × (o ≡ z)
  only x o none now = elim (node_cases new net (forest m.tree) g y k en.adds x o now) [
    | inl is ↦ is
    | inr was ↦ absurd (none_some o (sym none ∙ was))
  ]

  -- at an event of before stood all rules that stand there
  rules_were : (x : ℕ) (rule : List ℕ) (o : Member) → member (forest m.tree) x ≡ Some o → Contains (rules_at new (moment_at g x)) rule → Contains (rules_at old (moment_at g x)) rule
  rules_were x rule o at stands =
      let same = moment_at-is g x o (kept x o at) ∙ sym (moment_at-is (forest m.tree) x o at) in
      let before = subst (Occurs old) (sym same) (stood x (live_at (forest m.tree) x o at)) in
      let now = occurs_at new net g fit_n.tree.seen x (live_at g x o (kept x o at)) in
      elim (rule_cases old (Add p) sound_old sound_new (moment_at g x) rule before now stands) [
        | inl was ↦ was
        | inr added ↦ absurd (no_root_of_rule p added.kind rule k (ap (on_kind added.kind) (one_added p added.premise added.added) ∙ added.on) root)
      ]

  module _ (class : List ℕ) (of : class_at n.tree y ≡ Some class) (marks : MarksToken (next_list old (Add p)) (present n.tree) class (what_at n.tree y) (pos 0) m.decisions n.decisions) where
    class_is : z.class ≡ Some class
    class_is = sym (class_is_at n.tree y z here) ∙ of

    row_was : (i : ℕ) (row : TableRow Pair 8) → (table_of n.decisions).row i ≡ Some row → (table_of m.decisions).row i ≡ Some row
    row_was i row at = ap (λ rs. (table_of (record m.decisions { rows = rs })).row i) (sym marks.rows) ∙ at

    row_is : (i : ℕ) (row : TableRow Pair 8) → (table_of m.decisions).row i ≡ Some row → (table_of n.decisions).row i ≡ Some row
    row_is i row at = ap (λ rs. (table_of (record m.decisions { rows = rs })).row i) marks.rows ∙ at

    late : (i : ℕ) (row : TableRow Pair 8) → (table_of m.decisions).row i ≡ Some row → pos 0 ≤ℤ early (present n.tree) row.value.trigger
    late i row at =
        let live = fit_n.events i row (row_is i row at) in
        subst (λ w. pos 0 ≤ℤ w) (sym (date_is new net n fit_n row.value.trigger live))
        ((sound_timed new sound_new).not_before_start (moment_at g row.value.trigger) (occurs_at new net g fit_n.tree.seen row.value.trigger live))

    what_is : what_at n.tree y ≡ z.what
    what_is = ap (λ (o : Option Member). option_map_or (λ (k : Member). k.what) o []) here

    -- the row is on a list of the class, or its rule reads what contradicts the root
    abbrev Meant : ℕ → TableRow Pair 8 → Type 0
    Meant i row = IsListedUnder (table_of m.decisions) marks.number i ⊎ (reads_rival new (rule_in m.decisions row) (what_at n.tree y) ≡ true)

    reads : (i : ℕ) (row : TableRow Pair 8) → (table_of m.decisions).row i ≡ Some row → (watches new (rule_in n.decisions row) (moment z) ≡ true) ↔ Meant i row
    reads i row at =
        subst (λ l. (watches new (rule_in n.decisions row) (moment z) ≡ true) ↔ (IsListedUnder (table_of m.decisions) marks.number i ⊎ (reads_rival new (name_in l row.value.rule) (what_at n.tree y) ≡ true))) marks.rules
        (subst (λ w. (watches new (rule_in n.decisions row) (moment z) ≡ true) ↔ (IsListedUnder (table_of m.decisions) marks.number i ⊎ (reads_rival new (rule_in n.decisions row) w ≡ true))) (sym what_is)
        (readers_listed new net.names z m.decisions.rows (name_in n.decisions.rules) (place_in n.decisions.classes) class marks.number i row
        en.adds.own class_is marks.numbered (are_numbered n.decisions.classes) en.listed at (fit_n.under.classes i row (row_is i row at))))

    pub token_gains : Gains old (next_list old (Add p)) (Add p) m n
    token_gains = record {
      nodes = kept;
      own_nodes = own_nodes;
      rooted = rooted;
      rows = row_is;
      own_rows = λ i row at. inl (row_was i row at);
      all = λ x rule live stands.
          let (o, at) = node_at g x live in
          elim (own_nodes x o at) [
            | inl was ↦ inr (live_at (forest m.tree) x o was, rules_were x rule o was stands)
            | inr (_, none, _) ↦ (
                let (same, _) = only x o none at in
                let bare = no_rules new net g fit_n.tree.seen y z here (no_event_of_some new net g fit_n.tree.seen y z here class class_is) in
                absurd (In-from_Contains [] rule (subst (λ l. Contains l rule) (ap (λ w. rules_at new (moment_at g w)) same ∙ bare) stands)))
          ];
      apart = λ i j row other at there none. absurd (none_some row (sym none ∙ row_was i row at));
      names = λ i row at. ap (λ l. name_in l row.value.rule) marks.rules;
      waits = λ i row at w. elim (marks.marks.only i) [
        | inl same ↦ inl (sym (ap is_some same) ∙ w)
        | inr (other, there, (meant, _), _) ↦ inr (y, z, en.adds.enters.free, here, (reads i row at).1 (subst (Meant i) (one_row (table_of m.decisions) i other row there at) meant))
      ];
      waits_on = λ i row at w. elim (marks.marks.only i) [
        | inl same ↦ ap is_some same ∙ w
        | inr marked ↦ ap is_some marked.3
      ];
      waits_new = λ i x row o at none now h.
          let (_, same) = only x o none now in
          let was = row_was i row at in
          ap is_some (marks.marks.all i row was ((reads i row was).0 (subst (λ w. watches new (rule_in n.decisions row) (moment w) ≡ true) same h), late i row was));
    }

  module _ (of : class_at n.tree y ≡ None) (adds : AddsRows (rules_at (next_list old (Add p)) (moment_at (forest n.tree) y)) y (early (present n.tree) y) m.decisions n.decisions) where
    class_none : z.class ≡ None
    class_none = sym (class_is_at n.tree y z here) ∙ of

    stays : (i : ℕ) (row : TableRow Pair 8) → (table_of m.decisions).row i ≡ Some row → IsSameRow m.decisions n.decisions i
    stays i row at = elim (adds.each i) [
      | inl same ↦ same
      | inr added ↦ absurd (none_some row (sym added.1.free ∙ at))
    ]

    -- a row is new, or was there
    row_new : (i : ℕ) (row : TableRow Pair 8) → (table_of n.decisions).row i ≡ Some row → ((table_of m.decisions).row i ≡ Some row)
        ⊎ (IsNewRow y (early (present n.tree) y) m.decisions n.decisions i row × In (rule_in n.decisions row) (rules_at new (moment_at g y)))
    row_new i row at = elim (adds.each i) [
      | inl same ↦ inl (sym same.row ∙ at)
      | inr added ↦ (
          let one = one_row (table_of n.decisions) i added.0 row added.1.there at in
          inr (subst (IsNewRow y (early (present n.tree) y) m.decisions n.decisions i) one added.1, subst (λ r. In (rule_in n.decisions r) (rules_at new (moment_at g y))) one added.2))
    ]

    is_new : (i : ℕ) (row : TableRow Pair 8) → (table_of n.decisions).row i ≡ Some row → (table_of m.decisions).row i ≡ None → IsNewRow y (early (present n.tree) y) m.decisions n.decisions i row
    is_new i row at none = elim (row_new i row at) [ inl was ↦ absurd (none_some row (sym none ∙ was)) | inr added ↦ added.0 ]

    pub event_gains : Gains old (next_list old (Add p)) (Add p) m n
    event_gains = record {
      nodes = kept;
      own_nodes = own_nodes;
      rooted = rooted;
      rows = λ i row at. (stays i row at).row ∙ at;
      own_rows = λ i row at. elim (row_new i row at) [
        | inl was ↦ inl was
        | inr added ↦ inr (record {
          addition = addition;
          free = added.0.free;
          stands = subst (λ w. Contains (rules_at new (moment_at g w)) (rule_in n.decisions row)) (sym added.0.at_event) (Contains-from_In (rules_at new (moment_at g y)) (rule_in n.decisions row) added.1);
          undecided = added.0.undecided;
          waits = ap is_some added.0.waits;
          is_new = inl (λ live. let (o, there) = node_at (forest m.tree) row.value.trigger live in none_some o (sym en.adds.enters.free ∙ ap (member (forest m.tree)) (sym added.0.at_event) ∙ there));
        })
      ];
      all = λ x rule live stands.
          let (o, at) = node_at g x live in
          elim (own_nodes x o at) [
            | inl was ↦ inr (live_at (forest m.tree) x o was, rules_were x rule o was stands)
            | inr (_, none, _) ↦ (
                let (same, _) = only x o none at in
                let (i, row, added, named) = adds.all rule (In-from_Contains (rules_at new (moment_at g y)) rule (subst (λ w. Contains (rules_at new (moment_at g w)) rule) same stands)) in
                inl (i, seen_row n i row, row_there n i row added.there, added.at_event ∙ sym same, named))
          ];
      apart = λ i j row other at there none none_o trigger rule. adds.apart i j row other (is_new i row at none) (is_new j other there none_o) rule;
      names = λ i row at. name_stays m.decisions.rules n.decisions.rules row.value.rule last.rules (fit_m.under.named i row at);
      waits = λ i row at w. inl (sym (ap is_some (stays i row at).waits) ∙ w);
      waits_on = λ i row at w. ap is_some (stays i row at).waits ∙ w;
      waits_new = λ i x row o at none now h.
          let (_, same) = only x o none now in
          let never : false ≡ true = sym (ap (λ w. watches new (rule_in n.decisions row) (moment w)) same ∙ unread new net.names z (rule_in n.decisions row) en.adds.own class_none) ∙ h in
          absurd (cc);
    }

  pub root_gains : Gains old (next_list old (Add p)) (Add p) m n
  root_gains = by en.follows
    where
      by : FollowsRoot (next_list old (Add p)) en.number n.tree m.decisions n.decisions → Gains old (next_list old (Add p)) (Add p) m n
      by (a_token class of marks) = token_gains class of marks
      by (an_event of adds) = event_gains of adds

-- ---- a rule

module _ (old : Standing) (p : Premise) (net : Net) (m : Beliefs) (d : Decisions) (sound_old : IsSound old) (sound_new : IsSound (next_list old (Add p)))
    (stood : (x : ℕ) → IsLive (forest m.tree) x → Occurs old (moment_at (forest m.tree) x)) (fit : IsFit (next_list old (Add p)) net m) (last : KeepsLast m.decisions d)
    (name kind : List ℕ) (is_rule : on_kind kind p ≡ Some name) (named : name_of p ≡ name) (only_on : (other r : List ℕ) → on_kind other p ≡ Some r → (kind ≡ other) × (name ≡ r))
    (adds : AddsRule m.tree name kind m.decisions d) where
  abbrev to : Standing
  to = next_list old (Add p)

  abbrev f : Forest
  f = forest m.tree

  abbrev n : Beliefs
  n = record m { decisions = d }

  row_stays : (i : ℕ) (row : TableRow Pair 8) → (table_of m.decisions).row i ≡ Some row → IsSameRow m.decisions d i
  row_stays i row at = elim (adds.each i) [
    | inl same ↦ same
    | inr added ↦ absurd (none_some row (sym added.3.free ∙ at))
  ]

  -- no rule of this name stood before
  stood_not : (t : Moment) → Contains (rules_at old t) name → ⊥
  stood_not t at =
      let (q, there, q_named, _, _) = rule_stands old t name at in
      apart_from to sound_new old.premises p [] refl q there (named ∙ sym q_named)

  -- it stands at each event of the kind
  event_stands : (x : ℕ) → IsEventOf m.tree kind x → Contains (rules_at to (moment_at f x)) name
  event_stands x is =
      let rules_are = rules_of_event to net f fit.tree.seen x is.node is.at (event_shape is.node.shape (sym (fit.tree.seen.members x is.node is.at).class ∙ is.event)) in
      let there = filter_map-In (on_kind kind) to.premises p name (In-right old.premises (p ∷ []) p (inl refl)) is_rule in
      subst (λ l. Contains l name) (sym (rules_are ∙ ap (rules_on to) is.kind_is)) (Contains-from_In (rules_on to kind) name there)
    where
      event_shape : (shape : Shape) → class_for to shape is.node.what ≡ None → shape ≡ AnEvent
      event_shape AnEvent e = refl
      event_shape APersistence e = absurd (cc)
      event_shape ASpan e = absurd (cc)

  -- where it stands there is an event of the kind
  stands_event : (x : ℕ) (o : Member) → member f x ≡ Some o → is_of to (moment_at f x) ≡ Some (AnEvent, kind) → IsEventOf m.tree kind x
  stands_event x o at is =
      let own = fit.tree.seen.members x o at in
      let both : Some (o.shape, o.what) ≡ Some (AnEvent, kind) = sym own.is ∙ ap (is_of to) (sym (moment_at-is f x o at)) ∙ is in
      record {
        node = o;
        at = at;
        event = own.class ∙ ap (λ s. class_for to s o.what) (λ j. shape_in (both j));
        kind_is = λ j. what_in (both j);
      }
    where
      shape_in : Option (Shape × List ℕ) → Shape
      shape_in (Some k) = k.0
      shape_in None = AnEvent

      what_in : Option (Shape × List ℕ) → List ℕ
      what_in (Some k) = k.1
      what_in None = []

  -- a row is new, or was there
  row_added : (i : ℕ) (row : TableRow Pair 8) → (table_of d).row i ≡ Some row → ((table_of m.decisions).row i ≡ Some row)
      ⊎ ((x : ℕ) × IsEventOf m.tree kind x × IsNewRow x (early (present m.tree) x) m.decisions d i row × (rule_in d row ≡ name))
  row_added i row at = elim (adds.each i) [
    | inl same ↦ inl (sym same.row ∙ at)
    | inr (x, other, event, added, is) ↦ (
        let one = one_row (table_of d) i other row added.there at in
        inr (x, event, subst (IsNewRow x (early (present m.tree) x) m.decisions d i) one added, subst (λ r. rule_in d r ≡ name) one is))
  ]

  row_fresh : (i : ℕ) (row : TableRow Pair 8) → (table_of d).row i ≡ Some row → (table_of m.decisions).row i ≡ None
      → IsNewRow row.value.trigger (early (present m.tree) row.value.trigger) m.decisions d i row
  row_fresh i row at none = elim (row_added i row at) [
    | inl was ↦ absurd (none_some row (sym none ∙ was))
    | inr (x, event, added, is) ↦ subst (λ w. IsNewRow w (early (present m.tree) w) m.decisions d i row) (sym added.at_event) added
  ]

  pub rule_gains : Gains old (next_list old (Add p)) (Add p) m (record m { decisions = d })
  rule_gains = record {
    nodes = λ x o at. at;
    own_nodes = λ x o at. inl at;
    rooted = λ o at. elim (root_cases old (Add p) o at) [
      | inl was ↦ inl was
      | inr (q, added, is) ↦ absurd (no_root_of_rule p kind name o is_rule (ap root_of (one_added p q added) ∙ is))
    ];
    rows = λ i row at. (row_stays i row at).row ∙ at;
    own_rows = λ i row at. elim (row_added i row at) [
      | inl was ↦ inl was
      | inr (x, event, added, is) ↦ inr (record {
        addition = (p, refl);
        free = added.free;
        stands = subst (Contains (rules_at to (moment_at f row.value.trigger))) (sym is) (subst (λ w. Contains (rules_at to (moment_at f w)) name) (sym added.at_event) (event_stands x event));
        undecided = added.undecided;
        waits = ap is_some added.waits;
        is_new = inr (λ was. stood_not (moment_at f row.value.trigger) (subst (Contains (rules_at old (moment_at f row.value.trigger))) is was));
      })
    ];
    all = λ x rule live stands.
        elim (rule_cases old (Add p) sound_old sound_new (moment_at f x) rule (stood x live) (occurs_at to net f fit.tree.seen x live) stands) [
          | inl was ↦ inr (live, was)
          | inr added ↦ (
              let (kind_same, rule_same) = only_on added.kind rule (ap (on_kind added.kind) (one_added p added.premise added.added) ∙ added.on) in
              let (o, at) = node_at f x live in
              let event = stands_event x o at (added.event ∙ ap (λ w. Some (AnEvent, w)) (sym kind_same)) in
              let (i, row, added_row, is) = adds.all x event in
              inl (i, seen_row n i row, row_there n i row added_row.there, added_row.at_event, is ∙ rule_same))
        ];
    apart = λ i j row other at there none none_o trigger rule.
        adds.apart row.value.trigger i j row other (row_fresh i row at none) (subst (λ w. IsNewRow w (early (present m.tree) w) m.decisions d j other) (sym trigger) (row_fresh j other there none_o));
    names = λ i row at. name_stays m.decisions.rules d.rules row.value.rule last.rules (fit.under.named i row at);
    waits = λ i row at w. inl (sym (ap is_some (row_stays i row at).waits) ∙ w);
    waits_on = λ i row at w. ap is_some (row_stays i row at).waits ∙ w;
    waits_new = λ i x row o at none now. absurd (none_some o (sym none ∙ now));
  }
