-- What is left of the list before, when the erased premises are gone.
use Rattle.std.proofs.Common.{◌≡◌, ◌∙◌, ℕ, true, false, List, [], ◌∷◌, map, Option, Some, None, refl, sym, ap, subst, inl, inr, ◌⊎◌}
use Rattle.std.specs.Prelude.{IsSome, is_some}
use Rattle.std.specs.List.{Contains}
use Rattle.std.specs.Option.{is_none}
use Rattle.tmm_model.specs.declared.point.PointName.TheVariants.{Start, Begin, End}
use Rattle.tmm_model.specs.declared.premise.Edit.{Edit}
use Rattle.tmm_model.specs.declared.premise.Premise.{Premise}
use Rattle.tmm_model.specs.Beliefs.{class_of, root_of, roots, rules_at}
use Rattle.tmm_model.specs.Edits.{next_list}
use Rattle.tmm_model.specs.Maps.{built}
use Rattle.tmm_model.specs.Moments.{Moment, At, After, RuleText, base, is_derived, moment_of, read_by, rule_of}
use Rattle.tmm_model.specs.Standing.{Standing, name_of, premise_in}
use Rattle.list_theory.specs.WellNamed.{IsSound}
use Rattle.list_theory.proofs.Distinct.{Distinct}
use Rattle.list_theory.proofs.Elements.{In, In-from_Contains, In-filter_map, In-map, map-In, filter-In}
use Rattle.list_theory.proofs.KnownNames.{finds}
use Rattle.belief_theory.specs.Right.{Occurs}
use Rattle.belief_theory.proofs.SoundBeliefs.{believed_right}
use Rattle.dist_net.specs.Net.{Net}
use Rattle.spots.proofs.Rules.{rule_there}
use Rattle.spots.specs.Forest.{Forest, Member, member, IsLive, moment, moment_at}
use Rattle.spots.specs.OfLists.{IsForestOf}
use Rattle.spots.proofs.Nodes.{node_at, live_at, moment_at-is, base-moment}
use Rattle.undo_rows.specs.declared.row.Row.{Row as TableRow}
use Rattle.decision_rows.specs.declared.row.Pair.{Pair}
use Rattle.occ_tree.specs.Classes.{place_in}
use Rattle.occ_tree.specs.Places.{forest}
use Rattle.revisions.specs.Standing.{Stands}
use Rattle.list_theory.specs.LeftOut.{IsLeftOut}
use Rattle.revisions.proofs.Lawful.{text}
use Rattle.revisions.proofs.Standing.{standing_occurs}
use Rattle.revisions.proofs.Tokens.{classes_stay, root_named}
use Rattle.joined.specs.Listed.{IsUnderClasses}
use Rattle.joined.specs.Netted.{IsCurrent}
use Rattle.joined.specs.Rows.{Row}
use Rattle.joined.specs.Telling.{LeaveFirst}
use Rattle.joined.proofs.Staying.{stay_seen}
use Rattle.belief_table.specs.declared.erasing.Departed.{Departed}
use Rattle.belief_table.specs.declared.state.Beliefs.{Beliefs}
use Rattle.belief_table.specs.declared.dated.DatedOcc.{DatedOcc}
use Rattle.belief_net.specs.Clearing.{IsCleared, AreSeenAfter}
use Rattle.belief_table.specs.Decided.{table_of, rule_in, AreUnder}
use Rattle.belief_table.specs.Erasing.{moments_of, HasLeft, ShedsAll, Spares, IsFreeOf}
use Rattle.belief_table.specs.Numbers.{name_in}
use Rattle.belief_turns.specs.Turning.{rows_of, IsFit}
use Rattle.belief_table.proofs.Thinned.{one_node, moment_stays, under_less}
use Rattle.belief_turns.proofs.Turned.{row_there, row_of, seen_row}

none_some : {X : Type 0} (x : X) → None ≡ Some x → ⊥
none_some x e = cc

-- what holds of each member is an equation of maps
map_same : {X Y : Type 0} (f g : X → Y) (xs : List X) → ((x : X) → In x xs → f x ≡ g x) → map f xs ≡ map g xs
map_same f g [] same = refl
map_same f g (x ∷ xs) same = λ i. same x (inl refl) i ∷ map_same f g xs (λ y at. same y (inr at)) i

-- a premise that is not in the second list is left out
left_out : (old new : Standing) (names : List (List ℕ)) → IsLeftOut old new names → (p : Premise) → In p old.premises → premise_in new.premises (name_of p) ≡ None → In (name_of p) names
left_out old new names is p at none =
    subst (In (name_of p)) (sym is) (filter-In (λ name. is_none (premise_in new.premises name)) (map name_of old.premises) (name_of p) (map-In name_of old.premises p at) (ap (λ (o : Option Premise). is_none o) none))

module _ (old : Standing) (edit : Edit) (net : Net) (b e : Beliefs) (all : Departed) (names : List (List ℕ))
    (sound_new : IsSound (next_list old edit)) (fit : IsFit old net b) (current : IsCurrent old net (forest b.tree) (rows_of b)) (out : IsLeftOut old (next_list old edit) names)
    (sheds : ShedsAll b e all) (spares : Spares (next_list old edit) b e) (free : (name : List ℕ) → In name names → IsFreeOf e name) where
  abbrev new : Standing
  new = next_list old edit

  abbrev f : Forest
  f = forest b.tree

  abbrev g : Forest
  g = forest e.tree

  sound_old : IsSound old
  sound_old = fit.tree.seen.network.sound

  -- a premise of the list before stands in the list after, or nothing is there of it
  stands_or_free : (p : Premise) → In p old.premises → IsSome (premise_in new.premises (name_of p)) ⊎ IsFreeOf e (name_of p)
  stands_or_free p at = by (premise_in new.premises (name_of p)) refl
    where
      by : (o : Option Premise) → premise_in new.premises (name_of p) ≡ o → IsSome (premise_in new.premises (name_of p)) ⊎ IsFreeOf e (name_of p)
      by None none = inr (free (name_of p) (left_out old new names out p at none))
      by (Some q) is = inl (ap (λ (o : Option Premise). is_some o) is)

  -- so a rule of the list before
  rule_or_free : (t : Moment) (r : List ℕ) → Contains (rules_at old t) r → IsSome (premise_in new.premises r) ⊎ IsFreeOf e r
  rule_or_free t r at =
      let (p, there, _) = rule_there old sound_old t r at in
      let (stands, named) = finds old.premises r p there in
      subst (λ n. IsSome (premise_in new.premises n) ⊎ IsFreeOf e n) named (stands_or_free p stands)

  -- ---- the nodes

  -- an occurrence of a node of the list before that is left stands
  node_stands : (k : Moment) (x : ℕ) (m : Member) → member g x ≡ Some m → moment m ≡ k → Stands new k
  node_stands (At (Begin n)) x m at is =
      let occurs = subst (Occurs old) is (fit.tree.seen.members x m (sheds.thins.nodes x m at)).occurs in
      let (p, there, root) = In-filter_map root_of old.premises (At (Begin n)) (In-from_Contains (roots old) (At (Begin n)) occurs) in
      let named = root_named p n root in
      elim (subst (λ z. IsSome (premise_in new.premises z) ⊎ IsFreeOf e z) named (stands_or_free p there)) [
        | inl stands ↦ stands
        | inr none ↦ (let bases : Begin m.root ≡ Begin n = sym (base-moment m) ∙ ap base is in let same : m.root ≡ n = cc in absurd (none.root x m at same))
      ]
  node_stands (At Start) x m at is = (let bases : Begin m.root ≡ Start = sym (base-moment m) ∙ ap base is in absurd (cc))
  node_stands (At (End n)) x m at is = (let bases : Begin m.root ≡ End n = sym (base-moment m) ∙ ap base is in absurd (cc))
  node_stands (After t r) x m at is =
      let there = sheds.thins.nodes x m at in
      let fires = (believed_right old sound_old (After t r)).0 (subst (Contains (built old).believed) is (current.holds.own x m there)) in
      let (y, n, n_at, is_t) = current.holds.all t fires.believed in
      let led : moment m ≡ After (moment n) r = is ∙ ap (λ z. After z r) (sym is_t) in
      let n_stays = sheds.thins.above x y m n r at n_at led in
      let here = moment_at-is f y n n_at ∙ is_t in (
        node_stands t y n n_stays is_t,
        elim (rule_or_free t r fires.stands) [
          | inl stands ↦ stands
          | inr none ↦ (
              let (i, q, q_at, tr, ru) = current.rows_are.each y r (live_at f y n n_at) (subst (λ z. Contains (rules_at old z) r) (sym here) fires.stands) in
              let (row, row_at, is_row) = row_of b i q q_at in
              let trigger : row.value.trigger ≡ y = ap (λ (z : Row). z.trigger) (sym is_row) ∙ tr in
              let named : rule_in b.decisions row ≡ r = ap (λ (z : Row). z.rule) (sym is_row) ∙ ru in
              elim (spares.rows i row row_at (subst (IsLive g) (sym trigger) (live_at g y n n_stays))) [
                | inl left ↦ absurd (none.rule i row left (ap (λ l. name_in l row.value.rule) sheds.thins.rules ∙ named))
                | inr ruled ↦ absurd (ruled.effect x m at (is ∙ (λ j. After ((sym here ∙ ap (moment_at f) (sym trigger)) j) (sym named j))))
              ])
        ],
      )

  pub node_occurs : (x : ℕ) (m : Member) → member (forest e.tree) x ≡ Some m → Occurs (next_list old edit) (moment m)
  node_occurs x m at =
      (standing_occurs old edit sound_old sound_new (moment m) (fit.tree.seen.members x m (sheds.thins.nodes x m at)).occurs).1 (node_stands (moment m) x m at refl)

  node_stays : (x : ℕ) (m : Member) → member f x ≡ Some m → Occurs new (moment m) → member g x ≡ Some m
  node_stays x m at occurs = spares.nodes x m at ((standing_occurs old edit sound_old sound_new (moment m) (fit.tree.seen.members x m at).occurs).0 occurs)

  seen_before : IsForestOf old net g
  seen_before = record {
    network = fit.tree.seen.network;
    members = λ x m at. fit.tree.seen.members x m (sheds.thins.nodes x m at);
    once = λ x y m n at there same. fit.tree.seen.once x y m n (sheds.thins.nodes x m at) (sheds.thins.nodes y n there) same;
  }

  pub seen_after : AreSeenAfter (next_list old edit) net e
  seen_after after network keep = stay_seen old edit net after g seen_before network keep node_occurs

  -- ---- the rows

  -- a row that is left is of an event that occurs in both lists, and its rule stands in the list
  -- before
  row_stood : (i : ℕ) (row : TableRow Pair 8) → (table_of e.decisions).row i ≡ Some row → Contains (rules_at old (moment_at g row.value.trigger)) (rule_in e.decisions row)
  row_stood i row at =
      let was = sheds.thins.rows i row at in
      let own = (current.rows_are.own i (seen_row b i row) (row_there b i row was)).1 in
      let same = moment_stays b e sheds.thins row.value.trigger (sheds.thins.events i row at) in
      subst (λ z. Contains (rules_at old z) (rule_in e.decisions row)) same
      (subst (λ l. Contains (rules_at old (moment_at f row.value.trigger)) (name_in l row.value.rule)) (sym sheds.thins.rules) own)

  row_stands : (i : ℕ) (row : TableRow Pair 8) → (table_of e.decisions).row i ≡ Some row → Contains (rules_at new (moment_at g row.value.trigger)) (rule_in e.decisions row)
  row_stands i row at =
      let (m, there) = node_at g row.value.trigger (sheds.thins.events i row at) in
      let is = moment_at-is g row.value.trigger m there in
      let before = subst (Occurs old) (sym is) (fit.tree.seen.members row.value.trigger m (sheds.thins.nodes row.value.trigger m there)).occurs in
      let now = subst (Occurs new) (sym is) (node_occurs row.value.trigger m there) in
      let stood = row_stood i row at in
      elim (rule_or_free (moment_at g row.value.trigger) (rule_in e.decisions row) stood) [
        | inl stands ↦ (
            let effect : Occurs old (After (moment_at g row.value.trigger) (rule_in e.decisions row)) = (before, stood) in
            ((standing_occurs old edit sound_old sound_new (After (moment_at g row.value.trigger) (rule_in e.decisions row)) effect).1
            ((standing_occurs old edit sound_old sound_new (moment_at g row.value.trigger) before).0 now, stands)).1)
        | inr none ↦ absurd (none.rule i row at refl)
      ]

  row_stays : (i : ℕ) (row : TableRow Pair 8) → (table_of b.decisions).row i ≡ Some row → IsLive g row.value.trigger
      → Contains (rules_at new (moment_at g row.value.trigger)) (rule_in b.decisions row) → (table_of e.decisions).row i ≡ Some row
  row_stays i row at live stands = elim (spares.rows i row at live) [
    | inl there ↦ there
    | inr ruled ↦ (
        let (p, is, _) = rule_there new sound_new (moment_at g row.value.trigger) (rule_in b.decisions row) stands in
        absurd (none_some p (sym ruled.rule ∙ is)))
  ]

  under_after : AreUnder new e.decisions
  under_after =
      let under = under_less b e sheds.thins old fit.under in
      record { classes = λ i row at. by i row at (under.classes i row at); named = under.named }
    where
      by : (i : ℕ) (row : TableRow Pair 8) → (table_of e.decisions).row i ≡ Some row → IsUnderClasses old (name_in e.decisions.rules) (place_in e.decisions.classes) row
          → IsUnderClasses new (name_in e.decisions.rules) (place_in e.decisions.classes) row
      by i row at u = record {
        classes = u.classes;
        few = u.few;
        numbers = subst (λ l. map (λ fact. place_in e.decisions.classes (class_of new fact)) l ≡ map Some u.classes) reads
            (map_same (λ fact. place_in e.decisions.classes (class_of new fact)) (λ fact. place_in e.decisions.classes (class_of old fact)) (read_by (rule_of old r)) same ∙ u.numbers);
        heads = u.heads;
      }
        where
          r : List ℕ
          r = rule_in e.decisions row

          rule_same : rule_of old r ≡ rule_of new r
          rule_same = text old edit sound_old sound_new (moment_at g row.value.trigger) r (row_stood i row at) (row_stands i row at)

          reads : read_by (rule_of old r) ≡ read_by (rule_of new r)
          reads = ap (λ (z : RuleText). read_by z) rule_same

          same : (fact : List ℕ) → In fact (read_by (rule_of old r)) → place_in e.decisions.classes (class_of new fact) ≡ place_in e.decisions.classes (class_of old fact)
          same fact there = ap (place_in e.decisions.classes)
              (sym (classes_stay old edit sound_old sound_new (moment_at g row.value.trigger) r fact (row_stood i row at) (row_stands i row at) there (subst (In fact) reads there)))

  pub cleared : IsCleared old (next_list old edit) b e
  cleared = record { occur = node_occurs; nodes = node_stays; stand = row_stands; rows = row_stays; under = under_after }

  -- ---- what is told

  told_is : moments_of all.left.items ≡ moments_of sheds.tells.more
  told_is = ap moments_of sheds.tells.is

  from_told : (k : Moment) → In k (moments_of all.left.items) → (x : ℕ) × (m : Member) × HasLeft b.tree e.tree x m × (moment m ≡ k) × (is_derived k ≡ true)
  from_told k at =
      let (o, there, is) = In-map (λ (z : DatedOcc). moment_of z.occ) sheds.tells.more k (subst (In k) told_is at) in
      let (x, m, left, same, derived, _, _) = sheds.tells.own o there in
      (x, m, left, same ∙ is, ap is_derived (sym (same ∙ is)) ∙ derived)

  gone_if_no_more : (x : ℕ) (m : Member) → member f x ≡ Some m → (Occurs new (moment m) → ⊥) → HasLeft b.tree e.tree x m
  gone_if_no_more x m at never = record { was = at; gone = by (member g x) refl }
    where
      by : (o : Option Member) → member g x ≡ o → member g x ≡ None
      by None is = is
      by (Some n) is = absurd (never (subst (λ (z : Member). Occurs (next_list old edit) (moment z)) (one_node f x n m (sheds.thins.nodes x n is) at) (node_occurs x n is)))

  after_of : (k : Moment) → is_derived k ≡ true → (t : Moment) × (r : List ℕ) × (k ≡ After t r)
  after_of (At p) is = (let never : false ≡ true = is in cc)
  after_of (After t r) is = (t, r, refl)

  pub told_first : LeaveFirst old (next_list old edit) (moments_of all.left.items)
  told_first = record {
    each = λ t r. (
      (λ at.
          let (x, m, left, is, _) = from_told (After t r) at in (
            subst (Contains (built old).believed) is (current.holds.own x m left.was),
            λ occurs. none_some m (sym left.gone ∙ node_stays x m left.was (subst (Occurs new) (sym is) occurs)),
          )),
      (λ h.
          let (x, m, at, is) = current.holds.all (After t r) h.0 in
          let left = gone_if_no_more x m at (λ occurs. h.1 (subst (Occurs new) is occurs)) in
          subst (λ k. In k (moments_of all.left.items)) is (subst (In (moment m)) (sym told_is) (sheds.tells.all x m left (ap is_derived is)))),
    );
    derived = λ y at. (let (_, _, _, _, derived) = from_told y at in after_of y derived);
    once = subst Distinct (sym told_is) sheds.tells.once;
  }
