-- What a turn tells.
use Rattle.std.proofs.Common.{◌≡◌, ◌∙◌, ℕ, ◌+◌, ◌≤◌, true, false, eqb, eqb-true, List, [], ◌∷◌, ◌++◌, map, reverse, Some, refl, sym, ap, subst, inl, inr, arith}
use Rattle.std.proofs.lemmas.List.{map-append, reverse-append, reverse-reverse}
use Rattle.std.proofs.lemmas.List.Sorted.{Contains-permutation, IsPermutation-reverse}
use Rattle.std.proofs.lemmas.List.Sums.{sum_by-cons}
use Rattle.std.specs.Prelude.{ℤ, sum_by}
use Rattle.std.specs.List.{Contains, list_any}
use Rattle.tmm_model.specs.declared.premise.Edit.{Edit}
use Rattle.tmm_model.specs.declared.refusal.Stop.{Stop}
use Rattle.tmm_model.specs.Answers.{weight, size, most_size}
use Rattle.tmm_model.specs.Beliefs.{rules_at}
use Rattle.tmm_model.specs.Edits.{next_list}
use Rattle.tmm_model.specs.Maps.{built}
use Rattle.tmm_model.specs.Moments.{Moment, After, moment_of}
use Rattle.tmm_model.specs.Standing.{Standing}
use Rattle.list_theory.proofs.Distinct.{Distinct, Distinct-append}
use Rattle.list_theory.proofs.Elements.{In, In-from_Contains, Contains-from_In, In-cases, In-map, map-In, list_any-In, In-list_any}
use Rattle.dist_net.specs.Net.{Net}
use Rattle.row_links.specs.Lists.{IsOn, AreOnce}
use Rattle.row_links.proofs.Lists.{itself}
use Rattle.spots.specs.Forest.{Forest, Member, member, IsLive, moment, moment_at, IsOnce}
use Rattle.spots.proofs.Nodes.{node_at, live_at, moment_at-is}
use Rattle.occ_tree.specs.Places.{forest}
use Rattle.occ_tree.specs.Standing.{Kept}
use Rattle.occ_tree.proofs.Members.{members_below, below_by_members}
use Rattle.projection.specs.Queues.{weight_at, IsTooLarge}
use Rattle.projection.proofs.Settled.{larger}
use Rattle.revisions.specs.Steps.{IsUnder}
use Rattle.joined.specs.Rows.{Row, fires_by}
use Rattle.joined.specs.Telling.{IsToldOf, LeaveFirst, TellsMore, an_entry, leaving}
use Rattle.joined.specs.Turning.{effect_of}
use Rattle.joined.proofs.Leaving.{below_under, under_below}
use Rattle.joined.proofs.Telling.{turn_tells, netted_tell}
use Rattle.belief_turns.specs.declared.deciding.Due.{Due}
use Rattle.belief_table.specs.declared.state.Beliefs.{Beliefs}
use Rattle.belief_table.specs.declared.dated.DatedOcc.{DatedOcc}
use Rattle.belief_turns.specs.declared.told.Told.{Told}
use Rattle.belief_table.specs.Decided.{table_of, KeepsLast}
use Rattle.belief_turns.specs.Entering.{Brings}
use Rattle.belief_table.specs.Erasing.{moments_of as moments_told}
use Rattle.belief_turns.specs.Moving.{date_at, TurnsOn, row_due}
use Rattle.belief_turns.specs.Telling.{seen_dated, seen_node, entered_in, left_in, moments_of, ins, outs, IsWeighed, TellsEntry}
use Rattle.belief_turns.specs.Turning.{rows_of, IsUnderway, IsDecided}
use Rattle.belief_turns.specs.Turns.{IsAfter, Withdraws, TurnsTo, StopsTurn}
use Rattle.belief_turns.proofs.Bringing.{brings_turn}
use Rattle.belief_table.proofs.Marked.{one_row}
use Rattle.belief_turns.proofs.Moved.{turn, turn_kept}
use Rattle.belief_turns.proofs.Turned.{date_is, fit_decided, same_kept, stands_at}
use Rattle.belief_turns.proofs.Withdrawn.{leaves_turn}

-- ---- lists, the last first

moments_more : (xs ys : List (ℤ × Moment)) → moments_of (xs ++ ys) ≡ moments_of ys ++ moments_of xs
moments_more xs ys = ap reverse (map-append (λ m. m.1) xs ys) ∙ reverse-append (map (λ m. m.1) xs) (map (λ m. m.1) ys)

nodes_are : (tree : Kept) (numbers : List ℕ) → map (λ (m : ℤ × Moment). m.1) (map (seen_node tree) numbers) ≡ map (moment_at (forest tree)) numbers
nodes_are tree [] = refl
nodes_are tree (n ∷ numbers) = ap (λ l. moment_at (forest tree) n ∷ l) (nodes_are tree numbers)

pub In-reverse : {X : Type 0} (xs : List X) (x : X) → In x xs → In x (reverse xs)
In-reverse xs x at = In-from_Contains (reverse xs) x (Contains-permutation xs (reverse xs) x (IsPermutation-reverse xs) (Contains-from_In xs x at))

reverse-In : {X : Type 0} (xs : List X) (x : X) → In x (reverse xs) → In x xs
reverse-In xs x at = subst (In x) (reverse-reverse xs) (In-reverse (reverse xs) x at)

Distinct-reverse : {X : Type 0} (xs : List X) → Distinct xs → Distinct (reverse xs)
Distinct-reverse [] once = once
Distinct-reverse (x ∷ xs) once =
    subst Distinct (sym (reverse-append (x ∷ []) xs))
    (Distinct-append (reverse xs) (x ∷ []) (Distinct-reverse xs once.1) ((λ none. none), tt) (λ y at here. elim here [
      | inl is ↦ once.0 (subst (λ z. In z xs) (sym is) (reverse-In xs y at))
      | inr none ↦ none
    ]))

pub on_in : (numbers : List ℕ) (y : ℕ) → In y numbers → IsOn numbers y
on_in numbers y at = In-list_any (eqb y) numbers y at (itself y)

pub in_on : (numbers : List ℕ) (y : ℕ) → IsOn numbers y → In y numbers
in_on numbers y on = let (x, at, same) = list_any-In (eqb y) numbers on in subst (λ z. In z numbers) (sym (eqb-true y x same)) at

-- nodes that stand once in a list are occurrences that do
once_moments : (f : Forest) (numbers : List ℕ) → IsOnce f → ((y : ℕ) → In y numbers → IsLive f y) → AreOnce numbers → Distinct (map (moment_at f) numbers)
once_moments f [] once live apart = tt
once_moments f (n ∷ numbers) once live apart = (first, once_moments f numbers once (λ y at. live y (inr at)) apart.1)
  where
    first : In (moment_at f n) (map (moment_at f) numbers) → ⊥
    first at =
        let (k, there, same) = In-map (moment_at f) numbers (moment_at f n) at in
        let (m, at_k) = node_at f k (live k (inr there)) in
        let (o, at_n) = node_at f n (live n (inl refl)) in
        let one : k ≡ n = once k n m o at_k at_n (sym (moment_at-is f k m at_k) ∙ same ∙ moment_at-is f n o at_n) in
        let on : list_any (eqb n) numbers ≡ true = on_in numbers n (subst (λ z. In z numbers) one there) in
        let no : false ≡ true = sym apart.0 ∙ on in
        cc

-- ---- any turn in which nodes move

told_at : (old : Standing) (edit : Edit) (net : Net) (b c e : Beliefs) (due : Due) (taken : List (Moment × List ℕ)) (t : TurnsOn (next_list old edit) net b c e due)
    (d : IsDecided (next_list old edit) b c due) (is outs_are ins_after outs_after : List Moment)
    → TellsMore (forest b.tree) (row_due b due.row d.row) due.found is outs_are ins_after outs_after
    → IsUnderway old edit net b taken → IsToldOf old (next_list old edit) (forest b.tree) is outs_are → IsToldOf old (next_list old edit) (forest e.tree) ins_after outs_after
told_at old edit net b c e due taken t d is outs_are ins_after outs_after tells k told =
    turn_tells old edit net (forest b.tree) (forest e.tree) (rows_of b) (rows_of e) taken due.row (row_due b due.row t.decided.row) due.found is outs_are ins_after outs_after k.sound k.sound_after k.netted
    (turn old edit net b c e due taken t k) told
    (subst (λ row. TellsMore (forest b.tree) (row_due b due.row row) due.found is outs_are ins_after outs_after) (one_row (table_of b.decisions) due.row d.row t.decided.row d.at t.decided.at) tells)

turn_told : (s : Standing) (net : Net) (b c e : Beliefs) (due : Due) (t : TurnsOn s net b c e due) (d : IsDecided s b c due) (is outs_are ins_after outs_after : List Moment)
    → TellsMore (forest b.tree) (row_due b due.row d.row) due.found is outs_are ins_after outs_after
    → (old : Standing) (edit : Edit) (taken : List (Moment × List ℕ)) → next_list old edit ≡ s → IsUnderway old edit net b taken
    → IsToldOf old (next_list old edit) (forest b.tree) is outs_are → IsToldOf old (next_list old edit) (forest e.tree) ins_after outs_after
turn_told s net b c e due t d is outs_are ins_after outs_after tells old edit taken list k told =
    subst (λ l. (t : TurnsOn l net b c e due) (d : IsDecided l b c due) → TellsMore (forest b.tree) (row_due b due.row d.row) due.found is outs_are ins_after outs_after
    → IsToldOf old (next_list old edit) (forest e.tree) ins_after outs_after) list
    (λ t d tells. told_at old edit net b c e due taken t d is outs_are ins_after outs_after tells k told) t d tells

-- the rule of the row that is due stands at its event
stands_due : (s : Standing) (net : Net) (b c : Beliefs) (due : Due) → IsAfter s net b c due → Contains (rules_at s (moment_at (forest b.tree) due.trigger)) due.rule
stands_due s net b c due after =
    let d = after.decided in
    subst (λ x. Contains (rules_at s (moment_at (forest b.tree) x)) due.rule) d.trigger
    (subst (Contains (rules_at s (moment_at (forest b.tree) d.row.value.trigger))) d.rule (stands_at s net b after.fit after.revising due.row d.row d.at))

-- ---- where the rule fires as before

pub same_turned : (s : Standing) (net : Net) (b c : Beliefs) (due : Due) (told : Told) → IsAfter s net b c due → fires_by due.found ≡ fires_by due.before → TurnsTo s net b c told told
same_turned s net b c due told after alike = record {
  decision = (moment_at (forest b.tree) due.trigger, due.rule);
  fit = fit_decided s net b c due after.fit after.decided;
  stands = λ old edit taken list k. same_kept s net b c due after.fit after.decided old edit taken list k alike;
  tells = λ old edit taken list k told_b. subst (λ (t : Kept). IsToldOf old (next_list old edit) (forest t) (ins told) (outs told)) (sym after.decided.tree) told_b;
  weighed = λ w. w;
}

-- ---- where an effect enters

module _ (s : Standing) (net : Net) (b c e : Beliefs) (due : Due) (after : IsAfter s net b c due) (now : fires_by due.found ≡ true) (before : fires_by due.before ≡ false)
    (brings : Brings s net due.trigger due.rule c e) (last : KeepsLast c.decisions e.decisions) where
  abbrev d : IsDecided s b c due
  d = after.decided

  entry_turn : TurnsOn s net b c e due
  entry_turn = brings_turn s net b c e due after.fit after.decided now before (stands_due s net b c due after) brings last

  entered_is : moment_at (forest e.tree) brings.number ≡ effect_of (forest b.tree) (row_due b due.row after.decided.row)
  entered_is =
      moment_at-is (forest e.tree) brings.number brings.enters.adds.node brings.enters.adds.enters.entered
      ∙ brings.enters.adds.is
      ∙ (λ i. After (moment_at (forest (d.tree i)) (sym d.trigger i)) (sym d.rule i))

  entry_tells : (is outs_are : List Moment) → TellsMore (forest b.tree) (row_due b due.row after.decided.row) due.found is outs_are (moment_at (forest e.tree) brings.number ∷ is) outs_are
  entry_tells is outs_are = an_entry now (ap fires_by d.before ∙ before) (ap (λ x. x ∷ is) entered_is) refl

  entry_told : (is outs_are : List Moment) (old : Standing) (edit : Edit) (taken : List (Moment × List ℕ)) → next_list old edit ≡ s → IsUnderway old edit net b taken
      → IsToldOf old (next_list old edit) (forest b.tree) is outs_are → IsToldOf old (next_list old edit) (forest e.tree) (moment_at (forest e.tree) brings.number ∷ is) outs_are
  entry_told is outs_are = turn_told s net b c e due entry_turn after.decided is outs_are (moment_at (forest e.tree) brings.number ∷ is) outs_are (entry_tells is outs_are)

  weights : (told : Told) → IsWeighed s told → told.weight + weight_at s (forest e.tree) brings.number ≡ sum_by (weight (built s)) (moment_at (forest e.tree) brings.number ∷ ins told)
  weights told w =
      let sum = sum_by-cons (weight (built s)) (moment_at (forest e.tree) brings.number) (ins told) in
      let own = w.weight in
      omega (arith, sum, own)

  pub entry_stops : (told : Told) (stop : Stop) → IsTooLarge (told.weight + weight_at s (forest e.tree) brings.number) stop → StopsTurn s net b told stop
  entry_stops told stop large old edit taken list k told_b w =
      let kept = turn_kept s net b c e due entry_turn old edit taken list k in
      let told_e = entry_told (ins told) (outs told) old edit taken list k told_b in
      let few = (netted_tell old edit net (forest e.tree) (rows_of e) ((moment_at (forest b.tree) due.trigger, due.rule) ∷ taken) (moment_at (forest e.tree) brings.number ∷ ins told) (outs told) k.sound k.sound_after kept.netted told_e).0 in
      let few_s : sum_by (weight (built s)) (moment_at (forest e.tree) brings.number ∷ ins told) ≤ size (built s) =
      subst (λ l. sum_by (weight (built l)) (moment_at (forest e.tree) brings.number ∷ ins told) ≤ size (built l)) list few in
      let same = weights told w in
      larger (told.weight + weight_at s (forest e.tree) brings.number) (size (built s)) stop (λ more. omega (arith, more, same, few_s)) large

  module _ (told told_after : Told) (tells : TellsEntry s e.tree brings.number told told_after) where
    ins_are : ins told_after ≡ moment_at (forest e.tree) brings.number ∷ ins told
    ins_are = ap moments_of tells.entered ∙ moments_more (entered_in told) (seen_node e.tree brings.number ∷ [])

    outs_are : outs told_after ≡ outs told
    outs_are = ap moments_of tells.left

    weighed : IsWeighed s told → IsWeighed s told_after
    weighed w = record {
      dated = λ m at. elim (In-cases (entered_in told) (seen_node e.tree brings.number ∷ []) m (subst (In m) tells.entered at)) [
        | inl there ↦ w.dated m there
        | inr here ↦ elim here [
          | inl is ↦ subst (λ (z : ℤ × Moment). z.0 ≡ date_at s z.1) is
              (date_is s net e entry_turn.fit_after brings.number (live_at (forest e.tree) brings.number brings.enters.adds.node brings.enters.adds.enters.entered))
          | inr none ↦ absurd none
        ]
      ];
      weight = tells.weight ∙ weights told w ∙ ap (sum_by (weight (built s))) (sym ins_are);
      small = tells.small;
    }

    pub entry_turned : TurnsTo s net b e told told_after
    entry_turned = record {
      decision = (moment_at (forest b.tree) due.trigger, due.rule);
      fit = entry_turn.fit_after;
      stands = turn_kept s net b c e due entry_turn;
      tells = λ old edit taken list k told_b.
          subst (λ l. IsToldOf old (next_list old edit) (forest e.tree) l (outs told_after)) (sym ins_are)
          (subst (IsToldOf old (next_list old edit) (forest e.tree) (moment_at (forest e.tree) brings.number ∷ ins told)) (sym outs_are)
          (entry_told (ins told) (outs told) old edit taken list k told_b));
      weighed = weighed;
    }

-- ---- where an effect is withdrawn

module _ (s : Standing) (net : Net) (b c e : Beliefs) (due : Due) (after : IsAfter s net b c due) (now : fires_by due.found ≡ false) (before : fires_by due.before ≡ true)
    (told told_after : Told) (w : Withdraws s net due.trigger due.rule c e told told_after) (last : KeepsLast c.decisions e.decisions) where
  abbrev de : IsDecided s b c due
  de = after.decided

  abbrev f : Forest
  f = forest c.tree

  abbrev p : Row
  p = row_due b due.row after.decided.row

  abbrev x : ℕ
  x = w.number

  abbrev m : Member
  m = w.node

  exit_turn : TurnsOn s net b c e due
  exit_turn = leaves_turn s net b c e due w.number w.node w.numbers after.fit after.decided now before (stands_due s net b c due after) w.here w.is w.takes last

  effect_is : moment w.node ≡ effect_of (forest c.tree) (row_due b due.row after.decided.row)
  effect_is = w.is ∙ (λ i. After (moment_at (forest c.tree) (sym de.trigger i)) (sym de.rule i))

  abbrev out : List Moment
  out = moments_of (map (seen_node c.tree) w.numbers)

  out_is : moments_of (map (seen_node c.tree) w.numbers) ≡ reverse (map (moment_at (forest c.tree)) w.numbers)
  out_is = ap reverse (nodes_are c.tree w.numbers)

  below_in : (y : Moment) → In y (moments_of (map (seen_node c.tree) w.numbers))
      → (z : ℕ) × (n : Member) × (member (forest c.tree) z ≡ Some n) × (moment n ≡ y) × IsUnder (effect_of (forest c.tree) (row_due b due.row after.decided.row)) y
  below_in y at =
      let there = reverse-In (map (moment_at f) w.numbers) y (subst (In y) out_is at) in
      let (z, on, same) = In-map (moment_at f) w.numbers y there in
      let below = (w.takes.below z).0 (on_in w.numbers z on) in
      let is : moment below.below ≡ y = sym (moment_at-is f z below.below below.below_at) ∙ same in (
        z,
        below.below,
        below.below_at,
        is,
        subst (λ k. IsUnder k y) effect_is (subst (IsUnder (moment m)) is (below_under m below.below (members_below f x z m below.below w.here below.below_at below))),
      )

  in_below : (y : Moment) → (z : ℕ) × (n : Member) × (member (forest c.tree) z ≡ Some n) × (moment n ≡ y) × IsUnder (effect_of (forest c.tree) (row_due b due.row after.decided.row)) y
      → In y (moments_of (map (seen_node c.tree) w.numbers))
  in_below y (z, n, at, is, under) =
      let below = below_by_members f x z m n w.here at (under_below m n (subst (λ k. IsUnder k (moment n)) (sym effect_is) (subst (IsUnder (effect_of f p)) (sym is) under))) in
      let on = in_on w.numbers z ((w.takes.below z).1 below) in
      let here = map-In (moment_at f) w.numbers z on in
      subst (In y) (sym out_is) (In-reverse (map (moment_at f) w.numbers) y (subst (λ k. In k (map (moment_at f) w.numbers)) (moment_at-is f z n at ∙ is) here))

  out_once : Distinct (moments_of (map (seen_node c.tree) w.numbers))
  out_once =
      subst Distinct (sym out_is) (Distinct-reverse (map (moment_at f) w.numbers)
      (once_moments f w.numbers (fit_decided s net b c due after.fit after.decided).tree.seen.once
      (λ y at. (let below = (w.takes.below y).0 (on_in w.numbers y at) in live_at f y below.below below.below_at)) w.once))

  exit_tells : TellsMore (forest c.tree) (row_due b due.row after.decided.row) due.found (ins told) (outs told) (ins told_after) (outs told_after)
  exit_tells = leaving now (ap fires_by de.before ∙ before) out (λ y. (below_in y, in_below y)) out_once
      (ap moments_of w.tells.entered)
      (ap moments_of w.tells.left ∙ moments_more (left_in told) (map (seen_node c.tree) w.numbers))

  pub exit_turned : TurnsTo s net b e told told_after
  exit_turned = record {
    decision = (moment_at (forest b.tree) due.trigger, due.rule);
    fit = exit_turn.fit_after;
    stands = turn_kept s net b c e due exit_turn;
    tells = turn_told s net b c e due exit_turn after.decided (ins told) (outs told) (ins told_after) (outs told_after)
        (subst (λ (t : Kept). TellsMore (forest t) (row_due b due.row after.decided.row) due.found (ins told) (outs told) (ins told_after) (outs told_after)) de.tree exit_tells);
    weighed = λ h. record {
      dated = λ y at. h.dated y (subst (In y) w.tells.entered at);
      weight = w.tells.weight ∙ h.weight ∙ ap (λ l. sum_by (weight (built s)) (moments_of l)) (sym w.tells.entered);
      small = subst (λ n. n ≤ most_size) (sym w.tells.weight) h.small;
    };
  }

-- ---- where nothing entered yet

-- what leaves at the beginning is so also the last first
pub left_first : (old new : Standing) (t : Told) (left : List DatedOcc) → t.left.items ≡ left → LeaveFirst old new (moments_told left) → LeaveFirst old new (outs t)
left_first old new t left is first = record {
  each = λ u r. (
    (λ at. (first.each u r).0 (from (After u r) at)),
    (λ h. into (After u r) ((first.each u r).1 h)),
  );
  derived = λ y at. first.derived y (from y at);
  once = subst Distinct (sym outs_are) (Distinct-reverse (moments_told left) first.once);
}
  where
    moments_are : (l : List DatedOcc) → map (λ (m : ℤ × Moment). m.1) (map seen_dated l) ≡ moments_told l
    moments_are [] = refl
    moments_are (o ∷ l) = ap (λ k. moment_of o.occ ∷ k) (moments_are l)

    outs_are : outs t ≡ reverse (moments_told left)
    outs_are = ap (λ l. reverse (map (λ (m : ℤ × Moment). m.1) (map seen_dated l))) is ∙ ap reverse (moments_are left)

    from : (y : Moment) → In y (outs t) → In y (moments_told left)
    from y at = reverse-In (moments_told left) y (subst (In y) outs_are at)

    into : (y : Moment) → In y (moments_told left) → In y (outs t)
    into y at = subst (In y) (sym outs_are) (In-reverse (moments_told left) y at)
