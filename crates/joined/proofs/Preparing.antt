-- Nodes and rows of the list before, made ready for the list after.
use Rattle.std.proofs.Common.{◌≡◌, ◌∙◌, ℕ, Bool, true, false, ◌&&◌, List, [], ◌++◌, filter, refl, sym, ap, subst, inl, inr}
use Rattle.std.proofs.lemmas.List.Elements.{Contains-append_left, Contains-append_cases}
use Rattle.std.specs.Prelude.{◌⊎◌, ◌↔◌, Some, None}
use Rattle.std.specs.List.{Contains, list_any}
use Rattle.std.specs.Cmp.Lexicographic.{bytes_decides}
use Rattle.tmm_model.specs.declared.point.PointName.{PointName}
use Rattle.tmm_model.specs.declared.premise.Edit.{Edit}
use Rattle.tmm_model.specs.Beliefs.{root_of, roots, rules_at}
use Rattle.tmm_model.specs.Edits.{next_list}
use Rattle.tmm_model.specs.Maps.{built}
use Rattle.tmm_model.specs.Moments.{Moment, At, After, same_moment}
use Rattle.tmm_model.specs.Points.{same_name}
use Rattle.tmm_model.specs.Standing.{Standing, far_in}
use Rattle.list_theory.specs.WellNamed.{IsSound}
use Rattle.list_theory.proofs.Elements.{In-from_Contains, Contains-from_In, In-right, In-filter, filter-In, In-filter_map, list_any-In, In-list_any, both}
use Rattle.belief_theory.specs.Outcomes.{Outcome, outcome}
use Rattle.belief_theory.specs.Right.{Occurs}
use Rattle.belief_theory.specs.Touched.{is_decision}
use Rattle.belief_theory.proofs.Moments.{Decides-same_moment}
use Rattle.belief_theory.proofs.Untouched.{was_decision}
use Rattle.dist_net.specs.Net.{Net}
use Rattle.spots.specs.Forest.{Forest, Member, member, moment, moment_at, IsLive}
use Rattle.spots.specs.OfLists.{HasOccurrences}
use Rattle.spots.proofs.Nodes.{node_at, live_at, moment_at-is}
use Rattle.spots.proofs.Grown.{root_name}
use Rattle.revisions.specs.Counted.{AreSeeds}
use Rattle.revisions.proofs.Lawful.{decided}
use Rattle.joined.specs.Netted.{IsNetted, IsCurrent}
use Rattle.joined.specs.Rows.{Row, Rows, decision_of, HasRow, HasNoRow, AreApart, AreRowsOf}
use Rattle.joined.specs.Starting.{StartsAs, stood, comes, NodesBegin, BeginsFrom, RowsBegin, was, is_new, IsPrepared}
use Rattle.joined.proofs.Deciding.{some_row, live_or}
use Rattle.joined.proofs.Starting.{started}

-- ---- a test of what occurs

in_test : {X : Type 0} (same : X → X → Bool) → ((x y : X) → (same x y ≡ true) ↔ (x ≡ y)) → (xs : List X) (x : X) → (list_any (same x) xs ≡ true) ↔ Contains xs x
in_test same decides xs x = (
  (λ e. let (y, at, is) = list_any-In (same x) xs e in subst (Contains xs) (sym ((decides x y).0 is)) (Contains-from_In xs y at)),
  (λ at. In-list_any (same x) xs x (In-from_Contains xs x at) ((decides x x).1 refl)),
)

abbrev pub occurs_in : Standing → Moment → Bool
occurs_in s (At p) = list_any (same_moment (At p)) (roots s)
occurs_in s (After t r) = occurs_in s t && list_any (same_name r) (rules_at s t)

tells_occurs : (s : Standing) (x : Moment) → occurs_in s x ≡ true → Occurs s x
tells_occurs s (At p) e = (in_test same_moment Decides-same_moment (roots s) (At p)).0 e
tells_occurs s (After t r) e =
    let h = both (occurs_in s t) (list_any (same_name r) (rules_at s t)) e in
    (tells_occurs s t h.0, (in_test same_name bytes_decides (rules_at s t) r).0 h.1)

occurs_told : (s : Standing) (x : Moment) → Occurs s x → occurs_in s x ≡ true
occurs_told s (At p) h = (in_test same_moment Decides-same_moment (roots s) (At p)).1 h
occurs_told s (After t r) h = λ i. occurs_told s t h.0 i && (in_test same_name bytes_decides (rules_at s t) r).1 h.1 i

-- a derived occurrence of the list
abbrev pub is_derived_in : Standing → Moment → Bool
is_derived_in s (At p) = false
is_derived_in s (After t r) = occurs_in s (After t r)

-- what is declared to occur begins at a point
no_root : (s : Standing) (t : Moment) (r : List ℕ) → Contains (roots s) (After t r) → ⊥
no_root s t r at =
    let (p, there, e) = In-filter_map root_of s.premises (After t r) (In-from_Contains (roots s) (After t r) at) in
    let same = root_name p (After t r) e in
    cc

-- ---- nodes and rows that begin

-- a node that stays is of the same occurrence
pub stays_same : (new : Standing) (f g : Forest) → NodesBegin new f g → (y : ℕ) → IsLive f y → IsLive g y → moment_at g y ≡ moment_at f y
stays_same new f g begin y before now =
    let (m, there) = node_at f y before in
    let (o, here) = node_at g y now in
    elim (begin.own y o here) [
      | inl same ↦ moment_at-is g y o here ∙ sym (moment_at-is f y o same)
      | inr is ↦ (let e : None ≡ Some m = sym is.0 ∙ there in cc)
    ]

-- each decision of the list after has one row
module _ (old new : Standing) (f g : Forest) (rows after : Rows) (are : AreRowsOf old f rows) (begin : RowsBegin new g rows after) where
  pub begun_rows : AreRowsOf new g after
  begun_rows = record { each = each; own = begin.own; apart = apart }
    where
      -- a row that stays is of its decision still
      stayed : (i : ℕ) (q o : Row) → rows i ≡ Some o → BeginsFrom rows i q → (q.trigger ≡ o.trigger) × (q.rule ≡ o.rule)
      stayed i q o at (was o2 at2 is) =
          let there : Some o2 ≡ Some o = sym at2 ∙ at in
          let one : o2 ≡ o = cc in
          (ap (λ (z : Row). z.trigger) is ∙ ap (λ (z : Row). z.trigger) one, ap (λ (z : Row). z.rule) is ∙ ap (λ (z : Row). z.rule) one)
      stayed i q o at (is_new free none blank waits) = let e : None ≡ Some o = sym free ∙ at in cc

      each : (y : ℕ) (rule : List ℕ) → IsLive g y → Contains (rules_at new (moment_at g y)) rule → HasRow after y rule
      each y rule now stands = by (live_or f y)
        where
          had : (v : Bool) → IsLive f y → list_any (same_name rule) (rules_at old (moment_at f y)) ≡ v → HasRow after y rule
          had true before e =
              let (i, o, at, tr, ru) = are.each y rule before ((in_test same_name bytes_decides (rules_at old (moment_at f y)) rule).0 e) in
              let live = subst (IsLive g) (sym tr) now in
              let (q, there) = some_row (after i) (begin.stay i o at live (subst (λ z. Contains (rules_at new (moment_at g z)) o.rule) (sym tr) (subst (Contains (rules_at new (moment_at g y))) (sym ru) stands))) in
              let same = stayed i q o at (begin.from i q there) in
              (i, q, there, same.0 ∙ tr, same.1 ∙ ru)
          had false before e = begin.all y rule now stands (λ i q at tr ru.
              (let was_there = subst (λ z. Contains (rules_at old (moment_at f z)) rule) tr (subst (Contains (rules_at old (moment_at f q.trigger))) ru (are.own i q at).1) in
              let h : true ≡ false = sym ((in_test same_name bytes_decides (rules_at old (moment_at f y)) rule).1 was_there) ∙ e in
              cc))

          by : IsLive f y ⊎ (IsLive f y → ⊥) → HasRow after y rule
          by (inl before) = had (list_any (same_name rule) (rules_at old (moment_at f y))) before refl
          by (inr dead) = begin.all y rule now stands (λ i q at tr ru. dead (subst (IsLive f) tr (are.own i q at).0))

      apart : AreApart after
      apart i j q o at_q at_o trigger rule = by (begin.from i q at_q) (begin.from j o at_o)
        where
          by : BeginsFrom rows i q → BeginsFrom rows j o → i ≡ j
          by (was q2 here is_q) (was o2 there is_o) =
              are.apart i j q2 o2 here there
              (sym (ap (λ (z : Row). z.trigger) is_q) ∙ trigger ∙ ap (λ (z : Row). z.trigger) is_o)
              (sym (ap (λ (z : Row). z.rule) is_q) ∙ rule ∙ ap (λ (z : Row). z.rule) is_o)
          by (was q2 here is_q) (is_new free none blank waits) =
              absurd (none i q2 here (sym (ap (λ (z : Row). z.trigger) is_q) ∙ trigger) (sym (ap (λ (z : Row). z.rule) is_q) ∙ rule))
          by (is_new free none blank waits) (was o2 there is_o) =
              absurd (none j o2 there (sym (ap (λ (z : Row). z.trigger) is_o) ∙ sym trigger) (sym (ap (λ (z : Row). z.rule) is_o) ∙ sym rule))
          by (is_new free none blank waits) (is_new free2 none2 blank2 waits2) = begin.apart i j q o at_q at_o free free2 trigger rule

module _ (old : Standing) (edit : Edit) (net_before net : Net) (f g : Forest) (rows after : Rows) (sound_old : IsSound old) (sound_new : IsSound (next_list old edit))
    (current : IsCurrent old net_before f rows) (prepared : IsPrepared old (next_list old edit) net f g rows after) where
  abbrev new : Standing
  new = next_list old edit

  -- ---- the nodes

  -- what the nodes are: the new roots, and the old derived occurrences that still occur
  abbrev pub seeds : List Moment
  seeds = roots (next_list old edit) ++ filter (is_derived_in (next_list old edit)) (built old).believed

  abbrev old_seeds : List Moment
  old_seeds = filter (is_derived_in new) (built old).believed

  seed_root : (p : PointName) → Contains seeds (At p) ↔ Contains (roots new) (At p)
  seed_root p = (
    (λ at. elim (Contains-append_cases (roots new) old_seeds (At p) at) [
      | inl root ↦ root
      | inr derived ↦ (let h = (In-filter (is_derived_in new) (built old).believed (At p) (In-from_Contains old_seeds (At p) derived)).1 in cc)
    ]),
    (λ root. Contains-append_left (roots new) old_seeds (At p) root),
  )

  seed_derived : (t : Moment) (r : List ℕ) → Contains seeds (After t r) ↔ (Contains (built old).believed (After t r) × Occurs new (After t r))
  seed_derived t r = (
    (λ at. elim (Contains-append_cases (roots new) old_seeds (After t r) at) [
      | inl root ↦ absurd (no_root new t r root)
      | inr derived ↦ (
          let h = In-filter (is_derived_in new) (built old).believed (After t r) (In-from_Contains old_seeds (After t r) derived) in
          (Contains-from_In (built old).believed (After t r) h.0, tells_occurs new (After t r) h.1))
    ]),
    (λ h.
        let there = filter-In (is_derived_in new) (built old).believed (After t r) (In-from_Contains (built old).believed (After t r) h.0) (occurs_told new (After t r) h.1) in
        Contains-from_In seeds (After t r) (In-right (roots new) old_seeds (After t r) there)),
  )

  pub are_seeds : AreSeeds old (next_list old edit) seeds
  are_seeds = record { root = seed_root; derived = seed_derived }

  own_seed : (x : ℕ) (m : Member) → member g x ≡ Some m → Contains seeds (moment m)
  own_seed x m at = elim (prepared.nodes_begin.own x m at) [
    | inl before ↦ by (moment m) (current.holds.own x m before) (prepared.seen.members x m at).occurs
    | inr root ↦ Contains-append_left (roots new) old_seeds (moment m) root.1
  ]
    where
      by : (k : Moment) → Contains (built old).believed k → Occurs new k → Contains seeds k
      by (At p) believed occurs = (seed_root p).1 occurs
      by (After t r) believed occurs = (seed_derived t r).1 (believed, occurs)

  node_of : (k : Moment) → Contains seeds k → (x : ℕ) × (m : Member) × (member g x ≡ Some m) × (moment m ≡ k)
  node_of (At p) at = prepared.nodes_begin.rooted p ((seed_root p).0 at)
  node_of (After t r) at =
      let h = (seed_derived t r).0 at in
      let (x, m, there, is) = current.holds.all (After t r) h.0 in
      (x, m, prepared.nodes_begin.stay x m there (subst (Occurs new) (sym is) h.1), is)

  pub holds : HasOccurrences seeds g
  holds = record { own = own_seed; all = node_of; once = prepared.seen.once }

  -- ---- what each row is

  abbrev outcome_before : Moment → List ℕ → Outcome
  outcome_before t r = outcome old (far_in old.premises) (built old).believed t r

  start_as : (i : ℕ) (q : Row) → after i ≡ Some q → StartsAs old g q
  start_as i q at = by (prepared.rows_begin.from i q at)
    where
      now : IsLive g q.trigger
      now = (prepared.rows_begin.own i q at).0

      -- a new decision was none before
      none_before : HasNoRow rows q.trigger q.rule → (v : Bool) → is_decision (built old) (moment_at g q.trigger, q.rule) ≡ v → is_decision (built old) (moment_at g q.trigger, q.rule) ≡ false
      none_before none false e = e
      none_before none true e =
          let h = was_decision (built old) (moment_at g q.trigger) q.rule e in
          let (x, m, there, is) = current.holds.all (moment_at g q.trigger) h.0 in
          let (o, here) = node_at g q.trigger now in
          let is_o = moment_at-is g q.trigger o here in
          let occurs = subst (Occurs new) (sym is_o ∙ sym is) (prepared.seen.members q.trigger o here).occurs in
          let one : x ≡ q.trigger = prepared.seen.once x q.trigger m o (prepared.nodes_begin.stay x m there occurs) here (is ∙ is_o) in
          let (j, row, at_j, tr, ru) = current.rows_are.each x q.rule (live_at f x m there) (subst (λ z. Contains (rules_at old z) q.rule) (sym (moment_at-is f x m there ∙ is)) h.1) in
          absurd (none j row at_j (tr ∙ one) ru)

      by : BeginsFrom rows i q → StartsAs old g q
      by (is_new free none blank waits) = comes (none_before none (is_decision (built old) (moment_at g q.trigger, q.rule)) refl) blank waits
      by (was o at_o is) = stood
          (decided old edit sound_old sound_new (built old) (moment_at g q.trigger) q.rule believed stands)
          (ap (λ (z : Row). z.found) is ∙ over (λ t r. o.found ≡ decision_of (outcome_before t r)) (current.told i o at_o))
        where
          live : IsLive f q.trigger
          live = subst (IsLive f) (sym (ap (λ (z : Row). z.trigger) is)) (current.rows_are.own i o at_o).0

          -- event and rule are those before
          event : moment_at g q.trigger ≡ moment_at f o.trigger
          event = stays_same new f g prepared.nodes_begin q.trigger live now ∙ ap (λ (z : Row). moment_at f z.trigger) is

          over : (P : Moment → List ℕ → Type 0) → P (moment_at f o.trigger) o.rule → P (moment_at g q.trigger) q.rule
          over P h = subst (λ z. P z q.rule) (sym event) (subst (P (moment_at f o.trigger)) (sym (ap (λ (z : Row). z.rule) is)) h)

          believed : Contains (built old).believed (moment_at g q.trigger)
          believed = let (m, there) = node_at f q.trigger live in
              subst (Contains (built old).believed) (sym (stays_same new f g prepared.nodes_begin q.trigger live now ∙ moment_at-is f q.trigger m there)) (current.holds.own q.trigger m there)

          stands : Contains (rules_at old (moment_at g q.trigger)) q.rule
          stands = over (λ t r. Contains (rules_at old t) r) (current.rows_are.own i o at_o).1

  pub prepared_netted : IsNetted old (next_list old edit) net g after []
  prepared_netted = started old edit net seeds g after sound_old sound_new (record {
    seen = prepared.seen;
    holds = holds;
    seeds = are_seeds;
    rows_are = begun_rows old new f g rows after current.rows_are prepared.rows_begin;
    start_as = start_as;
    marked = prepared.marked seeds holds are_seeds;
  })
