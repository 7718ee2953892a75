-- So begun, nodes and rows are ready for the list after.
use Rattle.std.proofs.Common.{◌≡◌, ◌∙◌, ℕ, true, false, List, Option, Some, None, refl, sym, ap, subst, inl, inr}
use Rattle.std.specs.Cmp.Lexicographic.{bytes_decides}
use Rattle.tmm_model.specs.declared.point.PointName.TheVariants.{Begin}
use Rattle.tmm_model.specs.declared.premise.Edit.{Edit}
use Rattle.tmm_model.specs.declared.premise.Edit.TheVariants.{Add, Erase, Horizon, Upgrade}
use Rattle.tmm_model.specs.declared.premise.Premise.{Premise}
use Rattle.tmm_model.specs.declared.premise.Premise.TheVariants.{Class, Kind, Point, Event, Token, Span, Dist, Rule, Protect, Against}
use Rattle.tmm_model.specs.Beliefs.{on_kind, root_of}
use Rattle.tmm_model.specs.Edits.{next_list}
use Rattle.tmm_model.specs.Moments.{Moment, At}
use Rattle.tmm_model.specs.Points.{same_name}
use Rattle.tmm_model.specs.Standing.{Standing, name_of}
use Rattle.list_theory.specs.WellNamed.{IsSound}
use Rattle.belief_theory.specs.Right.{Occurs}
use Rattle.dist_net.specs.Net.{Net}
use Rattle.spots.specs.Forest.{member, IsLive, moment_at, SameMembers}
use Rattle.spots.proofs.Nodes.{node_at, moment_at-is}
use Rattle.spots.proofs.Seen.{occurs_at}
use Rattle.occ_tree.specs.Places.{forest}
use Rattle.occ_tree.specs.Standing.{Kept, present}
use Rattle.belief_table.specs.declared.erasing.Departed.{Departed}
use Rattle.belief_table.specs.declared.state.Beliefs.{Beliefs}
use Rattle.belief_table.specs.declared.state.Decisions.{Decisions}
use Rattle.marking.specs.LeftMarks.{MarksLeft}
use Rattle.belief_net.specs.Adding.{EntersAs, StayAll, AddsRule}
use Rattle.belief_net.specs.Beginning.{IsBegun, IsReady}
use Rattle.belief_table.specs.Decided.{KeepsLast}
use Rattle.belief_turns.specs.Turning.{rows_of, IsFit}
use Rattle.belief_net.proofs.Declared.{root_cases, rule_cases}
use Rattle.belief_net.proofs.Gained.{gains_none, root_gains, rule_gains}
use Rattle.belief_net.proofs.Gains.{Gains, gained_ready}

all_same : (m n : Beliefs) → StayAll m n → n ≡ m
all_same m n s = λ j. record { tree = s.tree j; decisions = s.decisions j }

module _ (old : Standing) (edit : Edit) (before net : Net) (b e c m r n : Beliefs) (all : Departed) (h : IsBegun old edit before net b e c m r n all) where
  abbrev new : Standing
  new = next_list old edit

  sound_old : IsSound old
  sound_old = h.fit_before.tree.seen.network.sound

  sound_new : IsSound (next_list old edit)
  sound_new = h.fit.tree.seen.network.sound

  same : SameMembers (forest e.tree) (forest m.tree)
  same x = ap (λ (t : Kept). member (forest t) x) h.same_tree ∙ h.same_nodes x

  marks : MarksLeft old (next_list old edit) before (present m.tree) all e.decisions m.decisions
  marks = subst (λ (d : Decisions). MarksLeft old (next_list old edit) before (present m.tree) all d m.decisions) h.same_rows
      (subst (λ (t : Kept). MarksLeft old (next_list old edit) before (present t) all c.decisions m.decisions) (sym h.same_tree) h.marks)

  stood : (x : ℕ) → IsLive (forest m.tree) x → Occurs old (moment_at (forest m.tree) x)
  stood x live =
      let (k, at) = node_at (forest m.tree) x live in
      subst (Occurs old) (sym (moment_at-is (forest m.tree) x k at)) (h.fit_before.tree.seen.members x k (h.sheds.thins.nodes x k (sym (same x) ∙ at))).occurs

  ready : (z : Beliefs) → IsFit (next_list old edit) net z → Gains old (next_list old edit) edit m z → IsReady old (next_list old edit) before net (forest b.tree) (forest z.tree) (rows_of b) (rows_of z)
  ready z fit gains = gained_ready old edit before net b e m z all sound_old sound_new h.fit_before h.current h.sheds h.cleared same marks h.fit fit gains

  -- where the edit adds neither a root nor a rule
  pub still : StayAll m r → StayAll r n → ((p : Premise) (k : Moment) → edit ≡ Add p → root_of p ≡ Some k → ⊥) → ((p : Premise) (kind rule : List ℕ) → edit ≡ Add p → on_kind kind p ≡ Some rule → ⊥)
      → IsReady old (next_list old edit) before net (forest b.tree) (forest n.tree) (rows_of b) (rows_of n)
  still first then_ no_root no_rule =
      subst (λ (z : Beliefs). IsReady old new before net (forest b.tree) (forest z.tree) (rows_of b) (rows_of z)) (sym (all_same r n then_ ∙ all_same m r first)) (ready m h.fit (gains_none old edit m
      (λ k at. elim (root_cases old edit k at) [ inl was ↦ was | inr added ↦ absurd (no_root added.0 k added.1 added.2) ])
      (λ x rule live stands. elim (rule_cases old edit sound_old sound_new (moment_at (forest m.tree) x) rule (stood x live) (occurs_at new net (forest m.tree) h.fit.tree.seen x live) stands) [
        | inl was ↦ was
        | inr added ↦ absurd (no_rule added.premise added.kind rule added.added added.on)
      ])))

module _ (old : Standing) (p : Premise) (before net : Net) (b e c m r n : Beliefs) (all : Departed) (h : IsBegun old (Add p) before net b e c m r n all) where
  pub with_root : (k : Moment) → root_of p ≡ Some k → EntersAs (next_list old (Add p)) net k m r → StayAll r n
      → IsReady old (next_list old (Add p)) before net (forest b.tree) (forest n.tree) (rows_of b) (rows_of n)
  with_root k root enters then_ =
      subst (λ (z : Beliefs). IsReady old (next_list old (Add p)) before net (forest b.tree) (forest z.tree) (rows_of b) (rows_of z)) (sym (all_same r n then_))
      (ready old (Add p) before net b e c m r n all h r h.fit_root
      (root_gains old p net m r (sound_old old (Add p) before net b e c m r n all h) (sound_new old (Add p) before net b e c m r n all h) (stood old (Add p) before net b e c m r n all h) h.fit h.fit_root h.names_root k root enters))

  pub with_rule : (name kind : List ℕ) → on_kind kind p ≡ Some name → name_of p ≡ name → ((other rule : List ℕ) → on_kind other p ≡ Some rule → (kind ≡ other) × (name ≡ rule))
      → StayAll m r → n.tree ≡ r.tree → AddsRule r.tree name kind r.decisions n.decisions
      → IsReady old (next_list old (Add p)) before net (forest b.tree) (forest n.tree) (rows_of b) (rows_of n)
  with_rule name kind is_rule named only_on first tree adds =
      let r_is = all_same m r first in
      let tree_is : n.tree ≡ m.tree = tree ∙ first.tree in
      let n_is : n ≡ record m { decisions = n.decisions } = λ j. record { tree = tree_is j; decisions = n.decisions } in
      let fit_n = subst (IsFit (next_list old (Add p)) net) n_is h.fit_after in
      let adds_m = subst (λ (z : Beliefs). AddsRule z.tree name kind z.decisions n.decisions) r_is adds in
      let last = subst (λ (d : Decisions). KeepsLast d n.decisions) first.decisions h.names_after in
      subst (λ (z : Beliefs). IsReady old (next_list old (Add p)) before net (forest b.tree) (forest z.tree) (rows_of b) (rows_of z)) (sym n_is)
      (ready old (Add p) before net b e c m r n all h (record m { decisions = n.decisions }) fit_n
      (rule_gains old p net m n.decisions (sound_old old (Add p) before net b e c m r n all h) (sound_new old (Add p) before net b e c m r n all h) (stood old (Add p) before net b e c m r n all h) h.fit last
      name kind is_rule named only_on adds_m))

on_own : (name trigger : List ℕ) (lo hi effect given unless_facts : _) → on_kind trigger (Rule name trigger lo hi effect given unless_facts) ≡ Some name
on_own name trigger lo hi effect given unless_facts = ap (λ v. elim v as (λ _. Option (List ℕ)) [ true ↦ Some name | false ↦ None ]) ((bytes_decides trigger trigger).1 refl)

-- a rule is on one kind
on_one : (name trigger : List ℕ) (lo hi effect given unless_facts : _) (other rule : List ℕ) → on_kind other (Rule name trigger lo hi effect given unless_facts) ≡ Some rule → (trigger ≡ other) × (name ≡ rule)
on_one name trigger lo hi effect given unless_facts other rule is = by (same_name trigger other) refl is
  where
    by : (v : _) → same_name trigger other ≡ v → elim v as (λ _. Option (List ℕ)) [ true ↦ Some name | false ↦ None ] ≡ Some rule → (trigger ≡ other) × (name ≡ rule)
    by true e some = ((bytes_decides trigger other).0 e, cc)
    by false e none = cc

one_added : (p q : Premise) → Add p ≡ Add q → p ≡ q
one_added p q e = cc

module _ (old : Standing) (p : Premise) (before net : Net) (b e c m r n : Beliefs) (all : Departed) (h : IsBegun old (Add p) before net b e c m r n all) where
  neither : StayAll m r → StayAll r n → root_of p ≡ None → ((kind : List ℕ) → on_kind kind p ≡ None) → IsReady old (next_list old (Add p)) before net (forest b.tree) (forest n.tree) (rows_of b) (rows_of n)
  neither first then_ no_root no_rule = still old (Add p) before net b e c m r n all h first then_
      (λ q k is root. (let both : None ≡ Some k = sym no_root ∙ ap root_of (one_added p q is) ∙ root in cc))
      (λ q kind rule is on. (let both : None ≡ Some rule = sym (no_rule kind) ∙ ap (on_kind kind) (one_added p q is) ∙ on in cc))

pub begun_ready : (old : Standing) (edit : Edit) (before net : Net) (b e c m r n : Beliefs) (all : Departed) → IsBegun old edit before net b e c m r n all
    → IsReady old (next_list old edit) before net (forest b.tree) (forest n.tree) (rows_of b) (rows_of n)
begun_ready old (Add (Event name kind)) before net b e c m r n all h = with_root old (Event name kind) before net b e c m r n all h (At (Begin name)) refl h.enters.0 h.enters.1
begun_ready old (Add (Token name fact)) before net b e c m r n all h = with_root old (Token name fact) before net b e c m r n all h (At (Begin name)) refl h.enters.0 h.enters.1
begun_ready old (Add (Span name fact)) before net b e c m r n all h = with_root old (Span name fact) before net b e c m r n all h (At (Begin name)) refl h.enters.0 h.enters.1
begun_ready old (Add (Rule name trigger lo hi effect given unless_facts)) before net b e c m r n all h =
    with_rule old (Rule name trigger lo hi effect given unless_facts) before net b e c m r n all h name trigger (on_own name trigger lo hi effect given unless_facts) refl (on_one name trigger lo hi effect given unless_facts) h.enters.0 h.enters.1.0 h.enters.1.1
begun_ready old (Add (Class name facts)) before net b e c m r n all h = neither old (Class name facts) before net b e c m r n all h h.enters.0 h.enters.1 refl (λ kind. refl)
begun_ready old (Add (Kind name)) before net b e c m r n all h = neither old (Kind name) before net b e c m r n all h h.enters.0 h.enters.1 refl (λ kind. refl)
begun_ready old (Add (Point name)) before net b e c m r n all h = neither old (Point name) before net b e c m r n all h h.enters.0 h.enters.1 refl (λ kind. refl)
begun_ready old (Add (Dist name from to lo hi)) before net b e c m r n all h = neither old (Dist name from to lo hi) before net b e c m r n all h h.enters.0 h.enters.1 refl (λ kind. refl)
begun_ready old (Add (Protect name fact from to)) before net b e c m r n all h = neither old (Protect name fact from to) before net b e c m r n all h h.enters.0 h.enters.1 refl (λ kind. refl)
begun_ready old (Add (Against name one other)) before net b e c m r n all h = neither old (Against name one other) before net b e c m r n all h h.enters.0 h.enters.1 refl (λ kind. refl)
begun_ready old (Erase name) before net b e c m r n all h = still old (Erase name) before net b e c m r n all h h.enters.0 h.enters.1 (λ p k is root. cc) (λ p kind rule is on. cc)
begun_ready old (Horizon k) before net b e c m r n all h = still old (Horizon k) before net b e c m r n all h h.enters.0 h.enters.1 (λ p o is root. cc) (λ p kind rule is on. cc)
begun_ready old Upgrade before net b e c m r n all h = still old Upgrade before net b e c m r n all h h.enters.0 h.enters.1 (λ p o is root. cc) (λ p kind rule is on. cc)
