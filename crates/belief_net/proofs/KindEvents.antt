-- The events of a rule's rows, and that rows of another rule tell the events of a kind.
use Rattle.std.proofs.Common.{◌≡◌, ◌≢◌, ◌∙◌, ℕ, true, false, List, [], ◌∷◌, map, Option, Some, None, refl, sym, ap, subst, inl, inr}
use Rattle.std.proofs.lemmas.Bool.{cases_Bool}
use Rattle.std.proofs.lemmas.Bool.Decides.{Decides-eqb}
use Rattle.std.proofs.lemmas.Map.Keys.{IsDistinct-cons}
use Rattle.std.specs.Prelude.{nat_eq}
use Rattle.std.specs.List.{AllByRecursion, Contains, IsDistinct}
use Rattle.std.specs.Option.{option_map_or}
use Rattle.tmm_model.specs.declared.premise.Edit.{Edit}
use Rattle.tmm_model.specs.declared.premise.Edit.TheVariants.{Add}
use Rattle.tmm_model.specs.declared.premise.Premise.{Premise}
use Rattle.tmm_model.specs.declared.premise.Premise.TheVariants.{Class, Kind, Point, Event, Token, Span, Dist, Rule, Protect, Against}
use Rattle.tmm_model.specs.declared.token.Shape.{Shape}
use Rattle.tmm_model.specs.declared.token.Shape.TheVariants.{Event as AnEvent, Persistence as APersistence, Span as ASpan}
use Rattle.tmm_model.specs.Beliefs.{rules_at, rules_on}
use Rattle.tmm_model.specs.Edits.{next_list}
use Rattle.tmm_model.specs.Standing.{Standing, name_of}
use Rattle.list_theory.specs.WellNamed.{IsSound}
use Rattle.list_theory.proofs.Elements.{In, In-map, map-In, Contains-from_In}
use Rattle.belief_theory.specs.Right.{Occurs}
use Rattle.belief_theory.proofs.Sound.{named_rule}
use Rattle.dist_net.specs.Net.{Net}
use Rattle.row_links.specs.Lists.{IsOn, AreOnce}
use Rattle.row_links.proofs.Lists.{IsOn-first, IsOn-rest}
use Rattle.spots.specs.Forest.{Forest, member, IsLive, moment_at}
use Rattle.spots.specs.OfLists.{IsForestOf, class_for}
use Rattle.spots.proofs.Nodes.{live_at, moment_at-is}
use Rattle.spots.proofs.Seen.{occurs_at}
use Rattle.supports.proofs.OnKinds.{rules_of_event}
use Rattle.undo_rows.specs.declared.row.Row.{Row as TableRow}
use Rattle.undo_rows.specs.Tables.{Table, AreListed}
use Rattle.decision_rows.specs.declared.row.Pair.{Pair}
use Rattle.occ_tree.specs.Classes.{place_in}
use Rattle.occ_tree.specs.Places.{forest}
use Rattle.occ_tree.specs.Standing.{Kept}
use Rattle.occ_tree.proofs.Numbered.{placed_name}
use Rattle.joined.specs.Netted.{IsCurrent}
use Rattle.joined.specs.Rows.{Row, HasRow}
use Rattle.belief_table.specs.declared.state.Beliefs.{Beliefs}
use Rattle.belief_table.specs.declared.state.Decisions.{Decisions}
use Rattle.belief_net.specs.Adding.{EntersRoot}
use Rattle.belief_net.specs.Clearing.{IsCleared}
use Rattle.belief_table.specs.Decided.{table_of, rule_in, AreUnder}
use Rattle.belief_table.specs.Erasing.{Thins}
use Rattle.belief_net.specs.KindEvents.{HasRowAt, HaveOneEach, HaveOthers, FindsOthers}
use Rattle.belief_table.specs.Numbers.{name_in, HaveOwnNumbers}
use Rattle.belief_turns.specs.Turning.{rows_of}
use Rattle.belief_net.proofs.Declared.{rule_cases}
use Rattle.belief_table.proofs.Marked.{listed_row}
use Rattle.belief_table.proofs.OfRules.{on_rule}
use Rattle.belief_table.proofs.Parted.{in_on, on_in}
use Rattle.belief_turns.proofs.Turned.{seen_row, row_there, row_of}

-- ---- lists of numbers

unlike : (a : ℕ) (g : ℕ → ℕ) (ys : List ℕ) → ((y : ℕ) → IsOn ys y → a ≢ g y) → AllByRecursion (λ z. nat_eq a z ≡ false) (map g ys)
unlike a g [] other = tt
unlike a g (y ∷ ys) other = (
  elim (cases_Bool (nat_eq a (g y))) [ inl same ↦ absurd (other y (IsOn-first y ys) ((Decides-eqb a (g y)).0 same)) | inr none ↦ none ],
  unlike a g ys (λ z on. other z (IsOn-rest z y ys on)),
)

pub none_once : IsDistinct nat_eq []
unfolding IsDistinct
none_once = tt

-- what is told of numbers that stand once, of each another, stands once
once_told : (g : ℕ → ℕ) (xs : List ℕ) → AreOnce xs → ((x y : ℕ) → IsOn xs x → IsOn xs y → g x ≡ g y → x ≡ y) → IsDistinct nat_eq (map g xs)
once_told g [] once own = none_once
once_told g (x ∷ xs) (new, once) own =
    IsDistinct-cons nat_eq (g x) (map g xs)
    (unlike (g x) g xs (λ y on same.
    (let one = own x y (IsOn-first x xs) (IsOn-rest y x xs on) same in
    let never : true ≡ false = sym (subst (IsOn xs) (sym one) on) ∙ new in
    cc)))
    (once_told g xs once (λ y z on_y on_z. own y z (IsOn-rest y x xs on_y) (IsOn-rest z x xs on_z)))

-- ---- the rows of a rule

-- the event of the row of a number
abbrev pub trigger_in : Table Pair 8 → ℕ → ℕ
trigger_in t i = option_map_or (λ (row : TableRow Pair 8). row.value.trigger) (t.row i) 0

pub trigger_is : (t : Table Pair 8) (i : ℕ) (row : TableRow Pair 8) → t.row i ≡ Some row → trigger_in t i ≡ row.value.trigger
trigger_is t i row at = ap (λ (o : Option (TableRow Pair 8)). option_map_or (λ (r : TableRow Pair 8). r.value.trigger) o 0) at

module _ (s : Standing) (d : Decisions) (rule : List ℕ) (under : AreUnder s d) (own : HaveOwnNumbers d.rules) where
  -- where a rule has a row its name has a number
  pub numbered_row : (x : ℕ) (h : HasRowAt d x rule) → place_in d.rules rule ≡ Some h.1.value.rule
  numbered_row x (i, row, at, of, named) = sym (ap (place_in d.rules) named) ∙ own row.value.rule (under.named i row at)

  pub rows_none : place_in d.rules rule ≡ None → (x : ℕ) → HasRowAt d x rule → ⊥
  rows_none none x h = (let never : None ≡ Some h.1.value.rule = sym none ∙ numbered_row x h in cc)

module _ (s : Standing) (d : Decisions) (rule : List ℕ) (k : ℕ) (under : AreUnder s d) (listed : AreListed (table_of d)) (own : HaveOwnNumbers d.rules) (placed : place_in d.rules rule ≡ Some k) where
  abbrev t : Table Pair 8
  t = table_of d

  -- a row on the rule's list is the rule's
  row_on : (i : ℕ) → IsOn (t.list 1 k) i → (row : TableRow Pair 8) × (t.row i ≡ Some row) × (rule_in d row ≡ rule)
  row_on i on =
      let (row, at) = listed_row t listed 1 k i on in
      (row, at, ap (name_in d.rules) ((on_rule s d under listed i k row at).0 on) ∙ placed_name d.rules rule k placed)

  pub rows_own : (x : ℕ) → IsOn (map (trigger_in t) (t.list 1 k)) x → HasRowAt d x rule
  rows_own x on =
      let (i, there, is) = In-map (trigger_in t) (t.list 1 k) x (in_on (map (trigger_in t) (t.list 1 k)) x on) in
      let (row, at, named) = row_on i (on_in (t.list 1 k) i there) in
      (i, row, at, sym (trigger_is t i row at) ∙ is, named)

  pub rows_all : (x : ℕ) → HasRowAt d x rule → IsOn (map (trigger_in t) (t.list 1 k)) x
  rows_all x (i, row, at, of, named) =
      let both : Some row.value.rule ≡ Some k = sym (numbered_row s d rule under own x (i, row, at, of, named)) ∙ placed in
      let one : row.value.rule ≡ k = cc in
      let on = (on_rule s d under listed i k row at).1 one in
      on_in (map (trigger_in t) (t.list 1 k)) x
      (subst (λ z. In z (map (trigger_in t) (t.list 1 k))) (trigger_is t i row at ∙ of) (map-In (trigger_in t) (t.list 1 k) i (in_on (t.list 1 k) i on)))

  pub rows_once : HaveOneEach d → IsDistinct nat_eq (map (trigger_in t) (t.list 1 k))
  rows_once each = once_told (trigger_in t) (t.list 1 k) (listed.once 1 k) (λ i j on_i on_j same.
      (let (row, at, named) = row_on i on_i in
      let (other, there, other_named) = row_on j on_j in
      each i j row other at there (sym (trigger_is t i row at) ∙ same ∙ trigger_is t j other there) (named ∙ sym other_named)))

-- a row of those that stand for a list is a row of the table
pub row_at : (b : Beliefs) (x : ℕ) (rule : List ℕ) → HasRow (rows_of b) x rule → HasRowAt b.decisions x rule
row_at b x rule (i, q, at, of, named) =
    let (row, there, is) = row_of b i q at in
    (i, row, there, ap (λ (r : Row). r.trigger) (sym is) ∙ of, ap (λ (r : Row). r.rule) (sym is) ∙ named)

-- ---- what is added

-- a rule adds no root, so the rows are as before
pub finds_still : (s : Standing) (net : Net) (p : Premise) (m r : Beliefs) → EntersRoot s net p m r → FindsOthers s p m → FindsOthers s p r
finds_still s net (Rule name trigger lo hi effect given unless_facts) m r stays finds =
    subst (λ (d : Decisions). HaveOthers s r.tree d name trigger) (sym stays.decisions) (subst (λ (k : Kept). HaveOthers s k m.decisions name trigger) (sym stays.tree) finds)
finds_still s net (Class name facts) m r stays finds = tt
finds_still s net (Kind name) m r stays finds = tt
finds_still s net (Point name) m r stays finds = tt
finds_still s net (Event name kind) m r stays finds = tt
finds_still s net (Token name fact) m r stays finds = tt
finds_still s net (Span name fact) m r stays finds = tt
finds_still s net (Dist name from to lo hi) m r stays finds = tt
finds_still s net (Protect name fact from to) m r stays finds = tt
finds_still s net (Against name one other) m r stays finds = tt

-- ---- what the list before has left

event_shape : (s : Standing) (shape : Shape) (what : List ℕ) → class_for s shape what ≡ None → shape ≡ AnEvent
event_shape s AnEvent what e = refl
event_shape s APersistence what e = absurd (cc)
event_shape s ASpan what e = absurd (cc)

one_added : (p q : Premise) → Add p ≡ Add q → p ≡ q
one_added p q e = cc

-- of b, which is kept of the list before, what is left in e is there in m
module _ (old : Standing) (edit : Edit) (before net : Net) (b e m : Beliefs) (p : Premise) (added : edit ≡ Add p) (sound_old : IsSound old) (sound_new : IsSound (next_list old edit))
    (current : IsCurrent old before (forest b.tree) (rows_of b)) (thins : Thins b e) (cleared : IsCleared old (next_list old edit) b e) (seen : IsForestOf (next_list old edit) net (forest e.tree))
    (nodes : forest m.tree ≡ forest e.tree) (rows : m.decisions.rows ≡ e.decisions.rows) (names : m.decisions.rules ≡ e.decisions.rules) where
  abbrev new : Standing
  new = next_list old edit

  -- a rule that stands at an event and is not added stood there before
  stood : (x : ℕ) (other : List ℕ) → IsLive (forest b.tree) x → IsLive (forest e.tree) x → moment_at (forest e.tree) x ≡ moment_at (forest b.tree) x
      → Contains (rules_at new (moment_at (forest e.tree) x)) other → other ≢ name_of p → Contains (rules_at old (moment_at (forest b.tree) x)) other
  stood x other live_b live same stands differs =
      subst (λ k. Contains (rules_at old k) other) same
      (elim (rule_cases old edit sound_old sound_new (moment_at (forest e.tree) x) other (subst (Occurs old) (sym same) (occurs_at old before (forest b.tree) current.seen x live_b))
      (occurs_at new net (forest e.tree) seen x live) stands) [
        | inl was ↦ was
        | inr more ↦ absurd (differs (sym (named_rule more.kind more.premise other more.on) ∙ ap name_of (one_added more.premise p (sym more.added ∙ added))))
      ])

  names_b : m.decisions.rules ≡ b.decisions.rules
  names_b = names ∙ thins.rules

  is_row : (i : ℕ) → (table_of m.decisions).row i ≡ (table_of e.decisions).row i
  is_row i = ap (λ rs. (table_of (record m.decisions { rows = rs })).row i) rows

  same_rule : (row : TableRow Pair 8) → rule_in m.decisions row ≡ rule_in b.decisions row
  same_rule row = ap (λ (l : List (List ℕ)). name_in l row.value.rule) names_b

  row_left : (x : ℕ) (other : List ℕ) → IsLive (forest b.tree) x → IsLive (forest e.tree) x → Contains (rules_at old (moment_at (forest b.tree) x)) other
      → Contains (rules_at new (moment_at (forest e.tree) x)) other → HasRowAt m.decisions x other
  row_left x other live_b live stood_there stands =
      let (i, row, there, trigger, rule) = row_at b x other (current.rows_are.each x other live_b stood_there) in
      let here = cleared.rows i row there (subst (IsLive (forest e.tree)) (sym trigger) live)
      (subst (Contains (rules_at new (moment_at (forest e.tree) row.value.trigger))) (sym rule) (subst (λ y. Contains (rules_at new (moment_at (forest e.tree) y)) other) (sym trigger) stands)) in
      (i, row, is_row i ∙ here, trigger, same_rule row ∙ rule)

  others_left : (name kind : List ℕ) → name_of p ≡ name → HaveOthers (next_list old edit) m.tree m.decisions name kind
  others_left name kind named = record {
    each = λ x other event there differs.
        let at : member (forest e.tree) x ≡ Some event.node = subst (λ (f : Forest). member f x ≡ Some event.node) nodes event.at in
        let was = thins.nodes x event.node at in
        let live = live_at (forest e.tree) x event.node at in
        let live_b = live_at (forest b.tree) x event.node was in
        let same = moment_at-is (forest e.tree) x event.node at ∙ sym (moment_at-is (forest b.tree) x event.node was) in
        let rules_are = rules_of_event new net (forest e.tree) seen x event.node at (event_shape new event.node.shape event.node.what (sym (seen.members x event.node at).class ∙ event.event)) in
        let stands = subst (λ l. Contains l other) (sym (rules_are ∙ ap (rules_on new) event.kind_is)) (Contains-from_In (rules_on new kind) other there) in
        row_left x other live_b live (stood x other live_b live same stands (λ is. differs (is ∙ named))) stands;
    once = λ i j row other at there trigger rule.
        let was = thins.rows i row (sym (is_row i) ∙ at) in
        let other_was = thins.rows j other (sym (is_row j) ∙ there) in
        current.rows_are.apart i j (seen_row b i row) (seen_row b j other) (row_there b i row was) (row_there b j other other_was) trigger (sym (same_rule row) ∙ rule ∙ same_rule other);
  }

  -- **Where a rule is added, each other rule on its kind has its row at each event of the kind.**
  pub finds_left : FindsOthers (next_list old edit) p m
  finds_left = by p refl
    where
      by : (q : Premise) → p ≡ q → FindsOthers (next_list old edit) q m
      by (Rule name trigger lo hi effect given unless_facts) is = others_left name trigger (ap name_of is)
      by (Class name facts) is = tt
      by (Kind name) is = tt
      by (Point name) is = tt
      by (Event name kind) is = tt
      by (Token name fact) is = tt
      by (Span name fact) is = tt
      by (Dist name from to lo hi) is = tt
      by (Protect name fact from to) is = tt
      by (Against name one other) is = tt
