-- What is gone of an erased premise: its root, the effects of its rule, and its rows.
use Rattle.std.proofs.Common.{◌≡◌, ◌≢◌, ◌∙◌, ℕ, ◌+◌, Bool, true, false, cond, eqb, List, [], ◌∷◌, ◌++◌, map, length, Some, None, refl, sym, ap, subst, inl, inr, arith}
use Rattle.std.proofs.lemmas.Bool.Decides.{eqb_tells}
use Rattle.std.proofs.lemmas.List.{append-nil, length-append}
use Rattle.tmm_model.specs.declared.point.PointName.TheVariants.{Begin}
use Rattle.tmm_model.specs.Moments.{At, After, along, base, rules}
use Rattle.tmm_model.specs.Standing.{Standing, premise_in}
use Rattle.row_links.specs.Lists.{IsOn, first_or}
use Rattle.spots.specs.declared.link.Link.{Link}
use Rattle.spots.specs.Forest.{Forest, Member, member, IsLive, moment, moment_at, rules_of, IsOnce, IsNoRoot, IsBelow as IsMemberBelow}
use Rattle.spots.proofs.Nodes.{node_at, live_at, moment_at-is, rules-moment, base-moment}
use Rattle.undo_rows.specs.declared.row.Row.{Row as TableRow}
use Rattle.undo_rows.specs.Changes.{Logged}
use Rattle.undo_rows.specs.Edits.{Removes}
use Rattle.undo_rows.specs.Tables.{Table, AreListed}
use Rattle.decision_rows.specs.Decisions.{classes_in}
use Rattle.decision_rows.specs.declared.row.Pair.{Pair}
use Rattle.occ_tree.specs.Classes.{place_in}
use Rattle.occ_tree.specs.Dated.{HaveRoots}
use Rattle.occ_tree.specs.Places.{forest}
use Rattle.occ_tree.specs.Standing.{State, forest as forest_of}
use Rattle.joined.proofs.Listed.{pairs_listed}
use Rattle.belief_table.specs.declared.erasing.Departed.{Departed}
use Rattle.belief_table.specs.declared.state.Beliefs.{Beliefs}
use Rattle.belief_table.specs.declared.state.Decisions.{Decisions}
use Rattle.belief_table.specs.Decided.{table_of, rule_in, AreUnder}
use Rattle.belief_table.specs.Erasing.{fact_of, HasNoRowOf, Sheds, Spares, TakesNode}
use Rattle.bearing.specs.Gone.{gone_of}
use Rattle.belief_table.specs.Marks.{HaveEvents}
use Rattle.belief_table.specs.Numbers.{HaveOwnNumbers}
use Rattle.belief_table.proofs.Marked.{one_row}
use Rattle.belief_table.proofs.Thinned.{one_node, tells_none, notes_none}

none_some : {X : Type 0} (x : X) → None ≡ Some x → ⊥
none_some x e = cc

-- ---- roots

root_names : (m : Member) (name : List ℕ) → moment m ≡ At (Begin name) → (m.root ≡ name) × (rules_of m ≡ [])
root_names m name is = (let bases : Begin m.root ≡ Begin name = sym (base-moment m) ∙ ap base is in cc, sym (rules-moment m) ∙ ap rules is)

pub no_root_left : (f g : Forest) (name : List ℕ) (x : ℕ) (m : Member) → member f x ≡ Some m → moment m ≡ At (Begin name) → TakesNode f g x
    → ((y : ℕ) (n : Member) → member g y ≡ Some n → member f y ≡ Some n) → IsNoRoot g name
no_root_left f g name x m at is takes nodes = λ y n there root.
    let (root_m, none) = root_names m name is in
    let below : IsMemberBelow m n = (root_m ∙ sym root, rules_of n, ap (λ l. l ++ rules_of n) (sym none)) in
    none_some n (sym ((takes m at).gone y n (nodes y n there) below) ∙ there)

pub no_root_found : (t : State) (name : List ℕ) → HaveRoots t → ((x : ℕ) (m : Member) → member (forest_of t) x ≡ Some m → moment m ≢ At (Begin name)) → IsNoRoot (forest_of t) name
no_root_found t name roots none = λ y n there root.
    let (r, child, below) = roots.above y (live_at (forest_of t) y n there) in
    let (m, at, links) = roots.roots r child in
    let above = one_node (forest_of t) r below.above m below.above_at at in
    let here = one_node (forest_of t) y below.below n below.below_at there in
    let named : m.root ≡ name = ap (λ (z : Member). z.root) (sym above) ∙ below.is_below.0 ∙ ap (λ (z : Member). z.root) here ∙ root in
    none r m at (λ i. along (At (Begin (named i))) (map (λ (l : Link). l.rule) (links i)))

-- ---- effects

-- an event is not below an effect of it
event_not_below : (m n : Member) (rule : List ℕ) → moment m ≡ After (moment n) rule → IsMemberBelow m n → ⊥
event_not_below m n rule is (_, rest, more) =
    let longer : rules_of m ≡ rules_of n ++ rule ∷ [] = sym (rules-moment m) ∙ ap rules is ∙ ap (λ l. l ++ rule ∷ []) (rules-moment n) in
    let first : length (rules_of n) ≡ length (rules_of m) + length rest = ap length more ∙ length-append (rules_of m) rest in
    let second : length (rules_of m) ≡ length (rules_of n) + 1 = ap length longer ∙ length-append (rules_of n) (rule ∷ []) in
    omega (arith, first, second)

module _ (f g : Forest) (x : ℕ) (m : Member) (at : member f x ≡ Some m) (takes : TakesNode f g x) where
  pub event_stays : (t : ℕ) (rule : List ℕ) → IsLive f t → moment m ≡ After (moment_at f t) rule → IsLive g t
  event_stays t rule live is =
      let (n, there) = node_at f t live in
      let is_n = is ∙ ap (λ k. After k rule) (moment_at-is f t n there) in
      live_at g t n ((takes m at).others t n there (λ below. event_not_below m n rule is_n below))

  pub no_effect_left : IsOnce f → ((y : ℕ) (n : Member) → member g y ≡ Some n → member f y ≡ Some n) → (y : ℕ) (n : Member) → member g y ≡ Some n → moment n ≢ moment m
  no_effect_left once nodes y n there same =
      let one = once y x n m (nodes y n there) at same in
      let itself : IsMemberBelow m m = (refl, [], sym (append-nil (rules_of m))) in
      none_some n (sym ((takes m at).gone x m at itself) ∙ ap (member g) (sym one) ∙ there)

-- ---- a row that is taken out

module _ (b : Beliefs) (after : Logged Pair 8) (x : ℕ) (removes : Removes b.decisions.rows after x) (events : HaveEvents b.tree (table_of b.decisions)) where
  abbrev pub without_it : Beliefs
  without_it = record b { decisions = record b.decisions { rows = after } }

  row_is : (i : ℕ) → (table_of without_it.decisions).row i ≡ cond (eqb i x) None ((table_of b.decisions).row i)
  row_is i = ap (λ (t : Table Pair 8). t.row i) removes.present_is

  rows : (i : ℕ) (row : TableRow Pair 8) → (table_of without_it.decisions).row i ≡ Some row → (table_of b.decisions).row i ≡ Some row
  rows i row at = by (eqb i x) (sym (row_is i) ∙ at)
    where
      by : (v : Bool) → cond v None ((table_of b.decisions).row i) ≡ Some row → (table_of b.decisions).row i ≡ Some row
      by true e = absurd (none_some row e)
      by false e = e

  pub removed_sheds : (d : Departed) → Sheds b (record b { decisions = record b.decisions { rows = after } }) d d
  removed_sheds d = record {
    thins = record {
      nodes = λ y m at. at;
      above = λ z y m n rule at there is. there;
      dates = λ y live. refl;
      rows = rows;
      events = λ i row at. events i row (rows i row at);
      rests = λ i none. none;
      rules = refl;
      classes = refl;
    };
    tells = tells_none b.tree d.left.items;
    notes = notes_none (λ m. m.class) b.tree d.classes;
    facts = notes_none fact_of b.tree d.facts;
    tokens = notes_none gone_of b.tree d.tokens.items;
  }

  pub removed_spares : (s : Standing) (r : TableRow Pair 8) → (table_of b.decisions).row x ≡ Some r → premise_in s.premises (rule_in b.decisions r) ≡ None
      → ((y : ℕ) (m : Member) → member (forest b.tree) y ≡ Some m → moment m ≢ After (moment_at (forest b.tree) r.value.trigger) (rule_in b.decisions r))
      → Spares s b (record b { decisions = record b.decisions { rows = after } })
  removed_spares s r at out none = record {
    nodes = λ y m here stands. here;
    rows = λ i row here live. elim (eqb_tells i x) [
      | inl same ↦ (
          let one = one_row (table_of b.decisions) x r row at (ap (table_of b.decisions).row (sym same.1) ∙ here) in
          inr (record {
            rule = subst (λ z. premise_in s.premises (rule_in b.decisions z) ≡ None) one out;
            effect = λ y m there. subst (λ (z : TableRow Pair 8). moment m ≢ After (moment_at (forest b.tree) z.value.trigger) (rule_in b.decisions z)) one (none y m there);
          }))
      | inr apart ↦ inl (row_is i ∙ ap (λ v. cond v None ((table_of b.decisions).row i)) apart.0 ∙ here)
    ];
  }

-- ---- rows of a rule

module _ (s : Standing) (d : Decisions) (under : AreUnder s d) (own : HaveOwnNumbers d.rules) (rule : List ℕ) where
  -- a row of the rule is under its number
  pub number_is : (i : ℕ) (row : TableRow Pair 8) → (table_of d).row i ≡ Some row → rule_in d row ≡ rule → place_in d.rules rule ≡ Some row.value.rule
  number_is i row at is = ap (place_in d.rules) (sym is) ∙ own row.value.rule (under.named i row at)

  pub no_row_known : place_in d.rules rule ≡ None → HasNoRowOf d rule
  no_row_known none = λ i row at is. none_some row.value.rule (sym none ∙ number_is i row at is)

  pub no_row_left : (number : ℕ) → place_in d.rules rule ≡ Some number → AreListed (table_of d) → first_or None ((table_of d).list 1 number) ≡ None → HasNoRowOf d rule
  no_row_left number known listed none = λ i row at is.
      let both : Some row.value.rule ≡ Some number = sym (number_is i row at is) ∙ known in
      let same : row.value.rule ≡ number = cc in
      let u = under.classes i row at in
      nothing ((table_of d).list 1 number) none i ((pairs_listed d.rows i number row (classes_in u.classes) listed at u.heads).1.1 same)
    where
      nothing : (l : List ℕ) → first_or None l ≡ None → (i : ℕ) → IsOn l i → ⊥
      nothing [] none i on = (let never : false ≡ true = on in cc)
      nothing (x ∷ l) none i on = (let never : Some x ≡ None = none in cc)

-- a row on the list of a rule's number is of the rule
pub listed_rule : (s : Standing) (d : Decisions) → AreUnder s d → AreListed (table_of d) → (number i : ℕ) (row : TableRow Pair 8) → (table_of d).row i ≡ Some row
    → IsOn ((table_of d).list 1 number) i → row.value.rule ≡ number
listed_rule s d under listed number i row at on = let u = under.classes i row at in (pairs_listed d.rows i number row (classes_in u.classes) listed at u.heads).1.0 on

pub rule_listed : (s : Standing) (d : Decisions) → AreUnder s d → AreListed (table_of d) → (number i : ℕ) (row : TableRow Pair 8) → (table_of d).row i ≡ Some row
    → row.value.rule ≡ number → IsOn ((table_of d).list 1 number) i
rule_listed s d under listed number i row at same = let u = under.classes i row at in (pairs_listed d.rows i number row (classes_in u.classes) listed at u.heads).1.1 same
