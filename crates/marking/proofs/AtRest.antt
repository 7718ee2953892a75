-- Rows that may rest though points moved, and rows at events for which points moved.
use Rattle.std.proofs.Common.{◌≡◌, ◌∙◌, ℕ, Bool, true, false, ◌<◌, List, [], ◌∷◌, length, Option, Some, refl, sym, ap, subst, inl, inr, arith}
use Rattle.std.proofs.lemmas.Bool.{cases_Bool}
use Rattle.std.proofs.lemmas.List.Quantifiers.{position-Some}
use Rattle.std.specs.Prelude.{pos}
use Rattle.std.specs.Cmp.Lexicographic.{bytes_decides}
use Rattle.tmm_model.specs.Beliefs.{class_of}
use Rattle.tmm_model.specs.Moments.{read_by, rule_of}
use Rattle.tmm_model.specs.Points.{same_name}
use Rattle.tmm_model.specs.Standing.{Standing}
use Rattle.list_theory.proofs.Elements.{In, In-map, map-In, list_any-In, In-list_any}
use Rattle.dist_net.specs.Net.{Nets}
use Rattle.spots.specs.declared.spot.Spot.{Spot}
use Rattle.spots.specs.declared.spot.Spot.TheVariants.{Declared, Node}
use Rattle.spots.specs.Forest.{Forest}
use Rattle.spots.specs.Spots.{base_of}
use Rattle.undo_rows.specs.declared.row.Row.{Row as TableRow}
use Rattle.undo_rows.specs.Tables.{AreListed}
use Rattle.decision_rows.specs.declared.row.Pair.{Pair}
use Rattle.occ_tree.specs.Classes.{place_in}
use Rattle.occ_tree.specs.Standing.{State, forest}
use Rattle.occ_tree.proofs.Numbered.{placed_name}
use Rattle.joined.specs.Gaps.{reads_class, start, read, rival, IsReadSpot, MovesAt}
use Rattle.joined.specs.Listed.{IsListedUnder}
use Rattle.joined.specs.Shifting.{IsSpotOf, MovesAmong}
use Rattle.joined.proofs.Listed.{class_listed}
use Rattle.bearing.specs.declared.what_moved.Moves.{Moves}
use Rattle.belief_table.specs.declared.state.Decisions.{Decisions}
use Rattle.belief_table.specs.Decided.{table_of, rule_in, AreUnder}
use Rattle.bearing.specs.Fast.{is_out, StandFast}
use Rattle.belief_table.specs.Marks.{Wakes}
use Rattle.bearing.specs.MovedPairs.{is_moved, AreMoved}
use Rattle.belief_table.specs.Numbers.{name_in, HaveOwnNumbers}
use Rattle.bearing.specs.PointSets.{has_pair}
use Rattle.bearing.specs.Reach.{AreBelow256}
use Rattle.marking.specs.Woken.{IsRowMoved}
use Rattle.belief_table.specs.Waiting.{Dates}
use Rattle.marking.specs.Woken.{RestsFor, MovesFrom, KeepsDate, RestsForFirst, MovesForSome, WakesForAll, IsPlainRule, MovesByRule, StaysByRule, IsSparedThere, IsRowAtRest}
use Rattle.bearing.proofs.Bases.{Small, node_small, class_small, small_or}
use Rattle.marking.proofs.ByRule.{reads_none}
use Rattle.belief_table.proofs.Named.{are_numbered}
use Rattle.marking.proofs.Waking.{wakes_both}

-- ---- where nothing moved

pub all_rest : (nets : Nets) (added : Option (List ℕ)) (before s : Standing) (f : Forest) (d : Decisions) (row : TableRow Pair 8)
    → ((a b : ℕ) → is_moved nets added a b ≡ true → ⊥) → IsRowAtRest nets added before s f d row
all_rest nets added before s f d row none = inl (λ m. none (base_of f m.from) (base_of f m.to) m.moved)

-- ---- where points moved

-- what moved among some spots of a rule moved for it
pub among_at : (moves : ℕ → ℕ → Bool) (s : Standing) (f : Forest) (r : List ℕ) (are : Spot → Type 0) (x : ℕ) → ((p : Spot) → are p → IsReadSpot s f r p)
    → MovesAmong moves f are x → MovesAt moves s f r x
among_at moves s f r are x read_of m = record {
  from = m.from;
  to = m.to;
  from_is = elim m.from_is [ inl is ↦ inl (read_of m.from is) | inr is ↦ inr is ];
  to_is = elim m.to_is [ inl is ↦ inl (read_of m.to is) | inr is ↦ inr is ];
  most = m.most;
  bounded = m.bounded;
  moved = m.moved;
}

module _ (nets : Nets) (added : Option (List ℕ)) (before s : Standing) (st : State) (d : Decisions) (moves : Moves) (under : AreUnder s d) (listed : AreListed (table_of d))
    (below : AreBelow256 (forest st)) (moved : AreMoved nets added moves.pairs.items) where
  abbrev f : Forest
  f = forest st

  -- ---- pairs, and what moved

  read_small : (r : List ℕ) (p : Spot) → IsReadSpot s f r p → Small f p
  read_small r p (start is) = subst (Small f) (sym is) (omega arith)
  read_small r p (read class reads spot) = class_small f below class p (inr spot)
  read_small r p (rival fact reads spot) = elim spot.is [
    | inl is ↦ subst (Small f) (sym is) (node_small f below spot.number)
    | inr (e, ends, is) ↦ subst (Small f) (sym is) (below.end spot.number spot.node e spot.here ends)
  ]

  pair_is : (p q : Spot) → Small f p → Small f q → has_pair moves.pairs.items (base_of f p) (base_of f q) ≡ is_moved nets added (base_of f p) (base_of f q)
  pair_is p q small_p small_q = moved.each (base_of f p) (base_of f q) small_p small_q

  to_moved : (are : Spot → Type 0) → ((p : Spot) → are p → Small f p) → (x : ℕ) → MovesAmong (has_pair moves.pairs.items) f are x → MovesAmong (is_moved nets added) f are x
  to_moved are small x m = record {
    from = m.from;
    to = m.to;
    from_is = m.from_is;
    to_is = m.to_is;
    most = m.most;
    bounded = m.bounded;
    moved = sym (pair_is m.from m.to (small_or f below are small x m.from m.from_is) (small_or f below are small x m.to m.to_is)) ∙ m.moved;
  }

  from_moved : (are : Spot → Type 0) → ((p : Spot) → are p → Small f p) → (x : ℕ) → MovesAmong (is_moved nets added) f are x → MovesAmong (has_pair moves.pairs.items) f are x
  from_moved are small x m = record {
    from = m.from;
    to = m.to;
    from_is = m.from_is;
    to_is = m.to_is;
    most = m.most;
    bounded = m.bounded;
    moved = pair_is m.from m.to (small_or f below are small x m.from m.from_is) (small_or f below are small x m.to m.to_is) ∙ m.moved;
  }

  -- ---- classes by their numbers

  -- the number of a class that a row reads
  class_number : (i : ℕ) (row : TableRow Pair 8) → (table_of d).row i ≡ Some row → (class : List ℕ) → reads_class s (rule_in d row) class ≡ true
      → (k : ℕ) × (place_in d.classes class ≡ Some k)
  class_number i row at class reads =
      let u = under.classes i row at in
      let (fact, on, same) = list_any-In (λ fact. same_name (class_of s fact) class) (read_by (rule_of s (rule_in d row))) reads in
      let among = subst (λ l. In (place_in d.classes (class_of s fact)) l) u.numbers (map-In (λ fact. place_in d.classes (class_of s fact)) (read_by (rule_of s (rule_in d row))) fact on) in
      let (k, there, is) = In-map Some u.classes (place_in d.classes (class_of s fact)) among in
      (k, sym (ap (place_in d.classes) ((bytes_decides (class_of s fact) class).0 same)) ∙ sym is)

  on_lists : (i k : ℕ) (row : TableRow Pair 8) (class : List ℕ) → (table_of d).row i ≡ Some row → place_in d.classes class ≡ Some k → reads_class s (rule_in d row) class ≡ true → IsListedUnder (table_of d) k i
  on_lists i k row class at is reads = (class_listed s d.rows (name_in d.rules) (place_in d.classes) class k i row is (are_numbered d.classes) listed at (under.classes i row at)).0 reads

  off_lists : (i k : ℕ) (row : TableRow Pair 8) (class : List ℕ) → (table_of d).row i ≡ Some row → place_in d.classes class ≡ Some k → IsListedUnder (table_of d) k i → reads_class s (rule_in d row) class ≡ true
  off_lists i k row class at is on = (class_listed s d.rows (name_in d.rules) (place_in d.classes) class k i row is (are_numbered d.classes) listed at (under.classes i row at)).1 on

  -- ---- rows at events for which points moved

  from_start : (row : TableRow Pair 8) → MovesFrom moves (forest st) row.value.trigger → IsRowMoved nets added s (forest st) d row
  from_start row m =
      among_at (is_moved nets added) s f (rule_in d row) (λ p. p ≡ Declared 0) row.value.trigger (λ p is. start is)
      (to_moved (λ p. p ≡ Declared 0) (λ p is. subst (Small f) (sym is) (omega arith)) row.value.trigger m)

  -- what a rule watches, and what contradicts what it reads
  by_rule : (row : TableRow Pair 8) → MovesByRule moves s (forest st) (rule_in d row) row.value.trigger → IsRowMoved nets added s (forest st) d row
  by_rule row m =
      let r = rule_in d row in
      among_at (is_moved nets added) s f r (IsReadSpot s f r) row.value.trigger (λ p is. is) (to_moved (IsReadSpot s f r) (read_small r) row.value.trigger m)

  still_by_rule : (row : TableRow Pair 8) → (MovesByRule moves s (forest st) (rule_in d row) row.value.trigger → ⊥) → IsRowMoved nets added s (forest st) d row → ⊥
  still_by_rule row still m =
      let r = rule_in d row in
      still (from_moved (IsReadSpot s f r) (read_small r) row.value.trigger
      (record { from = m.from; to = m.to; from_is = m.from_is; to_is = m.to_is; most = m.most; bounded = m.bounded; moved = m.moved }))

  module _ (own : HaveOwnNumbers d.classes) where
    for_some : (i : ℕ) (row : TableRow Pair 8) → (table_of d).row i ≡ Some row → MovesForSome st moves d i row → IsRowMoved nets added s (forest st) d row
    for_some i row at (k, less, on, m) =
        let class = name_in d.classes k in
        let reads = off_lists i k row class at (own k less) on in
        among_at (is_moved nets added) s f (rule_in d row) (IsSpotOf f class) row.value.trigger (λ p is. elim is [ inl first ↦ start first | inr spot ↦ read class reads spot ])
        (to_moved (IsSpotOf f class) (class_small f below class) row.value.trigger m)

    -- ---- rows that may rest

    module _ (fast : StandFast nets added moves.fast.items) (i : ℕ) (row : TableRow Pair 8) (at : (table_of d).row i ≡ Some row) (plain : IsPlainRule before s (rule_in d row))
        (dated : KeepsDate moves s (forest st) d row) (rests : RestsForFirst st nets moves d (length d.classes) i row) where
      abbrev x : ℕ
      x = row.value.trigger

      abbrev r : List ℕ
      r = rule_in d row

      by_class : (class : List ℕ) → reads_class s r class ≡ true → RestsFor nets moves f class x
      by_class class reads =
          let (k, is) = class_number i row at class reads in
          let name = placed_name d.classes class k is in
          subst (λ z. RestsFor nets moves f z x) name (rests k (small_number class k is) (on_lists i k row class at is reads))
        where
          small_number : (class : List ℕ) (k : ℕ) → place_in d.classes class ≡ Some k → k < length d.classes
          small_number class k is = (position-Some (same_name class) d.classes k [] is).0

      unmoved_date : (class : List ℕ) → RestsFor nets moves f class x → is_moved nets added (base_of f (Node x)) 0 ≡ false
      unmoved_date class rest = elim (cases_Bool (is_moved nets added (base_of f (Node x)) 0)) [
        | inr off ↦ off
        | inl is ↦ absurd (by rest is)
      ]
        where
          by : RestsFor nets moves f class x → is_moved nets added (base_of f (Node x)) 0 ≡ true → ⊥
          by (inl still) is = still (from_moved (IsSpotOf f class) (class_small f below class) x
              (record { from = Node x; to = Declared 0; from_is = inr refl; to_is = inl (inl refl); most = pos 0; bounded = refl; moved = is }))
          by (inr spares) is = elim (fast.loose.each (base_of f (Node x)) 0 is) [
            | inl out ↦ (let no : true ≡ false = sym out ∙ spares.event in cc)
            | inr out ↦ (let no : true ≡ false = sym out ∙ fast.loose.start in cc)
          ]

      same_date : is_moved nets added (base_of f (Node x)) 0 ≡ false
      same_date = by (read_by (rule_of s r)) refl
        where
          by : (facts : List (List ℕ)) → read_by (rule_of s r) ≡ facts → is_moved nets added (base_of f (Node x)) 0 ≡ false
          by [] none = sym (pair_is (Node x) (Declared 0) (node_small f below x) (omega arith)) ∙ dated none
          by (fact ∷ facts) some =
              let class = class_of s fact in
              let reads : reads_class s r class ≡ true =
              In-list_any (λ z. same_name (class_of s z) class) (read_by (rule_of s r)) fact (subst (In fact) (sym some) (inl refl)) ((bytes_decides class class).1 refl) in
              unmoved_date class (by_class class reads)

      spared : IsSparedThere nets added before s (forest st) (rule_in d row) row.value.trigger
      spared = (
        plain,
        is_out moves.fast.items,
        fast.loose,
        record {
          plain = reads_none s r (λ f at g. (plain f at g).1);
          date = same_date;
          each = λ class reads. elim (by_class class reads) [
            | inl still ↦ inl (λ m. still (from_moved (IsSpotOf f class) (class_small f below class) x m))
            | inr spares ↦ inr spares
          ];
        },
      )

    abbrev Moved : ℕ → TableRow Pair 8 → Type 0
    Moved i row = IsRowMoved nets added s f d row

    -- it may rest as far as it goes by classes
    abbrev Rests : ℕ → TableRow Pair 8 → Type 0
    Rests i row = KeepsDate moves s f d row × RestsForFirst st nets moves d (length d.classes) i row

    -- **All rows have been looked at**: those of rules that read nothing, those on the lists of
    -- classes, and those of rules that read what other facts contradict.
    pub all_woken : StandFast nets added moves.fast.items → (old mid next new : Dates)
        → Wakes st (table_of d) (λ i row. MovesFrom moves (forest st) row.value.trigger) (λ i row. KeepsDate moves s (forest st) d row) old mid
        → WakesForAll st nets moves d (length d.classes) mid next
        → Wakes st (table_of d) (λ i row. MovesByRule moves s (forest st) (rule_in d row) row.value.trigger) (λ i row. StaysByRule moves before s (forest st) (rule_in d row) row.value.trigger) next new
        → Wakes st (table_of d) (λ i row. IsRowMoved nets added s (forest st) d row) (λ i row. IsRowAtRest nets added before s (forest st) d row) old new
    all_woken fast old mid next new unread classes rules =
        wakes_both st (table_of d) Moved (λ i row. Rests i row)
        (λ i row. MovesByRule moves s f (rule_in d row) row.value.trigger) (λ i row. StaysByRule moves before s f (rule_in d row) row.value.trigger)
        Moved (λ i row. IsRowAtRest nets added before s f d row) old next new
        (λ i row at m. m) (λ i row at m. by_rule row m)
        (λ i row at (dated, rests) stays. elim stays [
          | inl plain ↦ inr (spared fast i row at plain dated rests)
          | inr still ↦ inl (still_by_rule row still)
        ])
        (wakes_both st (table_of d) (λ i row. MovesFrom moves f row.value.trigger) (λ i row. KeepsDate moves s f d row)
        (MovesForSome st moves d) (RestsForFirst st nets moves d (length d.classes))
        Moved (λ i row. Rests i row) old mid next
        (λ i row at m. from_start row m) (λ i row at m. for_some i row at m) (λ i row at dated rests. (dated, rests))
        unread classes)
        rules
