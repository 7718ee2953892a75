-- Nodes that have other dates.
use Rattle.std.proofs.Common.{◌≡◌, ◌≢◌, ℕ, ◌+◌, ◌*◌, ◌<◌, zero, suc, Bool, true, false, List, [], ◌∷◌, ◌++◌, length, take, Option, Some, None, IsSome, eqb, refl, sym, ap, ◌∙◌, subst, inl, inr, arith, option_map, ◌⊎◌, w64, of_z, to_z}
use Rattle.std.specs.List.{list_any}
use Rattle.std.specs.Int.RustNames.{FitsSigned}
use Rattle.std.specs.Prelude.{ℤ, pos, ◌+ℤ◌, ◌≤ℤ◌, MatchOption, IfSome}
use Rattle.std.specs.Option.{option_map_or}
use Rattle.std.proofs.lemmas.Bool.{cases_eq, cases_Bool, both_ways}
use Rattle.std.proofs.lemmas.Int.{ints}
use Rattle.std.proofs.lemmas.List.{take-append-le}
use Rattle.row_links.specs.Lists.{IsOn}
use Rattle.row_links.proofs.Lists.{IsOn-first, IsOn-append_left, IsOn-append_right, IsOn-append_cases}
use Rattle.tmm_model.specs.Bounds.{IsWithin}
use Rattle.tmm_model.specs.declared.token.TokenRow.{TokenRow}
use Rattle.undo_rows.specs.declared.row.Row.{Row}
use Rattle.undo_rows.specs.Tables.{Table, with_value}
use Rattle.undo_rows.proofs.Written.{with_row-same, with_row-other}
use Rattle.occ_tree.specs.Below.{IsOnWay}
use Rattle.occ_tree.specs.declared.node.Node.{Node}
use Rattle.occ_tree.specs.declared.node.Above.{Above}
use Rattle.spots.specs.declared.spot.Spot.{Spot}
use Rattle.occ_tree.specs.Edits.{dated, AreDated}
use Rattle.spots.specs.Forest.{Member}
use Rattle.occ_tree.specs.Nodes.{Nodes, Way, parent_of, root_of, way_to, member_of, forest_in, HasParent, IsPlaced, ArePlaced}
use Rattle.occ_tree.specs.Classes.{IsNumberOf}
use Rattle.occ_tree.specs.Standing.{nodes_in, head_for, IsStanding}
use Rattle.occ_tree.specs.Tokens.{is_of, AreTokensBut}
use Rattle.spots.proofs.Delays.{low_within, low_small}
use Rattle.occ_tree.proofs.Effects.{seen, member_at, way_root}
use Rattle.occ_tree.proofs.Grown.{row_at, node_at, some_node}
use Rattle.occ_tree.proofs.InOrder.{on_one}
use Rattle.occ_tree.proofs.Keeping.{root_there, node_of_member}
use Rattle.occ_tree.proofs.OnWays.{on_own, on_way_cases, parent_there, way_right_below}
use Rattle.occ_tree.proofs.Placing.{have_parents, placed_stays}
use Rattle.occ_tree.proofs.TokenLists.{some_is, tokens_same}
use Rattle.occ_tree.proofs.Ways.{fixed, Extends, HaveParents, way-same, length-way, length-links}

-- ---- the date of one node

-- it is within what its depth allows
pub date_fits : (node : Nodes) → ArePlaced node → (x : ℕ) (n : Node) → node x ≡ Some n → (date : ℤ) → IsWithin 1000000000000 date → IsWithin (1000000000000 + n.depth * 1000000000) (date +ℤ n.sums.low)
date_fits node placed x n at date (low, high) =
    let p = placed.each x n at in
    let links = (way_to node x).links in
    let (least, most) = low_within links p.light.each in
    let long : length links ≡ n.depth = length-links node x n at in
    let is = p.sums.low in
    (omega (arith, ints, low, least, is), subst (λ d. (date +ℤ n.sums.low) ≤ℤ pos (1000000000000 + d * 1000000000)) long (omega (arith, ints, high, most, is)))

-- the node of a row that is there
pub value_at : (t : Table Node 1) (x : ℕ) (n : Node) → IsSome (nodes_in t x) → IfSome (t.row x) (λ r. n ≡ r.value) → nodes_in t x ≡ Some n
value_at t x n live is = by (t.row x) refl live is
  where
    by : (o : Option (Row Node 1)) → t.row x ≡ o → IsSome (option_map (λ (r : Row Node 1). r.value) o) → IfSome o (λ r. n ≡ r.value) → nodes_in t x ≡ Some n
    by None at live is = absurd (cc)
    by (Some r) at live is = node_at t x r at ∙ ap (λ q. Some q) (sym is)

-- as the code adds it
module _ (node : Nodes) (placed : ArePlaced node) (x : ℕ) (n : Node) (at : node x ≡ Some n) (date : ℤ) (within : IsWithin 1000000000000 date) where
  low_seen : to_z w64 (of_z w64 n.sums.low) ≡ n.sums.low
  low_seen =
      let p = placed.each x n at in
      let (least, most) = low_small (way_to node x).links p.light in
      let is = p.sums.low in
      seen n.sums.low (omega (arith, ints, least, is), omega (arith, ints, most, is))

  date_seen : to_z w64 (of_z w64 date) ≡ date
  date_seen = let (low, high) = within in seen date (omega (arith, ints, low), omega (arith, ints, high))

  sum_within : IsWithin 1000000000000000 (date +ℤ n.sums.low)
  sum_within =
      let p = placed.each x n at in
      let (least, most) = low_small (way_to node x).links p.light in
      let (low, high) = within in
      let is = p.sums.low in
      (omega (arith, ints, least, is, low), omega (arith, ints, most, is, high))

  sum_seen : to_z w64 (of_z w64 date) +ℤ to_z w64 (of_z w64 n.sums.low) ≡ date +ℤ n.sums.low
  sum_seen = λ i. date_seen i +ℤ low_seen i

  pub sum_fits : FitsSigned w64 (to_z w64 (of_z w64 date) +ℤ to_z w64 (of_z w64 n.sums.low))
  sum_fits = let (low, high) = sum_within in let f : FitsSigned w64 (date +ℤ n.sums.low) = omega (arith, ints, low, high) in subst (FitsSigned w64) (sym sum_seen) f

  pub sum_is : to_z w64 (of_z w64 (to_z w64 (of_z w64 date) +ℤ to_z w64 (of_z w64 n.sums.low))) ≡ date +ℤ n.sums.low
  sum_is = ap (λ z. to_z w64 (of_z w64 z)) sum_seen ∙ seen (date +ℤ n.sums.low) sum_within

module _ (a b : Nodes) (parents : HaveParents a) (more : Extends a b) where
  -- what a node says of its occurrence does not tell its date
  pub member_same : (y : ℕ) (n : Node) → a y ≡ Some n → forest_in b y ≡ forest_in a y
  member_same y n at =
      let (m, here, same) = more y n at in
      member_at b y m here ∙ ap (λ (q : Node). Some (member_of (way_to b y) q)) same ∙ ap (λ w. Some (member_of w n)) (way-same a b more parents y n at) ∙ sym (member_at a y n at)

  pub members_same : ((y : ℕ) → a y ≡ None → b y ≡ None) → (y : ℕ) → forest_in b y ≡ forest_in a y
  members_same none y = by (a y) refl
    where
      by : (o : Option Node) → a y ≡ o → forest_in b y ≡ forest_in a y
      by (Some n) at = member_same y n at
      by None at = ap (option_map (member_of (way_to b y))) (none y at) ∙ ap (option_map (member_of (way_to a y))) (sym at)

module _ (t u : Table Node 1) (x : ℕ) (date : ℤ) (n : Node) (at : nodes_in t x ≡ Some n) (is : u ≡ with_value t x (dated date n)) where
  row_new : (r : Row Node 1) → t.row x ≡ Some r → u.row x ≡ Some (record r { value = dated date n })
  row_new r here =
      ap (λ (v : Table Node 1). v.row x) is ∙ with_row-same t.row x (option_map (λ (q : Row Node 1). record q { value = dated date n }) (t.row x))
      ∙ ap (option_map (λ (q : Row Node 1). record q { value = dated date n })) here

  row_other : (y : ℕ) → y ≢ x → u.row y ≡ t.row y
  row_other y other = ap (λ (v : Table Node 1). v.row y) is ∙ with_row-other t.row x (option_map (λ (q : Row Node 1). record q { value = dated date n }) (t.row x)) y other

  pub dated_at : nodes_in u x ≡ Some (dated date n)
  dated_at = let (r, here, value) = row_at t x n at in node_at u x (record r { value = dated date n }) (row_new r here)

  pub dated_other : (y : ℕ) → y ≢ x → nodes_in u y ≡ nodes_in t y
  dated_other y other = ap (option_map (λ (r : Row Node 1). r.value)) (row_other y other)

  pub extends_dated : Extends (nodes_in t) (nodes_in u)
  extends_dated y m y_at = elim (cases_eq y x) [
    | inl same ↦
        let both : Some n ≡ Some m = sym at ∙ ap (nodes_in t) (sym same) ∙ y_at in
        let one : n ≡ m = cc in
        (dated date n, ap (nodes_in u) same ∙ dated_at, ap fixed one)
    | inr other ↦ (m, dated_other y other ∙ y_at, refl)
  ]

  pub none_dated : (y : ℕ) → nodes_in t y ≡ None → nodes_in u y ≡ None
  none_dated y none = dated_other y (λ same. let both : None ≡ Some n = sym none ∙ ap (nodes_in t) same ∙ at in cc) ∙ none

  -- a node that was there, with its date
  was : (y : ℕ) (m : Node) → nodes_in u y ≡ Some m → (q : Node) × (nodes_in t y ≡ Some q) × (fixed m ≡ fixed q) × ((y ≡ x) ⊎ (m ≡ q))
  was y m y_at = elim (cases_eq y x) [
    | inl same ↦
        let both : Some (dated date n) ≡ Some m = sym dated_at ∙ ap (nodes_in u) (sym same) ∙ y_at in
        let one : dated date n ≡ m = cc in
        (n, ap (nodes_in t) same ∙ at, ap fixed (sym one), inl same)
    | inr other ↦ (m, sym (dated_other y other) ∙ y_at, refl, inr refl)
  ]

  pub standing_dated : (limit : ℕ) → IsWithin 1000000000000 date → IsStanding limit t → IsStanding limit u
  standing_dated limit within s = record {
    placed = record {
      each = λ y m y_at. elim (cases_eq y x) [
        | inl same ↦
            let both : Some (dated date n) ≡ Some m = sym dated_at ∙ ap (nodes_in u) (sym same) ∙ y_at in
            let one : dated date n ≡ m = cc in
            subst (λ z. IsPlaced (nodes_in u) z m) (sym same)
            (subst (IsPlaced (nodes_in u) x) one (placed_stays (nodes_in t) (nodes_in u) extends_dated (have_parents (nodes_in t) s.placed) x n (dated date n) at refl (date_fits (nodes_in t) s.placed x n at date within) (s.placed.each x n at)))
        | inr other ↦
            let here : nodes_in t y ≡ Some m = sym (dated_other y other) ∙ y_at in
            placed_stays (nodes_in t) (nodes_in u) extends_dated (have_parents (nodes_in t) s.placed) y m m here refl (s.placed.each y m here).date (s.placed.each y m here)
      ];
      apart = λ y z k m y_at z_at above name.
          let (p, p_at, p_same, _) = was y k y_at in
          let (q, q_at, q_same, _) = was z m z_at in
          s.placed.apart y z p q p_at q_at (ap parent_of (sym p_same) ∙ above ∙ ap parent_of q_same) (ap (λ (w : Node). w.name) (sym p_same) ∙ name ∙ ap (λ (w : Node). w.name) q_same);
    };
    heads = λ y r y_at. elim (cases_eq y x) [
      | inl same ↦
          let (q, here, value) = row_at t x n at in
          let both : Some (record q { value = dated date n }) ≡ Some r = sym (row_new q here) ∙ ap u.row (sym same) ∙ y_at in
          let one : record q { value = dated date n } ≡ r = cc in
          ap (λ (w : Row Node 1). w.heads) (sym one) ∙ s.heads x q here ∙ ap (λ (w : Node). Some (head_for (parent_of w)) ∷ []) value ∙ ap (λ (w : Row Node 1). Some (head_for (parent_of w.value)) ∷ []) one
      | inr other ↦ s.heads y r (sym (row_other y other) ∙ y_at)
    ];
    below = λ y r y_at. elim (cases_eq y x) [
      | inl same ↦ let (q, here, value) = row_at t x n at in subst (λ z. z < limit) (sym same) (s.below x q here)
      | inr other ↦ s.below y r (sym (row_other y other) ∙ y_at)
    ];
  }

-- ---- one date after another

pub dated_more : (t u v : Table Node 1) (numbers : List ℕ) (x : ℕ) (date : ℕ → ℤ) (n : Node) → nodes_in u x ≡ Some n → v ≡ with_value u x (dated (date x) n) → AreDated t u numbers date → AreDated t v (numbers ++ x ∷ []) date
dated_more t u v numbers x date n at is d = record {
  on = λ y on. elim (cases_eq y x) [
    | inl same ↦ subst (λ z. nodes_in v z ≡ option_map (dated (date z)) (nodes_in t z)) (sym same) (dated_at u v x (date x) n at is ∙ sym (own (cases_Bool (list_any (eqb x) numbers))))
    | inr other ↦ dated_other u v x (date x) n at is y other ∙ d.on y (elim (IsOn-append_cases numbers (x ∷ []) y on) [ inl there ↦ there | inr last ↦ absurd (other (on_one y x last)) ])
  ];
  others = λ y free.
      dated_other u v x (date x) n at is y (λ same. free (subst (IsOn (numbers ++ x ∷ [])) (sym same) (IsOn-append_right numbers (x ∷ []) x (IsOn-first x []))))
      ∙ d.others y (λ on. free (IsOn-append_left numbers (x ∷ []) y on));
  lists = λ h. ap (λ (w : Table Node 1). w.list 0 h) is ∙ d.lists h;
}
  where
    again : (o : Option Node) → Some n ≡ option_map (dated (date x)) o → option_map (dated (date x)) o ≡ Some (dated (date x) n)
    again None same = cc
    again (Some m) same = let one : n ≡ dated (date x) m = cc in ap (λ (q : Node). Some (dated (date x) q)) (sym one)

    own : (list_any (eqb x) numbers ≡ true) ⊎ (list_any (eqb x) numbers ≡ false) → option_map (dated (date x)) (nodes_in t x) ≡ Some (dated (date x) n)
    own (inl there) = again (nodes_in t x) (sym at ∙ d.on x there)
    own (inr free) = ap (option_map (dated (date x))) (sym (d.others x (both_ways (list_any (eqb x) numbers) free)) ∙ at)

-- ---- all of them

module _ (t u : Table Node 1) (date : ℕ → ℤ) (numbers : List ℕ) (d : AreDated t u numbers date) where
  pub extends_all : Extends (nodes_in t) (nodes_in u)
  extends_all y n at = elim (cases_Bool (list_any (eqb y) numbers)) [
    | inl on ↦ (dated (date y) n, d.on y on ∙ ap (option_map (dated (date y))) at, refl)
    | inr off ↦ (n, d.others y (both_ways (list_any (eqb y) numbers) off) ∙ at, refl)
  ]

  pub none_all : (y : ℕ) → nodes_in t y ≡ None → nodes_in u y ≡ None
  none_all y at = elim (cases_Bool (list_any (eqb y) numbers)) [
    | inl on ↦ d.on y on ∙ ap (option_map (dated (date y))) at
    | inr off ↦ d.others y (both_ways (list_any (eqb y) numbers) off) ∙ at
  ]

  pub live_all : (y : ℕ) → IsSome (nodes_in t y) → IsSome (nodes_in u y)
  live_all y live = let (n, at) = some_node (nodes_in t) y live in let (m, here, same) = extends_all y n at in some_is (nodes_in u y) m here

  -- they are of the same classes
  pub class_all : (k y : ℕ) → is_of (nodes_in u) k y ≡ is_of (nodes_in t) k y
  class_all k y = elim (cases_Bool (list_any (eqb y) numbers)) [
    | inl on ↦ ap of_list (d.on y on) ∙ by (nodes_in t y)
    | inr off ↦ ap of_list (d.others y (both_ways (list_any (eqb y) numbers) off))
  ]
    where
      of_list : Option Node → Bool
      of_list o = option_map_or (λ (n : Node). option_map_or (eqb k) n.list false) o false

      by : (o : Option Node) → of_list (option_map (dated (date y)) o) ≡ of_list o
      by None = refl
      by (Some n) = refl

  -- nodes that are out have other dates
  pub tokens_all : ArePlaced (nodes_in t) → (lists : ℕ → List (TokenRow Spot)) → AreTokensBut (nodes_in t) lists numbers → AreTokensBut (nodes_in u) lists numbers
  tokens_all placed lists tokens =
      tokens_same (nodes_in t) (nodes_in u) lists numbers d.others (λ y free. members_same (nodes_in t) (nodes_in u) (have_parents (nodes_in t) placed) extends_all none_all y) tokens

  -- the node as it was
  pub before_all : (y : ℕ) (k : Node) → nodes_in u y ≡ Some k → (n : Node) × (nodes_in t y ≡ Some n) × (fixed k ≡ fixed n)
  before_all y k at = by (nodes_in t y) refl
    where
      by : (o : Option Node) → nodes_in t y ≡ o → (n : Node) × (nodes_in t y ≡ Some n) × (fixed k ≡ fixed n)
      by None is = absurd (let both : None ≡ Some k = sym (none_all y is) ∙ at in cc)
      by (Some n) is =
          let (q, q_at, same) = extends_all y n is in
          let both : Some q ≡ Some k = sym q_at ∙ at in
          let one : q ≡ k = cc in
          (n, is, ap fixed (sym one) ∙ same)

  pub number_all : (names : List (List ℕ)) → ((y : ℕ) (n : Node) → nodes_in t y ≡ Some n → IsNumberOf names n.class n.list) → (y : ℕ) (k : Node) → nodes_in u y ≡ Some k → IsNumberOf names k.class k.list
  number_all names numbers_are y k at =
      let (n, n_at, same) = before_all y k at in
      subst (λ (w : Node). IsNumberOf names w.class w.list) (sym same) (numbers_are y n n_at)

-- ---- all below a root

module _ (node : Nodes) (placed : ArePlaced node) (x : ℕ) (m : Node) (m_at : node x ≡ Some m) (root : m.above ≡ None) where
  own_way : take 1 (way_to node x).numbers ≡ x ∷ []
  own_way = ap (λ (w : Way). take 1 w.numbers) (way_root node placed x m m_at root)

  -- the way to what is below a root begins with it
  root_first : (d y : ℕ) (n : Node) → node y ≡ Some n → n.depth ≡ d → IsOnWay node x y → take 1 (way_to node y).numbers ≡ x ∷ []
  root_first zero y n at deep on = by (on_way_cases node (have_parents node placed) x y n at on)
    where
      by : (x ≡ y) ⊎ ((p : ℕ) × (parent_of n ≡ Some p) × IsOnWay node x p) → take 1 (way_to node y).numbers ≡ x ∷ []
      by (inl same) = ap (λ z. take 1 (way_to node z).numbers) (sym same) ∙ own_way
      by (inr (p, below, up)) = let (q, q_at, more) = parent_there node (have_parents node placed) p y n at below in absurd (omega (arith, deep, more))
  root_first (suc d) y n at deep on = by (root_first d) (on_way_cases node (have_parents node placed) x y n at on)
    where
      by : ((z : ℕ) (q : Node) → node z ≡ Some q → q.depth ≡ d → IsOnWay node x z → take 1 (way_to node z).numbers ≡ x ∷ []) → (x ≡ y) ⊎ ((p : ℕ) × (parent_of n ≡ Some p) × IsOnWay node x p) → take 1 (way_to node y).numbers ≡ x ∷ []
      by again (inl same) = ap (λ z. take 1 (way_to node z).numbers) (sym same) ∙ own_way
      by again (inr (p, below, up)) =
          let (q, q_at, more) = parent_there node (have_parents node placed) p y n at below in
          let long = length-way node p q q_at in
          ap (take 1) (way_right_below node (have_parents node placed) p y (n, at, below)) ∙ take-append-le 1 (way_to node p).numbers (y ∷ []) (omega (arith, long)) ∙ again p q q_at (omega (arith, deep, more)) up

  pub root_is : (y : ℕ) (n : Node) → node y ≡ Some n → IsOnWay node x y → root_of y n ≡ x
  root_is y n at on =
      let (r, r_at) = root_there node placed y n at in
      on_one (root_of y n) x (subst (λ l. IsOn l (root_of y n)) ((placed.each y n at).root ∙ root_first n.depth y n at refl on) (on_own node (root_of y n) r r_at))

-- what no rule leads to has no parent
pub root_above : (node : Nodes) → ArePlaced node → (x : ℕ) (k : Member) → forest_in node x ≡ Some k → k.links ≡ [] → (n : Node) × (node x ≡ Some n) × (n.above ≡ None)
root_above node placed x k k_at none =
    let (n, at, is) = node_of_member node x k k_at in
    let long : length (way_to node x).links ≡ n.depth = length-links node x n at in
    let empty : (way_to node x).links ≡ [] = ap (λ (q : Member). q.links) (sym is) ∙ none in
    let no_links = ap length empty in
    (n, at, by n n.above refl (omega (arith, long, no_links)) (have_parents node placed x n at))
  where
    by : (n : Node) (o : Option Above) → n.above ≡ o → n.depth ≡ 0 → MatchOption o (n.depth ≡ 0) (HasParent node n) → n.above ≡ None
    by n None above level has = above
    by n (Some a) above level (p, p_at, more, begin) = absurd (omega (arith, level, more))
