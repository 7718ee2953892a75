-- The rows of the nodes in their order are those of the believed occurrences in order.
use Rattle.std.proofs.Common.{◌≡◌, ℕ, zero, suc, ◌+◌, ◌<◌, true, false, List, [], ◌∷◌, ◌++◌, map, length, take, get_or, add-one, arith, refl, sym, ◌∙◌, ap, subst, inl, inr}
use Rattle.std.specs.Prelude.{ℤ, Option, nat_eq, IfSome}
use Rattle.std.specs.Option.{option_map, option_map_or}
use Rattle.std.specs.List.{All, Contains, IsDistinct, zip}
use Rattle.std.specs.List.Sorted.{IsStrictlySortedBy}
use Rattle.std.specs.declared.cmp.Ordering.{Ordering}
use Rattle.std.specs.declared.cmp.Ordering.TheVariants.{Less, Greater}
use Rattle.std.specs.Ordering.{ordering_reverse}
use Rattle.std.proofs.lemmas.Bool.Decides.{Decides-eqb}
use Rattle.std.proofs.lemmas.List.{length-map}
use Rattle.std.proofs.lemmas.List.Elements.{All-contains, All-nil, All-cons, All-head, All-tail}
use Rattle.std.proofs.lemmas.Map.Keys.{IsDistinct-head, IsDistinct-tail}
use Rattle.tmm_model.specs.Answers.{row, rows, clip}
use Rattle.tmm_model.specs.Beliefs.{is_of}
use Rattle.tmm_model.specs.Firsts.{sorted}
use Rattle.tmm_model.specs.Maps.{built, order}
use Rattle.tmm_model.specs.Moments.{Moment}
use Rattle.tmm_model.specs.Standing.{Standing, far_in}
use Rattle.list_theory.proofs.Distinct.{Rising, one_order}
use Rattle.list_theory.proofs.Elements.{In, In-map, map-In, In-from_Contains, Contains-from_In, each_in}
use Rattle.belief_theory.proofs.Order.{IsSpelt, ordered, total}
use Rattle.belief_theory.proofs.Sorts.{sorted_in, sorted_rising}
use Rattle.belief_theory.proofs.Spelt.{spelt}
use Rattle.dist_net.specs.Net.{Net}
use Rattle.spots.specs.Forest.{Forest, Member, IsLive, IsOnce, moment, moment_at}
use Rattle.spots.specs.OfLists.{IsForestOf, HasOccurrences}
use Rattle.spots.specs.Spots.{node_cmp}
use Rattle.spots.proofs.Nodes.{node_at, live_at, moment_at-is}
use Rattle.spots.proofs.Seen.{early_is, believed_once}
use Rattle.occ_tree.specs.declared.ranks.Ranked.{Ranked}
use Rattle.occ_tree.specs.Ranks.{IsRanked, nodes_of}
use Rattle.occ_tree.proofs.Ordered.{moments_in_order}
use Rattle.belief_list.specs.declared.list.BeliefRow.{BeliefRow}
use Rattle.belief_list.specs.Rows.{belief_row, row_at, what_at, IsLiveRow, AreAllRanked, IsListing}

rising : {X : Type 0} (cmp : X → X → Ordering) (xs : List X) → IsStrictlySortedBy cmp xs → Rising cmp xs
unfolding IsStrictlySortedBy
rising cmp [] up = tt
rising cmp (x ∷ xs) up = (each_in (λ y. cmp x y ≡ Less) xs up.0, rising cmp xs up.1)

-- ---- rows of ranked nodes, each with a clip

abbrev rows_with : List Ranked → List (Option ℕ) → List BeliefRow
rows_with ranked clips = map belief_row (zip ranked clips)

row_nodes : (rs : List Ranked) (cs : List (Option ℕ)) → length cs ≡ length rs → map (λ r. r.node) (rows_with rs cs) ≡ nodes_of rs
row_nodes [] cs long = refl
row_nodes (r ∷ rs) [] long = absurd (cc long)
row_nodes (r ∷ rs) (c ∷ cs) long = ap (λ l. r.node ∷ l) (row_nodes rs cs cc)

-- a row for one more node
rows_more : (rs : List Ranked) (cs : List (Option ℕ)) (i : ℕ) (d : Ranked) (e : Option ℕ) → i < length rs → length cs ≡ length rs
    → rows_with (take (suc i) rs) (take (suc i) cs) ≡ rows_with (take i rs) (take i cs) ++ belief_row (get_or rs i d, get_or cs i e) ∷ []
rows_more [] cs i d e below long = absurd (omega arith)
rows_more (r ∷ rs) [] i d e below long = absurd (cc long)
rows_more (r ∷ rs) (c ∷ cs) zero d e below long = refl
rows_more (r ∷ rs) (c ∷ cs) (suc i) d e below long = ap (λ l. belief_row (r, c) ∷ l) (rows_more rs cs i d e (omega arith) cc)

pub rows_pushed : (rs : List Ranked) (cs : List (Option ℕ)) (i : ℕ) (d : Ranked) (e : Option ℕ) → i < length rs → length cs ≡ length rs
    → (list more : List BeliefRow) (date : ℤ) → date ≡ (get_or rs i d).early → more ≡ list ++ record { node = (get_or rs i d).node; early = date; clip = get_or cs i e } ∷ []
    → list ≡ rows_with (take i rs) (take i cs) → more ≡ rows_with (take (i + 1) rs) (take (i + 1) cs)
rows_pushed rs cs i d e below long list more date same grown before =
    grown
    ∙ (λ j. before j ++ record { node = (get_or rs i d).node; early = same j; clip = get_or cs i e } ∷ [])
    ∙ sym (ap (λ n. rows_with (take n rs) (take n cs)) (add-one i) ∙ rows_more rs cs i d e below long)

rows_live : (net : Net) (f : Forest) (rs : List Ranked) (cs : List (Option ℕ)) → All (IsRanked net f) rs → All (λ c. IfSome c (IsLive f)) cs → All (IsLiveRow f) (rows_with rs cs)
rows_live net f [] cs ranked live = All-nil (IsLiveRow f)
rows_live net f (r ∷ rs) [] ranked live = All-nil (IsLiveRow f)
rows_live net f (r ∷ rs) (c ∷ cs) ranked live =
    All-cons (IsLiveRow f) (belief_row (r, c)) (rows_with rs cs)
    (record { node = (All-head (IsRanked net f) r rs ranked).live; clip = All-head (λ c. IfSome c (IsLive f)) c cs live })
    (rows_live net f rs cs (All-tail (IsRanked net f) r rs ranked) (All-tail (λ c. IfSome c (IsLive f)) c cs live))

rows_once : (list : List BeliefRow) → IsDistinct nat_eq (map (λ r. r.node) list) → (r q : BeliefRow) → In r list → In q list → r.node ≡ q.node → r ≡ q
rows_once [] once r q at_r at_q one = absurd at_r
rows_once (x ∷ list) once r q at_r at_q one = by at_r at_q (rows_once list (IsDistinct-tail nat_eq x.node (map (λ r. r.node) list) once) r q)
  where
    no_other : (z : BeliefRow) → In z list → x.node ≡ z.node → ⊥
    no_other z at same =
        let f : nat_eq x.node z.node ≡ false =
        each_in (λ y. nat_eq x.node y ≡ false) (map (λ r. r.node) list) (IsDistinct-head nat_eq x.node (map (λ r. r.node) list) once) z.node (map-In (λ (r : BeliefRow). r.node) list z at) in
        let t : nat_eq x.node z.node ≡ true = (Decides-eqb x.node z.node).1 same in
        cc

    by : In r (x ∷ list) → In q (x ∷ list) → (In r list → In q list → r.node ≡ q.node → r ≡ q) → r ≡ q
    by (inl e) (inl g) rest = sym e ∙ g
    by (inl e) (inr at) rest = absurd (no_other q at (ap (λ (w : BeliefRow). w.node) e ∙ one))
    by (inr at) (inl g) rest = absurd (no_other r at (ap (λ (w : BeliefRow). w.node) g ∙ sym one))
    by (inr at) (inr too) rest = rest at too one

-- **The rows of all nodes list them.**
pub listing_is : (net : Net) (f : Forest) (rs : List Ranked) (cs : List (Option ℕ)) → All (IsRanked net f) rs → ((x : ℕ) → IsLive f x → Contains (nodes_of rs) x) → IsDistinct nat_eq (nodes_of rs)
    → length cs ≡ length rs → All (λ c. IfSome c (IsLive f)) cs → IsOnce f → IsListing f (rows_with rs cs)
listing_is net f rs cs ranked all once long live apart =
    let nodes = row_nodes rs cs long in record {
      live = rows_live net f rs cs ranked live;
      all = λ x at.
          let (r, there, is) = In-map (λ (r : BeliefRow). r.node) (rows_with rs cs) x (subst (In x) (sym nodes) (In-from_Contains (nodes_of rs) x (all x at))) in
          (r, Contains-from_In (rows_with rs cs) r there, is);
      once = λ r q at_r at_q one.
          rows_once (rows_with rs cs) (subst (IsDistinct nat_eq) (sym nodes) once) r q (In-from_Contains (rows_with rs cs) r at_r) (In-from_Contains (rows_with rs cs) q at_q) one;
      apart = apart;
    }

-- ---- rows of the list

module _ (s : Standing) (net : Net) (f : Forest) (seen : IsForestOf s net f) (holds : HasOccurrences (built s).believed f) where
  -- in order, nodes are the believed occurrences in order
  in_order : (nodes : List ℕ) → All (IsLive f) nodes → ((x : ℕ) → IsLive f x → Contains nodes x) → IsStrictlySortedBy (node_cmp net f) nodes
      → map (moment_at f) nodes ≡ sorted (order (built s)) (built s).believed
  in_order nodes live all up =
      one_order (order (built s)) one_way (map (moment_at f) nodes) (sorted (order (built s)) (built s).believed)
      (rising (order (built s)) (map (moment_at f) nodes) (moments_in_order s net f seen nodes live up))
      (sorted_rising (ordered s (far_in s.premises)) (built s).believed all_spelt (believed_once s seen.network.sound))
      into back
    where
      one_way : (x y : Moment) → order (built s) x y ≡ Less → order (built s) y x ≡ Less → ⊥
      one_way x y e g = let t : order (built s) y x ≡ Greater = (total s (far_in s.premises)).antisymm y x ∙ ap ordering_reverse e in cc

      all_spelt : (x : Moment) → In x (built s).believed → IsSpelt x
      all_spelt x at =
          let (y, m, here, is) = holds.all x (Contains-from_In (built s).believed x at) in
          subst IsSpelt is (spelt s seen.network.sound.well_formed (moment m) (seen.members y m here).occurs)

      into : (x : Moment) → In x (map (moment_at f) nodes) → In x (sorted (order (built s)) (built s).believed)
      into x at =
          let (y, there, is) = In-map (moment_at f) nodes x at in
          let (m, here) = node_at f y (All-contains (IsLive f) nodes y live (Contains-from_In nodes y there)) in
          (sorted_in (ordered s (far_in s.premises)) (built s).believed x).1
          (subst (λ k. In k (built s).believed) (sym (moment_at-is f y m here) ∙ is) (In-from_Contains (built s).believed (moment m) (holds.own y m here)))

      back : (x : Moment) → In x (sorted (order (built s)) (built s).believed) → In x (map (moment_at f) nodes)
      back x at =
          let (y, m, here, is) = holds.all x (Contains-from_In (built s).believed x ((sorted_in (ordered s (far_in s.premises)) (built s).believed x).0 at)) in
          subst (λ k. In k (map (moment_at f) nodes)) (moment_at-is f y m here ∙ is)
          (map-In (moment_at f) nodes y (In-from_Contains nodes y (all y (live_at f y m here))))

  -- the row of a ranked node with its clip
  pub row_is : (r : Ranked) (by : Option ℕ) → IsRanked net f r → option_map (moment_at f) by ≡ clip (built s) (moment_at f r.node) → row_at f (belief_row (r, by)) ≡ row (built s) (moment_at f r.node)
  row_is r by is clipped =
      let (m, here) = node_at f r.node is.live in
      let what : what_at f r.node ≡ option_map_or (λ y. y.1) (is_of s (moment_at f r.node)) [] =
      ap (λ (o : Option Member). option_map_or (λ n. n.what) o []) here
      ∙ sym (ap (λ k. option_map_or (λ y. y.1) (is_of s k) []) (moment_at-is f r.node m here) ∙ ap (λ o. option_map_or (λ y. y.1) o []) (seen.members r.node m here).is) in
      let early = is.early ∙ early_is s net f seen r.node is.live in
      λ i. record { date = early i; occ = moment_at f r.node; what = what i; clip = clipped i }

  rows_each : (rs : List Ranked) (cs : List (Option ℕ)) → All (IsRanked net f) rs → map (option_map (moment_at f)) cs ≡ map (λ x. clip (built s) (moment_at f x)) (nodes_of rs)
      → map (row_at f) (rows_with rs cs) ≡ map (row (built s)) (map (moment_at f) (nodes_of rs))
  rows_each [] cs ranked clipped = refl
  rows_each (r ∷ rs) [] ranked clipped = absurd (cc clipped)
  rows_each (r ∷ rs) (c ∷ cs) ranked clipped =
      let head : option_map (moment_at f) c ≡ clip (built s) (moment_at f r.node) = cc in
      let tail : map (option_map (moment_at f)) cs ≡ map (λ x. clip (built s) (moment_at f x)) (nodes_of rs) = cc in
      let first = row_is r c (All-head (IsRanked net f) r rs ranked) head in
      let more = rows_each rs cs (All-tail (IsRanked net f) r rs ranked) tail in
      λ i. first i ∷ more i

  -- as many clips as nodes
  pub as_many : (rs : List Ranked) (cs : List (Option ℕ)) → map (option_map (moment_at f)) cs ≡ map (λ x. clip (built s) (moment_at f x)) (nodes_of rs) → length cs ≡ length rs
  as_many rs cs clipped =
      sym (length-map cs (option_map (moment_at f)))
      ∙ ap length clipped
      ∙ length-map (nodes_of rs) (λ x. clip (built s) (moment_at f x))
      ∙ length-map rs (λ (r : Ranked). r.node)

  -- **The rows of all nodes in their order are the rows of the map.**
  pub rows_are : (rs : List Ranked) (cs : List (Option ℕ)) → All (IsRanked net f) rs → All (IsLive f) (nodes_of rs) → ((x : ℕ) → IsLive f x → Contains (nodes_of rs) x)
      → IsStrictlySortedBy (node_cmp net f) (nodes_of rs) → map (option_map (moment_at f)) cs ≡ map (λ x. clip (built s) (moment_at f x)) (nodes_of rs)
      → map (row_at f) (rows_with rs cs) ≡ rows (built s)
  rows_are rs cs ranked live all up clipped = rows_each rs cs ranked clipped ∙ ap (map (row (built s))) (in_order (nodes_of rs) live all up)

  -- ---- a list of all nodes with what clips them

  module _ (rs : List Ranked) (all : AreAllRanked net f rs) (cs : List (Option ℕ)) (clipped : map (option_map (moment_at f)) cs ≡ map (λ x. clip (built s) (moment_at f x)) (nodes_of rs))
      (list : List BeliefRow) (told : list ≡ rows_with rs cs) where
    -- **Its rows are those of the map.**
    pub rows_told : map (row_at f) list ≡ rows (built s)
    rows_told = ap (map (row_at f)) told ∙ rows_are rs cs all.dates all.live all.all all.in_order clipped

    -- **It lists the nodes.**
    pub nodes_listed : All (λ c. IfSome c (IsLive f)) cs → IsListing f list
    nodes_listed live = subst (IsListing f) (sym told) (listing_is net f rs cs all.dates all.all all.once (as_many rs cs clipped) live seen.once)
