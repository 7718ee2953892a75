-- The tokens of a class that stand behind a node.
use Rattle.std.proofs.Common.{◌≡◌, ℕ, ◌+◌, ◌<◌, true, false, List, [], ◌∷◌, ◌++◌, refl, sym, ◌∙◌, ap, subst, inl, inr, arith}
use Rattle.std.specs.Prelude.{◌≢◌, Bool, Option, Some, None, length, drop, slice_index_or}
use Rattle.std.specs.List.{All}
use Rattle.std.specs.List.Sorted.{IsStrictlySortedBy}
use Rattle.std.specs.Option.{option_map, option_and_then, ForSome}
use Rattle.std.specs.Ordering.{on}
use Rattle.std.specs.declared.cmp.Ordering.{Ordering}
use Rattle.std.specs.declared.cmp.Ordering.TheVariants.{Less}
use Rattle.std.specs.Cmp.Lexicographic.{nat_list_eq_equiv}
use Rattle.std.proofs.lemmas.List.{append-nil, length-map, get_or-map, map-append, drop_more}
use Rattle.std.proofs.lemmas.Map.Keys.{sorted_tail}
use Rattle.tmm_model.specs.declared.token.TokenRow.{TokenRow}
use Rattle.tmm_model.specs.Points.{same_name}
use Rattle.tmm_model.specs.Standing.{Standing}
use Rattle.list_theory.proofs.Elements.{In, In-from_Contains, In-left, In-right, In-cases}
use Rattle.walk_theory.proofs.Members.{All-from_contains}
use Rattle.walk_theory.proofs.Points.{same_name-is}
use Rattle.dist_net.specs.Net.{Net}
use Rattle.clipping.specs.declared.stretches.Stretched.{Stretched}
use Rattle.clipping.specs.Stretches.{rows_of, IsStretch, HaveStretches}
use Rattle.clipping.proofs.OneFact.{stretched_push}
use Rattle.name_lists.specs.Lists.{Appends}
use Rattle.occ_tree.specs.Ranks.{nodes_of}
use Rattle.occ_tree.specs.declared.ranks.Ranked.{Ranked}
use Rattle.spots.specs.declared.spot.Spot.{Spot}
use Rattle.spots.specs.declared.spot.Spot.TheVariants.{Declared, Node}
use Rattle.spots.specs.Forest.{Forest, Member, member, IsLive}
use Rattle.spots.specs.OfLists.{IsForestOf}
use Rattle.spots.specs.Spots.{IsSpot, token_row}
use Rattle.spots.proofs.Nodes.{live_at}
use Rattle.spots.proofs.Rows.{end_there}
use Rattle.supports.specs.Behind.{token_at, of_class, rows_behind, AreBehind}
use Rattle.supports.specs.Nodes.{IsOfNode}
use Rattle.supports.proofs.Falling.{Falls, Falls-push, first_less}
use Rattle.spots.proofs.TokenSpots.{token_row_spots}

-- ---- tokens of a class

pub node_of_token : (f : Forest) (x : ℕ) (row : TokenRow Spot) → token_at f x ≡ Some row → (m : Member) × (member f x ≡ Some m) × (token_row x m ≡ Some row)
node_of_token f x row e = by (member f x) e
  where
    by : (o : Option Member) → option_and_then (token_row x) o ≡ Some row → (m : Member) × (o ≡ Some m) × (token_row x m ≡ Some row)
    by None e = cc
    by (Some m) e = (m, refl, e)

-- the token of a node with a class
pub token_made : (f : Forest) (x : ℕ) (m : Member) (o : Option (List ℕ)) → member f x ≡ Some m → m.class ≡ o
    → token_at f x ≡ option_map (λ class. record { spot = Node x; end = option_map Declared m.end; fact = m.what; class = class }) o
token_made f x m o here is = ap (option_and_then (token_row x)) here ∙ ap (option_map (λ class. record { spot = Node x; end = option_map Declared m.end; fact = m.what; class = class })) is

-- a token begins at its node
pub spot_of : (f : Forest) (x : ℕ) (row : TokenRow Spot) → token_at f x ≡ Some row → row.spot ≡ Node x
spot_of f x row is = let (m, _, made) = node_of_token f x row is in (token_row_spots x m row made).0

-- its spots are there
pub spots_of : (s : Standing) (net : Net) (f : Forest) → IsForestOf s net f → (x : ℕ) (row : TokenRow Spot) → token_at f x ≡ Some row → IsSpot net.names f row.spot × ForSome row.end (IsSpot net.names f)
spots_of s net f seen x row is =
    let (m, here, made) = node_of_token f x row is in
    let (begins, ends) = token_row_spots x m row made in
    (subst (IsSpot net.names f) (sym begins) (live_at f x m here), subst (λ o. ForSome o (IsSpot net.names f)) (sym ends) (end_there s net f seen x m here))

module _ (f : Forest) (class : List ℕ) where
  In-of_class : (o : Option (TokenRow Spot)) (row : TokenRow Spot) → In row (of_class class o) → (o ≡ Some row) × (row.class ≡ class)
  In-of_class None row at = absurd at
  In-of_class (Some k) row at = by (same_name class k.class) refl at
    where
      by : (v : Bool) → same_name class k.class ≡ v → In row (elim v [ true ↦ k ∷ [] | false ↦ [] ]) → (Some k ≡ Some row) × (row.class ≡ class)
      by true e (inl is) = (ap Some is, ap (λ z. z.class) (sym is) ∙ sym (same_name-is class k.class e))
      by true e (inr at) = absurd at
      by false e at = absurd at

  of_class-In : (row : TokenRow Spot) → row.class ≡ class → In row (of_class class (Some row))
  of_class-In row own =
      let same : same_name class row.class ≡ true = subst (λ z. same_name class z ≡ true) (sym own) (nat_list_eq_equiv.refl class) in
      subst (λ v. In row (elim v [ true ↦ row ∷ [] | false ↦ [] ])) (sym same) (inl refl)

  -- each is the token of one of the nodes
  pub In-behind : (xs : List ℕ) (row : TokenRow Spot) → In row (rows_behind f class xs) → (x : ℕ) × In x xs × (token_at f x ≡ Some row) × (row.class ≡ class)
  In-behind [] row at = absurd at
  In-behind (x ∷ xs) row at = elim (In-cases (rows_behind f class xs) (of_class class (token_at f x)) row at) [
    | inl h ↦ (let (y, there, is, own) = In-behind xs row h in (y, inr there, is, own))
    | inr h ↦ (let (is, own) = In-of_class (token_at f x) row h in (x, inl refl, is, own))
  ]

  -- and the token of each node is among them, where it is of the class
  pub behind-In : (xs : List ℕ) (x : ℕ) (row : TokenRow Spot) → In x xs → token_at f x ≡ Some row → row.class ≡ class → In row (rows_behind f class xs)
  behind-In [] x row at is own = absurd at
  behind-In (y ∷ xs) x row (inl same) is own =
      In-right (rows_behind f class xs) (of_class class (token_at f y)) row
      (subst (λ o. In row (of_class class o)) (sym is ∙ ap (token_at f) (sym same)) (of_class-In row own))
  behind-In (y ∷ xs) x row (inr at) is own = In-left (rows_behind f class xs) (of_class class (token_at f y)) row (behind-In xs x row at is own)

  -- each begins at a node
  pub behind_of_nodes : (xs : List ℕ) → All IsOfNode (rows_behind f class xs)
  behind_of_nodes xs = All-from_contains IsOfNode (rows_behind f class xs) (λ row at. (let (x, _, is, _) = In-behind xs row (In-from_Contains (rows_behind f class xs) row at) in (x, spot_of f x row is)))

  pub behind_there : (s : Standing) (net : Net) → IsForestOf s net f → (xs : List ℕ) → All (λ row. IsSpot net.names f row.spot × ForSome row.end (IsSpot net.names f)) (rows_behind f class xs)
  behind_there s net seen xs =
      All-from_contains (λ row. IsSpot net.names f row.spot × ForSome row.end (IsSpot net.names f)) (rows_behind f class xs)
      (λ row at. (let (x, _, is, _) = In-behind xs row (In-from_Contains (rows_behind f class xs) row at) in spots_of s net f seen x row is))

  -- at most one token is of a node
  at_most_one : (o : Option (TokenRow Spot)) (a b : TokenRow Spot) (l : List (TokenRow Spot)) → of_class class o ≡ a ∷ b ∷ l → ⊥
  at_most_one None a b l e = cc
  at_most_one (Some k) a b l e = by (same_name class k.class) e
    where
      by : (v : Bool) → ◌≡◌ {A = List (TokenRow Spot)} (elim v [ true ↦ k ∷ [] | false ↦ [] ]) (a ∷ b ∷ l) → ⊥
      by true e = cc
      by false e = cc

  module _ (order : Spot → Spot → Ordering) where
    abbrev by_node : ℕ → ℕ → Ordering
    by_node x y = order (Node x) (Node y)

    abbrev by_spot : TokenRow Spot → TokenRow Spot → Ordering
    by_spot = on (λ k. k.spot) order

    less_than_behind : (x : ℕ) (xs : List ℕ) → IsStrictlySortedBy by_node (x ∷ xs) → (row : TokenRow Spot) → token_at f x ≡ Some row → (k : TokenRow Spot) → In k (rows_behind f class xs) → by_spot row k ≡ Less
    less_than_behind x xs up row is k at =
        let (y, there, made, _) = In-behind xs k at in
        (λ i. order (spot_of f x row is i) (spot_of f y k made i)) ∙ first_less by_node x xs up y there

    falls_on : (x : ℕ) (xs : List ℕ) → IsStrictlySortedBy by_node (x ∷ xs) → Falls by_spot (rows_behind f class xs)
        → (own : List (TokenRow Spot)) → of_class class (token_at f x) ≡ own → Falls by_spot (rows_behind f class xs ++ own)
    falls_on x xs up before [] e = subst (Falls by_spot) (sym (append-nil (rows_behind f class xs))) before
    falls_on x xs up before (row ∷ []) e =
        Falls-push by_spot (rows_behind f class xs) row before (less_than_behind x xs up row (In-of_class (token_at f x) row (subst (In row) (sym e) (inl refl))).0)
    falls_on x xs up before (row ∷ other ∷ more) e = absurd (at_most_one (token_at f x) row other more e)

    -- the tokens of rising nodes fall
    pub rows_fall : (xs : List ℕ) → IsStrictlySortedBy by_node xs → Falls by_spot (rows_behind f class xs)
    rows_fall [] up = λ i j d lt within. absurd (omega arith)
    rows_fall (x ∷ xs) up = falls_on x xs up (rows_fall xs (sorted_tail by_node x xs up)) (of_class class (token_at f x)) refl

-- ---- one node more

-- a token with its stretch comes behind others
one_more : (old new : List (Stretched Spot)) (row : TokenRow Spot) (first : ℕ) (others all : List (TokenRow Spot)) → new ≡ old ++ record { row = row; first = first } ∷ []
    → all ≡ others ++ row ∷ [] → rows_of old ≡ others → HaveStretches old → IsStretch (rows_of old) row.fact first (length old) → (rows_of new ≡ all) × HaveStretches new
one_more old new row first others all pushed is same have stretch = (
  ap rows_of pushed ∙ map-append (λ (t : Stretched Spot). t.row) old (record { row = row; first = first } ∷ []) ∙ ap (λ l. l ++ row ∷ []) same ∙ sym is,
  subst HaveStretches (sym pushed) (stretched_push old have (record { row = row; first = first }) stretch),
)

module _ (f : Forest) (nodes : List ℕ) (i : ℕ) (lt : i < length nodes) where
  -- the nodes from a place on
  from_here : drop i nodes ≡ slice_index_or nodes i 0 ∷ drop (i + 1) nodes
  from_here = drop_more nodes i 0 lt

  -- an event adds no token
  pub behind_event : token_at f (slice_index_or nodes i 0) ≡ None → (lists : List ℕ → List (Stretched Spot)) → AreBehind f (drop (i + 1) nodes) lists → AreBehind f (drop i nodes) lists
  behind_event none lists are class =
      let same : rows_behind f class (drop (i + 1) nodes) ≡ rows_behind f class (drop i nodes) =
      sym (append-nil (rows_behind f class (drop (i + 1) nodes)))
      ∙ ap (λ o. rows_behind f class (drop (i + 1) nodes) ++ of_class class o) (sym none)
      ∙ ap (rows_behind f class) (sym from_here) in
      ((are class).0 ∙ same, (are class).1)

  -- a token stands last in its class
  pub behind_token : (row : TokenRow Spot) → token_at f (slice_index_or nodes i 0) ≡ Some row → (first : ℕ) → (old new : List ℕ → List (Stretched Spot)) → AreBehind f (drop (i + 1) nodes) old
      → IsStretch (rows_of (old row.class)) row.fact first (length (old row.class)) → Appends old new row.class (record { row = row; first = first }) → AreBehind f (drop i nodes) new
  behind_token row is first old new are stretch appends class =
      let (rows, stretches) = by (same_name class row.class) refl in
      (rows ∙ ap (λ o. rows_behind f class (drop (i + 1) nodes) ++ of_class class o) (sym is) ∙ ap (rows_behind f class) (sym from_here), stretches)
    where
      token : Stretched Spot
      token = record { row = row; first = first }

      by : (v : Bool) → same_name class row.class ≡ v → (rows_of (new class) ≡ rows_behind f class (drop (i + 1) nodes) ++ elim v [ true ↦ row ∷ [] | false ↦ [] ]) × HaveStretches (new class)
      by true e =
          let same : class ≡ row.class = same_name-is class row.class e in
          let pushed : new class ≡ old class ++ token ∷ [] = ap new same ∙ appends.own ∙ ap (λ c. old c ++ token ∷ []) (sym same) in
          let own : IsStretch (rows_of (old class)) row.fact first (length (old class)) = subst (λ c. IsStretch (rows_of (old c)) row.fact first (length (old c))) (sym same) stretch in
          one_more (old class) (new class) row first (rows_behind f class (drop (i + 1) nodes)) (rows_behind f class (drop (i + 1) nodes) ++ row ∷ []) pushed refl (are class).0 (are class).1 own
      by false e =
          let other : class ≢ row.class = λ same. (let t : same_name class row.class ≡ true = subst (λ z. same_name class z ≡ true) same (nat_list_eq_equiv.refl class) in cc) in
          let stays : new class ≡ old class = appends.others class other in
          (ap rows_of stays ∙ (are class).0 ∙ sym (append-nil (rows_behind f class (drop (i + 1) nodes))), subst HaveStretches (sym stays) (are class).1)

-- ---- nodes by their places

pub within_nodes : (ranked : List Ranked) (i : ℕ) → i < length ranked → i < length (nodes_of ranked)
within_nodes ranked i lt = subst (λ n. i < n) (sym (length-map ranked (λ r. r.node))) lt

pub place_node : (ranked : List Ranked) (i : ℕ) (d : Ranked) → i < length ranked → slice_index_or (nodes_of ranked) i 0 ≡ (slice_index_or ranked i d).node
place_node ranked i d lt = get_or-map (λ (r : Ranked). r.node) ranked i d 0 lt

pub live_place : (f : Forest) (ranked : List Ranked) (i : ℕ) (d : Ranked) → i < length ranked → All (IsLive f) (nodes_of ranked) → IsLive f (slice_index_or ranked i d).node
live_place f ranked i d lt live = subst (IsLive f) (place_node ranked i d lt) (live i 0 (within_nodes ranked i lt))
