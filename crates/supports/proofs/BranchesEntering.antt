-- Entries for the tokens of a class, one token after the other.
use Rattle.std.proofs.Common.{◌≡◌, ◌∙◌, ℕ, ◌+◌, ◌<◌, inl, inr, List, [], ◌∷◌, ◌++◌, map, length, sym, ap, subst, arith}
use Rattle.std.specs.Prelude.{◌⊎◌, Option, Some, None, slice_index_or}
use Rattle.std.specs.List.{All, Contains}
use Rattle.std.specs.Option.{option_map}
use Rattle.std.proofs.lemmas.Bool.{cases_lt}
use Rattle.std.proofs.lemmas.List.{get_or_read}
use Rattle.std.proofs.lemmas.List.Elements.{All-append, All-map, All-weaker, All-push, Contains-get_or, Contains-append_left, Contains-append_right, Contains-push}
use Rattle.tmm_model.specs.declared.token.TokenRow.{TokenRow}
use Rattle.tmm_model.specs.declared.point.PointName.TheVariants.{Begin}
use Rattle.tmm_model.specs.Moments.{At, along}
use Rattle.walk_theory.proofs.Members.{Contains-map}
use Rattle.spots.specs.declared.link.Link.{Link}
use Rattle.spots.specs.declared.spot.Spot.{Spot}
use Rattle.spots.specs.declared.spot.Spot.TheVariants.{Declared, Node}
use Rattle.spots.specs.declared.node_row.NodeRow.{NodeRow}
use Rattle.spots.specs.Forest.{Forest, Member, moment, IsLive, IsOnce}
use Rattle.spots.specs.Rows.{IsRowOf}
use Rattle.spots.specs.Spots.{AreTokens, token_row}
use Rattle.spots.proofs.Nodes.{live_at, node_at as member_at}
use Rattle.occ_tree.specs.Tokens.{number_of}
use Rattle.supports.specs.declared.entries.Entry.{Entry}
use Rattle.supports.specs.Under.{IsUnder, IsWay, IsRootOf}
use Rattle.supports.specs.Entries.{no_row, row_at, node_at}

-- ---- tokens and their nodes

token_spot : (x : ℕ) (m : Member) (row : TokenRow Spot) → token_row x m ≡ Some row → row.spot ≡ Node x
token_spot x m row e = by m.class e
  where
    by : (o : Option (List ℕ)) → option_map (λ class. record { spot = Node x; end = option_map Declared m.end; fact = m.what; class = class }) o ≡ Some row → row.spot ≡ Node x
    by None e = cc
    by (Some class) e = let begins : Some row.spot ≡ Some (Node x) = ap (option_map (λ k. k.spot)) (sym e) in cc

module _ (f : Forest) (class : List ℕ) (rows : List (TokenRow Spot)) (are : AreTokens f class rows) where
  -- a token begins at its node
  pub spot_is : (i : ℕ) → i < length rows → (row_at rows i).spot ≡ Node (node_at rows i)
  spot_is i lt =
      let (x, m, here, made, _) = are.own (row_at rows i) (Contains-get_or rows i no_row lt) in
      let begins = token_spot x m (row_at rows i) made in
      begins ∙ ap Node (sym (ap number_of begins))

  -- which is there
  pub node_live : (i : ℕ) → i < length rows → IsLive f (node_at rows i)
  node_live i lt =
      let (x, m, here, made, _) = are.own (row_at rows i) (Contains-get_or rows i no_row lt) in
      subst (IsLive f) (sym (ap number_of (token_spot x m (row_at rows i) made))) (live_at f x m here)

  -- and is of the class
  pub class_is : (i : ℕ) → i < length rows → (row_at rows i).class ≡ class
  class_is i lt = let (_, _, _, _, own) = are.own (row_at rows i) (Contains-get_or rows i no_row lt) in own

  -- the spot that is read of a token
  pub spot_read : (i : ℕ) → i < length rows → (row : TokenRow Spot) → row ≡ slice_index_or rows i row → row.spot ≡ Node (node_at rows i)
  spot_read i lt row is = ap (λ r. r.spot) (get_or_read rows i row lt is no_row) ∙ spot_is i lt

  -- and the node
  pub node_read : (i : ℕ) → i < length rows → (row : TokenRow Spot) → row ≡ slice_index_or rows i row → (x : ℕ) → row.spot ≡ Node x → x ≡ node_at rows i
  node_read i lt row is x spot =
      let both : Node x ≡ Node (node_at rows i) = sym spot ∙ spot_read i lt row is in
      cc

-- ---- the nodes under which a token is

-- an entry for each token before a place
pub record AreEntriesTo (f : Forest) (rows : List (TokenRow Spot)) (n : ℕ) (entries : List Entry) : Type 0 where
  pub own : All (λ e. (e.place < length rows) × IsUnder f e.node (node_at rows e.place)) entries
  pub all : (x i : ℕ) → i < n → IsUnder f x (node_at rows i) → Contains entries (record { node = x; place = i })

abbrev pub made_at : ℕ → ℕ → Entry
made_at i x = record { node = x; place = i }

module _ (f : Forest) (once : IsOnce f) where
  same_moment : (m n : Member) → m.root ≡ n.root → m.links ≡ n.links → moment m ≡ moment n
  same_moment m n root links = λ i. along (At (Begin (root i))) (map (λ (l : Link). l.rule) (links i))

  -- each node under which y is stands on the way to y
  pub way_has : (x y : ℕ) (way : List ℕ) → IsWay f y way → IsUnder f x y → Contains way x
  way_has x y way is u =
      let h = is.all u.below u.above.links u.rest u.below_at u.links in
      let one : h.node ≡ x = once h.node x h.m u.above h.at u.above_at (same_moment h.m u.above (h.root_is ∙ sym u.root) h.links_are) in
      subst (Contains way) one h.among

  -- those of one token more
  pub one_more : (rows : List (TokenRow Spot)) (n : ℕ) → n < length rows → (entries : List Entry) → AreEntriesTo f rows n entries → (way : List ℕ) → IsWay f (node_at rows n) way
      → AreEntriesTo f rows (n + 1) (entries ++ map (λ x. record { node = x; place = n }) way)
  one_more rows n lt entries are way is = record {
    own = All-append IsOwn entries more are.own (All-map IsOwn (made_at n) way (All-weaker (λ x. IsUnder f x (node_at rows n)) (λ x. IsOwn (made_at n x)) (λ x u. (lt, u)) way is.own));
    all = λ x i less u. elim (cases_lt i n) [
      | inl before ↦ Contains-append_left entries more (made_at i x) (are.all x i before u)
      | inr behind ↦
          let at : n ≡ i = omega (arith, less, behind) in
          subst (λ j. Contains (entries ++ more) (made_at j x)) at
          (Contains-append_right entries more (made_at n x) (Contains-map (made_at n) way x (way_has x (node_at rows n) way is (subst (λ j. IsUnder f x (node_at rows j)) (sym at) u))))
    ];
  }
    where
      IsOwn : Entry → Type 0
      IsOwn e = (e.place < length rows) × IsUnder f e.node (node_at rows e.place)

      more : List Entry
      more = map (made_at n) way

-- ---- the roots of tokens

-- the root of a node is told
pub root_told : (f : Forest) (x : ℕ) → IsLive f x → (row : NodeRow) → IsRowOf f x row → IsRootOf f row.root x
root_told f x live row is =
    let (m, at) = member_at f x live in
    let (n, n_at, root, none) = (is m at).root in
    record {
      under = record { above = n; below = m; above_at = n_at; below_at = at; root = root; rest = m.links; links = ap (λ l. l ++ m.links) (sym none) };
      none = none;
    }

-- these are nodes, and among them is the root of each token before a place
pub record HaveRootsTo (f : Forest) (rows : List (TokenRow Spot)) (n : ℕ) (roots : List ℕ) : Type 0 where
  pub live : All (IsLive f) roots
  pub all : (i : ℕ) → i < n → (x : ℕ) × Contains roots x × IsRootOf f x (node_at rows i)

module _ (f : Forest) (rows : List (TokenRow Spot)) (n : ℕ) (roots : List ℕ) (have : HaveRootsTo f rows n roots) (x : ℕ) (is : IsRootOf f x (node_at rows n)) where
  -- the root of one more is among them
  pub root_listed : Contains roots x → HaveRootsTo f rows (n + 1) roots
  root_listed among = record {
    live = have.live;
    all = λ i lt. elim (cases_lt i n) [
      | inl less ↦ have.all i less
      | inr more ↦ let at : n ≡ i = omega (arith, lt, more) in (x, among, subst (λ j. IsRootOf f x (node_at rows j)) at is)
    ];
  }

  -- or comes behind them
  pub root_pushed : HaveRootsTo f rows (n + 1) (roots ++ x ∷ [])
  root_pushed = record {
    live = All-push (IsLive f) roots x have.live (live_at f x is.under.above is.under.above_at);
    all = λ i lt. elim (cases_lt i n) [
      | inl less ↦ (let (y, among, own) = have.all i less in (y, Contains-append_left roots (x ∷ []) y among, own))
      | inr more ↦ let at : n ≡ i = omega (arith, lt, more) in (x, Contains-push roots x, subst (λ j. IsRootOf f x (node_at rows j)) at is)
    ];
  }

  -- one or the other
  pub root_more : (new : List ℕ) → (((new ≡ roots) × Contains roots x) ⊎ (new ≡ roots ++ x ∷ [])) → HaveRootsTo f rows (n + 1) new
  root_more new (inl (same, among)) = subst (HaveRootsTo f rows (n + 1)) (sym same) (root_listed among)
  root_more new (inr pushed) = subst (HaveRootsTo f rows (n + 1)) (sym pushed) root_pushed
