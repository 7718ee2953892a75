-- The nodes of a fact's tokens among the rows of its class.
use Rattle.std.proofs.Common.{◌≡◌, ◌≢◌, ◌∙◌, ℕ, ◌+◌, ◌<◌, ◌≤◌, arith, Bool, true, false, eqb, eqb-true, List, [], ◌∷◌, ◌++◌, take, length, slice_index_or, refl, sym, ap, subst}
use Rattle.std.proofs.lemmas.List.{take_more, take_all, take-append-le, length-append, append-nil, length-map, get_or-map, get_or_read}
use Rattle.std.proofs.lemmas.List.Elements.{filter_map-append}
use Rattle.std.specs.Prelude.{Option, Some, None, is_some}
use Rattle.std.specs.Option.{option_map}
use Rattle.std.specs.List.{All, filter_map, cons_option}
use Rattle.std.specs.Cmp.Lexicographic.{bytes_decides}
use Rattle.std.specs.declared.cmp.Ordering.{Ordering}
use Rattle.std.specs.declared.cmp.Ordering.TheVariants.{Less}
use Rattle.std.proofs.lemmas.List.Elements.{All-contains}
use Rattle.tmm_model.specs.declared.token.TokenRow.{TokenRow}
use Rattle.tmm_model.specs.Answers.{most_blames}
use Rattle.tmm_model.specs.Firsts.{sorted}
use Rattle.tmm_model.specs.Points.{same_name}
use Rattle.list_theory.proofs.Elements.{In, Contains-from_In, In-from_Contains, In-filter_map, filter_map-In, map-In, In-list_any, list_any-In}
use Rattle.list_theory.proofs.Distinct.{Distinct}
use Rattle.row_links.specs.Lists.{IsOn}
use Rattle.row_links.proofs.Lists.{itself}
use Rattle.spots.specs.declared.spot.Spot.{Spot}
use Rattle.spots.specs.declared.spot.Spot.TheVariants.{Declared, Node}
use Rattle.spots.specs.Forest.{Forest, Member, member, IsLive}
use Rattle.spots.specs.Spots.{AreTokens, AreApart, node_cmp}
use Rattle.spots.proofs.Nodes.{live_at}
use Rattle.spots.proofs.Seen.{member_of_token}
use Rattle.occ_tree.specs.Known.{dated_cmp}
use Rattle.occ_tree.specs.OfLists.{IsTreeIn}
use Rattle.occ_tree.specs.Places.{forest}
use Rattle.occ_tree.specs.Standing.{Kept, present, order}
use Rattle.occ_tree.specs.Tokens.{number_of, numbers_in, IsInOrder}
use Rattle.occ_tree.proofs.InOrder.{ordered_same}
use Rattle.dist_net.specs.Net.{Net}
use Rattle.tt_query.proofs.FirstPlaces.{sorted_up}
use Rattle.tt_query.specs.declared.firsts.Placed.{Placed}
use Rattle.tt_query.specs.Firsts.{node_at, node_for, nodes_of, placed_nodes, IsOfFact, IsPlaced}

node_for-is : (fact : List ℕ) (row : TokenRow Spot) (x : ℕ) → node_for fact row ≡ Some x → (row.fact ≡ fact) × (row.spot ≡ Node x)
node_for-is fact row x e = by (same_name row.fact fact) refl e
  where
    at : (p : Spot) → node_at p ≡ Some x → p ≡ Node x
    at (Node y) e = let same : y ≡ x = cc in ap (λ z. Node z) same
    at (Declared p) e = cc

    by : (b : Bool) → same_name row.fact fact ≡ b → elim b as (λ _. Option ℕ) [ true ↦ node_at row.spot | false ↦ None ] ≡ Some x → (row.fact ≡ fact) × (row.spot ≡ Node x)
    by true is e = ((bytes_decides row.fact fact).0 is, at row.spot e)
    by false is e = cc

is-node_for : (fact : List ℕ) (row : TokenRow Spot) (x : ℕ) → row.fact ≡ fact → row.spot ≡ Node x → node_for fact row ≡ Some x
is-node_for fact row x is here = by (same_name row.fact fact) ((bytes_decides row.fact fact).1 is)
  where
    by : (b : Bool) → b ≡ true → elim b as (λ _. Option ℕ) [ true ↦ node_at row.spot | false ↦ None ] ≡ Some x
    by true e = ap node_at here
    by false e = cc

nodes_apart : (fact : List ℕ) (rows : List (TokenRow Spot)) → AreApart rows → Distinct (nodes_of fact rows)
nodes_apart fact [] apart = tt
nodes_apart fact (row ∷ rows) (others, apart) = by (node_for fact row) refl (nodes_apart fact rows apart)
  where
    by : (o : Option ℕ) → node_for fact row ≡ o → Distinct (filter_map (node_for fact) rows) → Distinct (cons_option o (filter_map (node_for fact) rows))
    by None e rest = rest
    by (Some y) e rest = (
      (λ at. (let (other, there, made) = In-filter_map (node_for fact) rows y at in
          All-contains (λ (z : TokenRow Spot). z.spot ≢ row.spot) rows other others (Contains-from_In rows other there) ((node_for-is fact other y made).1 ∙ sym (node_for-is fact row y e).1))),
      rest,
    )

on_nodes : (fact : List ℕ) (rows : List (TokenRow Spot)) (y : ℕ) → IsOn (nodes_of fact rows) y → In y (nodes_of fact rows)
on_nodes fact rows y on = let (x, at, same) = list_any-In (eqb y) (nodes_of fact rows) on in subst (λ z. In z (nodes_of fact rows)) (sym (eqb-true y x same)) at

-- the nodes of a fact stand in the order of the rows
nodes_up : (cmp : ℕ → ℕ → Ordering) (fact : List ℕ) (rows : List (TokenRow Spot)) → IsInOrder cmp (numbers_in rows) → IsInOrder cmp (nodes_of fact rows)
nodes_up cmp fact [] up = tt
nodes_up cmp fact (row ∷ rows) up = by (node_for fact row) refl (nodes_up cmp fact rows up.1)
  where
    number : (z : TokenRow Spot) (x : ℕ) → node_for fact z ≡ Some x → number_of z.spot ≡ x
    number z x e = ap number_of (node_for-is fact z x e).1

    by : (o : Option ℕ) → node_for fact row ≡ o → IsInOrder cmp (filter_map (node_for fact) rows) → IsInOrder cmp (cons_option o (filter_map (node_for fact) rows))
    by None e rest = rest
    by (Some x) e rest = (
      λ y on.
          let (other, there, made) = In-filter_map (node_for fact) rows y (on_nodes fact rows y on) in
          subst (λ z. cmp z y ≡ Less) (number row x e)
          (up.0 y (In-list_any (eqb y) (numbers_in rows) y (subst (λ z. In z (numbers_in rows)) (number other y made) (map-In (λ (z : TokenRow Spot). number_of z.spot) rows other there)) (itself y))),
      rest,
    )

-- ---- the nodes of a fact among the rows of its class

module _ (f : Forest) (class : List ℕ) (rows : List (TokenRow Spot)) (are : AreTokens f class rows) (fact : List ℕ) where
  pub nodes_once : Distinct (nodes_of fact rows)
  nodes_once = nodes_apart fact rows are.once

  -- the node of a row
  row_node : (row : TokenRow Spot) (x : ℕ) → In row rows → node_for fact row ≡ Some x → IsOfFact f fact x
  row_node row x at e =
      let (y, m, is, _) = member_of_token f class rows are row (Contains-from_In rows row at) in
      let (of_fact, here) = node_for-is fact row x e in
      let same : y ≡ x = (let nodes : Node y ≡ Node x = sym is.spot ∙ here in cc) in
      (m, subst (λ z. member f z ≡ Some m) same is.here, ap (λ (o : Option (List ℕ)). is_some o) is.class, sym is.fact ∙ of_fact)

  pub nodes_own : (x : ℕ) → In x (nodes_of fact rows) → IsOfFact f fact x
  nodes_own x at = let (row, there, e) = In-filter_map (node_for fact) rows x at in row_node row x there e

  pub nodes_all : (x : ℕ) (m : Member) → member f x ≡ Some m → m.class ≡ Some class → m.what ≡ fact → In x (nodes_of fact rows)
  nodes_all x m here e is =
      let row : TokenRow Spot = record { spot = Node x; end = option_map Declared m.end; fact = m.what; class = class } in
      filter_map-In (node_for fact) rows row x
      (In-from_Contains rows row (are.all x m row here (ap (λ (o : Option (List ℕ)). option_map (λ (c : List ℕ). record { spot = Node x; end = option_map Declared m.end; fact = m.what; class = c }) o) e) refl))
      (is-node_for fact row x is refl)

-- **The nodes of a fact stand in the order of nodes**, where the rows of its class stand in that of
-- the tree.
pub nodes_sorted : {net : Net} {k : Kept} (tree : IsTreeIn net k) (class : List ℕ) (rows : List (TokenRow Spot)) → AreTokens (forest k) class rows → IsInOrder (order (present k)) (numbers_in rows) → (fact : List ℕ)
    → sorted (node_cmp net (forest k)) (nodes_of fact rows) ≡ nodes_of fact rows
nodes_sorted {net} {k} tree class rows are up fact =
    let live : (x : ℕ) → IsOn (nodes_of fact rows) x → IsLive (forest k) x = (λ x on. let (m, here, _, _) = nodes_own (forest k) class rows are fact x (on_nodes fact rows x on) in live_at (forest k) x m here) in
    sorted_up (node_cmp net (forest k)) (nodes_of fact rows)
    (ordered_same (order (present k)) (node_cmp net (forest k)) (nodes_of fact rows) (λ y z on_y on_z. sym (dated_cmp net (present k) tree.dated y z (live y on_y) (live z on_z)))
    (nodes_up (order (present k)) fact rows up))

-- ---- on the way through the rows

-- the nodes of one row more
nodes_more : (fact : List ℕ) (rows : List (TokenRow Spot)) (i : ℕ) (row : TokenRow Spot) → i < length rows → slice_index_or rows i row ≡ row → nodes_of fact (take (i + 1) rows) ≡ nodes_of fact (take i rows) ++ cons_option (node_for fact row) []
nodes_more fact rows i row within is =
    ap (nodes_of fact) (take_more rows i row within ∙ (λ j. take i rows ++ is j ∷ []))
    ∙ filter_map-append (node_for fact) (take i rows) (row ∷ [])

-- one more, where not all that may be kept are
take_more_few : {X : Type 0} (n : ℕ) (xs : List X) (x : X) → length xs < n → take n (xs ++ x ∷ []) ≡ take n xs ++ x ∷ []
take_more_few n xs x few = take_all n (xs ++ x ∷ []) (omega (arith, few, length-append xs (x ∷ []))) ∙ ap (λ l. l ++ x ∷ []) (sym (take_all n xs (omega (arith, few))))

-- the first nodes of the rows before i are kept, and they are counted
pub record Keeps (fact : List ℕ) (rows : List (TokenRow Spot)) (i : ℕ) (kept : List ℕ) (count : ℕ) : Type 0 where
  pub nodes : kept ≡ take most_blames (nodes_of fact (take i rows))
  pub number : count ≡ length (nodes_of fact (take i rows))
  pub few : count ≤ i

module _ (fact : List ℕ) (rows : List (TokenRow Spot)) (i : ℕ) (row : TokenRow Spot) (within : i < length rows) (is : slice_index_or rows i row ≡ row) (kept : List ℕ) (count : ℕ) (keeps : Keeps fact rows i kept count) where
  met : (x : ℕ) → node_for fact row ≡ Some x → nodes_of fact (take (i + 1) rows) ≡ nodes_of fact (take i rows) ++ x ∷ []
  met x e = nodes_more fact rows i row within is ∙ ap (λ (o : Option ℕ). nodes_of fact (take i rows) ++ cons_option o []) e

  counted : (x : ℕ) → node_for fact row ≡ Some x → count + 1 ≡ length (nodes_of fact (take (i + 1) rows))
  counted x e = ap (λ n. n + 1) keeps.number ∙ sym (ap length (met x e) ∙ length-append (nodes_of fact (take i rows)) (x ∷ []))

  -- there is room for its node
  pub keeps_more : (x : ℕ) → node_for fact row ≡ Some x → count < most_blames → Keeps fact rows (i + 1) (kept ++ x ∷ []) (count + 1)
  keeps_more x e room = record {
    nodes = ap (λ l. l ++ x ∷ []) keeps.nodes ∙ sym (ap (take most_blames) (met x e) ∙ take_more_few most_blames (nodes_of fact (take i rows)) x (subst (λ n. n < most_blames) keeps.number room));
    number = counted x e;
    few = omega (arith, keeps.few);
  }

  -- there is none
  pub keeps_full : (x : ℕ) → node_for fact row ≡ Some x → most_blames ≤ count → Keeps fact rows (i + 1) kept (count + 1)
  keeps_full x e full = record {
    nodes = keeps.nodes ∙ sym (ap (take most_blames) (met x e) ∙ take-append-le most_blames (nodes_of fact (take i rows)) (x ∷ []) (subst (λ n. most_blames ≤ n) keeps.number full));
    number = counted x e;
    few = omega (arith, keeps.few);
  }

  -- it is of another fact
  pub keeps_same : node_for fact row ≡ None → Keeps fact rows (i + 1) kept count
  keeps_same e =
      let same : nodes_of fact (take (i + 1) rows) ≡ nodes_of fact (take i rows) = nodes_more fact rows i row within is ∙ ap (λ (o : Option ℕ). nodes_of fact (take i rows) ++ cons_option o []) e ∙ append-nil (nodes_of fact (take i rows)) in
      record {
        nodes = keeps.nodes ∙ ap (take most_blames) (sym same);
        number = keeps.number ∙ ap length (sym same);
        few = omega (arith, keeps.few);
      }

-- ---- tokens at their places

-- a token of the fact stands where its row does
pub placed_here : (fact : List ℕ) (rows : List (TokenRow Spot)) (i : ℕ) (row : TokenRow Spot) → i < length rows → row ≡ slice_index_or rows i row → (x : ℕ) → node_for fact row ≡ Some x → IsPlaced rows (record { node = x; place = i })
placed_here fact rows i row within read x e = record {
  within = within;
  at = λ d. ap (λ (r : TokenRow Spot). r.spot) (sym (get_or_read rows i row within read d)) ∙ (node_for-is fact row x e).1;
}

-- what holds of their nodes holds of the tokens
pub placed_all : (P : ℕ → Type 0) (tokens : List Placed) → All P (placed_nodes tokens) → All (λ t. P t.node) tokens
placed_all P tokens all i d lt = subst P (get_or-map (λ (t : Placed). t.node) tokens i d 0 lt) (all i 0 (omega (arith, lt, length-map tokens (λ (t : Placed). t.node))))
