-- Tokens and dates with a node more.
use Rattle.std.specs.Prelude.{◌+ℤ◌}
use Rattle.std.proofs.Common.{◌≡◌, ◌≢◌, ℕ, List, [], ◌∷◌, Option, Some, None, sym, ap, ◌∙◌, subst, option_map}
use Rattle.row_links.specs.Lists.{IsOn}
use Rattle.row_links.proofs.Lists.{IsOn-first}
use Rattle.tmm_model.specs.declared.token.TokenRow.{TokenRow}
use Rattle.tmm_model.specs.declared.token.Shape.{Shape}
use Rattle.undo_lists.specs.Changes as lists
use Rattle.occ_tree.specs.declared.node.Node.{Node}
use Rattle.occ_tree.specs.declared.node.Above.{Above}
use Rattle.spots.specs.declared.link.Link.{Link}
use Rattle.spots.specs.declared.spot.Spot.{Spot}
use Rattle.occ_tree.specs.Classes.{HaveMore, IsNumberOf}
use Rattle.occ_tree.specs.Edits.{Adds, Keeps, Stays}
use Rattle.occ_tree.specs.Nodes.{Nodes, ArePlaced, WillBePlaced, IsEffect, date_in}
use Rattle.occ_tree.specs.Standing.{Grove, nodes_in, present_rows, committed_rows, tokens_under, AreKept, Kept, IsTree, committed}
use Rattle.occ_tree.specs.Tokens.{AreTokensBut}
use Rattle.occ_tree.proofs.Entering.{node_new, node_other, member_other}
use Rattle.occ_tree.proofs.Grown.{no_node_at}
use Rattle.occ_tree.proofs.Keeping.{IsInTime, kept_new, kept_more, kept_same, under_more}
use Rattle.occ_tree.proofs.TokenLists.{tokens_same, tokens_but}

module _ (old new : Grove) (x : ℕ) (n : Node) (rows : ℕ → List (TokenRow Spot)) (adds : Adds old new x n) (placed : ArePlaced (nodes_in (present_rows old))) where
  not_out : (y : ℕ) → (IsOn (x ∷ []) y → ⊥) → y ≢ x
  not_out y free same = free (subst (IsOn (x ∷ [])) (sym same) (IsOn-first x []))

  -- a new node stands on no list yet
  pub tokens_out : AreTokensBut (nodes_in (present_rows old)) rows [] → AreTokensBut (nodes_in (present_rows new)) rows (x ∷ [])
  tokens_out tokens =
      tokens_same (nodes_in (present_rows old)) (nodes_in (present_rows new)) rows (x ∷ [])
      (λ y free. node_other (present_rows old) (present_rows new) x n adds.free adds.present_is y (not_out y free))
      (λ y free. member_other (present_rows old) (present_rows new) x n adds.free adds.present_is placed y (not_out y free))
      (tokens_but (nodes_in (present_rows old)) rows [] x (no_node_at (present_rows old) x adds.free) tokens)

  pub kept_entered : (names : List (List ℕ)) (entered : ℕ → List (TokenRow Spot)) → WillBePlaced (nodes_in (present_rows old)) n → AreKept names (nodes_in (present_rows old)) rows → IsInTime (nodes_in (present_rows old)) n → IsNumberOf names n.class n.list → AreTokensBut (nodes_in (present_rows new)) entered []
      → AreKept names (nodes_in (present_rows new)) entered
  kept_entered names entered will kept timely number tokens =
      kept_new names (nodes_in (present_rows old)) (nodes_in (present_rows new)) rows entered x n (no_node_at (present_rows old) x adds.free)
      (node_new (present_rows old) (present_rows new) x n adds.free adds.present_is) (node_other (present_rows old) (present_rows new) x n adds.free adds.present_is) placed will kept timely number tokens

-- ---- when a node is in time

pub root_in_time : (node : Nodes) (n : Node) → n.above ≡ None → IsInTime node n
root_in_time node n root a above = let both : None ≡ Some a = sym root ∙ above in cc

pub effect_in_time : (node : Nodes) (parent : ℕ) (link : Link) (what : List ℕ) (class : Option (List ℕ)) (list : Option ℕ) (shape : Shape) (n : Node) → IsEffect node parent link what class list shape n → IsInTime node n
effect_in_time node parent link what class list shape n e a above =
    let both : Some a.parent ≡ Some parent = sym (ap (option_map (λ (b : Above). b.parent)) above) ∙ e.parent_is in
    let is : a.parent ≡ parent = cc in
    e.early_is ∙ (λ i. date_in node (sym is i) +ℤ ap (λ (l : Link). l.lo) (sym e.link_is) i)

-- ---- of a tree

module _ (old new : Kept) (tree : IsTree old.nodes old.classes old.tokens) (more : HaveMore old.classes new.classes) where
  tokens_stay : lists.present new.tokens ≡ lists.present old.tokens → tokens_under new.classes (lists.present new.tokens) ≡ tokens_under old.classes (lists.present old.tokens)
  tokens_stay same = ap (tokens_under new.classes) same ∙ under_more old.classes (nodes_in (present_rows old.nodes)) (lists.present old.tokens) tree.now new.classes more

  committed_stay : lists.committed new.tokens ≡ lists.committed old.tokens → tokens_under new.classes (lists.committed new.tokens) ≡ tokens_under old.classes (lists.committed old.tokens)
  committed_stay same = ap (tokens_under new.classes) same ∙ under_more old.classes (nodes_in (committed_rows old.nodes)) (lists.committed old.tokens) tree.then_ new.classes more

  kept_now : AreKept new.classes (nodes_in (present_rows old.nodes)) (lists.present old.tokens)
  kept_now = kept_more old.classes (nodes_in (present_rows old.nodes)) (lists.present old.tokens) tree.now new.classes more

  kept_then : committed_rows new.nodes ≡ committed_rows old.nodes → lists.committed new.tokens ≡ lists.committed old.tokens → AreKept new.classes (nodes_in (committed_rows new.nodes)) (lists.committed new.tokens)
  kept_then rows same =
      kept_same new.classes (committed_rows old.nodes) (committed_rows new.nodes) (lists.committed old.tokens) (lists.committed new.tokens) rows same
      (kept_more old.classes (nodes_in (committed_rows old.nodes)) (lists.committed old.tokens) tree.then_ new.classes more)

  pub committed_same : committed_rows new.nodes ≡ committed_rows old.nodes → lists.committed new.tokens ≡ lists.committed old.tokens → committed new ≡ committed old
  committed_same rows same = λ i. record { rows = rows i; tokens = committed_stay same i }

  -- nothing but the classes may have changed
  module _ (keeps : Keeps old.nodes new.nodes) (same : lists.present new.tokens ≡ lists.present old.tokens) (same_then : lists.committed new.tokens ≡ lists.committed old.tokens) where
    pub tree_stays : IsTree new.nodes new.classes new.tokens
    tree_stays = record {
      now = kept_same new.classes (present_rows old.nodes) (present_rows new.nodes) (lists.present old.tokens) (lists.present new.tokens) keeps.present_is same kept_now;
      then_ = kept_then keeps.committed_is same_then;
    }

    pub stays : Stays old new
    stays = record { present_is = λ i. record { rows = keeps.present_is i; tokens = tokens_stay same i }; committed_is = committed_same keeps.committed_is same_then }

  -- a node more
  pub tree_entered : (x : ℕ) (n : Node) → Adds old.nodes new.nodes x n → ArePlaced (nodes_in (present_rows old.nodes)) → WillBePlaced (nodes_in (present_rows old.nodes)) n → IsInTime (nodes_in (present_rows old.nodes)) n → IsNumberOf new.classes n.class n.list
      → AreTokensBut (nodes_in (present_rows new.nodes)) (lists.present new.tokens) [] → lists.committed new.tokens ≡ lists.committed old.tokens → IsTree new.nodes new.classes new.tokens
  tree_entered x n adds placed will timely number tokens same = record {
    now = kept_entered old.nodes new.nodes x n (lists.present old.tokens) adds placed new.classes (lists.present new.tokens) will kept_now timely number tokens;
    then_ = kept_then adds.committed_is same;
  }
