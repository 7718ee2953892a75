-- What a rule leads to from an event stands where it says.
use Rattle.std.proofs.Common.{◌≡◌, ◌≢◌, ℕ, ◌+◌, ◌*◌, ◌<◌, ◌≤◌, pos, List, [], ◌∷◌, ◌++◌, map, length, take, Option, Some, None, true, refl, sym, ap, ◌∙◌, subst, arith, option_map, w64, of_z, to_z}
use Rattle.std.specs.Int.RustNames.{FitsSigned}
use Rattle.std.specs.Prelude.{ℤ, ◌+ℤ◌, MatchOption}
use Rattle.std.specs.Option.{option_map_or, unwrap_or}
use Rattle.std.proofs.lemmas.Int.{ints, to_z-of_z}
use Rattle.std.proofs.lemmas.List.{map_push, length_push}
use Rattle.std.proofs.lemmas.List.Elements.{All-push}
use Rattle.ancestors.specs.Jumps.{jump_depth}
use Rattle.tmm_model.specs.declared.bound.Bound.TheVariants.{Finite}
use Rattle.tmm_model.specs.declared.token.Shape.{Shape}
use Rattle.tmm_model.specs.Bounds.{IsWithin}
use Rattle.tmm_model.specs.Names.{is_name}
use Rattle.spots.specs.declared.link.Link.{Link}
use Rattle.occ_tree.specs.declared.node.Node.{Node}
use Rattle.occ_tree.specs.declared.node.Above.{Above}
use Rattle.spots.specs.declared.sums.Sums.{Sums}
use Rattle.spots.specs.Light.{IsLight, AreLight}
use Rattle.spots.specs.Sums.{AreSums}
use Rattle.spots.specs.Forest.{Member, rules_of, HasClass, IsTrigger, IsNoRoot}
use Rattle.occ_tree.specs.Nodes.{Nodes, Way, further, link_of, parent_of, root_of, way_from, way_to, member_of, forest_in, HasParent, IsDated, ArePlaced, ComesBelow, WillBePlaced, IsEffect, IsRoot}
use Rattle.occ_tree.proofs.Ways.{way_to-at, way-further, length-links}

-- a number that is small is read as it is
pub seen : (x : ℤ) → IsWithin 1000000000000000 x → to_z w64 (of_z w64 x) ≡ x
seen x (low, high) = let f : FitsSigned w64 x = omega (arith, ints, low, high) in to_z-of_z w64 x f

-- the node right above another that has this parent
pub above_of : (n : Node) (p : ℕ) → parent_of n ≡ Some p → (a : Above) × (n.above ≡ Some a) × (a.parent ≡ p)
above_of n p is = by n.above refl is
  where
    by : (o : Option Above) → n.above ≡ o → option_map (λ (a : Above). a.parent) o ≡ Some p → (a : Above) × (n.above ≡ Some a) × (a.parent ≡ p)
    by None above is = absurd (cc)
    by (Some a) above is = (a, above, cc)

pub no_above : (n : Node) → parent_of n ≡ None → n.above ≡ None
no_above n is = by n.above refl is
  where
    by : (o : Option Above) → n.above ≡ o → option_map (λ (a : Above). a.parent) o ≡ None → n.above ≡ None
    by None above is = above
    by (Some a) above is = absurd (cc)

-- the occurrence that a node is
pub member_at : (node : Nodes) (x : ℕ) (n : Node) → node x ≡ Some n → forest_in node x ≡ Some (member_of (way_to node x) n)
member_at node x n at = ap (option_map (member_of (way_to node x))) at

-- the way to a node that has a parent
pub way_below : (node : Nodes) → ArePlaced node → (x : ℕ) (n : Node) (a : Above) → node x ≡ Some n → n.above ≡ Some a → way_to node x ≡ further (way_to node a.parent) x (link_of n)
way_below node placed x n a at above = way-further node x n a at above (subst (λ o. MatchOption o (n.depth ≡ 0) (HasParent node n)) above (placed.each x n at).parent)

-- the way to a root
pub way_root : (node : Nodes) → ArePlaced node → (x : ℕ) (n : Node) → node x ≡ Some n → n.above ≡ None → way_to node x ≡ way_from node 0 x
way_root node placed x n at above =
    let level : n.depth ≡ 0 = subst (λ o. MatchOption o (n.depth ≡ 0) (HasParent node n)) above (placed.each x n at).parent in
    way_to-at node x n at ∙ ap (λ d. way_from node d x) level

module _ (node : Nodes) (placed : ArePlaced node) where
  -- no root has the name
  pub apart_root : (name : List ℕ) → IsNoRoot (forest_in node) name → (y : ℕ) (q : Node) → node y ≡ Some q → parent_of q ≡ None → q.name ≢ name
  apart_root name none y q at root same =
      let way = way_root node placed y q at (no_above q root) in
      none y (member_of (way_to node y) q) (member_at node y q at)
      (ap (λ (w : Way). w.root) way ∙ ap (λ o. option_map_or (λ (n : Node). n.name) o []) at ∙ same)

  module _ (parent : ℕ) (p : Node) (at : node parent ≡ Some p) (m : Member) (m_at : forest_in node parent ≡ Some m) (rule : List ℕ) (trigger : IsTrigger (forest_in node) m rule) where
    m_is : m ≡ member_of (way_to node parent) p
    m_is = let both : Some m ≡ Some (member_of (way_to node parent) p) = sym m_at ∙ member_at node parent p at in cc

    apart_child : (y : ℕ) (q : Node) → node y ≡ Some q → parent_of q ≡ Some parent → q.name ≢ rule
    apart_child y q q_at below same =
        let (a, above, is) = above_of q parent below in
        let way : way_to node y ≡ further (way_to node parent) y (link_of q) = way_below node placed y q a q_at above ∙ ap (λ z. further (way_to node z) y (link_of q)) is in
        trigger.new y (member_of (way_to node y) q) (member_at node y q q_at)
        (ap (λ (w : Way). w.root) way ∙ ap (λ (k : Member). k.root) (sym m_is))
        (ap (λ (w : Way). map (λ (l : Link). l.rule) w.links) way ∙ map_push (λ (l : Link). l.rule) (way_to node parent).links (link_of q)
        ∙ (λ i. rules_of (sym m_is i) ++ same i ∷ []))

    few : length (way_to node parent).links < 100000
    few = subst (λ (k : Member). length k.links < 100000) m_is trigger.room

    pub effect_room : p.depth < 100000
    effect_room = let long = length-links node parent p at in let few_links = few in omega (arith, long, few_links)

    pub links_light : AreLight (way_to node parent).links
    links_light = (placed.each parent p at).light

    pub will_be_placed : (n : Node) (link : Link) (jump : ℕ) → link.rule ≡ rule → IsLight link → is_name rule ≡ true
        → n.above ≡ Some record { parent = parent; root = root_of parent p; jump = jump } → n.depth ≡ p.depth + 1 → n.begin ≡ p.begin → link_of n ≡ link
        → AreSums n.sums ((way_to node parent).links ++ link ∷ []) → (way_to node jump).numbers ≡ take (jump_depth (p.depth + 1) + 1) (way_to node parent).numbers
        → HasClass n.class n.shape → n.early ≡ p.early +ℤ link.lo → WillBePlaced node n
    will_be_placed n link jump rule_is light word above deep begin link_is sums jumps class early = record {
      apart = λ y q q_at same_parent same_name. apart_child y q q_at (same_parent ∙ ap (option_map (λ (a : Above). a.parent)) above) (same_name ∙ ap (λ (l : Link). l.rule) link_is ∙ rule_is);
      root = λ root. let both : Some record { parent = parent; root = root_of parent p; jump = jump } ≡ None = sym above ∙ root in cc;
      parent = λ a is. subst (ComesBelow node n) (let both : Some record { parent = parent; root = root_of parent p; jump = jump } ≡ Some a = sym above ∙ is in cc) (record {
        above = p;
        at = at;
        depth = deep;
        begin = begin;
        root = refl;
        jump = jumps;
        light = subst (λ (l : Link). AreLight ((way_to node parent).links ++ l ∷ [])) (sym link_is) (record {
          few = (let long = length_push (way_to node parent).links link in let few_links = few in omega (arith, long, few_links));
          each = All-push IsLight (way_to node parent).links link links_light.each light;
        });
        sums = subst (λ (l : Link). AreSums n.sums ((way_to node parent).links ++ l ∷ [])) (sym link_is) sums;
      });
      word = ap (λ (l : Link). is_name l.rule) link_is ∙ ap is_name rule_is ∙ word;
      class = class;
      date = dated;
    }
      where
        dated : IsDated n
        dated = let (low, high) = (placed.each parent p at).date in let least = light.least in let most = light.most in subst (λ z. IsWithin (1000000000000 + z * 1000000000) n.early) (sym deep) (subst (λ z. IsWithin (1000000000000 + (p.depth + 1) * 1000000000) z) (sym early) (omega (arith, ints, low, least), omega (arith, ints, high, most)))

-- ---- as the code makes them

-- the numbers on the way to a node that is no root
pub way_up : (node : Nodes) → ArePlaced node → (x : ℕ) (n : Node) (r : ℕ) → node x ≡ Some n → 1 < length (way_to node x).numbers → r ≡ unwrap_or (parent_of n) x → (way_to node x).numbers ≡ (way_to node r).numbers ++ x ∷ []
way_up node placed x n r at long is = by n.above refl
  where
    by : (o : Option Above) → n.above ≡ o → (way_to node x).numbers ≡ (way_to node r).numbers ++ x ∷ []
    by None above =
        let way = way_root node placed x n at above in
        let short : length (way_to node x).numbers ≡ 1 = ap (λ (w : Way). length w.numbers) way in
        absurd (omega (arith, long, short))
    by (Some a) above =
        let same : r ≡ a.parent = is ∙ ap (λ (o : Option Above). unwrap_or (option_map (λ (b : Above). b.parent) o) x) above in
        ap (λ (w : Way). w.numbers) (way_below node placed x n a at above) ∙ ap (λ z. (way_to node z).numbers ++ x ∷ []) (sym same)

-- the effect of a rule, as the code puts it together
abbrev pub effect_node : ℕ → Node → Link → ℕ → ℕ → Sums → List ℕ → Option (List ℕ) → Option ℕ → Shape → Node
effect_node parent p link root jump sums what class list shape = record {
  name = link.rule;
  lo = to_z w64 (of_z w64 link.lo);
  hi = link.hi;
  above = Some record { parent = parent; root = root; jump = jump };
  depth = p.depth + 1;
  sums = sums;
  begin = p.begin;
  end = None;
  what = what;
  class = class;
  list = list;
  shape = shape;
  early = to_z w64 (of_z w64 (to_z w64 (of_z w64 p.early) +ℤ to_z w64 (of_z w64 link.lo)));
}

-- such dates are small
looser : (n : Node) → n.depth ≤ 100000 → IsDated n → IsWithin 500000000000000 n.early
looser n shallow (low, high) = (omega (arith, ints, low, shallow), omega (arith, ints, high, shallow))

light_seen : (link : Link) → IsLight link → to_z w64 (of_z w64 link.lo) ≡ link.lo
light_seen link light = let least = light.least in let most = light.most in seen link.lo (omega (arith, ints, least, most), omega (arith, ints, least, most))

later_seen : (early : ℤ) (link : Link) → IsWithin 500000000000000 early → IsLight link → to_z w64 (of_z w64 (to_z w64 (of_z w64 early) +ℤ to_z w64 (of_z w64 link.lo))) ≡ early +ℤ link.lo
later_seen early link (low, high) light =
    let least = light.least in
    let most = light.most in
    let first : to_z w64 (of_z w64 early) ≡ early = seen early (omega (arith, ints, low), omega (arith, ints, high)) in
    (λ i. to_z w64 (of_z w64 (first i +ℤ light_seen link light i))) ∙ seen (early +ℤ link.lo) (omega (arith, ints, low, least), omega (arith, ints, high, most))

module _ (node : Nodes) (placed : ArePlaced node) (parent : ℕ) (p : Node) (at : node parent ≡ Some p) (m : Member) (m_at : forest_in node parent ≡ Some m) (link : Link) (trigger : IsTrigger (forest_in node) m link.rule) (light : IsLight link) where
  shallow : p.depth ≤ 100000
  shallow = let few = effect_room node placed parent p at m m_at link.rule trigger in omega (arith, few)

  module _ (root jump : ℕ) (sums : Sums) (what : List ℕ) (class : Option (List ℕ)) (list : Option ℕ) (shape : Shape) where
    pub effect_placed : is_name link.rule ≡ true → root ≡ root_of parent p → (way_to node jump).numbers ≡ take (jump_depth (p.depth + 1) + 1) (way_to node parent).numbers → AreSums sums ((way_to node parent).links ++ link ∷ []) → HasClass class shape → WillBePlaced node (effect_node parent p link root jump sums what class list shape)
    effect_placed word root_is jumps are has =
        will_be_placed node placed parent p at m m_at link.rule trigger (effect_node parent p link root jump sums what class list shape) link jump refl light word
        (ap (λ r. Some record { parent = parent; root = r; jump = jump }) root_is) refl refl
        (λ i. record { rule = link.rule; lo = light_seen link light i; hi = link.hi })
        are jumps has (later_seen p.early link (looser p shallow (placed.each parent p at).date) light)

    pub effect_is : IsEffect node parent link what class list shape (effect_node parent p link root jump sums what class list shape)
    effect_is = record {
      parent_is = refl;
      link_is = λ i. record { rule = link.rule; lo = light_seen link light i; hi = link.hi };
      end_is = refl;
      what_is = refl;
      class_is = refl;
      list_is = refl;
      shape_is = refl;
      early_is = later_seen p.early link (looser p shallow (placed.each parent p at).date) light ∙ ap (λ o. option_map_or (λ (n : Node). n.early) o (pos 0) +ℤ link.lo) (sym at);
    }

-- a root, as the code puts it together
abbrev pub root_node : List ℕ → Sums → ℕ → Option ℕ → List ℕ → Option (List ℕ) → Option ℕ → Shape → ℤ → Node
root_node name sums begin «end» what class list shape early = record {
  name = name;
  lo = pos 0;
  hi = Finite (pos 0);
  above = None;
  depth = 0;
  sums = sums;
  begin = begin;
  end = «end»;
  what = what;
  class = class;
  list = list;
  shape = shape;
  early = to_z w64 (of_z w64 early);
}

module _ (name : List ℕ) (sums : Sums) (begin : ℕ) («end» : Option ℕ) (what : List ℕ) (class : Option (List ℕ)) (list : Option ℕ) (shape : Shape) (early : ℤ) (date : IsWithin 1000000000000 early) where
  early_seen : to_z w64 (of_z w64 early) ≡ early
  early_seen = let (low, high) = date in seen early (omega (arith, ints, low), omega (arith, ints, high))

  pub root_placed : (node : Nodes) → ArePlaced node → IsNoRoot (forest_in node) name → is_name name ≡ true → AreSums sums [] → HasClass class shape → WillBePlaced node (root_node name sums begin «end» what class list shape early)
  root_placed node placed new word are has = record {
    apart = λ y q at same_parent same_name. apart_root node placed name new y q at same_parent same_name;
    root = λ above. (refl, are);
    parent = λ a is. absurd (let both : None ≡ Some a = is in cc);
    word = word;
    class = has;
    date = subst (IsWithin (1000000000000 + 0 * 1000000000)) (sym early_seen) (let (low, high) = date in (omega (arith, ints, low), omega (arith, ints, high)));
  }

  pub root_is : IsRoot name begin «end» what class list shape early (root_node name sums begin «end» what class list shape early)
  root_is = record {
    above_is = refl;
    name_is = refl;
    begin_is = refl;
    end_is = refl;
    what_is = refl;
    class_is = refl;
    list_is = refl;
    shape_is = refl;
    early_is = early_seen;
  }
