-- Nodes stand where they say, with one node more, and with other dates.
use Rattle.std.proofs.Common.{◌≡◌, ◌≢◌, ℕ, suc, ◌+◌, ◌<◌, ◌≤◌, List, [], ◌∷◌, length, take, Option, Some, None, refl, sym, ap, ◌∙◌, subst, inl, inr, arith}
use Rattle.std.specs.Prelude.{MatchOption}
use Rattle.std.specs.Option.{option_map_or}
use Rattle.std.proofs.lemmas.Bool.{cases_eq}
use Rattle.std.proofs.lemmas.List.{take-append-le, length-take-le}
use Rattle.std.proofs.lemmas.List.Elements.{All-nil}
use Rattle.ancestors.specs.Jumps.{jump_depth}
use Rattle.ancestors.proofs.Jumps.{jump_within, jump_up}
use Rattle.tmm_model.specs.Names.{is_name}
use Rattle.occ_tree.specs.declared.node.Node.{Node}
use Rattle.occ_tree.specs.declared.node.Above.{Above}
use Rattle.spots.specs.Light.{IsLight, AreLight}
use Rattle.spots.specs.Sums.{AreSums}
use Rattle.spots.specs.Forest.{HasClass}
use Rattle.occ_tree.specs.Nodes.{Nodes, Way, further, link_of, parent_of, root_of, jump_of, way_from, way_to, HasParent, IsDated, IsPlaced, ArePlaced, WillBePlaced}
use Rattle.occ_tree.proofs.Ways.{fixed, Extends, HaveParents, way_to-at, length-way, node_on_way, way-further, way-same}

pub have_parents : (node : Nodes) → ArePlaced node → HaveParents node
have_parents node placed y n at = (placed.each y n at).parent

-- ---- a node that stays

module _ (a b : Nodes) (more : Extends a b) (parents : HaveParents a) where
  parent_stays : (n : Node) (up : Above) → HasParent a n up → HasParent b n up
  parent_stays n up (p, at, deep, begin) =
      let (q, here, same) = more up.parent p at in
      (q, here, deep ∙ ap (λ (z : Node). z.depth + 1) (sym same), begin ∙ ap (λ (z : Node). z.begin) (sym same))

  stays_above : (n : Node) (o : Option Above) → MatchOption o (n.depth ≡ 0) (HasParent a n) → MatchOption o (n.depth ≡ 0) (HasParent b n)
  stays_above n None root = root
  stays_above n (Some up) has = parent_stays n up has

  -- the numbers of the way to a node that has one
  numbers_stay : (x : ℕ) (numbers : List ℕ) → (way_to a x).numbers ≡ numbers → 0 < length numbers → (way_to b x).numbers ≡ numbers
  numbers_stay x numbers is some =
      let (n, at) = node_on_way a x (subst (λ l. 0 < length l) (sym is) some) in
      ap (λ (w : Way). w.numbers) (way-same a b more parents x n at) ∙ is

  pub placed_stays : (x : ℕ) (n m : Node) → a x ≡ Some n → fixed m ≡ fixed n → IsDated m → IsPlaced a x n → IsPlaced b x m
  placed_stays x n m at same date p =
      let way : way_to b x ≡ way_to a x = way-same a b more parents x n at in
      let long : length (way_to a x).numbers ≡ n.depth + 1 = length-way a x n at in
      let first : 0 < length (take 1 (way_to a x).numbers) = (let l = length-take-le 1 (way_to a x).numbers (omega (arith, long)) in omega (arith, l)) in
      let further_up : 0 < length (take (jump_depth n.depth + 1) (way_to a x).numbers) = (let l = length-take-le (jump_depth n.depth + 1) (way_to a x).numbers (omega (arith, long, jump_within n.depth)) in omega (arith, l)) in
      record {
        parent = subst (λ (q : Node). MatchOption q.above (q.depth ≡ 0) (HasParent b q)) (sym same) (stays_above n n.above p.parent);
        root = subst (λ (q : Node). (way_to b (root_of x q)).numbers ≡ take 1 (way_to b x).numbers) (sym same) (numbers_stay (root_of x n) (take 1 (way_to a x).numbers) p.root first ∙ ap (λ (w : Way). take 1 w.numbers) (sym way));
        jump = subst (λ (q : Node). (way_to b (jump_of x q)).numbers ≡ take (jump_depth q.depth + 1) (way_to b x).numbers) (sym same) (numbers_stay (jump_of x n) (take (jump_depth n.depth + 1) (way_to a x).numbers) p.jump further_up ∙ ap (λ (w : Way). take (jump_depth n.depth + 1) w.numbers) (sym way));
        light = subst (λ (w : Way). AreLight w.links) (sym way) p.light;
        sums = subst (λ (q : Node). AreSums q.sums (way_to b x).links) (sym same) (subst (λ (w : Way). AreSums n.sums w.links) (sym way) p.sums);
        word = ap (λ (q : Node). is_name q.name) same ∙ p.word;
        class = subst (λ (q : Node). HasClass q.class q.shape) (sym same) p.class;
        date = date;
      }

-- ---- a new node

module _ (a b : Nodes) (x : ℕ) (n : Node) (free : a x ≡ None) (here : b x ≡ Some n) (others : (y : ℕ) → y ≢ x → b y ≡ a y) where
  other_than : (y : ℕ) (m : Node) → a y ≡ Some m → y ≢ x
  other_than y m at same = let both : Some m ≡ None = sym at ∙ ap a same ∙ free in cc

  pub extends_new : Extends a b
  extends_new y m at = (m, others y (other_than y m at) ∙ at, refl)

  module _ (placed : ArePlaced a) (will : WillBePlaced a n) where
    parents : HaveParents a
    parents = have_parents a placed

    root_placed : n.above ≡ None → IsPlaced b x n
    root_placed above =
        let (level, sums) = will.root above in
        let way : way_to b x ≡ way_from b 0 x = way_to-at b x n here ∙ ap (λ d. way_from b d x) level in
        let own : (way_to b (option_map_or (λ (u : Above). u.root) None x)).numbers ≡ take 1 (way_to b x).numbers = ap (λ (w : Way). w.numbers) way ∙ ap (λ (w : Way). take 1 w.numbers) (sym way) in
        record {
          parent = subst (λ o. MatchOption o (n.depth ≡ 0) (HasParent b n)) (sym above) level;
          root = subst (λ (o : Option Above). (way_to b (option_map_or (λ (u : Above). u.root) o x)).numbers ≡ take 1 (way_to b x).numbers) (sym above) own;
          jump = subst (λ (o : Option Above). (way_to b (option_map_or (λ (u : Above). u.jump) o x)).numbers ≡ take (jump_depth n.depth + 1) (way_to b x).numbers) (sym above) (own ∙ ap (λ d. take (jump_depth d + 1) (way_to b x).numbers) (sym level));
          light = subst (λ (w : Way). AreLight w.links) (sym way) (record { few = omega arith; each = All-nil IsLight });
          sums = subst (λ (w : Way). AreSums n.sums w.links) (sym way) sums;
          word = will.word;
          class = will.class;
          date = will.date;
        }

    child_placed : (up : Above) → n.above ≡ Some up → IsPlaced b x n
    child_placed up above =
        let c = will.parent up above in
        let p = c.above in
        let has : HasParent b n up = parent_stays a b extends_new parents n up (p, c.at, c.depth, c.begin) in
        let old_way : way_to b up.parent ≡ way_to a up.parent = way-same a b extends_new parents up.parent p c.at in
        let way : way_to b x ≡ further (way_to a up.parent) x (link_of n) = way-further b x n up here above has ∙ ap (λ (w : Way). further w x (link_of n)) old_way in
        let numbers = (way_to a up.parent).numbers in
        let long : length numbers ≡ p.depth + 1 = length-way a up.parent p c.at in
        let first : 0 < length (take 1 numbers) = (let l = length-take-le 1 numbers (omega (arith, long)) in omega (arith, l)) in
        let k = jump_depth (p.depth + 1) + 1 in
        let few : k ≤ p.depth + 1 = (let one : p.depth + 1 ≡ suc p.depth = omega arith in let e = ap jump_depth one in omega (arith, e, jump_up p.depth)) in
        let further_up : 0 < length (take k numbers) = (let l = length-take-le k numbers (omega (arith, long, few)) in omega (arith, l)) in
        let root_way : (way_to b up.root).numbers ≡ take 1 numbers =
        numbers_stay a b extends_new parents up.root (take 1 numbers) (ap (λ r. (way_to a r).numbers) c.root ∙ (placed.each up.parent p c.at).root) first in
        let jump_way : (way_to b up.jump).numbers ≡ take k numbers = numbers_stay a b extends_new parents up.jump (take k numbers) c.jump further_up in
        record {
          parent = subst (λ o. MatchOption o (n.depth ≡ 0) (HasParent b n)) (sym above) has;
          root = subst (λ (o : Option Above). (way_to b (option_map_or (λ (u : Above). u.root) o x)).numbers ≡ take 1 (way_to b x).numbers) (sym above)
              (root_way ∙ sym (take-append-le 1 numbers (x ∷ []) (omega (arith, long))) ∙ ap (λ (w : Way). take 1 w.numbers) (sym way));
          jump = subst (λ (o : Option Above). (way_to b (option_map_or (λ (u : Above). u.jump) o x)).numbers ≡ take (jump_depth n.depth + 1) (way_to b x).numbers) (sym above)
              (jump_way ∙ sym (take-append-le k numbers (x ∷ []) (omega (arith, long, few))) ∙ ap (λ (w : Way). take k w.numbers) (sym way) ∙ ap (λ d. take (jump_depth d + 1) (way_to b x).numbers) (sym c.depth));
          light = subst (λ (w : Way). AreLight w.links) (sym way) c.light;
          sums = subst (λ (w : Way). AreSums n.sums w.links) (sym way) c.sums;
          word = will.word;
          class = will.class;
          date = will.date;
        }

    new_placed : IsPlaced b x n
    new_placed = by n.above refl
      where
        by : (o : Option Above) → n.above ≡ o → IsPlaced b x n
        by None above = root_placed above
        by (Some up) above = child_placed up above

    pub placed_new : ArePlaced b
    placed_new = record {
      each = λ y m at. elim (cases_eq y x) [
        | inl same ↦ let is : n ≡ m = (let both : Some n ≡ Some m = sym here ∙ ap b (sym same) ∙ at in cc) in subst (λ z. IsPlaced b z m) (sym same) (subst (IsPlaced b x) is new_placed)
        | inr other ↦ let was : a y ≡ Some m = sym (others y other) ∙ at in placed_stays a b extends_new parents y m m was refl (placed.each y m was).date (placed.each y m was)
      ];
      apart = λ y z m q y_at z_at same_parent same_name. elim (cases_eq y x) [
        | inl y_new ↦ elim (cases_eq z x) [
          | inl z_new ↦ y_new ∙ sym z_new
          | inr z_other ↦
              let is : n ≡ m = (let both : Some n ≡ Some m = sym here ∙ ap b (sym y_new) ∙ y_at in cc) in
              absurd (will.apart z q (sym (others z z_other) ∙ z_at) (sym same_parent ∙ ap parent_of (sym is)) (sym same_name ∙ ap (λ (w : Node). w.name) (sym is)))
        ]
        | inr y_other ↦ elim (cases_eq z x) [
          | inl z_new ↦
              let is : n ≡ q = (let both : Some n ≡ Some q = sym here ∙ ap b (sym z_new) ∙ z_at in cc) in
              absurd (will.apart y m (sym (others y y_other) ∙ y_at) (same_parent ∙ ap parent_of (sym is)) (same_name ∙ ap (λ (w : Node). w.name) (sym is)))
          | inr z_other ↦ placed.apart y z m q (sym (others y y_other) ∙ y_at) (sym (others z z_other) ∙ z_at) same_parent same_name
        ]
      ];
    }
