-- The way up to a root, one node after the other.
use Rattle.std.proofs.Common.{◌≡◌, ◌∙◌, ℕ, suc, ◌<◌, ◌≤◌, inl, inr, List, [], ◌∷◌, ◌++◌, length, refl, sym, ap, subst, arith}
use Rattle.std.specs.Prelude.{Option, Some, None, MatchOption}
use Rattle.std.specs.Option.{option_map_or}
use Rattle.std.proofs.lemmas.Bool.{cases_lt}
use Rattle.std.proofs.lemmas.List.{append-nil, append_assoc, length-append}
use Rattle.std.proofs.lemmas.List.Elements.{Contains-push, Contains-append_left}
use Rattle.spots.specs.declared.link.Link.{Link}
use Rattle.spots.specs.declared.spot.Spot.TheVariants.{Node}
use Rattle.spots.specs.Forest.{Forest, Member, member, IsLive, IsParent}
use Rattle.spots.specs.Spots.{links_of}
use Rattle.spots.proofs.Nodes.{node_at}
use Rattle.supports.specs.Under.{IsUnder, HasNode}

-- for each of the first rules that lead to x the node to which they lead is among the numbers
abbrev pub AllHave : Forest → ℕ → List ℕ → Type 0
AllHave f x numbers = (m : Member) (front back : List Link) → member f x ≡ Some m → m.links ≡ front ++ back → HasNode f m.root front numbers

-- so far, for those that are more than lead to y
abbrev pub LongerHave : Forest → ℕ → ℕ → List ℕ → Type 0
LongerHave f x y numbers = (m : Member) (front back : List Link) → member f x ≡ Some m → m.links ≡ front ++ back → length (links_of f (Node y)) < length front → HasNode f m.root front numbers

-- the numbers are of the nodes from x up to what is right above the next, which is none behind the
-- root
abbrev pub Climbs : Forest → ℕ → List ℕ → Option ℕ → Type 0
Climbs f x numbers next = MatchOption next (AllHave f x numbers) (λ y. IsUnder f y x × LongerHave f x y numbers)

-- how many nodes there are from the next on
abbrev pub steps : Forest → Option ℕ → ℕ
steps f next = option_map_or (λ y. suc (length (links_of f (Node y)))) next 0

-- lists that begin one list and are equally long are one
same_front : (u v r s : List Link) → length u ≡ length v → u ++ r ≡ v ++ s → u ≡ v
same_front [] [] r s long same = refl
same_front [] (k ∷ v) r s long same = absurd (omega (arith, long))
same_front (l ∷ u) [] r s long same = absurd (omega (arith, long))
same_front (l ∷ u) (k ∷ v) r s long same =
    let whole : l ∷ (u ++ r) ≡ k ∷ (v ++ s) = same in
    let head : l ≡ k = cc in
    let tail : u ++ r ≡ v ++ s = cc in
    let rest = same_front u v r s (omega (arith, long)) tail in
    λ i. head i ∷ rest i

module _ (f : Forest) (x : ℕ) where
  links_at : (y : ℕ) (m : Member) → member f y ≡ Some m → links_of f (Node y) ≡ m.links
  links_at y m at = ap (λ (o : Option Member). option_map_or (λ k. k.links) o []) at

  more_have : (root : List ℕ) (front : List Link) (numbers more : List ℕ) → HasNode f root front numbers → HasNode f root front (numbers ++ more)
  more_have root front numbers more h = record { node = h.node; m = h.m; among = Contains-append_left numbers more h.node h.among; at = h.at; root_is = h.root_is; links_are = h.links_are }

  pub climb_start : IsLive f x → Climbs f x [] (Some x)
  climb_start live =
      let (m, at) = node_at f x live in (
        record { above = m; below = m; above_at = at; below_at = at; root = refl; rest = []; links = sym (append-nil m.links) },
        λ n front back n_at is longer.
            (let same : Some m ≡ Some n = sym at ∙ n_at in
            let one : m ≡ n = cc in
            let own = ap length (links_at x m at ∙ ap (λ k. k.links) one ∙ is) in
            absurd (omega (arith, longer, own, length-append front back))),
      )

  module _ (y : ℕ) (numbers : List ℕ) (u : IsUnder f y x) (longer : LongerHave f x y numbers) where
    -- what is as long as what leads to y has a node, with y
    at_least : (m : Member) (front back : List Link) → member f x ≡ Some m → m.links ≡ front ++ back → length u.above.links ≤ length front → HasNode f m.root front (numbers ++ y ∷ [])
    at_least m front back at is long = elim (cases_lt (length u.above.links) (length front)) [
      | inl less ↦ more_have m.root front numbers (y ∷ []) (longer m front back at is (subst (λ l. length l < length front) (sym (links_at y u.above u.above_at)) less))
      | inr more ↦
          let same : Some u.below ≡ Some m = sym u.below_at ∙ at in
          let one : u.below ≡ m = cc in
          record {
            node = y;
            m = u.above;
            among = Contains-push numbers y;
            at = u.above_at;
            root_is = u.root ∙ ap (λ k. k.root) one;
            links_are = same_front u.above.links front u.rest back (omega (arith, long, more)) (sym u.links ∙ ap (λ k. k.links) one ∙ is);
          }
    ]

    -- **One node more on the way.**
    pub climb : (parent : Option ℕ) → IsParent f u.above parent → Climbs f x (numbers ++ y ∷ []) parent
    climb None root = λ m front back at is. at_least m front back at is (let none = ap length root in omega (arith, none))
    climb (Some p) (n, link, n_at, root, links) = (
      record {
        above = n;
        below = u.below;
        above_at = n_at;
        below_at = u.below_at;
        root = root ∙ u.root;
        rest = link ∷ u.rest;
        links = u.links ∙ ap (λ l. l ++ u.rest) links ∙ append_assoc n.links (link ∷ []) u.rest;
      },
      λ m front back at is more. at_least m front back at is
          (let own = ap length (links_at p n n_at) in let long = ap length links in omega (arith, more, own, long, length-append n.links (link ∷ []))),
    )

    -- and fewer are left
    pub fewer : (parent : Option ℕ) → IsParent f u.above parent → steps f parent < steps f (Some y)
    fewer None root = omega arith
    fewer (Some p) (n, link, n_at, root, links) =
        let own = ap length (links_at p n n_at) in
        let long = ap length links in
        let here = ap length (links_at y u.above u.above_at) in
        omega (arith, own, long, here, length-append n.links (link ∷ []))
