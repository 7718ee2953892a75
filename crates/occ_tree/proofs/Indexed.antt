-- Nodes that are entered under their keys, one after the other.
use Rattle.std.proofs.Common.{◌≡◌, ◌≢◌, ◌∙◌, inl, inr, ℕ, ◌+◌, ◌<◌, ◌==◌, Bool, true, false, cond, ◌&&◌, List, Option, Some, None, IsSome, refl, sym, ap, subst, arith}
use Rattle.std.specs.Bool.{Decides}
use Rattle.std.specs.Prelude.{MatchOption, nat_eq}
use Rattle.std.specs.Option.{option_eq}
use Rattle.std.proofs.lemmas.Bool.Decides.{Decides-eqb, eqb_tells}
use Rattle.list_theory.proofs.Elements.{both}
use Rattle.tmm_model.specs.Points.{same_name}
use Rattle.walk_theory.proofs.Points.{same_name-is, same_name-self, tells}
use Rattle.occ_tree.specs.declared.by_name.Key.{Key}
use Rattle.occ_tree.specs.declared.node.Node.{Node}
use Rattle.occ_tree.specs.Index.{key_of, same_key, number_under, IsIndex}
use Rattle.occ_tree.specs.Named.{IsNamed}
use Rattle.occ_tree.specs.Nodes.{Nodes, ArePlaced}

-- ---- the test by which keys are told apart

same_parent-is : (a b : Option ℕ) → option_eq nat_eq a b ≡ true → a ≡ b
same_parent-is None None e = refl
same_parent-is None (Some y) e = cc
same_parent-is (Some x) None e = cc
same_parent-is (Some x) (Some y) e = elim (eqb_tells x y) [ inl same ↦ ap Some same.1 | inr apart ↦ absurd (let never : false ≡ true = sym apart.0 ∙ e in cc) ]

same_parent-self : (a : Option ℕ) → option_eq nat_eq a a ≡ true
same_parent-self None = refl
same_parent-self (Some x) = elim (eqb_tells x x) [ inl same ↦ same.0 | inr apart ↦ absurd (apart.1 refl) ]

same_key-is : (a b : Key) → same_key a b ≡ true → a ≡ b
same_key-is a b e =
    let h = both (option_eq nat_eq a.parent b.parent) (same_name a.name b.name) e in
    let parents = same_parent-is a.parent b.parent h.0 in
    let names = same_name-is a.name b.name h.1 in
    λ i. record { parent = parents i; name = names i }

same_key-self : (a : Key) → same_key a a ≡ true
same_key-self a = ap (λ t. t && same_name a.name a.name) (same_parent-self a.parent) ∙ same_name-self a.name

decides_key : (a b : Key) → Decides (same_key a b) (a ≡ b)
decides_key a b = (same_key-is a b, λ e. ap (same_key a) (sym e) ∙ same_key-self a)

-- ---- what is found

-- what is under a parent and a name is the node of that name
pub under_key : (node : Nodes) (entries : List (Key × ℕ)) → IsIndex node entries → (parent : Option ℕ) (name : List ℕ) (found : Option ℕ) → found ≡ number_under entries (record { parent = parent; name = name })
    → MatchOption found ((x : ℕ) → IsNamed node parent name x → ⊥) (IsNamed node parent name)
under_key node entries index parent name None is = λ x (n, at, below, named).
    let same : key_of n ≡ record { parent = parent; name = name } = λ i. record { parent = below i; name = named i } in
    let never : None ≡ Some x = is ∙ ap (number_under entries) (sym same) ∙ index.all x n at in
    cc
under_key node entries index parent name (Some x) is = index.each (record { parent = parent; name = name }) x (sym is)

-- ---- the nodes below a number

-- the nodes below n are under their keys, and under each key is one of them
pub record IsIndexTo (node : Nodes) (n : ℕ) (entries : List (Key × ℕ)) : Type 0 where
  pub all : (x : ℕ) (q : Node) → x < n → node x ≡ Some q → number_under entries (key_of q) ≡ Some x
  pub each : (k : Key) (x : ℕ) → number_under entries k ≡ Some x → IsNamed node k.parent k.name x

module _ (node : Nodes) where
  pub index_skip : (n : ℕ) (entries : List (Key × ℕ)) → (IsSome (node n) → ⊥) → IsIndexTo node n entries → IsIndexTo node (n + 1) entries
  index_skip n entries dead index = record {
    all = λ x q low at.
        let other : x ≢ n = λ same. dead (subst (λ (o : Option Node). IsSome o) (sym (ap node (sym same) ∙ at)) refl) in
        index.all x q (omega (arith, low, other)) at;
    each = index.each;
  }

  pub index_more : (n : ℕ) (m : Node) (k : Key) (old new : List (Key × ℕ)) → ArePlaced node → node n ≡ Some m → k ≡ key_of m
      → ((q : Key) → number_under new q ≡ cond (same_key k q) (Some n) (number_under old q)) → IsIndexTo node n old → IsIndexTo node (n + 1) new
  index_more n m k old new placed at is set index = record {
    all = λ x q low here. all_by x q low here (x == n) refl;
    each = λ q x found. each_by q x found (same_key k q) refl;
  }
    where
      each_by : (q : Key) (x : ℕ) → number_under new q ≡ Some x → (t : Bool) → same_key k q ≡ t → IsNamed node q.parent q.name x
      each_by q x found true same =
          let one : key_of m ≡ q = sym is ∙ same_key-is k q same in
          let both : Some n ≡ Some x = sym (set q ∙ ap (λ t. cond t (Some n) (number_under old q)) same) ∙ found in
          let number : n ≡ x = cc in
          (m, subst (λ z. node z ≡ Some m) number at, ap (λ (k : Key). k.parent) one, ap (λ (k : Key). k.name) one)
      each_by q x found false other = index.each q x (sym (set q ∙ ap (λ t. cond t (Some n) (number_under old q)) other) ∙ found)

      all_by : (x : ℕ) (q : Node) → x < n + 1 → node x ≡ Some q → (t : Bool) → (x == n) ≡ t → number_under new (key_of q) ≡ Some x
      all_by x q low here true same =
          let number : x ≡ n = (Decides-eqb x n).0 same in
          let both : Some m ≡ Some q = sym at ∙ ap node (sym number) ∙ here in
          let one : m ≡ q = cc in
          let key : k ≡ key_of q = is ∙ ap key_of one in
          set (key_of q) ∙ ap (λ t. cond t (Some n) (number_under old (key_of q))) ((decides_key k (key_of q)).1 key) ∙ ap Some (sym number)
      all_by x q low here false other =
          let number : x ≢ n = λ same. (let t : (x == n) ≡ true = (Decides-eqb x n).1 same in let no : false ≡ true = sym other ∙ t in cc) in
          elim (tells same_key decides_key k (key_of q)) [
            | inl same ↦
                let one : key_of m ≡ key_of q = sym is ∙ same.1 in
                absurd (number (sym (placed.apart n x m q at here (ap (λ (k : Key). k.parent) one) (ap (λ (k : Key). k.name) one))))
            | inr apart ↦ set (key_of q) ∙ ap (λ t. cond t (Some n) (number_under old (key_of q))) apart.0 ∙ index.all x q (omega (arith, low, number)) here
          ]
