-- Names on a way that are written from its end up.
use Rattle.std.proofs.Common.{◌≡◌, ℕ, ◌++◌, ◌∷◌, [], List, map, length, refl, sym, ap, ◌∙◌, arith, append_assoc}
use Rattle.std.specs.Prelude.{reverse}
use Rattle.std.proofs.lemmas.List.{map-append, reverse-append}
use Rattle.occ_tree.specs.Ends.{way_ends}
use Rattle.occ_tree.specs.Nodes.{Nodes, name_at, way_to}
use Rattle.occ_tree.specs.Words.{joined}
use Rattle.occ_tree.proofs.Wording.{text_on}

-- the first of a list backwards is its last
reverse-push : (names : List (List ℕ)) (name : List ℕ) → reverse (names ++ name ∷ []) ≡ name ∷ reverse names
reverse-push names name = reverse-append names (name ∷ [])

module _ (node : Nodes) (y : ℕ) (name : List ℕ) (is : name_at node y ≡ name) (all written : List (List ℕ)) (so_far : all ≡ map (name_at node) (way_to node y).numbers ++ reverse written) where
  -- one name more is written, and those above are left
  pub one_written : (p : ℕ) → (way_to node y).numbers ≡ (way_to node p).numbers ++ y ∷ [] → (now : List (List ℕ)) → now ≡ written ++ name ∷ [] → all ≡ map (name_at node) (way_to node p).numbers ++ reverse now
  one_written p below now more =
      so_far
      ∙ ap (λ u. map (name_at node) u ++ reverse written) below
      ∙ ap (λ v. v ++ reverse written) (map-append (name_at node) (way_to node p).numbers (y ∷ []))
      ∙ append_assoc (map (name_at node) (way_to node p).numbers) (name_at node y ∷ []) (reverse written)
      ∙ ap (λ n. map (name_at node) (way_to node p).numbers ++ n ∷ reverse written) is
      ∙ ap (λ v. map (name_at node) (way_to node p).numbers ++ v) (sym (reverse-push written name) ∙ ap reverse (sym more))

  -- at the root all are written
  pub all_written : length (way_to node y).numbers ≡ 1 → (now : List (List ℕ)) → now ≡ written ++ name ∷ [] → reverse now ≡ all
  all_written one now more =
      let (front, ends) = way_ends node y (omega (arith, one)) in
      ap reverse more ∙ reverse-push written name
      ∙ sym (so_far ∙ ap (λ u. map (name_at node) u ++ reverse written) (alone (way_to node y).numbers front ends one) ∙ ap (λ n. n ∷ reverse written) is)
    where
      alone : (u front : List ℕ) → u ≡ front ++ y ∷ [] → length u ≡ 1 → u ≡ y ∷ []
      alone u [] ends one = ends
      alone u (z ∷ []) ends one = absurd (let long = ap length ends in omega (arith, long, one))
      alone u (z ∷ (w ∷ front)) ends one = absurd (let long = ap length ends in omega (arith, long, one))

-- the word on a way is its names, joined
pub text-joined : (node : Nodes) (u : List ℕ) → text_on node u ≡ joined (map (name_at node) u)
text-joined node [] = refl
text-joined node (x ∷ u) = refl
