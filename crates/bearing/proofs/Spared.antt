-- What a window tells: two tokens behind a token, of two facts, that have surely begun are walls.
use Rattle.std.proofs.Common.{◌≡◌, ◌≢◌, ◌∙◌, ℕ, Bool, true, false, not, ◌&&◌, ◌||◌, List, [], ◌∷◌, ◌++◌, ◌<◌, length, take, drop, Option, Some, None, refl, sym, ap, subst, inl, inr, arith, ◌⊎◌}
use Rattle.std.proofs.lemmas.Bool.{not-true}
use Rattle.std.proofs.lemmas.Int.{ints}
use Rattle.std.proofs.lemmas.List.{take-append-drop}
use Rattle.std.proofs.lemmas.List.Elements.{All-contains, Contains-get_or}
use Rattle.std.specs.Prelude.{pos, negsuc, slice_index_or}
use Rattle.std.specs.List.{All, list_any}
use Rattle.std.specs.Cmp.Lexicographic.{bytes_decides}
use Rattle.tmm_model.specs.declared.bound.Bound.{Bound}
use Rattle.tmm_model.specs.declared.bound.Bound.TheVariants.{Finite, Free}
use Rattle.tmm_model.specs.declared.token.TokenRow.{TokenRow}
use Rattle.tmm_model.specs.Bounds.{bound_at_most}
use Rattle.tmm_model.specs.Points.{same_name}
use Rattle.tmm_model.specs.Tokens.{of_one_class, cuts, lasts_to}
use Rattle.list_theory.proofs.Elements.{In, both, Contains-from_In, In-from_Contains, In-cases, In-left, In-right, list_any-In, In-list_any}
use Rattle.dist_net.specs.Net.{Net}
use Rattle.spots.specs.declared.spot.Spot.{Spot}
use Rattle.spots.specs.declared.spot.Spot.TheVariants.{Node}
use Rattle.spots.specs.Forest.{Forest}
use Rattle.spots.specs.Spots.{spot_distance}
use Rattle.occ_tree.specs.Places.{forest}
use Rattle.revisions.specs.Walls.{begins_by, IsBetween}
use Rattle.revisions.proofs.Walls.{other_fact}
use Rattle.bearing.specs.declared.moving_tokens.Window.{Window}
use Rattle.bearing.specs.Windows.{IsWalledOff, IsSparedBy, are_two, is_spared, IsWall, IsWindowOf, net_in, tree_in}

-- ---- two tokens of two facts

module _ (far : Spot → Spot → Bound) (t : ℕ) where
  -- two of the tokens have begun, of two facts
  pub record Two (walls : List (TokenRow Spot)) : Type 0 where
    pub one : TokenRow Spot
    pub other : TokenRow Spot
    pub one_in : In one walls
    pub other_in : In other walls
    pub one_begun : begins_by far (Node t) one ≡ true
    pub other_begun : begins_by far (Node t) other ≡ true
    pub differ : same_name one.fact other.fact ≡ false

  pub two_told : (walls : List (TokenRow Spot)) → are_two far t walls ≡ true → Two walls
  two_told walls e =
      let (one, one_in, h) = list_any-In (λ v. begins_by far (Node t) v && list_any (λ w. begins_by far (Node t) w && not (same_name v.fact w.fact)) walls) walls e in
      let first = both (begins_by far (Node t) one) (list_any (λ w. begins_by far (Node t) w && not (same_name one.fact w.fact)) walls) h in
      let (other, other_in, g) = list_any-In (λ w. begins_by far (Node t) w && not (same_name one.fact w.fact)) walls first.1 in
      let second = both (begins_by far (Node t) other) (not (same_name one.fact other.fact)) g in
      record { one = one; other = other; one_in = one_in; other_in = other_in; one_begun = first.0; other_begun = second.0; differ = not-true (same_name one.fact other.fact) second.1 }

  pub two_tells : (walls : List (TokenRow Spot)) → Two walls → are_two far t walls ≡ true
  two_tells walls two =
      In-list_any (λ v. begins_by far (Node t) v && list_any (λ w. begins_by far (Node t) w && not (same_name v.fact w.fact)) walls) walls two.one two.one_in
      (λ i. two.one_begun i
      && In-list_any (λ w. begins_by far (Node t) w && not (same_name two.one.fact w.fact)) walls two.other two.other_in (λ j. two.other_begun j && not (two.differ j)) i)

  -- ---- looked for from the first on

  -- Of these tokens none has begun; or some have, and all that have are of this fact.
  abbrev pub Seen : Option (List ℕ) → List (TokenRow Spot) → Type 0
  Seen None walls = (w : TokenRow Spot) → In w walls → begins_by far (Node t) w ≡ false
  Seen (Some fact) walls =
      ((w : TokenRow Spot) → In w walls → begins_by far (Node t) w ≡ true → w.fact ≡ fact)
      × ((w : TokenRow Spot) × In w walls × (begins_by far (Node t) w ≡ true) × (w.fact ≡ fact))

  clash : (v : Bool) → v ≡ true → v ≡ false → ⊥
  clash v h g = let no : true ≡ false = sym h ∙ g in cc

  -- then no two have begun of two facts
  pub seen_all : (first : Option (List ℕ)) (walls : List (TokenRow Spot)) → Seen first walls → are_two far t walls ≡ false
  seen_all first walls seen = by (are_two far t walls) refl
    where
      none : (o : Option (List ℕ)) → Seen o walls → Two walls → ⊥
      none None s two = clash (begins_by far (Node t) two.one) two.one_begun (s two.one two.one_in)
      none (Some fact) s two =
          clash (same_name two.one.fact two.other.fact) ((bytes_decides two.one.fact two.other.fact).1 (s.0 two.one two.one_in two.one_begun ∙ sym (s.0 two.other two.other_in two.other_begun))) two.differ

      by : (v : Bool) → are_two far t walls ≡ v → v ≡ false
      by false e = refl
      by true e = absurd (none first seen (two_told walls e))

  -- one more token that has not begun
  pub seen_not : (first : Option (List ℕ)) (walls : List (TokenRow Spot)) (w : TokenRow Spot) → Seen first walls → begins_by far (Node t) w ≡ false → Seen first (walls ++ w ∷ [])
  seen_not None walls w seen not_yet = λ v at. elim (In-cases walls (w ∷ []) v at) [
    | inl there ↦ seen v there
    | inr here ↦ elim here [ inl same ↦ ap (begins_by far (Node t)) (sym same) ∙ not_yet | inr none ↦ absurd none ]
  ]
  seen_not (Some fact) walls w (all, (v, there, has, is)) not_yet = (
    (λ z at has_z. elim (In-cases walls (w ∷ []) z at) [
      | inl before ↦ all z before has_z
      | inr here ↦ elim here [ inl same ↦ absurd (clash (begins_by far (Node t) z) has_z (ap (begins_by far (Node t)) (sym same) ∙ not_yet)) | inr none ↦ absurd none ]
    ]),
    (v, In-left walls (w ∷ []) v there, has, is),
  )

  -- the first token that has begun
  pub seen_first : (walls : List (TokenRow Spot)) (w : TokenRow Spot) → Seen None walls → begins_by far (Node t) w ≡ true → Seen (Some w.fact) (walls ++ w ∷ [])
  seen_first walls w seen has = (
    (λ z at has_z. elim (In-cases walls (w ∷ []) z at) [
      | inl before ↦ absurd (clash (begins_by far (Node t) z) has_z (seen z before))
      | inr here ↦ elim here [ inl same ↦ ap (λ (k : TokenRow Spot). k.fact) (sym same) | inr none ↦ absurd none ]
    ]),
    (w, In-right walls (w ∷ []) w (inl refl), has, refl),
  )

  -- one more of the same fact
  pub seen_same : (fact : List ℕ) (walls : List (TokenRow Spot)) (w : TokenRow Spot) → Seen (Some fact) walls → same_name fact w.fact ≡ true → Seen (Some fact) (walls ++ w ∷ [])
  seen_same fact walls w (all, (v, there, has, is)) same_fact = (
    (λ z at has_z. elim (In-cases walls (w ∷ []) z at) [
      | inl before ↦ all z before has_z
      | inr here ↦ elim here [ inl same ↦ ap (λ (k : TokenRow Spot). k.fact) (sym same) ∙ sym ((bytes_decides fact w.fact).0 same_fact) | inr none ↦ absurd none ]
    ]),
    (v, In-left walls (w ∷ []) v there, has, is),
  )

  -- one more of another fact: two have begun, of two facts
  pub seen_other : (fact : List ℕ) (walls : List (TokenRow Spot)) (i : ℕ) (d : TokenRow Spot) → i < length walls → Seen (Some fact) (take i walls)
      → begins_by far (Node t) (slice_index_or walls i d) ≡ true → same_name fact (slice_index_or walls i d).fact ≡ false → are_two far t walls ≡ true
  seen_other fact walls i d within (all, (v, there, has, is)) has_next other = two_tells walls (record {
    one = v;
    other = slice_index_or walls i d;
    one_in = subst (In v) (take-append-drop i walls) (In-left (take i walls) (drop i walls) v there);
    other_in = In-from_Contains walls (slice_index_or walls i d) (Contains-get_or walls i d within);
    one_begun = has;
    other_begun = has_next;
    differ = ap (λ z. same_name z (slice_index_or walls i d).fact) is ∙ other;
  })

-- ---- walls

looser : (g : Bound) → bound_at_most g (negsuc 0) ≡ true → bound_at_most g (pos 0) ≡ true
looser (Finite x) h = grind (arith, ints)
looser Free h = cc

module _ (net : Net) (f : Forest) (moving : List ℕ) (k : TokenRow Spot) (t : ℕ) where
  abbrev far : Spot → Spot → Bound
  far = spot_distance net f

  pub between : (w : TokenRow Spot) → IsWall net f moving k w → begins_by (spot_distance net f) (Node t) w ≡ true → IsBetween (spot_distance net f) (Node t) k w
  between w wall has = record { class = wall.class; after = looser (spot_distance net f w.spot k.spot) wall.after; begun = has }

  -- a wall of another fact cuts the token
  cut : (w : TokenRow Spot) → IsWall net f moving k w → begins_by (spot_distance net f) (Node t) w ≡ true → same_name k.fact w.fact ≡ false → cuts of_one_class (spot_distance net f) k (Node t) w ≡ true
  cut w wall has differ =
      let class : same_name k.class w.class ≡ true = (bytes_decides k.class w.class).1 (sym wall.class) in
      λ i. ((class i && not (differ i)) && wall.after i) && has i

  pub over : (v w : TokenRow Spot) → IsWall net f moving k v → IsWall net f moving k w → begins_by (spot_distance net f) (Node t) v ≡ true → begins_by (spot_distance net f) (Node t) w ≡ true → v.fact ≢ w.fact
      → lasts_to of_one_class (spot_distance net f) (v ∷ w ∷ []) k (Node t) k.end ≡ false
  over v w wall_v wall_w has_v has_w differ = subst (λ o. lasts_to of_one_class (spot_distance net f) (v ∷ w ∷ []) k (Node t) o ≡ false) (sym wall_v.endless)
      (elim (other_fact k.fact v.fact w.fact differ) [
        | inl of_v ↦ first (cuts of_one_class (spot_distance net f) k (Node t) v) (cuts of_one_class (spot_distance net f) k (Node t) w) (cut v wall_v has_v of_v)
        | inr of_w ↦ second (cuts of_one_class (spot_distance net f) k (Node t) v) (cuts of_one_class (spot_distance net f) k (Node t) w) (cut w wall_w has_w of_w)
      ])
    where
      first : (a b : Bool) → a ≡ true → not (a || (b || false)) ≡ false
      first true b e = refl
      first false b e = cc

      second : (a b : Bool) → b ≡ true → not (a || (b || false)) ≡ false
      second true b e = refl
      second false true e = refl
      second false false e = cc

  walled : (walls : List (TokenRow Spot)) → All (IsWall net f moving k) walls → Two (spot_distance net f) t walls → IsWalledOff net f moving t k
  walled walls all two =
      let one = All-contains (IsWall net f moving k) walls two.one all (Contains-from_In walls two.one two.one_in) in
      let other = All-contains (IsWall net f moving k) walls two.other all (Contains-from_In walls two.other two.other_in) in
      let differ : two.one.fact ≢ two.other.fact = λ same. clash (spot_distance net f) t (same_name two.one.fact two.other.fact) ((bytes_decides two.one.fact two.other.fact).1 same) two.differ in
      record {
        one = two.one;
        other = two.other;
        one_stays = one.of_other;
        other_stays = other.of_other;
        walls = record {
          one = between two.one one two.one_begun;
          other = between two.other other two.other_begun;
          differ = differ;
          over = over two.one two.other one other two.one_begun two.other_begun differ;
        };
      }

-- **Where a window spares an event, its token bears on no decision there.**
pub spared_by : (moving : List ℕ) (x : ℕ) (w : Window) → IsWindowOf moving x w → (t : ℕ) → is_spared (spot_distance (net_in w) (forest (tree_in w))) w.token w.walls.items t ≡ true
    → IsSparedBy (net_in w) (forest (tree_in w)) moving x t
spared_by moving x w is t e = record {
  node = is.node;
  here = is.here;
  row = w.token;
  is = is.is;
  spared = by (begins_by (spot_distance (net_in w) (forest (tree_in w))) (Node t) w.token) refl e;
}
  where
    by : (v : Bool) → begins_by (spot_distance (net_in w) (forest (tree_in w))) (Node t) w.token ≡ v
        → (not v || are_two (spot_distance (net_in w) (forest (tree_in w))) t w.walls.items) ≡ true
        → (begins_by (spot_distance (net_in w) (forest (tree_in w))) (Node t) w.token ≡ false) ⊎ IsWalledOff (net_in w) (forest (tree_in w)) moving t w.token
    by false begun h = inl begun
    by true begun h =
        inr (walled (net_in w) (forest (tree_in w)) moving w.token t w.walls.items is.walls (two_told (spot_distance (net_in w) (forest (tree_in w))) t w.walls.items h))
