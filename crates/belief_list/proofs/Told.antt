-- What is told of differences is what changed.
use Rattle.std.proofs.Common.{◌≡◌, ◌∙◌, ℕ, ◌+◌, ◌<◌, Bool, true, false, List, [], ◌∷◌, ◌++◌, map, length, drop, refl, sym, ap, subst, inl, inr}
use Rattle.std.specs.Prelude.{◌↔◌, ◌⊎◌, ◌==◌, not, ◌&&◌, ◌||◌, filter, cond, Option, Some, None, IfSome, nat_eq, slice_index_or}
use Rattle.std.specs.List.{All, AllByRecursion, Contains, IsDistinct, filter_map}
use Rattle.std.specs.List.Sorted.{IsPermutation}
use Rattle.std.specs.Option.{is_some, is_none, option_map, option_and_then, option_eq}
use Rattle.std.specs.declared.cmp.Ordering.{Ordering}
use Rattle.std.specs.declared.cmp.Ordering.TheVariants.{Less, Equal}
use Rattle.std.specs.Ordering.{int_cmp, nat_cmp, ordering_then}
use Rattle.std.specs.Cmp.{IsTotalOrder}
use Rattle.std.specs.Cmp.Lexicographic.{slice_cmp, nat_list_cmp_total}
use Rattle.std.proofs.lemmas.Bool.Decides.{Decides-eqb}
use Rattle.std.proofs.lemmas.Cmp.{then_total, on_total, int_cmp_total, nat_eq_equiv}
use Rattle.std.proofs.lemmas.List.{append_assoc, map_push, drop_more}
use Rattle.std.proofs.lemmas.List.Elements.{All-contains, Contains-get_or}
use Rattle.std.proofs.lemmas.List.Sorted.{Contains-permutation, IsPermutation-map, IsPermutation-sym}
use Rattle.std.proofs.lemmas.Option.{same_Some}
use Rattle.std.proofs.lemmas.Map.Keys.{IsDistinct-head, IsDistinct-tail, IsDistinct-cons, IsDistinct-IsPermutation}
use Rattle.tmm_model.specs.declared.premise.Edit.{Edit}
use Rattle.tmm_model.specs.Answers.{Row, clip}
use Rattle.tmm_model.specs.Changes as changes
use Rattle.tmm_model.specs.Changes.{delta, in_order}
use Rattle.tmm_model.specs.Maps.{built, order, is_believed}
use Rattle.tmm_model.specs.Moments.{Moment, same_moment, early, printed, is_derived, moment_of}
use Rattle.tmm_model.specs.Standing.{Standing, far_in}
use Rattle.list_theory.proofs.Distinct.{Rising}
use Rattle.list_theory.proofs.Elements.{both, In, In-map, map-In, In-filter, filter-In, filter_map-In, In-from_Contains, Contains-from_In, each_in}
use Rattle.belief_theory.proofs.Moments.{Decides-same_moment}
use Rattle.belief_theory.proofs.Order.{IsSpelt, ordered, total}
use Rattle.belief_theory.proofs.Sorts.{sorted_in, sorted_rising}
use Rattle.belief_theory.proofs.Spelt.{spelt}
use Rattle.belief_theory.proofs.Upholding.{among, is_among-Contains}
use Rattle.premise_list.specs.States.{States}
use Rattle.dist_net.specs.Net.{Net, Nets}
use Rattle.spots.specs.Forest.{Forest, Member, member, IsLive, moment, moment_at}
use Rattle.spots.specs.OfLists.{IsForestOf, HasOccurrences}
use Rattle.spots.proofs.Nodes.{node_at, live_at, moment_at-is}
use Rattle.spots.proofs.Seen.{occurs_at, believed_once, order_is}
use Rattle.occ_tree.specs.Dated.{IsDatedBy}
use Rattle.occ_tree.specs.Ranks.{rank_cmp}
use Rattle.occ_tree.specs.Standing.{Kept, State, forest, nodes_in, present}
use Rattle.occ_tree.proofs.Ordered.{rank_is}
use Rattle.occ_tree.proofs.Ranking.{rank_total}
use Rattle.supports.specs.Edited.{old_forest}
use Rattle.belief_list.specs.declared.left_nodes.LeftNode.{LeftNode}
use Rattle.belief_list.specs.declared.kept_rows.KeptRow.{KeptRow}
use Rattle.belief_list.specs.declared.kept_rows.Difference.{Difference}
use Rattle.belief_list.specs.declared.told_changes.Told.{Told}
use Rattle.belief_list.specs.LeftNodes.{AreWords, if_derived}
use Rattle.belief_list.specs.KeptRows.{row_under, rows_after, numbers_of, IsRowOf, AreRowsOf, AreDifferences}
use Rattle.belief_list.specs.Tables.{place_in, item_under, IsTable}
use Rattle.belief_list.specs.Told.{clip_of, is_entered, is_loosened, if_new, new_clip, is_told, entered_at, loosened_at, clipped_at, left_at, differences_of, told_cmp, AreInOrder, AreRanked, IsToldThen}
use Rattle.belief_list.proofs.LeftNodes.{gone_at, told_at, untold_at}
use Rattle.belief_list.proofs.Tables.{at-In, under_own, under_all}
use Rattle.belief_list.proofs.Rising.{rising_sorted, rising_map, filter_some, same_told}

-- what is there or not
is_it : {X : Type 0} (o : Option X) → (o ≡ None) ⊎ ((x : X) × (o ≡ Some x))
is_it None = inl refl
is_it (Some x) = inr (x, refl)

not_both : {X : Type 0} (o : Option X) (x : X) → o ≡ None → o ≡ Some x → ⊥
not_both o x e g = let no : None ≡ Some x = sym e ∙ g in cc (no)

-- what is told where a test passes
some_if : {X : Type 0} (b : Bool) (k y : X) → elim b as (λ _. Option X) [ true ↦ Some k | false ↦ None ] ≡ Some y → y ≡ k
some_if true k y e = let same : k ≡ y = cc in sym same
some_if false k y e = absurd (cc (e))

passed : {X : Type 0} (b : Bool) (k y : X) → elim b as (λ _. Option X) [ true ↦ Some k | false ↦ None ] ≡ Some y → b ≡ true
passed true k y e = refl
passed false k y e = absurd (cc (e))

or_true : (b : Bool) → (b || true) ≡ true
or_true true = refl
or_true false = refl

-- what clips a node anew is a node
pub new_live : (f : Forest) (was now : Option ℕ) (by : ℕ) → if_new f was now ≡ Some by → IsLive f by
new_live f was None by e = absurd (cc (e))
new_live f was (Some c) by e = go (is_some (member f c)) (not (option_eq nat_eq was (Some c))) refl e
  where
    go : (a b : Bool) → is_some (member f c) ≡ a → elim (a && b) as (λ _. Option ℕ) [ true ↦ Some c | false ↦ None ] ≡ Some by → IsLive f by
    go true true there is = let same : c ≡ by = cc in subst (IsLive f) same there
    go true false there is = absurd (cc (is))
    go false b there is = absurd (cc (is))

pub clipped_by : (f : Forest) (d : Difference) (by : ℕ) → new_clip f d ≡ Some by → clipped_at f d ≡ Some (moment_at f d.node, moment_at f by)
clipped_by f d by e = ap (λ o. elim o as (λ _. Option (Moment × Moment)) [ Some z ↦ Some (moment_at f d.node, moment_at f z) | None ↦ None ]) e

pub clipped_by_none : (f : Forest) (d : Difference) → new_clip f d ≡ None → clipped_at f d ≡ None
clipped_by_none f d e = ap (λ o. elim o as (λ _. Option (Moment × Moment)) [ Some z ↦ Some (moment_at f d.node, moment_at f z) | None ↦ None ]) e

-- ---- rows that are kept of nodes

module _ (s : Standing) (f : Forest) (rows : ℕ → Option KeptRow) (are : AreRowsOf s f rows) where
  -- a row is that of a node
  row_of_node : (x : ℕ) (r : KeptRow) → rows x ≡ Some r → IsLive f x × IsRowOf s f x r
  row_of_node x r e = by (member f x) refl
    where
      by : (o : Option Member) → member f x ≡ o → IsLive f x × IsRowOf s f x r
      by None none = absurd (not_both (rows x) r (are.none x none) e)
      by (Some m) here =
          let live = live_at f x m here in
          let (q, at, is) = are.own x live in
          let same : q ≡ r = (let both : Some q ≡ Some r = sym at ∙ e in cc) in
          (live, subst (IsRowOf s f x) same is)

  date_of : (x : ℕ) (r : KeptRow) → rows x ≡ Some r → r.early ≡ early s (far_in s.premises) (moment_at f x)
  date_of x r e = ap (λ (w : Row). w.date) (row_of_node x r e).1.told

  clip_is : (x : ℕ) (r : KeptRow) → rows x ≡ Some r → option_map (moment_at f) r.clip ≡ clip (built s) (moment_at f x)
  clip_is x r e = ap (λ (w : Row). w.clip) (row_of_node x r e).1.told

  module _ (holds : HasOccurrences (built s).believed f) where
    -- nodes are what is believed
    believed_node : (x : ℕ) → IsLive f x → Contains (built s).believed (moment_at f x)
    believed_node x live =
        let (m, here) = node_at f x live in
        subst (Contains (built s).believed) (sym (moment_at-is f x m here)) (holds.own x m here)

    node_of : (k : Moment) → Contains (built s).believed k → (x : ℕ) × IsLive f x × (moment_at f x ≡ k)
    node_of k there = let (x, m, here, is) = holds.all k there in (x, live_at f x m here, moment_at-is f x m here ∙ is)

    -- a node of another forest is believed where a row stands under its number
    believed_is : (other : Forest) → ((y x : ℕ) → IsLive f y → IsLive other x → (moment_at f y ≡ moment_at other x) ↔ (y ≡ x)) → (x : ℕ) → IsLive other x → is_believed (built s) (moment_at other x) ≡ is_some (rows x)
    believed_is other numbers x live = by (is_believed (built s) (moment_at other x)) (rows x) refl refl
      where
        by : (b : Bool) (o : Option KeptRow) → is_believed (built s) (moment_at other x) ≡ b → rows x ≡ o → b ≡ is_some o
        by true (Some r) e g = refl
        by false None e g = refl
        by true None e g =
            let (y, there, is) = node_of (moment_at other x) (among (built s).believed (moment_at other x) e) in
            let (r, at, told) = are.own y there in
            absurd (not_both (rows x) r g (ap rows (sym ((numbers y x there live).0 is)) ∙ at))
        by false (Some r) e g =
            let there = (row_of_node x r g).0 in
            let t : is_believed (built s) (moment_at other x) ≡ true = is_among-Contains (built s).believed (moment_at other x) (subst (Contains (built s).believed) ((numbers x x there live).1 refl) (believed_node x there)) in
            cc

-- ---- differences

-- the row under a number is what the difference of that number makes of it
after_in : (rows : List (Option KeptRow)) (ds : List Difference) → IsDistinct nat_eq (numbers_of ds) → (d : Difference) → In d ds → rows_after rows ds d.node ≡ d.now
after_in rows [] once d at = absurd at
after_in rows (e ∷ ds) once d at = by (d.node == e.node) refl at (after_in rows ds (IsDistinct-tail nat_eq e.node (numbers_of ds) once) d)
  where
    apart : In d ds → d.node ≡ e.node → ⊥
    apart there same =
        let f : nat_eq e.node d.node ≡ false = each_in (λ y. nat_eq e.node y ≡ false) (numbers_of ds) (IsDistinct-head nat_eq e.node (numbers_of ds) once) d.node (map-In (λ (z : Difference). z.node) ds d there) in
        let t : nat_eq e.node d.node ≡ true = (Decides-eqb e.node d.node).1 (sym same) in
        cc

    by : (b : Bool) → (d.node == e.node) ≡ b → In d (e ∷ ds) → (In d ds → rows_after rows ds d.node ≡ d.now) → elim b as (λ _. Option KeptRow) [ true ↦ e.now | false ↦ rows_after rows ds d.node ] ≡ d.now
    by true g (inl is) rest = ap (λ (z : Difference). z.now) is
    by true g (inr there) rest = absurd (apart there ((Decides-eqb d.node e.node).0 g))
    by false g (inr there) rest = rest there
    by false g (inl is) rest =
        let t : (d.node == e.node) ≡ true = (Decides-eqb d.node e.node).1 (ap (λ (z : Difference). z.node) (sym is)) in
        cc

-- a number has a difference, or its row stays
after_or : (rows : List (Option KeptRow)) (ds : List Difference) (x : ℕ) → ((d : Difference) × In d ds × (d.node ≡ x)) ⊎ (rows_after rows ds x ≡ row_under rows x)
after_or rows [] x = inr refl
after_or rows (e ∷ ds) x = by (x == e.node) refl (after_or rows ds x)
  where
    by : (b : Bool) → (x == e.node) ≡ b → ((d : Difference) × In d ds × (d.node ≡ x)) ⊎ (rows_after rows ds x ≡ row_under rows x)
        → ((d : Difference) × In d (e ∷ ds) × (d.node ≡ x)) ⊎ (elim b as (λ _. Option KeptRow) [ true ↦ e.now | false ↦ rows_after rows ds x ] ≡ row_under rows x)
    by true g rest = inl (e, inl refl, sym ((Decides-eqb x e.node).0 g))
    by false g (inl found) = let (d, there, is) = found in inl (d, inr there, is)
    by false g (inr same) = inr same

-- of those that pass, each number stands once
once_filtered : (test : Difference → Bool) (ds : List Difference) → IsDistinct nat_eq (numbers_of ds) → IsDistinct nat_eq (numbers_of (filter test ds))
once_filtered test [] once = once
once_filtered test (d ∷ ds) once = by (test d) (once_filtered test ds (IsDistinct-tail nat_eq d.node (numbers_of ds) once))
  where
    others : (es : List Difference) → ((e : Difference) → In e es → In e ds) → AllByRecursion (λ y. nat_eq d.node y ≡ false) (numbers_of es)
    others [] inside = tt
    others (e ∷ es) inside = (
      each_in (λ y. nat_eq d.node y ≡ false) (numbers_of ds) (IsDistinct-head nat_eq d.node (numbers_of ds) once) e.node (map-In (λ (z : Difference). z.node) ds e (inside e (inl refl))),
      others es (λ z at. inside z (inr at)),
    )

    by : (b : Bool) → IsDistinct nat_eq (numbers_of (filter test ds)) → IsDistinct nat_eq (numbers_of (cond b (d ∷ filter test ds) (filter test ds)))
    by false rest = rest
    by true rest = IsDistinct-cons nat_eq d.node (numbers_of (filter test ds)) (others (filter test ds) (λ e at. (In-filter test ds e at).0)) rest

numbers_told : (told : List Told) → numbers_of (differences_of told) ≡ map (λ t. t.difference.node) told
numbers_told [] = refl
numbers_told (t ∷ told) = ap (λ l. t.difference.node ∷ l) (numbers_told told)

-- those of which something is told are those that pass, each once
module _ (test : Difference → Bool) (ds : List Difference) (told : List Difference) (same : IsPermutation (filter test ds) told) where
  pub told_in : (d : Difference) → In d told → In d ds × (test d ≡ true)
  told_in d at =
      In-filter test ds d
      (In-from_Contains (filter test ds) d
      (Contains-permutation told (filter test ds) d (IsPermutation-sym (filter test ds) told same) (Contains-from_In told d at)))

  in_told : (d : Difference) → In d ds → test d ≡ true → In d told
  in_told d at passes =
      In-from_Contains told d
      (Contains-permutation (filter test ds) told d same (Contains-from_In (filter test ds) d (filter-In test ds d at passes)))

  pub once_told : IsDistinct nat_eq (numbers_of ds) → IsDistinct nat_eq (numbers_of told)
  once_told once =
      IsDistinct-IsPermutation nat_eq nat_eq_equiv.symm (numbers_of (filter test ds)) (numbers_of told)
      (IsPermutation-map (λ (d : Difference). d.node) (filter test ds) told same) (once_filtered test ds once)

-- a node of which something is told is there
pub told_live : (f : Forest) (ds told : List Difference) → IsPermutation (filter (is_told f) ds) told → All (λ (d : Difference). IsLive f d.node) told
told_live f ds told same = λ k d below.
    let e = slice_index_or told k d in
    (both (is_some (member f e.node)) _ (told_in (is_told f) ds told same e (In-from_Contains told e (Contains-get_or told k d below))).1).0

-- ---- one more

module _ {X : Type 0} (told_of : X → Difference) (test : Difference → Bool) (told more : List X) (ds : List Difference) (i : ℕ) (d : Difference) (within : i < length ds)
    (before : map told_of told ++ filter test (drop i ds) ≡ filter test ds) where
  -- one that passes is told too
  pub pushed_same : (t : X) → more ≡ told ++ t ∷ [] → told_of t ≡ slice_index_or ds i d → test (slice_index_or ds i d) ≡ true → map told_of more ++ filter test (drop (i + 1) ds) ≡ filter test ds
  pushed_same t grown is passes =
      ap (λ l. map told_of l ++ filter test (drop (i + 1) ds)) grown
      ∙ ap (λ l. l ++ filter test (drop (i + 1) ds)) (map_push told_of told t)
      ∙ append_assoc (map told_of told) (told_of t ∷ []) (filter test (drop (i + 1) ds))
      ∙ (λ j. map told_of told ++ (is j ∷ filter test (drop (i + 1) ds)))
      ∙ (λ j. map told_of told ++ cond (sym passes j) (slice_index_or ds i d ∷ filter test (drop (i + 1) ds)) (filter test (drop (i + 1) ds)))
      ∙ ap (λ l. map told_of told ++ filter test l) (sym (drop_more ds i d within))
      ∙ before

  -- and one that does not is not
  pub passed_same : more ≡ told → test (slice_index_or ds i d) ≡ false → map told_of more ++ filter test (drop (i + 1) ds) ≡ filter test ds
  passed_same stayed fails =
      ap (λ l. map told_of l ++ filter test (drop (i + 1) ds)) stayed
      ∙ (λ j. map told_of told ++ cond (sym fails j) (slice_index_or ds i d ∷ filter test (drop (i + 1) ds)) (filter test (drop (i + 1) ds)))
      ∙ ap (λ l. map told_of told ++ filter test l) (sym (drop_more ds i d within))
      ∙ before

-- what is told of a node that is gone has its date and its word
pub told_then : (left : List LeftNode) (places : List (Option ℕ)) (t : Told) (d : Difference) (k : Moment) → t.difference ≡ d → left_at left places d ≡ Some k → ((r : KeptRow) → d.was ≡ Some r → t.early ≡ r.early) → t.word.items ≡ printed k
    → IsToldThen left places t
told_then left places t d k same found dated worded = record {
  early = λ r e. dated r (ap (λ (z : Difference). z.was) (sym same) ∙ e);
  word = λ l e. let one : k ≡ l = same_Some k l (sym found ∙ ap (left_at left places) (sym same) ∙ e) in worded ∙ ap printed one;
}

-- what is absent is none
pub absent_is : {X : Type 0} (found : Option X) (absent : Bool) → is_some found ≡ not absent → absent ≡ is_none found
absent_is None true e = refl
absent_is None false e = e
absent_is (Some x) true e = e
absent_is (Some x) false e = refl

-- ---- the order in which it is told

pub told_total : IsTotalOrder told_cmp
told_total = then_total (on_total (λ (t : Told). t.early) int_cmp_total) (on_total (λ (t : Told). t.word.items) nat_list_cmp_total)

-- date and word are those of the node
record IsToldAs (s : Standing) (f : Forest) (t : Told) : Type 0 where
  live : IsLive f t.difference.node
  date : t.early ≡ early s (far_in s.premises) (moment_at f t.difference.node)
  word : t.word.items ≡ printed (moment_at f t.difference.node)

module _ (s : Standing) (net : Net) (f : Forest) (seen : IsForestOf s net f) (holds : HasOccurrences (built s).believed f) where
  -- the believed occurrences rise
  believed_rise : Rising (order (built s)) (in_order (built s))
  believed_rise = sorted_rising (ordered s (far_in s.premises)) (built s).believed each (believed_once s seen.network.sound)
    where
      each : (k : Moment) → In k (built s).believed → IsSpelt k
      each k at =
          let (x, m, here, is) = holds.all k (Contains-from_In (built s).believed k at) in
          subst IsSpelt is (spelt s seen.network.sound.well_formed (moment m) (seen.members x m here).occurs)

  -- what is told in order rises
  told_rise : (told : List Told) → ((t : Told) → In t told → IsToldAs s f t) → IsDistinct nat_eq (map (λ t. t.difference.node) told) → AreInOrder told
      → Rising (λ d e. order (built s) (moment_at f d.node) (moment_at f e.node)) (differences_of told)
  told_rise told each once up =
      rising_map told_cmp (λ d e. order (built s) (moment_at f d.node) (moment_at f e.node)) (λ (t : Told). t.difference) told
      (λ p q at_p at_q less. sym (as_moments p q at_p at_q) ∙ less)
      (rising_sorted told_cmp told_total (λ (t : Told). t.difference.node) told up once ties)
    where
      as_moments : (p q : Told) → In p told → In q told → told_cmp p q ≡ order (built s) (moment_at f p.difference.node) (moment_at f q.difference.node)
      as_moments p q at_p at_q =
          let as_p = each p at_p in
          let as_q = each q at_q in
          λ i. ordering_then (int_cmp (as_p.date i) (as_q.date i)) (slice_cmp nat_cmp (as_p.word i) (as_q.word i))

      spelt_at : (x : ℕ) → IsLive f x → IsSpelt (moment_at f x)
      spelt_at x live = spelt s seen.network.sound.well_formed (moment_at f x) (occurs_at s net f seen x live)

      ties : (p q : Told) → In p told → In q told → told_cmp p q ≡ Equal → p.difference.node ≡ q.difference.node
      ties p q at_p at_q e =
          let live_p = (each p at_p).live in
          let live_q = (each q at_q).live in
          let same = (ordered s (far_in s.premises)).strict (moment_at f p.difference.node) (moment_at f q.difference.node) (spelt_at p.difference.node live_p) (spelt_at q.difference.node live_q) (sym (as_moments p q at_p at_q) ∙ e) in
          let (m, here) = node_at f p.difference.node live_p in
          let (n, there) = node_at f q.difference.node live_q in
          seen.once p.difference.node q.difference.node m n here there (sym (moment_at-is f p.difference.node m here) ∙ same ∙ moment_at-is f q.difference.node n there)

-- nodes that are sorted by what is kept of them rise
rising_as : {X : Type 0} (cmp order : X → X → Ordering) (xs : List X) → ((p q : X) → In p xs → In q xs → cmp p q ≡ Less → order p q ≡ Less) → Rising cmp xs → Rising order xs
rising_as cmp order [] keeps up = tt
rising_as cmp order (x ∷ xs) keeps up = ((λ y at. keeps x y (inl refl) (inr at) (up.0 y at)), rising_as cmp order xs (λ p q at_p at_q. keeps p q (inr at_p) (inr at_q)) up.1)

ranked_rise : (s : Standing) (net : Net) (k : State) → IsForestOf s net (forest k) → IsDatedBy net k → (told : List Difference) → ((d : Difference) → In d told → IsLive (forest k) d.node) → IsDistinct nat_eq (numbers_of told)
    → AreRanked k told → Rising (λ d e. order (built s) (moment_at (forest k) d.node) (moment_at (forest k) e.node)) told
ranked_rise s net k seen dated told live once up =
    rising_as by_rank (λ d e. order (built s) (moment_at f d.node) (moment_at f e.node)) told
    (λ p q at_p at_q less. sym (as_moments p q at_p at_q) ∙ less)
    (rising_sorted by_rank (on_total (λ (d : Difference). d.node) (rank_total (nodes_in k.rows))) (λ (d : Difference). d.node) told up once ties)
  where
    f : Forest
    f = forest k

    by_rank : Difference → Difference → Ordering
    by_rank p q = rank_cmp k p.node q.node

    as_moments : (p q : Difference) → In p told → In q told → by_rank p q ≡ order (built s) (moment_at f p.node) (moment_at f q.node)
    as_moments p q at_p at_q = rank_is net k dated p.node q.node (live p at_p) (live q at_q) ∙ order_is s net f seen p.node q.node (live p at_p) (live q at_q)

    spelt_at : (x : ℕ) → IsLive f x → IsSpelt (moment_at f x)
    spelt_at x there = spelt s seen.network.sound.well_formed (moment_at f x) (occurs_at s net f seen x there)

    ties : (p q : Difference) → In p told → In q told → by_rank p q ≡ Equal → p.node ≡ q.node
    ties p q at_p at_q e =
        let live_p = live p at_p in
        let live_q = live q at_q in
        let same = (ordered s (far_in s.premises)).strict (moment_at f p.node) (moment_at f q.node) (spelt_at p.node live_p) (spelt_at q.node live_q) (sym (as_moments p q at_p at_q) ∙ e) in
        let (m, here) = node_at f p.node live_p in
        let (n, there) = node_at f q.node live_q in
        seen.once p.node q.node m n here there (sym (moment_at-is f p.node m here) ∙ same ∙ moment_at-is f q.node n there)

-- ---- what an edit changes

module _ (lists : States) (nets : Nets) (edit : Edit) (tree : Kept) (kept : List (Option KeptRow)) (ds : List Difference) (made : AreDifferences lists nets edit tree kept ds) where
  abbrev before : Standing
  before = lists.committed

  abbrev after : Standing
  after = lists.present

  abbrev old : Forest
  old = old_forest tree

  abbrev new : Forest
  new = forest (present tree)

  abbrev was : ℕ → Option KeptRow
  was x = row_under kept x

  abbrev now : ℕ → Option KeptRow
  now x = rows_after kept ds x

  -- what becomes of a number
  abbrev of_number : ℕ → Difference
  of_number x = record { node = x; was = was x; now = now x }

  -- a difference tells what becomes of its number
  is_of_number : (d : Difference) → In d ds → d ≡ of_number d.node
  is_of_number d at =
      let told = All-contains (λ (z : Difference). z.was ≡ row_under kept z.node) ds d made.were (Contains-from_In ds d at) in
      let then_ = after_in kept ds made.once d at in
      λ i. record { node = d.node; was = told i; now = sym then_ i }

  other_way : (y x : ℕ) → IsLive new y → IsLive old x → (moment_at new y ≡ moment_at old x) ↔ (y ≡ x)
  other_way y x live_y live_x =
      let is = made.edited.numbers x y live_x live_y in (
        (λ e. sym (is.0 (sym e))),
        (λ e. sym (is.1 (sym e))),
      )

  was_believed : (x : ℕ) → IsLive new x → is_believed (built before) (moment_at new x) ≡ is_some (was x)
  was_believed x live = believed_is before old was made.before made.edited.holds_then new made.edited.numbers x live

  is_now_believed : (x : ℕ) → IsLive old x → is_believed (built after) (moment_at old x) ≡ is_some (now x)
  is_now_believed x live = believed_is after new now made.after made.edited.holds_now old other_way x live

  -- a node that is there before and after is one occurrence
  one_moment : (x : ℕ) → IsLive old x → IsLive new x → moment_at old x ≡ moment_at new x
  one_moment x then_ live = (made.edited.numbers x x then_ live).1 refl

  -- what clipped a node that was there
  clip_then : (x : ℕ) → IsLive new x → (r : KeptRow) → was x ≡ Some r → clip (built before) (moment_at new x) ≡ option_map (moment_at old) r.clip
  clip_then x live r e =
      let there = (row_of_node before old was made.before x r e).0 in
      ap (clip (built before)) (sym (one_moment x there live)) ∙ sym (clip_is before old was made.before x r e)

  -- ---- what is told by a test

  -- Of a map and its nodes the same is told as of differences, where it is told of each node what
  -- is told of what becomes of its number, and nothing where nothing becomes of it.
  module _ {Y : Type 0} (s : Standing) (net : Net) (f : Forest) (seen : IsForestOf s net f) (holds : HasOccurrences (built s).believed f) (rows : ℕ → Option KeptRow) (are : AreRowsOf s f rows)
      (stays : (x : ℕ) → now x ≡ was x → rows x ≡ was x)
      (test : Difference → Bool) (told : List Difference) (same : IsPermutation (filter test ds) told) (live_in : (d : Difference) → In d told → IsLive f d.node) (up : Rising (λ d e. order (built s) (moment_at f d.node) (moment_at f e.node)) told)
      (h : Difference → Option Y) (g : Moment → Option Y) (key : Y → Moment)
      (own_h : (d : Difference) (y : Y) → In d told → h d ≡ Some y → key y ≡ moment_at f d.node)
      (own_g : (k : Moment) (y : Y) → g k ≡ Some y → key y ≡ k)
      (tells : (x : ℕ) → IsLive f x → g (moment_at f x) ≡ h (of_number x))
      (quiet : (x : ℕ) (r : KeptRow) → h (record { node = x; was = Some r; now = Some r }) ≡ None)
      (passes : (d : Difference) (y : Y) → IsLive f d.node → h d ≡ Some y → test d ≡ true) where
    believed_in : (x : ℕ) → IsLive f x → In (moment_at f x) (in_order (built s))
    believed_in x live =
        (sorted_in (ordered s (far_in s.premises)) (built s).believed (moment_at f x)).1
        (In-from_Contains (built s).believed (moment_at f x) (believed_node s f rows are holds x live))

    told_is : filter_map h told ≡ filter_map g (in_order (built s))
    told_is =
        same_told (order (built s)) (total s (far_in s.premises)) (λ (d : Difference). moment_at f d.node) key told (in_order (built s))
        up
        (believed_rise s net f seen holds) h g own_h own_g into back
      where
        into : (d : Difference) (y : Y) → In d told → h d ≡ Some y → In y (filter_map g (in_order (built s)))
        into d y at e =
            let live = live_in d at in
            filter_map-In g (in_order (built s)) (moment_at f d.node) y (believed_in d.node live)
            (tells d.node live ∙ ap h (sym (is_of_number d (told_in test ds told same d at).0)) ∙ e)

        back : (k : Moment) (y : Y) → In k (in_order (built s)) → g k ≡ Some y → In y (filter_map h told)
        back k y at e =
            let (x, live, is) = node_of s f rows are holds k (Contains-from_In (built s).believed k ((sorted_in (ordered s (far_in s.premises)) (built s).believed k).0 at)) in
            let found : h (of_number x) ≡ Some y = sym (tells x live) ∙ ap g is ∙ e in
            elim (after_or kept ds x) [
              | inl changed ↦ let (d, there, number) = changed in of_difference x live found d there number
              | inr stayed ↦ absurd (not_both (h (of_number x)) y (of_none x live stayed) found)
            ]
          where
            of_difference : (x : ℕ) → IsLive f x → h (of_number x) ≡ Some y → (d : Difference) → In d ds → d.node ≡ x → In y (filter_map h told)
            of_difference x live found d there number =
                let e : h d ≡ Some y = ap h (is_of_number d there ∙ ap of_number number) ∙ found in
                filter_map-In h told d y (in_told test ds told same d there (passes d y (subst (IsLive f) (sym number) live) e)) e

            of_none : (x : ℕ) → IsLive f x → now x ≡ was x → h (of_number x) ≡ None
            of_none x live stayed =
                let (r, at, is) = are.own x live in
                let then_ : was x ≡ Some r = sym (stays x stayed) ∙ at in
                let now_ : now x ≡ Some r = stayed ∙ then_ in
                (λ i. h (record { node = x; was = then_ i; now = now_ i })) ∙ quiet x r

  -- ---- present nodes

  module _ (told : List Difference) (same : IsPermutation (filter (is_told new) ds) told) (dated : IsDatedBy nets.present (present tree)) (up : AreRanked (present tree) told) where
    there_now : (d : Difference) → In d told → IsLive new d.node
    there_now d at = (both (is_some (member new d.node)) _ (told_in (is_told new) ds told same d at).1).0

    rise_now : Rising (λ d e. order (built after) (moment_at new d.node) (moment_at new e.node)) told
    rise_now = ranked_rise after nets.present (present tree) made.edited.seen_now dated told there_now (once_told (is_told new) ds told same made.once) up

    -- **What entered.**
    pub entered_is : filter_map (entered_at new) told ≡ (delta (built before) (built after)).entered
    entered_is =
        told_is after nets.present new made.edited.seen_now made.edited.holds_now now made.after (λ x e. e) (is_told new) told same there_now rise_now
        (entered_at new) (λ k. elim (is_derived k && not (is_believed (built before) k)) [ true ↦ Some k | false ↦ None ]) (λ k. k)
        (λ d y at e. some_if (is_entered new d) (moment_at new d.node) y e)
        (λ k y e. some_if (is_derived k && not (is_believed (built before) k)) k y e)
        tells (λ x r. refl)
        (λ d y live e. (λ i. live i && (passed (is_entered new d) (moment_at new d.node) y e i || (is_loosened d || is_some (new_clip new d)))))
        ∙ filter_some (λ k. is_derived k && not (is_believed (built before) k)) (in_order (built after))
      where
        tells : (x : ℕ) → IsLive new x → elim (is_derived (moment_at new x) && not (is_believed (built before) (moment_at new x))) as (λ _. Option Moment) [ true ↦ Some (moment_at new x) | false ↦ None ] ≡ entered_at new (of_number x)
        tells x live =
            ap (λ b. elim (is_derived (moment_at new x) && not b) as (λ _. Option Moment) [ true ↦ Some (moment_at new x) | false ↦ None ]) (was_believed x live)
            ∙ by (is_derived (moment_at new x)) (was x)
          where
            by : (b : Bool) (o : Option KeptRow) → elim (b && not (is_some o)) as (λ _. Option Moment) [ true ↦ Some (moment_at new x) | false ↦ None ] ≡ elim (is_none o && b) [ true ↦ Some (moment_at new x) | false ↦ None ]
            by true (Some r) = refl
            by true None = refl
            by false (Some r) = refl
            by false None = refl

    -- **What is clipped no longer.**
    pub loosened_is : filter_map (loosened_at new) told ≡ (delta (built before) (built after)).loose
    loosened_is =
        told_is after nets.present new made.edited.seen_now made.edited.holds_now now made.after (λ x e. e) (is_told new) told same there_now rise_now
        (loosened_at new) (λ k. elim (is_believed (built before) k && is_some (clip (built before) k) && is_none (clip (built after) k)) [ true ↦ Some k | false ↦ None ]) (λ k. k)
        (λ d y at e. some_if (is_loosened d) (moment_at new d.node) y e)
        (λ k y e. some_if (is_believed (built before) k && is_some (clip (built before) k) && is_none (clip (built after) k)) k y e)
        tells (λ x r. no_change x r.clip)
        (λ d y live e. (λ i. live i && (is_entered new d || (passed (is_loosened d) (moment_at new d.node) y e i || is_some (new_clip new d)))) ∙ or_true (is_entered new d))
        ∙ filter_some (λ k. is_believed (built before) k && is_some (clip (built before) k) && is_none (clip (built after) k)) (in_order (built after))
      where
        no_change : (x : ℕ) (o : Option ℕ) → elim (is_some o && is_none o) as (λ _. Option Moment) [ true ↦ Some (moment_at new x) | false ↦ None ] ≡ None
        no_change x None = refl
        no_change x (Some c) = refl

        tells : (x : ℕ) → IsLive new x → elim (is_believed (built before) (moment_at new x) && is_some (clip (built before) (moment_at new x)) && is_none (clip (built after) (moment_at new x))) as (λ _. Option Moment) [ true ↦ Some (moment_at new x) | false ↦ None ] ≡ loosened_at new (of_number x)
        tells x live = let (r, at, is) = made.after.own x live in by r at (was x) refl
          where
            each : (o p : Option ℕ) → elim (is_some (option_map (moment_at old) o) && is_none (option_map (moment_at new) p)) as (λ _. Option Moment) [ true ↦ Some (moment_at new x) | false ↦ None ]
                ≡ elim (is_some o && is_none p) [ true ↦ Some (moment_at new x) | false ↦ None ]
            each None None = refl
            each None (Some c) = refl
            each (Some c) None = refl
            each (Some c) (Some e) = refl

            by : (r : KeptRow) → now x ≡ Some r → (o : Option KeptRow) → was x ≡ o
                → elim (is_believed (built before) (moment_at new x) && is_some (clip (built before) (moment_at new x)) && is_none (clip (built after) (moment_at new x))) as (λ _. Option Moment) [ true ↦ Some (moment_at new x) | false ↦ None ] ≡ loosened_at new (of_number x)
            by r at None none =
                let not_there = was_believed x live ∙ ap is_some none in
                (λ i. elim (not_there i && is_some (clip (built before) (moment_at new x)) && is_none (clip (built after) (moment_at new x))) as (λ _. Option Moment) [ true ↦ Some (moment_at new x) | false ↦ None ])
                ∙ (λ i. elim (is_some (clip_of (sym none i)) && is_none (clip_of (now x))) as (λ _. Option Moment) [ true ↦ Some (moment_at new x) | false ↦ None ])
            by r at (Some q) some =
                let there = was_believed x live ∙ ap is_some some in
                let then_ = clip_then x live q some in
                let now_ = sym (clip_is after new now made.after x r at) in
                (λ i. elim (there i && is_some (then_ i) && is_none (now_ i)) as (λ _. Option Moment) [ true ↦ Some (moment_at new x) | false ↦ None ])
                ∙ each q.clip r.clip
                ∙ (λ i. elim (is_some (clip_of (sym some i)) && is_none (clip_of (sym at i))) as (λ _. Option Moment) [ true ↦ Some (moment_at new x) | false ↦ None ])

    -- **What is newly clipped.**
    pub clipped_is : filter_map (clipped_at new) told ≡ (delta (built before) (built after)).clips
    clipped_is =
        told_is after nets.present new made.edited.seen_now made.edited.holds_now now made.after (λ x e. e) (is_told new) told same there_now rise_now
        (clipped_at new) (λ k. changes.new_clip (built before) (built after) k (clip (built after) k)) (λ (y : Moment × Moment). y.0)
        (λ d y at e. own_pair (moment_at new d.node) (new_clip new d) y e)
        (λ k y e. own_clip k (clip (built after) k) y e)
        tells (λ x r. no_change x r.clip)
        (λ d y live e. (λ i. live i && (is_entered new d || (is_loosened d || pair_there (moment_at new d.node) (new_clip new d) y e i))) ∙ ap (λ b. is_entered new d || b) (or_true (is_loosened d)) ∙ or_true (is_entered new d))
      where
        own_pair : (k : Moment) (o : Option ℕ) (y : Moment × Moment) → elim o as (λ _. Option (Moment × Moment)) [ Some z ↦ Some (k, moment_at new z) | None ↦ None ] ≡ Some y → y.0 ≡ k
        own_pair k None y e = absurd (cc (e))
        own_pair k (Some c) y e = let same : (k, moment_at new c) ≡ y = cc in ap (λ (z : Moment × Moment). z.0) (sym same)

        pair_there : (k : Moment) (o : Option ℕ) (y : Moment × Moment) → elim o as (λ _. Option (Moment × Moment)) [ Some z ↦ Some (k, moment_at new z) | None ↦ None ] ≡ Some y → is_some o ≡ true
        pair_there k None y e = absurd (cc (e))
        pair_there k (Some c) y e = refl

        own_clip : (k : Moment) (o : Option Moment) (y : Moment × Moment) → changes.new_clip (built before) (built after) k o ≡ Some y → y.0 ≡ k
        own_clip k None y e = absurd (cc (e))
        own_clip k (Some c) y e = by (is_believed (built before) k && option_eq same_moment (clip (built before) k) (Some c)) e
          where
            by : (b : Bool) → elim b as (λ _. Option (Moment × Moment)) [ true ↦ None | false ↦ Some (k, c) ] ≡ Some y → y.0 ≡ k
            by true e = absurd (cc (e))
            by false e = let same : (k, c) ≡ y = cc in ap (λ (z : Moment × Moment). z.0) (sym same)

        no_change : (x : ℕ) (o : Option ℕ) → elim (if_new new o o) as (λ _. Option (Moment × Moment)) [ Some z ↦ Some (moment_at new x, moment_at new z) | None ↦ None ] ≡ None
        no_change x None = refl
        no_change x (Some c) =
            (λ i. elim (elim (is_some (member new c) && not ((Decides-eqb c c).1 refl i)) as (λ _. Option ℕ) [ true ↦ Some c | false ↦ None ]) as (λ _. Option (Moment × Moment)) [ Some z ↦ Some (moment_at new x, moment_at new z) | None ↦ None ])
            ∙ by (is_some (member new c))
          where
            by : (b : Bool) → elim (elim (b && false) as (λ _. Option ℕ) [ true ↦ Some c | false ↦ None ]) as (λ _. Option (Moment × Moment)) [ Some z ↦ Some (moment_at new x, moment_at new z) | None ↦ None ] ≡ None
            by true = refl
            by false = refl

        -- a node clips before as its occurrence does
        same_by : (c e : ℕ) → IsLive old c → IsLive new e → same_moment (moment_at old c) (moment_at new e) ≡ nat_eq c e
        same_by c e live_c live_e = by (same_moment (moment_at old c) (moment_at new e)) (nat_eq c e) refl refl
          where
            by : (a b : Bool) → same_moment (moment_at old c) (moment_at new e) ≡ a → nat_eq c e ≡ b → a ≡ b
            by true true f g = refl
            by false false f g = refl
            by true false f g =
                let one = (made.edited.numbers c e live_c live_e).0 ((Decides-same_moment (moment_at old c) (moment_at new e)).0 f) in
                let t : nat_eq c e ≡ true = (Decides-eqb c e).1 one in
                cc
            by false true f g =
                let t : same_moment (moment_at old c) (moment_at new e) ≡ true = (Decides-same_moment (moment_at old c) (moment_at new e)).1 ((made.edited.numbers c e live_c live_e).1 ((Decides-eqb c e).0 g)) in
                cc

        same_clip : (o : Option ℕ) (e : ℕ) → IfSome o (IsLive old) → IsLive new e → option_eq same_moment (option_map (moment_at old) o) (Some (moment_at new e)) ≡ option_eq nat_eq o (Some e)
        same_clip None e live_o live_e = refl
        same_clip (Some c) e live_o live_e = same_by c e live_o live_e

        -- whether the clip is the one that was
        was_same : (x e : ℕ) → IsLive new x → IsLive new e → (is_believed (built before) (moment_at new x) && option_eq same_moment (clip (built before) (moment_at new x)) (Some (moment_at new e))) ≡ option_eq nat_eq (clip_of (was x)) (Some e)
        was_same x e live live_e = by (was x) refl
          where
            by : (o : Option KeptRow) → was x ≡ o → (is_believed (built before) (moment_at new x) && option_eq same_moment (clip (built before) (moment_at new x)) (Some (moment_at new e))) ≡ option_eq nat_eq (clip_of (was x)) (Some e)
            by None none =
                let not_there = was_believed x live ∙ ap is_some none in
                (λ i. not_there i && option_eq same_moment (clip (built before) (moment_at new x)) (Some (moment_at new e))) ∙ ap (λ o. option_eq nat_eq (clip_of o) (Some e)) (sym none)
            by (Some q) some =
                let there = was_believed x live ∙ ap is_some some in
                let then_ = clip_then x live q some in
                (λ i. there i && option_eq same_moment (then_ i) (Some (moment_at new e)))
                ∙ same_clip q.clip e (row_of_node before old was made.before x q some).1.clip live_e
                ∙ ap (λ o. option_eq nat_eq (clip_of o) (Some e)) (sym some)

        tells : (x : ℕ) → IsLive new x → changes.new_clip (built before) (built after) (moment_at new x) (clip (built after) (moment_at new x)) ≡ clipped_at new (of_number x)
        tells x live =
            let (r, at, is) = made.after.own x live in
            ap (changes.new_clip (built before) (built after) (moment_at new x)) (sym (clip_is after new now made.after x r at))
            ∙ by r.clip is.clip
            ∙ ap (λ o. elim (if_new new (clip_of (was x)) (clip_of o)) as (λ _. Option (Moment × Moment)) [ Some z ↦ Some (moment_at new x, moment_at new z) | None ↦ None ]) (sym at)
          where
            by : (o : Option ℕ) → IfSome o (IsLive new) → changes.new_clip (built before) (built after) (moment_at new x) (option_map (moment_at new) o)
                ≡ elim (if_new new (clip_of (was x)) o) [ Some z ↦ Some (moment_at new x, moment_at new z) | None ↦ None ]
            by None live_o = refl
            by (Some c) live_o =
                ap (λ b. elim b as (λ _. Option (Moment × Moment)) [ true ↦ None | false ↦ Some (moment_at new x, moment_at new c) ]) (was_same x c live live_o)
                ∙ each (option_eq nat_eq (clip_of (was x)) (Some c))
                ∙ (λ i. elim (elim (sym live_o i && not (option_eq nat_eq (clip_of (was x)) (Some c))) as (λ _. Option ℕ) [ true ↦ Some c | false ↦ None ]) as (λ _. Option (Moment × Moment)) [ Some z ↦ Some (moment_at new x, moment_at new z) | None ↦ None ])
              where
                each : (b : Bool) → elim b as (λ _. Option (Moment × Moment)) [ true ↦ None | false ↦ Some (moment_at new x, moment_at new c) ]
                    ≡ elim (elim (true && not b) as (λ _. Option ℕ) [ true ↦ Some c | false ↦ None ]) [ Some z ↦ Some (moment_at new x, moment_at new z) | None ↦ None ]
                each true = refl
                each false = refl

  -- ---- nodes that are gone

  module _ (left : List LeftNode) (words : AreWords old new left) (places : List (Option ℕ)) (table : IsTable (map (λ n. n.node) left) places) where
    -- no row stands under the number of a node that is gone
    no_node : (x : ℕ) → now x ≡ None → member new x ≡ None
    no_node x none = by (member new x) refl
      where
        by : (o : Option Member) → member new x ≡ o → o ≡ None
        by None e = refl
        by (Some m) e = let (r, at, is) = made.after.own x (live_at new x m e) in absurd (not_both (now x) r none at)

    -- what is told of a number whose node is gone
    gone_is : (x : ℕ) → IsLive old x → now x ≡ None → gone_at old new x ≡ option_and_then (λ n. if_derived (moment_of n.occ.now)) (item_under left places x)
    gone_is x live none = by (item_under left places x) refl
      where
        by : (o : Option LeftNode) → item_under left places x ≡ o → gone_at old new x ≡ option_and_then (λ n. if_derived (moment_of n.occ.now)) o
        by None e =
            untold_at old new left words x live (no_node x none)
            (λ there. let (n, at) = under_all (λ (n : LeftNode). n.node) left places table x there in not_both (item_under left places x) n e at)
        by (Some n) e =
            told_at old new left words x live (no_node x none) n (Contains-from_In left n (at-In left (place_in places x) n e)) (under_own (λ (n : LeftNode). n.node) left places table x n e)

    tells_left : (x : ℕ) → IsLive old x → elim (is_derived (moment_at old x) && not (is_believed (built after) (moment_at old x))) as (λ _. Option Moment) [ true ↦ Some (moment_at old x) | false ↦ None ] ≡ left_at left places (of_number x)
    tells_left x live = let (r, at, is) = made.before.own x live in by r at (now x) refl
      where
        by : (r : KeptRow) → was x ≡ Some r → (o : Option KeptRow) → now x ≡ o
            → elim (is_derived (moment_at old x) && not (is_believed (built after) (moment_at old x))) as (λ _. Option Moment) [ true ↦ Some (moment_at old x) | false ↦ None ] ≡ left_at left places (of_number x)
        by r at None none =
            let not_there : not (is_believed (built after) (moment_at old x)) ≡ is_none (member new x) = ap not (is_now_believed x live ∙ ap is_some none) ∙ ap is_none (sym (no_node x none)) in
            (λ i. elim (is_derived (moment_at old x) && not_there i) as (λ _. Option Moment) [ true ↦ Some (moment_at old x) | false ↦ None ])
            ∙ gone_is x live none
            ∙ (λ i. elim (is_some (sym at i) && is_none (sym none i)) as (λ _. Option Moment) [ true ↦ option_and_then (λ n. if_derived (moment_of n.occ.now)) (item_under left places x) | false ↦ None ])
        by r at (Some q) some =
            let there = is_now_believed x live ∙ ap is_some some in
            (λ i. elim (is_derived (moment_at old x) && not (there i)) as (λ _. Option Moment) [ true ↦ Some (moment_at old x) | false ↦ None ])
            ∙ none_of (is_derived (moment_at old x))
            ∙ (λ i. elim (is_some (sym at i) && is_none (sym some i)) as (λ _. Option Moment) [ true ↦ option_and_then (λ n. if_derived (moment_of n.occ.now)) (item_under left places x) | false ↦ None ])
          where
            none_of : (b : Bool) → elim (b && false) as (λ _. Option Moment) [ true ↦ Some (moment_at old x) | false ↦ None ] ≡ None
            none_of true = refl
            none_of false = refl

    -- what is told is the occurrence of a node that was there
    left_is : (d : Difference) → In d ds → (k : Moment) → left_at left places d ≡ Some k → IsLive old d.node × ((r : KeptRow) × (d.was ≡ Some r)) × (k ≡ moment_at old d.node)
    left_is d there k e = by d.was refl
      where
        by : (o : Option KeptRow) → d.was ≡ o → IsLive old d.node × ((r : KeptRow) × (d.was ≡ Some r)) × (k ≡ moment_at old d.node)
        by None none =
            absurd (not_both (left_at left places d) k
            (λ i. elim (is_some (none i) && is_none d.now) as (λ _. Option Moment) [ true ↦ option_and_then (λ n. if_derived (moment_of n.occ.now)) (item_under left places d.node) | false ↦ None ])
            e)
        by (Some r) some =
            let at : was d.node ≡ Some r = sym (ap (λ (z : Difference). z.was) (is_of_number d there)) ∙ some in
            let live = (row_of_node before old was made.before d.node r at).0 in (
              live,
              (r, some),
              some_if (is_derived (moment_at old d.node) && not (is_believed (built after) (moment_at old d.node))) (moment_at old d.node) k
                  (tells_left d.node live ∙ ap (left_at left places) (sym (is_of_number d there)) ∙ e),
            )

    module _ (told : List Told) (same : IsPermutation (filter (λ d. is_some (left_at left places d)) ds) (differences_of told)) (all : All (IsToldThen left places) told) (up : AreInOrder told) where
      as_then : (t : Told) → In t told → IsToldAs before old t
      as_then t at =
          let is = All-contains (IsToldThen left places) told t all (Contains-from_In told t at) in
          let (there, passes) = told_in (λ d. is_some (left_at left places d)) ds (differences_of told) same t.difference (map-In (λ (z : Told). z.difference) told t at) in
          elim (is_it (left_at left places t.difference)) [
            | inl none ↦ absurd (let t : false ≡ true = sym (ap is_some none) ∙ passes in cc (t))
            | inr some ↦ of_some is.early is.word there some
          ]
        where
          of_some : ((r : KeptRow) → t.difference.was ≡ Some r → t.early ≡ r.early) → ((k : Moment) → left_at left places t.difference ≡ Some k → t.word.items ≡ printed k) → In t.difference ds
              → (k : Moment) × (left_at left places t.difference ≡ Some k) → IsToldAs before old t
          of_some early word there (k, e) =
              let (live, (r, some), is) = left_is t.difference there k e in record {
                live = live;
                date = early r some ∙ date_of before old was made.before t.difference.node r (sym (ap (λ (z : Difference). z.was) (is_of_number t.difference there)) ∙ some);
                word = word k e ∙ ap printed is;
              }

      there_then : (d : Difference) → In d (differences_of told) → IsLive old d.node
      there_then d at = let (t, there, is) = In-map (λ (t : Told). t.difference) told d at in subst (λ (z : Difference). IsLive old z.node) is (as_then t there).live

      rise_then : Rising (λ d e. order (built before) (moment_at old d.node) (moment_at old e.node)) (differences_of told)
      rise_then =
          told_rise before nets.committed old made.edited.seen_then made.edited.holds_then told as_then
          (subst (IsDistinct nat_eq) (numbers_told told) (once_told (λ d. is_some (left_at left places d)) ds (differences_of told) same made.once)) up

      -- **What is gone.**
      pub gone_told : filter_map (left_at left places) (differences_of told) ≡ (delta (built before) (built after)).left
      gone_told =
          told_is before nets.committed old made.edited.seen_then made.edited.holds_then was made.before (λ x e. refl) (λ d. is_some (left_at left places d)) (differences_of told) same there_then rise_then
          (left_at left places) (λ k. elim (is_derived k && not (is_believed (built after) k)) [ true ↦ Some k | false ↦ None ]) (λ k. k)
          (λ d y at e. let (live, some, is) = left_is d (told_in (λ z. is_some (left_at left places z)) ds (differences_of told) same d at).0 y e in is)
          (λ k y e. some_if (is_derived k && not (is_believed (built after) k)) k y e)
          tells_left (λ x r. refl) (λ d y live e. ap is_some e)
          ∙ filter_some (λ k. is_derived k && not (is_believed (built after) k)) (in_order (built before))
