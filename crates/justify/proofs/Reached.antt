-- A list of nodes that is walked while it grows: at its end it has all that the first rests on.
use Rattle.std.proofs.Common.{◌≡◌, ◌∙◌, ℕ, zero, suc, ◌+◌, ◌<◌, ◌≤◌, Bool, true, false, List, [], ◌∷◌, ◌++◌, map, length, refl, sym, ap, subst, inl, inr, arith, append_assoc, append-nil}
use Rattle.std.specs.Prelude.{Some, nat_eq, cond, slice_get}
use Rattle.std.specs.List.{All, Contains, IsDistinct, list_any}
use Rattle.std.proofs.lemmas.Bool.Decides.{Decides-eqb}
use Rattle.std.proofs.lemmas.Cmp.{nat_eq_equiv}
use Rattle.std.proofs.lemmas.List.Elements.{All-contains, All-append}
use Rattle.std.proofs.lemmas.Map.Keys.{IsDistinct-push}
use Rattle.std.proofs.lemmas.Map.Steps.{length-le_from_distinct_below}
use Rattle.std.proofs.lemmas.Option.{slice_get_within}
use Rattle.tmm_model.specs.Maps.{TimeMap}
use Rattle.tmm_model.specs.Moments.{Moment}
use Rattle.tmm_model.specs.Reasons.{rests_on, Upholds, itself, through}
use Rattle.list_theory.proofs.Elements.{In, In-left, In-right, In-cases, In-map, map-In, list_any-In, In-from_Contains, Contains-from_In}
use Rattle.walk_theory.proofs.Members.{All-from_contains}
use Rattle.belief_theory.proofs.Upholding.{further}
use Rattle.indexmap.specs.IndexSet.{insert_key, insert_all}
use Rattle.spots.specs.Forest.{Forest, IsLive, moment_at}
use Rattle.justify.specs.Grounds.{AddsGrounds, AreUpholders}

-- ---- keys

-- what is behind the old keys after one more
record IsMore (old new : List ℕ) (x : ℕ) : Type 0 where
  rest : List ℕ
  behind : new ≡ old ++ rest
  own : (y : ℕ) → In y rest → y ≡ x
  there : In x new

one_more : (keys : List ℕ) (x : ℕ) → IsMore keys (insert_key nat_eq keys x) x
one_more keys x = by (list_any (nat_eq x) keys) refl
  where
    by : (b : Bool) → list_any (nat_eq x) keys ≡ b → IsMore keys (cond b keys (keys ++ x ∷ [])) x
    by true e =
        let (y, at, same) = list_any-In (nat_eq x) keys e in record {
          rest = [];
          behind = sym (append-nil keys);
          own = λ y none. absurd none;
          there = subst (λ z. In z keys) (sym ((Decides-eqb x y).0 same)) at;
        }
    by false e = record {
      rest = x ∷ [];
      behind = refl;
      own = λ y at. elim at [ inl is ↦ sym is | inr none ↦ absurd none ];
      there = In-right keys (x ∷ []) x (inl refl);
    }

pub once_more : (keys : List ℕ) (x : ℕ) → IsDistinct nat_eq keys → IsDistinct nat_eq (insert_key nat_eq keys x)
once_more keys x once = by (list_any (nat_eq x) keys) refl
  where
    by : (b : Bool) → list_any (nat_eq x) keys ≡ b → IsDistinct nat_eq (cond b keys (keys ++ x ∷ []))
    by true e = once
    by false e = IsDistinct-push nat_eq_equiv keys x once e

-- what is behind the old keys after some more
record AreMore (old new nodes : List ℕ) : Type 0 where
  rest : List ℕ
  behind : new ≡ old ++ rest
  own : (y : ℕ) → In y rest → In y nodes
  there : (y : ℕ) → In y nodes → In y new

some_more : (nodes keys : List ℕ) → AreMore keys (insert_all nat_eq keys nodes) nodes
some_more [] keys = record { rest = []; behind = sym (append-nil keys); own = λ y none. none; there = λ y none. absurd none }
some_more (x ∷ nodes) keys =
    let first = one_more keys x in
    let then_ = some_more nodes (insert_key nat_eq keys x) in record {
      rest = first.rest ++ then_.rest;
      behind = then_.behind ∙ ap (λ l. l ++ then_.rest) first.behind ∙ append_assoc keys first.rest then_.rest;
      own = λ y at. elim (In-cases first.rest then_.rest y at) [ inl l ↦ inl (sym (first.own y l)) | inr r ↦ inr (then_.own y r) ];
      there = λ y at.
          elim at [
            | inl is ↦ subst (λ l. In y l) (sym then_.behind) (In-left (insert_key nat_eq keys x) then_.rest y (subst (λ z. In z (insert_key nat_eq keys x)) is first.there))
            | inr r ↦ then_.there y r
          ];
    }

once_some_more : (nodes keys : List ℕ) → IsDistinct nat_eq keys → IsDistinct nat_eq (insert_all nat_eq keys nodes)
once_some_more [] keys once = once
once_some_more (x ∷ nodes) keys once = once_some_more nodes (insert_key nat_eq keys x) (once_more keys x once)

-- a place of the old keys is the same place
same_place : (old rest : List ℕ) (i : ℕ) (y : ℕ) → i < length old → slice_get (old ++ rest) i ≡ Some y → slice_get old i ≡ Some y
same_place [] rest i y below at = absurd (omega arith)
same_place (x ∷ old) rest zero y below at = at
same_place (x ∷ old) rest (suc i) y below at = same_place old rest i y (omega arith) at

-- ---- the walk

stays : (m : TimeMap) (occs : List Moment) → ((y k : Moment) → In y occs → Contains (rests_on m y) k → In k occs) → (o x : Moment) → Upholds m o x → In o occs → In x occs
stays m occs closed o x itself at = at
stays m occs closed o x (through {y = y} step rest) at = stays m occs closed y x rest (closed o y at step)

module _ (m : TimeMap) (f : Forest) (x : ℕ) where
  -- the nodes are x and some that it rests on, and with the first `next` of them is all that these
  -- rest on
  pub record IsWalked (nodes : List ℕ) (next : ℕ) : Type 0 where
    pub live : All (IsLive f) nodes
    pub once : IsDistinct nat_eq nodes
    pub first : In x nodes
    pub upheld : (y : ℕ) → In y nodes → Upholds m (moment_at f x) (moment_at f y)
    pub closed : (i y : ℕ) (k : Moment) → i < next → slice_get nodes i ≡ Some y → Contains (rests_on m (moment_at f y)) k → In k (map (moment_at f) nodes)

  pub walked_first : (nodes : List ℕ) → IsLive f x → nodes ≡ x ∷ [] → IsWalked nodes 0
  unfolding IsDistinct
  walked_first nodes live is = subst (λ l. IsWalked l 0) (sym is) (record {
    live = All-from_contains (IsLive f) (x ∷ []) (λ y at. elim (In-from_Contains (x ∷ []) y at) [ inl same ↦ subst (IsLive f) same live | inr none ↦ absurd none ]);
    once = (tt, tt);
    first = inl refl;
    upheld = λ y at. elim at [ inl same ↦ subst (λ z. Upholds m (moment_at f x) (moment_at f z)) same itself | inr none ↦ absurd none ];
    closed = λ i y k low. absurd (omega arith);
  })

  pub live_next : (nodes : List ℕ) (next y : ℕ) → IsWalked nodes next → slice_get nodes next ≡ Some y → In y nodes
  live_next nodes next y walked at = in_place nodes next at
    where
      in_place : (nodes : List ℕ) (i : ℕ) → slice_get nodes i ≡ Some y → In y nodes
      in_place [] i e = absurd (cc (e))
      in_place (z ∷ nodes) zero e = inl (cc)
      in_place (z ∷ nodes) (suc i) e = inr (in_place nodes i e)

  pub walked_more : (nodes new : List ℕ) (next y : ℕ) → IsWalked nodes next → slice_get nodes next ≡ Some y → AddsGrounds m f y nodes new → IsWalked new (next + 1)
  walked_more nodes new next y walked at adds =
      let more = some_more adds.nodes nodes in
      let grown : new ≡ nodes ++ more.rest = adds.added ∙ more.behind in
      let here = live_next nodes next y walked at in
      let below : next < length nodes = slice_get_within nodes next y at in
      let ground_upheld : (z : ℕ) → In z adds.nodes → Upholds m (moment_at f x) (moment_at f z) = λ z in_grounds.
      further m (moment_at f x) (moment_at f y) (moment_at f z) (walked.upheld y here)
      (Contains-from_In (rests_on m (moment_at f y)) (moment_at f z) (subst (In (moment_at f z)) adds.grounds.are (map-In (moment_at f) adds.nodes z in_grounds))) in record {
        live = subst (All (IsLive f)) (sym grown) (All-append (IsLive f) nodes more.rest walked.live
            (All-from_contains (IsLive f) more.rest (λ z in_rest. All-contains (IsLive f) adds.nodes z adds.grounds.live (Contains-from_In adds.nodes z (more.own z (In-from_Contains more.rest z in_rest))))));
        once = subst (IsDistinct nat_eq) (sym adds.added) (once_some_more adds.nodes nodes walked.once);
        first = subst (In x) (sym grown) (In-left nodes more.rest x walked.first);
        upheld = λ z there. elim (In-cases nodes more.rest z (subst (In z) grown there)) [ inl l ↦ walked.upheld z l | inr r ↦ ground_upheld z (more.own z r) ];
        closed = λ i z k low place there.
            (let old_place : slice_get nodes i ≡ Some z = same_place nodes more.rest i z (omega arith) (sym (ap (λ l. slice_get l i) grown) ∙ place) in
            by i z k low old_place there (nat_eq i next) refl);
      }
    where
      rests : (k : Moment) → Contains (rests_on m (moment_at f y)) k → In k (map (moment_at f) new)
      rests k there =
          let (z, in_grounds, is) = In-map (moment_at f) adds.nodes k (subst (In k) (sym adds.grounds.are) (In-from_Contains (rests_on m (moment_at f y)) k there)) in
          subst (λ w. In w (map (moment_at f) new)) is (map-In (moment_at f) new z (subst (In z) (sym adds.added) ((some_more adds.nodes nodes).there z in_grounds)))

      kept : (k : Moment) → In k (map (moment_at f) nodes) → In k (map (moment_at f) new)
      kept k there =
          let (z, in_nodes, is) = In-map (moment_at f) nodes k there in
          let more = some_more adds.nodes nodes in
          subst (λ w. In w (map (moment_at f) new)) is (map-In (moment_at f) new z (subst (In z) (sym (adds.added ∙ more.behind)) (In-left nodes more.rest z in_nodes)))

      by : (i z : ℕ) (k : Moment) → i < next + 1 → slice_get nodes i ≡ Some z → Contains (rests_on m (moment_at f z)) k → (b : Bool) → nat_eq i next ≡ b → In k (map (moment_at f) new)
      by i z k low place there true e =
          let one : Some z ≡ Some y = sym place ∙ ap (slice_get nodes) ((Decides-eqb i next).0 e) ∙ at in
          let node : z ≡ y = cc in
          rests k (subst (λ w. Contains (rests_on m (moment_at f w)) k) node there)
      by i z k low place there false e =
          let other : i ≡ next → ⊥ = λ same. (let t : nat_eq i next ≡ true = (Decides-eqb i next).1 same in cc) in
          kept k (walked.closed i z k (omega arith) place there)

  -- at the end
  pub walked_all : (nodes : List ℕ) (next : ℕ) → IsWalked nodes next → length nodes ≤ next → AreUpholders m f x nodes
  walked_all nodes next walked past = record {
    live = walked.live;
    once = walked.once;
    all = λ k. (
      (λ at. let (y, there, is) = In-map (moment_at f) nodes k (In-from_Contains (map (moment_at f) nodes) k at) in subst (Upholds m (moment_at f x)) is (walked.upheld y there)),
      (λ h. Contains-from_In (map (moment_at f) nodes) k (stays m (map (moment_at f) nodes) closed (moment_at f x) k h (map-In (moment_at f) nodes x walked.first))),
    );
  }
    where
      placed : (xs : List ℕ) (y : ℕ) → In y xs → (i : ℕ) × (i < length xs) × (slice_get xs i ≡ Some y)
      placed [] y at = absurd at
      placed (z ∷ xs) y (inl is) = (0, omega arith, ap Some is)
      placed (z ∷ xs) y (inr at) = let (i, low, here) = placed xs y at in (suc i, omega arith, here)

      closed : (u k : Moment) → In u (map (moment_at f) nodes) → Contains (rests_on m u) k → In k (map (moment_at f) nodes)
      closed u k at there =
          let (y, in_nodes, is) = In-map (moment_at f) nodes u at in
          let (i, low, here) = placed nodes y in_nodes in
          walked.closed i y k (omega (arith, past)) here (subst (λ w. Contains (rests_on m w) k) (sym is) there)

  -- there are no more of them than numbers below a limit that no node's number reaches
  pub walked_below : (limit : ℕ) → ((z : ℕ) → IsLive f z → z < limit) → (nodes : List ℕ) (next y : ℕ) → IsWalked nodes next → slice_get nodes next ≡ Some y → next < limit
  walked_below limit below nodes next y walked at =
      let few = length-le_from_distinct_below nodes limit walked.once
      (λ q among. let (z, there, same) = list_any-In (nat_eq q) nodes among in
      subst (λ w. w < limit) (sym ((Decides-eqb q z).0 same)) (below z (All-contains (IsLive f) nodes z walked.live (Contains-from_In nodes z there)))) in
      let low : next < length nodes = slice_get_within nodes next y at in
      omega arith
