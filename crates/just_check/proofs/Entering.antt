-- One row more: the occurrences with it, and what is expected behind it.
use Rattle.std.proofs.Common.{◌≡◌, ◌∙◌, ◌⊎◌, inl, inr, ℕ, zero, suc, List, [], ◌∷◌, ◌++◌, map, take, refl, sym, ap, subst}
use Rattle.std.proofs.lemmas.List.{map-append}
use Rattle.std.proofs.lemmas.List.Elements.{All-push}
use Rattle.std.specs.Prelude.{◌↔◌, Option, Some, None, IsSome, ◌<ℤ◌}
use Rattle.std.specs.List.{All}
use Rattle.std.specs.declared.cmp.Ordering.TheVariants.{Less}
use Rattle.tmm_model.specs.Maps.{built, order}
use Rattle.tmm_model.specs.Moments.{Moment, After}
use Rattle.list_theory.specs.WellNamed.{IsSound}
use Rattle.tmm_model.specs.Standing.{Standing, far_in}
use Rattle.list_theory.proofs.Distinct.{Rising}
use Rattle.list_theory.proofs.Elements.{In, In-cases, In-right, In-from_Contains}
use Rattle.walk_theory.proofs.Members.{All-from_contains}
use Rattle.walk_theory.proofs.Points.{tells}
use Rattle.belief_theory.proofs.Order.{total}
use Rattle.dist_net.specs.Net.{Net}
use Rattle.spots.specs.Forest.{Forest, IsLive, moment_at}
use Rattle.spots.specs.OfLists.{IsForestOf}
use Rattle.spots.proofs.Nodes.{node_at, live_at, moment_at-is}
use Rattle.spots.proofs.Seen.{order_is}
use Rattle.spots.specs.Growing.{Adds}
use Rattle.spots.proofs.Grown.{node_kept, node_cases, adds_seen, held_apart, adds_holds}
use Rattle.just_check.specs.declared.expected.Origin.{Origin}
use Rattle.just_check.specs.declared.expected.Expected.{Expected}
use Rattle.just_check.specs.Audited.{date_of, IsBehind, ComesAfter}
use Rattle.just_check.specs.Checking.{FiresIn, Joins, AreSoFar, is_due, Expects}
use Rattle.just_check.specs.Origins.{comes_of, comes_from, has_event, same_origin, entry_at, SetsNode}
use Rattle.just_check.proofs.Joining.{one_of}
use Rattle.just_check.proofs.Origins.{Decides-same_origin, one_origin, one_node}
use Rattle.just_check.proofs.Prefixes.{push_first, push_fires, fires_pushed, rising_apart}

last_or_none : {X : Type 0} (xs : List X) → (xs ≡ []) ⊎ ((front : List X) × (last : X) × (xs ≡ front ++ last ∷ []))
last_or_none [] = inl refl
last_or_none (x ∷ xs) = elim (last_or_none xs) [ inl none ↦ inr ([], x, ap (λ l. x ∷ l) none) | inr (front, last, e) ↦ inr (x ∷ front, last, ap (λ l. x ∷ l) e) ]

pub In-take : {X : Type 0} (n : ℕ) (xs : List X) (x : X) → In x (take n xs) → In x xs
In-take zero xs x at = absurd at
In-take (suc n) [] x at = absurd at
In-take (suc n) (y ∷ xs) x (inl is) = inl is
In-take (suc n) (y ∷ xs) x (inr at) = inr (In-take n xs x at)

module _ (s : Standing) (net : Net) (f : Forest) (b : List Moment) (so_far : AreSoFar s net f b) (k : Moment) (new : Forest) (x : ℕ) (adds : Adds s net.names f new x k) (joins : Joins s b k) where
  sound : IsSound s
  sound = so_far.seen.network.sound

  pub new_seen : IsForestOf s net new
  new_seen = adds_seen s net f new x k adds (held_apart s net f new x k adds b so_far.holds joins.new) so_far.seen

  pub new_live : IsLive new x
  new_live = live_at new x adds.node adds.enters.entered

  pub new_is : moment_at new x ≡ k
  new_is = moment_at-is new x adds.node adds.enters.entered ∙ adds.is

  pub still_live : (y : ℕ) → IsLive f y → IsLive new y
  still_live y live = let (m, here) = node_at f y live in live_at new y m (node_kept s net f new x k adds y m here)

  -- a node that was there is of the same occurrence
  pub kept_moment : (y : ℕ) → IsLive f y → moment_at new y ≡ moment_at f y
  kept_moment y live =
      let (m, here) = node_at f y live in
      moment_at-is new y m (node_kept s net f new x k adds y m here) ∙ sym (moment_at-is f y m here)

  pub kept_moments : (ys : List ℕ) → ((y : ℕ) → In y ys → IsLive f y) → map (moment_at new) ys ≡ map (moment_at f) ys
  kept_moments [] live = refl
  kept_moments (y ∷ ys) live =
      let first = kept_moment y (live y (inl refl)) in
      let rest = kept_moments ys (λ z at. live z (inr at)) in
      λ i. first i ∷ rest i

  -- a node is the one that enters, or was there
  live_cases : (y : ℕ) → IsLive new y → (y ≡ x) ⊎ IsLive f y
  live_cases y live =
      let (m, here) = node_at new y live in
      elim (node_cases s net f new x k adds y m here) [ inl is ↦ inl is.0 | inr before ↦ inr (live_at f y m before) ]

  one_each : (y z : ℕ) → IsLive new y → IsLive new z → moment_at new y ≡ moment_at new z → y ≡ z
  one_each = one_node new new_seen.once

  -- ---- the order

  -- the nodes are those of b
  module _ (nodes : List ℕ) (all_live : (y : ℕ) → In y nodes → IsLive f y) (is : map (moment_at f) nodes ≡ b) where
    same_moments : map (moment_at new) nodes ≡ b
    same_moments = kept_moments nodes all_live ∙ is

    pub kept_live : All (IsLive new) nodes
    kept_live = All-from_contains (IsLive new) nodes (λ y at. still_live y (all_live y (In-from_Contains nodes y at)))

    pub nodes_live : All (IsLive new) (nodes ++ x ∷ [])
    nodes_live = All-push (IsLive new) nodes x kept_live new_live

    pub more_rows : map (moment_at new) (nodes ++ x ∷ []) ≡ b ++ k ∷ []
    more_rows = map-append (moment_at new) nodes (x ∷ []) ∙ (λ i. same_moments i ++ new_is i ∷ [])

    -- the last of b comes before k exactly where all of b do
    pub behind_last : ComesAfter net new nodes x → IsBehind s b k
    behind_last after y at = elim (last_or_none nodes) [
      | inl none ↦ absurd (subst (In y) (sym same_moments ∙ ap (map (moment_at new)) none) at)
      | inr (front, last, e) ↦
          let parts : b ≡ map (moment_at new) front ++ moment_at new last ∷ [] = sym same_moments ∙ ap (map (moment_at new)) e ∙ map-append (moment_at new) front (last ∷ []) in
          let live = still_live last (all_live last (subst (In last) (sym e) (In-right front (last ∷ []) last (inl refl)))) in
          let less : order (built s) (moment_at new last) k ≡ Less = ap (order (built s) (moment_at new last)) (sym new_is) ∙ sym (order_is s net new new_seen last x live new_live) ∙ after front last e in
          elim (In-cases (map (moment_at new) front) (moment_at new last ∷ []) y (subst (In y) parts at)) [
            | inl l ↦
                let rising = subst (Rising (order (built s))) parts so_far.first.rising in
                (total s (far_in s.premises)).trans y (moment_at new last) k (rising_apart (order (built s)) (map (moment_at new) front) (moment_at new last ∷ []) rising y (moment_at new last) l (inl refl)) less
            | inr (inl same) ↦ subst (λ z. order (built s) z k ≡ Less) same less
            | inr (inr never) ↦ absurd never
          ]
    ]

    pub last_behind : IsBehind s b k → ComesAfter net new nodes x
    last_behind behind front last e =
        let at : In last nodes = subst (In last) (sym e) (In-right front (last ∷ []) last (inl refl)) in
        let live = all_live last at in
        order_is s net new new_seen last x (still_live last live) new_live
        ∙ (λ i. order (built s) (kept_moment last live i) (new_is i))
        ∙ behind (moment_at f last) (one_of f b last so_far.holds live)

  module _ (behind : IsBehind s b k) where
    pub more_so_far : AreSoFar s net new (b ++ k ∷ [])
    more_so_far = record {
      seen = new_seen;
      holds = adds_holds s net f new x k adds b so_far.holds joins.new;
      first = push_first s sound b so_far.first k joins behind;
    }

    -- ---- what is expected

    module _
        (events : List ℕ) (live : (t : ℕ) → In t events → IsLive f t) (before : (t : ℕ) → In t events → date_of s (moment_at f t) <ℤ date_of s k)
        (old e : Expected) (expects : Expects s f b events old)
        (o : Origin) (event : has_event f o.event) (is : comes_from f o ≡ k) (awaited : entry_at old o ≡ Some None) (sets : SetsNode old e o x)
      where
        still_event : (v : Option ℕ) → has_event f v → has_event new v
        still_event None h = h
        still_event (Some t) h = still_live t h

        kept_of : (v : Option ℕ) (name : List ℕ) → has_event f v → comes_of new v name ≡ comes_of f v name
        kept_of None name h = refl
        kept_of (Some t) name h = ap (λ m. After m name) (kept_moment t h)

        event_of : (v : Option ℕ) (name : List ℕ) → is_due s f b events v name → has_event f v
        event_of None name h = tt
        event_of (Some t) name h = live t h.0

        nodes : (p : Origin) (y : ℕ) → entry_at e p ≡ Some (Some y) → IsLive new y × (moment_at new y ≡ comes_from new p)
        nodes p y h = elim (tells same_origin Decides-same_origin p o) [
          | inl same ↦
              let is_x : x ≡ y = (let g : Some (Some x) ≡ Some (Some y) = sym sets.own ∙ ap (entry_at e) (sym same.1) ∙ h in cc) in
              let there : IsLive new x × (moment_at new x ≡ comes_from new o) = (new_live, new_is ∙ sym is ∙ sym (kept_of o.event o.name event)) in
              subst (λ z. IsLive new z × (moment_at new z ≡ comes_from new p)) is_x (subst (λ q. IsLive new x × (moment_at new x ≡ comes_from new q)) (sym same.1) there)
          | inr apart ↦
              let was : entry_at old p ≡ Some (Some y) = sym (sets.others p apart.1) ∙ h in
              let (live_y, made) = expects.knows.nodes p y was in
              let at = event_of p.event p.name ((expects.due p).0 (subst IsSome (sym was) refl)) in
              (still_live y live_y, kept_moment y live_y ∙ made ∙ sym (kept_of p.event p.name at))
        ]

        -- the event is not the one that enters, where the effect was there
        old_event : (v : Option ℕ) (name : List ℕ) (y : ℕ) → IsLive f y → moment_at f y ≡ comes_of new v name → has_event new v → has_event f v
        old_event None name y live_y made h = tt
        old_event (Some t) name y live_y made h = elim (live_cases t h) [
          | inl same ↦
              let of_k : moment_at f y ≡ After k name = made ∙ ap (λ m. After m name) (ap (moment_at new) same ∙ new_is) in
              absurd (joins.new (expects.knows.closed k name (subst (λ m. In m b) of_k (one_of f b y so_far.holds live_y))))
          | inr was ↦ was
        ]

        all : (p : Origin) (y : ℕ) → has_event new p.event → IsLive new y → moment_at new y ≡ comes_from new p → entry_at e p ≡ Some (Some y)
        all p y at live_y made = elim (live_cases y live_y) [
          | inl same ↦
              let both : comes_from new p ≡ comes_from new o = sym made ∙ ap (moment_at new) same ∙ new_is ∙ sym is ∙ sym (kept_of o.event o.name event) in
              let one : p ≡ o = one_origin new one_each p o at (still_event o.event event) both in
              ap (entry_at e) one ∙ sets.own ∙ ap (λ z. Some (Some z)) (sym same)
          | inr was ↦
              let made_f : moment_at f y ≡ comes_from new p = sym (kept_moment y was) ∙ made in
              let at_f = old_event p.event p.name y was made_f at in
              let there : entry_at old p ≡ Some (Some y) = expects.knows.all p y at_f was (made_f ∙ kept_of p.event p.name at_f) in
              sets.others p (λ same. let never : Some None ≡ Some (Some y) = sym awaited ∙ ap (entry_at old) (sym same) ∙ there in cc) ∙ there
        ]

        due_more : (v : Option ℕ) (name : List ℕ) → is_due s f b events v name ↔ is_due s new (b ++ k ∷ []) events v name
        due_more None name = ((λ h. h), (λ h. h))
        due_more (Some t) name = (
          (λ h. (h.0, subst (λ m. FiresIn s (b ++ k ∷ []) m name) (sym (kept_moment t (live t h.0))) (push_fires s sound b so_far.first k joins behind (moment_at f t) name (before t h.0) h.1))),
          (λ h. (h.0, fires_pushed s sound b so_far.first k joins behind (moment_at f t) name (before t h.0) (subst (λ m. FiresIn s (b ++ k ∷ []) m name) (kept_moment t (live t h.0)) h.1))),
        )

        some_more : (p : Origin) → IsSome (entry_at e p) ↔ IsSome (entry_at old p)
        some_more p = elim (tells same_origin Decides-same_origin p o) [
          | inl same ↦ (
            (λ h. subst (λ q. IsSome (entry_at old q)) (sym same.1) (subst IsSome (sym awaited) refl)),
            (λ h. subst (λ q. IsSome (entry_at e q)) (sym same.1) (subst IsSome (sym sets.own) refl)),
          )
          | inr apart ↦ let g = sets.others p apart.1 in ((λ h. subst IsSome g h), (λ h. subst IsSome (sym g) h))
        ]

        -- **The row is known, and what is expected stays.**
        pub expects_entered : Expects s new (b ++ k ∷ []) events e
        expects_entered = record {
          knows = record {
            holds = more_so_far.holds;
            closed = λ t r at. In-from_Contains (b ++ k ∷ []) t (more_so_far.first.fires t r at).believed;
            nodes = nodes;
            all = all;
          };
          due = λ p. (
            (λ h. (due_more p.event p.name).0 ((expects.due p).0 ((some_more p).0 h))),
            (λ h. (some_more p).1 ((expects.due p).1 ((due_more p.event p.name).1 h))),
          );
        }
