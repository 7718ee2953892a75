-- Occurrences in rising order of which the first ones are known: what fires among these fires among
-- all.
use Rattle.std.proofs.Common.{◌≡◌, ◌∙◌, ℕ, List, [], ◌∷◌, ◌++◌, refl, sym, ap, subst, inl, inr, arith}
use Rattle.std.proofs.lemmas.Int.{ints}
use Rattle.std.proofs.lemmas.Cmp.{int_ranked}
use Rattle.std.specs.Prelude.{◌↔◌, ℤ, pos, negsuc, ◌≤ℤ◌, ◌<ℤ◌}
use Rattle.std.specs.List.{Contains}
use Rattle.std.specs.Cmp.Lexicographic.{slice_cmp}
use Rattle.std.specs.Ordering.{int_cmp, nat_cmp, ordering_then, ordering_reverse, MatchOrdering}
use Rattle.std.specs.declared.cmp.Ordering.{Ordering}
use Rattle.std.specs.declared.cmp.Ordering.TheVariants.{Less, Equal, Greater}
use Rattle.tmm_model.specs.Beliefs.{roots, rules_at, is_free}
use Rattle.tmm_model.specs.Maps.{built, order}
use Rattle.tmm_model.specs.Moments.{Moment, At, After, Distances, printed}
use Rattle.belief_theory.specs.Right.{Occurs, Belongs, IsRight, IsTimed}
use Rattle.list_theory.specs.WellNamed.{IsSound}
use Rattle.tmm_model.specs.Standing.{Standing, far_in}
use Rattle.tmm_model.specs.declared.point.PointName.{PointName}
use Rattle.list_theory.proofs.Distinct.{Rising, one_order}
use Rattle.list_theory.proofs.Elements.{In, In-from_Contains, Contains-from_In, In-left, In-right, In-cases}
use Rattle.belief_theory.proofs.OneRight.{later, free_same}
use Rattle.belief_theory.proofs.Order.{IsSpelt, ordered, total}
use Rattle.belief_theory.proofs.SoundBeliefs.{sound_timed, believed_right, map_is_right, believed_occurs}
use Rattle.belief_theory.proofs.Sorts.{sorted_in, sorted_rising}
use Rattle.belief_theory.proofs.Spelt.{spelt}
use Rattle.spots.proofs.Seen.{believed_once}
use Rattle.belief_theory.specs.Believed.{believed_in_order}
use Rattle.just_check.specs.Checking.{FiresIn, Joins, AreFirst}
use Rattle.just_check.specs.Audited.{date_of, IsBehind}

-- ---- rising lists

module _ {X : Type 0} (cmp : X → X → Ordering) where
  -- what stands behind comes after
  pub rising_apart : (xs ys : List X) → Rising cmp (xs ++ ys) → (x y : X) → In x xs → In y ys → cmp x y ≡ Less
  rising_apart [] ys up x y at_x at_y = absurd at_x
  rising_apart (z ∷ xs) ys up x y (inl is) at_y = subst (λ w. cmp w y ≡ Less) is (up.0 y (In-right xs ys y at_y))
  rising_apart (z ∷ xs) ys up x y (inr at) at_y = rising_apart xs ys up.1 x y at at_y

  pub rising_back : (xs ys : List X) → Rising cmp (xs ++ ys) → Rising cmp ys
  rising_back [] ys up = up
  rising_back (x ∷ xs) ys up = rising_back xs ys up.1

  -- one more behind all
  pub rising_push : (xs : List X) (y : X) → Rising cmp xs → ((x : X) → In x xs → cmp x y ≡ Less) → Rising cmp (xs ++ y ∷ [])
  rising_push [] y up behind = ((λ z at. absurd at), tt)
  rising_push (x ∷ xs) y up behind = (
    (λ z at. elim (In-cases xs (y ∷ []) z at) [ inl l ↦ up.0 z l | inr (inl is) ↦ subst (λ w. cmp x w ≡ Less) is (behind x (inl refl)) | inr (inr never) ↦ absurd never ]),
    rising_push xs y up.1 (λ z at. behind z (inr at)),
  )

module _ (s : Standing) (sound : IsSound s) where
  abbrev far : Distances
  far = far_in s.premises

  abbrev is_timed : IsTimed s far
  is_timed = sound_timed s sound

  -- ---- order and dates

  -- what comes before begins no later
  pub no_later : (x y : Moment) → order (built s) x y ≡ Less → date_of s x ≤ℤ date_of s y
  no_later x y e = by (int_cmp (date_of s x) (date_of s y)) (int_ranked (date_of s x) (date_of s y) (int_cmp (date_of s x) (date_of s y)) refl) e
    where
      by : (r : Ordering) → MatchOrdering r (date_of s x <ℤ date_of s y) (date_of s x ≡ date_of s y) (date_of s y <ℤ date_of s x) → ordering_then r (slice_cmp nat_cmp (printed x) (printed y)) ≡ Less → date_of s x ≤ℤ date_of s y
      by Less h e = omega (arith, ints)
      by Equal h e = omega (arith, ints)
      by Greater h e = cc

  -- nothing comes before itself, and of two not each before the other
  pub one_way : (x y : Moment) → order (built s) x y ≡ Less → order (built s) y x ≡ Less → ⊥
  one_way x y e g = let t : order (built s) y x ≡ Greater = (total s far).antisymm y x ∙ ap ordering_reverse e in cc

  -- an effect begins after its event
  pub after_event : (t : Moment) (r : List ℕ) → Occurs s t → Contains (rules_at s t) r → date_of s t <ℤ date_of s (After t r)
  after_event = later s far is_timed

  number_of : (x : Moment) → Occurs s x → (n : ℕ) × (date_of s x ≡ pos n)
  number_of x occurs = by (date_of s x) refl (is_timed.not_before_start x occurs)
    where
      by : (z : ℤ) → date_of s x ≡ z → pos 0 ≤ℤ z → (n : ℕ) × (date_of s x ≡ pos n)
      by (pos n) e h = (n, e)
      by (negsuc n) e h = absurd (omega (arith, ints))

  -- ---- what fires among the first ones

  -- Of two lists one has what the other has that begins before k: then a rule at what begins before
  -- k is free alike.
  module _ (b c : List Moment) (into : (x : Moment) → In x b → In x c) (occurs : (x : Moment) → In x c → Occurs s x)
      (k : Moment) (occurs_k : Occurs s k) (back : (x : Moment) → In x c → date_of s x <ℤ date_of s k → In x b) where
    pub free_alike : (t : Moment) → Occurs s t → date_of s t <ℤ date_of s k → (r : List ℕ) → is_free s far b t r ≡ is_free s far c t r
    free_alike t occurs_t before r =
        let (n, date) = number_of k occurs_k in
        free_same s far is_timed n b c
        (record {
          into = λ x _ _ at. Contains-from_In c x (into x (In-from_Contains b x at));
          back = λ x _ below at. Contains-from_In b x (back x (In-from_Contains c x at) (subst (λ z. date_of s x <ℤ z) (sym date) below));
          left = λ x at. occurs x (into x (In-from_Contains b x at));
          right = λ x at. occurs x (In-from_Contains c x at);
        })
        t occurs_t (subst (λ z. date_of s t <ℤ z) date before) r

    pub fires_more : (t : Moment) (r : List ℕ) → date_of s t <ℤ date_of s k → FiresIn s b t r → FiresIn s c t r
    fires_more t r before f =
        let at = into t (In-from_Contains b t f.believed) in
        record {
          believed = Contains-from_In c t at;
          stands = f.stands;
          in_time = f.in_time;
          free = sym (free_alike t (occurs t at) before r) ∙ f.free;
        }

    pub fires_less : (t : Moment) (r : List ℕ) → date_of s t <ℤ date_of s k → FiresIn s c t r → FiresIn s b t r
    fires_less t r before f =
        let at = In-from_Contains c t f.believed in
        record {
          believed = Contains-from_In b t (back t at before);
          stands = f.stands;
          in_time = f.in_time;
          free = free_alike t (occurs t at) before r ∙ f.free;
        }

  -- what belongs is an occurrence, where all of b are
  pub belongs_occurs : (b : List Moment) → ((x : Moment) → In x b → Occurs s x) → (k : Moment) → Belongs s far s.horizon b k → Occurs s k
  belongs_occurs b occurs (At p) at = at
  belongs_occurs b occurs (After t r) f = (occurs t (In-from_Contains b t f.believed), f.stands)

  -- ---- one more

  module _ (b : List Moment) (first : AreFirst s b) (k : Moment) (joins : Joins s b k) (behind : IsBehind s b k) where
    abbrev more : List Moment
    more = b ++ k ∷ []

    pub joined_occurs : Occurs s k
    joined_occurs = belongs_occurs b first.occurs k joins.belongs

    pub into_more : (x : Moment) → In x b → In x more
    into_more x at = In-left b (k ∷ []) x at

    pub more_occurs : (x : Moment) → In x more → Occurs s x
    more_occurs x at = elim (In-cases b (k ∷ []) x at) [ inl l ↦ first.occurs x l | inr (inl is) ↦ subst (Occurs s) is joined_occurs | inr (inr never) ↦ absurd never ]

    pub more_before : (x : Moment) → In x more → date_of s x <ℤ date_of s k → In x b
    more_before x at before = elim (In-cases b (k ∷ []) x at) [ inl l ↦ l | inr (inl is) ↦ absurd (same_date is before) | inr (inr never) ↦ absurd never ]
      where
        same_date : k ≡ x → date_of s x <ℤ date_of s k → ⊥
        same_date is h = by (date_of s x) (date_of s k) (ap (date_of s) is) h
          where
            by : (a c : ℤ) → c ≡ a → a <ℤ c → ⊥
            by a c e h = omega (arith, ints)

    pub push_fires : (t : Moment) (r : List ℕ) → date_of s t <ℤ date_of s k → FiresIn s b t r → FiresIn s more t r
    push_fires = fires_more b more into_more more_occurs k joined_occurs more_before

    pub fires_pushed : (t : Moment) (r : List ℕ) → date_of s t <ℤ date_of s k → FiresIn s more t r → FiresIn s b t r
    fires_pushed = fires_less b more into_more more_occurs k joined_occurs more_before

    -- the occurrences with k are first ones too
    pub push_first : AreFirst s more
    push_first = record {
      occurs = more_occurs;
      fires = λ t r at. elim (In-cases b (k ∷ []) (After t r) at) [
        | inl l ↦
            let f = first.fires t r l in
            push_fires t r (chain (date_of s t) (date_of s (After t r)) (date_of s k) (after_event t r (first.occurs t (In-from_Contains b t f.believed)) f.stands) (no_later (After t r) k (behind (After t r) l))) f
        | inr (inl is) ↦
            let f : FiresIn s b t r = subst (Belongs s far s.horizon b) is joins.belongs in
            push_fires t r (subst (λ z. date_of s t <ℤ date_of s z) (sym is) (after_event t r (first.occurs t (In-from_Contains b t f.believed)) f.stands)) f
        | inr (inr never) ↦ absurd never
      ];
      rising = rising_push (order (built s)) b k first.rising behind;
    }
      where
        chain : (x y z : ℤ) → x <ℤ y → y ≤ℤ z → x <ℤ z
        chain x y z h g = omega (arith, ints)

  -- ---- all of them

  -- first ones with all that is declared, among which nothing fires whose effect is not there, are
  -- right
  pub right_first : (b : List Moment) → AreFirst s b → ((p : PointName) → Contains (roots s) (At p) → In (At p) b) → ((t : Moment) (r : List ℕ) → FiresIn s b t r → In (After t r) b) → IsRight s far b
  right_first b first all_roots all_effects (At p) = ((λ at. first.occurs (At p) (In-from_Contains b (At p) at)), (λ at. Contains-from_In b (At p) (all_roots p at)))
  right_first b first all_roots all_effects (After t r) = ((λ at. first.fires t r (In-from_Contains b (After t r) at)), (λ f. Contains-from_In b (After t r) (all_effects t r f)))

  believed_spelt : (x : Moment) → In x (built s).believed → IsSpelt x
  believed_spelt x at = spelt s sound.well_formed x (believed_occurs s sound x (Contains-from_In (built s).believed x at))

  pub believed_rising : Rising (order (built s)) (believed_in_order s)
  believed_rising = sorted_rising (ordered s far) (built s).believed believed_spelt (believed_once s sound)

  -- **Right occurrences in rising order are the believed ones in order.**
  pub right_in_order : (b : List Moment) → Rising (order (built s)) b → IsRight s far b → b ≡ believed_in_order s
  right_in_order b up right =
      one_order (order (built s)) one_way b (believed_in_order s) up believed_rising
      (λ x at. (sorted_in (ordered s far) (built s).believed x).1 (In-from_Contains (built s).believed x (((map_is_right s sound).1 b right x).0 (Contains-from_In b x at))))
      (λ x at. In-from_Contains b x (((map_is_right s sound).1 b right x).1 (Contains-from_In (built s).believed x ((sorted_in (ordered s far) (built s).believed x).0 at))))

  -- and the believed ones in order are right
  module _ (b : List Moment) (is : b ≡ believed_in_order s) where
    there : (x : Moment) → In x b ↔ In x (built s).believed
    there x = ((λ at. (sorted_in (ordered s far) (built s).believed x).0 (subst (In x) is at)), (λ at. subst (In x) (sym is) ((sorted_in (ordered s far) (built s).believed x).1 at)))

    pub list_occurs : (x : Moment) → In x b → Occurs s x
    list_occurs x at = believed_occurs s sound x (Contains-from_In (built s).believed x ((there x).0 at))

    pub list_rising : Rising (order (built s)) b
    list_rising = subst (Rising (order (built s))) (sym is) believed_rising

    pub list_right : IsRight s far b
    list_right (At p) = (
      (λ at. (believed_right s sound (At p)).0 (Contains-from_In (built s).believed (At p) ((there (At p)).0 (In-from_Contains b (At p) at)))),
      (λ at. Contains-from_In b (At p) ((there (At p)).1 (In-from_Contains (built s).believed (At p) ((believed_right s sound (At p)).1 at)))),
    )
    list_right (After t r) = (into, back)
      where
        into : Contains b (After t r) → FiresIn s b t r
        into at =
            let at_believed = (there (After t r)).0 (In-from_Contains b (After t r) at) in
            let f = (believed_right s sound (After t r)).0 (Contains-from_In (built s).believed (After t r) at_believed) in
            let occurs_t = believed_occurs s sound t f.believed in
            fires_more (built s).believed b (λ x. (there x).1) list_occurs (After t r) (occurs_t, f.stands) (λ x at _. (there x).0 at) t r (after_event t r occurs_t f.stands) f

        back : FiresIn s b t r → Contains b (After t r)
        back f =
            let occurs_t = list_occurs t (In-from_Contains b t f.believed) in
            let g = fires_less (built s).believed b (λ x. (there x).1) list_occurs (After t r) (occurs_t, f.stands) (λ x at _. (there x).0 at) t r (after_event t r occurs_t f.stands) f in
            Contains-from_In b (After t r) ((there (After t r)).1 (In-from_Contains (built s).believed (After t r) ((believed_right s sound (After t r)).1 g)))

  -- **Each of the believed ones in order joins those before it, and comes after them.**
  module _ (b : List Moment) (k : Moment) (rest : List Moment) (is : b ++ k ∷ rest ≡ believed_in_order s) where
    abbrev whole : List Moment
    whole = b ++ k ∷ rest

    at_k : In k whole
    at_k = In-right b (k ∷ rest) k (inl refl)

    pub next_behind : IsBehind s b k
    next_behind y at = rising_apart (order (built s)) b (k ∷ rest) (list_rising whole is) y k at (inl refl)

    -- what begins before k stands before it
    before_k : (x : Moment) → In x whole → date_of s x <ℤ date_of s k → In x b
    before_k x at before = elim (In-cases b (k ∷ rest) x at) [
      | inl l ↦ l
      | inr (inl same) ↦ absurd (same_date same)
      | inr (inr r) ↦ absurd (not_later (no_later k x ((rising_back (order (built s)) b (k ∷ rest) (list_rising whole is)).0 x r)))
    ]
      where
        not_later : date_of s k ≤ℤ date_of s x → ⊥
        not_later h = omega (arith, ints)

        same_date : k ≡ x → ⊥
        same_date same = not_later (by (date_of s k) (date_of s x) (ap (date_of s) same))
          where
            by : (a c : ℤ) → a ≡ c → a ≤ℤ c
            by a c e = omega (arith, ints)

    belongs : (x : Moment) → x ≡ k → Belongs s far s.horizon b x
    belongs (At p) same = (list_right whole is (At p)).0 (subst (Contains whole) (sym same) (Contains-from_In whole k at_k))
    belongs (After t r) same =
        let f = (list_right whole is (After t r)).0 (subst (Contains whole) (sym same) (Contains-from_In whole k at_k)) in
        let occurs_t = list_occurs whole is t (In-from_Contains whole t f.believed) in
        fires_less b whole (In-left b (k ∷ rest)) (list_occurs whole is) k (list_occurs whole is k at_k) before_k t r
        (subst (λ z. date_of s t <ℤ date_of s z) same (after_event t r occurs_t f.stands)) f

    pub next_joins : Joins s b k
    next_joins = record { belongs = belongs k refl; new = λ at. one_way k k (next_behind k at) (next_behind k at) }
