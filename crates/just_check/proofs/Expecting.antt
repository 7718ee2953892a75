-- What is expected among the rows, as it grows at one event more.
use Rattle.std.proofs.Common.{◌≡◌, ◌∙◌, inl, inr, ℕ, List, [], ◌∷◌, ◌++◌, refl, sym, ap, subst}
use Rattle.std.specs.Prelude.{◌⊎◌, Option, Some, None, IsSome}
use Rattle.tmm_model.specs.Beliefs.{rules_at}
use Rattle.tmm_model.specs.Moments.{Moment, At}
use Rattle.tmm_model.specs.declared.point.PointName.TheVariants.{Begin}
use Rattle.tmm_model.specs.Standing.{Standing}
use Rattle.list_theory.proofs.Elements.{In, In-cases, In-left, In-right, In-from_Contains}
use Rattle.walk_theory.proofs.Points.{tells}
use Rattle.spots.specs.Forest.{Forest, moment_at}
use Rattle.just_check.specs.declared.expected.Origin.{Origin}
use Rattle.just_check.specs.declared.expected.Expected.{Expected}
use Rattle.just_check.specs.Origins.{same_origin, entry_at, awaited, Awaits}
use Rattle.just_check.specs.Checking.{FiresIn, is_due, IsDue, Expects, AwaitsMore, AwaitsRoot, IsRootIn}
use Rattle.just_check.proofs.Origins.{Decides-same_origin}

is_awaited : (v : Option (Option ℕ)) → IsSome (awaited v)
is_awaited None = refl
is_awaited (Some x) = refl

awaited_kept : (v : Option (Option ℕ)) → IsSome v → awaited v ≡ v
awaited_kept None h = cc
awaited_kept (Some x) h = refl

awaited_node : (v : Option (Option ℕ)) (y : ℕ) → awaited v ≡ Some (Some y) → v ≡ Some (Some y)
awaited_node None y h = cc
awaited_node (Some x) y h = h

-- an origin is awaited from now on
module _ (old new : Expected) (o : Origin) (awaits : Awaits old new o) where
  pub awaits_there : IsSome (entry_at new o)
  awaits_there = subst IsSome (sym awaits.own) (is_awaited (entry_at old o))

  pub awaits_keeps : (p : Origin) → IsSome (entry_at old p) → entry_at new p ≡ entry_at old p
  awaits_keeps p some = elim (tells same_origin Decides-same_origin p o) [
    | inl same ↦ subst (λ q. IsSome (entry_at old q) → entry_at new q ≡ entry_at old q) (sym same.1) (λ h. awaits.own ∙ awaited_kept (entry_at old o) h) some
    | inr apart ↦ awaits.others p apart.1
  ]

  pub awaits_own : (p : Origin) → IsSome (entry_at new p) → IsSome (entry_at old p) ⊎ (p ≡ o)
  awaits_own p some = elim (tells same_origin Decides-same_origin p o) [ inl same ↦ inr same.1 | inr apart ↦ inl (subst IsSome (awaits.others p apart.1) some) ]

  pub awaits_fresh : (p : Origin) (y : ℕ) → entry_at new p ≡ Some (Some y) → entry_at old p ≡ Some (Some y)
  awaits_fresh p y h = elim (tells same_origin Decides-same_origin p o) [
    | inl same ↦ subst (λ q. entry_at new q ≡ Some (Some y) → entry_at old q ≡ Some (Some y)) (sym same.1) (λ g. awaited_node (entry_at old o) y (sym awaits.own ∙ g)) h
    | inr apart ↦ sym (awaits.others p apart.1) ∙ h
  ]

-- one more that is declared
pub root_awaited : (old new : Expected) (name : List ℕ) → Awaits old new (record { event = None; name = name }) → AwaitsRoot old new (Some (At (Begin name)))
root_awaited old new name awaits ks are = record { own = own; all = all }
  where
    o : Origin
    o = record { event = None; name = name }

    there : In (At (Begin name)) (ks ++ At (Begin name) ∷ [])
    there = In-right ks (At (Begin name) ∷ []) (At (Begin name)) (inl refl)

    first : (v : Option (Option ℕ)) → entry_at old o ≡ v → awaited v ≡ Some None
    first None e = refl
    first (Some v) e = sym e ∙ (are.own o (subst IsSome (sym e) refl)).0

    own : (p : Origin) → IsSome (entry_at new p) → (entry_at new p ≡ Some None) × IsRootIn (ks ++ At (Begin name) ∷ []) p
    own p some = elim (awaits_own old new o awaits p some) [
      | inl before ↦
          let h = are.own p before in
          (awaits_keeps old new o awaits p before ∙ h.0, (h.1.0, In-left ks (At (Begin name) ∷ []) (At (Begin p.name)) h.1.1))
      | inr same ↦ subst (λ q. (entry_at new q ≡ Some None) × IsRootIn (ks ++ At (Begin name) ∷ []) q) (sym same) (awaits.own ∙ first (entry_at old o) refl, (refl, there))
    ]

    all : (p : Origin) → IsRootIn (ks ++ At (Begin name) ∷ []) p → IsSome (entry_at new p)
    all p h = elim (In-cases ks (At (Begin name) ∷ []) (At (Begin p.name)) h.1) [
      | inl before ↦ let some = are.all p (h.0, before) in subst IsSome (sym (awaits_keeps old new o awaits p some)) some
      | inr (inl same) ↦
          let names : name ≡ p.name = (let g : Begin name ≡ Begin p.name = cc in cc) in
          let is : o ≡ p = (λ i. record { event = sym h.0 i; name = names i }) in
          subst (λ q. IsSome (entry_at new q)) is (awaits_there old new o awaits)
      | inr (inr never) ↦ absurd never
    ]

module _ (s : Standing) (f : Forest) (b : List Moment) (x : ℕ) where
  pub more_both : (rs qs : List (List ℕ)) (old mid new : Expected) → AwaitsMore s f b x rs old mid → AwaitsMore s f b x qs mid new → AwaitsMore s f b x (rs ++ qs) old new
  more_both rs qs old mid new first second = record {
    kept = λ o some. second.kept o (subst IsSome (sym (first.kept o some)) some) ∙ first.kept o some;
    own = λ o some. elim (second.own o some) [ inl l ↦ first.own o l | inr r ↦ inr r ];
    fresh = λ o y h. first.fresh o y (second.fresh o y h);
    all = λ r at fires. elim (In-cases rs qs r at) [
      | inl l ↦
          let o : Origin = record { event = Some x; name = r } in
          subst IsSome (sym (second.kept o (first.all r l fires))) (first.all r l fires)
      | inr q ↦ second.all r q fires
    ];
  }

  -- a rule that does not fire brings about nothing
  pub more_none : (r : List ℕ) (e : Expected) → (FiresIn s b (moment_at f x) r → ⊥) → AwaitsMore s f b x (r ∷ []) e e
  more_none r e blocked = record {
    kept = λ o some. refl;
    own = λ o some. inl some;
    fresh = λ o y h. h;
    all = λ q at fires. elim at [ inl same ↦ absurd (blocked (subst (FiresIn s b (moment_at f x)) (sym same) fires)) | inr never ↦ absurd never ];
  }

  pub more_one : (r : List ℕ) (old new : Expected) → FiresIn s b (moment_at f x) r → Awaits old new (record { event = Some x; name = r }) → AwaitsMore s f b x (r ∷ []) old new
  more_one r old new fires awaits = record {
    kept = awaits_keeps old new (record { event = Some x; name = r }) awaits;
    own = λ o some. elim (awaits_own old new (record { event = Some x; name = r }) awaits o some) [
      | inl before ↦ inl before
      | inr same ↦ inr (ap (λ (p : Origin). p.event) same, subst (FiresIn s b (moment_at f x)) (sym (ap (λ (p : Origin). p.name) same)) fires)
    ];
    fresh = awaits_fresh old new (record { event = Some x; name = r }) awaits;
    all = λ q at other. elim at [
      | inl same ↦ subst (λ n. IsSome (entry_at new (record { event = Some x; name = n }))) same (awaits_there old new (record { event = Some x; name = r }) awaits)
      | inr never ↦ absurd never
    ];
  }

  -- with x one event more is decided
  pub expects_more : (events : List ℕ) (old new : Expected) → Expects s f b events old → AwaitsMore s f b x (rules_at s (moment_at f x)) old new → Expects s f b (events ++ x ∷ []) new
  expects_more events old new expects more = record {
    knows = record {
      holds = expects.knows.holds;
      closed = expects.knows.closed;
      nodes = λ o y h. expects.knows.nodes o y (more.fresh o y h);
      all = λ o y event live is. let there = expects.knows.all o y event live is in more.kept o (subst IsSome (sym there) refl) ∙ there;
    };
    due = λ o. (to o, λ h. from o.event o.name h);
  }
    where
      wider : (event : Option ℕ) (name : List ℕ) → is_due s f b events event name → is_due s f b (events ++ x ∷ []) event name
      wider None name h = h
      wider (Some t) name h = (In-left events (x ∷ []) t h.0, h.1)

      here : (event : Option ℕ) (name : List ℕ) → event ≡ Some x → FiresIn s b (moment_at f x) name → is_due s f b (events ++ x ∷ []) event name
      here None name e fires = absurd (cc)
      here (Some t) name e fires =
          let same : x ≡ t = cc in
          subst (λ y. In y (events ++ x ∷ []) × FiresIn s b (moment_at f y) name) same (In-right events (x ∷ []) x (inl refl), fires)

      to : (o : Origin) → IsSome (entry_at new o) → IsDue s f b (events ++ x ∷ []) o
      to o some = elim (more.own o some) [ inl before ↦ wider o.event o.name ((expects.due o).0 before) | inr h ↦ here o.event o.name h.0 h.1 ]

      still : (o : Origin) → IsDue s f b events o → IsSome (entry_at new o)
      still o h = let some = (expects.due o).1 h in subst IsSome (sym (more.kept o some)) some

      from : (event : Option ℕ) (name : List ℕ) → is_due s f b (events ++ x ∷ []) event name → IsSome (entry_at new (record { event = event; name = name }))
      from None name h = still (record { event = None; name = name }) h
      from (Some t) name h = elim (In-cases events (x ∷ []) t h.0) [
        | inl before ↦ still (record { event = Some t; name = name }) (before, h.1)
        | inr (inl same) ↦
            subst (λ y. IsSome (entry_at new (record { event = Some y; name = name }))) same
            (let fires : FiresIn s b (moment_at f x) name = subst (λ y. FiresIn s b (moment_at f y) name) (sym same) h.1 in
            more.all name (In-from_Contains (rules_at s (moment_at f x)) name fires.stands) fires)
        | inr (inr never) ↦ absurd never
      ]
