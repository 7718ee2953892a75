-- What a standing protection names is there.
use Rattle.std.proofs.Common.{◌≡◌, ◌∙◌, ℕ, List, [], ◌∷◌, ◌++◌, refl, sym, subst, inl, inr, append_assoc}
use Rattle.std.specs.Prelude.{None, IsSome}
use Rattle.std.specs.List.{Contains, flat_map}
use Rattle.std.proofs.lemmas.Grind.{flat_map-append}
use Rattle.tmm_model.specs.declared.point.PointName.{PointName}
use Rattle.tmm_model.specs.declared.point.PointName.TheVariants.{Start}
use Rattle.tmm_model.specs.declared.premise.Premise.{Premise}
use Rattle.tmm_model.specs.declared.premise.Premise.TheVariants.{Protect}
use Rattle.tmm_model.specs.Sorts.{a_place, fact_use, class_in}
use Rattle.tmm_model.specs.Standing.{Standing, points_of, points_in}
use Rattle.tmm_model.specs.Verdicts.{place_cause}
use Rattle.list_theory.specs.WellNamed.{Follows, AllFollow}
use Rattle.list_theory.proofs.Adding.{uses_none}
use Rattle.list_theory.proofs.Elements.{In, In-left, In-from_Contains, Contains-from_In}
use Rattle.list_theory.proofs.Places.{place_known}
use Rattle.dist_net.specs.Net.{Net}
use Rattle.net_theory.specs.Fits.{IsNetOf}
use Rattle.net_theory.specs.KeptNumbers.{IsThere}
use Rattle.tt_query.proofs.Facts.{fact_known}

-- a premise of the list follows those before it
follows_at : (earlier ps : List Premise) → AllFollow earlier ps → (p : Premise) → In p ps → (known : List Premise) × (rest : List Premise) × (earlier ++ ps ≡ known ++ rest) × Follows known p
follows_at earlier [] h p at = absurd at
follows_at earlier (o ∷ ps) h p (inl is) = (earlier, o ∷ ps, refl, subst (Follows earlier) is h.0)
follows_at earlier (o ∷ ps) h p (inr at) =
    let (known, rest, e, f) = follows_at (earlier ++ o ∷ []) ps h.1 p at in
    (known, rest, sym (append_assoc earlier (o ∷ []) ps) ∙ e, f)

points_more : (known rest : List Premise) (p : PointName) → Contains (points_in known) p → Contains (points_in (known ++ rest)) p
points_more known rest p at =
    subst (λ l. Contains (Start ∷ l) p) (sym (flat_map-append points_of known rest))
    (Contains-from_In (Start ∷ (flat_map points_of known ++ flat_map points_of rest)) p
    (In-left (Start ∷ flat_map points_of known) (flat_map points_of rest) p (In-from_Contains (points_in known) p at)))

-- **The fact of a standing protection is declared, and its points have numbers.**
pub record IsGrounded (s : Standing) (net : Net) (fact : List ℕ) (from to : PointName) : Type 0 where
  pub known : IsSome (class_in s.premises fact)
  pub first : IsThere net.names from
  pub last : IsThere net.names to

pub grounded : (s : Standing) (net : Net) → IsNetOf s net → (name fact : List ℕ) (from to : PointName) → Contains s.premises (Protect name fact from to) → IsGrounded s net fact from to
grounded s net is name fact from to at =
    let (known, rest, e, follows) = follows_at [] s.premises is.sound.well_named (Protect name fact from to) (In-from_Contains s.premises (Protect name fact from to) at) in
    let (of_fact, others) = uses_none known (fact_use fact) (a_place from ∷ a_place to ∷ []) follows.known in
    let (of_from, last) = uses_none known (a_place from) (a_place to ∷ []) others in
    let (of_to, _) = uses_none known (a_place to) [] last in
    let there : (p : PointName) → place_cause known p ≡ None → IsThere net.names p =
    λ p none. is.fits.stands.numbered p (subst (λ l. Contains (points_in l) p) (sym e) (points_more known rest p (place_known known p none))) in
    record {
      known = subst (λ l. IsSome (class_in l fact)) (sym e) (fact_known known rest fact of_fact);
      first = there from of_from;
      last = there to of_to;
    }
