-- What nodes tell of belief, where they are the believed occurrences.
use Rattle.std.proofs.Common.{◌≡◌, ◌≢◌, ◌∙◌, ℕ, Bool, true, false, sym, ap, subst, refl}
use Rattle.std.specs.Prelude.{Option, Some, None, List, [], ◌∷◌, is_some}
use Rattle.std.specs.List.{Contains}
use Rattle.tmm_model.specs.declared.point.Occ.{Occ}
use Rattle.tmm_model.specs.declared.point.PointName.TheVariants.{Begin}
use Rattle.tmm_model.specs.declared.point.QueryPoint.TheVariants.{Derived}
use Rattle.tmm_model.specs.declared.refusal.Stop.{Stop}
use Rattle.tmm_model.specs.declared.refusal.Stop.TheVariants.{Refused, NoMemory}
use Rattle.tmm_model.specs.Maps.{TimeMap, built, is_believed}
use Rattle.tmm_model.specs.Moments.{Moment, At, along, moment_of}
use Rattle.tmm_model.specs.Points.{occ_word}
use Rattle.tmm_model.specs.Questions.{derived_cause, why_cause, is_root}
use Rattle.tmm_model.specs.Sorts.{sort_in}
use Rattle.tmm_model.specs.Standing.{Standing}
use Rattle.tmm_model.specs.Verdicts.{Cause, unknown, ill_sorted, name_cause, place_cause, Tells}
use Rattle.belief_theory.proofs.SoundBeliefs.{believed_occurs, believed_right}
use Rattle.belief_theory.proofs.Upholding.{among, is_among-Contains}
use Rattle.dist_net.specs.Net.{Net}
use Rattle.spots.specs.Forest.{Forest, Member, member, moment}
use Rattle.spots.specs.OfLists.{IsForestOf, HasOccurrences}
use Rattle.tt_query.specs.Stops.{StopsPoint, StopsFor, StopsUnknown}
use Rattle.tt_query.proofs.Facts.{sort_of_root_in, root_of_sort, a_root_is_known, a_plain_point}

module _ (s : Standing) (f : Forest) (holds : HasOccurrences (built s).believed f) where
  pub believed_node : (k : Moment) (x : ℕ) (m : Member) → member f x ≡ Some m → moment m ≡ k → Contains (built s).believed k
  believed_node k x m is e = subst (Contains (built s).believed) e (holds.own x m is)

  pub no_node : (k : Moment) → ((x : ℕ) (m : Member) → member f x ≡ Some m → moment m ≢ k) → Contains (built s).believed k → ⊥
  no_node k none at = let (x, m, is, e) = holds.all k at in none x m is e

  pub no_cause : (o : Occ) (x : ℕ) (m : Member) → member f x ≡ Some m → moment m ≡ moment_of o → derived_cause (built s) o ≡ None
  no_cause o x m is e = ap (λ b. elim b as (λ _. Option Cause) [ true ↦ None | false ↦ Some (unknown (occ_word o)) ]) (is_among-Contains (built s).believed (moment_of o) (believed_node (moment_of o) x m is e))

  pub a_cause : (o : Occ) → ((x : ℕ) (m : Member) → member f x ≡ Some m → moment m ≢ moment_of o) → derived_cause (built s) o ≡ Some (unknown (occ_word o))
  a_cause o none = by (is_believed (built s) (moment_of o)) refl
    where
      by : (b : Bool) → is_believed (built s) (moment_of o) ≡ b → elim b as (λ _. Option Cause) [ true ↦ None | false ↦ Some (unknown (occ_word o)) ] ≡ Some (unknown (occ_word o))
      by true e = absurd (no_node (moment_of o) none (among (built s).believed (moment_of o) e))
      by false e = refl

-- ---- stops

pub stops_derived : (m : TimeMap) (o : Occ) (stop : Stop) → derived_cause m o ≡ Some (unknown (occ_word o)) → StopsUnknown o stop → StopsPoint m (Derived o) stop
stops_derived m o (Refused refusal) e h = subst (Tells refusal) (sym e) h
stops_derived m o NoMemory e h = ap is_some e

pub why_is_derived : (m : TimeMap) (o : Occ) (rules : List (List ℕ)) → rules ≢ [] → why_cause m o rules ≡ derived_cause m o
why_is_derived m o [] e = absurd (e refl)
why_is_derived m o (r ∷ rules) e = refl

pub stops_why : (m : TimeMap) (o : Occ) (rules : List (List ℕ)) (stop : Stop) → rules ≢ [] → derived_cause m o ≡ Some (unknown (occ_word o)) → StopsUnknown o stop → StopsFor m o rules stop
stops_why m o [] stop other e h = absurd (other refl)
stops_why m o (r ∷ rules) (Refused refusal) other e h = subst (Tells refusal) (sym e) h
stops_why m o (r ∷ rules) NoMemory other e h = ap is_some e

-- ---- roots

module _ (s : Standing) (net : Net) (f : Forest) (seen : IsForestOf s net f) (holds : HasOccurrences (built s).believed f) where
  own_moment : (o : Occ) → o.rules.items ≡ [] → moment_of o ≡ At (Begin o.root)
  own_moment o plain = ap (along (At (Begin o.root))) plain

  pub root_known : (o : Occ) → o.rules.items ≡ [] → (x : ℕ) (m : Member) → member f x ≡ Some m → moment m ≡ moment_of o → name_cause (sort_in s.premises o.root) o.root is_root ≡ None
  root_known o plain x m is e =
      let believed : Contains (built s).believed (At (Begin o.root)) = believed_node s f holds (At (Begin o.root)) x m is (e ∙ own_moment o plain) in
      let (sort, found, root) = sort_of_root_in s seen.network.sound.well_named o.root (believed_occurs s seen.network.sound (At (Begin o.root)) believed) in
      ap (λ so. name_cause so o.root is_root) found ∙ a_root_is_known sort o.root root

  pub no_root : (o : Occ) → o.rules.items ≡ [] → place_cause s.premises (Begin o.root) ≡ None → ((x : ℕ) (m : Member) → member f x ≡ Some m → moment m ≢ moment_of o)
      → name_cause (sort_in s.premises o.root) o.root is_root ≡ Some (ill_sorted o.root)
  no_root o plain place none =
      a_plain_point (sort_in s.premises o.root) o.root place
      (λ sort is root. no_node s f holds (moment_of o) none
      (subst (Contains (built s).believed) (sym (own_moment o plain)) ((believed_right s seen.network.sound (At (Begin o.root))).1 (root_of_sort s o.root sort is root))))
