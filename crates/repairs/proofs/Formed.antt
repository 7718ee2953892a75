-- What a list of well-formed premises says of points and constraints.
use Rattle.std.proofs.Common.{◌≡◌, ◌≢◌, ℕ, ℤ, false, List, [], ◌∷◌, ◌++◌, refl, sym, ◌∙◌, ap, subst, inl, inr, codes}
use Rattle.std.specs.Prelude.{None}
use Rattle.std.specs.List.{All, flat_map}
use Rattle.std.proofs.lemmas.Bool.{false≢true}
use Rattle.std.proofs.lemmas.List.Elements.{All-contains}
use Rattle.tmm_model.specs.declared.bound.Bound.TheVariants.{Finite, Free}
use Rattle.tmm_model.specs.declared.point.PointName.{PointName}
use Rattle.tmm_model.specs.declared.point.PointName.TheVariants.{Start}
use Rattle.tmm_model.specs.declared.premise.Edit.TheVariants.{Add}
use Rattle.tmm_model.specs.declared.premise.Premise.{Premise}
use Rattle.tmm_model.specs.declared.premise.Premise.TheVariants.{Class, Kind, Point, Event, Token, Span, Dist, Rule, Protect, Against}
use Rattle.tmm_model.specs.Lines.{IsName, IsNumber, IsWellFormedPoint, IsWellFormedPremise}
use Rattle.tmm_model.specs.Sorts.{is_reserved, a_place, uses_of}
use Rattle.tmm_model.specs.Standing.{Standing, name_of, points_of, points_in}
use Rattle.tmm_model.specs.Verdicts.{first_taken, list_cause, place_cause, words_known}
use Rattle.list_theory.specs.WellNamed.{AllFollow, IsWellNamed}
use Rattle.list_theory.proofs.Adding.{may_be_added, each_use}
use Rattle.list_theory.proofs.Elements.{In, In-from_Contains, Contains-from_In, In-flat_map}
use Rattle.list_theory.proofs.Places.{place_known, first_declared}
use Rattle.list_theory.proofs.WellNamed.{first_taken-none}

-- no premise has a reserved name
unreserved : (earlier ps : List Premise) → AllFollow earlier ps → (p : Premise) → In p ps → is_reserved (name_of p) ≡ false
unreserved earlier [] follow p at = absurd at
unreserved earlier (q ∷ ps) follow p (inl is) =
    let (ws, e) = first_declared q in
    let first : is_reserved (name_of q) ≡ false = (first_taken-none (words_known earlier) (name_of q) ws (subst (λ l. first_taken (words_known earlier) l ≡ None) e follow.0.new)).allowed in
    subst (λ (z : Premise). is_reserved (name_of z) ≡ false) is first
unreserved earlier (q ∷ ps) follow p (inr at) = unreserved (earlier ++ q ∷ []) ps follow.1 p at

not_start : (name : List ℕ) → is_reserved name ≡ false → name ≢ codes "start"
not_start name free is = false≢true (sym free ∙ ap is_reserved is)

-- the points of a premise
declares : (q : Premise) → IsWellFormedPremise q → name_of q ≢ codes "start" → (p : PointName) → In p (points_of q) → IsWellFormedPoint p
declares (Point name) formed other p (inl is) = subst IsWellFormedPoint is (formed, other)
declares (Event name kind) formed other p (inl is) = subst IsWellFormedPoint is (formed.0, other)
declares (Token name fact) formed other p (inl is) = subst IsWellFormedPoint is (formed.0, other)
declares (Span name fact) formed other p (inl is) = subst IsWellFormedPoint is (formed.0, other)
declares (Span name fact) formed other p (inr (inl is)) = subst IsWellFormedPoint is formed.0
declares (Span name fact) formed other p (inr (inr never)) = absurd never
declares (Point name) formed other p (inr never) = absurd never
declares (Event name kind) formed other p (inr never) = absurd never
declares (Token name fact) formed other p (inr never) = absurd never
declares (Class name facts) formed other p never = absurd never
declares (Kind name) formed other p never = absurd never
declares (Dist name from to lo hi) formed other p never = absurd never
declares (Rule name trigger lo hi effect given unless_facts) formed other p never = absurd never
declares (Protect name fact from to) formed other p never = absurd never
declares (Against name one other_fact) formed other p never = absurd never

-- **A point against which there is no cause is well formed.**
pub formed_point : (ps : List Premise) → All IsWellFormedPremise ps → IsWellNamed ps → (p : PointName) → place_cause ps p ≡ None → IsWellFormedPoint p
formed_point ps formed named p none = by (In-from_Contains (points_in ps) p (place_known ps p none))
  where
    by : In p (Start ∷ flat_map points_of ps) → IsWellFormedPoint p
    by (inl is) = subst IsWellFormedPoint is tt
    by (inr at) =
        let (q, there, own) = In-flat_map points_of ps p at in
        declares q (All-contains IsWellFormedPremise ps q formed (Contains-from_In ps q there)) (not_start (name_of q) (unreserved [] ps named q there)) p own

-- **A constraint against which there is no cause is well formed.**
pub formed_added : (s : Standing) → All IsWellFormedPremise s.premises → IsWellNamed s.premises → (name : List ℕ) (from to : PointName) (lo : ℤ) → IsName name → IsNumber lo
    → list_cause s (Add (Dist name from to (Finite lo) Free)) ≡ None → IsWellFormedPremise (Dist name from to (Finite lo) Free)
formed_added s formed named name from to lo is_name number none =
    let uses = each_use s.premises (uses_of (Dist name from to (Finite lo) Free)) (may_be_added s.premises (Dist name from to (Finite lo) Free) none).uses in (
      is_name,
      formed_point s.premises formed named from (uses (a_place from) (inl refl)),
      formed_point s.premises formed named to (uses (a_place to) (inr (inl refl))),
      number,
      tt,
      tt,
    )
