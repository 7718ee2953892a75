-- Facts of a network in the words of numbers and points.
use Rattle.std.proofs.Common.{◌≡◌, inl, inr, ℕ, ◌<◌, List, [], ◌∷◌, ◌++◌, length, set, get_or, Some, None, arith, sym, subst, ap}
use Rattle.std.specs.List.{Contains}
use Rattle.std.proofs.lemmas.List.Elements.{All-contains}
use Rattle.std.specs.Prelude.{is_some}
use Rattle.tmm_model.specs.declared.point.PointName.{PointName}
use Rattle.tmm_model.specs.declared.point.PointName.TheVariants.{Start}
use Rattle.tmm_model.specs.Standing.{Standing, points_in, arcs_in, IsConsistent}
use Rattle.tmm_model.specs.Walks.{Arc, HasDates}
use Rattle.list_theory.proofs.Elements.{some_value}
use Rattle.walk_theory.proofs.Members.{All-from_contains, Contains-cons_cases}
use Rattle.dist_net.specs.declared.Edge.{Edge}
use Rattle.dist_net.specs.Net.{Net, IsInUse, AreDistinct, AreInUse, arcs_of}
use Rattle.dist_net.proofs.Names.{ends_of}
use Rattle.net_theory.specs.Fits.{Fits}
use Rattle.net_theory.specs.KeptNumbers.{KeepsNumbers}
use Rattle.net_theory.specs.Represents.{Names, IsNumberOf, Represents}
use Rattle.net_theory.proofs.Representing.{IsUsed, HasDates-named}
use Rattle.net_theory.proofs.Extending.{IsNumberOf-kept, Represents-point}

pub is_used : (names : Names) (n : ℕ) → IsInUse names n → IsUsed names n
is_used names n in_use = some_value (get_or names n None) in_use

-- the constraints are between numbers in use
pub ends_used : (names : Names) (edges : List Edge) → AreInUse names edges → (e : Arc ℕ) → Contains (arcs_of edges) e → IsUsed names e.from × IsUsed names e.to
ends_used names edges in_use e m = let ends = ends_of names edges in_use e m in (is_used names e.from ends.0, is_used names e.to ends.1)

pub adds_point : (names : Names) (edges : List Edge) (n : ℕ) (p : PointName) → n < length names → get_or names n None ≡ None → AreInUse names edges
    → (points : List PointName) (named : List (Arc PointName)) → Represents points named names (arcs_of edges) → Represents (points ++ p ∷ []) named (set names n (Some p)) (arcs_of edges)
adds_point names edges n p short free in_use points named stands = Represents-point names n p short free points named (arcs_of edges) stands (ends_used names edges in_use)

pub keeps_numbers : (names : Names) (n : ℕ) (p : PointName) → n < length names → get_or names n None ≡ None → KeepsNumbers names (set names n (Some p))
keeps_numbers names n p short free = IsNumberOf-kept names n p short free

-- an edge between numbers of points is in use
pub is_in_use : (names : Names) (n : ℕ) (p : PointName) → IsNumberOf names n p → IsInUse names n
is_in_use names n p is = ap is_some is

pub one_in_use : (names : Names) (e : Edge) (p q : PointName) → IsNumberOf names e.from p → IsNumberOf names e.to q → AreInUse names (e ∷ [])
one_in_use names e p q from to = All-from_contains (λ x. IsInUse names x.from × IsInUse names x.to) (e ∷ [])
    (λ x m. elim (Contains-cons_cases e [] x m) [
      | inl none ↦ absurd (omega (arith, none.1))
      | inr is ↦ subst (λ (y : Edge). IsInUse names y.from × IsInUse names y.to) (sym is) (is_in_use names e.from p from, is_in_use names e.to q to)
    ])

pub two_in_use : (names : Names) (e f : Edge) (p q r s : PointName) → IsNumberOf names e.from p → IsNumberOf names e.to q → IsNumberOf names f.from r → IsNumberOf names f.to s
    → AreInUse names (e ∷ f ∷ [])
two_in_use names e f p q r s from to second_from second_to = All-from_contains (λ x. IsInUse names x.from × IsInUse names x.to) (e ∷ f ∷ [])
    (λ x m. elim (Contains-cons_cases e (f ∷ []) x m) [
      | inl later ↦ All-contains (λ y. IsInUse names y.from × IsInUse names y.to) (f ∷ []) x (one_in_use names f r s second_from second_to) later
      | inr is ↦ subst (λ (y : Edge). IsInUse names y.from × IsInUse names y.to) (sym is) (is_in_use names e.from p from, is_in_use names e.to q to)
    ])

-- **Some dates satisfy the premises of a list that a network fits.**
pub dates_of_list : (list : Standing) (net : Net) → Fits list net → AreDistinct net.names → IsNumberOf net.names 0 Start → AreInUse net.names net.edges → HasDates 0 (arcs_of net.edges)
    → IsConsistent list.premises
dates_of_list list net fits distinct start in_use dates =
    HasDates-named (points_in list.premises) (arcs_in list.premises) net.names (arcs_of net.edges) fits.stands distinct start (ends_used net.names net.edges in_use) dates
