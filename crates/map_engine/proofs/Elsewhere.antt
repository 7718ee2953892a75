-- Where no number is of a point that beliefs read, the list that an edit leaves is alike.
use Rattle.std.proofs.Common.{◌≡◌, ◌∙◌, ℕ, Bool, true, false, not, List, refl, sym, ap, subst}
use Rattle.std.specs.Prelude.{Some, None, slice_index_or}
use Rattle.std.specs.Option.{is_some}
use Rattle.tmm_model.specs.declared.point.PointName.{PointName}
use Rattle.tmm_model.specs.declared.point.PointName.TheVariants.{Start, Begin, End}
use Rattle.tmm_model.specs.declared.premise.Premise.{Premise}
use Rattle.tmm_model.specs.declared.premise.Premise.TheVariants.{Class, Kind, Point, Event, Token, Span, Dist, Rule, Protect, Against}
use Rattle.tmm_model.specs.Beliefs.{as_root, root_of, roots}
use Rattle.tmm_model.specs.Moments.{At}
use Rattle.tmm_model.specs.Standing.{Standing, name_of, premise_in}
use Rattle.list_theory.specs.WellNamed.{IsWellNamed}
use Rattle.list_theory.proofs.Elements.{In-from_Contains, In-filter_map, list_all-In}
use Rattle.list_theory.proofs.KnownNames.{found}
use Rattle.net_theory.specs.Represents.{Names}
use Rattle.revisions.specs.Alike.{IsAnchor}
use Rattle.revisions.specs.StillEdits.{AreElsewhere}
use Rattle.map_engine.specs.Still.{is_anchor, is_elsewhere, are_elsewhere}

-- what begins at a point under its name is declared there
declared_at : (p : Premise) (k : List ℕ) → root_of p ≡ Some (At (Begin k)) → (name_of p ≡ k) × (is_some (as_root (Some p)) ≡ true)
declared_at (Event name kind) k e = (cc, refl)
declared_at (Token name fact) k e = (cc, refl)
declared_at (Span name fact) k e = (cc, refl)
declared_at (Class name facts) k e = cc
declared_at (Kind name) k e = cc
declared_at (Point name) k e = cc
declared_at (Dist name from to lo hi) k e = cc
declared_at (Rule name trigger lo hi effect given unless_facts) k e = cc
declared_at (Protect name fact from to) k e = cc
declared_at (Against name one other) k e = cc

anchor_seen : (s : Standing) → IsWellNamed s.premises → (p : PointName) → IsAnchor s p → is_anchor s.premises p ≡ true
anchor_seen s named Start at = refl
anchor_seen s named (Begin k) at =
    let (p, there, e) = In-filter_map root_of s.premises (At (Begin k)) (In-from_Contains (roots s) (At (Begin k)) at) in
    let (name, some) = declared_at p k e in
    ap (λ o. is_some (as_root o)) (subst (λ n. premise_in s.premises n ≡ Some p) name (found s.premises named p there)) ∙ some
anchor_seen s named (End k) at = ap is_some at.1

pub elsewhere : (s : Standing) → IsWellNamed s.premises → (names : Names) (numbers : List ℕ) → are_elsewhere s.premises names numbers ≡ true → AreElsewhere s names numbers
elsewhere s named names numbers e = λ n p there is at.
    let other = list_all-In (λ n. is_elsewhere s.premises (slice_index_or names n None)) numbers e n (In-from_Contains numbers n there) in
    let here : is_elsewhere s.premises (Some p) ≡ true = ap (is_elsewhere s.premises) (sym is) ∙ other in
    never (is_anchor s.premises p) (anchor_seen s named p at) here
  where
    never : (b : Bool) → b ≡ true → not b ≡ true → ⊥
    never true e f = cc
    never false e f = cc
