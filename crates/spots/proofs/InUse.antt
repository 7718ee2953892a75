-- The points from which rules lead to spots are in use.
use Rattle.std.proofs.Common.{◌≡◌, ◌≢◌, ℕ, false, true, refl, sym, ap, subst, ◌∙◌}
use Rattle.std.specs.Prelude.{Option, Some, None, is_some, slice_index_or}
use Rattle.std.specs.Option.{option_map_or}
use Rattle.tmm_model.specs.declared.point.PointName.TheVariants.{Start, Begin}
use Rattle.dist_net.specs.Net.{Net, IsInUse}
use Rattle.spots.specs.declared.spot.Spot.{Spot}
use Rattle.spots.specs.declared.spot.Spot.TheVariants.{Declared, Node}
use Rattle.spots.specs.Forest.{Forest, Member, member}
use Rattle.spots.specs.Spots.{base_of, IsSpot}
use Rattle.spots.specs.OfLists.{HasList}

pub begin_in_use : (net : Net) (f : Forest) → HasList net f → (x : ℕ) (m : Member) → member f x ≡ Some m → IsInUse net.names m.begin
begin_in_use net f (s, seen) x m at = ap is_some (seen.members x m at).begin

pub base_in_use : (net : Net) (f : Forest) → HasList net f → (p : Spot) → IsSpot net.names f p → IsInUse net.names (base_of f p)
base_in_use net f list (Declared p) at = at
base_in_use net f list (Node x) at = by (member f x) refl
  where
    by : (o : Option Member) → member f x ≡ o → IsInUse net.names (base_of f (Node x))
    by None e = let t : false ≡ true = sym (ap is_some e) ∙ at in cc
    by (Some m) e =
        let base : base_of f (Node x) ≡ m.begin = ap (λ (o : Option Member). option_map_or (λ m. m.begin) o 0) e in
        subst (IsInUse net.names) (sym base) (begin_in_use net f list x m e)

-- date 0 is in use
pub zero_in_use : (net : Net) (f : Forest) → HasList net f → IsInUse net.names 0
zero_in_use net f (s, seen) = ap is_some seen.network.start

-- no node begins at date 0
pub begin_apart : (net : Net) (f : Forest) → HasList net f → (x : ℕ) (m : Member) → member f x ≡ Some m → m.begin ≢ 0
begin_apart net f (s, seen) x m at start =
    let both : Some (Begin m.root) ≡ Some Start = sym (seen.members x m at).begin ∙ ap (λ (n : ℕ). slice_index_or net.names n None) start ∙ seen.network.start in
    cc
