-- What a spot is of a list: its point with its number and name, its rules, and its moment.
use Rattle.std.proofs.Common.{◌≡◌, ℕ, List, [], ◌∷◌, ◌++◌, Option, Some, ap, refl, sym, subst}
use Rattle.std.specs.Prelude.{is_some}
use Rattle.std.specs.Option.{option_map_or}
use Rattle.std.specs.List.{All}
use Rattle.std.proofs.lemmas.List.Elements.{All-nil}
use Rattle.tmm_model.specs.declared.point.PointName.{PointName}
use Rattle.tmm_model.specs.declared.point.PointName.TheVariants.{Start, Begin}
use Rattle.tmm_model.specs.Moments.{At, base, rules}
use Rattle.tmm_model.specs.Standing.{Standing}
use Rattle.list_theory.proofs.Elements.{some_value}
use Rattle.belief_theory.proofs.Moments.{rules-along, base-along}
use Rattle.dist_net.specs.Net.{Net}
use Rattle.net_theory.specs.Represents.{IsNumberOf}
use Rattle.net_theory.proofs.Named.{name_at-is}
use Rattle.net_theory.proofs.Nets.{is_used}
use Rattle.spots.specs.declared.link.Link.{Link}
use Rattle.spots.specs.declared.spot.Spot.{Spot}
use Rattle.spots.specs.declared.spot.Spot.TheVariants.{Declared, Node}
use Rattle.spots.specs.Forest.{Forest, Member, member, IsLive, rules_of, moment, moment_at, last_name}
use Rattle.spots.specs.Spots.{IsSpot, spot_moment, base_of, links_of}
use Rattle.spots.specs.OfLists.{IsForestOf, IsLinkOf}
use Rattle.spots.proofs.Links.{rules_in}

-- a live number is that of a node
pub node_at : (f : Forest) (x : ℕ) → IsLive f x → (m : Member) × (member f x ≡ Some m)
node_at f x live = some_value (member f x) live

pub live_at : (f : Forest) (x : ℕ) (m : Member) → member f x ≡ Some m → IsLive f x
live_at f x m here = ap (λ (o : Option Member). is_some o) here

pub moment_at-is : (f : Forest) (x : ℕ) (m : Member) → member f x ≡ Some m → moment_at f x ≡ moment m
moment_at-is f x m here = ap (λ (o : Option Member). option_map_or moment o (At Start)) here

pub last_name-push : (name : List ℕ) (links : List Link) (link : Link) → last_name name (links ++ link ∷ []) ≡ link.rule
last_name-push name [] link = refl
last_name-push name (l ∷ links) link = last_name-push l.rule links link

pub rules-moment : (m : Member) → rules (moment m) ≡ rules_of m
rules-moment m = rules-along (At (Begin m.root)) (rules_of m)

pub base-moment : (m : Member) → base (moment m) ≡ Begin m.root
base-moment m = base-along (At (Begin m.root)) (rules_of m)

module _ (s : Standing) (net : Net) (f : Forest) (seen : IsForestOf s net f) where
  pub point_is : (p : Spot) → IsSpot net.names f p → IsNumberOf net.names (base_of f p) (base (spot_moment net.names f p))
  point_is (Declared p) at =
      let (name, is) = is_used net.names p at in
      subst (λ (q : PointName). IsNumberOf net.names p q) (sym (name_at-is net.names p name is)) is
  point_is (Node x) at =
      let (m, here) = node_at f x at in
      let begins = subst (λ (q : PointName). IsNumberOf net.names m.begin q) (sym (base-moment m)) (seen.members x m here).begin in
      subst (λ (o : Option Member). IsNumberOf net.names (option_map_or (λ m. m.begin) o 0) (base (option_map_or moment o (At Start)))) (sym here) begins

  pub links_are : (p : Spot) → IsSpot net.names f p → All (IsLinkOf s) (links_of f p)
  links_are (Declared p) at = All-nil (IsLinkOf s)
  links_are (Node x) at =
      let (m, here) = node_at f x at in
      subst (λ (o : Option Member). All (IsLinkOf s) (option_map_or (λ m. m.links) o [])) (sym here) (seen.members x m here).links

  pub rules_are : (p : Spot) → IsSpot net.names f p → rules (spot_moment net.names f p) ≡ rules_in (links_of f p)
  rules_are (Declared p) at = refl
  rules_are (Node x) at =
      let (m, here) = node_at f x at in
      subst (λ (o : Option Member). rules (option_map_or moment o (At Start)) ≡ rules_in (option_map_or (λ m. m.links) o [])) (sym here) (rules-moment m)
