-- What may enter a tree of rows: what joins the occurrences that its nodes are.
use Rattle.std.proofs.Common.{◌≡◌, ◌∙◌, ℕ, List, [], ◌∷◌, ◌++◌, refl, sym, ap, subst}
use Rattle.std.specs.Prelude.{Option, Some, None}
use Rattle.std.specs.List.{Contains}
use Rattle.tmm_model.specs.declared.point.PointName.TheVariants.{Begin}
use Rattle.tmm_model.specs.declared.premise.Premise.{Premise}
use Rattle.tmm_model.specs.Beliefs.{root_of, roots}
use Rattle.tmm_model.specs.Moments.{Moment, At, After, along, base}
use Rattle.list_theory.specs.WellNamed.{IsSound}
use Rattle.tmm_model.specs.Standing.{Standing, name_of, premise_in}
use Rattle.list_theory.proofs.Elements.{In, In-from_Contains, Contains-from_In, In-filter_map}
use Rattle.list_theory.proofs.KnownNames.{found, finds}
use Rattle.belief_theory.proofs.Moments.{along-push}
use Rattle.dist_net.specs.Net.{Net}
use Rattle.spots.specs.Forest.{Forest, moment, moment_at, IsLive, IsNoRoot}
use Rattle.spots.specs.OfLists.{HasOccurrences, HasList}
use Rattle.spots.proofs.Nodes.{node_at, moment_at-is, base-moment}
use Rattle.spots.specs.Growing.{Adds, AddsRoot, AddsRootAt}
use Rattle.spots.proofs.Grown.{root_name, adds_seen}
use Rattle.just_check.specs.Checking.{Joins, AreFirst, AreSoFar, IsNoNode, EntersAs}

-- ---- nodes and occurrences

-- what is no node is none of the occurrences
pub none_of : (f : Forest) (b : List Moment) (k : Moment) → HasOccurrences b f → IsNoNode f k → In k b → ⊥
none_of f b k holds none at = let (x, m, here, is) = holds.all k (Contains-from_In b k at) in none x m here is

-- and what is none of the occurrences is no node
pub no_node : (f : Forest) (b : List Moment) (k : Moment) → HasOccurrences b f → (In k b → ⊥) → IsNoNode f k
no_node f b k holds apart x m here is = apart (subst (λ y. In y b) is (In-from_Contains b (moment m) (holds.own x m here)))

-- a node is one of the occurrences
pub one_of : (f : Forest) (b : List Moment) (x : ℕ) → HasOccurrences b f → IsLive f x → In (moment_at f x) b
one_of f b x holds live =
    let (m, here) = node_at f x live in
    subst (λ k. In k b) (sym (moment_at-is f x m here)) (In-from_Contains b (moment m) (holds.own x m here))

-- the root of each of first ones is one of them
pub root_first : (s : Standing) (b : List Moment) → AreFirst s b → (k : Moment) → In k b → In (At (base k)) b
root_first s b first (At p) at = at
root_first s b first (After t r) at = root_first s b first t (In-from_Contains b t (first.fires t r at).believed)

-- so where a root is no node, no node is of that root
pub no_root_of : (s : Standing) (net : Net) (f : Forest) (b : List Moment) → AreSoFar s net f b → (name : List ℕ) → IsNoNode f (At (Begin name)) → IsNoRoot f name
no_root_of s net f b so_far name none x m here named =
    none_of f b (At (Begin name)) so_far.holds none
    (subst (λ p. In (At p) b) (base-moment m ∙ ap Begin named) (root_first s b so_far.first (moment m) (In-from_Contains b (moment m) (so_far.holds.own x m here))))

-- ---- what a premise declares

same_begin : (a b : List ℕ) → At (Begin a) ≡ At (Begin b) → a ≡ b
same_begin a b e = let same : Begin a ≡ Begin b = cc in cc

-- a root of the list is what the premise of its name declares
pub declares : (s : Standing) → IsSound s → (name : List ℕ) → Contains (roots s) (At (Begin name)) → (p : Premise) × (premise_in s.premises name ≡ Some p) × (root_of p ≡ Some (At (Begin name)))
declares s sound name at =
    let (p, there, is) = In-filter_map root_of s.premises (At (Begin name)) (In-from_Contains (roots s) (At (Begin name)) at) in
    let named : name_of p ≡ name = same_begin (name_of p) name (sym (root_name p (At (Begin name)) is)) in
    (p, subst (λ n. premise_in s.premises n ≡ Some p) named (found s.premises sound.well_named p there), is)

module _ (s : Standing) (net : Net) (f new : Forest) (b : List Moment) (so_far : AreSoFar s net f b) (name : List ℕ) (none : IsNoNode f (At (Begin name))) where
  sound : IsSound s
  sound = so_far.seen.network.sound

  -- without a premise of this name there is no such root
  pub no_premise : premise_in s.premises name ≡ None → Joins s b (At (Begin name)) → ⊥
  no_premise e joins = let (p, there, is) = declares s sound name joins.belongs in let never : None ≡ Some p = sym e ∙ there in cc

  module _ (p : Premise) (here : premise_in s.premises name ≡ Some p) where
    pub premise_stands : In p s.premises
    premise_stands = (finds s.premises name p here).0

    pub no_root_for : IsNoRoot f (name_of p)
    no_root_for = subst (IsNoRoot f) (sym (finds s.premises name p here).1) (no_root_of s net f b so_far name none)

    -- what the premise declares enters, or it declares nothing
    pub root_enters : (x : Option ℕ) → AddsRoot s net.names p f new x → EntersAs s net.names b (At (Begin name)) f new x
    root_enters x = by (root_of p) refl x
      where
        by : (o : Option Moment) → root_of p ≡ o → (x : Option ℕ) → AddsRootAt s net.names o f new x → EntersAs s net.names b (At (Begin name)) f new x
        by (Some k) e (Some x) adds =
            subst (Adds s net.names f new x) (root_name p k e ∙ ap (λ n. At (Begin n)) (finds s.premises name p here).1) adds
        by (Some k) e None adds = absurd adds
        by None e (Some x) adds = absurd adds
        by None e None adds = λ joins.
            let (q, there, is) = declares s sound name joins.belongs in
            let same : p ≡ q = (let g : Some p ≡ Some q = sym here ∙ there in cc) in
            let never : None ≡ Some (At (Begin name)) = sym e ∙ ap root_of same ∙ is in
            cc

    -- nodes and network are of a list then, too
    pub root_in : (x : Option ℕ) → AddsRoot s net.names p f new x → HasList net new
    root_in x = by (root_of p) refl x
      where
        by : (o : Option Moment) → root_of p ≡ o → (x : Option ℕ) → AddsRootAt s net.names o f new x → HasList net new
        by (Some k) e (Some x) adds =
            let named : k ≡ At (Begin name) = root_name p k e ∙ ap (λ n. At (Begin n)) (finds s.premises name p here).1 in
            (s, adds_seen s net f new x k adds (subst (IsNoNode f) (sym named) none) so_far.seen)
        by (Some k) e None adds = absurd adds
        by None e (Some x) adds = absurd adds
        by None e None same = subst (HasList net) (sym same) (s, so_far.seen)

-- ---- a row with rules

-- an effect whose event is none of the occurrences does not join them
pub no_event : (s : Standing) (b : List Moment) (k t : Moment) (r : List ℕ) → k ≡ After t r → (In t b → ⊥) → Joins s b k → ⊥
no_event s b k t r is absent joins = let joined = subst (Joins s b) is joins in absent (In-from_Contains b t joined.belongs.believed)

-- the row is what its last rule brings about at what the others lead to
pub last_rule : (root : List ℕ) (rs way : List (List ℕ)) (r : List ℕ) → rs ≡ way ++ r ∷ [] → along (At (Begin root)) rs ≡ After (along (At (Begin root)) way) r
last_rule root rs way r is = ap (along (At (Begin root))) is ∙ along-push (At (Begin root)) way r
