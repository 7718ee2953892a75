-- The numbers of nodes that are looked for.
use Rattle.std.proofs.Common.{◌≡◌, ◌∙◌, ℕ, List, [], ◌∷◌, ◌++◌, sym, subst, inl, inr}
use Rattle.std.specs.Prelude.{◌⊎◌, ◌≢◌, Option, None, MatchOption, Some, Result, Ok, Err, OnOk}
use Rattle.std.specs.List.{Contains}
use Rattle.tmm_model.specs.declared.point.PointName.TheVariants.{Begin}
use Rattle.tmm_model.specs.Moments.{Moment, At}
use Rattle.list_theory.proofs.Elements.{In, In-cases}
use Rattle.spots.specs.Forest.{Forest, Member, member, moment, IsOnce}
use Rattle.spots.proofs.Nodes.{node_at, moment_at-is}
use Rattle.belief_turns.specs.declared.told.Told.{Told}
use Rattle.map_engine.specs.Touching.{HasNodeOf, TakesIn}

-- the node of an occurrence is the only one
pub found_node : (f : Forest) (k : Moment) (x : ℕ) (m : Member) (numbers : List ℕ) → IsOnce f → member f x ≡ Some m → moment m ≡ k → Contains numbers x → HasNodeOf f k numbers
found_node f k x m numbers once at is has = λ y live same.
    let (n, here) = node_at f y live in
    let one : x ≡ y = once x y m n at here (is ∙ sym same ∙ moment_at-is f y n here) in
    subst (Contains numbers) one has

pub no_node : (f : Forest) (k : Moment) (numbers : List ℕ) → ((x : ℕ) (m : Member) → member f x ≡ Some m → moment m ≢ k) → HasNodeOf f k numbers
no_node f k numbers none = λ y live same. (let (n, here) = node_at f y live in absurd (none y n here (sym (moment_at-is f y n here) ∙ same)))

-- numbers that are kept are still those of the node
pub has_more : (f : Forest) (k : Moment) (numbers more : List ℕ) → ((x : ℕ) → Contains numbers x → Contains more x) → HasNodeOf f k numbers → HasNodeOf f k more
has_more f k numbers more kept has = λ x live is. kept x (has x live is)

-- what is among the first elements and one more
pub in_more : {X : Type 0} (front more : List X) (x y : X) → more ≡ front ++ y ∷ [] → In x more → In x front ⊎ (y ≡ x)
in_more front more x y is at = elim (In-cases front (y ∷ []) x (subst (In x) is at)) [
  | inl there ↦ inl there
  | inr here ↦ elim here [ inl same ↦ inr same | inr none ↦ absurd none ]
]

-- what is said of success follows from what was said of it
pub on_ok : {T E : Type 0} (P Q : Type 0) → (P → Q) → (r : Result T E) → OnOk r P → OnOk r Q
on_ok P Q step (Ok x) p = step p
on_ok P Q step (Err e) p = p

-- more numbers take in what some do
pub takes_more : (f : Forest) (told : Told) (added : Option (List ℕ)) (others numbers more : List ℕ) → ((x : ℕ) → Contains numbers x → Contains more x)
    → TakesIn f told added others numbers → TakesIn f told added others more
takes_more f told added others numbers more kept takes = record {
  entered = λ k at x live is. kept x (takes.entered k at x live is);
  left = λ x k at. kept x (takes.left x k at);
  root = root added takes.root;
  beside = λ x at. kept x (takes.beside x at);
}
  where
    root : (o : Option (List ℕ)) → MatchOption o (Unit {0}) (λ name. HasNodeOf f (At (Begin name)) numbers) → MatchOption o (Unit {0}) (λ name. HasNodeOf f (At (Begin name)) more)
    root None free = free
    root (Some name) has = λ x live is. kept x (has x live is)
