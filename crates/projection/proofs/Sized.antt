-- What the nodes count of the size of a map, one number after the other.
use Rattle.std.proofs.Common.{◌≡◌, ◌∙◌, ℕ, ◌+◌, ◌<◌, ◌≤◌, ◌==◌, Bool, true, false, List, [], ◌∷◌, refl, sym, ap, subst, inl, inr, arith}
use Rattle.std.proofs.lemmas.Bool.Decides.{Decides-eqb}
use Rattle.std.proofs.lemmas.List.Sums.{sum_by-cons}
use Rattle.std.specs.Prelude.{Some, sum_by}
use Rattle.tmm_model.specs.Answers.{weight, size, most_size}
use Rattle.tmm_model.specs.Maps.{built}
use Rattle.tmm_model.specs.Moments.{Moment}
use Rattle.tmm_model.specs.Standing.{Standing}
use Rattle.list_theory.proofs.Distinct.{Distinct, sum_inside}
use Rattle.list_theory.proofs.Elements.{In, In-from_Contains, Contains-from_In}
use Rattle.dist_net.specs.Net.{Net}
use Rattle.spots.specs.Forest.{Forest, Member, member, moment, moment_at, IsLive}
use Rattle.spots.specs.OfLists.{IsForestOf, HasOccurrences}
use Rattle.spots.proofs.Believed.{believed_once}
use Rattle.spots.proofs.Nodes.{node_at, live_at, moment_at-is}
use Rattle.projection.specs.Queues.{weight_at}
use Rattle.projection.proofs.Steps.{inside_size}

-- the occurrence is that of a node whose number is below n
abbrev pub IsOfFirst : Forest → ℕ → Moment → Type 0
IsOfFirst f n k = (x : ℕ) × (m : Member) × (x < n) × (member f x ≡ Some m) × (moment m ≡ k)

-- so much the occurrences of the nodes below n count
pub record AreCounted (s : Standing) (f : Forest) (n counted : ℕ) : Type 0 where
  pub moments : List Moment
  pub own : (k : Moment) → In k moments → IsOfFirst f n k
  pub all : (x : ℕ) (m : Member) → x < n → member f x ≡ Some m → In (moment m) moments
  pub once : Distinct moments
  pub sum : counted ≡ sum_by (weight (built s)) moments

further : (f : Forest) (n : ℕ) (k : Moment) → IsOfFirst f n k → IsOfFirst f (n + 1) k
further f n k (x, m, below, at, is) = (x, m, omega (arith, below), at, is)

module _ (s : Standing) (f : Forest) where
  pub none_counted : AreCounted s f 0 0
  none_counted = record {
    moments = [];
    own = λ k at. absurd at;
    all = λ x m below at. absurd (omega (arith, below));
    once = tt;
    sum = refl;
  }

  pub dead_counted : (n counted : ℕ) → (IsLive f n → ⊥) → AreCounted s f n counted → AreCounted s f (n + 1) counted
  dead_counted n counted dead before = record {
    moments = before.moments;
    own = λ k at. further f n k (before.own k at);
    all = λ x m below at. by x m below at (x == n) refl;
    once = before.once;
    sum = before.sum;
  }
    where
      by : (x : ℕ) (m : Member) → x < n + 1 → member f x ≡ Some m → (b : Bool) → (x == n) ≡ b → In (moment m) before.moments
      by x m below at true e = absurd (dead (subst (IsLive f) ((Decides-eqb x n).0 e) (live_at f x m at)))
      by x m below at false e = let ne : x ≡ n → ⊥ = λ same. let t : (x == n) ≡ true = (Decides-eqb x n).1 same in cc in before.all x m (omega (arith, below)) at

module _ (s : Standing) (net : Net) (f : Forest) (seen : IsForestOf s net f) where
  pub live_counted : (n counted : ℕ) → IsLive f n → AreCounted s f n counted → AreCounted s f (n + 1) (counted + weight_at s f n)
  live_counted n counted live before =
      let (here, there) = node_at f n live in
      let is : moment here ≡ moment_at f n = sym (moment_at-is f n here there) in
      let first = sum_by-cons (weight (built s)) (moment_at f n) before.moments in
      let so_far = before.sum in
      record {
        moments = moment_at f n ∷ before.moments;
        own = λ k at. elim at [ inl same ↦ (n, here, omega arith, there, is ∙ same) | inr old ↦ further f n k (before.own k old) ];
        all = λ x m below at. by x m below at (x == n) refl;
        once = ((λ old. (let (x, m, below, at, same) = before.own (moment_at f n) old in let one : x ≡ n = seen.once x n m here at there (same ∙ sym is) in omega (arith, below, one))), before.once);
        sum = omega (arith, first, so_far);
      }
    where
      by : (x : ℕ) (m : Member) → x < n + 1 → member f x ≡ Some m → (b : Bool) → (x == n) ≡ b → In (moment m) (moment_at f n ∷ before.moments)
      by x m below at true e = inl (moment_at-is f n m (ap (member f) (sym ((Decides-eqb x n).0 e)) ∙ at))
      by x m below at false e = let ne : x ≡ n → ⊥ = λ same. let t : (x == n) ≡ true = (Decides-eqb x n).1 same in cc in inr (before.all x m (omega (arith, below)) at)

  module _ (holds : HasOccurrences (built s).believed f) where
    -- nodes that are believed count no more than the map
    pub counted_within : (n counted : ℕ) → AreCounted s f n counted → counted ≤ size (built s)
    counted_within n counted are =
        let most = inside_size s seen.network.sound are.moments are.once inside in
        let sum = are.sum in
        omega (arith, most, sum)
      where
        inside : (k : Moment) → In k are.moments → In k (built s).believed
        inside k at =
            let (x, m, below, there, is) = are.own k at in
            subst (λ z. In z (built s).believed) is (In-from_Contains (built s).believed (moment m) (holds.own x m there))

    -- and all together as much
    pub all_counted : (n counted : ℕ) → ((x : ℕ) → IsLive f x → x < n) → AreCounted s f n counted → counted ≡ size (built s)
    all_counted n counted last are =
        let most = counted_within n counted are in
        let least = sum_inside (weight (built s)) (built s).believed are.moments (believed_once s seen.network.sound) inside in
        let sum = are.sum in
        omega (arith, most, least, sum)
      where
        inside : (k : Moment) → In k (built s).believed → In k are.moments
        inside k at =
            let (x, m, there, is) = holds.all k (Contains-from_In (built s).believed k at) in
            subst (λ z. In z are.moments) is (are.all x m (last x (live_at f x m there)) there)

    -- what counts too much is a map that is too large
    pub too_large : (n counted : ℕ) → AreCounted s f n counted → most_size < counted → most_size < size (built s)
    too_large n counted are large = let most = counted_within n counted are in omega (arith, most, large)
