-- What a network that stands for points and constraints tells of them.
use Rattle.std.proofs.Common.{◌≡◌, ◌∙◌, ℕ, List, map, length, ap, sym, subst, arith, ◌-ℤ◌, ◌≤ℤ◌}
use Rattle.std.specs.List.{Contains}
use Rattle.tmm_model.specs.declared.bound.Bound.{Bound}
use Rattle.tmm_model.specs.declared.point.PointName.{PointName}
use Rattle.tmm_model.specs.declared.point.PointName.TheVariants.{Start}
use Rattle.tmm_model.specs.Points.{same_point}
use Rattle.tmm_model.specs.Walks.{Arc, HasDates, far}
use Rattle.walk_theory.specs.LeastWalks.{renamed, IsFar, AreAmong}
use Rattle.walk_theory.proofs.Points.{Decides-same_point}
use Rattle.walk_theory.proofs.Paths.{IsFar-far, IsFar-same}
use Rattle.walk_theory.proofs.Closing.{IfFinite-kept}
use Rattle.walk_theory.proofs.Walks.{IsWalk-kept}
use Rattle.walk_theory.proofs.Dates.{met_at}
use Rattle.walk_theory.proofs.Members.{All-from_contains, Contains-map_from}
use Rattle.walk_theory.proofs.Renaming.{HasDates-from_renamed, HasDates-renamed, IsFar-renamed}
use Rattle.net_theory.specs.Represents.{Names, IsNumberOf, name_at, number_in, Represents}
use Rattle.net_theory.proofs.Named.{AreDistinct, name_at-is, number_in-is}

-- ---- constraints with the same members

module _ {P : Type 0} (old new : List (Arc P)) (kept : (x : Arc P) → Contains old x → Contains new x) (only : (x : Arc P) → Contains new x → Contains old x) where
  pub IsFar-like : (a b : P) (x : Bound) → IsFar old a b x → IsFar new a b x
  IsFar-like a b x far = record {
    reached = IfFinite-kept old new kept a b x far.reached;
    least = λ walk h. far.least walk (IsWalk-kept new old only a b walk h);
  }

  pub HasDates-like : (start : P) → HasDates start old → HasDates start new
  HasDates-like start (date, dates) = (
    date,
    record {
      at_start = dates.at_start;
      met = All-from_contains (λ e. (date e.to -ℤ date e.from) ≤ℤ e.weight) new (λ e m. met_at start old date e dates (only e m));
    },
  )

-- ---- a network that stands for points and constraints

-- dates of the points are dates of the numbers
pub HasDates-numbered : (points : List PointName) (named_arcs : List (Arc PointName)) (names : Names) (arcs : List (Arc ℕ)) → Represents points named_arcs names arcs
    → IsNumberOf names 0 Start → HasDates Start named_arcs → HasDates 0 arcs
HasDates-numbered points named_arcs names arcs stands start dates =
    HasDates-from_renamed (name_at names) arcs 0
    (subst (λ (r : PointName). HasDates r (map (renamed (name_at names)) arcs)) (sym (name_at-is names 0 Start start))
    (HasDates-like named_arcs (map (renamed (name_at names)) arcs) stands.there stands.only Start dates))

-- the number is in use
abbrev pub IsUsed : Names → ℕ → Type 0
IsUsed names n = (p : PointName) × IsNumberOf names n p

module _ (points : List PointName) (named_arcs : List (Arc PointName)) (names : Names) (arcs : List (Arc ℕ)) (stands : Represents points named_arcs names arcs)
    (distinct : AreDistinct names) (start : IsNumberOf names 0 Start) (ends : (e : Arc ℕ) → Contains arcs e → IsUsed names e.from × IsUsed names e.to) where
  back : (n : ℕ) → IsUsed names n → number_in names (name_at names n) ≡ n
  back n used = ap (number_in names) (name_at-is names n used.0 used.1) ∙ number_in-is names distinct n used.0 used.1

  -- the distance of two numbers is that of their points
  pub IsFar-named : (a b : ℕ) (p q : PointName) (x : Bound) → IsNumberOf names a p → IsNumberOf names b q → IsFar arcs a b x → IsFar named_arcs p q x
  IsFar-named a b p q x at_a at_b is_far =
      let f : IsFar (map (renamed (name_at names)) arcs) (name_at names a) (name_at names b) x =
      IsFar-renamed (name_at names) (number_in names) arcs (IsUsed names) ends back a b (p, at_a) (q, at_b) x is_far in
      IsFar-like (map (renamed (name_at names)) arcs) named_arcs stands.only stands.there p q x
      (subst (λ (r : PointName). IsFar (map (renamed (name_at names)) arcs) p r x) (name_at-is names b q at_b)
      (subst (λ (r : PointName). IsFar (map (renamed (name_at names)) arcs) r (name_at names b) x) (name_at-is names a p at_a) f))

  -- dates of the numbers are dates of the points
  pub HasDates-named : HasDates 0 arcs → HasDates Start named_arcs
  HasDates-named dates =
      HasDates-like (map (renamed (name_at names)) arcs) named_arcs stands.only stands.there Start
      (subst (λ (r : PointName). HasDates r (map (renamed (name_at names)) arcs)) (name_at-is names 0 Start start)
      (HasDates-renamed (name_at names) (number_in names) arcs (IsUsed names) ends back 0 (Start, start) dates))

  -- every constraint is between two of the points
  pub AreAmong-named : AreAmong points named_arcs
  AreAmong-named =
      All-from_contains (λ e. Contains points e.from × Contains points e.to) named_arcs
      (λ e m.
      (let k : (x : Arc ℕ) × Contains arcs x × (renamed (name_at names) x ≡ e) = Contains-map_from (renamed (name_at names)) arcs e (stands.there e m) in
      let used = ends k.0 k.1 in
      let from : used.0.0 ≡ e.from = sym (name_at-is names k.0.from used.0.0 used.0.1) ∙ ap (λ (y : Arc PointName). y.from) k.2 in
      let to : used.1.0 ≡ e.to = sym (name_at-is names k.0.to used.1.0 used.1.1) ∙ ap (λ (y : Arc PointName). y.to) k.2 in (
        subst (Contains points) from (stands.named k.0.from used.0.0 used.0.1),
        subst (Contains points) to (stands.named k.0.to used.1.0 used.1.1),
      )))

  -- **The tightest distance of two points is that of their numbers.**
  pub far-named : HasDates 0 arcs → (a b : ℕ) (p q : PointName) (x : Bound) → IsNumberOf names a p → IsNumberOf names b q → IsFar arcs a b x
      → x ≡ far same_point named_arcs (length points) p q
  far-named dates a b p q x at_a at_b is_far =
      IsFar-same named_arcs p q x (far same_point named_arcs (length points) p q) (IsFar-named a b p q x at_a at_b is_far)
      (IsFar-far same_point Decides-same_point Start points (length points) (omega arith) named_arcs AreAmong-named (HasDates-named dates) p q (stands.named b q at_b))
