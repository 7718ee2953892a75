-- The dates that are kept stay those of a network.
use Rattle.std.proofs.Common.{◌≡◌, ◌≢◌, ◌∙◌, ℕ, true, false, List, [], ◌∷◌, ◌++◌, Option, Some, None, IsSome, sym, ap, subst, inl, inr, arith}
use Rattle.std.specs.List.{Contains}
use Rattle.std.specs.Prelude.{ℤ, pos, neg_ℤ, ◌+ℤ◌, is_some}
use Rattle.std.proofs.lemmas.Bool.{cases_eq}
use Rattle.std.proofs.lemmas.Int.{ints}
use Rattle.tmm_model.specs.declared.bound.Bound.{Bound}
use Rattle.tmm_model.specs.declared.bound.Bound.TheVariants.{Finite}
use Rattle.tmm_model.specs.declared.point.PointName.{PointName}
use Rattle.tmm_model.specs.declared.point.PointName.TheVariants.{Start, Begin}
use Rattle.tmm_model.specs.Beliefs.{roots as roots_of}
use Rattle.tmm_model.specs.Bounds.{bound_less}
use Rattle.tmm_model.specs.Moments.{Moment, At, After, base, negated}
use Rattle.tmm_model.specs.Standing.{Standing}
use Rattle.belief_theory.specs.Right.{Occurs}
use Rattle.belief_theory.proofs.Sound.{shortest}
use Rattle.dist_net.specs.Net.{Net}
use Rattle.net_theory.specs.Represents.{IsNumberOf}
use Rattle.net_theory.proofs.Numbers.{number_far}
use Rattle.spots.specs.declared.link.Link.{Link}
use Rattle.spots.specs.Forest.{Forest, Member, moment, child_member}
use Rattle.spots.specs.OfLists.{HasList}
use Rattle.spots.specs.Spots.{net_far, links_low, node_early}
use Rattle.spots.proofs.Delays.{low_push}
use Rattle.spots.proofs.Distances.{early_is}
use Rattle.spots.proofs.Nodes.{live_at, base-moment}
use Rattle.occ_tree.specs.Below.{IsBelow}
use Rattle.occ_tree.specs.Dated.{IsDatedBy, point_early}
use Rattle.occ_tree.specs.DatedLaws.{PointsDateNodes, RootsKeepDates, EffectsKeepDates, WithdrawalsKeepDates, RootsDateAll}
use Rattle.occ_tree.specs.Edits.{Grows}
use Rattle.occ_tree.specs.Standing.{State, forest, early}
use Rattle.occ_tree.proofs.Members.{one_member}

-- ---- the date of a node in a network

-- the list declares the root from which rules lead to an occurrence
root_stands : (s : Standing) (x : Moment) → Occurs s x → Contains (roots_of s) (At (base x))
root_stands s (At p) occurs = occurs
root_stands s (After t r) occurs = root_stands s t occurs.0

-- the date of a node tells of no other node
pub early_same : (net : Net) (f g : Forest) (x : ℕ) → g x ≡ f x → node_early net g x ≡ node_early net f x
early_same net f g x same = ap (λ (o : Option Member). node_early net (λ _. o) x) same

-- a sum with no delays
pub no_delays : (d : ℤ) (links : List Link) → links ≡ [] → d +ℤ links_low links ≡ d
no_delays d links none = ap (λ (l : List Link). d +ℤ links_low l) none ∙ (let e : d +ℤ pos 0 ≡ d = omega (arith, ints) in e)

module _ (net : Net) (f : Forest) (list : HasList net f) where
  -- date 0 is at some distance from the point of a node
  far_start : (x : ℕ) (m : Member) → f x ≡ Some m → (d : ℤ) × (net_far net m.begin 0 ≡ Finite d)
  far_start x m at =
      let (s, seen) = list in
      let is = seen.members x m at in
      let root = subst (λ (p : PointName). Contains (roots_of s) (At p)) (base-moment m) (root_stands s (moment m) is.occurs) in
      let (d, far, _) = (shortest s seen.network.sound).from_root (Begin m.root) root in
      (d, number_far s net seen.network m.begin 0 (Begin m.root) Start is.begin seen.network.start ∙ far)

  -- **It is that of its point and the least delays on the way.**
  pub early_from_point : (x : ℕ) (m : Member) → f x ≡ Some m → node_early net f x ≡ point_early net m.begin +ℤ links_low m.links
  early_from_point x m at =
      let (d, far) = far_start x m at in
      early_is net f list x m at (Finite d) (sym far) ∙ turned d (links_low m.links) ∙ ap (λ (b : Bound). negated b +ℤ links_low m.links) (sym far)
    where
      turned : (d low : ℤ) → negated (bound_less (Finite d) low) ≡ neg_ℤ d +ℤ low
      turned d low = omega (arith, ints)

  -- nodes of one root begin at one point
  one_point : (x y : ℕ) (m n : Member) → f x ≡ Some m → f y ≡ Some n → m.root ≡ n.root → m.begin ≡ n.begin
  one_point x y m n m_at n_at root =
      let (s, seen) = list in
      let second = subst (λ (r : List ℕ). IsNumberOf net.names n.begin (Begin r)) (sym root) (seen.members y n n_at).begin in
      seen.network.distinct m.begin n.begin (Begin m.root) (seen.members x m m_at).begin second

  -- what is below a root has the date that follows from that of the root's point
  pub below_point : (x y : ℕ) (b : IsBelow f x y) → node_early net f y ≡ point_early net b.above.begin +ℤ links_low b.below.links
  below_point x y b =
      early_from_point y b.below b.below_at
      ∙ ap (λ p. point_early net p +ℤ links_low b.below.links) (sym (one_point x y b.above b.below b.above_at b.below_at b.is_below.0))

pub points_date_nodes : PointsDateNodes
points_date_nodes = λ net f x m at list. early_from_point net f list x m at

-- ---- what comes and goes

module _ (net : Net) (old new : State) (x : ℕ) (m : Member) (parent : Option ℕ) (date : ℤ) (grows : Grows old new x m parent date) where
  -- a new node that has its date
  dated_grown : date ≡ node_early net (forest new) x → IsDatedBy net old → IsDatedBy net new
  dated_grown own dated y live = elim (cases_eq y x) [
    | inl same ↦ subst (λ z. early new z ≡ node_early net (forest new) z) (sym same) (grows.date_is ∙ own)
    | inr other ↦
        let stays = grows.others y other in
        grows.dates y other ∙ dated y (subst (λ (o : Option Member). IsSome o) stays live) ∙ sym (early_same net (forest old) (forest new) y stays)
  ]

-- **A new root with the date of its point.**
pub roots_keep_dates : RootsKeepDates
roots_keep_dates = λ net old new x m date none is grows list.
    let own : node_early net (forest new) x ≡ point_early net m.begin +ℤ links_low m.links = early_from_point net (forest new) list x m grows.entered in
    dated_grown net old new x m None date grows (is ∙ sym (no_delays (point_early net m.begin) m.links none) ∙ sym own)

-- a delay more behind others
later : (early point low lo more : ℤ) → early ≡ point +ℤ low → more ≡ low +ℤ lo → early +ℤ lo ≡ point +ℤ more
later early point low lo more e f = omega (arith, ints)

-- **An effect, with the date of its event and the least delay.**
pub effects_keep_dates : EffectsKeepDates
effects_keep_dates = λ net old new parent x m link what class shape m_at grows list dated.
    let effect = child_member m link what class shape in
    let other : parent ≢ x = λ same. (let both : None ≡ Some m = sym grows.free ∙ ap (forest old) (sym same) ∙ m_at in cc) in
    let stays = grows.others parent other in
    let event = dated parent (live_at (forest old) parent m m_at) ∙ sym (early_same net (forest old) (forest new) parent stays) ∙ early_from_point net (forest new) list parent m (stays ∙ m_at) in
    let date = later (early old parent) (point_early net m.begin) (links_low m.links) link.lo (links_low (m.links ++ link ∷ [])) event (low_push m.links link) in
    dated_grown net old new x effect (Some parent) (early old parent +ℤ link.lo) grows (date ∙ sym (early_from_point net (forest new) list x effect grows.entered)) dated

not_live : (o : Option Member) → o ≡ None → IsSome o → ⊥
not_live o none live = let no : false ≡ true = sym (ap is_some none) ∙ live in cc

-- **Nodes that go.**
-- a tree without nodes has no dates to keep
pub none_dated : (net : Net) (s : State) → ((x : ℕ) → forest s x ≡ None) → IsDatedBy net s
none_dated net s none x live = absurd (not_live (forest s x) (none x) live)

pub withdrawals_keep_dates : WithdrawalsKeepDates
withdrawals_keep_dates = λ net old new x shrinks dated y live.
    let left : IsBelow (forest old) x y → ⊥ = λ b. not_live (forest new y) (shrinks.gone y b) live in
    let stays = shrinks.others y left in
    shrinks.dates y left ∙ dated y (subst (λ (o : Option Member). IsSome o) stays live) ∙ sym (early_same net (forest old) (forest new) y stays)

-- **Where roots have the dates of their points, all nodes have theirs.**
pub roots_date_all : RootsDateAll
roots_date_all = λ net s list follow rooted right y live.
    let (x, on, b) = rooted.above y live in
    let (m, m_at, root) = rooted.roots x on in
    let none = subst (λ (k : Member). k.links ≡ []) (one_member (forest s) x m b.above m_at b.above_at) root in
    follow x y b none ∙ ap (λ d. d +ℤ links_low b.below.links) (right x b.above b.above_at none) ∙ sym (below_point net (forest s) list x y b)
