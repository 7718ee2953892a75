-- Edits of nodes by their numbers are edits of the occurrences.
use Rattle.std.proofs.Common.{◌≡◌, ◌∙◌, ℕ, List, [], ◌++◌, map, Some, None, sym, ap, subst}
use Rattle.spots.specs.declared.link.Link.{Link}
use Rattle.spots.specs.Forest.{Forest, Member, rules_of, IsBelow as IsMemberBelow}
use Rattle.occ_tree.specs.Below.{IsBelow}
use Rattle.occ_tree.specs.EditLaws.{GrowingEnters, ShrinkingWithdraws}
use Rattle.occ_tree.specs.Standing.{forest}

-- ---- below a node

-- a number is of one occurrence
pub one_member : (f : Forest) (x : ℕ) (m n : Member) → f x ≡ Some m → f x ≡ Some n → m ≡ n
one_member f x m n m_at n_at = let both : Some m ≡ Some n = sym m_at ∙ n_at in cc

module _ (f : Forest) (x y : ℕ) (m n : Member) (m_at : f x ≡ Some m) (n_at : f y ≡ Some n) where
  pub members_below : IsBelow f x y → IsMemberBelow m n
  members_below b =
      subst (λ (k : Member). IsMemberBelow k n) (one_member f x b.above m b.above_at m_at)
      (subst (IsMemberBelow b.above) (one_member f y b.below n b.below_at n_at) b.is_below)

  abbrev pub below_by_members : IsMemberBelow m n → IsBelow f x y
  below_by_members is = record { above = m; below = n; above_at = m_at; below_at = n_at; is_below = is }

  module _ (none : m.links ≡ []) where
    -- all of its name is below a root
    abbrev pub below_root : m.root ≡ n.root → IsBelow f x y
    below_root root = below_by_members (root, rules_of n, ap (λ (ls : List Link). map (λ (l : Link). l.rule) ls ++ rules_of n) (sym none))

-- ---- edits

pub growing_enters : GrowingEnters
growing_enters = λ old new x m parent date grows. record { free = grows.free; entered = grows.entered; others = grows.others }

-- **A node that goes is withdrawn with all below it.**
pub shrinking_withdraws : ShrinkingWithdraws
shrinking_withdraws = λ old new x m m_at shrinks. record {
  gone = λ y n n_at below. shrinks.gone y (below_by_members (forest old) x y m n m_at n_at below);
  others = λ y n n_at apart. shrinks.others y (λ b. apart (members_below (forest old) x y m n m_at n_at b)) ∙ n_at;
  none = λ y none. shrinks.others y (λ b. (let both : None ≡ Some b.below = sym none ∙ b.below_at in cc)) ∙ none;
}
