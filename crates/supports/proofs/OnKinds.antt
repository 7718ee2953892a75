-- The rules on a kind, as they stand at an event.
use Rattle.std.proofs.Common.{◌≡◌, ◌∙◌, ℕ, List, [], refl, ap, subst, arith}
use Rattle.std.specs.Prelude.{Some}
use Rattle.std.specs.List.{Contains}
use Rattle.tmm_model.specs.declared.token.Shape.{Shape}
use Rattle.tmm_model.specs.declared.token.Shape.TheVariants.{Event, Persistence, Span}
use Rattle.tmm_model.specs.Beliefs.{rules_on, rules_for, rules_at}
use Rattle.tmm_model.specs.Standing.{Standing}
use Rattle.dist_net.specs.Net.{Net}
use Rattle.spots.specs.Forest.{Forest, Member, member, moment_at}
use Rattle.spots.specs.OfLists.{IsForestOf}
use Rattle.spots.proofs.Nodes.{moment_at-is}

module _ (s : Standing) (net : Net) (f : Forest) (seen : IsForestOf s net f) (x : ℕ) (m : Member) (at : member f x ≡ Some m) where
  rules_is : rules_at s (moment_at f x) ≡ rules_for s (Some (m.shape, m.what))
  rules_is = ap (rules_at s) (moment_at-is f x m at) ∙ ap (rules_for s) (seen.members x m at).is

  -- at an event stand the rules on its kind
  pub rules_of_event : m.shape ≡ Event → rules_at s (moment_at f x) ≡ rules_on s m.what
  rules_of_event is = rules_is ∙ ap (λ shape. rules_for s (Some (shape, m.what))) is

  -- where a rule stands there is an event
  pub event_of_rules : (r : List ℕ) → Contains (rules_at s (moment_at f x)) r → m.shape ≡ Event
  event_of_rules r stands = by m.shape (subst (λ l. Contains l r) rules_is stands)
    where
      by : (shape : Shape) → Contains (rules_for s (Some (shape, m.what))) r → shape ≡ Event
      by Event h = refl
      by Persistence h = absurd (omega (arith, h.1))
      by Span h = absurd (omega (arith, h.1))

  -- at what is no event stand none
  pub no_rules : (m.shape ≡ Event → ⊥) → rules_at s (moment_at f x) ≡ []
  no_rules other = rules_is ∙ by m.shape other
    where
      by : (shape : Shape) → (shape ≡ Event → ⊥) → rules_for s (Some (shape, m.what)) ≡ []
      by Event h = absurd (h refl)
      by Persistence h = refl
      by Span h = refl
