-- What an effect is that enters.
use Rattle.std.proofs.Common.{◌≡◌, ◌∙◌, ℕ, List, Some, None, refl, sym, ap, subst}
use Rattle.tmm_model.specs.declared.token.Shape.{Shape}
use Rattle.tmm_model.specs.declared.token.Shape.TheVariants.{Event, Persistence, Span}
use Rattle.tmm_model.specs.Beliefs.{rules_at, rules_on}
use Rattle.tmm_model.specs.Standing.{Standing}
use Rattle.list_theory.proofs.Distinct.{Distinct}
use Rattle.dist_net.specs.Net.{Net}
use Rattle.spots.specs.Forest.{Forest, Member, member, moment_at}
use Rattle.spots.specs.OfLists.{IsForestOf, class_for}
use Rattle.spots.proofs.Believed.{rules_once}
use Rattle.supports.proofs.OnKinds.{rules_of_event}

module _ (s : Standing) (net : Net) (f : Forest) (seen : IsForestOf s net f) (y : ℕ) (m : Member) (at : member f y ≡ Some m) where
  pub event_of_none : m.class ≡ None → m.shape ≡ Event
  event_of_none none = by m.shape (sym (seen.members y m at).class ∙ none)
    where
      by : (shape : Shape) → class_for s shape m.what ≡ None → shape ≡ Event
      by Event e = refl
      by Persistence e = absurd (cc)
      by Span e = absurd (cc)

  pub no_event_of_some : (class : List ℕ) → m.class ≡ Some class → m.shape ≡ Event → ⊥
  no_event_of_some class some event = let e : None ≡ Some class = ap (λ shape. class_for s shape m.what) (sym event) ∙ sym (seen.members y m at).class ∙ some in cc

  pub once_on_kind : m.class ≡ None → Distinct (rules_on s m.what)
  once_on_kind none = subst Distinct (rules_of_event s net f seen y m at (event_of_none none)) (rules_once s seen.network.sound (moment_at f y))

  pub rules_on_kind : m.class ≡ None → rules_at s (moment_at f y) ≡ rules_on s m.what
  rules_on_kind none = rules_of_event s net f seen y m at (event_of_none none)
