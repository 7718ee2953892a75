-- What a rule brings about, as a node.
use Rattle.std.proofs.Common.{◌≡◌, ◌≢◌, ◌∙◌, inl, inr, ℕ, List, [], ◌∷◌, ◌++◌, refl, sym, ap, subst}
use Rattle.std.specs.Prelude.{true, Option, Some, None, IsSome, ℤ, pos, ◌≤ℤ◌}
use Rattle.std.specs.List.{Contains}
use Rattle.std.proofs.lemmas.List.{map-append}
use Rattle.std.proofs.lemmas.List.Elements.{All-push}
use Rattle.tmm_model.specs.declared.bound.Bound.{Bound}
use Rattle.tmm_model.specs.declared.bound.Bound.TheVariants.{Finite}
use Rattle.tmm_model.specs.declared.point.PointName.TheVariants.{Begin}
use Rattle.tmm_model.specs.declared.premise.Premise.TheVariants.{Rule}
use Rattle.tmm_model.specs.declared.token.Shape.{Shape}
use Rattle.tmm_model.specs.declared.token.Shape.TheVariants.{Span}
use Rattle.tmm_model.specs.Beliefs.{is_of, as_effect, rules_at}
use Rattle.tmm_model.specs.Lines.{IsWellFormedPremise, IsNumber, IsBound, IsRange}
use Rattle.tmm_model.specs.Names.{is_name}
use Rattle.tmm_model.specs.Moments.{At, After, along, as_rule}
use Rattle.belief_theory.specs.Right.{Occurs}
use Rattle.belief_theory.proofs.Rivals.{known_class}
use Rattle.tmm_model.specs.Sorts.{sort_in, class_in}
use Rattle.tmm_model.specs.Standing.{Standing, premise_in}
use Rattle.list_theory.proofs.Elements.{In}
use Rattle.list_theory.proofs.KnownNames.{finds}
use Rattle.belief_theory.proofs.Moments.{along-push}
use Rattle.dist_net.specs.Net.{Net}
use Rattle.spots.specs.declared.link.Link.{Link}
use Rattle.spots.specs.Forest.{Forest, Member, member, moment, moment_at, rules_of, Enters, IsTrigger, child_member}
use Rattle.spots.specs.OfLists.{IsLinkOf, class_for, IsForestOf}
use Rattle.spots.proofs.Nodes.{moment_at-is}
use Rattle.spots.specs.Growing.{Adds, effect_shape, MayEnter}
use Rattle.premise_list.proofs.Facts.{premise_formed}
use Rattle.spots.proofs.Effects.{effect_is}
use Rattle.supports.proofs.OnKinds.{event_of_rules}

-- what a rule leads to begins after the event
child_moment : (m : Member) (link : Link) (what : List ℕ) (class : Option (List ℕ)) (shape : Shape) → moment (child_member m link what class shape) ≡ After (moment m) link.rule
child_moment m link what class shape = ap (along (At (Begin m.root))) (map-append (λ l. l.rule) m.links (link ∷ [])) ∙ along-push (At (Begin m.root)) (rules_of m) link.rule

no_span : (o : Option (List ℕ)) → effect_shape o ≢ Span
no_span (Some class) e = cc
no_span None e = cc

module _ (s : Standing) (net : Net) (f : Forest) (seen : IsForestOf s net f) (x : ℕ) (m : Member) (at : member f x ≡ Some m) (r : List ℕ) (may : MayEnter s f x r) where
  pub is_trigger : IsTrigger f m r
  is_trigger = record {
    event = event_of_rules s net f seen x m at r may.stands;
    room = may.room m at;
    new = λ y n at_y same_root same_rules. may.new y n at_y (by n same_root same_rules);
  }
    where
      by : (n : Member) → n.root ≡ m.root → rules_of n ≡ rules_of m ++ r ∷ [] → moment n ≡ After (moment_at f x) r
      by n root links =
          (λ i. along (At (Begin (root i))) (links i))
          ∙ along-push (At (Begin m.root)) (rules_of m) r
          ∙ ap (λ t. After t r) (sym (moment_at-is f x m at))

  module _ (name trigger : List ℕ) (lo : ℤ) (hi : Bound) (effect : List ℕ) (given unless_facts : _) (there : premise_in s.premises r ≡ Some (Rule name trigger lo hi effect given unless_facts)) where
    stands : In (Rule name trigger lo hi effect given unless_facts) s.premises
    stands = (finds s.premises r (Rule name trigger lo hi effect given unless_facts) there).0

    formed : IsWellFormedPremise (Rule name trigger lo hi effect given unless_facts)
    formed = premise_formed s seen.network.sound (Rule name trigger lo hi effect given unless_facts) stands

    pub rule_named : is_name name ≡ true
    rule_named = formed.0

    pub word_is : is_name r ≡ true
    word_is = subst (λ n. is_name n ≡ true) (finds s.premises r (Rule name trigger lo hi effect given unless_facts) there).1 rule_named

    pub delay_is : IsNumber lo × IsBound hi × (pos 1 ≤ℤ lo) × IsRange (Finite lo) hi
    delay_is = (formed.2, formed.3, formed.4, formed.5)

    made : as_effect effect (sort_in s.premises effect) ≡ (effect_shape (class_in s.premises effect), effect)
    made = effect_is s.premises seen.network.sound.well_named (Rule name trigger lo hi effect given unless_facts) stands effect (inr (inl refl))

    class_for_effect : (o : Option (List ℕ)) → class_in s.premises effect ≡ o → o ≡ class_for s (effect_shape o) effect
    class_for_effect None e = refl
    class_for_effect (Some name_) e = sym e ∙ known_class s effect (subst IsSome (sym e) refl)

    pub effect_adds : (new : Forest) (y : ℕ) → Enters f new y (child_member m (record { rule = r; lo = lo; hi = hi }) effect (class_in s.premises effect) (effect_shape (class_in s.premises effect)))
        → Adds s net.names f new y (After (moment_at f x) r)
    effect_adds new y enters = record {
      node = child_member m (record { rule = r; lo = lo; hi = hi }) effect (class_in s.premises effect) (effect_shape (class_in s.premises effect));
      enters = enters;
      own = record {
        occurs = subst (Occurs s) (sym is) ((seen.members x m at).occurs, subst (λ t. Contains (rules_at s t) r) (moment_at-is f x m at) may.stands);
        begin = (seen.members x m at).begin;
        «end» = no_span (class_in s.premises effect);
        links = All-push (IsLinkOf s) m.links (record { rule = r; lo = lo; hi = hi }) (seen.members x m at).links (record { lo = ap (λ o. (as_rule o).lo) there; hi = ap (λ o. (as_rule o).hi) there });
        is = ap (is_of s) is ∙ ap (λ o. Some (as_effect (as_rule o).effect (sort_in s.premises (as_rule o).effect))) there ∙ ap Some made;
        class = class_for_effect (class_in s.premises effect) refl;
      };
      is = is ∙ ap (λ t. After t r) (sym (moment_at-is f x m at));
    }
      where
        is : moment (child_member m (record { rule = r; lo = lo; hi = hi }) effect (class_in s.premises effect) (effect_shape (class_in s.premises effect))) ≡ After (moment m) r
        is = child_moment m (record { rule = r; lo = lo; hi = hi }) effect (class_in s.premises effect) (effect_shape (class_in s.premises effect))
