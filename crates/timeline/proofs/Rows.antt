-- What the rows say of what occurs.
use Rattle.std.proofs.Common.{◌≡◌, ◌∙◌, ℕ, List, [], refl, sym, ap, subst, inl, inr}
use Rattle.std.specs.Prelude.{Option, Some, None, pos, ◌+ℤ◌, ◌≤ℤ◌}
use Rattle.std.specs.List.{Contains}
use Rattle.std.specs.Option.{option_map}
use Rattle.tmm_model.specs.declared.premise.Premise.{Premise}
use Rattle.tmm_model.specs.declared.premise.Premise.TheVariants.{Class, Kind, Point, Event, Token, Span, Dist, Rule, Protect, Against}
use Rattle.tmm_model.specs.declared.token.Shape.{Shape}
use Rattle.tmm_model.specs.Beliefs.{as_effect, is_of, token_of, token_at, rules_at, class_of, on_kind}
use Rattle.tmm_model.specs.Maps.{built}
use Rattle.tmm_model.specs.Moments.{Moment, After, as_rule, rule_of}
use Rattle.tmm_model.specs.Sorts.{class_in, sort_in}
use Rattle.tmm_model.specs.Standing.{Standing, premise_in}
use Rattle.list_theory.specs.WellNamed.{IsSound}
use Rattle.list_theory.proofs.Elements.{In}
use Rattle.list_theory.proofs.KnownNames.{found}
use Rattle.belief_theory.specs.Right.{Occurs}
use Rattle.belief_theory.proofs.Sound.{rule_stands}
use Rattle.belief_theory.proofs.SoundBeliefs.{sound_timed}
use Rattle.timeline.specs.declared.row.Row.{Row}
use Rattle.timeline.specs.Days.{date}
use Rattle.timeline.specs.Rows.{moment, held_of, held_with, held_from, shape_of, IsRowOf}
use Rattle.timeline.proofs.Effects.{effect_is}

-- what an effect is, where its rule stands
rule_effect : (s : Standing) → IsSound s → (t : Moment) (r : List ℕ) → Contains (rules_at s t) r
    → as_effect (rule_of s r).effect (sort_in s.premises (rule_of s r).effect) ≡ (shape_of (held_from s (rule_of s r).effect), (rule_of s r).effect)
rule_effect s sound t r at =
    let (p, there, named, kind, is) = rule_stands s t r at in
    let here : premise_in s.premises r ≡ Some p = subst (λ n. premise_in s.premises n ≡ Some p) named (found s.premises sound.well_named p there) in
    subst (λ o. as_effect (as_rule o).effect (sort_in s.premises (as_rule o).effect) ≡ (shape_of (held_from s (as_rule o).effect), (as_rule o).effect)) (sym here) (by p there kind is)
  where
    by : (p : Premise) → In p s.premises → (kind : List ℕ) → on_kind kind p ≡ Some r
        → as_effect (as_rule (Some p)).effect (sort_in s.premises (as_rule (Some p)).effect) ≡ (shape_of (held_from s (as_rule (Some p)).effect), (as_rule (Some p)).effect)
    by (Rule name trigger lo hi effect given unless_facts) there kind is = effect_is s.premises sound.well_named (Rule name trigger lo hi effect given unless_facts) there effect (inr (inl refl))
    by (Class name facts) there kind is = cc
    by (Kind name) there kind is = cc
    by (Point name) there kind is = cc
    by (Event name other) there kind is = cc
    by (Token name fact) there kind is = cc
    by (Span name fact) there kind is = cc
    by (Dist name from to lo hi) there kind is = cc
    by (Protect name fact from to) there kind is = cc
    by (Against name one other) there kind is = cc

-- the token that an effect is, as it holds
effect_held : (s : Standing) (x : Moment) (effect : List ℕ) → is_of s x ≡ Some (shape_of (held_from s effect), effect)
    → held_from s effect ≡ option_map (held_of (built s)) (token_of s x)
effect_held s x effect is =
    by (class_in s.premises effect) refl
    ∙ sym (ap (λ (o : Option (Shape × List ℕ)). option_map (held_of (built s)) (elim o [ None ↦ None | Some y ↦ token_at s x y ])) is)
  where
    by : (o : Option (List ℕ)) → class_in s.premises effect ≡ o → held_with effect o ≡ option_map (held_of (built s)) (token_at s x (shape_of (held_with effect o), effect))
    by None e = refl
    by (Some class) e =
        let known : class ≡ class_of s effect = sym (ap (λ (o : Option (List ℕ)). elim o [ Some c ↦ c | None ↦ [] ]) e) in
        λ i. Some (record { fact = effect; class = known i; end = None })

module _ (s : Standing) (sound : IsSound s) where
  -- no row is before the first day
  pub not_before : (t : Row) → IsRowOf (built s) t → pos 0 ≤ℤ t.date
  not_before t own = subst (λ z. pos 0 ≤ℤ z) (sym own.date) ((sound_timed s sound).not_before_start (moment t) own.occurs)

  -- the delay of a rule that stands at an event
  pub delayed : (t : Moment) (r : List ℕ) → Contains (rules_at s t) r → pos 1 ≤ℤ (rule_of s r).lo
  delayed t r at = (sound_timed s sound).delayed t r at

  -- the date of an effect
  pub effect_date : (t : Row) (r : List ℕ) → IsRowOf (built s) t → Contains (rules_at s (moment t)) r → date (built s) (After (moment t) r) ≡ (t.date +ℤ (rule_of s r).lo)
  effect_date t r own at = (sound_timed s sound).due_is (moment t) r own.occurs at ∙ ap (λ z. z +ℤ (rule_of s r).lo) (sym own.date)

  -- the row of an effect
  pub effect_row : (t row : Row) (r : List ℕ) → IsRowOf (built s) t → Contains (rules_at s (moment t)) r → moment row ≡ After (moment t) r
      → row.date ≡ (t.date +ℤ (rule_of s r).lo) → row.what ≡ (rule_of s r).effect → row.held ≡ held_from s (rule_of s r).effect → IsRowOf (built s) row
  effect_row t row r own at is dated what held =
      let kind : is_of s (moment row) ≡ Some (shape_of (held_from s (rule_of s r).effect), (rule_of s r).effect) = ap (is_of s) is ∙ ap Some (rule_effect s sound (moment t) r at) in
      record {
        occurs = subst (Occurs s) (sym is) (own.occurs, at);
        date = dated ∙ sym (effect_date t r own at) ∙ ap (date (built s)) (sym is);
        is = kind ∙ (λ i. Some (shape_of (sym held i), sym what i));
        held = held ∙ effect_held s (moment row) (rule_of s r).effect kind;
      }
