-- Rows that watched a token which left: by its class, or since its fact contradicts what they read.
use Rattle.std.proofs.Common.{◌≡◌, ◌∙◌, ℕ, true, false, not, ◌&&◌, ◌||◌, List, Some, sym, ap, subst, inl, inr, ◌⊎◌}
use Rattle.std.specs.List.{Contains}
use Rattle.std.specs.Option.{option_map_or}
use Rattle.tmm_model.specs.declared.premise.Edit.{Edit}
use Rattle.tmm_model.specs.declared.token.Shape.{Shape}
use Rattle.tmm_model.specs.declared.token.Shape.TheVariants.{Event as AnEvent, Persistence as APersistence, Span as ASpan}
use Rattle.tmm_model.specs.Beliefs.{class_of, are_rivals, rules_at}
use Rattle.tmm_model.specs.Edits.{next_list}
use Rattle.tmm_model.specs.Moments.{Moment, RuleText, read_by, rule_of}
use Rattle.tmm_model.specs.Points.{same_name}
use Rattle.tmm_model.specs.Standing.{Standing}
use Rattle.list_theory.specs.WellNamed.{IsSound}
use Rattle.list_theory.proofs.Elements.{In, both, list_any-In, In-list_any}
use Rattle.belief_theory.specs.Touched.{contradict}
use Rattle.belief_theory.proofs.Rivals.{or_cases, or_left, or_right, same_rivals_have}
use Rattle.net_theory.specs.Represents.{Names}
use Rattle.spots.specs.Forest.{Member, moment}
use Rattle.spots.specs.OfLists.{IsMemberOf, class_for}
use Rattle.revisions.specs.Maps.{watches}
use Rattle.revisions.proofs.Contradictions.{class_stays}
use Rattle.revisions.proofs.Lawful.{text}
use Rattle.joined.specs.Gaps.{reads_class, reads_rival}
use Rattle.joined.specs.Touching.{RivalsStay}
use Rattle.joined.proofs.Starting.{reads_by_class}

module _ (old : Standing) (edit : Edit) (sound_old : IsSound old) (sound_new : IsSound (next_list old edit)) (t : Moment) (r : List ℕ)
    (before : Contains (rules_at old t) r) (stands : Contains (rules_at (next_list old edit) t) r) (stay : RivalsStay old (next_list old edit) r)
    (names : Names) (m : Member) (class : List ℕ) (own : IsMemberOf old names m) (is : m.class ≡ Some class) where
  abbrev new : Standing
  new = next_list old edit

  same_text : rule_of old r ≡ rule_of new r
  same_text = text old edit sound_old sound_new t r before stands

  -- the class of the token is that of its fact
  class_is : class_of old m.what ≡ class
  class_is = by m.shape (sym own.class ∙ is)
    where
      by : (shape : Shape) → class_for old shape m.what ≡ Some class → class_of old m.what ≡ class
      by AnEvent e = cc
      by APersistence e = cc
      by ASpan e = cc

  -- a fact that the rule reads is of that class
  of_class : (f : List ℕ) → In f (read_by (rule_of old r)) → same_name (class_of old f) (class_of old m.what) ≡ true → reads_class old r class ≡ true
  of_class f at same = In-list_any (λ fact. same_name (class_of old fact) class) (read_by (rule_of old r)) f at (subst (λ c. same_name (class_of old f) c ≡ true) class_is same)

  same_contradict : (f : List ℕ) → In f (read_by (rule_of new r)) → (are_rivals old f m.what ≡ true) ⊎ (are_rivals new f m.what ≡ true) → contradict old f m.what ≡ contradict new f m.what
  same_contradict f at said = same_rivals_have old new f (stay f at) m.what said

  -- **What contradicts the token by the list after watched it by the list before.**
  pub read_then : reads_rival new r m.what ≡ true → watches old r (moment m) ≡ true
  read_then reads =
      let (f, at, against) = list_any-In (λ f. are_rivals new f m.what) (read_by (rule_of new r)) reads in
      let at_old : In f (read_by (rule_of old r)) = subst (λ (x : RuleText). In f (read_by x)) (sym same_text) at in
      let then_ : contradict old f m.what ≡ true =
      same_contradict f at (inr against) ∙ or_right (same_name (class_of new f) (class_of new m.what) && not (same_name f m.what)) (are_rivals new f m.what) against in
      reads_by_class old names m r own ∙ ap (λ o. option_map_or (λ c. reads_class old r c || reads_rival old r m.what) o false) is
      ∙ by f at_old (or_cases (same_name (class_of old f) (class_of old m.what) && not (same_name f m.what)) (are_rivals old f m.what) then_)
    where
      by : (f : List ℕ) → In f (read_by (rule_of old r))
          → ((same_name (class_of old f) (class_of old m.what) && not (same_name f m.what)) ≡ true) ⊎ (are_rivals old f m.what ≡ true) → (reads_class old r class || reads_rival old r m.what) ≡ true
      by f at (inl of) =
          or_left (reads_class old r class) (reads_rival old r m.what) (of_class f at (both (same_name (class_of old f) (class_of old m.what)) (not (same_name f m.what)) of).0)
      by f at (inr rival) = or_right (reads_class old r class) (reads_rival old r m.what) (In-list_any (λ f. are_rivals old f m.what) (read_by (rule_of old r)) f at rival)

  -- **What contradicts the token by the list before reads its class, or contradicts it by the list
  -- after.**
  pub read_now : reads_rival old r m.what ≡ true → (reads_class old r class ≡ true) ⊎ (reads_rival new r m.what ≡ true)
  read_now reads =
      let (f, at_old, against) = list_any-In (λ f. are_rivals old f m.what) (read_by (rule_of old r)) reads in
      let at : In f (read_by (rule_of new r)) = subst (λ (x : RuleText). In f (read_by x)) same_text at_old in
      let now : contradict new f m.what ≡ true =
      sym (same_contradict f at (inl against)) ∙ or_right (same_name (class_of old f) (class_of old m.what) && not (same_name f m.what)) (are_rivals old f m.what) against in
      by f at_old at (or_cases (same_name (class_of new f) (class_of new m.what) && not (same_name f m.what)) (are_rivals new f m.what) now)
    where
      by : (f : List ℕ) → In f (read_by (rule_of old r)) → In f (read_by (rule_of new r))
          → ((same_name (class_of new f) (class_of new m.what) && not (same_name f m.what)) ≡ true) ⊎ (are_rivals new f m.what ≡ true) → (reads_class old r class ≡ true) ⊎ (reads_rival new r m.what ≡ true)
      by f at_old at (inl of) =
          let one = (both (same_name (class_of new f) (class_of new m.what)) (not (same_name f m.what)) of).0 in
          inl (of_class f at_old (class_stays old edit sound_old sound_new t r f before stands at_old at m.what ∙ one))
      by f at_old at (inr rival) = inr (In-list_any (λ f. are_rivals new f m.what) (read_by (rule_of new r)) f at rival)
