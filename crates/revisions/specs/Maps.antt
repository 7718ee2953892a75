-- The revision that an edit asks for, and what is known of it.
use Rattle.std.specs.Prelude.{◌≡◌, ℕ, Bool, false, List, Some, None}
use Rattle.std.specs.List.{Contains}
use Rattle.tmm_model.specs.declared.premise.Edit.{Edit}
use Rattle.tmm_model.specs.Beliefs.{class_of, roots, rules_at, token_of}
use Rattle.belief_theory.specs.Outcomes.{outcome}
use Rattle.tmm_model.specs.Edits.{next_list}
use Rattle.tmm_model.specs.Maps.{TimeMap, built}
use Rattle.tmm_model.specs.Moments.{Moment, early, read_by, rule_of}
use Rattle.list_theory.specs.WellNamed.{IsSound}
use Rattle.belief_theory.specs.Right.{Occurs}
use Rattle.tmm_model.specs.Standing.{Standing}
use Rattle.belief_theory.specs.Touched.{is_watched, is_decision, is_touched}
use Rattle.list_theory.proofs.Elements.{In}
use Rattle.revisions.specs.Revisions.{Revision, IsLawful}

-- whether the token that an occurrence is bears on what supports an antecedent or an exception of
-- the rule
abbrev pub watches : Standing → List ℕ → Moment → Bool
watches s r x = elim (token_of s x) [ None ↦ false | Some k ↦ is_watched s r k ]

-- from one map to another
abbrev pub revision : TimeMap → TimeMap → Revision
revision old new = record {
  roots = roots new.list;
  rules = rules_at new.list;
  early = early new.list new.far;
  outcome = outcome new.list new.far;
  reads = λ t r x. watches new.list r x;
  believed = new.believed;
  before = old.believed;
  was = λ t r. is_decision old (t, r);
  was_outcome = outcome old.list old.far old.believed;
  touched = λ t r. is_touched old new (t, r);
}

-- what occurs in both lists is one token in both, or in both none
abbrev pub TokensStay : Standing → Standing → Type 0
TokensStay old new = (x : Moment) → Occurs old x → Occurs new x → token_of old x ≡ token_of new x

-- what a rule that stands in both reads has one class in both
abbrev pub ClassesStay : Standing → Standing → Type 0
ClassesStay old new =
    (t : Moment) (r f : List ℕ) → Contains (rules_at old t) r → Contains (rules_at new t) r → In f (read_by (rule_of old r)) → In f (read_by (rule_of new r))
    → class_of old f ≡ class_of new f

-- **The revision that an accepted edit asks for is lawful.**
abbrev pub EditsAreLawful : Type 0
EditsAreLawful =
    (old : Standing) (edit : Edit) → IsSound old → IsSound (next_list old edit)
    → IsLawful (revision (built old) (built (next_list old edit)))
