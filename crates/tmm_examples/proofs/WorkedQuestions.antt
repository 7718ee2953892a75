-- Why lines of worked scripts are refused, and what `dump` is answered.
use Rattle.std.proofs.Common.{◌≡◌, ◌++◌, ℕ, List, [], ◌∷◌, pos, refl}
use Rattle.std.specs.Prelude.{codes, Some, None}
use Rattle.std.specs.Fmt.{digits}
use Rattle.tmm_model.specs.declared.bound.Bound.TheVariants.{Finite}
use Rattle.tmm_model.specs.declared.line.Query.TheVariants.{Bounds, Ask, Why, Dump}
use Rattle.tmm_model.specs.declared.point.Occ.{Occ}
use Rattle.tmm_model.specs.declared.point.PointName.TheVariants.{Start, Begin, End}
use Rattle.tmm_model.specs.declared.point.QueryPoint.TheVariants.{Declared, Derived}
use Rattle.tmm_model.specs.declared.premise.Edit.TheVariants.{Add, Erase}
use Rattle.tmm_model.specs.declared.premise.Premise.{Premise}
use Rattle.tmm_model.specs.declared.premise.Premise.TheVariants.{Kind, Token, Dist}
use Rattle.tmm_model.specs.Maps.{built}
use Rattle.tmm_model.specs.Questions.{query_cause, Answers}
use Rattle.tmm_model.specs.declared.version.Version.TheVariants.{One}
use Rattle.tmm_model.specs.Replies.{DumpIs}
use Rattle.tmm_model.specs.Standing.{Standing}
use Rattle.tmm_model.specs.Edits.{next_list}
use Rattle.tmm_model.specs.Verdicts.{taken, unknown, ill_sorted, list_cause}
use Rattle.belief_theory.proofs.FarTables.{of_map}
use Rattle.tmm_examples.proofs.WorkedScripts.{within, class, apart_by, two_tokens, push}

abbrev occ : List ℕ → List (List ℕ) → Occ
occ name rules = record { root = name; rules = record { items = rules; room = 0 } }

-- class c f g
abbrev one_class : List Premise
one_class = class (codes "c") (codes "f" ∷ codes "g" ∷ []) ∷ []

abbrev facts : Standing
facts = within 1000 one_class

edits : (list_cause facts (Add (Kind (codes "f"))) ≡ Some (taken (codes "f")))
    × (list_cause facts (Add (Token (codes "f") (codes "h"))) ≡ Some (taken (codes "f")))
    × (list_cause facts (Add (Token (codes "t") (codes "h"))) ≡ Some (unknown (codes "h")))
    × (list_cause facts (Add (Token (codes "t") (codes "c"))) ≡ Some (ill_sorted (codes "c")))
    × (list_cause facts (Add (class (codes "d") (codes "g2" ∷ codes "g2" ∷ []))) ≡ Some (taken (codes "g2")))
    × (list_cause facts (Erase (codes "f")) ≡ Some (ill_sorted (codes "f")))
    × (list_cause facts (Add (Dist (codes "d") (Begin (codes "f")) (Begin (codes "x")) (Finite (pos 0)) (Finite (pos 1)))) ≡ Some (ill_sorted (codes "f")))
    × (list_cause facts (Erase (codes "start")) ≡ Some (unknown (codes "start")))
edits = (refl, refl, refl, refl, refl, refl, refl, refl)

questions : (query_cause (built facts) (Bounds (Declared Start) (Derived (occ (codes "e") (codes "r" ∷ [])))) ≡ Some (unknown (codes "e/r")))
    × (query_cause (built facts) (Why (occ (codes "c") [])) ≡ Some (ill_sorted (codes "c")))
    × (query_cause (built facts) (Why (occ (codes "start") [])) ≡ Some (ill_sorted (codes "start")))
    × (query_cause (built facts) (Ask (codes "f") (Declared Start) (Declared (Begin (codes "t")))) ≡ Some (unknown (codes "t")))
    × (query_cause (built facts) (Ask (codes "f") (Declared (End (codes "c"))) (Declared Start)) ≡ Some (ill_sorted (codes "c.end")))
questions = (refl, refl, refl, refl, refl)

-- a derived occurrence is known while it is believed
abbrev pushed : Standing
pushed = within 1000 push

known : query_cause (built pushed) (Why (occ (codes "e") (codes "r" ∷ []))) ≡ None
known = of_map (λ m. query_cause m (Why (occ (codes "e") (codes "r" ∷ [])))) pushed

no_longer : query_cause (built (next_list pushed (Erase (codes "r")))) (Why (occ (codes "e") (codes "r" ∷ []))) ≡ Some (unknown (codes "e/r"))
no_longer = of_map (λ m. query_cause m (Why (occ (codes "e") (codes "r" ∷ [])))) (next_list pushed (Erase (codes "r")))

-- dump
dumped : Answers (built (within 1000 (two_tokens ++ apart_by (codes "d") (codes "k") (codes "m") 5 ∷ []))) Dump
    (DumpIs One 1000 (codes "class door open shut" ∷ codes "token k open" ∷ codes "token m shut" ∷ codes "dist d k m 5 5" ∷ []))
unfolding digits
dumped = (refl, refl, refl)
