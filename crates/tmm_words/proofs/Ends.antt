-- Words that end in `.end`.
use Rattle.std.proofs.Common.{◌≡◌, ℕ, ◌-◌, true, false, List, ◌++◌, length, take, drop, None, refl, sym, ap, subst, ◌∙◌}
use Rattle.std.specs.Prelude.{codes}
use Rattle.std.proofs.lemmas.List.{take-append-drop}
use Rattle.tmm_model.specs.declared.point.PointName.{PointName}
use Rattle.tmm_model.specs.Names.{is_name}
use Rattle.tmm_model.specs.Points.{same_name, point_word}
use Rattle.tmm_model.specs.Lines.{IsWellFormedPoint}
use Rattle.tmm_grammar.specs.Reading.{end_of, point_of}
use Rattle.tmm_grammar.proofs.LinePoints.{no_dot, point_reader}
use Rattle.walk_theory.proofs.Points.{same_name-is}
use Rattle.tmm_words.proofs.Spelled.{spelling_from}

point_none : (w : List ℕ) → same_name w (codes "start") ≡ false → is_name w ≡ false → end_of w ≡ None → None ≡ point_of w
unfolding point_of
point_none w other plain ends = rw (other, plain, ends) refl

-- span is what `.end` was stripped from
module _ (w span end : List ℕ) (is : end ≡ codes ".end") (ends : same_name (drop (length w - length end) w) end ≡ true) (front : span ≡ take (length w - length end) w) where
  tail : same_name (drop (length w - 4) w) (codes ".end") ≡ true
  tail = subst (λ (t : List ℕ). same_name (drop (length w - length t) w) t ≡ true) is ends

  head : span ≡ take (length w - 4) w
  head = front ∙ ap (λ (t : List ℕ). take (length w - length t) w) is

  pub end_found : w ≡ span ++ codes ".end"
  end_found = sym (take-append-drop (length w - 4) w) ∙ (λ i. sym head i ++ same_name-is (drop (length w - 4) w) (codes ".end") tail i)

  pub no_end : same_name w (codes "start") ≡ false → is_name span ≡ false → (p : PointName) → IsWellFormedPoint p → w ≡ point_word p → ⊥
  no_end other bad =
      let plain : is_name w ≡ false = ap is_name end_found ∙ no_dot span in
      let none : end_of w ≡ None = rw (tail, ← head, bad) refl in
      spelling_from point_reader w None (point_none w other plain none)
