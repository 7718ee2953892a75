use Rattle.std.proofs.Common.{◌≡◌, ◌∙◌, ℕ, Bool, true, false, not, ◌&&◌, List, [], ◌∷◌, refl, sym, ap}
use Rattle.std.specs.Prelude.{filter}
use Rattle.std.specs.List.{filter_map, list_any}
use Rattle.tmm_model.specs.Answers.{reports}
use Rattle.tmm_model.specs.Changes.{protection_name, is_broken}
use Rattle.tmm_model.specs.Points.{same_name}
use Rattle.protections.specs.Found.{without, with_all}
use Rattle.protections.specs.Reported.{Reports, report_in}
use Rattle.protections.specs.Reviews.{news, mends}
use Rattle.protections.proofs.review.Review.none.Goals as goal

none_mended : (p : List ℕ → Bool) (names : List (List ℕ)) → filter (λ name. false && p name) names ≡ []
none_mended p [] = refl
none_mended p (name ∷ names) = none_mended p names

pub returns : goal.returns
returns c = λ old new found are before after.
    let erased = c.new.ensures.items in
    let reviewed = c.new-2.ensures.items in
    record {
      after = λ name.
          (λ i. with_all (without found (erased i)) (reviewed i) name)
          ∙ are name
          ∙ ap (λ (rs : Reports). report_in rs name) (before ∙ sym after);
      broken = ap news reviewed ∙ ap (filter (λ r. not (is_broken old r.0))) (sym after);
      mended =
          ap mends reviewed
          ∙ sym
          (ap (λ (rs : Reports). filter (λ name. list_any (λ r. same_name r.0 name) rs && not (is_broken new name)) (filter_map protection_name new.list.premises)) before
          ∙ none_mended (λ name. not (is_broken new name)) (filter_map protection_name new.list.premises));
    }
