use Rattle.std.proofs.Common.{◌∙◌, ◌++◌, ◌∷◌, [], List, ℕ, ap}
use Rattle.std.proofs.lemmas.Result.{on_ok_weaker}
use Rattle.tmm_model.specs.Points.{occ_word}
use Rattle.tmm_model.specs.Lines.{behind_spaces}
use Rattle.tmm_model.specs.Replies.{unless_words, with_words}
use Rattle.replies.proofs.Spaces.{in_two_steps}
use Rattle.replies.proofs.reasons.put_trigger.Goals as goal

pub returns : goal.returns
returns c =
    let supports = with_words c.args.supports.now in
    let exceptions = unless_words c.args.exceptions.now in
    on_ok_weaker c.extend.result
    (λ ended.
    ended
    ∙ ap (λ (t : List ℕ). t ++ 10 ∷ [])
    (c.in_ok-put_exceptions.ensures ∙ ap (λ (t : List ℕ). t ++ behind_spaces exceptions) (c.in_ok-put_supports.ensures ∙ ap (λ (t : List ℕ). t ++ behind_spaces supports) c.in_ok-put_occ.ensures))
    ∙ in_two_steps c.args.out.now.items (occ_word c.args.trigger.now) supports exceptions (10 ∷ []))
    c.extend.ensures.ok
