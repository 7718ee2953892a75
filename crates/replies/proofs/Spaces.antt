-- Words behind spaces.
use Rattle.std.proofs.Common.{◌≡◌, ℕ, List, [], ◌∷◌, ◌++◌, append_assoc, refl, sym, ◌∙◌, ap}
use Rattle.tmm_model.specs.Lines.{behind_spaces}

-- words behind others
behind_both : (vs ws : List (List ℕ)) → behind_spaces (vs ++ ws) ≡ behind_spaces vs ++ behind_spaces ws
behind_both [] ws = refl
behind_both (v ∷ vs) ws =
    ap (λ (t : List ℕ). 32 ∷ v ++ t) (behind_both vs ws) ∙ ap (λ (t : List ℕ). 32 ∷ t) (sym (append_assoc v (behind_spaces vs) (behind_spaces ws)))

-- a word, and words behind it in two steps
pub in_two_steps : (old word : List ℕ) (vs ws : List (List ℕ)) (rest : List ℕ) → (((old ++ word) ++ behind_spaces vs) ++ behind_spaces ws) ++ rest ≡ old ++ ((word ++ behind_spaces (vs ++ ws)) ++ rest)
in_two_steps old word vs ws rest =
    ap (λ (t : List ℕ). t ++ rest)
    (append_assoc (old ++ word) (behind_spaces vs) (behind_spaces ws)
    ∙ ap (λ (t : List ℕ). (old ++ word) ++ t) (sym (behind_both vs ws))
    ∙ append_assoc old word (behind_spaces (vs ++ ws)))
    ∙ append_assoc old (word ++ behind_spaces (vs ++ ws)) rest
