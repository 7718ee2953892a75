-- The lines of a dump, one by one.
use Rattle.std.proofs.Common.{◌≡◌, ◌∙◌, ℕ, zero, suc, ◌+◌, List, [], ◌∷◌, ◌++◌, length, map, drop, append_assoc, Some, ap, sym, subst, refl, arith}
use Rattle.std.specs.Prelude.{codes, decimal, slice_get}
use Rattle.std.specs.List.{flat_map}
use Rattle.std.proofs.lemmas.List.{length-map}
use Rattle.tmm_model.specs.declared.premise.Premise.{Premise}
use Rattle.tmm_model.specs.Lines.{shown_text}
use Rattle.tmm_model.specs.declared.version.Version.{Version}
use Rattle.tmm_model.specs.Replies.{text_of, DumpIs, head_line, line_of, opening_lines, two}
use Rattle.replies.specs.Dump.{premise_line}

rest_at : (premises : List Premise) (place : ℕ) (p : Premise) → slice_get premises place ≡ Some p → drop place premises ≡ p ∷ drop (suc place) premises
rest_at [] place p at = absurd (cc (at))
rest_at (q ∷ premises) zero p at = ap (λ (x : Premise). x ∷ premises) (let same : q ≡ p = cc in same)
rest_at (q ∷ premises) (suc place) p at = rest_at premises place p at

-- one line more
pub line_more : (premises : List Premise) (place : ℕ) (p : Premise) (out next all : List ℕ) → slice_get premises place ≡ Some p → next ≡ out ++ premise_line p
    → out ++ flat_map premise_line (drop place premises) ≡ all → next ++ flat_map premise_line (drop (place + 1) premises) ≡ all
line_more premises place p out next all at is before =
    let here : drop place premises ≡ p ∷ drop (place + 1) premises =
    subst (λ (n : ℕ). drop place premises ≡ p ∷ drop n premises) (let e : suc place ≡ place + 1 = omega arith in e) (rest_at premises place p at) in
    ap (λ (l : List ℕ). l ++ flat_map premise_line (drop (place + 1) premises)) is
    ∙ append_assoc out (premise_line p) (flat_map premise_line (drop (place + 1) premises))
    ∙ ap (λ (l : List Premise). out ++ flat_map premise_line l) (sym here) ∙ before

lines_shown : (premises : List Premise) → flat_map premise_line premises ≡ flat_map (λ (text : List ℕ). line_of two (text ∷ [])) (map shown_text premises)
lines_shown [] = refl
lines_shown (p ∷ premises) = ap (λ (l : List ℕ). premise_line p ++ l) (lines_shown premises)

-- the whole text
pub dump_text : (k : ℕ) (v seen : Version) (h told n : ℕ) (premises : List Premise) (begun out : List ℕ)
    → begun ≡ head_line k (codes "dump" ∷ decimal n ∷ []) ++ opening_lines seen told
    → n ≡ length premises → seen ≡ v → told ≡ h → out ≡ begun ++ flat_map premise_line premises → out ≡ text_of k (DumpIs v h (map shown_text premises))
dump_text k v seen h told n premises begun out begins count version horizon is =
    let head : ℕ → List ℕ = λ m. head_line k (codes "dump" ∷ decimal m ∷ []) in
    is ∙ ap (λ (l : List ℕ). l ++ flat_map premise_line premises) begins
    ∙ (λ i. head n ++ opening_lines (version i) (horizon i) ++ flat_map premise_line premises)
    ∙ ap (λ (m : ℕ). head m ++ opening_lines v h ++ flat_map premise_line premises) (count ∙ sym (length-map premises shown_text))
    ∙ ap (λ (l : List ℕ). head (length (map shown_text premises)) ++ opening_lines v h ++ l) (lines_shown premises)
