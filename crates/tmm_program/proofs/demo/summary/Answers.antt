use Rattle.std.proofs.Common.{◌∙◌, [], ◌∷◌, ◌++◌, List, ℕ, codes, decimal, sym, refl, ap}
use Rattle.tmm_program.specs.Counts.{number_word}
use Rattle.tmm_program.proofs.Counted.{put_on, spaced_line}
use Rattle.tmm_program.proofs.demo.summary.Goals as goal

pub returns : goal.returns
returns c =
    let counts = c.args.counts.now in
    let size : List ℕ = codes " size " ++ (number_word counts.size ++ 10 ∷ []) in
    let memory : List ℕ = codes " memory " ++ (decimal counts.memory ++ size) in
    let refused : List ℕ = codes " refused " ++ (decimal counts.refused ++ memory) in
    let no : List ℕ = codes " no " ++ (decimal counts.no ++ refused) in
    let yes : List ℕ = codes " yes " ++ (decimal counts.yes ++ no) in
    let ok : List ℕ = codes " ok " ++ (decimal counts.ok ++ yes) in
    let lines : List ℕ = codes " lines " ++ (decimal counts.lines ++ ok) in
    c.put_size.ensures
    ∙ put_on _ _ (codes " size ") (number_word counts.size) (10 ∷ []) refl
    ∙ put_on _ _ (codes " memory ") (decimal counts.memory) size c.put-7.ensures.text
    ∙ put_on _ _ (codes " refused ") (decimal counts.refused) memory c.put-6.ensures.text
    ∙ put_on _ _ (codes " no ") (decimal counts.no) refused c.put-5.ensures.text
    ∙ put_on _ _ (codes " yes ") (decimal counts.yes) no c.put-4.ensures.text
    ∙ put_on _ _ (codes " ok ") (decimal counts.ok) yes c.put-3.ensures.text
    ∙ put_on _ _ (codes " lines ") (decimal counts.lines) ok c.put-2.ensures.text
    ∙ put_on _ _ (codes "demo ") (decimal c.from.result) lines c.put.ensures.text
    ∙ ap (λ (l : List ℕ). l ++ (codes "demo " ++ (decimal c.from.result ++ lines))) c.new-text.ensures
    ∙ ap (λ (n : ℕ). codes "demo " ++ (decimal n ++ lines)) c.from.ensures
    ∙ sym (spaced_line (codes "demo") (
    decimal c.args.n
    ∷ codes "lines" ∷ decimal counts.lines
    ∷ codes "ok" ∷ decimal counts.ok
    ∷ codes "yes" ∷ decimal counts.yes
    ∷ codes "no" ∷ decimal counts.no
    ∷ codes "refused" ∷ decimal counts.refused
    ∷ codes "memory" ∷ decimal counts.memory
    ∷ codes "size" ∷ number_word counts.size ∷ []) (10 ∷ []))
