use Rattle.std.proofs.Common.{◌≡◌, ℕ, ◌+◌, Bool, true, false, ◌||◌, List, [], ◌∷◌, ◌++◌, take, drop, refl, ap, sym, ◌∙◌, add-one}
use Rattle.std.specs.List.{list_any}
use Rattle.std.proofs.Math.Seq.{drop-cons}
use Rattle.std.proofs.lemmas.List.{take_more}
use Rattle.std.proofs.lemmas.List.Folds.{list_any-append}
use Rattle.tmm_model.specs.Points.{same_name}
use Rattle.tmm_model.specs.Sorts.{is_reserved}
use Rattle.tmm_model.specs.Verdicts.{first_taken, words_known}
use Rattle.list_theory.proofs.WellNamed.{first_taken-new, first_taken-same}
use Rattle.premise_list.proofs.TableFacts.{declared_by_parted}
use Rattle.premise_list.proofs.table.Table.check_declared.Goals as goal

-- a new word among those looked at, wherever it stands
turned : (a b : List (List ℕ)) (w : List ℕ) (v : List ℕ) → list_any (same_name v) (w ∷ a ++ b) ≡ list_any (same_name v) ((a ++ w ∷ []) ++ b)
turned a b w v =
    ap (λ x. same_name v w || x) (list_any-append (same_name v) a b)
    ∙ by (same_name v w) (list_any (same_name v) a) (list_any (same_name v) b)
    ∙ sym (list_any-append (same_name v) (a ++ w ∷ []) b ∙ ap (λ x. x || list_any (same_name v) b) (list_any-append (same_name v) a (w ∷ [])))
  where
    by : (x y z : Bool) → (x || (y || z)) ≡ ((y || (x || false)) || z)
    by true true z = refl
    by true false z = refl
    by false true z = refl
    by false false z = refl

-- a word that is neither reserved nor known, nor the name, nor among the words before it
free : (a known : List (List ℕ)) (name w : List ℕ) → (is_reserved w || list_any (same_name w) known) ≡ false → same_name w name ≡ false → list_any (same_name w) a ≡ false
    → (is_reserved w || list_any (same_name w) (a ++ name ∷ known)) ≡ false
free a known name w h other apart =
    ap (λ x. is_reserved w || x) (list_any-append (same_name w) a (name ∷ known)) ∙ by (is_reserved w) (list_any (same_name w) a) (same_name w name) (list_any (same_name w) known) h apart other
  where
    by : (r x y z : Bool) → (r || z) ≡ false → x ≡ false → y ≡ false → (r || (x || (y || z))) ≡ false
    by true x y z h e f = cc
    by false true y z h e f = cc
    by false false true z h e f = cc
    by false false false z h e f = h

pub loop-i-init : goal.loop-i-init
loop-i-init c =
    let ps = c.args.self.now.premises in
    let known = words_known ps in
    let name = c.name_of-name.result in
    let test : (is_reserved name || list_any (same_name name) known) ≡ false = sym c.is_taken.ensures ∙ c.if-is_taken.false in
    sym (first_taken-new known name c.facts_of-facts.result.now test)
    ∙ (λ i. first_taken known (c.name_of-name.ensures i ∷ c.facts_of-facts.ensures.value i)) ∙ ap (first_taken known) (sym (declared_by_parted c.args.premise.now))

pub loop-i-preserved : goal.loop-i-preserved
loop-i-preserved c =
    let known = words_known c.args.self.now.premises in
    let name = c.name_of-name.result in
    let facts = c.facts_of-facts.result.now in
    let i = c.loop-i.i in
    let fact = c.index-facts-i.result in
    let lt = c.loop-i-test.true in
    let next : drop i facts ≡ fact ∷ drop (i + 1) facts = drop-cons facts i fact lt ∙ (λ j. sym c.index-facts-i.is j ∷ drop (sym (add-one i) j) facts) in
    let taken : take (i + 1) facts ≡ take i facts ++ fact ∷ [] = take_more facts i fact lt ∙ ap (λ x. take i facts ++ x ∷ []) (sym c.index-facts-i.is) in
    let test : (is_reserved fact || list_any (same_name fact) known) ≡ false = sym c.is_taken-in-loop-i.ensures ∙ c.if-is_taken-2.false in
    let other : same_name fact name ≡ false = sym c.eq.ensures ∙ c.if-eq.false in
    let apart : list_any (same_name fact) (take i facts) ≡ false = sym c.stands_among.ensures ∙ c.if-stands_among.false in
    ap (λ l. first_taken (l ++ name ∷ known) (drop (i + 1) facts)) taken
    ∙ sym (first_taken-same (fact ∷ take i facts ++ (name ∷ known)) ((take i facts ++ fact ∷ []) ++ name ∷ known) (turned (take i facts) (name ∷ known) fact) (drop (i + 1) facts))
    ∙ sym (first_taken-new (take i facts ++ name ∷ known) fact (drop (i + 1) facts) (free (take i facts) known name fact test other apart))
    ∙ ap (first_taken (take i facts ++ name ∷ known)) (sym next)
    ∙ c.loop-i.invariant
