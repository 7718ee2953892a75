-- What a table's fields say of its rows.
use Rattle.std.proofs.Common.{◌≡◌, ℕ, suc, ◌+◌, ◌-◌, List, [], ◌∷◌, ◌++◌, map, length, take, drop, refl, ap, subst, sym, ◌∙◌, arith, append_assoc, append-nil}
use Rattle.std.specs.Prelude.{None}
use Rattle.std.specs.List.{IsDistinct, flat_map}
use Rattle.std.specs.Map.{keys_of}
use Rattle.std.proofs.Math.Seq.{take-append_seam, take-length}
use Rattle.std.proofs.lemmas.List.{take-append-drop, length-drop, length-append, length-map, map-append, take-map}
use Rattle.std.proofs.lemmas.Grind.{flat_map-append}
use Rattle.std.proofs.lemmas.Map.Made.{keys_of-map_values}
use Rattle.indexmap.specs.IndexMap.{IsUnique}
use Rattle.tmm_model.specs.declared.name.Name.{Name}
use Rattle.tmm_model.specs.declared.premise.Premise.{Premise}
use Rattle.tmm_model.specs.Points.{same_name}
use Rattle.tmm_model.specs.Standing.{name_of, points_of}
use Rattle.tmm_model.specs.Sorts.{Sort, a_fact, declarations_of, declared_by, fact_declaration}
use Rattle.tmm_model.specs.Verdicts.{words_known, first_taken}
use Rattle.list_theory.specs.WellNamed.{IsWellNamed}
use Rattle.list_theory.proofs.WellNamed.{words_known-append, AllFollow-append, IsNewThen, first_taken-none}
use Rattle.premise_list.specs.declared.table.Word.{Word}
use Rattle.premise_list.specs.declared.table.Table.TheInside.{Inside}
use Rattle.premise_list.specs.Words.{facts_of, own_sort, sort_seen}
use Rattle.premise_list.specs.Table.{Rows, at_place, placed, word_seen, entry_seen, fact_entry}
use Rattle.premise_list.specs.TableInside.{rows_of, IsTable}
use Rattle.premise_list.proofs.Lookups.{declarations_parted}

map_same : (fs : List (List ℕ)) → map (λ d. d.0) (map fact_declaration fs) ≡ fs
map_same [] = refl
map_same (f ∷ fs) = ap (λ l. f ∷ l) (map_same fs)

-- the names that a premise declares: its own, and then its facts
pub declared_by_parted : (p : Premise) → declared_by p ≡ name_of p ∷ facts_of p
declared_by_parted p = ap (λ ds. map (λ d. d.0) ds) (declarations_parted p) ∙ ap (λ l. name_of p ∷ l) (map_same (facts_of p))

-- the places change no name
keys-at_place : (i : ℕ) (ds : List (List ℕ × Sort)) → keys_of (map (at_place i) ds) ≡ map (λ d. d.0) ds
keys-at_place i [] = refl
keys-at_place i (d ∷ ds) = ap (λ l. d.0 ∷ l) (keys-at_place i ds)

pub keys-placed : (i : ℕ) (ps : List Premise) → keys_of (placed i ps) ≡ words_known ps
keys-placed i [] = refl
keys-placed i (p ∷ ps) =
    map-append (λ e. e.0) (map (at_place i) (declarations_of p)) (placed (suc i) ps)
    ∙ (λ j. keys-at_place i (declarations_of p) j ++ keys-placed (suc i) ps j)
    ∙ sym (map-append (λ d. d.0) (declarations_of p) (flat_map declarations_of ps))

pub length-placed : (i : ℕ) (ps : List Premise) → length (placed i ps) ≡ length (words_known ps)
length-placed i ps = sym (length-map (placed i ps) (λ e. e.0)) ∙ ap length (keys-placed i ps)

pub placed-append : (i : ℕ) (ps qs : List Premise) → placed i (ps ++ qs) ≡ placed i ps ++ placed (i + length ps) qs
placed-append i [] qs = let e : i ≡ i + length {A = Premise} [] = omega arith in ap (λ k. placed k qs) e
placed-append i (p ∷ ps) qs =
    let e : suc i + length ps ≡ i + length (p ∷ ps) = omega arith in
    ap (λ l. map (at_place i) (declarations_of p) ++ l) (placed-append (suc i) ps qs ∙ ap (λ k. placed (suc i) ps ++ placed k qs) e)
    ∙ sym (append_assoc (map (at_place i) (declarations_of p)) (placed (suc i) ps) (placed (i + length (p ∷ ps)) qs))

module _ (es : List (Name × Word)) (ps : List Premise) (indexed : map entry_seen es ≡ placed 0 ps) where
  -- the index has the declared names, in order
  pub keys_are : keys_of es ≡ words_known ps
  keys_are = sym (keys_of-map_values word_seen es) ∙ ap keys_of indexed ∙ keys-placed 0 ps

  pub word_total : length es ≡ length (words_known ps)
  word_total = sym (length-map es entry_seen) ∙ ap length indexed ∙ length-placed 0 ps

  -- the index of the first n premises
  pub indexed_taken : (n k : ℕ) → k + length (words_known (drop n ps)) ≡ length es → map entry_seen (take k es) ≡ placed 0 (take n ps)
  indexed_taken n k e =
      let whole : ps ≡ take n ps ++ drop n ps = sym (take-append-drop n ps) in
      let parts : placed 0 ps ≡ placed 0 (take n ps) ++ placed (0 + length (take n ps)) (drop n ps) = ap (placed 0) whole ∙ placed-append 0 (take n ps) (drop n ps) in
      let words : length (words_known ps) ≡ length (words_known (take n ps)) + length (words_known (drop n ps)) = ap (λ l. length (words_known l)) whole ∙ ap length (words_known-append (take n ps) (drop n ps)) ∙ length-append (words_known (take n ps)) (words_known (drop n ps)) in
      let total = word_total in
      let first = length-placed 0 (take n ps) in
      let count : k ≡ length (placed 0 (take n ps)) = omega arith in
      sym (take-map entry_seen k es) ∙ ap (take k) (indexed ∙ parts) ∙ ap (λ m. take m (placed 0 (take n ps) ++ placed (0 + length (take n ps)) (drop n ps))) count
      ∙ take-append_seam (placed 0 (take n ps)) (placed (0 + length (take n ps)) (drop n ps))

-- the declarations with those of one more premise
pub placed-push : (i : ℕ) (ps : List Premise) (p : Premise) (place : ℕ) → place ≡ i + length ps → placed i (ps ++ p ∷ []) ≡ placed i ps ++ map (at_place place) (declarations_of p)
placed-push i ps p place e =
    placed-append i ps (p ∷ []) ∙ ap (λ k. placed i ps ++ (map (at_place k) (declarations_of p) ++ [])) (sym e) ∙ ap (λ l. placed i ps ++ l) (append-nil (map (at_place place) (declarations_of p)))

facts_seen : (place : ℕ) (fs : List (List ℕ)) → map entry_seen (map (fact_entry place) fs) ≡ map (at_place place) (map fact_declaration fs)
facts_seen place [] = refl
facts_seen place (f ∷ fs) = ap (λ l. (f, (a_fact, place)) ∷ l) (facts_seen place fs)

-- the index with the names of one more premise
pub entries_push : (es : List (Name × Word)) (p : Premise) (word : Word) → sort_seen word.sort ≡ own_sort p
    → map entry_seen ((es ++ (name_of p, word) ∷ []) ++ map (fact_entry word.place) (facts_of p)) ≡ map entry_seen es ++ map (at_place word.place) (declarations_of p)
entries_push es p word sort =
    map-append entry_seen (es ++ (name_of p, word) ∷ []) (map (fact_entry word.place) (facts_of p))
    ∙ (λ i. map-append entry_seen es ((name_of p, word) ∷ []) i ++ facts_seen word.place (facts_of p) i)
    ∙ append_assoc (map entry_seen es) ((name_of p, word_seen word) ∷ []) (map (at_place word.place) (map fact_declaration (facts_of p)))
    ∙ (λ i. map entry_seen es ++ (name_of p, (sort i, word.place)) ∷ map (at_place word.place) (map fact_declaration (facts_of p)))
    ∙ ap (λ ds. map entry_seen es ++ map (at_place word.place) ds) (sym (declarations_parted p))

-- no name is declared twice
pub distinct_words : (t : Inside) (r : Rows) → rows_of t ≡ r → IsTable t → IsUnique same_name t.words → IsDistinct same_name (keys_of (placed 0 r.premises))
distinct_words t r view facts unique =
    subst (λ ks. IsDistinct same_name ks) (sym (keys_of-map_values word_seen t.words.entries) ∙ ap keys_of facts.indexed ∙ ap (λ r. keys_of (placed 0 r.premises)) view) unique

-- the declared names of a premise are new one after the other
pub own_name_new : (known : List (List ℕ)) (p : Premise) → first_taken known (declared_by p) ≡ None → IsNewThen known (name_of p) (facts_of p)
own_name_new known p h = first_taken-none known (name_of p) (facts_of p) (sym (ap (first_taken known) (declared_by_parted p)) ∙ h)

-- the first of the premises are well named alone
pub well_named_taken : (n : ℕ) (ps : List Premise) → IsWellNamed ps → IsWellNamed (take n ps)
well_named_taken n ps h = (AllFollow-append [] (take n ps) (drop n ps) (subst IsWellNamed (sym (take-append-drop n ps)) h)).0

-- a count of all is that of the first n and that of the others
pub words_parted : (n : ℕ) (ps : List Premise) → length (words_known ps) ≡ length (words_known (take n ps)) + length (words_known (drop n ps))
words_parted n ps =
    ap (λ l. length (words_known l)) (sym (take-append-drop n ps)) ∙ ap length (words_known-append (take n ps) (drop n ps)) ∙ length-append (words_known (take n ps)) (words_known (drop n ps))

pub points_parted : (n : ℕ) (ps : List Premise) → length (flat_map points_of ps) ≡ length (flat_map points_of (take n ps)) + length (flat_map points_of (drop n ps))
points_parted n ps =
    ap (λ l. length (flat_map points_of l)) (sym (take-append-drop n ps)) ∙ ap length (flat_map-append points_of (take n ps) (drop n ps)) ∙ length-append (flat_map points_of (take n ps)) (flat_map points_of (drop n ps))

-- the slice of the elements from n on
pub rest_of : {X : Type 0} (n : ℕ) (xs ys : List X) → xs ≡ ys → take (length xs - n) (drop n xs) ≡ drop n ys
rest_of n xs ys e = ap (λ k. take k (drop n xs)) (sym (length-drop n xs)) ∙ take-length (drop n xs) ∙ ap (drop n) e
