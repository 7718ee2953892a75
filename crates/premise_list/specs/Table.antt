-- A list of premises with the index of its names, as contracts in this crate see it.
use Rattle.std.specs.Prelude.{ℕ, suc, ◌-◌, List, [], ◌∷◌, ◌++◌, map}
use Rattle.tmm_model.specs.declared.premise.Premise.{Premise}
use Rattle.tmm_model.specs.Sorts.{Sort, declarations_of}
use Rattle.premise_list.specs.declared.table.Word.{Word}
use Rattle.premise_list.specs.declared.premise.Sort.TheVariants.{Fact}
use Rattle.premise_list.specs.Words.{sort_seen}

-- the premises, and for how many more premises and declared names there is room
pub record Rows : Type 0 where
  pub premises : List Premise
  pub places : ℕ
  pub words : ℕ

-- a declaration, and the place of the premise that makes it
abbrev pub at_place : ℕ → List ℕ × Sort → List ℕ × (Sort × ℕ)
at_place place d = (d.0, (d.1, place))

-- all declarations, where the first premise has this place
abbrev pub placed : ℕ → List Premise → List (List ℕ × (Sort × ℕ))
placed place [] = []
placed place (premise ∷ premises) = map (at_place place) (declarations_of premise) ++ placed (suc place) premises

-- what an entry of the index stands for
abbrev pub word_seen : Word → Sort × ℕ
word_seen word = (sort_seen word.sort, word.place)

-- an entry of the index: a word, and what it stands for
abbrev pub entry_seen : List ℕ × Word → List ℕ × (Sort × ℕ)
entry_seen e = (e.0, word_seen e.1)

-- the same declaration, where the premise that makes it stands one place lower
abbrev pub moved_down : List ℕ × (Sort × ℕ) → List ℕ × (Sort × ℕ)
moved_down e = (e.0, (e.1.0, e.1.1 - 1))

-- the entry of a fact of the class at this place
abbrev pub fact_entry : ℕ → List ℕ → List ℕ × Word
fact_entry place fact = (fact, record { sort = Fact; place = place })
