use Rattle.std.proofs.Common.{◌≡◌, ◌∷◌, ◌++◌, length}
use Rattle.tmm_model.specs.Lines.{IsName, AreNames}
use Rattle.tmm_grammar.specs.Reading.{parts, parts_behind}
use Rattle.tmm_words.proofs.points.occ.Given as goal

abbrev pub invariant-loop-rest : goal.invariant-loop-rest
invariant-loop-rest l = record {
  root : IsName l.root;
  names : AreNames l.rules.items;
  parts : parts l.word ≡ l.root ∷ (l.rules.items ++ parts_behind l.rest);
}

abbrev pub decreases-loop-rest : goal.decreases-loop-rest
decreases-loop-rest l = length l.rest
