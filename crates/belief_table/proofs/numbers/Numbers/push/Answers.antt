use Rattle.std.proofs.Common.{◌≡◌, ◌∙◌, ℕ, List, ap, sym, subst, Some, ◌⊎◌}
use Rattle.std.specs.Prelude.{IfOk, OnOk, None}
use Rattle.list_theory.proofs.Elements.{In}
use Rattle.belief_table.proofs.Named.{only_pushed}
use Rattle.occ_tree.specs.Classes.{place_in}
use Rattle.occ_tree.proofs.Numbered.{placed_last}
use Rattle.belief_table.proofs.numbers.Numbers.push.Goals as goal
use Rattle.belief_table.proofs.numbers.Numbers.push.Goals.{in-Ok, in-Err}

pub returns-clause-entered : goal.returns-clause-entered
returns-clause-entered c = elim c.match-insert.branch [
  | in-Ok w ↦
      let none = subst (λ names. place_in names c.args.name ≡ None) (sym c.self.view_is) c.requires in
      subst (λ r. IfOk r (λ k. place_in c.insert.new.self.keys c.args.name ≡ Some k)) (sym w.result-is)
      (placed_last c.self.inside.names.keys c.insert.new.self.keys c.args.name none w.in-Ok.ensures.keys ∙ ap (λ n. Some n) (sym c.len-k.ensures.len))
  | in-Err w ↦ subst (λ r. IfOk r (λ k. place_in c.insert.new.self.keys c.args.name ≡ Some k)) (sym w.result-is) tt
]

pub returns-clause-only : goal.returns-clause-only
returns-clause-only c = elim c.match-insert.branch [
  | in-Ok w ↦
      subst (λ r. OnOk r ((other : List ℕ) → In other c.insert.new.self.keys → In other c.args.self.now ⊎ (other ≡ c.args.name))) (sym w.result-is)
      (subst (λ names. (other : List ℕ) → In other c.insert.new.self.keys → In other names ⊎ (other ≡ c.args.name)) c.self.view_is
      (only_pushed c.self.inside.names.keys c.insert.new.self.keys c.args.name w.in-Ok.ensures.keys))
  | in-Err w ↦ subst (λ r. OnOk r ((other : List ℕ) → In other c.insert.new.self.keys → In other c.args.self.now ⊎ (other ≡ c.args.name))) (sym w.result-is) tt
]
