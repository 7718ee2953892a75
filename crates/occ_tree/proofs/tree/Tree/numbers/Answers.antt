use Rattle.std.proofs.Common.{◌≡◌, true, ◌++◌, ◌∷◌, [], ◌∙◌, ap, arith}
use Rattle.spots.specs.Forest.{IsLive}
use Rattle.occ_tree.specs.Standing.{present, forest}
use Rattle.occ_tree.proofs.FirstNodes.{first_none, first_skip, first_more}
use Rattle.occ_tree.proofs.tree.Tree.numbers.Goals as goal
use Rattle.occ_tree.proofs.tree.Tree.numbers.Goals.{then-is_live+in_ok-reserve, else-is_live}

pub loop-x-init : goal.loop-x-init
loop-x-init c = first_none (forest (present c.args.self.now)) c.new-numbers.result.items c.new-numbers.ensures.items

pub loop-x-preserved : goal.loop-x-preserved
loop-x-preserved c =
    let f = forest (present c.args.self.now) in
    let xs = c.loop-x.numbers.items in
    let n = c.loop-x.x in
    elim c.if-is_live.branch [
      | then-is_live+in_ok-reserve w ↦
          let grown : c.if-is_live.numbers.items ≡ xs ++ n ∷ [] = ap (λ v. v.items) w.numbers-is ∙ w.push_reserved.ensures.items ∙ ap (λ l. l ++ n ∷ []) w.reserve.ensures.items in
          first_more f xs c.if-is_live.numbers.items n grown (c.is_live.ensures.0 w.if-is_live.true) c.loop-x.invariant
      | else-is_live w ↦
          let dead : IsLive f n → ⊥ = λ live. let t : c.is_live.result ≡ true = c.is_live.ensures.1 live in cc in
          let same : c.if-is_live.numbers.items ≡ xs = ap (λ v. v.items) w.numbers-is in
          rw same (first_skip f xs n dead c.loop-x.invariant)
    ]

pub returns-clause-all : goal.returns-clause-all
returns-clause-all c x live =
    let below = c.limit-x-end.ensures.above x live in
    c.loop-x.invariant.all x (omega (arith, below)) live
