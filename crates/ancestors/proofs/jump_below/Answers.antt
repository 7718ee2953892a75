use Rattle.std.proofs.Common.{◌≡◌, ℕ, List, ◌+◌, ◌<◌, length, take, arith}
use Rattle.ancestors.specs.Jumps.{jump_depth}
use Rattle.ancestors.proofs.Jumps.{IsJumped, jumped, two_at_once, one_step}
use Rattle.ancestors.proofs.jump_below.Goals as goal

-- two jumps, one after the other
record Twice (w u v : List ℕ) : Type 0 where
  first : IsJumped w u
  second : IsJumped u v

twice : (w u v : List ℕ) → 0 < length w → ((d : ℕ) → length w ≡ d + 1 → u ≡ take (jump_depth d + 1) w) → ((d : ℕ) → length u ≡ d + 1 → v ≡ take (jump_depth d + 1) u) → Twice w u v
twice w u v node jump again = let first = jumped w u node jump in record { first = first; second = jumped u v first.node again }

pub jump-second-requires : goal.jump-second-requires
jump-second-requires g c =
    let way = g.A.Ancestry.way c.args.tree.now in
    (jumped (way c.args.parent) (way c.jump-first.result) c.requires c.jump-first.ensures).node

pub depth-depth-requires : goal.depth-depth-requires
depth-depth-requires g c =
    let way = g.A.Ancestry.way c.args.tree.now in
    (twice (way c.args.parent) (way c.jump-first.result) (way c.jump-second.result) c.requires c.jump-first.ensures c.jump-second.ensures).first.node

pub overflow_sub-depth : goal.overflow_sub-depth
overflow_sub-depth g c =
    let way = g.A.Ancestry.way c.args.tree.now in
    let jumps = twice (way c.args.parent) (way c.jump-first.result) (way c.jump-second.result) c.requires c.jump-first.ensures c.jump-second.ensures in
    omega (arith, jumps.first.within, c.depth.ensures, c.depth-depth.ensures)

pub depth-requires-2 : goal.depth-requires-2
depth-requires-2 g c =
    let way = g.A.Ancestry.way c.args.tree.now in
    (twice (way c.args.parent) (way c.jump-first.result) (way c.jump-second.result) c.requires c.jump-first.ensures c.jump-second.ensures).second.node

pub overflow_sub-depth-2 : goal.overflow_sub-depth-2
overflow_sub-depth-2 g c =
    let way = g.A.Ancestry.way c.args.tree.now in
    let jumps = twice (way c.args.parent) (way c.jump-first.result) (way c.jump-second.result) c.requires c.jump-first.ensures c.jump-second.ensures in
    omega (arith, jumps.second.within, c.depth-2.ensures, c.depth-depth.ensures)

pub returns-then-depth : goal.returns-then-depth
returns-then-depth g c d deep =
    let way = g.A.Ancestry.way c.args.tree.now in
    let jumps = twice (way c.args.parent) (way c.jump-first.result) (way c.jump-second.result) c.requires c.jump-first.ensures c.jump-second.ensures in
    two_at_once (way c.args.parent) (way c.jump-first.result) (way c.jump-second.result) jumps.first jumps.second d deep
    (omega (arith, c.if-depth.true, c.depth.ensures, c.depth-depth.ensures, c.depth-2.ensures, jumps.first.within, jumps.second.within))

pub returns-else-depth : goal.returns-else-depth
returns-else-depth g c d deep =
    let way = g.A.Ancestry.way c.args.tree.now in
    let jumps = twice (way c.args.parent) (way c.jump-first.result) (way c.jump-second.result) c.requires c.jump-first.ensures c.jump-second.ensures in
    one_step (way c.args.parent) (way c.jump-first.result) (way c.jump-second.result) jumps.first jumps.second d deep
    (λ equal. c.if-depth.false (omega (arith, equal, c.depth.ensures, c.depth-depth.ensures, c.depth-2.ensures, jumps.first.within, jumps.second.within)))
