use Rattle.std.proofs.Common.{◌≡◌, ℕ, ◌∙◌, ◌+◌, ◌<◌, List, [], ◌∷◌, ◌++◌, map, take, get_or, length, sym, ap, arith}
use Rattle.std.proofs.lemmas.List.{append_assoc, append-nil, map-append, take_all, take_more}
use Rattle.spots.specs.Forest.{moment_at}
use Rattle.occ_tree.specs.Places.{forest}
use Rattle.belief_turns.specs.Numbered.{seen_numbered}
use Rattle.belief_turns.specs.Telling.{seen_dated, seen_node}
use Rattle.belief_turns.proofs.Lost.{on_at}
use Rattle.belief_turns.proofs.told.tell_all.Goals as goal

-- what is told of the first numbers, and of one more
one_more : {X Y : Type 0} (seen : X → Y) (of : ℕ → Y) (before now then_ : List X) (numbers : List ℕ) (i : ℕ) → i < length numbers
    → map seen now ≡ map seen before ++ map of (take i numbers) → map seen then_ ≡ map seen now ++ of (get_or numbers i 0) ∷ [] → map seen then_ ≡ map seen before ++ map of (take (i + 1) numbers)
one_more seen of before now then_ numbers i within far next =
    let y = get_or numbers i 0 in
    next
    ∙ ap (λ l. l ++ of y ∷ []) far
    ∙ append_assoc (map seen before) (map of (take i numbers)) (of y ∷ [])
    ∙ ap (λ l. map seen before ++ l) (sym (map-append of (take i numbers) (y ∷ [])))
    ∙ ap (λ l. map seen before ++ map of l) (sym (take_more numbers i 0 within))

pub loop-y-init : goal.loop-y-init
loop-y-init c = record {
  dated = sym (append-nil (map seen_dated c.args.moved.now.items));
  numbers = sym (append-nil (map seen_numbered c.args.moved.now.items));
}

pub tell-requires : goal.tell-requires
tell-requires c = record { live = c.requires.live (get_or c.args.numbers.now c.loop-y.y-index 0) (on_at c.args.numbers.now c.loop-y.y-index 0 (omega (arith, c.loop-y-test.true))) }

pub loop-y-preserved : goal.loop-y-preserved
loop-y-preserved c =
    let tree = c.args.tree.now in
    let numbers = c.args.numbers.now in
    let before = c.args.moved.now.items in
    let i = c.loop-y.y-index in
    let within : i < length numbers = omega (arith, c.loop-y-test.true) in
    record {
      dated = one_more seen_dated (seen_node tree) before c.loop-y.moved.items c.tell.new.moved.items numbers i within c.loop-y.invariant.dated c.in_ok-tell.ensures.dated;
      numbers = one_more seen_numbered (λ y. (y, moment_at (forest tree) y)) before c.loop-y.moved.items c.tell.new.moved.items numbers i within c.loop-y.invariant.numbers c.in_ok-tell.ensures.number;
    }

pub returns-clause-dated : goal.returns-clause-dated
returns-clause-dated c =
    let numbers = c.args.numbers.now in
    c.loop-y.invariant.dated ∙ ap (λ l. map seen_dated c.args.moved.now.items ++ map (seen_node c.args.tree.now) l) (take_all c.loop-y.y-index numbers (omega (arith, c.loop-y-test.false)))

pub returns-clause-numbers : goal.returns-clause-numbers
returns-clause-numbers c =
    let numbers = c.args.numbers.now in
    c.loop-y.invariant.numbers ∙ ap (λ l. map seen_numbered c.args.moved.now.items ++ map (λ y. (y, moment_at (forest c.args.tree.now) y)) l) (take_all c.loop-y.y-index numbers (omega (arith, c.loop-y-test.false)))
