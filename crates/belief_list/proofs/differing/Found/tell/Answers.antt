use Rattle.std.proofs.Common.{◌≡◌, ◌<◌, false, length, sym, ◌∙◌, arith}
use Rattle.std.specs.Prelude.{None}
use Rattle.std.proofs.lemmas.List.{get_or_default}
use Rattle.belief_list.specs.Finding.{mark_under}
use Rattle.belief_list.proofs.Finding.{unmarked_within, found_same, found_pushed}
use Rattle.belief_list.proofs.differing.Found.tell.Goals as goal

pub returns-then-is_same-clause-found : goal.returns-then-is_same-clause-found
returns-then-is_same-clause-found c = λ s net tree classes w is.
    let marks = c.args.self.now.marks.items in
    let kept = c.args.kept.now in
    let free : mark_under marks c.args.x ≡ false = sym c.is_marked.ensures ∙ c.if-is_marked.false in
    let within : c.args.x < length kept = (let lt = unmarked_within marks c.args.x free in omega (arith, lt, c.requires.long)) in
    found_same s net tree classes kept marks c.args.self.now.differences.items w c.args.x c.args.now c.requires.long free is
    (get_or_default kept c.args.x None _ within ∙ c.is_same.ensures c.if-is_same.true)

pub returns-in-Ok-clause-found : goal.returns-in-Ok-clause-found
returns-in-Ok-clause-found c = λ s net tree classes w is.
    let marks = c.args.self.now.marks.items in
    let kept = c.args.kept.now in
    let free : mark_under marks c.args.x ≡ false = sym c.is_marked.ensures ∙ c.if-is_marked.false in
    let within : c.args.x < length kept = (let lt = unmarked_within marks c.args.x free in omega (arith, lt, c.requires.long)) in
    found_pushed s net tree classes kept marks c.args.self.now.differences.items w c.args.x c.args.now c.requires.long free is
    _ (get_or_default kept c.args.x _ None within) c.push.new.self.items c.in-Ok.ensures.items
