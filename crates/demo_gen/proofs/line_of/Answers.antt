use Rattle.std.proofs.Common.{◌≡◌, ◌∙◌, ◌+◌, ◌-◌, ◌<◌, Some, ap, sym, arith}
use Rattle.demo_gen.proofs.Blocks.{event_at, last_at, end_at, less, equal, greater}
use Rattle.demo_gen.specs.Blocks.{lines_below}
use Rattle.demo_gen.proofs.line_of.Goals as goal

pub returns-in-Less : goal.returns-in-Less
returns-in-Less c =
    let at : c.args.i ≡ 8 + (c.args.i - 8) = omega (arith, c.if-i-lt-FIRST.false) in
    let before : c.args.i - 8 < c.lines_below.result = less (c.args.i - 8) c.lines_below.result c.cmp.result c.cmp.ensures c.in-Less.is in
    let below : c.args.i - 8 < lines_below c.args.n = omega (arith, c.lines_below.ensures) in
    sym (event_at c.args.n c.args.i (c.args.i - 8) c.place_of.result.event c.place_of.result.line at c.place_of.ensures.stands below c.place_of.ensures.within ∙ c.event_line.ensures)

pub returns-in-Equal : goal.returns-in-Equal
returns-in-Equal c =
    let at : c.args.i ≡ 8 + (c.args.i - 8) = omega (arith, c.if-i-lt-FIRST.false) in
    let same : c.args.i - 8 ≡ c.lines_below.result = equal (c.args.i - 8) c.lines_below.result c.cmp.result c.cmp.ensures c.in-Equal.is in
    ap Some c.text_of.ensures ∙ sym (last_at c.args.n c.args.i (c.args.i - 8) at (same ∙ c.lines_below.ensures))

pub returns-in-Greater : goal.returns-in-Greater
returns-in-Greater c =
    let at : c.args.i ≡ 8 + (c.args.i - 8) = omega (arith, c.if-i-lt-FIRST.false) in
    let behind : c.lines_below.result < c.args.i - 8 = greater (c.args.i - 8) c.lines_below.result c.cmp.result c.cmp.ensures c.in-Greater.is in
    let past : lines_below c.args.n < c.args.i - 8 = omega (arith, c.lines_below.ensures) in
    sym (end_at c.args.n c.args.i (c.args.i - 8) at past)
