use Rattle.std.proofs.Common.{◌∙◌, ◌+◌, length, ap, sym}
use Rattle.std.proofs.lemmas.List.{length_push}
use Rattle.belief_table.proofs.Named.{numbers_next, more_more}
use Rattle.belief_turns.proofs.rows.numbers_of.Goals as goal

pub loop-i-preserved : goal.loop-i-preserved
loop-i-preserved c = record {
  numbers = numbers_next c.args.standing.now.present c.loop-i.classes c.enter.new.self c.args.facts.now c.loop-i.i c.index-facts-i.result c.in-Some.class c.in_ok-enter.field-0 c.loop-i.numbers.items c.push.new.self.items
      c.loop-i.invariant.numbers c.enter.ensures.more c.loop-i-test.true c.index-facts-i.is (sym c.in-Some.ensures) c.in_ok-enter.ensures.entered c.push.ensures.items;
  long = ap length c.push.ensures.items ∙ length_push c.loop-i.numbers.items c.in_ok-enter.field-0 ∙ ap (λ n. n + 1) c.loop-i.invariant.long;
  more = more_more c.args.classes.now c.loop-i.classes c.enter.new.self c.loop-i.invariant.more c.enter.ensures.more;
}
