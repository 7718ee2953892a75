use Rattle.belief_table.proofs.Thinned.{once_less, under_less, sheds_on, spares_on, keep_on}
use Rattle.belief_table.proofs.erasing.erase_premise.Goals as goal

pub erase_effects-requires-clause-once : goal.erase_effects-requires-clause-once
erase_effects-requires-clause-once c = once_less c.args.beliefs.now c.erase_root.new.beliefs c.in_ok-erase_root.ensures.sheds.thins c.requires.once

pub erase_effects-requires-clause-events : goal.erase_effects-requires-clause-events
erase_effects-requires-clause-events c = c.in_ok-erase_root.ensures.sheds.thins.events

pub erase_effects-requires-clause-under : goal.erase_effects-requires-clause-under
erase_effects-requires-clause-under c = let (s, under) = c.requires.under in (s, under_less c.args.beliefs.now c.erase_root.new.beliefs c.in_ok-erase_root.ensures.sheds.thins s under)

pub returns-clause-sheds : goal.returns-clause-sheds
returns-clause-sheds c =
    sheds_on c.args.beliefs.now c.erase_root.new.beliefs c.erase_effects.new.beliefs c.args.departed.now c.erase_root.new.departed c.erase_effects.new.departed
    c.requires.once c.in_ok-erase_root.ensures.sheds c.in_ok-erase_effects.ensures.sheds

pub returns-clause-spares : goal.returns-clause-spares
returns-clause-spares c = λ s out.
    spares_on c.args.beliefs.now c.erase_root.new.beliefs c.erase_effects.new.beliefs c.in_ok-erase_root.ensures.sheds.thins c.in_ok-erase_effects.ensures.sheds.thins
    s (c.in_ok-erase_root.ensures.spares s out) (c.in_ok-erase_effects.ensures.spares s out)

pub returns-clause-free : goal.returns-clause-free
returns-clause-free c = record {
  root = λ x m at. c.in_ok-erase_root.ensures.none x m (c.in_ok-erase_effects.ensures.sheds.thins.nodes x m at);
  rule = c.in_ok-erase_effects.ensures.none;
}

pub returns-clause-last : goal.returns-clause-last
returns-clause-last c = keep_on c.args.beliefs.now c.erase_root.new.beliefs c.erase_effects.new.beliefs c.in_ok-erase_root.ensures.last c.in_ok-erase_effects.ensures.last

pub returns-in_err-erase_effects-clause-last : goal.returns-in_err-erase_effects-clause-last
returns-in_err-erase_effects-clause-last c = keep_on c.args.beliefs.now c.erase_root.new.beliefs c.erase_effects.new.beliefs c.in_ok-erase_root.ensures.last c.erase_effects.ensures.last
