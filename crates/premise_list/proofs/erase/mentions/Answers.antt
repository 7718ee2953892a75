use Rattle.std.proofs.Common.{◌≡◌, true, false, ◌++◌, sym, ◌∙◌, ap}
use Rattle.std.specs.List.{list_any}
use Rattle.tmm_model.specs.Erasure.{is_among, mentioned_by}
use Rattle.premise_list.proofs.Parts.{rule_mentions}
use Rattle.premise_list.proofs.erase.mentions.Goals as goal
use Rattle.premise_list.proofs.erase.mentions.Goals.{then-is_gone, else-is_gone}

pub returns-else-is_gone-2 : goal.returns-else-is_gone-2
returns-else-is_gone-2 c =
    let gone = c.args.gone.now.keys in
    elim c.if-is_gone.branch [
      | then-is_gone w ↦ let neither : true ≡ false = sym w.if-is_gone.true ∙ sym w.value-is ∙ c.if-is_gone-2.false in cc
      | else-is_gone w ↦
          let no_trigger : is_among gone c.in-Rule.trigger ≡ false = sym c.is_gone-in-Rule.ensures ∙ w.if-is_gone.false in
          let no_effect : is_among gone c.in-Rule.effect ≡ false = sym w.is_gone-else-is_gone.ensures ∙ sym w.value-is ∙ c.if-is_gone-2.false in
          c.mentions_conditions.ensures
          ∙ rule_mentions gone c.in-Rule.trigger c.in-Rule.effect (c.in-Rule.given.items ++ c.in-Rule.unless_facts.items) no_trigger no_effect
          ∙ ap (λ q. list_any (is_among gone) (mentioned_by q)) (sym c.in-Rule.is)
    ]
