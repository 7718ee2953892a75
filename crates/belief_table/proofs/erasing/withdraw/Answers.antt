use Rattle.std.proofs.Common.{subst}
use Rattle.row_links.specs.Lists.{IsOn}
use Rattle.spots.proofs.Nodes.{live_at}
use Rattle.occ_tree.specs.Places.{forest}
use Rattle.occ_tree.specs.Standing.{present}
use Rattle.occ_tree.proofs.Members.{shrinking_withdraws}
use Rattle.belief_table.specs.declared.state.Beliefs.{Beliefs}
use Rattle.belief_table.specs.Erasing.{class_at}
use Rattle.belief_table.specs.Erasing.{TellsOf, fact_at, NotesOf, DropsRowsAt}
use Rattle.bearing.specs.Gone.{gone_at}
use Rattle.belief_table.proofs.Parted.{withdrawn_sheds, withdrawn_rows, withdrawn_spares}
use Rattle.belief_table.proofs.erasing.withdraw.Goals as goal

pub part_with-requires-clause-live : goal.part_with-requires-clause-live
part_with-requires-clause-live c = λ y on.
    let b = (c.in_ok-numbers.ensures.each y).0 (subst (λ l. IsOn l y) c.as_slice.ensures.value on) in
    live_at (forest c.args.beliefs.now.tree) y b.below b.below_at

pub returns-clause-sheds : goal.returns-clause-sheds
returns-clause-sheds c =
    let old = c.args.beliefs.now in
    let new : Beliefs = record { tree = c.withdraw.new.self; decisions = c.part_with.new.decisions } in
    let before = c.args.departed.now in
    let after = c.part_with.new.departed in
    withdrawn_sheds old new before after c.args.x c.in_ok-numbers.numbers.items c.requires.once c.requires.events c.in_ok-numbers.ensures.each c.in_ok-numbers.ensures.once
    (subst (λ l. TellsOf old.tree l before.left.items after.left.items) c.as_slice.ensures.value c.in_ok-part_with.ensures.tells)
    (subst (λ l. NotesOf (class_at old.tree) l before.classes after.classes) c.as_slice.ensures.value c.in_ok-part_with.ensures.notes)
    (subst (λ l. NotesOf (fact_at old.tree) l before.facts after.facts) c.as_slice.ensures.value c.in_ok-part_with.ensures.facts)
    (subst (λ l. NotesOf (gone_at old.tree) l before.tokens.items after.tokens.items) c.as_slice.ensures.value c.in_ok-part_with.ensures.tokens)
    (subst (λ l. DropsRowsAt (IsOn l) old.decisions new.decisions) c.as_slice.ensures.value c.in_ok-part_with.ensures.rows)
    c.in_ok-withdraw.ensures.ok

pub returns-clause-spares : goal.returns-clause-spares
returns-clause-spares c =
    let old = c.args.beliefs.now in
    let new : Beliefs = record { tree = c.withdraw.new.self; decisions = c.part_with.new.decisions } in
    let before = c.args.departed.now in
    let after = c.part_with.new.departed in
    withdrawn_spares old new before after c.args.x c.in_ok-numbers.numbers.items c.requires.once c.requires.events c.in_ok-numbers.ensures.each c.in_ok-numbers.ensures.once
    (subst (λ l. TellsOf old.tree l before.left.items after.left.items) c.as_slice.ensures.value c.in_ok-part_with.ensures.tells)
    (subst (λ l. NotesOf (class_at old.tree) l before.classes after.classes) c.as_slice.ensures.value c.in_ok-part_with.ensures.notes)
    (subst (λ l. NotesOf (fact_at old.tree) l before.facts after.facts) c.as_slice.ensures.value c.in_ok-part_with.ensures.facts)
    (subst (λ l. NotesOf (gone_at old.tree) l before.tokens.items after.tokens.items) c.as_slice.ensures.value c.in_ok-part_with.ensures.tokens)
    (subst (λ l. DropsRowsAt (IsOn l) old.decisions new.decisions) c.as_slice.ensures.value c.in_ok-part_with.ensures.rows)
    c.in_ok-withdraw.ensures.ok

pub returns-clause-gone : goal.returns-clause-gone
returns-clause-gone c = λ m at. shrinking_withdraws (present c.args.beliefs.now.tree) (present c.withdraw.new.self) c.args.x m at c.in_ok-withdraw.ensures.ok.shrinks

pub returns-clause-rows : goal.returns-clause-rows
returns-clause-rows c =
    let old = c.args.beliefs.now in
    let new : Beliefs = record { tree = c.withdraw.new.self; decisions = c.part_with.new.decisions } in
    let before = c.args.departed.now in
    let after = c.part_with.new.departed in
    withdrawn_rows old new before after c.args.x c.in_ok-numbers.numbers.items c.requires.once c.requires.events c.in_ok-numbers.ensures.each c.in_ok-numbers.ensures.once
    (subst (λ l. TellsOf old.tree l before.left.items after.left.items) c.as_slice.ensures.value c.in_ok-part_with.ensures.tells)
    (subst (λ l. NotesOf (class_at old.tree) l before.classes after.classes) c.as_slice.ensures.value c.in_ok-part_with.ensures.notes)
    (subst (λ l. NotesOf (fact_at old.tree) l before.facts after.facts) c.as_slice.ensures.value c.in_ok-part_with.ensures.facts)
    (subst (λ l. NotesOf (gone_at old.tree) l before.tokens.items after.tokens.items) c.as_slice.ensures.value c.in_ok-part_with.ensures.tokens)
    (subst (λ l. DropsRowsAt (IsOn l) old.decisions new.decisions) c.as_slice.ensures.value c.in_ok-part_with.ensures.rows)
    c.in_ok-withdraw.ensures.ok
