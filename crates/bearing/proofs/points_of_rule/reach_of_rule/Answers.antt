use Rattle.std.proofs.Common.{◌∙◌, sym, subst}
use Rattle.occ_tree.specs.Places.{forest}
use Rattle.joined.specs.Gaps.{IsReadSpot}
use Rattle.bearing.specs.Reach.{Notes}
use Rattle.bearing.specs.Watched.{AreDeclared, IsSpotRead, IsSpotAgainst}
use Rattle.bearing.proofs.Reached.{reached}
use Rattle.bearing.proofs.WatchedPoints.{read_declared, rule_noted}
use Rattle.bearing.proofs.points_of_rule.reach_of_rule.Goals as goal

pub note_read-requires-clause-declared : goal.note_read-requires-clause-declared
note_read-requires-clause-declared c =
    let s = c.args.standing.now.present in
    subst (AreDeclared s) (sym (c.as_slice.ensures.value ∙ c.read_of-read.ensures)) (read_declared s c.requires.sound c.args.rule)

pub returns-clause-all : goal.returns-clause-all
returns-clause-all c =
    let s = c.args.standing.now.present in
    let f = forest c.args.tree.now in
    let facts = c.read_of-read.result.items in
    (reached f (IsReadSpot s f c.args.rule) c.in_ok-reach.reach c.note_rivals.new.reach c.in_ok-reach.ensures.all c.in_ok-reach.ensures.bounded c.in_ok-reach.ensures.places
    (rule_noted s f c.args.rule facts c.in_ok-reach.reach c.note_spot.new.reach c.note_read.new.reach c.note_rivals.new.reach c.read_of-read.ensures c.note_spot.ensures
    (subst (λ l. Notes f (IsSpotRead s f l) c.note_spot.new.reach c.note_read.new.reach) c.as_slice.ensures.value c.note_read.ensures)
    (subst (λ l. Notes f (IsSpotAgainst f l s.premises) c.note_read.new.reach c.note_rivals.new.reach) c.as_slice-2.ensures.value c.note_rivals.ensures))).0

pub returns-clause-bounded : goal.returns-clause-bounded
returns-clause-bounded c =
    let s = c.args.standing.now.present in
    let f = forest c.args.tree.now in
    let facts = c.read_of-read.result.items in
    (reached f (IsReadSpot s f c.args.rule) c.in_ok-reach.reach c.note_rivals.new.reach c.in_ok-reach.ensures.all c.in_ok-reach.ensures.bounded c.in_ok-reach.ensures.places
    (rule_noted s f c.args.rule facts c.in_ok-reach.reach c.note_spot.new.reach c.note_read.new.reach c.note_rivals.new.reach c.read_of-read.ensures c.note_spot.ensures
    (subst (λ l. Notes f (IsSpotRead s f l) c.note_spot.new.reach c.note_read.new.reach) c.as_slice.ensures.value c.note_read.ensures)
    (subst (λ l. Notes f (IsSpotAgainst f l s.premises) c.note_read.new.reach c.note_rivals.new.reach) c.as_slice-2.ensures.value c.note_rivals.ensures))).1
