use Rattle.std.proofs.Common.{sym, subst}
use Rattle.list_theory.proofs.Elements.{In}
use Rattle.occ_tree.specs.Places.{forest}
use Rattle.bearing.specs.Reach.{Notes}
use Rattle.bearing.specs.Watched.{IsSpotSaid}
use Rattle.bearing.proofs.WatchedPoints.{one_declared, other_declared, said_both}
use Rattle.bearing.proofs.points_of_rule.note_said.Goals as goal

pub note_if_read-requires-clause-declared : goal.note_if_read-requires-clause-declared
note_if_read-requires-clause-declared c =
    let s = c.args.standing.now.present in
    other_declared s c.requires.sound c.in-Against.name c.in-Against.one c.in-Against.other (subst (λ p. In p s.premises) c.in-Against.is c.requires.stands)

pub note_if_read-requires-in-Against-clause-declared : goal.note_if_read-requires-in-Against-clause-declared
note_if_read-requires-in-Against-clause-declared c =
    let s = c.args.standing.now.present in
    one_declared s c.requires.sound c.in-Against.name c.in-Against.one c.in-Against.other (subst (λ p. In p s.premises) c.in-Against.is c.requires.stands)

pub returns-in-Against : goal.returns-in-Against
returns-in-Against c =
    let f = forest c.args.tree.now in
    let facts = c.args.facts.now in
    subst (λ p. Notes f (IsSpotSaid f facts p) c.args.reach.now c.note_if_read-in-Against.new.reach) (sym c.in-Against.is)
    (said_both f facts c.in-Against.name c.in-Against.one c.in-Against.other c.args.reach.now c.note_if_read.new.reach c.note_if_read-in-Against.new.reach c.note_if_read.ensures c.note_if_read-in-Against.ensures)
