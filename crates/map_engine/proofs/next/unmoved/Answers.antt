use Rattle.std.proofs.Common.{◌∙◌, List, map, refl, sym, ap, subst}
use Rattle.tmm_model.specs.declared.answer.Report.{Report}
use Rattle.tmm_model.specs.Answers.{reports, report_of}
use Rattle.tmm_model.specs.Maps.{built}
use Rattle.occ_tree.specs.Places.{forest}
use Rattle.protections.specs.Found.{Found, AreFound, found_in, after_review}
use Rattle.protections.specs.Reported.{Reports}
use Rattle.map_engine.specs.Reads.{read_of}
use Rattle.map_engine.proofs.Apart.{still_apart}
use Rattle.map_engine.proofs.Unmoved.{holds_before, read_still, none_reported, told_still, told_unguarded}
use Rattle.map_engine.proofs.next.unmoved.Goals as goal

pub review_edit-requires-clause-others : goal.review_edit-requires-clause-others
review_edit-requires-clause-others c = still_apart c.args.map.now.standing.now c.args.map.now.net.now c.args.map.now.tree.now c.requires.seen.seen.network.sound.well_named c.requires.alike.say c.requires.others

pub returns-then-not-guarded-clause-view : goal.returns-then-not-guarded-clause-view
returns-then-not-guarded-clause-view c =
    let lists = c.args.map.now.standing.now in
    let none = c.if-not-guarded.true in
    let f = forest c.args.map.now.tree.now in
    let read = read_of c.args.view.now in
    read_still lists.committed lists.present f read read (holds_before lists.committed lists.present f c.requires.alike c.requires.holds) c.requires.view c.requires.alike refl
    (subst (λ (rs : Reports). AreFound rs read.broken) (none_reported lists.committed (c.requires.unguarded_before none) ∙ sym (none_reported lists.present (c.requires.unguarded_now none))) c.requires.view.broken)

pub returns-then-not-guarded-clause-changes : goal.returns-then-not-guarded-clause-changes
returns-then-not-guarded-clause-changes c =
    let lists = c.args.map.now.standing.now in
    let none = c.if-not-guarded.true in
    let told = c.changes_of-changes.ensures in
    told_unguarded lists.committed lists.present c.requires.alike c.changes_of-changes.result (told.erased ∙ c.requires.left_out) told.left told.entered told.loose told.clips
    (c.requires.unguarded_now none) (told.broken ∙ c.make.ensures) (told.mended ∙ c.make-then-not-guarded.ensures)

pub returns-clause-view : goal.returns-clause-view
returns-clause-view c =
    let lists = c.args.map.now.standing.now in
    let f = forest c.args.map.now.tree.now in
    let read = read_of c.args.view.now in
    let review = c.in_ok-review.review in
    read_still lists.committed lists.present f read (record read { broken = after_review (found_in c.reserve.new.self) review })
    (holds_before lists.committed lists.present f c.requires.alike c.requires.holds) c.requires.view c.requires.alike refl
    (subst (λ (g : Found). AreFound (reports (built lists.present)) (after_review g review)) (sym c.reserve.ensures.same) c.in_ok-review.ensures.after)

pub returns-clause-changes : goal.returns-clause-changes
returns-clause-changes c =
    let lists = c.args.map.now.standing.now in
    let told = c.changes_of-changes-2.ensures in
    let found = c.in_ok-broken.ensures in
    told_still lists.committed lists.present c.requires.alike c.changes_of-changes-2.result (told.erased ∙ c.requires.left_out) told.left told.entered told.loose told.clips
    (ap (λ (l : List Report). map report_of l) told.broken ∙ found.0 ∙ c.in_ok-review.ensures.broken) (told.mended ∙ found.1 ∙ c.in_ok-review.ensures.mended)
