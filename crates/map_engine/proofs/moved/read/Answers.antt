use Rattle.std.proofs.Common.{◌≤◌, ℕ, List, sym, subst}
use Rattle.std.proofs.lemmas.Result.{err_from_is_err_and}
use Rattle.tmm_model.specs.Answers.{reports, most_size}
use Rattle.tmm_model.specs.Maps.{built}
use Rattle.belief_list.specs.declared.kept_rows.Difference.{Difference}
use Rattle.belief_list.specs.KeptRows.{AreDifferences}
use Rattle.supports.specs.Apart.{AreOthersApart}
use Rattle.protections.specs.Found.{Found, AreFound, after_review}
use Rattle.map_engine.proofs.Covering.{covers}
use Rattle.map_engine.proofs.moved.read.Goals as goal

pub differing-requires-clause-covered : goal.differing-requires-clause-covered
differing-requires-clause-covered c =
    let found = c.in-Ok.found in
    let are = c.in-Ok.ensures in
    covers c.args.map.now.standing.now c.args.map.now.net.now c.args.edit.now c.args.map.now.tree.now c.args.told.now c.args.others.now found.nodes.items found.classes.items
    c.requires.told (c.requires.told.edited are.before) are.takes are.moved (λ kind changes x event. are.takes.beside x (c.requires.ruled kind changes x event)) are.classes

pub tell-requires-clause-others : goal.tell-requires-clause-others
tell-requires-clause-others c =
    subst (λ (classes : List (List ℕ)). AreOthersApart c.args.map.now.standing.now c.args.map.now.net.now c.args.map.now.tree.now classes) (sym c.as_slice-2.ensures.value) c.in-Ok.ensures.classes

pub returns-in_err-size-clause-stops : goal.returns-in_err-size-clause-stops
returns-in_err-size-clause-stops c =
    let lists = c.args.map.now.standing.now in
    let nets = c.args.map.now.net.now in
    let edit = c.args.edit.now in
    let tree = c.args.map.now.tree.now in
    let rows = c.differing.new.rows.items in
    let made = c.in-Ok-differing.ensures.made edit (c.requires.told.edited c.in-Ok.ensures.before) in
    let p = err_from_is_err_and c.from_residual.result c.from_residual.ensures.1 in
    rw (p.1, p.2)
    (c.in_err-size.ensures.stops lists nets edit tree rows (subst (λ (ds : List Difference). AreDifferences lists nets edit tree rows ds) (sym c.as_slice.ensures.value) made) c.requires.view.counted)

pub returns-clause-view : goal.returns-clause-view
returns-clause-view c =
    let lists = c.args.map.now.standing.now in
    let nets = c.args.map.now.net.now in
    let edit = c.args.edit.now in
    let tree = c.args.map.now.tree.now in
    let rows = c.differing.new.rows.items in
    let made = c.in-Ok-differing.ensures.made edit (c.requires.told.edited c.in-Ok.ensures.before) in
    let sized = c.in_ok-size.ensures.size lists nets edit tree rows (subst (λ (ds : List Difference). AreDifferences lists nets edit tree rows ds) (sym c.as_slice.ensures.value) made) c.requires.view.counted in
    record {
      rows = made.after;
      broken = subst (λ (g : Found). AreFound (reports (built lists.present)) (after_review g c.in-Ok-tell.review)) (sym c.reserve.ensures.same) c.in-Ok-tell.ensures.review.after;
      counted = sized;
      small = subst (λ (n : ℕ). n ≤ most_size) sized c.in_ok-size.ensures.small;
    }
