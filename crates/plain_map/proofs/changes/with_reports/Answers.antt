use Rattle.std.proofs.Common.{◌∙◌, ap, refl}
use Rattle.tmm_model.specs.Changes.{delta_of}
use Rattle.tmm_model.specs.Maps.{built}
use Rattle.belief_list.proofs.WholeChanges.{told}
use Rattle.plain_map.proofs.changes.with_reports.Goals as goal

pub returns : goal.returns
returns c = λ list old new between left_out.
    let reported = c.in_ok-broken.ensures.delta (built list) (built c.args.standing.now.present) old new refl in
    ap delta_of c.with_protections.ensures
    ∙ told list c.args.standing.now.present
    (record {
      erased = c.args.erased;
      left = c.args.believed.left;
      entered = c.args.believed.entered;
      loose = c.args.believed.loose;
      clips = c.args.believed.clips;
      broken = c.in_ok-broken.broken;
      mended = c.in_ok-broken.mended;
    })
    left_out between.left between.entered between.loose between.clips reported.0 reported.1
