use Rattle.std.proofs.Common.{◌≡◌, ◌∙◌, List, ap, sym, subst}
use Rattle.std.specs.Prelude.{◌<◌, length}
use Rattle.std.specs.List.{All}
use Rattle.belief_list.specs.declared.kept_rows.Difference.{Difference}
use Rattle.belief_list.specs.KeptRows.{rows_after}
use Rattle.protections.specs.Found.{found_in, after_review}
use Rattle.map_engine.specs.Reads.{read_of}
use Rattle.map_engine.proofs.next.take_over_all.Goals as goal

pub take_over-requires : goal.take_over-requires
take_over-requires c =
    record { places = subst (λ (ds : List Difference). All (λ d. d.node < length c.args.view.now.rows.items) ds) (sym c.as_slice.ensures.value) c.requires.places }

pub returns : goal.returns
returns c =
    let view = c.args.view.now in
    let made = c.args.made in
    let broken = after_review (found_in view.broken) made.review in
    let taken : read_of (record view { size = made.size; rows = c.take_over.new.rows; broken = c.take_over-2.new.self }) ≡ record { size = made.size; rows = rows_after view.rows.items c.as_slice.result.now; broken = broken } =
    λ i. record { size = made.size; rows = λ x. c.take_over.ensures.rows x i; broken = c.take_over-2.ensures i } in
    taken ∙ ap (λ (ds : List Difference). record { size = made.size; rows = rows_after view.rows.items ds; broken = broken }) c.as_slice.ensures.value
