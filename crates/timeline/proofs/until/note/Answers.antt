use Rattle.std.proofs.Common.{◌≡◌, ◌∙◌, ◌<◌, length, List, slice_index_or, sym, ap, subst, rules, w64}
use Rattle.std.specs.Int.{int_min}
use Rattle.std.proofs.lemmas.Int.{to_z-of_z}
use Rattle.std.specs.Prelude.{FitsSigned}
use Rattle.timeline.specs.declared.until.Coming.{Coming}
use Rattle.timeline.proofs.Leasts.{least_by-noted, least_by-first}
use Rattle.timeline.proofs.until.note.Goals as goal

pub returns-in-Some : goal.returns-in-Some
returns-in-Some c q =
    let fits : FitsSigned w64 c.args.date = search rules in
    let below : c.in-Some.place < length c.args.coming.now.items = subst (λ (l : List Coming). c.in-Some.place < length l) c.as_slice.ensures.value c.in-Some.ensures.within in
    let same : c.index.result.now.held ≡ c.args.held.now =
    ap (λ (x : Coming). x.held) (c.index.ensures ∙ (λ i. slice_index_or (sym c.as_slice.ensures.value i) c.in-Some.place c.index.result.now)) ∙ c.in-Some.ensures.is c.index.result.now in
    least_by-noted q c.args.coming.now.items c.in-Some.place c.index.result.now c.args.held.now c.args.date c.noted.result below c.index.ensures same c.noted.ensures.held (c.noted.ensures.date ∙ ap (int_min c.index.result.now.date) (to_z-of_z w64 c.args.date fits))

pub returns-in_ok-push-in-None : goal.returns-in_ok-push-in-None
returns-in_ok-push-in-None c q =
    let fits : FitsSigned w64 c.args.date = search rules in
    least_by-first q c.args.coming.now.items c.args.held.now c.args.date c.first_of.result c.push.new.self.items c.in_ok-push-in-None.ensures.items c.first_of.ensures.held (c.first_of.ensures.date ∙ to_z-of_z w64 c.args.date fits)
