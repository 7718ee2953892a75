use Rattle.std.proofs.Common.{◌≡◌, ◌∙◌, ◌≤◌, ℕ, sym, ap, subst, arith}
use Rattle.tmm_model.specs.Answers.{size, most_size}
use Rattle.tmm_model.specs.Maps.{built}
use Rattle.protections.specs.Reported.{Reports, report_in}
use Rattle.map_engine.proofs.Reading.{no_rows, no_size}
use Rattle.map_engine.proofs.Unmoved.{none_reported}
use Rattle.map_engine.proofs.kept_view.first_view.Goals as goal

pub returns : goal.returns
returns c = λ s f holds none unguarded.
    let sized : 0 ≡ size (built s) = sym (no_size s f holds none) in
    let least : 0 ≤ most_size = omega arith in
    record {
      rows = no_rows s f c.new.result.items none c.new.ensures.items;
      broken = λ name. c.make.ensures name ∙ ap (λ (rs : Reports). report_in rs name) (sym (none_reported s unguarded));
      counted = sized;
      small = subst (λ (n : ℕ). n ≤ most_size) sized least;
    }
