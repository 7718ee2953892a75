use Rattle.std.proofs.Common.{ℕ, List, Option, Some, ap, subst, refl}
use Rattle.tmm_model.specs.declared.bound.Bound.{Bound}
use Rattle.dist_repair.specs.Rows.{row_of}
use Rattle.dist_repair.proofs.Columns.{of_equal}
use Rattle.dist_repair.proofs.Left.{IsNet}
use Rattle.dist_repair.proofs.Looking.{IsLooking, IsLooking-more, IsLooking-skip, IsDoneAt-looked}
use Rattle.dist_repair.proofs.look_to.Goals as goal
use Rattle.dist_repair.proofs.look_to.Goals.{then-i-place+else-not-look_at, else-i-place}

pub places-preserved : goal.places-preserved
places-preserved c =
    let known : IsNet c.args.net.now.present = record { places = c.invariants.ensures.names; used = c.invariants.ensures.in_use; light = c.invariants.ensures.light; dates = c.invariants.ensures.dates } in
    let before : List ℕ = c.args.again.now.items in
    let old : ℕ → Bound = row_of c.args.row.now in
    let is : IsLooking c.args.net.now.present c.args.place c.args.a c.args.point c.args.ends.now old before (Some c.in-Some.i) (row_of c.places.row) c.places.again.items =
    subst (λ (o : Option ℕ). IsLooking c.args.net.now.present c.args.place c.args.a c.args.point c.args.ends.now old before o (row_of c.places.row) c.places.again.items) c.in-Some.is c.places.invariant in
    let P : List ℕ → List Bound → Type 0 = λ l n. IsLooking c.args.net.now.present c.args.place c.args.a c.args.point c.args.ends.now old before c.before-at.result (row_of n) l in
    elim c.if-i-place.branch [
      | then-i-place+else-not-look_at w ↦ of_equal P (ap (λ t. t.items) w.again-is) w.row-is
          (IsLooking-more c.args.net.now.present c.args.place c.args.a c.args.point c.args.ends.now old before c.requires.ends (row_of c.places.row) c.places.again.items c.in-Some.i is c.before-at.result c.before-at.ensures
          (row_of w.look_at.new.row) w.look_at.new.again.items known w.look_at.ensures.looked (w.if-not-look_at.ensures.done refl))
      | else-i-place w ↦ of_equal P (ap (λ t. t.items) w.again-is) w.row-is
          (IsLooking-skip c.args.net.now.present c.args.place c.args.a c.args.point c.args.ends.now old before c.requires.ends (row_of c.places.row) c.places.again.items c.in-Some.i is c.before-at.result c.before-at.ensures w.if-i-place.false)
    ]

pub returns-clause-done : goal.returns-clause-done
returns-clause-done c answer =
    IsDoneAt-looked c.args.net.now.present c.args.place c.args.a c.args.point c.args.ends.now (row_of c.args.row.now) (row_of c.places.row) c.args.again.now.items c.places.again.items c.places.at c.in_default.not-Some c.places.invariant
