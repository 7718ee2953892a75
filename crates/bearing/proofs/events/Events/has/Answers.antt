use Rattle.std.proofs.Common.{◌≡◌, ◌∙◌, true, false, ◌&&◌, ◌||◌, sym, ap}
use Rattle.occ_tree.specs.Places.{forest}
use Rattle.occ_tree.specs.Standing.{present}
use Rattle.bearing.specs.Events.{is_number, is_event_of}
use Rattle.bearing.specs.PointSets.{is_in}
use Rattle.bearing.proofs.Placed.{row_base, row_high}
use Rattle.bearing.proofs.events.Events.has.Goals as goal

pub returns-then-is_in : goal.returns-then-is_in
returns-then-is_in c =
    let base = row_base (forest c.args.tree.now) c.args.x c.row-row.result c.requires c.row-row.ensures in
    let high = row_high (forest c.args.tree.now) c.args.x c.row-row.result c.requires c.row-row.ensures in
    let all = c.in-BeginAt.all.items in
    let bounded = c.in-BeginAt.bounded.items in
    let first : is_in all c.row-row.result.begin ≡ true = ap (λ l. is_in l c.row-row.result.begin) (sym c.deref.ensures.value) ∙ sym c.is_in.ensures ∙ c.if-is_in.true in
    c.if-is_in.true
    ∙ sym (ap (λ e. is_event_of e (present c.args.tree.now) c.args.x) c.in-BeginAt.is
    ∙ (λ i. is_in all (base i) || (is_number (high i) && is_in bounded (base i)))
    ∙ (λ i. first i || (is_number c.row-row.result.high && is_in bounded c.row-row.result.begin)))

pub returns-then-is_number : goal.returns-then-is_number
returns-then-is_number c =
    let base = row_base (forest c.args.tree.now) c.args.x c.row-row.result c.requires c.row-row.ensures in
    let high = row_high (forest c.args.tree.now) c.args.x c.row-row.result c.requires c.row-row.ensures in
    let all = c.in-BeginAt.all.items in
    let bounded = c.in-BeginAt.bounded.items in
    let first : is_in all c.row-row.result.begin ≡ false = ap (λ l. is_in l c.row-row.result.begin) (sym c.deref.ensures.value) ∙ sym c.is_in.ensures ∙ c.if-is_in.false in
    let number : is_number c.row-row.result.high ≡ true = sym c.is_number.ensures ∙ c.if-is_number.true in
    let second : is_in bounded c.row-row.result.begin ≡ c.is_in-then-is_number.result = ap (λ l. is_in l c.row-row.result.begin) (sym c.deref-then-is_number.ensures.value) ∙ sym c.is_in-then-is_number.ensures in
    sym (ap (λ e. is_event_of e (present c.args.tree.now) c.args.x) c.in-BeginAt.is
    ∙ (λ i. is_in all (base i) || (is_number (high i) && is_in bounded (base i)))
    ∙ (λ i. first i || (number i && second i)))

pub returns-else-is_number : goal.returns-else-is_number
returns-else-is_number c =
    let base = row_base (forest c.args.tree.now) c.args.x c.row-row.result c.requires c.row-row.ensures in
    let high = row_high (forest c.args.tree.now) c.args.x c.row-row.result c.requires c.row-row.ensures in
    let all = c.in-BeginAt.all.items in
    let bounded = c.in-BeginAt.bounded.items in
    let first : is_in all c.row-row.result.begin ≡ false = ap (λ l. is_in l c.row-row.result.begin) (sym c.deref.ensures.value) ∙ sym c.is_in.ensures ∙ c.if-is_in.false in
    let number : is_number c.row-row.result.high ≡ false = sym c.is_number.ensures ∙ c.if-is_number.false in
    c.if-is_number.false
    ∙ sym (ap (λ e. is_event_of e (present c.args.tree.now) c.args.x) c.in-BeginAt.is
    ∙ (λ i. is_in all (base i) || (is_number (high i) && is_in bounded (base i)))
    ∙ (λ i. first i || (number i && is_in bounded c.row-row.result.begin)))
