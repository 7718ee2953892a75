use Rattle.std.proofs.Common.{◌≡◌, ◌∙◌, ◌&&◌, true, false, not, ap, sym, map}
use Rattle.tmm_model.specs.Answers.{report_of}
use Rattle.protections.specs.Reported.{is_reported}
use Rattle.protections.proofs.Turns.{reported-is}
use Rattle.protections.proofs.comparing.is_mended.Goals as goal

pub returns-then-is_reported : goal.returns-then-is_reported
returns-then-is_reported c =
    let name = c.args.name in
    let still = is_reported (map report_of c.args.after.now) name in
    let was : is_reported (map report_of c.args.before.now) name ≡ true = sym (reported-is c.args.before.now name) ∙ sym c.is_reported.ensures ∙ c.if-is_reported.true in
    ap not (c.is_reported-then-is_reported.ensures ∙ reported-is c.args.after.now name) ∙ ap (λ b. b && not still) (sym was)

pub returns-else-is_reported : goal.returns-else-is_reported
returns-else-is_reported c =
    let name = c.args.name in
    let still = is_reported (map report_of c.args.after.now) name in
    let was : is_reported (map report_of c.args.before.now) name ≡ false = sym (reported-is c.args.before.now name) ∙ sym c.is_reported.ensures ∙ c.if-is_reported.false in
    c.if-is_reported.false ∙ ap (λ b. b && not still) (sym was)
