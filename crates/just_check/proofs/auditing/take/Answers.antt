use Rattle.std.proofs.Common.{◌≡◌, ◌∙◌, ◌++◌, ◌∷◌, [], sym, ap, subst}
use Rattle.tmm_model.specs.Moments.{moment_of}
use Rattle.just_check.specs.Audited.{rows_of, IsBehind, EntersBehind}
use Rattle.just_check.specs.Checking.{Joins}
use Rattle.just_check.specs.Origins.{IsOriginOf, comes_from}
use Rattle.just_check.proofs.Deciding.{same_rows}
use Rattle.just_check.proofs.Joining.{no_event}
use Rattle.occ_tree.specs.Places.{forest}
use Rattle.just_check.proofs.auditing.take.Goals as goal

pub returns-in_default : goal.returns-in_default
returns-in_default c joins behind =
    let old = c.args.checked.now in
    let b = rows_of old in
    let k = moment_of c.args.row.now in
    let (t, r, is, absent) = subst (IsOriginOf (forest old.tree) b k) c.in_default.is (c.origin_of.ensures (forest old.tree) b c.requires.before.taken.expects.knows) in
    no_event c.args.standing.now.present b k t r is absent joins

pub returns-in_default-2 : goal.returns-in_default-2
returns-in_default-2 c joins behind =
    let s = c.args.standing.now.present in
    let net = c.args.net.now.present in
    let old = c.args.checked.now in
    let mid = c.decide_event.new.checked in
    let k = moment_of c.args.row.now in
    let o = c.in-Some.origin in
    let decided = c.in_ok-decide_event.ensures in
    let (event, of_row) = subst (IsOriginOf (forest old.tree) (rows_of old) k) c.in-Some.is (c.origin_of.ensures (forest old.tree) (rows_of old) c.requires.before.taken.expects.knows) in
    let rows : rows_of mid ≡ rows_of old = same_rows mid old (ap forest decided.tree) decided.nodes in
    let is : comes_from (forest mid.tree) o ≡ k = ap (λ f. comes_from f o) (ap forest decided.tree) ∙ of_row in
    let refused = subst (EntersBehind s net mid c.enter_awaited.new.checked (comes_from (forest mid.tree) o)) c.in_default-2.is c.in_ok-x.ensures in
    refused
    (subst (Joins s (rows_of mid)) (sym is) (subst (λ b. Joins s b k) (sym rows) joins))
    (subst (IsBehind s (rows_of mid)) (sym is) (subst (λ b. IsBehind s b k) (sym rows) behind))

pub returns : goal.returns
returns c =
    let s = c.args.standing.now.present in
    let net = c.args.net.now.present in
    let old = c.args.checked.now in
    let mid = c.decide_event.new.checked in
    let k = moment_of c.args.row.now in
    let o = c.in-Some.origin in
    let decided = c.in_ok-decide_event.ensures in
    let (event, of_row) = subst (IsOriginOf (forest old.tree) (rows_of old) k) c.in-Some.is (c.origin_of.ensures (forest old.tree) (rows_of old) c.requires.before.taken.expects.knows) in
    let rows : rows_of mid ≡ rows_of old = same_rows mid old (ap forest decided.tree) decided.nodes in
    let is : comes_from (forest mid.tree) o ≡ k = ap (λ f. comes_from f o) (ap forest decided.tree) ∙ of_row in
    let entered = subst (EntersBehind s net mid c.enter_awaited.new.checked (comes_from (forest mid.tree) o)) c.in-Some-2.is c.in_ok-x.ensures in
    let before = c.in_ok-decide_before.ensures in
    (before.checked, before.rows ∙ entered.1 ∙ (λ i. rows i ++ is i ∷ []))
