use Rattle.std.proofs.Common.{sym, subst, refl}
use Rattle.std.specs.Prelude.{IsTrue}
use Rattle.std.specs.List.{All}
use Rattle.spots.specs.Forest.{IsLive}
use Rattle.just_check.specs.Audited.{rows_of, ComesAfter}
use Rattle.just_check.specs.Checking.{EntersAs}
use Rattle.just_check.specs.Origins.{comes_from}
use Rattle.just_check.specs.declared.auditing.Checked.{Checked}
use Rattle.just_check.proofs.Deciding.{live_in, awaited_joins, joins_awaited, enters_behind}
use Rattle.just_check.proofs.Entering.{new_seen, new_live, kept_live, last_behind, behind_last}
use Rattle.occ_tree.specs.Places.{forest}
use Rattle.just_check.proofs.auditing.enter_awaited.Goals as goal

pub returns-then-not-awaits : goal.returns-then-not-awaits
returns-then-not-awaits c joins behind =
    let t : IsTrue c.awaits.result = c.awaits.ensures.1 (joins_awaited c.args.standing.now.present c.args.net.now.present c.args.checked.now c.args.origin.now c.requires joins) in
    cc

pub enter-requires-clause-joins : goal.enter-requires-clause-joins
enter-requires-clause-joins c = (
  rows_of c.args.checked.now,
  c.requires.taken.so_far,
  awaited_joins c.args.standing.now.present c.args.net.now.present c.args.checked.now c.args.origin.now c.requires (c.awaits.ensures.0 c.if-not-awaits.false),
)

pub comes_after-requires-clause-dates : goal.comes_after-requires-clause-dates
comes_after-requires-clause-dates c =
    let s = c.args.standing.now.present in
    let net = c.args.net.now.present in
    let old = c.args.checked.now in
    let o = c.args.origin.now in
    let b = rows_of old in
    let k = comes_from (forest old.tree) o in
    let new = forest c.enter.new.tree in
    let so_far = c.requires.taken.so_far in
    let joins = awaited_joins s net old o c.requires (c.awaits.ensures.0 c.if-not-awaits.false) in
    let adds = subst (EntersAs s net.names b k (forest old.tree) new) c.in-Some.is (c.in_ok-x.ensures.enters b so_far) in
    record { list = (s, new_seen s net (forest old.tree) b so_far k new c.in-Some.x adds joins); dated = c.in_ok-x.ensures.dated c.requires.taken.dated }

pub returns-then-not-comes_after : goal.returns-then-not-comes_after
returns-then-not-comes_after c joined behind =
    let s = c.args.standing.now.present in
    let net = c.args.net.now.present in
    let old = c.args.checked.now in
    let o = c.args.origin.now in
    let b = rows_of old in
    let k = comes_from (forest old.tree) o in
    let new = forest c.enter.new.tree in
    let x = c.in-Some.x in
    let so_far = c.requires.taken.so_far in
    let adds = subst (EntersAs s net.names b k (forest old.tree) new) c.in-Some.is (c.in_ok-x.ensures.enters b so_far) in
    let after = last_behind s net (forest old.tree) b so_far k new x adds joined old.nodes.items (live_in s net old c.requires.taken) refl behind in
    let t : IsTrue c.comes_after.result = c.comes_after.ensures.1 (subst (λ ns. ComesAfter net new ns x) (sym c.as_slice.ensures.value) after) in
    cc

pub returns : goal.returns
returns c =
    let s = c.args.standing.now.present in
    let net = c.args.net.now.present in
    let old = c.args.checked.now in
    let o = c.args.origin.now in
    let b = rows_of old in
    let k = comes_from (forest old.tree) o in
    let new = forest c.enter.new.tree in
    let x = c.in-Some.x in
    let so_far = c.requires.taken.so_far in
    let awaited = c.awaits.ensures.0 c.if-not-awaits.false in
    let joins = awaited_joins s net old o c.requires awaited in
    let adds = subst (EntersAs s net.names b k (forest old.tree) new) c.in-Some.is (c.in_ok-x.ensures.enters b so_far) in
    let after = subst (λ ns. ComesAfter net new ns x) c.as_slice.ensures.value (c.comes_after.ensures.0 c.if-not-comes_after.false) in
    let behind = behind_last s net (forest old.tree) b so_far k new x adds joins old.nodes.items (live_in s net old c.requires.taken) refl after in
    let more : Checked = record { tree = c.enter.new.tree; nodes = c.push.new.numbers; decided = old.decided; expected = c.set.new.self } in
    enters_behind s net old o c.requires awaited new x adds behind more refl (c.in_ok-x.ensures.dated c.requires.taken.dated) c.in_ok-push.ensures refl c.set.ensures

pub returns-in_default : goal.returns-in_default
returns-in_default c joins behind =
    let s = c.args.standing.now.present in
    let old = c.args.checked.now in
    let b = rows_of old in
    let refused = subst (EntersAs s c.args.net.now.present.names b (comes_from (forest old.tree) c.args.origin.now) (forest old.tree) (forest c.enter.new.tree)) c.in_default.is (c.in_ok-x.ensures.enters b c.requires.taken.so_far) in
    refused joins

pub comes_after-requires-clause-nodes : goal.comes_after-requires-clause-nodes
comes_after-requires-clause-nodes c =
    let s = c.args.standing.now.present in
    let net = c.args.net.now.present in
    let old = c.args.checked.now in
    let o = c.args.origin.now in
    let b = rows_of old in
    let k = comes_from (forest old.tree) o in
    let new = forest c.enter.new.tree in
    let so_far = c.requires.taken.so_far in
    let joins = awaited_joins s net old o c.requires (c.awaits.ensures.0 c.if-not-awaits.false) in
    let adds = subst (EntersAs s net.names b k (forest old.tree) new) c.in-Some.is (c.in_ok-x.ensures.enters b so_far) in
    subst (All (IsLive new)) (sym c.as_slice.ensures.value)
    (kept_live s net (forest old.tree) b so_far k new c.in-Some.x adds joins old.nodes.items (live_in s net old c.requires.taken) refl)

pub comes_after-requires-clause-live : goal.comes_after-requires-clause-live
comes_after-requires-clause-live c =
    let s = c.args.standing.now.present in
    let net = c.args.net.now.present in
    let old = c.args.checked.now in
    let o = c.args.origin.now in
    let b = rows_of old in
    let k = comes_from (forest old.tree) o in
    let new = forest c.enter.new.tree in
    let so_far = c.requires.taken.so_far in
    let joins = awaited_joins s net old o c.requires (c.awaits.ensures.0 c.if-not-awaits.false) in
    let adds = subst (EntersAs s net.names b k (forest old.tree) new) c.in-Some.is (c.in_ok-x.ensures.enters b so_far) in
    new_live s net (forest old.tree) b so_far k new c.in-Some.x adds joins
