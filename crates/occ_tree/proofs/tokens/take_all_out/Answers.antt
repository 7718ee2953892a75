use Rattle.std.proofs.Common.{◌≡◌, ◌+◌, ◌-◌, ◌<◌, ◌∙◌, drop, length, refl, sym, subst, arith}
use Rattle.std.proofs.Math.Seq.{drop-length}
use Rattle.undo_lists.specs.Changes.{present}
use Rattle.occ_tree.specs.Standing.{nodes_in, present_rows}
use Rattle.occ_tree.specs.Tokens.{AreTokensBut, HaveRoomFor}
use Rattle.occ_tree.proofs.InTurn.{item_on, drop_at, new_at}
use Rattle.occ_tree.proofs.tokens.take_all_out.Goals as goal

pub loop-i-init : goal.loop-i-init
loop-i-init c =
    let node = nodes_in (present_rows c.args.nodes.now) in
    let numbers = c.args.numbers.now in
    record {
      within = omega arith;
      tokens = subst (AreTokensBut node (present c.args.tokens.now)) (sym (drop-length numbers)) c.requires.tokens;
      room = subst (HaveRoomFor node c.args.tokens.now) (sym (drop-length numbers)) (λ k some. absurd (omega (arith, some)));
      committed = refl;
      spare = omega arith;
    }

pub take_out-requires-clause-live : goal.take_out-requires-clause-live
take_out-requires-clause-live c =
    let within : c.loop-i.i - 1 < length c.args.numbers.now = omega (arith, c.loop-i-test.true, c.loop-i.invariant.within) in
    c.requires.live _ (item_on c.args.numbers.now (c.loop-i.i - 1) _ within)

pub take_out-requires-clause-tokens : goal.take_out-requires-clause-tokens
take_out-requires-clause-tokens c =
    let node = nodes_in (present_rows c.args.nodes.now) in
    let numbers = c.args.numbers.now in
    let i = c.loop-i.i - 1 in
    let within : i < length numbers = omega (arith, c.loop-i-test.true, c.loop-i.invariant.within) in
    let next : c.loop-i.i ≡ i + 1 = omega (arith, c.loop-i-test.true) in
    (drop (i + 1) numbers, new_at numbers i _ c.requires.once within, subst (λ n. AreTokensBut node (present c.loop-i.tokens) (drop n numbers)) next c.loop-i.invariant.tokens)

pub loop-i-preserved : goal.loop-i-preserved
loop-i-preserved c =
    let node = nodes_in (present_rows c.args.nodes.now) in
    let numbers = c.args.numbers.now in
    let i = c.loop-i.i - 1 in
    let inv = c.loop-i.invariant in
    let e = c.take_out.ensures in
    let within : i < length numbers = omega (arith, c.loop-i-test.true, inv.within) in
    let next : c.loop-i.i ≡ i + 1 = omega (arith, c.loop-i-test.true) in
    let parts = drop_at numbers i _ within in
    record {
      within = omega (arith, inv.within);
      tokens = subst (AreTokensBut node (present c.take_out.new.tokens)) (sym parts) (e.tokens (drop (i + 1) numbers) (new_at numbers i _ c.requires.once within) (subst (λ n. AreTokensBut node (present c.loop-i.tokens) (drop n numbers)) next inv.tokens));
      room = subst (HaveRoomFor node c.take_out.new.tokens) (sym parts) (e.room (drop (i + 1) numbers) (subst (λ n. HaveRoomFor node c.loop-i.tokens (drop n numbers)) next inv.room));
      committed = e.committed ∙ inv.committed;
      spare = let a = e.spare in let b = inv.spare in omega (arith, a, b, next);
    }

pub returns-clause-tokens : goal.returns-clause-tokens
returns-clause-tokens c =
    let none : c.loop-i.i ≡ 0 = omega (arith, c.loop-i-test.false) in
    subst (λ n. AreTokensBut (nodes_in (present_rows c.args.nodes.now)) (present c.loop-i.tokens) (drop n c.args.numbers.now)) none c.loop-i.invariant.tokens

pub returns-clause-room : goal.returns-clause-room
returns-clause-room c =
    let none : c.loop-i.i ≡ 0 = omega (arith, c.loop-i-test.false) in
    subst (λ n. HaveRoomFor (nodes_in (present_rows c.args.nodes.now)) c.loop-i.tokens (drop n c.args.numbers.now)) none c.loop-i.invariant.room
