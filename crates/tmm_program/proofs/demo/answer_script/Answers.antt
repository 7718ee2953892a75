use Rattle.std.proofs.Common.{◌∙◌, ◌+◌, ◌-◌, ◌<◌, ◌≤◌, List, ℕ, ap, subst, sym, length, arith}
use Rattle.std.proofs.lemmas.List.{length-take}
use Rattle.std.proofs.lemmas.Option.{slice_get_within}
use Rattle.tmm_model.specs.Generator.{script_of}
use Rattle.tmm_program.proofs.Counted.{HasRun, HasRun-none, HasRun-line, HasRun-room, none_left}
use Rattle.tmm_program.proofs.DemoRuns.{script-length}
use Rattle.tmm_program.proofs.demo.answer_script.Goals as goal

fewer_left : (len i : ℕ) → i < len → len - (i + 1) < len - i
fewer_left len i below = omega (arith, below)

one_more : (len i : ℕ) → i < len → i + 1 ≤ len
one_more len i below = omega (arith, below)

pub lines-init : goal.lines-init
lines-init g c = record {
  number = c.requires.first;
  idle = c.requires.idle;
  within = omega arith;
  told = HasRun-none _ _ c.new-counts.ensures;
}

pub count-requires : goal.count-requires
count-requires g c =
    HasRun-room _ _ _ _ c.lines.invariant.told (omega (arith, length-take c.lines.i (script_of c.args.n), script-length c.args.n c.requires.number))

pub overflow_add-i : goal.overflow_add-i
overflow_add-i g c = omega (arith, c.lines.invariant.within, script-length c.args.n c.requires.number)

pub lines-smaller-in-Some : goal.lines-smaller-in-Some
lines-smaller-in-Some g c = fewer_left (length (script_of c.args.n)) c.lines.i (slice_get_within (script_of c.args.n) c.lines.i c.in-Some.line.items (sym c.in-Some.ensures))

pub lines-preserved-in-Some : goal.lines-preserved-in-Some
lines-preserved-in-Some g c = record {
  number = c.tell-told.ensures.number ∙ ap (λ n. n + 1) c.lines.invariant.number;
  idle = c.tell-told.ensures.idle;
  within = one_more (length (script_of c.args.n)) c.lines.i (slice_get_within (script_of c.args.n) c.lines.i c.in-Some.line.items (sym c.in-Some.ensures));
  told = HasRun-line _ _ _ c.args.n c.lines.i _ _ _ _ _ _ (sym c.in-Some.ensures) c.lines.invariant.within c.lines.invariant.number c.as_slice.ensures.value c.count.ensures c.lines.invariant.told c.tell-told.ensures.tells;
}

pub lines-smaller : goal.lines-smaller
lines-smaller g c = fewer_left (length (script_of c.args.n)) c.lines.i (slice_get_within (script_of c.args.n) c.lines.i c.in-Some.line.items (sym c.in-Some.ensures))

pub lines-preserved : goal.lines-preserved
lines-preserved g c = record {
  number = c.tell-told.ensures.number ∙ ap (λ n. n + 1) c.lines.invariant.number;
  idle = c.tell-told.ensures.idle;
  within = one_more (length (script_of c.args.n)) c.lines.i (slice_get_within (script_of c.args.n) c.lines.i c.in-Some.line.items (sym c.in-Some.ensures));
  told = HasRun-line _ _ _ c.args.n c.lines.i _ _ _ _ _ _ (sym c.in-Some.ensures) c.lines.invariant.within c.lines.invariant.number c.as_slice.ensures.value c.count.ensures c.lines.invariant.told c.tell-told.ensures.tells;
}

pub returns : goal.returns
returns g c =
    let has = subst (λ (lines : List (List ℕ)). HasRun (g.M.MapCore.list c.args.session.now.core) lines c.lines.counts (g.M.MapCore.list c.lines.session.core))
    (none_left (script_of c.args.n) c.lines.i (sym c.in_default.ensures) c.lines.invariant.within) c.lines.invariant.told in
    (has.0, has.1, g.M.MapCore.list c.lines.session.core, has.2, has.3)
