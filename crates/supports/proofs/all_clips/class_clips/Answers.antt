use Rattle.std.proofs.Common.{◌≡◌, ◌∙◌, ◌-◌, ◌<◌, true, false, inl, inr, sym, ap, subst, length, arith}
use Rattle.std.proofs.lemmas.Bool.{cases_lt}
use Rattle.std.proofs.lemmas.List.{get_or_default, length-set}
use Rattle.std.proofs.lemmas.List.Elements.{All-set}
use Rattle.std.specs.Prelude.{Some, IfSome, slice_index_or}
use Rattle.tmm_model.specs.Tokens.{of_one_class}
use Rattle.occ_tree.specs.Places.{forest}
use Rattle.occ_tree.specs.Tokens.{numbers_in}
use Rattle.spots.specs.Forest.{IsLive}
use Rattle.supports.specs.Behind.{token_at, IsClip}
use Rattle.supports.specs.ClassClips.{AreClips}
use Rattle.supports.specs.Clips.{IsClipBy}
use Rattle.supports.proofs.ClassClips.{number_here, token_here}
use Rattle.supports.proofs.Falling.{set_on}
use Rattle.supports.proofs.all_clips.class_clips.Goals as goal

-- the node of the token at the place
pub clip-requires-clause-token : goal.clip-requires-clause-token
clip-requires-clause-token c =
    let rows = c.tokens-rows.result.now in
    let row = c.index-rows-i.result in
    let f = forest c.args.tree.now in
    let within : c.loop-i.i - 1 < length rows = omega (arith, c.loop-i-test.true, c.loop-i.invariant.within) in
    ap (token_at f) (sym (number_here rows (c.loop-i.i - 1) row within c.index-rows-i.is)) ∙ token_here f c.args.class.now rows c.tokens-rows.ensures.rows (c.loop-i.i - 1) row within ∙ ap Some (sym c.index-rows-i.is)

pub clip-requires-clause-own : goal.clip-requires-clause-own
clip-requires-clause-own c =
    let rows = c.tokens-rows.result.now in
    let within : c.loop-i.i - 1 < length rows = omega (arith, c.loop-i-test.true, c.loop-i.invariant.within) in
    subst (λ x. IsClipBy of_one_class c.args.standing.now.present c.args.net.now.present (forest c.args.tree.now) x c.in_ok-own.own) (number_here rows (c.loop-i.i - 1) c.index-rows-i.result within c.index-rows-i.is)
    (c.in_ok-own.ensures.clip c.args.standing.now.present)

pub loop-i-preserved-then-wanted-i : goal.loop-i-preserved-then-wanted-i
loop-i-preserved-then-wanted-i c =
    let rows = c.tokens-rows.result.now in
    let f = forest c.args.tree.now in
    let nodes = numbers_in rows in
    let within : c.loop-i.i - 1 < length rows = omega (arith, c.loop-i-test.true, c.loop-i.invariant.within) in
    let found = c.clip.result in
    let clip : IsClip c.args.standing.now.present c.args.net.now.present f (slice_index_or nodes (c.loop-i.i - 1) 0) found =
    subst (λ x. IsClip c.args.standing.now.present c.args.net.now.present f x found) (sym (number_here rows (c.loop-i.i - 1) c.index-rows-i.result within c.index-rows-i.is)) c.clip.ensures.clip in record {
      within = omega (arith, within);
      count = length-set c.loop-i.clips.items (c.loop-i.i - 1) found ∙ c.loop-i.invariant.count;
      live = All-set (λ found. IfSome found (IsLive f)) c.loop-i.clips.items (c.loop-i.i - 1) found c.clip.ensures.live c.loop-i.invariant.live;
      clip = set_on (λ j found. slice_index_or c.args.wanted.now j false ≡ true → IsClip c.args.standing.now.present c.args.net.now.present f (slice_index_or nodes j 0) found) c.loop-i.clips.items (length rows) c.loop-i.i (c.loop-i.i - 1) found
          c.loop-i.invariant.count (omega (arith, c.loop-i-test.true)) within (λ _. clip) c.loop-i.invariant.clip;
      passed = c.in_ok-own.ensures.passed;
      branches = c.in_ok-own.ensures.branches;
    }

pub loop-i-preserved : goal.loop-i-preserved
loop-i-preserved c =
    let rows = c.tokens-rows.result.now in
    let within : c.loop-i.i - 1 < length rows = omega (arith, c.loop-i-test.true, c.loop-i.invariant.within) in
    let in_wanted : c.loop-i.i - 1 < length c.args.wanted.now = omega (arith, within, ap length c.tokens-rows.ensures.list, c.requires.long) in
    let out : slice_index_or c.args.wanted.now (c.loop-i.i - 1) false ≡ false = get_or_default c.args.wanted.now (c.loop-i.i - 1) false _ in_wanted ∙ c.if-wanted-i.false in record {
      within = omega (arith, within);
      count = c.loop-i.invariant.count;
      live = c.loop-i.invariant.live;
      clip = λ j d from lt asked. elim (cases_lt j c.loop-i.i) [
        | inl less ↦
            let here : c.loop-i.i - 1 ≡ j = omega (arith, from, less) in
            let no : true ≡ false = sym asked ∙ subst (λ n. slice_index_or c.args.wanted.now n false ≡ false) here out in
            absurd (cc no)
        | inr more ↦ c.loop-i.invariant.clip j d more lt asked
      ];
      passed = c.loop-i.invariant.passed;
      branches = c.loop-i.invariant.branches;
    }

pub returns-clause-each : goal.returns-clause-each
returns-clause-each c =
    subst (λ rows. AreClips c.args.standing.now.present c.args.net.now.present (forest c.args.tree.now) rows c.args.wanted.now c.loop-i.clips.items) c.tokens-rows.ensures.list
    (record {
      count = c.loop-i.invariant.count;
      each = λ j d lt. c.loop-i.invariant.clip j d (omega (arith, c.loop-i-test.false)) lt;
    })
