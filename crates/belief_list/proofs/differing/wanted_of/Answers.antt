use Rattle.std.proofs.Common.{◌≡◌, ℕ, ◌+◌, ◌-◌, ◌<◌, true, false, List, length, sym, ◌∙◌, ap, subst, arith}
use Rattle.std.proofs.lemmas.List.{length-map, length-set, length-replicate, get_or_default}
use Rattle.std.specs.Prelude.{Some, slice_index_or}
use Rattle.tmm_model.specs.declared.token.TokenRow.{TokenRow}
use Rattle.spots.specs.declared.spot.Spot.{Spot}
use Rattle.occ_tree.specs.Places.{forest}
use Rattle.occ_tree.specs.Standing.{present, early}
use Rattle.occ_tree.specs.Tokens.{number_of, numbers_in}
use Rattle.supports.proofs.Falling.{set_on}
use Rattle.supports.proofs.TokenRows.{no_row}
use Rattle.belief_list.specs.KeptRows.{row_under}
use Rattle.belief_list.specs.Told.{clip_of}
use Rattle.belief_list.specs.Finding.{mark_under, IsAhead, IsPastRivals, KeepsClip}
use Rattle.belief_list.proofs.Finding.{token_live, number_at}
use Rattle.belief_list.proofs.Wanted.{IsNext, IsPassed, IsRowPast, next_more, dates_rise, passed_keeps}
use Rattle.belief_list.proofs.differing.wanted_of.Goals as goal

pub loop-i-init : goal.loop-i-init
loop-i-init c = record {
  long = ap length (c.in_ok-wanted.ensures.items_if_clones_equal (λ y same. same)) ∙ length-replicate (length c.tokens-rows.result.now) true;
  next = λ j from lt. absurd (omega (arith, from, lt, length-map c.tokens-rows.result.now (λ (r : TokenRow Spot). number_of r.spot)));
  passed = λ j d from lt. absurd (omega (arith, from, lt));
}

pub is_wanted-requires : goal.is_wanted-requires
is_wanted-requires c =
    let within : c.loop-i.i - 1 < length c.tokens-rows.result.now = omega arith in
    record {
      plain = c.says_none-plain.ensures;
      live = token_live (forest c.args.tree.now) c.args.class.now c.tokens-rows.result.now c.tokens-rows.ensures.rows (c.loop-i.i - 1) c.index-rows-i.result within (number_of c.index-rows-i.result.spot)
          (ap (λ (r : TokenRow Spot). number_of r.spot) c.index-rows-i.is);
      rising = c.requires.rising;
    }

pub loop-i-preserved : goal.loop-i-preserved
loop-i-preserved c =
    let k = c.args.tree.now in
    let rows = c.tokens-rows.result.now in
    let xs = numbers_in rows in
    let are = c.tokens-rows.ensures.rows in
    let (net, tree) = c.requires.dates in
    let i = c.loop-i.i - 1 in
    let at : i + 1 ≡ c.loop-i.i = omega arith in
    let within : i < length rows = omega arith in
    let touched = c.args.touched.now in
    let marks = touched.marks.items in
    let kept = c.args.kept.now in
    let date = early (present k) in
    let old = c.loop-i.next in
    let new = c.is_wanted.new.next in
    let wanted = c.is_wanted.result in
    let lists = c.args.standing.now in
    let row = c.index-rows-i.result in
    let number : number_of row.spot ≡ slice_index_or xs i 0 = ap (λ (r : TokenRow Spot). number_of r.spot) c.index-rows-i.is ∙ number_at (forest k) c.args.class.now rows are i row within in
    let fact : row.fact ≡ (slice_index_or rows i no_row).fact = ap (λ (r : TokenRow Spot). r.fact) (c.index-rows-i.is ∙ get_or_default rows i row no_row within) in
    let behind : IsNext date marks xs (i + 1) old = subst (λ n. IsNext date marks xs n old) (sym at) c.loop-i.invariant.next in
    record {
      long = length-set c.loop-i.wanted.items i wanted ∙ c.loop-i.invariant.long;
      next = next_more date marks xs (dates_rise tree are c.tokens-rows.ensures.in_order) i old new behind
          (subst (λ x. mark_under marks x ≡ true → new ≡ Some (date x)) number c.is_wanted.ensures.touched)
          (subst (λ x. mark_under marks x ≡ false → new ≡ old) number c.is_wanted.ensures.untouched);
      passed = set_on (λ j b. b ≡ false → IsPassed date marks xs kept j × IsRowPast lists k touched kept rows j) c.loop-i.wanted.items (length rows) c.loop-i.i i wanted c.loop-i.invariant.long at within
          (λ passed.
          (let (free, ahead) = subst (λ x. (mark_under marks x ≡ false) × IsAhead kept marks (clip_of (row_under kept x)) old) number (c.is_wanted.ensures.kept passed) in
          let past = subst (λ x. IsPastRivals lists kept touched row.fact (clip_of (row_under kept x)) (date x)) number (c.is_wanted.ensures.rivals passed) in
          ((free, old, ahead, behind), subst (λ f. IsPastRivals lists kept touched f (clip_of (row_under kept (slice_index_or xs i 0))) (date (slice_index_or xs i 0))) fact past)))
          c.loop-i.invariant.passed;
    }

pub returns-clause-long : goal.returns-clause-long
returns-clause-long c = c.loop-i.invariant.long ∙ ap length c.tokens-rows.ensures.list

pub returns-clause-others : goal.returns-clause-others
returns-clause-others c = λ nodes by_edit.
    let lists = c.args.standing.now in
    let k = c.args.tree.now in
    let kept = c.args.kept.now in
    let (net, tree) = c.requires.dates in
    subst (λ (l : List (TokenRow Spot)). (i : ℕ) → i < length l → slice_index_or c.loop-i.wanted.items i true ≡ false → KeepsClip lists k nodes kept c.args.class.now (slice_index_or (numbers_in l) i 0))
    c.tokens-rows.ensures.list
    (λ i lt passed.
    (let (own, past) = c.loop-i.invariant.passed i true (omega (arith, c.loop-i-test.false)) lt passed in
    passed_keeps tree c.tokens-rows.ensures.rows c.tokens-rows.ensures.in_order lists c.args.touched.now nodes by_edit kept i lt own past))
