use Rattle.std.proofs.Common.{◌≡◌, ◌+◌, ◌-◌, ◌≤◌, ◌++◌, map, length, take, drop, ap, subst, sym, ◌∙◌, arith}
use Rattle.std.proofs.lemmas.List.{length-append}
use Rattle.tmm_model.specs.Verdicts.{most_premises, words_known}
use Rattle.list_theory.specs.WellNamed.{IsWellNamed}
use Rattle.premise_list.specs.Past.{committed_from, restored, taken_premise, without}
use Rattle.premise_list.specs.Rivalries.{rivalries}
use Rattle.premise_list.proofs.TableFacts.{rest_of}
use Rattle.premise_list.proofs.PairsOfFacts.{rivalries_cut, rivalry_counts}
use Rattle.premise_list.proofs.Moves.{length-restored}
use Rattle.premise_list.proofs.Erased.{pairs_still, rivalries_without, well_named_still}
use Rattle.premise_list.proofs.standing.Standing.erase.Goals as goal

pub words_owed-owed-requires : goal.words_owed-owed-requires
words_owed-owed-requires c =
    let past = c.self.inside.past in
    let all = length-restored past.taken.items (take past.shared c.self.inside.table.premises) in
    omega (arith, ap length c.as_slice.ensures.value, c.self.invariant.few)

pub take_out-requires-clause-well_named : goal.take_out-requires-clause-well_named
take_out-requires-clause-well_named c =
    let ps = c.self.inside.table.premises in
    let places = c.in_ok-fall.fall.places.items in
    let still = well_named_still c.args.name ps c.place_of-first.result c.place_of-first.ensures c.premises-premises.result.now c.premises-premises.ensures.value places c.in_ok-fall.ensures.kept c.premises-premises.ensures.well_named in
    subst (λ l. IsWellNamed (without places l)) (sym c.reserve.ensures.premises) still

pub overflow_sub-present : goal.overflow_sub-present
overflow_sub-present c =
    let first = c.place_of-first.result in
    let ps = c.self.inside.table.premises in
    let gone = c.rivalry_count-pairs.ensures ∙ ap (λ l. length (rivalries l)) (rest_of first c.premises-premises.result.now ps c.premises-premises.ensures.value) in
    let count : length c.present.result.now ≡ length (rivalries ps) = ap length (c.present.ensures ∙ c.reserve-3.ensures.present ∙ c.self.invariant.rivals) in
    omega (arith, gone, count, rivalry_counts first ps)

pub add_all-requires : goal.add_all-requires
add_all-requires c =
    let n = c.args.name in
    let first = c.place_of-first.result in
    let ps = c.self.inside.table.premises in
    let places = c.in_ok-fall.fall.places.items in
    let now = without places ps in
    let found = c.place_of-first.ensures in
    let still = pairs_still n ps first found c.premises-premises.result.now c.premises-premises.ensures.value places c.in_ok-fall.ensures.kept in
    let now_is : c.take_out.new.self.premises ≡ now = c.in_ok-take_out.ensures.premises ∙ ap (without places) c.reserve.ensures.premises in
    let before : c.reserve-3.new.self.present ≡ rivalries ps = c.reserve-3.ensures.present ∙ c.self.invariant.rivals in
    let count : length c.present.result.now ≡ length (rivalries ps) = ap length (c.present.ensures ∙ before) in
    let gone : c.rivalry_count-pairs.result ≡ length (rivalries (drop first ps)) = c.rivalry_count-pairs.ensures ∙ ap (λ l. length (rivalries l)) (rest_of first c.premises-premises.result.now ps c.premises-premises.ensures.value) in
    let kept : length c.truncate.new.self.present ≡ length (rivalries (take first ps)) =
    ap (λ r. length r.present) c.truncate.ensures ∙ ap (λ l. length (take (length c.present.result.now - c.rivalry_count-pairs.result) l)) before
    ∙ ap length (rivalries_cut first (length c.present.result.now - c.rivalry_count-pairs.result) ps (λ i. count i - gone i)) in
    let slice = ap (λ l. length (rivalries l)) (rest_of first c.premises.result.now now (c.premises.ensures.value ∙ now_is)) in
    let both : length (rivalries now) ≡ length (rivalries (take first ps)) + length (rivalries (drop first now)) = ap length (sym still) ∙ length-append (rivalries (take first ps)) (rivalries (drop first now)) in
    let fewer = rivalries_without places ps in
    let own = ap length c.self.invariant.rivals in
    let room = ap (λ r. r.room) c.truncate.ensures in
    omega (arith, c.in_ok-reserve-3.ensures.room)

pub invariant_of-self-2 : goal.invariant_of-self-2
invariant_of-self-2 c =
    let n = c.args.name in
    let first = c.place_of-first.result in
    let ps = c.self.inside.table.premises in
    let past = c.self.inside.past in
    let places = c.in_ok-fall.fall.places.items in
    let now = without places ps in
    let still = pairs_still n ps first c.place_of-first.ensures c.premises-premises.result.now c.premises-premises.ensures.value places c.in_ok-fall.ensures.kept in
    let now_is : c.take_out.new.self.premises ≡ now = c.in_ok-take_out.ensures.premises ∙ ap (without places) c.reserve.ensures.premises in
    let committed : committed_from c.take_out.new.past c.take_out.new.self.premises ≡ committed_from past ps =
    c.in_ok-take_out.ensures.committed ∙ (λ i. restored (c.reserve-2.ensures.items i) (take past.shared (c.reserve.ensures.premises i))) in
    let before : c.reserve-3.new.self.present ≡ rivalries ps = c.reserve-3.ensures.present ∙ c.self.invariant.rivals in
    let count : length c.present.result.now ≡ length (rivalries ps) = ap length (c.present.ensures ∙ before) in
    let gone : c.rivalry_count-pairs.result ≡ length (rivalries (drop first ps)) = c.rivalry_count-pairs.ensures ∙ ap (λ l. length (rivalries l)) (rest_of first c.premises-premises.result.now ps c.premises-premises.ensures.value) in
    let kept : c.truncate.new.self.present ≡ rivalries (take first ps) =
    ap (λ r. r.present) c.truncate.ensures ∙ ap (take (length c.present.result.now - c.rivalry_count-pairs.result)) before
    ∙ rivalries_cut first (length c.present.result.now - c.rivalry_count-pairs.result) ps (λ i. count i - gone i) in
    let slice = rest_of first c.premises.result.now now (c.premises.ensures.value ∙ now_is) in
    let same_taken = ap length c.reserve-2.ensures.items in
    let same_words = ap (λ l. length (words_known (map taken_premise l))) c.reserve-2.ensures.items in
    let owed = c.words_owed-owed.ensures.value ∙ ap (λ l. length (words_known (map taken_premise l))) c.as_slice.ensures.value in
    let more = c.in_ok-take_out.ensures.taken in
    record {
      stands = c.in_ok-take_out.ensures.stands;
      places = omega (arith, more.premises, c.in_ok-take_out.ensures.places, c.reserve.ensures.places_kept, c.self.invariant.places);
      words = omega (arith, more.words, c.in_ok-take_out.ensures.words, c.in_ok-reserve.ensures.words, c.len.ensures);
      few = subst (λ l. length l ≤ most_premises) (sym committed) c.self.invariant.few;
      well_named = subst IsWellNamed (sym committed) c.self.invariant.well_named;
      rivals = ap (λ r. r.present) c.add_all.ensures ∙ (λ i. kept i ++ rivalries (slice i)) ∙ still ∙ ap rivalries (sym now_is);
      rivals_before =
          ap (λ r. r.committed) c.add_all.ensures ∙ ap (λ r. r.committed) c.truncate.ensures ∙ c.reserve-3.ensures.committed
          ∙ c.self.invariant.rivals_before ∙ ap rivalries (sym committed);
    }
