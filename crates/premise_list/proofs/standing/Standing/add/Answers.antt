use Rattle.std.proofs.Common.{◌≡◌, ◌≤◌, ◌+◌, ◌++◌, [], ◌∷◌, map, length, take, ap, subst, sym, ◌∙◌, arith}
use Rattle.std.proofs.lemmas.List.{take-append-le, length_push}
use Rattle.tmm_model.specs.Sorts.{declared_by}
use Rattle.tmm_model.specs.Verdicts.{most_premises, words_known}
use Rattle.list_theory.specs.WellNamed.{IsWellNamed}
use Rattle.premise_list.specs.Past.{restored, taken_premise}
use Rattle.premise_list.specs.Rivalries.{rivalries}
use Rattle.premise_list.proofs.TableFacts.{declared_by_parted}
use Rattle.premise_list.proofs.PairsOfFacts.{rivalries-append}
use Rattle.premise_list.proofs.Moves.{length-restored}
use Rattle.premise_list.proofs.standing.Standing.add.Goals as goal

pub words_owed-owed-requires : goal.words_owed-owed-requires
words_owed-owed-requires c =
    let past = c.self.inside.past in
    let all = length-restored past.taken.items (take past.shared c.self.inside.table.premises) in
    omega (arith, ap length c.as_slice.ensures.value, c.self.invariant.few)

pub invariant_of-self-2 : goal.invariant_of-self-2
invariant_of-self-2 c =
    let ps = c.self.inside.table.premises in
    let p = c.args.premise.now in
    let s = c.self.inside.past.shared in
    let taken = c.self.inside.past.taken.items in
    let within : s ≤ length ps = c.self.invariant.stands.within in
    let now : c.push.new.self.premises ≡ ps ++ p ∷ [] = c.push.ensures.premises ∙ (λ i. c.reserve.ensures.premises i ++ c.copy_of.ensures i ∷ []) in
    let count : length c.push.new.self.premises ≡ length ps + 1 = ap length now ∙ length_push ps p in
    let committed : restored taken (take s ps) ≡ restored taken (take s c.push.new.self.premises) = ap (restored taken) (sym (ap (take s) now ∙ take-append-le s ps (p ∷ []) within)) in
    let own = ap (λ q. length (declared_by q)) c.copy_of.ensures ∙ ap length (declared_by_parted p) in
    let facts = ap length c.facts_of.ensures.value in
    let owed = c.words_owed-owed.ensures.value ∙ ap (λ l. length (words_known (map taken_premise l))) c.as_slice.ensures.value in
    record {
      stands = record { within = omega (arith, count, within); fits = c.self.invariant.stands.fits };
      places = omega (arith, c.len-places.ensures, c.in_ok-reserve.ensures.places, c.push.ensures.places);
      words = omega (arith, own, facts, owed, c.in_ok-reserve.ensures.words, c.push.ensures.words);
      few = subst (λ l. length l ≤ most_premises) committed c.self.invariant.few;
      well_named = subst IsWellNamed committed c.self.invariant.well_named;
      rivals = c.in_ok-add.ensures.present ∙ ap (λ l. l ++ rivalries (p ∷ [])) c.self.invariant.rivals ∙ sym (ap rivalries now ∙ rivalries-append ps (p ∷ []));
      rivals_before = c.add.ensures.committed ∙ c.self.invariant.rivals_before ∙ ap rivalries committed;
    }
