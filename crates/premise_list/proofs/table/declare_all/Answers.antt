use Rattle.std.proofs.Common.{◌≡◌, ◌+◌, [], ◌∷◌, ◌++◌, map, length, take, drop, ap, subst, sym, ◌∙◌, arith, add-one, append_assoc}
use Rattle.std.proofs.Math.Seq.{drop-cons}
use Rattle.std.proofs.lemmas.List.{take_more, length-append, length_push, length-take-le}
use Rattle.tmm_model.specs.Sorts.{declared_by, declarations_of}
use Rattle.tmm_model.specs.Verdicts.{first_taken, words_known}
use Rattle.list_theory.specs.WellNamed.{AllFollow}
use Rattle.list_theory.proofs.WellNamed.{words_known-push}
use Rattle.premise_list.specs.Table.{at_place, placed, entry_seen}
use Rattle.premise_list.proofs.TableFacts.{keys_are, placed-push, words_parted}
use Rattle.premise_list.proofs.table.declare_all.Goals as goal

pub declare_names-requires-clause-room : goal.declare_names-requires-clause-room
declare_names-requires-clause-room c =
    let ps = c.args.premises.now in
    let i = c.loop-i.i in
    let p = c.index-premises-i.result in
    let taken : take (i + 1) ps ≡ take i ps ++ p ∷ [] = take_more ps i p c.loop-i-test.true ∙ ap (λ x. take i ps ++ x ∷ []) (sym c.index-premises-i.is) in
    let count : length (words_known (take (i + 1) ps)) ≡ length (words_known (take i ps)) + length (declared_by p) = ap (λ l. length (words_known l)) taken ∙ ap length (words_known-push (take i ps) p) ∙ length-append (words_known (take i ps)) (declared_by p) in
    let parted = words_parted (i + 1) ps in
    omega arith

pub declare_names-requires-clause-new : goal.declare_names-requires-clause-new
declare_names-requires-clause-new c =
    let ps = c.args.premises.now in
    let i = c.loop-i.i in
    let p = c.index-premises-i.result in
    let next : drop i ps ≡ p ∷ drop (i + 1) ps = drop-cons ps i p c.loop-i-test.true ∙ (λ j. sym c.index-premises-i.is j ∷ drop (sym (add-one i) j) ps) in
    let (before, indexed, count, follow) = c.loop-i.invariant.follow in
    let follows : AllFollow before (p ∷ drop (i + 1) ps) = subst (AllFollow before) next follow in
    ap (λ known. first_taken known (declared_by p)) (keys_are c.loop-i.words.entries before indexed) ∙ follows.0.new

pub loop-i-preserved : goal.loop-i-preserved
loop-i-preserved c =
    let ps = c.args.premises.now in
    let i = c.loop-i.i in
    let p = c.index-premises-i.result in
    let lt = c.loop-i-test.true in
    let place = c.args.place in
    let old = map entry_seen c.args.words.now.entries in
    let next : drop i ps ≡ p ∷ drop (i + 1) ps = drop-cons ps i p lt ∙ (λ j. sym c.index-premises-i.is j ∷ drop (sym (add-one i) j) ps) in
    let taken : take (i + 1) ps ≡ take i ps ++ p ∷ [] = take_more ps i p lt ∙ ap (λ x. take i ps ++ x ∷ []) (sym c.index-premises-i.is) in
    let words : length (words_known (take (i + 1) ps)) ≡ length (words_known (take i ps)) + length (declared_by p) = ap (λ l. length (words_known l)) taken ∙ ap length (words_known-push (take i ps) p) ∙ length-append (words_known (take i ps)) (declared_by p) in
    let (before, indexed, count, follow) = c.loop-i.invariant.follow in
    let follows : AllFollow before (p ∷ drop (i + 1) ps) = subst (AllFollow before) next follow in
    let within : length (take i ps) ≡ i = length-take-le i ps (omega arith) in
    let added = map (at_place (place + i)) (declarations_of p) in
    record {
      entries =
          c.declare_names.ensures.entries ∙ ap (λ l. l ++ added) c.loop-i.invariant.entries ∙ append_assoc old (placed place (take i ps)) added
          ∙ ap (λ l. old ++ l) (sym (ap (placed place) taken ∙ placed-push place (take i ps) p (place + i) (omega arith)));
      room = omega arith;
      follow = (
        before ++ p ∷ [],
        c.declare_names.ensures.entries ∙ ap (λ l. l ++ added) indexed ∙ sym (placed-push 0 before p (place + i) (omega arith)),
        omega (arith, length_push before p),
        follows.1,
      );
    }
