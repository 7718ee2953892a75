use Rattle.std.proofs.Common.{◌≡◌, ◌<◌, ◌+◌, true, false, suc, [], ◌∷◌, ◌++◌, map, length, take, drop, ap, subst, sym, ◌∙◌, arith, add-one}
use Rattle.std.proofs.Math.Seq.{drop-cons}
use Rattle.std.proofs.lemmas.List.{take_more}
use Rattle.tmm_model.specs.Standing.{name_of}
use Rattle.tmm_model.specs.Sorts.{declared_by}
use Rattle.tmm_model.specs.Erasure.{is_among, falls, kept_after}
use Rattle.list_theory.specs.Fallen.{fallen_after}
use Rattle.premise_list.specs.Gone.{SameNames}
use Rattle.premise_list.specs.Past.{RiseBelow, without}
use Rattle.premise_list.proofs.Moves.{next_falls, next_stays, last-rise, rise_more}
use Rattle.premise_list.proofs.Parts.{names_fall, names_stay, kept_fall, kept_stay}
use Rattle.premise_list.proofs.erase.fall_with.Goals as goal
use Rattle.premise_list.proofs.erase.fall_with.Goals.{then-falls+in_ok-take+in_ok-reserve+in_ok-lose, else-falls}

pub loop-place-preserved : goal.loop-place-preserved
loop-place-preserved c =
    let n = c.args.erased in
    let ps = c.args.premises.now in
    let i = c.loop-place.place in
    let p = c.index-premises-place.result in
    let is = c.loop-place.places.items in
    let gone = c.loop-place.gone.keys in
    let rest = drop (i + 1) ps in
    let low : i < length ps = omega arith in
    let next : drop i ps ≡ p ∷ rest = drop-cons ps i p low ∙ (λ j. sym c.index-premises-place.is j ∷ drop (sym (add-one i) j) ps) in
    let taken : take (suc i) ps ≡ take i ps ++ p ∷ [] = ap (λ k. take k ps) (sym (add-one i)) ∙ take_more ps i p low ∙ ap (λ x. take i ps ++ x ∷ []) (sym c.index-premises-place.is) in
    let all_names = map name_of (fallen_after n [] (drop c.args.first ps)) in
    let all_kept = take c.args.first ps ++ kept_after n [] (drop c.args.first ps) in
    let names : c.loop-place.names.items ++ map name_of (fallen_after n gone (p ∷ rest)) ≡ all_names = ap (λ l. c.loop-place.names.items ++ map name_of (fallen_after n gone l)) (sym next) ∙ c.loop-place.invariant.names in
    let kept : without is (take i ps) ++ kept_after n gone (p ∷ rest) ≡ all_kept = ap (λ l. without is (take i ps) ++ kept_after n gone l) (sym next) ∙ c.loop-place.invariant.kept in
    elim c.if-falls.branch [
      | then-falls+in_ok-take+in_ok-reserve+in_ok-lose w ↦
          let fallen : falls n gone p ≡ true = sym c.falls.ensures ∙ w.if-falls.true in
          let more = c.if-falls.gone.keys in
          let lost : SameNames more (declared_by p ++ gone) = λ v. ap (λ g. is_among g.keys v) w.gone-is ∙ w.in_ok-lose.ensures v in
          let items : c.if-falls.places.items ≡ is ++ i ∷ [] = ap (λ k. k.items) w.places-is ∙ w.push_reserved.ensures.items ∙ ap (λ l. l ++ i ∷ []) w.reserve.ensures.items in
          record {
            names =
                (λ j. (ap (λ g. g.items) w.names-is ∙ w.in_ok-take.ensures ∙ ap (λ x. c.loop-place.names.items ++ x ∷ []) w.name_of.ensures) j ++ map name_of (fallen_after n more rest))
                ∙ names_fall n gone p rest more c.loop-place.names.items all_names fallen lost names;
            places = subst (RiseBelow (i + 1)) (sym items) (last-rise is i (i + 1) (omega arith) c.loop-place.invariant.places);
            kept =
                (λ j. without (items j) (take (add-one i j) ps) ++ kept_after n more rest) ∙ ap (λ l. l ++ kept_after n more rest) (next_falls is i ps)
                ∙ kept_fall n gone p rest more (without is (take i ps)) all_kept fallen lost kept;
          }
      | else-falls w ↦
          let stays : falls n gone p ≡ false = sym c.falls.ensures ∙ w.if-falls.false in
          record {
            names =
                (λ j. (w.names-is j).items ++ map name_of (fallen_after n (w.gone-is j).keys rest))
                ∙ names_stay n gone p rest c.loop-place.names.items all_names stays names;
            places = rw w.places-is (rise_more i (i + 1) is (omega arith) c.loop-place.invariant.places);
            kept =
                (λ j. without (w.places-is j).items (take (add-one i j) ps) ++ kept_after n (w.gone-is j).keys rest)
                ∙ ap (λ l. l ++ kept_after n gone rest) (next_stays is i ps p (omega arith) taken c.loop-place.invariant.places)
                ∙ kept_stay n gone p rest (without is (take i ps)) all_kept stays kept;
          }
    ]
