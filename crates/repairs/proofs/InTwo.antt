-- What the changes of an erasure, and of a constraint that is added after it, tell of a repair.
use Rattle.std.proofs.Common.{◌≡◌, ◌∙◌, ℕ, Bool, true, false, List, [], ◌∷◌, refl, sym, ap, subst, inl, inr}
use Rattle.std.specs.Prelude.{not, ◌&&◌, ◌||◌, filter}
use Rattle.std.specs.List.{list_all, Contains, All}
use Rattle.std.proofs.lemmas.Bool.{false≢true, or_left, or_right}
use Rattle.tmm_model.specs.declared.premise.Premise.{Premise}
use Rattle.tmm_model.specs.Answers.{Finding, reports}
use Rattle.tmm_model.specs.Changes.{Delta, changes, is_broken}
use Rattle.tmm_model.specs.Edits.{list_with, list_without}
use Rattle.tmm_model.specs.Erasure.{is_among}
use Rattle.tmm_model.specs.Maps.{built}
use Rattle.tmm_model.specs.Standing.{Standing}
use Rattle.walk_theory.proofs.Members.{All-from_contains}
use Rattle.list_theory.specs.WellNamed.{IsWellNamed}
use Rattle.list_theory.proofs.Elements.{In, In-from_Contains, Contains-from_In, In-left, In-cases, In-filter, filter-In, list_all-In, both}
use Rattle.std.proofs.lemmas.List.Elements.{All-contains}
use Rattle.repairs.specs.Repairs.{protects, Mends}
use Rattle.repairs.specs.Told.{spares_protections, names_in, tell_mended}
use Rattle.repairs.proofs.Changed.{is_false, not_both, not-true, not-false, both_true, all_from_In, among_In, In_among, reported, report_broken, broken_protects, same_protections, harmed, told_harmed, mended, told_mended, spared, none_erased}

module _ (old : Standing) (well_named : IsWellNamed old.premises) (name n : List ℕ) (p : Premise) (other : protects p ≡ false) where
  abbrev middle : Standing
  middle = list_without old n

  abbrev new : Standing
  new = list_with middle p

  -- the premise that is added is no protection
  still : (q : Premise) → protects q ≡ true → In q new.premises → In q middle.premises
  still q is at = elim (In-cases middle.premises (p ∷ []) q at) [
    | inl there ↦ there
    | inr added ↦ elim added [ inl same ↦ absurd (false≢true (sym other ∙ ap protects same ∙ is)) | inr never ↦ absurd never ]
  ]

  added_after : (q : Premise) → protects q ≡ true → In q middle.premises → In q new.premises
  added_after q is at = In-left middle.premises (p ∷ []) q at

  abbrev first : Delta
  first = changes old middle

  abbrev second : Delta
  second = changes middle new

  -- the parts of what they tell
  abbrev spares : Bool
  spares = spares_protections old first.erased

  abbrev mended_later : Bool
  mended_later = list_all (is_among second.mended) (names_in first.broken)

  abbrev mended_before : Bool
  mended_before = list_all (is_among first.mended) (names_in second.broken)

  abbrev mended_last : Bool
  mended_last = is_among second.mended name

  abbrev mended_first : Bool
  mended_first = is_among first.mended name

  abbrev harmed_last : Bool
  harmed_last = is_among (names_in second.broken) name

  abbrev mended_at_last : Bool
  mended_at_last = mended_last || (mended_first && not harmed_last)

  -- ---- what they tell is so

  told_stand : spares ≡ true → All (Contains new.premises) (filter protects old.premises)
  told_stand none = All-from_contains (Contains new.premises) (filter protects old.premises) each
    where
      each : (q : Premise) → Contains (filter protects old.premises) q → Contains new.premises q
      each q at =
          let (there, is) = In-filter protects old.premises q (In-from_Contains (filter protects old.premises) q at) in
          Contains-from_In new.premises q (added_after q is (spared old well_named n none q is there))

  told_whole : mended_at_last ≡ true → is_broken (built new) name ≡ false
  told_whole told = by mended_last refl told
    where
      by : (b : Bool) → mended_last ≡ b → (b || (mended_first && not harmed_last)) ≡ true → is_broken (built new) name ≡ false
      by true e t = (mended middle new name (among_In second.mended name e)).1
      by false e t =
          let (early, later) = both mended_first (not harmed_last) t in
          let whole : is_broken (built middle) name ≡ false = (mended old middle name (among_In first.mended name early)).1 in
          is_false (is_broken (built new) name)
          (λ is. not_both harmed_last (In_among (names_in second.broken) name (told_harmed middle new name (whole, is))) (not-true harmed_last later))

  told_unharmed : mended_later ≡ true → mended_before ≡ true → All (λ r. is_broken (built old) r.0 ≡ true) (reports (built new))
  told_unharmed later before = All-from_contains (λ r. is_broken (built old) r.0 ≡ true) (reports (built new)) each
    where
      each : (r : List ℕ × Finding) → Contains (reports (built new)) r → is_broken (built old) r.0 ≡ true
      each r at = by_middle (is_broken (built middle) r.0) refl
        where
          now : is_broken (built new) r.0 ≡ true
          now = report_broken (built new) r (In-from_Contains (reports (built new)) r at)

          by_old : is_broken (built middle) r.0 ≡ true → (b : Bool) → is_broken (built old) r.0 ≡ b → is_broken (built old) r.0 ≡ true
          by_old e true f = f
          by_old e false f =
              let again : is_among second.mended r.0 ≡ true = list_all-In (is_among second.mended) (names_in first.broken) later r.0 (told_harmed old middle r.0 (f, e)) in
              not_both (is_broken (built new) r.0) now (mended middle new r.0 (among_In second.mended r.0 again)).1

          by_middle : (b : Bool) → is_broken (built middle) r.0 ≡ b → is_broken (built old) r.0 ≡ true
          by_middle true e = by_old e (is_broken (built old) r.0) refl
          by_middle false e =
              let was : is_among first.mended r.0 ≡ true = list_all-In (is_among first.mended) (names_in second.broken) before r.0 (told_harmed middle new r.0 (e, now)) in
              (mended old middle r.0 (among_In first.mended r.0 was)).0

  -- **Where the changes of both edits tell that the protection is mended, it is.**
  pub two_mend : tell_mended old name first second ≡ true → Mends name old new
  two_mend told =
      let (rest, whole) = both (spares && mended_later && mended_before) mended_at_last told in
      let (so_far, before) = both (spares && mended_later) mended_before rest in
      let (stand, later) = both spares mended_later so_far in
      record { stand = told_stand stand; mended = told_whole whole; unharmed = told_unharmed later before }

  -- ---- what is so they tell

  module _ (was : is_broken (built old) name ≡ true) (mends : Mends name old new) where
    stays : (q : Premise) → protects q ≡ true → In q old.premises → In q middle.premises
    stays q is at =
        still q is
        (In-from_Contains new.premises q
        (All-contains (Contains new.premises) (filter protects old.premises) q mends.stand (Contains-from_In (filter protects old.premises) q (filter-In protects old.premises q at is))))

    unharmed : (other : List ℕ) → is_broken (built new) other ≡ true → is_broken (built old) other ≡ true
    unharmed other is =
        let (r, at, named) = reported (built new) other is in
        subst (λ (k : List ℕ). is_broken (built old) k ≡ true) named
        (All-contains (λ r. is_broken (built old) r.0 ≡ true) (reports (built new)) r mends.unharmed (Contains-from_In (reports (built new)) r at))

    tells_later : mended_later ≡ true
    tells_later = all_from_In (is_among second.mended) (names_in first.broken) each
      where
        each : (other : List ℕ) → In other (names_in first.broken) → is_among second.mended other ≡ true
        each other at =
            let (before, now) = harmed old middle other at in
            let whole : is_broken (built new) other ≡ false = is_false (is_broken (built new) other) (λ is. not_both (is_broken (built old) other) (unharmed other is) before) in
            In_among second.mended other
            (told_mended middle new other (same_protections middle.premises new.premises added_after other (broken_protects (built middle) other now)) (now, whole))

    tells_before : mended_before ≡ true
    tells_before = all_from_In (is_among first.mended) (names_in second.broken) each
      where
        each : (other : List ℕ) → In other (names_in second.broken) → is_among first.mended other ≡ true
        each other at =
            let (before, now) = harmed middle new other at in
            In_among first.mended other
            (told_mended old middle other (same_protections new.premises middle.premises still other (broken_protects (built new) other now)) (unharmed other now, before))

    tells_at_last : mended_at_last ≡ true
    tells_at_last = by (is_broken (built middle) name) refl
      where
        by : (b : Bool) → is_broken (built middle) name ≡ b → mended_at_last ≡ true
        by true e =
            or_left mended_last (mended_first && not harmed_last)
            (In_among second.mended name
            (told_mended middle new name (same_protections middle.premises new.premises added_after name (broken_protects (built middle) name e)) (e, mends.mended)))
        by false e =
            let early : mended_first ≡ true =
            In_among first.mended name (told_mended old middle name (same_protections old.premises middle.premises stays name (broken_protects (built old) name was)) (was, e)) in
            let late : not harmed_last ≡ true =
            not-false harmed_last (is_false harmed_last (λ is. not_both (is_broken (built new) name) (harmed middle new name (among_In (names_in second.broken) name is)).1 mends.mended)) in
            or_right mended_last (mended_first && not harmed_last) (both_true mended_first (not harmed_last) early late)

    -- **Where the protection is mended, the changes of both edits tell so.**
    pub two_tell : tell_mended old name first second ≡ true
    two_tell =
        both_true (spares && mended_later && mended_before) mended_at_last
        (both_true (spares && mended_later) mended_before (both_true spares mended_later (none_erased old well_named n stays) tells_later) tells_before) tells_at_last
