-- What the changes of one edit tell of a repair.
use Rattle.std.proofs.Common.{◌≡◌, ◌↔◌, ℕ, Bool, true, false, List, [], ◌∷◌, map, cond, refl, sym, ◌∙◌, ap, subst, inl, inr}
use Rattle.std.specs.Prelude.{Some, ◌&&◌, filter}
use Rattle.std.specs.List.{list_any, Contains}
use Rattle.std.specs.Option.{is_none}
use Rattle.std.proofs.lemmas.Bool.{false≢true}
use Rattle.std.proofs.lemmas.List.Elements.{All-contains}
use Rattle.tmm_model.specs.declared.premise.Edit.{Edit}
use Rattle.tmm_model.specs.declared.premise.Edit.TheVariants.{Add, Erase, Horizon, Upgrade}
use Rattle.tmm_model.specs.declared.premise.Premise.{Premise}
use Rattle.tmm_model.specs.Answers.{Finding, reports}
use Rattle.tmm_model.specs.Changes.{changes, is_broken}
use Rattle.tmm_model.specs.Edits.{next_list}
use Rattle.tmm_model.specs.Erasure.{is_among}
use Rattle.tmm_model.specs.Maps.{built}
use Rattle.tmm_model.specs.Points.{same_name}
use Rattle.tmm_model.specs.Standing.{Standing, name_of, premise_in}
use Rattle.walk_theory.proofs.Members.{All-from_contains}
use Rattle.walk_theory.proofs.Points.{same_name-self}
use Rattle.list_theory.specs.WellNamed.{IsWellNamed}
use Rattle.list_theory.proofs.Elements.{In, In-from_Contains, Contains-from_In, In-left, In-filter, filter-In, In-map, list_any-In, both}
use Rattle.repairs.specs.Repairs.{protects, Mends}
use Rattle.repairs.specs.Told.{names_protection, spares_protections, names_in, are_none, tells_mended}
use Rattle.repairs.proofs.Changed.{is_false, not_both, not-false, both_true, among_In, In_among, report_broken, broken_protects, same_protections, reported, harmed, told_harmed, mended, told_mended, spared, none_erased}

-- each protection of one list stands in another
abbrev pub Stand : List Premise → List Premise → Type 0
Stand ps qs = (p : Premise) → protects p ≡ true → In p ps → In p qs

-- a name of a premise is found
some_found : (ps : List Premise) (p : Premise) → In p ps → is_none (premise_in ps (name_of p)) ≡ true → ⊥
some_found [] p at none = at
some_found (o ∷ ps) p (inl is) none = by (same_name (name_of p) (name_of o)) (ap (λ (z : Premise). same_name (name_of p) (name_of z)) is ∙ same_name-self (name_of p)) none
  where
    by : (b : Bool) → b ≡ true → is_none (cond b (Some o) (premise_in ps (name_of p))) ≡ true → ⊥
    by true e none = false≢true none
    by false e none = false≢true e
some_found (o ∷ ps) p (inr at) none = by (some_found ps p at) (same_name (name_of p) (name_of o)) none
  where
    by : (is_none (premise_in ps (name_of p)) ≡ true → ⊥) → (b : Bool) → is_none (cond b (Some o) (premise_in ps (name_of p))) ≡ true → ⊥
    by again true none = false≢true none
    by again false none = again none

-- where all premises stay, no name is gone
all_spared : (old new : Standing) → ((p : Premise) → In p old.premises → In p new.premises) → spares_protections old (changes old new).erased ≡ true
all_spared old new stay = not-false (list_any (names_protection old) (changes old new).erased) (is_false (list_any (names_protection old) (changes old new).erased) never)
  where
    never : list_any (names_protection old) (changes old new).erased ≡ true → ⊥
    never some =
        let (name, at, is) = list_any-In (names_protection old) (changes old new).erased some in
        let (there, none) = In-filter (λ name. is_none (premise_in new.premises name)) (map name_of old.premises) name at in
        let (p, stood, named) = In-map name_of old.premises name there in
        some_found new.premises p (stay p stood) (subst (λ n. is_none (premise_in new.premises n) ≡ true) (sym named) none)

-- the names that an edit takes away are no protection's exactly where each protection stands
pub sparing : (old : Standing) → IsWellNamed old.premises → (edit : Edit) → (spares_protections old (changes old (next_list old edit)).erased ≡ true) ↔ Stand old.premises (next_list old edit).premises
sparing old named (Add p) = (λ told q is at. In-left old.premises (p ∷ []) q at, λ stand. all_spared old (next_list old (Add p)) (λ q at. In-left old.premises (p ∷ []) q at))
sparing old named (Erase n) = (spared old named n, none_erased old named n)
sparing old named (Horizon n) = (λ told q is at. at, λ stand. all_spared old (next_list old (Horizon n)) (λ q at. at))
sparing old named Upgrade = (λ told q is at. at, λ stand. all_spared old (next_list old Upgrade) (λ q at. at))

none_in : (found : List (List ℕ × Finding)) → are_none found ≡ true → (name : List ℕ) → In name (names_in found) → ⊥
none_in [] none name at = at
none_in (r ∷ rs) none name at = false≢true none

in_none : (found : List (List ℕ × Finding)) → ((name : List ℕ) → In name (names_in found) → ⊥) → are_none found ≡ true
in_none [] never = refl
in_none (r ∷ rs) never = absurd (never r.0 (inl refl))

module _ (old : Standing) (well_named : IsWellNamed old.premises) (name : List ℕ) (edit : Edit) where
  abbrev new : Standing
  new = next_list old edit

  abbrev spares : Bool
  spares = spares_protections old (changes old new).erased

  abbrev unharmed : Bool
  unharmed = are_none (changes old new).broken

  abbrev is_mended : Bool
  is_mended = is_among (changes old new).mended name

  -- **Where its changes tell that the protection is mended, it is.**
  pub one_mends : tells_mended old name (changes old new) ≡ true → Mends name old new
  one_mends told =
      let (rest, whole) = both (spares && unharmed) is_mended told in
      let (stand, none) = both spares unharmed rest in
      record {
        stand = All-from_contains (Contains new.premises) (filter protects old.premises) (λ p at.
            let (there, is) = In-filter protects old.premises p (In-from_Contains (filter protects old.premises) p at) in
            Contains-from_In new.premises p ((sparing old well_named edit).0 stand p is there));
        mended = (mended old new name (among_In (changes old new).mended name whole)).1;
        unharmed = All-from_contains (λ r. is_broken (built old) r.0 ≡ true) (reports (built new)) (λ r at.
            was r.0 (report_broken (built new) r (In-from_Contains (reports (built new)) r at)) none (is_broken (built old) r.0) refl);
      }
    where
      was : (other : List ℕ) → is_broken (built new) other ≡ true → unharmed ≡ true → (b : Bool) → is_broken (built old) other ≡ b → is_broken (built old) other ≡ true
      was other now none true e = e
      was other now none false e = absurd (none_in (changes old new).broken none other (told_harmed old new other (e, now)))

  -- **Where the protection is mended, its changes tell so.**
  pub one_tells : is_broken (built old) name ≡ true → Mends name old new → tells_mended old name (changes old new) ≡ true
  one_tells was mends =
      both_true (spares && unharmed) is_mended (both_true spares unharmed ((sparing old well_named edit).1 stand) (in_none (changes old new).broken never))
      (In_among (changes old new).mended name
      (told_mended old new name (same_protections old.premises new.premises stand name (broken_protects (built old) name was)) (was, mends.mended)))
    where
      stand : Stand old.premises new.premises
      stand p is at =
          In-from_Contains new.premises p
          (All-contains (Contains new.premises) (filter protects old.premises) p mends.stand (Contains-from_In (filter protects old.premises) p (filter-In protects old.premises p at is)))

      never : (other : List ℕ) → In other (names_in (changes old new).broken) → ⊥
      never other at =
          let (before, now) = harmed old new other at in
          let (r, there, same) = reported (built new) other now in
          let before_too : is_broken (built old) r.0 ≡ true =
          All-contains (λ r. is_broken (built old) r.0 ≡ true) (reports (built new)) r mends.unharmed (Contains-from_In (reports (built new)) r there) in
          not_both (is_broken (built old) other) (subst (λ (k : List ℕ). is_broken (built old) k ≡ true) same before_too) before
