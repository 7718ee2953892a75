-- A dumped list is read again.
use Rattle.std.proofs.Common.{◌≡◌, ◌∙◌, ℕ, suc, ◌+◌, ◌≤◌, ◌<◌, true, false, List, [], ◌∷◌, ◌++◌, map, length, refl, sym, ap, subst, inl, inr, arith, append_assoc, append-nil}
use Rattle.std.specs.Prelude.{pos, codes, decimal, Option, Some, None, nat_le}
use Rattle.std.proofs.lemmas.Int.{ints}
use Rattle.std.specs.List.{AllByRecursion, flat_map}
use Rattle.std.specs.Option.{option_or}
use Rattle.std.proofs.lemmas.List.{length-append}
use Rattle.std.proofs.lemmas.List.Elements.{All-contains}
use Rattle.tmm_model.specs.declared.limits.TheConstants.{FIRST_HORIZON}
use Rattle.tmm_model.specs.declared.line.Line.TheVariants.{Change}
use Rattle.tmm_model.specs.declared.point.PointName.TheVariants.{Start}
use Rattle.tmm_model.specs.declared.premise.Edit.{Edit}
use Rattle.tmm_model.specs.declared.premise.Edit.TheVariants.{Add, Horizon, Upgrade}
use Rattle.tmm_model.specs.declared.premise.Premise.{Premise}
use Rattle.tmm_model.specs.declared.version.Version.{Version}
use Rattle.tmm_model.specs.declared.version.Version.TheVariants.{One, Two}
use Rattle.tmm_laws.specs.EditLaws.{AcceptsAll, version_edits, dump_edits, ReadsBack, AllReadBack, GrowsSmall}
use Rattle.tmm_model.specs.Edits.{list_with}
use Rattle.belief_theory.specs.KeptLists.{IsKept}
use Rattle.belief_theory.proofs.StayKept.{upgraded_is_small}
use Rattle.tmm_model.specs.Kept.{IsAccepted}
use Rattle.tmm_model.specs.Lines.{IsWellFormedPremise, IsOfVersion, edit_words, spaced, words, ReadsLine}
use Rattle.list_theory.specs.WellNamed.{Follows, AllFollow}
use Rattle.tmm_model.specs.Sorts.{declared_by, uses_of}
use Rattle.tmm_model.specs.Standing.{Standing, empty_list, points_of, points_in, arcs_of, arcs_in, IsConsistent}
use Rattle.tmm_model.specs.Verdicts.{Cause, too_many_premises, too_many_points, most_premises, most_points, first_taken, uses_cause, premises_cause, points_cause, words_known, add_cause}
use Rattle.walk_theory.proofs.Dates.{HasDates-nil}
use Rattle.list_theory.proofs.Elements.{In, In-left, In-flat_map, flat_map-In, In-from_Contains, Contains-from_In}
use Rattle.tmm_grammar.proofs.LineShown.{decimal_is_word, number_length, shown_short, shown_reads}
use Rattle.tmm_grammar.proofs.LineWords.{words-spaced}
use Rattle.walk_theory.proofs.Removal.{HasDates-fewer}
use Rattle.list_theory.proofs.WellNamed.{AllFollow-append}

-- ---- a dump, read again

-- the list of a version that is empty otherwise
abbrev nothing_of : Version → Standing
nothing_of v = record { version = v; horizon = FIRST_HORIZON; premises = [] }

-- a list with some of the premises, from the first on
abbrev first_of : Standing → List Premise → Standing
first_of s front = record { version = s.version; horizon = s.horizon; premises = front }

fewer_arcs : (front back : List Premise) → IsConsistent (front ++ back) → IsConsistent front
fewer_arcs front back dates =
    HasDates-fewer Start (arcs_in (front ++ back)) (arcs_in front)
    (λ e m. let (p, at, own) = In-flat_map arcs_of front e (In-from_Contains (arcs_in front) e m) in Contains-from_In (arcs_in (front ++ back)) e (flat_map-In arcs_of (front ++ back) p e (In-left front back p at) own))
    dates

fewer_points : (front back : List Premise) → length (points_in front) ≤ length (points_in (front ++ back))
fewer_points [] back = omega arith
fewer_points (p ∷ front) back =
    let rest = fewer_points front back in
    omega (arith, length-append (points_of p) (flat_map points_of front), length-append (points_of p) (flat_map points_of (front ++ back)))

no_more : (n : ℕ) (m : ℕ) → m < n → nat_le n m ≡ false
no_more n m lt = grind arith

room_for : (n : ℕ) (m : ℕ) → n ≤ m → nat_le n m ≡ true
room_for n m le = grind arith

-- no cause stands against a premise that follows, where there is room
may_add : (front : List Premise) (p : Premise) → Follows front p → length front < most_premises → length (points_in (front ++ p ∷ [])) ≤ most_points → add_cause front p ≡ None
may_add front p follows few room =
    let names : first_taken (words_known front) (declared_by p) ≡ None = follows.new in
    let uses : uses_cause front (uses_of p) ≡ None = follows.known in
    let premises : premises_cause front ≡ None = ap (λ b. elim b as (λ _. Option Cause) [ true ↦ Some too_many_premises | false ↦ None ]) (no_more most_premises (length front) few) in
    let points : points_cause (front ++ p ∷ []) ≡ None = ap (λ b. elim b as (λ _. Option Cause) [ true ↦ None | false ↦ Some too_many_points ]) (room_for (length (points_in (front ++ p ∷ []))) most_points room) in
    λ i. option_or (names i) (option_or (uses i) (option_or (premises i) (points i)))

module _ (s : Standing) (kept : IsKept s) (small : GrowsSmall s) where
  accepted : (front : List Premise) (p : Premise) (back : List Premise) → s.premises ≡ front ++ p ∷ back → IsAccepted (first_of s front) (Add p)
  accepted front p back parted =
      let again : s.premises ≡ (front ++ p ∷ []) ++ back = parted ∙ sym (append_assoc front (p ∷ []) back) in
      let follows : Follows front p = (AllFollow-append [] front (p ∷ back) (subst (AllFollow []) parted kept.sound.well_named)).1.0 in
      let all : length s.premises ≡ length front + length (p ∷ back) = ap length parted ∙ length-append front (p ∷ back) in
      let few : length front < most_premises = few_enough (length front) (length back) (length s.premises) (all ∙ next (length front) (length back)) kept.premises in
      let room : length (points_in (front ++ p ∷ [])) ≤ most_points = under (length (points_in (front ++ p ∷ []))) (length (points_in ((front ++ p ∷ []) ++ back))) (fewer_points (front ++ p ∷ []) back) (subst (λ ps. length (points_in ps) ≤ most_points) again kept.points) in
      record {
        no_cause = may_add front p follows few room;
        dates = fewer_arcs (front ++ p ∷ []) back (subst IsConsistent again kept.sound.dates);
        small = small (front ++ p ∷ []) back again;
      }
    where
      next : (a b : ℕ) → a + suc b ≡ a + (1 + b)
      next a b = omega arith

      few_enough : (a b n : ℕ) → n ≡ a + (1 + b) → n ≤ 2000 → a < 2000
      few_enough a b n e h = omega arith

      under : (a b : ℕ) → a ≤ b → b ≤ 256 → a ≤ 256
      under a b h g = omega arith

  adds_all : (front back : List Premise) → s.premises ≡ front ++ back → AcceptsAll (first_of s front) (map Add back) s
  adds_all front [] parted = λ i. record { version = s.version; horizon = s.horizon; premises = (parted ∙ append-nil front) i }
  adds_all front (p ∷ back) parted = (accepted front p back parted, adds_all (front ++ p ∷ []) back (parted ∙ sym (append_assoc front (p ∷ []) back)))

  -- from the list of its version without premises
  reloads : AcceptsAll (nothing_of s.version) (Horizon s.horizon ∷ map Add s.premises) s
  reloads = (
    record { no_cause = refl; dates = HasDates-nil Start; small = small [] s.premises refl },
    adds_all [] s.premises refl,
  )

behind_blanks : (line : List ℕ) → words (32 ∷ 32 ∷ line) ≡ words line
unfolding words
behind_blanks line = refl

reads_behind : (version : Version) (line : List ℕ) (edit : Edit) → ReadsLine version line (Change edit) → ReadsLine version (32 ∷ 32 ∷ line) (Change edit)
reads_behind version line edit h = (behind_blanks line ∙ h.0, h.1, h.2)

horizon_reads : (version : Version) (n : ℕ) → n ≤ 100000 → ReadsLine version (spaced (edit_words (Horizon n))) (Change (Horizon n))
horizon_reads version n h = (words-spaced (edit_words (Horizon n)) (((λ e. cc), refl), (decimal_is_word n (omega arith), tt)), h, tt)

-- a line of a dump, from the line without blanks before it
tells : (version : Version) (edit : Edit) → length (spaced (edit_words edit)) ≤ 390 → ReadsLine version (spaced (edit_words edit)) (Change edit) → ReadsBack version edit
tells version edit short reads = (omega (arith, short), reads_behind version (spaced (edit_words edit)) edit reads)

-- what a premise is in the version
abbrev IsFormedIn : Version → Premise → Type 0
IsFormedIn version p = IsWellFormedPremise p × IsOfVersion version p

premises_tell : (s : Standing) (ps : List Premise) → AllByRecursion (IsFormedIn s.version) ps → AllReadBack s (map Add ps)
premises_tell s [] h = tt
premises_tell s (p ∷ ps) h = (tells s.version (Add p) (shown_short p h.0.0) ((shown_reads p h.0.0).1 s.version h.0.1), premises_tell (list_with s p) ps h.1)

horizon_short : (n : ℕ) → n ≤ 100000 → length (spaced (edit_words (Horizon n))) ≤ 390
horizon_short n h =
    let digits : length (decimal n) ≤ 11 = number_length (pos n) (omega (arith, ints), omega (arith, ints)) in
    let all : length (codes "horizon" ++ 32 ∷ decimal n ++ []) ≡ length (codes "horizon") + length (32 ∷ decimal n ++ []) = length-append (codes "horizon") (32 ∷ decimal n ++ []) in
    omega (arith, digits, all, length-append (decimal n) [])

one_by_one : (F : Premise → Type 0) (ps : List Premise) → ((p : Premise) → In p ps → F p) → AllByRecursion F ps
one_by_one F [] h = tt
one_by_one F (p ∷ ps) h = (h p (inl refl), one_by_one F ps (λ q at. h q (inr at)))

upgrade_reads : ReadsLine One (spaced (edit_words Upgrade)) (Change Upgrade)
upgrade_reads = (words-spaced (edit_words Upgrade) (((λ e. cc), refl), (((λ e. cc), refl), tt)), tt, tt)

-- the line that opens the version comes first, where there is one
opening_accepted : (v : Version) (edits : List Edit) (s : Standing) → AcceptsAll (nothing_of v) edits s → AcceptsAll empty_list (version_edits v ++ edits) s
opening_accepted One edits s rest = rest
opening_accepted Two edits s rest = (record { no_cause = refl; dates = HasDates-nil Start; small = omega (arith, upgraded_is_small) }, rest)

opening_reads : (v : Version) (edits : List Edit) → AllReadBack (nothing_of v) edits → AllReadBack empty_list (version_edits v ++ edits)
opening_reads One edits rest = rest
opening_reads Two edits rest = (tells One Upgrade (omega arith) upgrade_reads, rest)

pub dump_reloads : (s : Standing) → IsKept s → GrowsSmall s
    → AllReadBack empty_list (dump_edits s)
    × AcceptsAll empty_list (dump_edits s) s
dump_reloads s kept small =
    let edits : List Edit = Horizon s.horizon ∷ map Add s.premises in
    let formed : (p : Premise) → In p s.premises → IsFormedIn s.version p =
    λ p at. (
      All-contains IsWellFormedPremise s.premises p kept.sound.well_formed (Contains-from_In s.premises p at),
      All-contains (IsOfVersion s.version) s.premises p kept.versioned (Contains-from_In s.premises p at),
    ) in
    let read : AllReadBack (nothing_of s.version) edits = (
      tells s.version (Horizon s.horizon) (horizon_short s.horizon kept.horizon) (horizon_reads s.version s.horizon kept.horizon),
      premises_tell (first_of s []) s.premises (one_by_one (IsFormedIn s.version) s.premises formed),
    ) in
    (opening_reads s.version edits read, opening_accepted s.version edits s (reloads s kept small))
