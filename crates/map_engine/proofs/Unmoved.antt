-- What is kept where the list that an edit leaves is alike in all that beliefs read.
use Rattle.std.proofs.Common.{◌≡◌, ◌∙◌, ℕ, false, not, List, [], ◌∷◌, ◌++◌, map, refl, sym, ap, subst, inl, inr}
use Rattle.std.specs.Prelude.{Option, Some, None, filter, ◌≤◌}
use Rattle.std.specs.List.{filter_map, cons_option}
use Rattle.tmm_model.specs.declared.changes.Changes.{Changes as CodeChanges}
use Rattle.tmm_model.specs.declared.premise.Edit.{Edit}
use Rattle.tmm_model.specs.declared.premise.Edit.TheVariants.{Add, Erase, Horizon, Upgrade}
use Rattle.tmm_model.specs.declared.premise.Premise.{Premise}
use Rattle.tmm_model.specs.declared.premise.Premise.TheVariants.{Class, Kind, Point, Event, Token, Span, Dist, Rule, Protect, Against}
use Rattle.tmm_model.specs.Answers.{broken, reports, report_of, most_size}
use Rattle.tmm_model.specs.Changes.{changes, delta_of, protection_name, is_broken}
use Rattle.tmm_model.specs.Edits.{next_list}
use Rattle.tmm_model.specs.Maps.{TimeMap, built}
use Rattle.tmm_model.specs.Moments.{Moment}
use Rattle.tmm_model.specs.Standing.{Standing}
use Rattle.list_theory.proofs.Elements.{In}
use Rattle.list_theory.proofs.Erasure.{kept_before}
use Rattle.spots.specs.Forest.{Forest}
use Rattle.spots.specs.OfLists.{HasOccurrences}
use Rattle.revisions.specs.Alike.{AreAlike, BelieveAlike}
use Rattle.revisions.proofs.Alike.{alike_believe}
use Rattle.protections.specs.Found.{AreFound}
use Rattle.list_theory.specs.LeftOut.{IsLeftOut}
use Rattle.map_engine.specs.Reads.{Read, IsReadOf}
use Rattle.map_engine.specs.Nexts.{IsUnguarded, is_protection, adds_protection}
use Rattle.map_engine.proofs.Reading.{rows_still}
use Rattle.belief_list.proofs.WholeChanges.{told}

-- ---- what is read of the nodes

-- the nodes of what is believed after the edit are those of what was believed
pub holds_before : (s t : Standing) (f : Forest) → AreAlike s t → HasOccurrences (built t).believed f → HasOccurrences (built s).believed f
holds_before s t f alike holds = subst (λ (b : List Moment). HasOccurrences b f) (sym (alike_believe s t alike).0.believed) holds

-- of the same nodes the same is read, protections aside
pub read_still : (s t : Standing) (f : Forest) (r r_after : Read) → HasOccurrences (built s).believed f
    → IsReadOf s f r → AreAlike s t → r_after ≡ record r { broken = r_after.broken } → AreFound (reports (built t)) r_after.broken → IsReadOf t f r_after
read_still s t f r r_after holds old alike is told =
    let same : BelieveAlike s t = (alike_believe s t alike).0 in
    subst (IsReadOf t f) (sym is)
    (record {
      rows = rows_still s t alike f r.rows holds old.rows;
      broken = told;
      counted = old.counted ∙ same.sized;
      small = subst (λ (n : ℕ). n ≤ most_size) same.sized old.small;
    })

-- ---- protections

-- where no protection stands, none is broken
none_broken : (m : TimeMap) (ps : List Premise) → filter_map protection_name ps ≡ [] → filter_map (broken m) ps ≡ []
none_broken m [] none = refl
none_broken m (Class name facts ∷ ps) none = none_broken m ps none
none_broken m (Kind name ∷ ps) none = none_broken m ps none
none_broken m (Point name ∷ ps) none = none_broken m ps none
none_broken m (Event name kind ∷ ps) none = none_broken m ps none
none_broken m (Token name fact ∷ ps) none = none_broken m ps none
none_broken m (Span name fact ∷ ps) none = none_broken m ps none
none_broken m (Dist name from to lo hi ∷ ps) none = none_broken m ps none
none_broken m (Rule name trigger lo hi effect given unless_facts ∷ ps) none = none_broken m ps none
none_broken m (Protect name fact from to ∷ ps) none = cc
none_broken m (Against name one other ∷ ps) none = none_broken m ps none

pub none_reported : (s : Standing) → IsUnguarded s → reports (built s) ≡ []
none_reported s none = none_broken (built s) s.premises none

-- members alone tell whether a protection stands
each_unguarded : (ps : List Premise) → filter_map protection_name ps ≡ [] → (p : Premise) → In p ps → protection_name p ≡ None
each_unguarded [] none p at = absurd at
each_unguarded (q ∷ ps) none p at = by (protection_name q) refl none (each_unguarded ps) at
  where
    by : (o : Option (List ℕ)) → protection_name q ≡ o → cons_option o (filter_map protection_name ps) ≡ []
        → (filter_map protection_name ps ≡ [] → (r : Premise) → In r ps → protection_name r ≡ None) → In p (q ∷ ps) → protection_name p ≡ None
    by None e none again (inl is) = ap protection_name (sym is) ∙ e
    by None e none again (inr at) = again none p at
    by (Some name) e none again at = cc

all_unguarded : (ps : List Premise) → ((p : Premise) → In p ps → protection_name p ≡ None) → filter_map protection_name ps ≡ []
all_unguarded [] h = refl
all_unguarded (p ∷ ps) h = ap (λ o. cons_option o (filter_map protection_name ps)) (h p (inl refl)) ∙ all_unguarded ps (λ q at. h q (inr at))

no_name : (p : Premise) → is_protection p ≡ false → protection_name p ≡ None
no_name (Class name facts) e = refl
no_name (Kind name) e = refl
no_name (Point name) e = refl
no_name (Event name kind) e = refl
no_name (Token name fact) e = refl
no_name (Span name fact) e = refl
no_name (Dist name from to lo hi) e = refl
no_name (Rule name trigger lo hi effect given unless_facts) e = refl
no_name (Protect name fact from to) e = cc
no_name (Against name one other) e = refl

added_unguarded : (ps : List Premise) (p : Premise) → is_protection p ≡ false → filter_map protection_name ps ≡ [] → filter_map protection_name (ps ++ p ∷ []) ≡ []
added_unguarded [] p e none = ap (λ o. cons_option o []) (no_name p e)
added_unguarded (q ∷ ps) p e none = by (protection_name q) none (added_unguarded ps p e)
  where
    by : (o : Option (List ℕ)) → cons_option o (filter_map protection_name ps) ≡ [] → (filter_map protection_name ps ≡ [] → filter_map protection_name (ps ++ p ∷ []) ≡ [])
        → cons_option o (filter_map protection_name (ps ++ p ∷ [])) ≡ []
    by None none again = again none
    by (Some name) none again = cc

-- an edit that adds no protection leaves none where none stood
pub still_unguarded : (s : Standing) (edit : Edit) → adds_protection edit ≡ false → IsUnguarded s → IsUnguarded (next_list s edit)
still_unguarded s (Add p) e none = added_unguarded s.premises p e none
still_unguarded s (Erase name) e none = all_unguarded (next_list s (Erase name)).premises (λ p at. each_unguarded s.premises none p (kept_before name [] s.premises p at))
still_unguarded s (Horizon n) e none = none
still_unguarded s Upgrade e none = none

-- ---- what is told

module _ (s t : Standing) (alike : AreAlike s t) (c : CodeChanges) (left_out : IsLeftOut s t c.erased.items)
    (left : c.left.items ≡ []) (entered : c.entered.items ≡ []) (loose : c.loose.items ≡ []) (clips : c.clips.items ≡ []) where
  pub told_still : map report_of c.broken.items ≡ (changes s t).broken → c.mended.items ≡ (changes s t).mended → delta_of c ≡ changes s t
  told_still newly_broken mended =
      let none = (alike_believe s t alike).1 in
      told s t c left_out
      (ap (map _) left ∙ sym none.left)
      (ap (map _) entered ∙ sym none.entered)
      (ap (map _) loose ∙ sym none.loose)
      (ap (map _) clips ∙ sym none.clips)
      newly_broken mended

  pub told_unguarded : IsUnguarded t → c.broken.items ≡ [] → c.mended.items ≡ [] → delta_of c ≡ changes s t
  told_unguarded none newly_broken mended =
      told_still
      (ap (map report_of) newly_broken ∙ ap (filter (λ r. not (is_broken (built s) r.0))) (sym (none_reported t none)))
      (mended ∙ ap (filter _) (sym none))
