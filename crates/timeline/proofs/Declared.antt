-- What premises declare: points that a question may name, and what occurs.
use Rattle.std.proofs.Common.{◌≡◌, ◌≢◌, ◌∙◌, ℕ, Bool, true, false, List, [], ◌∷◌, ◌++◌, cond, refl, sym, ap, subst, inl, inr, append_assoc}
use Rattle.std.specs.Prelude.{Option, Some, None, codes}
use Rattle.std.specs.List.{list_any}
use Rattle.std.specs.Map.{lookup}
use Rattle.std.specs.Option.{option_map, option_or}
use Rattle.std.specs.Cmp.Lexicographic.{bytes_decides}
use Rattle.std.proofs.lemmas.Grind.{flat_map-append}
use Rattle.tmm_model.specs.declared.point.PointName.{PointName}
use Rattle.tmm_model.specs.declared.point.PointName.TheVariants.{Begin}
use Rattle.tmm_model.specs.declared.premise.Premise.{Premise}
use Rattle.tmm_model.specs.declared.premise.Premise.TheVariants.{Class, Kind, Point, Event, Token, Span, Dist, Rule, Protect, Against}
use Rattle.tmm_model.specs.declared.token.Shape.{Shape}
use Rattle.tmm_model.specs.Beliefs.{as_root, root_of, roots, is_of, token_at}
use Rattle.tmm_model.specs.Lines.{IsName, IsWellFormedPoint}
use Rattle.tmm_model.specs.Maps.{built}
use Rattle.tmm_model.specs.Moments.{At}
use Rattle.tmm_model.specs.Points.{same_name}
use Rattle.tmm_model.specs.Sorts.{a_fact, is_reserved, is_place, declarations_of, declarations_in, sort_in}
use Rattle.tmm_model.specs.Standing.{Standing, name_of, points_of}
use Rattle.tmm_model.specs.Verdicts.{ill_sorted, place_cause, name_cause, end_cause, words_known, first_taken}
use Rattle.list_theory.specs.WellNamed.{AllFollow, IsSound}
use Rattle.list_theory.proofs.Elements.{In, Contains-from_In, filter_map-In}
use Rattle.list_theory.proofs.KnownNames.{found, own_new}
use Rattle.list_theory.proofs.Places.{first_declared}
use Rattle.list_theory.proofs.WellNamed.{first_taken-none, lookup-append, lookup-unknown}
use Rattle.belief_theory.specs.Right.{Occurs}
use Rattle.premise_list.specs.Words.{own_sort, facts_of}
use Rattle.premise_list.proofs.Facts.{sort_in-cons, premise_formed}
use Rattle.timeline.specs.declared.row.Held.{Held}
use Rattle.timeline.specs.declared.row.Row.{Row}
use Rattle.timeline.specs.Days.{date}
use Rattle.timeline.specs.Rows.{moment, held_of, shape_of, IsRootRow}

-- ---- names

-- a premise's name is known as what it declares, and no word that is reserved
pub record IsOwn (premises : List Premise) (p : Premise) : Type 0 where
  pub sort : sort_in premises (name_of p) ≡ Some (own_sort p)
  pub allowed : is_reserved (name_of p) ≡ false

sort_first : (p : Premise) (ps : List Premise) → sort_in (p ∷ ps) (name_of p) ≡ Some (own_sort p)
sort_first p ps =
    sort_in-cons (name_of p) p ps
    ∙ ap (λ b. cond b (Some (own_sort p)) (cond (list_any (same_name (name_of p)) (facts_of p)) (Some a_fact) (sort_in ps (name_of p)))) ((bytes_decides (name_of p) (name_of p)).1 refl)

own_after : (earlier premises : List Premise) → AllFollow earlier premises → (p : Premise) → In p premises → IsOwn (earlier ++ premises) p
own_after earlier [] h p at = absurd at
own_after earlier (o ∷ premises) h p (inl is) = subst (IsOwn (earlier ++ o ∷ premises)) is (record {
  sort =
      ap (lookup (same_name (name_of o))) (flat_map-append declarations_of earlier (o ∷ premises))
      ∙ lookup-append (same_name (name_of o)) (declarations_in earlier) (declarations_in (o ∷ premises))
      ∙ ap (λ x. option_or x (sort_in (o ∷ premises) (name_of o))) (lookup-unknown (same_name (name_of o)) (declarations_in earlier) (own_new earlier o h.0))
      ∙ sort_first o premises;
  allowed = (
      let (rest, parted) = first_declared o in
      (first_taken-none (words_known earlier) (name_of o) rest (sym (ap (first_taken (words_known earlier)) parted) ∙ h.0.new)).allowed);
})
own_after earlier (o ∷ premises) h p (inr at) = subst (λ l. IsOwn l p) (append_assoc earlier (o ∷ []) premises) (own_after (earlier ++ o ∷ []) premises h.1 p at)

not_start : (name : List ℕ) → is_reserved name ≡ false → name ≢ codes "start"
not_start name allowed is = let never : true ≡ false = sym (ap is_reserved is) ∙ allowed in cc

-- ---- points

-- a point that a question may name
pub record IsAskable (s : Standing) (q : PointName) : Type 0 where
  pub formed : IsWellFormedPoint q
  pub declared : place_cause s.premises q ≡ None

module _ (s : Standing) (sound : IsSound s) where
  own : (p : Premise) → In p s.premises → IsOwn s.premises p
  own p at = own_after [] s.premises sound.well_named p at

  begin_askable : (p : Premise) → In p s.premises → IsName (name_of p) → is_place (own_sort p) ≡ true → IsAskable s (Begin (name_of p))
  begin_askable p at name place = record {
    formed = (name, not_start (name_of p) (own p at).allowed);
    declared = ap (λ o. name_cause o (name_of p) is_place) (own p at).sort ∙ ap (λ (b : Bool). elim b [ true ↦ None | false ↦ Some (ill_sorted (name_of p)) ]) place;
  }

  -- **Each point that a premise declares may be named.**
  pub point_askable : (p : Premise) → In p s.premises → (q : PointName) → In q (points_of p) → IsAskable s q
  point_askable (Point name) at q (inl is) = subst (IsAskable s) is (begin_askable (Point name) at (premise_formed s sound (Point name) at) refl)
  point_askable (Event name kind) at q (inl is) = subst (IsAskable s) is (begin_askable (Event name kind) at (premise_formed s sound (Event name kind) at).0 refl)
  point_askable (Token name fact) at q (inl is) = subst (IsAskable s) is (begin_askable (Token name fact) at (premise_formed s sound (Token name fact) at).0 refl)
  point_askable (Span name fact) at q (inl is) = subst (IsAskable s) is (begin_askable (Span name fact) at (premise_formed s sound (Span name fact) at).0 refl)
  point_askable (Span name fact) at q (inr (inl is)) = subst (IsAskable s) is (record {
    formed = (premise_formed s sound (Span name fact) at).0;
    declared = ap (λ o. end_cause o (name ++ codes ".end")) (own (Span name fact) at).sort;
  })
  point_askable (Point name) at q (inr none) = absurd none
  point_askable (Event name kind) at q (inr none) = absurd none
  point_askable (Token name fact) at q (inr none) = absurd none
  point_askable (Span name fact) at q (inr (inr none)) = absurd none
  point_askable (Class name facts) at q there = absurd there
  point_askable (Kind name) at q there = absurd there
  point_askable (Dist name from to lo hi) at q there = absurd there
  point_askable (Rule name trigger lo hi effect given unless_facts) at q there = absurd there
  point_askable (Protect name fact from to) at q there = absurd there
  point_askable (Against name one other) at q there = absurd there

  -- ---- what occurs

  -- the row of what a premise declares to occur
  pub root_row : (p : Premise) (row : Row) (held : Option Held) → In p s.premises → root_of p ≡ Some (At (Begin (name_of p)))
      → as_root (Some p) ≡ Some (shape_of held, row.what) → held ≡ option_map (held_of (built s)) (token_at s (At (Begin (name_of p))) (shape_of held, row.what))
      → row.held ≡ held → row.date ≡ date (built s) (At (Begin (name_of p))) → moment row ≡ At (Begin (name_of p)) → IsRootRow (built s) p row
  root_row p row held at declares kind holds held_is dated is =
      let known : is_of s (moment row) ≡ Some (shape_of held, row.what) = ap (is_of s) is ∙ ap as_root (found s.premises sound.well_named p at) ∙ kind in
      record {
        own = record {
          occurs = subst (Occurs s) (sym is) (Contains-from_In (roots s) (At (Begin (name_of p))) (filter_map-In root_of s.premises p (At (Begin (name_of p))) at declares));
          date = dated ∙ ap (date (built s)) (sym is);
          is = known ∙ ap (λ h. Some (shape_of h, row.what)) (sym held_is);
          held =
              held_is ∙ holds ∙ ap (λ x. option_map (held_of (built s)) (token_at s x (shape_of held, row.what))) (sym is)
              ∙ sym (ap (λ (o : Option (Shape × List ℕ)). option_map (held_of (built s)) (elim o [ None ↦ None | Some y ↦ token_at s (moment row) y ])) known);
        };
        is = declares ∙ ap Some (sym is);
      }
