-- Rows that are found by numbers.
use Rattle.std.proofs.Common.{◌≡◌, ℕ, ◌+◌, ◌<◌, Bool, true, false, List, map, length, set, refl, sym, ◌∙◌, ap, subst, arith, inl, inr, nat_eq}
use Rattle.std.specs.Prelude.{Option, Some, None, IfSome}
use Rattle.std.specs.Option.{option_and_then, option_eq, option_map, is_none}
use Rattle.std.specs.List.{Contains}
use Rattle.std.proofs.lemmas.List.Elements.{All-contains}
use Rattle.std.proofs.lemmas.Bool.{cases_eq}
use Rattle.std.proofs.lemmas.List.{get_or-set_same, get_or-set_other}
use Rattle.tmm_model.specs.Answers.{Row}
use Rattle.tmm_model.specs.Moments.{Moment, same_moment}
use Rattle.list_theory.proofs.Elements.{In, map-In, In-from_Contains, Contains-from_In}
use Rattle.belief_theory.proofs.Moments.{Decides-same_moment}
use Rattle.spots.specs.Forest.{Forest, IsLive, IsFound, moment_at}
use Rattle.spots.proofs.Nodes.{node_at, live_at, moment_at-is}
use Rattle.belief_list.specs.declared.list.BeliefRow.{BeliefRow}
use Rattle.belief_list.specs.Rows.{row_at, IsLiveRow, IsListing}
use Rattle.belief_list.specs.Compared.{row_in, clip_in}
use Rattle.belief_list.specs.Matches.{IsMatch, AreMatched}
use Rattle.belief_list.specs.Tables.{place_in, item_at, item_under, IsTable}
use Rattle.belief_list.proofs.Tables.{at-In, under_own, under_all}
use Rattle.belief_list.proofs.Lookups.{no_row, one_found, row_in-own, same_clip}

-- ---- rows for an occurrence

numbered : (rows : List BeliefRow) (r : BeliefRow) (x : ℕ) → In r rows → r.node ≡ x → Contains (map (λ r. r.node) rows) x
numbered rows r x there same = Contains-from_In (map (λ (w : BeliefRow). w.node) rows) x (subst (λ n. In n (map (λ (w : BeliefRow). w.node) rows)) same (map-In (λ (w : BeliefRow). w.node) rows r there))

module _ (f : Forest) (rows : List BeliefRow) (listing : IsListing f rows) (k : Moment) (place : Option ℕ) where
  match_some : (r : BeliefRow) → item_at rows place ≡ Some r → moment_at f r.node ≡ k → IsMatch k f rows place
  match_some r at is = ap (option_map (row_at f)) at ∙ sym (one_found f rows listing r k (at-In rows place r at) is)

  match_none : item_at rows place ≡ None → ((r : BeliefRow) → In r rows → moment_at f r.node ≡ k → ⊥) → IsMatch k f rows place
  match_none at apart = ap (option_map (row_at f)) at ∙ sym (no_row f rows listing k apart)

-- the row of the node that is found
pub match_found : (f : Forest) (k : Moment) (found : Option ℕ) → IsFound f k found → (rows : List BeliefRow) (places : List (Option ℕ)) → IsListing f rows → IsTable (map (λ r. r.node) rows) places
    → IsMatch k f rows (option_and_then (place_in places) found)
match_found f k None none rows places listing table = match_none f rows listing k None refl apart
  where
    apart : (r : BeliefRow) → In r rows → moment_at f r.node ≡ k → ⊥
    apart r at is =
        let (m, here) = node_at f r.node (All-contains (IsLiveRow f) rows r listing.live (Contains-from_In rows r at)).node in
        none r.node m here (sym (moment_at-is f r.node m here) ∙ is)
match_found f k (Some y) (m, here, is) rows places listing table =
    let (r, there, same) = listing.all y (live_at f y m here) in
    let (q, under) = under_all (λ (w : BeliefRow). w.node) rows places table y (numbered rows r y (In-from_Contains rows r there) same) in
    match_some f rows listing k (place_in places y) q under (ap (moment_at f) (under_own (λ (w : BeliefRow). w.node) rows places table y q under) ∙ moment_at-is f y m here ∙ is)

-- a place for one number more
pub matched_more : (f other : Forest) (rows : List BeliefRow) (places : List (Option ℕ)) (x : ℕ) (place : Option ℕ) → (IsLive f x → x < length places) → (IsLive f x → IsMatch (moment_at f x) other rows place)
    → ((y : ℕ) → y < x → IsLive f y → IsMatch (moment_at f y) other rows (place_in places y))
    → (y : ℕ) → y < x + 1 → IsLive f y → IsMatch (moment_at f y) other rows (place_in (set places x place) y)
matched_more f other rows places x place room own first y below live = elim (cases_eq y x) [
  | inl same ↦
      let live_x = subst (IsLive f) same live in
      let here : place ≡ place_in (set places x place) y = sym (get_or-set_same places x place None (room live_x)) ∙ ap (place_in (set places x place)) (sym same) in
      let there : moment_at f x ≡ moment_at f y = ap (moment_at f) (sym same) in
      subst (λ k. IsMatch k other rows (place_in (set places x place) y)) there (subst (IsMatch (moment_at f x) other rows) here (own live_x))
  | inr apart ↦ subst (IsMatch (moment_at f y) other rows) (sym (get_or-set_other places x y place None apart)) (first y (omega arith) live)
]

-- ---- what matched rows tell

module _ (f other : Forest) (rows : List BeliefRow) (places : List (Option ℕ)) (matched : AreMatched f other rows places) where
  -- an occurrence is listed where there is a row
  pub listed_is : (x : ℕ) → IsLive f x → is_none (row_in (map (row_at other) rows) (moment_at f x)) ≡ is_none (item_under rows places x)
  listed_is x live = ap is_none (sym (matched.same x live)) ∙ by (item_under rows places x)
    where
      by : (o : Option BeliefRow) → is_none (option_map (row_at other) o) ≡ is_none o
      by None = refl
      by (Some r) = refl

  -- what clips it there
  pub clip_is : (x : ℕ) → IsLive f x → clip_in (map (row_at other) rows) (moment_at f x) ≡ option_map (moment_at other) (option_and_then (λ r. r.clip) (item_under rows places x))
  clip_is x live = ap (option_and_then (λ (r : Row). r.clip)) (sym (matched.same x live)) ∙ by (item_under rows places x)
    where
      by : (o : Option BeliefRow) → option_and_then (λ (r : Row). r.clip) (option_map (row_at other) o) ≡ option_map (moment_at other) (option_and_then (λ r. r.clip) o)
      by None = refl
      by (Some r) = refl

  live_clip : (x : ℕ) → IfSome (option_and_then (λ r. r.clip) (item_under rows places x)) (IsLive other)
  live_clip x = by (item_under rows places x) refl
    where
      by : (o : Option BeliefRow) → item_under rows places x ≡ o → IfSome (option_and_then (λ r. r.clip) o) (IsLive other)
      by None e = tt
      by (Some r) e = (All-contains (IsLiveRow other) rows r matched.listing.live (Contains-from_In rows r (at-In rows (place_in places x) r e))).clip

  -- by a node that has a row there
  pub clip_of_row : (x by : ℕ) (r : BeliefRow) → IsLive f x → IsLive f by → item_under rows places by ≡ Some r
      → option_eq nat_eq (option_and_then (λ r. r.clip) (item_under rows places x)) (Some r.node) ≡ option_eq same_moment (clip_in (map (row_at other) rows) (moment_at f x)) (Some (moment_at f by))
  clip_of_row x by r live live_by at =
      let there = Contains-from_In rows r (at-In rows (place_in places by) r at) in
      let live_row = (All-contains (IsLiveRow other) rows r matched.listing.live there).node in
      let own : moment_at other r.node ≡ moment_at f by = row_in-own (map (row_at other) rows) (moment_at f by) (row_at other r) (sym (matched.same by live_by) ∙ ap (option_map (row_at other)) at) in
      same_clip other (option_and_then (λ r. r.clip) (item_under rows places x)) r.node matched.listing.apart (live_clip x) live_row
      ∙ ap (λ o. option_eq same_moment o (Some (moment_at other r.node))) (sym (clip_is x live))
      ∙ ap (λ k. option_eq same_moment (clip_in (map (row_at other) rows) (moment_at f x)) (Some k)) own

  -- a node that has no row there clips nothing
  pub clip_of_none : (x by : ℕ) → IsLive f x → IsLive f by → item_under rows places by ≡ None → false ≡ option_eq same_moment (clip_in (map (row_at other) rows) (moment_at f x)) (Some (moment_at f by))
  clip_of_none x by live live_by none =
      each (option_and_then (λ r. r.clip) (item_under rows places x)) (live_clip x)
      ∙ ap (λ o. option_eq same_moment o (Some (moment_at f by))) (sym (clip_is x live))
    where
      unlisted : row_in (map (row_at other) rows) (moment_at f by) ≡ None
      unlisted = sym (matched.same by live_by) ∙ ap (option_map (row_at other)) none

      apart : (y : ℕ) → IsLive other y → moment_at other y ≡ moment_at f by → ⊥
      apart y live_y is =
          let (r, there, same) = matched.listing.all y live_y in
          let listed = one_found other rows matched.listing r (moment_at f by) (In-from_Contains rows r there) (ap (moment_at other) same ∙ is) in
          let no : None ≡ Some (row_at other r) = sym unlisted ∙ listed in
          cc

      each : (clip : Option ℕ) → IfSome clip (IsLive other) → false ≡ option_eq same_moment (option_map (moment_at other) clip) (Some (moment_at f by))
      each None live_y = refl
      each (Some y) live_y = one (same_moment (moment_at other y) (moment_at f by)) refl
        where
          one : (b : Bool) → same_moment (moment_at other y) (moment_at f by) ≡ b → false ≡ b
          one false e = refl
          one true e = absurd (apart y live_y ((Decides-same_moment (moment_at other y) (moment_at f by)).0 e))
