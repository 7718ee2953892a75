-- The faults of a token at a place of the first list of its fact.
use Rattle.std.proofs.Common.{◌≡◌, ◌∙◌, ℕ, ◌<◌, false, List, length, sym, ap, subst}
use Rattle.std.specs.Prelude.{Some, None, IfSome, slice_get, slice_index_or}
use Rattle.std.specs.Option.{ForSome}
use Rattle.std.proofs.lemmas.List.{get_or_read}
use Rattle.std.proofs.lemmas.Option.{slice_get-get_or}
use Rattle.tmm_model.specs.declared.token.TokenRow.{TokenRow}
use Rattle.tmm_model.specs.Answers.{Fault, fault, late, clipped, ends}
use Rattle.tmm_model.specs.Beliefs.{are_rivals, token_of, holder}
use Rattle.tmm_model.specs.Moments.{Moment}
use Rattle.tmm_model.specs.Standing.{Standing, far_in}
use Rattle.tmm_model.specs.Tokens.{supports}
use Rattle.list_theory.proofs.Elements.{In}
use Rattle.supports.specs.Entries.{fact_at, node_at}
use Rattle.supports.proofs.BranchesEntering.{spot_is}
use Rattle.clipping.specs.declared.across.Place.{Place}
use Rattle.clipping.specs.declared.across.Fault.{Fault as PlaceFault}
use Rattle.clipping.specs.declared.across.Fault.TheVariants.{Late, Clipped, Ends}
use Rattle.clipping.specs.Across.{all_of, at_place, IsPlace, IsFault}
use Rattle.clipping.specs.Rivals.{of_rivals}
use Rattle.dist_net.specs.Net.{Net}
use Rattle.spots.specs.declared.spot.Spot.{Spot}
use Rattle.spots.specs.Forest.{Forest, moment_at}
use Rattle.spots.specs.OfLists.{IsForestOf, HasOccurrences, map_of}
use Rattle.spots.specs.Spots.{IsSpot, AreTokens, spot_moment, spot_distance, spot_cmp, row_moment}
use Rattle.supports.specs.ClassTokens.{class_lists}
use Rattle.supports.proofs.AmongLists.{no_support_among, late_among, ends_among, clipped_among}
use Rattle.supports.proofs.Answered.{row_at}
use Rattle.supports.proofs.ClassClips.{class_here}
use Rattle.supports.proofs.TokenRows.{no_row, at_place as row_in, row_token}

-- the token at a place of a class's rows, which are those of its own class
pub record IsOwnPlace (rows_in : List ℕ → List (TokenRow Spot)) (rows : List (TokenRow Spot)) (at : ℕ) (row : TokenRow Spot) : Type 0 where
  pub rows_are : rows ≡ rows_in row.class
  pub within : at < length (rows_in row.class)
  pub fact_is : fact_at (rows_in row.class) at ≡ row.fact

pub own_place : (f : Forest) (rows_in : List ℕ → List (TokenRow Spot)) → ((class : List ℕ) → AreTokens f class (rows_in class)) → (rows : List (TokenRow Spot)) → (class : List ℕ) × (rows ≡ rows_in class)
    → (at : ℕ) → at < length rows → (row : TokenRow Spot) → row ≡ slice_index_or rows at row → IsOwnPlace rows_in rows at row
own_place f rows_in are rows (class, is) at lt row read = record { rows_are = own; within = subst (λ rows. at < length rows) own lt; fact_is = fact }
  where
    own : rows ≡ rows_in row.class
    own = is ∙ ap rows_in (sym (ap (λ r. r.class) read ∙ class_here f class rows (subst (AreTokens f class) (sym is) (are class)) at row lt))

    fact : fact_at (rows_in row.class) at ≡ row.fact
    fact = subst (λ rows. fact_at rows at ≡ row.fact) own (ap (λ (r : TokenRow Spot). r.fact) (sym (get_or_read rows at row lt read no_row)))

module _ (s : Standing) (net : Net) (f : Forest) (rows_in : List ℕ → List (TokenRow Spot)) (fact class : List ℕ) where
  abbrev lists : List (List (TokenRow Spot))
  lists = class_lists s rows_in fact class

  abbrev rows : List (TokenRow Spot)
  rows = rows_in class

  abbrev IsFaultHere : ℕ → Spot → Spot → PlaceFault → Type 0
  IsFaultHere at p q cause = IfSome (slice_get rows at) (λ row. IsFault (of_rivals (are_rivals s)) (spot_distance net f) (spot_cmp net f) lists row p q cause)

  -- what cuts it stands at a place
  pub cutter_placed : (at : ℕ) (p q : Spot) (c : Place) → at < length rows → IsFaultHere at p q (Clipped c) → IsPlace lists c
  cutter_placed at p q c lt h = let first = (row_at rows at (λ row. IsFault (of_rivals (are_rivals s)) (spot_distance net f) (spot_cmp net f) lists row p q (Clipped c)) lt h).2 in record { list = first.list; within = first.within }

  module _ (seen : IsForestOf s net f) (are : (class : List ℕ) → AreTokens f class (rows_in class)) (at : ℕ) (lt : at < length rows) (is_fact : fact_at rows at ≡ fact) where
    there : In (slice_index_or rows at no_row) rows
    there = row_in seen (are class) at no_row lt

    -- where no token supports the fact, it does not
    pub no_support_here : (p q : Spot) → IsSpot net.names f p → IsSpot net.names f q → (b : List Moment) → HasOccurrences b f → holder s (far_in s.premises) b fact (spot_moment net.names f p) (spot_moment net.names f q) ≡ None
        → ForSome (slice_get rows at) (λ row. supports (of_rivals (are_rivals s)) (spot_distance net f) (all_of lists) row.fact p q row ≡ false)
    no_support_here p q at_p at_q b holds none row is =
        let same : Some (slice_index_or rows at no_row) ≡ Some row = sym (slice_get-get_or rows at no_row lt) ∙ is in
        let one : slice_index_or rows at no_row ≡ row = cc in
        subst (λ k. supports (of_rivals (are_rivals s)) (spot_distance net f) (all_of lists) k.fact p q k ≡ false) one
        (ap (λ w. supports (of_rivals (are_rivals s)) (spot_distance net f) (all_of lists) w p q (slice_index_or rows at no_row)) is_fact
        ∙ no_support_among seen holds rows_in are fact class p q at_p at_q (slice_index_or rows at no_row) there none)

    -- the fault by the place of the first that cuts
    abbrev pub fault_by : PlaceFault → Fault
    fault_by Late = late
    fault_by (Clipped c) = clipped (spot_moment net.names f (at_place lists c no_row).spot)
    fault_by Ends = ends

    -- **Its fault** by the place of the first that cuts it.
    pub fault_here : (p q : Spot) → IsSpot net.names f p → IsSpot net.names f q → (cause : PlaceFault) → IsFaultHere at p q cause
        → (b : List Moment) (k : TokenRow Moment) → HasOccurrences b f → token_of s (moment_at f (node_at rows at)) ≡ Some k
        → fault (map_of s b) (spot_moment net.names f p) (spot_moment net.names f q) k ≡ fault_by cause
    fault_here p q at_p at_q cause h b k holds token =
        let same : Some k ≡ Some (row_moment net.names f (slice_index_or rows at no_row)) = sym token ∙ row_token seen (are class) (node_at rows at) (slice_index_or rows at no_row) there (spot_is f class rows (are class) at lt) in
        let one : k ≡ row_moment net.names f (slice_index_or rows at no_row) = cc in
        ap (fault (map_of s b) (spot_moment net.names f p) (spot_moment net.names f q)) one
        ∙ by cause (row_at rows at (λ row. IsFault (of_rivals (are_rivals s)) (spot_distance net f) (spot_cmp net f) lists row p q cause) lt h)
      where
        by : (cause : PlaceFault) → IsFault (of_rivals (are_rivals s)) (spot_distance net f) (spot_cmp net f) lists (slice_index_or rows at no_row) p q cause
            → fault (map_of s b) (spot_moment net.names f p) (spot_moment net.names f q) (row_moment net.names f (slice_index_or rows at no_row)) ≡ fault_by cause
        by Late h = late_among seen holds rows_in are fact class (slice_index_or rows at no_row) there is_fact p q at_p at_q h
        by (Clipped c) (sure, persists, first) = clipped_among seen holds rows_in are fact class (slice_index_or rows at no_row) there is_fact p q at_p at_q sure persists c first no_row
        by Ends (sure, span) = ends_among seen holds rows_in are fact class (slice_index_or rows at no_row) there is_fact p q at_p at_q sure span
