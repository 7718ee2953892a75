-- What an edit makes of rows: those of nodes that it did not touch stay, and with all differences
-- the rows are those of the list after it.
use Rattle.std.proofs.Common.{◌≡◌, ℕ, Bool, true, false, not, ◌||◌, List, refl, sym, ◌∙◌, ap, subst, inl, inr, arith}
use Rattle.std.proofs.lemmas.Bool.{or_cases}
use Rattle.std.proofs.lemmas.Int.{ints}
use Rattle.std.specs.Prelude.{◌⊎◌, ◌<ℤ◌, ◌≤ℤ◌, Option, Some, None, IfSome}
use Rattle.std.specs.List.{Contains, list_any}
use Rattle.std.specs.Option.{is_some, option_map, option_and_then}
use Rattle.std.specs.Cmp.Lexicographic.{bytes_decides}
use Rattle.tmm_model.specs.declared.premise.Edit.{Edit}
use Rattle.tmm_model.specs.declared.token.TokenRow.{TokenRow}
use Rattle.tmm_model.specs.Answers.{row, clip, clip_of, first_believed, weight}
use Rattle.tmm_model.specs.Beliefs.{class_of, token_of, are_rivals, contradicts_in}
use Rattle.tmm_model.specs.Edits.{next_list}
use Rattle.tmm_model.specs.Maps.{TimeMap, built, gap, believed_tokens}
use Rattle.tmm_model.specs.Moments.{Moment}
use Rattle.tmm_model.specs.Points.{same_name}
use Rattle.tmm_model.specs.Sorts.{class_in}
use Rattle.tmm_model.specs.Standing.{Standing, points_in}
use Rattle.tmm_model.specs.Tokens.{of_one_class, is_before, clips}
use Rattle.list_theory.proofs.Elements.{In, both, In-filter_map, In-from_Contains, Contains-from_In, list_any-In, In-list_any}
use Rattle.belief_theory.specs.Right.{Occurs}
use Rattle.belief_theory.proofs.Rivals.{contradict_in_class}
use Rattle.belief_theory.proofs.Watched.{class-token_of}
use Rattle.belief_theory.proofs.OneRight.{spot-token_of}
use Rattle.belief_theory.proofs.Outcomes.{first_token_in}
use Rattle.premise_list.specs.States.{States}
use Rattle.dist_net.specs.Net.{Net, Nets, IsMovedAt}
use Rattle.net_theory.specs.KeptNumbers.{PointsKeepNumbers}
use Rattle.spots.specs.declared.spot.Spot.{Spot}
use Rattle.spots.specs.declared.spot.Spot.TheVariants.{Declared, Node}
use Rattle.spots.specs.Forest.{Forest, Member, member, IsLive, moment_at}
use Rattle.spots.specs.OfLists.{IsForestOf, HasOccurrences}
use Rattle.spots.specs.Spots.{AreTokens, token_row, row_moment, node_early}
use Rattle.spots.proofs.Nodes.{node_at, live_at, moment_at-is}
use Rattle.spots.proofs.Rows.{member_of_token, token_is}
use Rattle.spots.proofs.Seen.{early_is, occurs_at}
use Rattle.occ_tree.specs.Dated.{IsDatedBy}
use Rattle.occ_tree.specs.Standing.{Kept, forest, present, committed}
use Rattle.occ_tree.specs.Touched.{IsAtMoved, IsUntouched}
use Rattle.supports.specs.Apart.{IsApart}
use Rattle.supports.specs.Edited.{old_forest, IsEdited}
use Rattle.supports.proofs.Answered.{event_unclipped}
use Rattle.revisions.proofs.Tokens.{tokens_stay}
use Rattle.revisions.proofs.Names.{class_kept}
use Rattle.belief_list.specs.AsBefore.{StandsAsBefore}
use Rattle.belief_list.proofs.KeptClips.{same_clipper, date_unmoved, keeps_near}
use Rattle.belief_list.proofs.KnownFacts.{token_classed}
use Rattle.belief_list.specs.declared.kept_rows.KeptRow.{KeptRow}
use Rattle.belief_list.specs.declared.kept_rows.Difference.{Difference}
use Rattle.belief_list.specs.KeptRows.{row_under, IsRowOf, AreRowsOf, rows_after, CoverTouched, AreDifferences}
use Rattle.belief_list.specs.Told.{clip_of as clip_kept}
use Rattle.belief_list.specs.Finding.{IsClipNow, IsNow, IsNowUnder, KeepsClip, MayClip, mark_under, AreClassesSettled, AreFound}
use Rattle.belief_list.proofs.Finding.{after_none, not_told}
use Rattle.belief_list.proofs.Ordered.{row_is}

-- ---- tokens and their classes

-- where a class has the same tokens in two forests, a node that is one in the one is one in the
-- other
token_in : (f g : Forest) (class : List ℕ) (old new : List (TokenRow Spot)) → AreTokens f class old → AreTokens g class new → new ≡ old
    → (y : ℕ) (n : Member) → member f y ≡ Some n → n.class ≡ Some class → (m : Member) × (member g y ≡ Some m) × (m.class ≡ Some class)
token_in f g class old new are_f are_g same y n here of =
    let token : TokenRow Spot = record { spot = Node y; end = option_map Declared n.end; fact = n.what; class = class } in
    let is : token_row y n ≡ Some token = rw of refl in
    let there : Contains new token = subst (λ l. Contains l token) (sym same) (are_f.all y n token here is refl) in
    let (z, m, own, one) = member_of_token g class new are_g token there in
    let spot : Node y ≡ Node z = own.spot in
    let node : y ≡ z = cc in
    (m, ap (member g) node ∙ own.here, own.class)

-- the token that a node is has the class of the node
module _ (s : Standing) (net : Net) (f : Forest) (seen : IsForestOf s net f) (y : ℕ) (n : Member) (here : member f y ≡ Some n) where
  abbrev as_token : Option (List ℕ) → Option (TokenRow Moment)
  as_token o = option_map (row_moment net.names f) (option_map (λ class. record { spot = Node y; end = option_map Declared n.end; fact = n.what; class = class }) o)

  token_there : token_of s (moment_at f y) ≡ as_token n.class
  token_there = ap (token_of s) (moment_at-is f y n here) ∙ token_is s net f seen y n here

  no_token : n.class ≡ None → token_of s (moment_at f y) ≡ None
  no_token of = token_there ∙ ap as_token of

  class_of_token : (k : TokenRow Moment) → token_of s (moment_at f y) ≡ Some k → n.class ≡ Some k.class
  class_of_token k is = by n.class (sym token_there ∙ is)
    where
      by : (o : Option (List ℕ)) → as_token o ≡ Some k → o ≡ Some k.class
      by None e = absurd (cc e)
      by (Some class) e = ap (λ (z : Option (TokenRow Moment)). option_map (λ (k : TokenRow Moment). k.class) z) e

-- **What clips a token is a token that contradicts it.**
clip_contradicts : (m : TimeMap) (x c : Moment) (k : TokenRow Moment) → token_of m.list x ≡ Some k → clip m x ≡ Some c → (d : TokenRow Moment) × (token_of m.list c ≡ Some d) × (contradicts_in m.list k d ≡ true)
clip_contradicts m x c k token e = by k.end (sym (ap (option_and_then (clip_of m)) token) ∙ e)
  where
    by : (o : Option Moment) → elim o as (λ _. Option Moment) [ Some end ↦ None | None ↦ first_believed m (clips (contradicts_in m.list) (gap m) k) ] ≡ Some c → (d : TokenRow Moment) × (token_of m.list c ≡ Some d) × (contradicts_in m.list k d ≡ true)
    by (Some end) e = absurd (cc e)
    by None e =
        let (d, there, passes, spot) = first_token_in m.list m.far m.believed (clips (contradicts_in m.list) (gap m) k) c e in
        let (y, on, made) = In-filter_map (token_of m.list) m.believed d there in
        (d, ap (token_of m.list) (sym spot ∙ spot-token_of m.list y d made) ∙ made, (both (contradicts_in m.list k d) (is_before (gap m) k.spot d.spot) passes).0)

-- the class of a believed token is that of its fact
own_class : (s : Standing) (c : TokenRow Moment) → In c (believed_tokens (built s)) → c.class ≡ class_of s c.fact
own_class s c at = let (y, on, made) = In-filter_map (token_of s) (built s).believed c at in class-token_of s y c made

none_mapped : (h : ℕ → Moment) (o : Option ℕ) → option_map h o ≡ None → o ≡ None
none_mapped h None e = refl
none_mapped h (Some y) e = absurd (cc e)

-- a class is among some, or it is not
is_among : (classes : List (List ℕ)) (class : List ℕ) → Contains classes class ⊎ (Contains classes class → ⊥)
is_among classes class = by (list_any (same_name class) classes) refl
  where
    by : (b : Bool) → list_any (same_name class) classes ≡ b → Contains classes class ⊎ (Contains classes class → ⊥)
    by true e =
        let (c, at, same) = list_any-In (same_name class) classes e in
        inl (Contains-from_In classes class (subst (λ z. In z classes) (sym ((bytes_decides class c).0 same)) at))
    by false e = inr (λ there.
        (let yes = In-list_any (same_name class) classes class (In-from_Contains classes class there) ((bytes_decides class class).1 refl) in
        let no : true ≡ false = sym yes ∙ e in
        absurd (cc no)))

-- ---- after an edit

module _ (lists : States) (nets : Nets) (edit : Edit) (tree : Kept) (kept : List (Option KeptRow)) (nodes : List ℕ) (classes : List (List ℕ))
    (edited : IsEdited lists nets edit tree) (before : AreRowsOf lists.committed (old_forest tree) (row_under kept)) (covered : CoverTouched lists nets tree nodes classes)
    (moved : IsMovedAt nets.moved nets.committed nets.present) (tokens : (class : List ℕ) → AreTokens (forest (present tree)) class ((present tree).tokens class))
    (dated : IsDatedBy nets.present (present tree)) where
  abbrev f : Forest
  f = old_forest tree

  abbrev g : Forest
  g = forest (present tree)

  abbrev s : Standing
  s = lists.committed

  seen_g : IsForestOf (next_list s edit) nets.present g
  seen_g = subst (λ z. IsForestOf z nets.present g) edited.list edited.seen_now

  holds_g : HasOccurrences (built (next_list s edit)).believed g
  holds_g = subst (λ (z : Standing). HasOccurrences (built z).believed g) edited.list edited.holds_now

  points : PointsKeepNumbers (points_in (next_list s edit).premises) nets.committed.names nets.present.names
  points = subst (λ (z : Standing). PointsKeepNumbers (points_in z.premises) nets.committed.names nets.present.names) edited.list edited.points

  numbers : (y : ℕ) → IsLive f y → IsLive g y → moment_at f y ≡ moment_at g y
  numbers y live_f live_g = (edited.numbers y y live_f live_g).1 refl

  -- a node of both lists has its date where neither its begin nor `start` moved
  date_stays : (y : ℕ) (m : Member) → member g y ≡ Some m → IsLive f y → (IsAtMoved nets.moved m → ⊥) → node_early nets.committed f y ≡ node_early nets.present g y
  date_stays y m here live still =
      date_unmoved s edit nets.committed nets.present nets.moved f g edited.seen_then edited.holds_then seen_g holds_g numbers points moved y m here live
      (λ there. still (inr (inl there))) (λ there. still (inl there))

  -- ---- the row that was kept

  module _ (x : ℕ) (live : IsLive f x) (r : KeptRow) (is : IsRowOf s f x r) where
    date_was : r.early ≡ node_early nets.committed f x
    date_was = ap (λ w. w.date) is.told ∙ sym (early_is s nets.committed f edited.seen_then x live)

    clip_was : option_map (moment_at f) r.clip ≡ clip (built s) (moment_at f x)
    clip_was = ap (λ w. w.clip) is.told

    -- of an event of both lists it has no clip
    event_was : (m : Member) → member g x ≡ Some m → m.class ≡ None → r.clip ≡ None
    event_was m here of =
        let live_g = live_at g x m here in
        let word = numbers x live live_g in
        let occurs : Occurs s (moment_at g x) = subst (Occurs s) word (occurs_at s nets.committed f edited.seen_then x live) in
        let stays = tokens_stay s edit edited.seen_then.network.sound seen_g.network.sound (moment_at g x) occurs (occurs_at (next_list s edit) nets.present g seen_g x live_g) in
        let none : token_of s (moment_at f x) ≡ None = ap (token_of s) word ∙ stays ∙ no_token (next_list s edit) nets.present g seen_g x m here of in
        none_mapped (moment_at f) r.clip (clip_was ∙ ap (option_and_then (clip_of (built s))) none)

  -- ---- a class that is untouched

  module _ (class : List ℕ) (untouched : IsUntouched nets tree class) where
    -- its tokens were those at the last commit
    was : (y : ℕ) (m : Member) → member g y ≡ Some m → m.class ≡ Some class → (n : Member) × (member f y ≡ Some n) × (n.class ≡ Some class)
    was = token_in g f class ((present tree).tokens class) ((committed tree).tokens class) (tokens class) (edited.tokens_then class) (sym untouched.tokens)

    stays : (y : ℕ) (n : Member) → member f y ≡ Some n → n.class ≡ Some class → (m : Member) × (member g y ≡ Some m) × (m.class ≡ Some class)
    stays = token_in f g class ((committed tree).tokens class) ((present tree).tokens class) (edited.tokens_then class) (tokens class) untouched.tokens

    stands : (y : ℕ) (m : Member) → member g y ≡ Some m → m.class ≡ Some class → StandsAsBefore nets.committed nets.present nets.moved f g y m
    stands y m here of =
        let (n, there, _) = was y m here of in
        let live = live_at f y n there in record {
          was = live;
          unmoved = λ at. untouched.unmoved y m here of (inr (inl at));
          date = date_stays y m here live (untouched.unmoved y m here of);
        }

  -- ---- a token

  -- the token that a node of the list after the edit is
  abbrev token_now : ℕ → Member → List ℕ → TokenRow Moment
  token_now y m class = row_moment nets.present.names g (record { spot = Node y; end = option_map Declared m.end; fact = m.what; class = class })

  is_now : (y : ℕ) (m : Member) (class : List ℕ) → member g y ≡ Some m → m.class ≡ Some class → token_of (next_list s edit) (moment_at g y) ≡ Some (token_now y m class)
  is_now y m class here of = token_there (next_list s edit) nets.present g seen_g y m here ∙ ap (as_token (next_list s edit) nets.present g seen_g y m here) of

  -- it was the same before, if the node was there
  was_token : (y : ℕ) (m : Member) (class : List ℕ) → member g y ≡ Some m → m.class ≡ Some class → IsLive f y → token_of s (moment_at f y) ≡ Some (token_now y m class)
  was_token y m class here of live =
      let live_g = live_at g y m here in
      let word = numbers y live live_g in
      let occurs : Occurs s (moment_at g y) = subst (Occurs s) word (occurs_at s nets.committed f edited.seen_then y live) in
      ap (token_of s) word
      ∙ tokens_stay s edit edited.seen_then.network.sound seen_g.network.sound (moment_at g y) occurs (occurs_at (next_list s edit) nets.present g seen_g y live_g)
      ∙ is_now y m class here of

  known_now : (y : ℕ) (m : Member) (class : List ℕ) → member g y ≡ Some m → m.class ≡ Some class → class_in (next_list s edit).premises m.what ≡ Some class
  known_now y m class here of =
      token_classed (next_list s edit) seen_g.network.sound (moment_at g y) (occurs_at (next_list s edit) nets.present g seen_g y (live_at g y m here)) (token_now y m class) (is_now y m class here of)

  -- ---- a token of a class that is apart

  module _ (x : ℕ) (m : Member) (class : List ℕ) (here : member g x ≡ Some m) (of : m.class ≡ Some class) (apart : IsApart (record lists { present = next_list s edit }) nets tree class) where
    abbrev new : Standing
    new = next_list s edit

    abbrev k : TokenRow Moment
    k = token_now x m class

    known : class_in new.premises m.what ≡ Some class
    known = known_now x m class here of

    was_live : IsLive f x
    was_live = let (n, there, _) = was class apart.untouched x m here of in live_at f x n there

    -- what contradicts it in both lists
    contradicts_same : (c : TokenRow Moment) → In c (believed_tokens (built s)) → In c (believed_tokens (built new)) → contradicts_in s k c ≡ contradicts_in new k c
    contradicts_same c before after = elim (apart.rivals m.what known c.fact) [
      | inl one ↦ contradict_in_class s new k c ((bytes_decides class c.class).1 (sym one.1 ∙ sym (own_class new c after)))
      | inr same ↦ (λ i. of_one_class k c || same i)
    ]

    -- what contradicts it stands as before
    near_stands : (y : ℕ) (n : Member) (c : List ℕ) → member g y ≡ Some n → n.class ≡ Some c → contradicts_in new k (token_now y n c) ≡ true → StandsAsBefore nets.committed nets.present nets.moved f g y n
    near_stands y n c at of_c contradicts = elim (or_cases (of_one_class k (token_now y n c)) (are_rivals new m.what n.what) contradicts) [
      | inl one ↦ (
          let same : class ≡ c = (bytes_decides class c).0 (both (same_name class c) (not (same_name m.what n.what)) one).0 in
          stands class apart.untouched y n at (of_c ∙ ap Some (sym same)))
      | inr rival ↦ (
          let (other, declared, untouched) = apart.of_rivals m.what known n.what rival in
          let both_are : Some other ≡ Some c = sym declared ∙ known_now y n c at of_c in
          let same : other ≡ c = cc in
          stands other untouched y n at (of_c ∙ ap Some (sym same)))
    ]

    -- a token of the list before that contradicted it is there
    clipper_class : (d : TokenRow Moment) → (z : ℕ) (n : Member) → member f z ≡ Some n → token_of s (moment_at f z) ≡ Some d → contradicts_in s k d ≡ true
        → (other : List ℕ) × (d.class ≡ other) × IsUntouched nets tree other
    clipper_class d z n there token contradicts = elim (or_cases (of_one_class k d) (are_rivals s m.what d.fact) contradicts) [
      | inl one ↦ (class, sym ((bytes_decides class d.class).0 (both (same_name class d.class) (not (same_name m.what d.fact)) one).0), apart.untouched)
      | inr rival ↦ (elim (apart.rivals m.what known d.fact) [
        | inl one ↦ (class, class-token_of s (moment_at f z) d token ∙ one.0, apart.untouched)
        | inr same ↦ (
            let (other, declared, untouched) = apart.of_rivals m.what known d.fact (sym same ∙ rival) in
            let before = token_classed s edited.seen_then.network.sound (moment_at f z) (occurs_at s nets.committed f edited.seen_then z (live_at f z n there)) d token in
            (other, class_kept s edit edited.seen_then.network.sound.well_named seen_g.network.sound.well_named d.fact d.class other before declared, untouched))
      ])
    ]

    clipper_there : (o : Option ℕ) → option_map (moment_at f) o ≡ clip (built s) (moment_at f x) → IfSome o (IsLive f)
        → (z : ℕ) → o ≡ Some z → (n : Member) × (member g z ≡ Some n) × StandsAsBefore nets.committed nets.present nets.moved f g z n
    clipper_there o clipped live z is =
        let live_z : IsLive f z = subst (λ (w : Option ℕ). IfSome w (IsLive f)) is live in
        let clipped_z : clip (built s) (moment_at f x) ≡ Some (moment_at f z) = sym clipped ∙ ap (option_map (moment_at f)) is in
        let (d, token, contradicts) = clip_contradicts (built s) (moment_at f x) (moment_at f z) k (was_token x m class here of was_live) clipped_z in
        let (n, there) = node_at f z live_z in
        let (other, of_d, untouched) = clipper_class d z n there token contradicts in
        let of_n : n.class ≡ Some other = class_of_token s nets.committed f edited.seen_then z n there d token ∙ ap Some of_d in
        let (n_now, here_now, of_now) = stays other untouched z n there of_n in
        (n_now, here_now, stands other untouched z n_now here_now of_now)

    clipper_stays : (o : Option ℕ) → option_map (moment_at f) o ≡ clip (built s) (moment_at f x) → IfSome o (IsLive f) → IfSome o (IsLive g)
    clipper_stays None clipped live = tt
    clipper_stays (Some z) clipped live = let (n, there, _) = clipper_there (Some z) clipped live z refl in live_at g z n there

    -- **Its clip stays.**
    clip_stays : (o : Option ℕ) → option_map (moment_at f) o ≡ clip (built s) (moment_at f x) → IfSome o (IsLive f) → option_map (moment_at g) o ≡ clip (built new) (moment_at g x)
    clip_stays o clipped live =
        same_clipper s edit nets.committed nets.present nets.moved f g edited.seen_then edited.holds_then seen_g holds_g numbers points moved (moment_at f x) o clipped (clipper_stays o clipped live)
        ∙ sym (keeps_near s edit nets.committed nets.present nets.moved f g edited.seen_then edited.holds_then seen_g holds_g numbers points moved x m class here of (stands class apart.untouched x m here of)
        o clipped (clipper_there o clipped live) contradicts_same (λ y n c at of_c contradicts later ahead. near_stands y n c at of_c contradicts))

  -- ---- rows of the list after the edit

  -- a clip is that of now where the list after the edit says so
  abbrev IsRightClip : ℕ → Option ℕ → Type 0
  IsRightClip x o = (option_map (moment_at g) o ≡ clip (built lists.present) (moment_at g x)) × IfSome o (IsLive g)

  -- a row with the date, the clip and the count of now
  row_now : (x : ℕ) → IsLive g x → (r : KeptRow) → r.early ≡ node_early nets.present g x → IsRightClip x r.clip → r.weight ≡ weight (built lists.present) (moment_at g x) → IsRowOf lists.present g x r
  row_now x live r date right counted = record {
    told = row_is lists.present nets.present g edited.seen_now edited.holds_now (record { early = r.early; node = x }) r.clip (record { live = live; early = date }) right.0;
    clip = right.1;
    weight = counted;
  }

  -- the clip that was kept of a token of a class that is not among those that may have been touched
  kept_clip : (x : ℕ) (m : Member) (class : List ℕ) → member g x ≡ Some m → m.class ≡ Some class → (Contains classes class → ⊥) → (r : KeptRow) → IsRowOf s f x r → IsLive f x → IsRightClip x r.clip
  kept_clip x m class here of other r is live =
      let apart : IsApart (record lists { present = next_list s edit }) nets tree class = subst (λ (z : Standing). IsApart (record lists { present = z }) nets tree class) edited.list (covered.others class other) in
      let clipped = clip_was x live r is in (
        clip_stays x m class here of apart r.clip clipped is.clip ∙ ap (λ (z : Standing). clip (built z) (moment_at g x)) (sym edited.list),
        clipper_stays x m class here of apart r.clip clipped is.clip,
      )

  -- ---- nodes that were not touched

  untouched_stands : (y : ℕ) (m : Member) → member g y ≡ Some m → (Contains nodes y → ⊥) → StandsAsBefore nets.committed nets.present nets.moved f g y m
  untouched_stands y m here free = by (member f y) refl
    where
      by : (o : Option Member) → member f y ≡ o → StandsAsBefore nets.committed nets.present nets.moved f g y m
      by None e = absurd (free (covered.entered y (live_at g y m here) e))
      by (Some n) e =
          let live = live_at f y n e in record {
            was = live;
            unmoved = λ at. free (covered.moved y m here (inr (inl at)));
            date = date_stays y m here live (λ at. free (covered.moved y m here at));
          }

  -- one of the list before is there still
  untouched_there : (y : ℕ) → IsLive f y → (Contains nodes y → ⊥) → (n : Member) × (member g y ≡ Some n) × StandsAsBefore nets.committed nets.present nets.moved f g y n
  untouched_there y live free = by (member g y) refl
    where
      by : (o : Option Member) → member g y ≡ o → (n : Member) × (member g y ≡ Some n) × StandsAsBefore nets.committed nets.present nets.moved f g y n
      by None e = absurd (free (covered.left y live e))
      by (Some n) e = (n, e, untouched_stands y n e free)

  -- the date that was kept of it is its date
  untouched_date : (y : ℕ) → IsLive f y → (Contains nodes y → ⊥) → (q : KeptRow) → row_under kept y ≡ Some q → q.early ≡ node_early nets.present g y
  untouched_date y live free q at =
      let (r, own, is) = before.own y live in
      let (n, here, stands) = untouched_there y live free in
      let same : Some q ≡ Some r = sym at ∙ own in
      let one : q ≡ r = cc in
      ap (λ (w : KeptRow). w.early) one ∙ date_was y live r is ∙ stands.date

  module _ (x : ℕ) (m : Member) (class : List ℕ) (here : member g x ≡ Some m) (of : m.class ≡ Some class) (keeps : KeepsClip lists tree nodes kept class x)
      (r : KeptRow) (at : row_under kept x ≡ Some r) (is : IsRowOf s f x r) (live : IsLive f x) where
    clipped : option_map (moment_at f) r.clip ≡ clip (built s) (moment_at f x)
    clipped = clip_was x live r is

    own_clip : clip_kept (row_under kept x) ≡ r.clip
    own_clip = ap clip_kept at

    clipper_live : (z : ℕ) → r.clip ≡ Some z → IsLive f z
    clipper_live z e = subst (λ o. IfSome o (IsLive f)) e is.clip

    there : (z : ℕ) → r.clip ≡ Some z → (n : Member) × (member g z ≡ Some n) × StandsAsBefore nets.committed nets.present nets.moved f g z n
    there z e = untouched_there z (clipper_live z e) (keeps.free z (own_clip ∙ e))

    still_there : (o : Option ℕ) → r.clip ≡ o → IfSome o (IsLive g)
    still_there None e = tt
    still_there (Some z) e = let (n, at_z, stands) = there z e in live_at g z n at_z

    -- the same facts contradict its own
    contradicts_alike : (c : TokenRow Moment) → contradicts_in s (token_now x m class) c ≡ contradicts_in (next_list s edit) (token_now x m class) c
    contradicts_alike c = λ i. of_one_class (token_now x m class) c || (keeps.rivals m here c.fact ∙ ap (λ (z : Standing). are_rivals z m.what c.fact) edited.list) i

    -- what contradicts it is of its class, or its fact is set against its own
    may_clip : (n : Member) (y : ℕ) (c : List ℕ) → n.class ≡ Some c → contradicts_in (next_list s edit) (token_now x m class) (token_now y n c) ≡ true → MayClip lists.present class m.what n
    may_clip n y c of_y contradicts = elim (or_cases (of_one_class (token_now x m class) (token_now y n c)) (are_rivals (next_list s edit) m.what n.what) contradicts) [
      | inl one ↦ inl (of_y ∙ ap Some (sym ((bytes_decides class c).0 (both (same_name class c) (not (same_name m.what n.what)) one).0)))
      | inr rival ↦ inr (ap is_some of_y, ap (λ (z : Standing). are_rivals z m.what n.what) edited.list ∙ rival)
    ]

    near : (y : ℕ) (n : Member) → member g y ≡ Some n → MayClip lists.present class m.what n → node_early nets.present g x <ℤ node_early nets.present g y
        → ((z : ℕ) → r.clip ≡ Some z → node_early nets.present g y ≤ℤ node_early nets.present g z) → StandsAsBefore nets.committed nets.present nets.moved f g y n
    near y n at_y may later ahead = untouched_stands y n at_y touched
      where
        touched : Contains nodes y → ⊥
        touched among =
            let date_x = dated x (live_at g x m here) in
            let date_y = dated y (live_at g y n at_y) in
            let (c, q, clip, row, less) = keeps.ahead m n y here at_y may among (omega (arith, ints, later, date_x, date_y)) in
            let own = sym own_clip ∙ clip in
            let date_c = untouched_date c (clipper_live c own) (keeps.free c clip) q row in
            let beyond = ahead c own in
            absurd (omega (arith, ints, less, date_c, date_y, beyond))

    -- **The clip of a token that is not touched stays**, as no touched one can come before it.
    settled_clip : IsRightClip x r.clip
    settled_clip =
        let stays = still_there r.clip refl in (
          same_clipper s edit nets.committed nets.present nets.moved f g edited.seen_then edited.holds_then seen_g holds_g numbers points moved (moment_at f x) r.clip clipped stays
              ∙ sym (keeps_near s edit nets.committed nets.present nets.moved f g edited.seen_then edited.holds_then seen_g holds_g numbers points moved x m class here of (untouched_stands x m here keeps.own)
              r.clip clipped there (λ c before after. contradicts_alike c)
              (λ y n c at_y of_y contradicts. near y n at_y (may_clip n y c of_y contradicts)))
              ∙ ap (λ (z : Standing). clip (built z) (moment_at g x)) (sym edited.list),
          stays,
        )

  event_clip : (x : ℕ) (m : Member) → member g x ≡ Some m → m.class ≡ None → (o : Option ℕ) → o ≡ None → IsRightClip x o
  event_clip x m here of o none = subst (IsRightClip x) (sym none) (sym (event_unclipped edited.seen_now (built lists.present).believed x m here of), tt)

  -- a number was looked at, or the node is none that may have been touched
  module _ (marks : List Bool) (found : List Difference) (are : AreFound lists.present nets.present tree classes kept marks found)
      (nodes_marked : (x : ℕ) → Contains nodes x → mark_under marks x ≡ true) (settled : AreClassesSettled lists tree nodes kept marks classes) where
    -- the row of a node that was looked at
    row_told : (x : ℕ) (m : Member) (r : KeptRow) → member g x ≡ Some m → IsNow lists.present nets.present tree classes (row_under kept x) x m r → IsRowOf lists.present g x r
    row_told x m r here is = row_now x live r (is.date ∙ dated x live) (by m.class refl is.clip) is.weight
      where
        live : IsLive g x
        live = live_at g x m here

        by : (o : Option (List ℕ)) → m.class ≡ o → IsClipNow lists.present nets.present g classes (row_under kept x) x o r.clip → IsRightClip x r.clip
        by None of none = event_clip x m here of r.clip none
        by (Some class) of (inl (anew, there)) = (anew (built lists.present).believed edited.seen_now edited.holds_now, there)
        by (Some class) of (inr (other, same)) =
            let (n, there, _) = was class (covered.others class other).untouched x m here of in
            let live_f = live_at f x n there in
            let (q, at, own) = before.own x live_f in
            let one : r.clip ≡ q.clip = same ∙ ap (option_and_then (λ (w : KeptRow). w.clip)) at in
            subst (IsRightClip x) (sym one) (kept_clip x m class here of other q own live_f)

    module _ (x : ℕ) (free : mark_under marks x ≡ false) where
      untold : Contains nodes x → ⊥
      untold there = let no : true ≡ false = sym (nodes_marked x there) ∙ free in absurd (cc no)

      row_stays : rows_after kept found x ≡ row_under kept x
      row_stays = after_none kept found x (not_told marks found x are.marked free)

      -- the row of a node that was not looked at
      row_kept : (m : Member) → member g x ≡ Some m → (live : IsLive f x) (r : KeptRow) → row_under kept x ≡ Some r → IsRowOf s f x r → IsRowOf lists.present g x r
      row_kept m here live r at is = row_now x live_g r (date_was x live r is ∙ date_stays x m here live (λ at. untold (covered.moved x m here at))) (by m.class refl) (is.weight ∙ covered.weights x live live_g untold)
        where
          live_g : IsLive g x
          live_g = live_at g x m here

          by : (o : Option (List ℕ)) → m.class ≡ o → IsRightClip x r.clip
          by None of = event_clip x m here of r.clip (event_was x live r is m here of)
          by (Some class) of = elim (is_among classes class) [
            | inl touched ↦ (elim (settled class touched x m here of) [
              | inl marked ↦ let no : true ≡ false = sym marked ∙ free in absurd (cc no)
              | inr keeps ↦ settled_clip x m class here of keeps r at is live
            ])
            | inr other ↦ kept_clip x m class here of other r is live
          ]

    -- **The rows with the differences are those of the list after the edit.**
    own_after : (x : ℕ) → IsLive g x → (r : KeptRow) × (rows_after kept found x ≡ Some r) × IsRowOf lists.present g x r
    own_after x live = let (m, here) = node_at g x live in by m here (mark_under marks x) refl
      where
        told : (m : Member) → member g x ≡ Some m → (o : Option KeptRow) → rows_after kept found x ≡ o → IsNowUnder lists.present nets.present tree classes (row_under kept x) x o
            → (r : KeptRow) × (rows_after kept found x ≡ Some r) × IsRowOf lists.present g x r
        told m here None e none = absurd (let no : Some m ≡ None = sym here ∙ none in cc no)
        told m here (Some r) e (n, there, is) = (r, e, row_told x n r there is)

        kept_row : (m : Member) → member g x ≡ Some m → mark_under marks x ≡ false → (o : Option Member) → member f x ≡ o → (r : KeptRow) × (rows_after kept found x ≡ Some r) × IsRowOf lists.present g x r
        kept_row m here free None none = absurd (untold x free (covered.entered x live none))
        kept_row m here free (Some n) there =
            let live_f = live_at f x n there in
            let (r, at, is) = before.own x live_f in
            (r, row_stays x free ∙ at, row_kept x free m here live_f r at is)

        by : (m : Member) → member g x ≡ Some m → (b : Bool) → mark_under marks x ≡ b → (r : KeptRow) × (rows_after kept found x ≡ Some r) × IsRowOf lists.present g x r
        by m here true e = told m here (rows_after kept found x) refl (are.told x e)
        by m here false e = kept_row m here e (member f x) refl

    none_after : (x : ℕ) → member g x ≡ None → rows_after kept found x ≡ None
    none_after x none = by (mark_under marks x) refl
      where
        told : (o : Option KeptRow) → IsNowUnder lists.present nets.present tree classes (row_under kept x) x o → o ≡ None
        told None is = refl
        told (Some r) (m, here, is) = absurd (let no : Some m ≡ None = sym here ∙ none in cc no)

        gone : mark_under marks x ≡ false → (o : Option Member) → member f x ≡ o → rows_after kept found x ≡ None
        gone free None e = row_stays x free ∙ before.none x e
        gone free (Some n) e = absurd (untold x free (covered.left x (live_at f x n e) none))

        by : (b : Bool) → mark_under marks x ≡ b → rows_after kept found x ≡ None
        by true e = told (rows_after kept found x) (are.told x e)
        by false e = gone e (member f x) refl

    pub differences_are : AreDifferences lists nets edit tree kept found
    differences_are = record {
      edited = edited;
      before = before;
      after = record { own = own_after; none = none_after };
      were = are.were;
      once = are.once;
    }
