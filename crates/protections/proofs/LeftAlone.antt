-- Of a protection that an edit left alone the same is found as before.
use Rattle.std.proofs.Common.{◌≡◌, ◌∙◌, ℕ, true, false, ◌&&◌, ◌||◌, List, [], map, refl, sym, ap, subst, inl, inr}
use Rattle.std.proofs.lemmas.Bool.{or_cases}
use Rattle.std.proofs.lemmas.Bool.Decides.{eqb_tells}
use Rattle.std.specs.Prelude.{◌↔◌, ◌⊎◌, ◌≢◌, Option, Some, None, IsSome, MatchOption}
use Rattle.std.specs.List.{Contains}
use Rattle.std.specs.Option.{option_map, option_map_or}
use Rattle.std.specs.Cmp.Lexicographic.{bytes_decides}
use Rattle.tmm_model.specs.declared.point.PointName.{PointName}
use Rattle.tmm_model.specs.declared.point.PointName.TheVariants.{Start, Begin, End}
use Rattle.tmm_model.specs.declared.premise.Edit.{Edit}
use Rattle.tmm_model.specs.declared.premise.Premise.{Premise}
use Rattle.tmm_model.specs.declared.premise.Premise.TheVariants.{Class, Kind, Point, Event, Token, Span, Dist, Rule, Protect, Against}
use Rattle.tmm_model.specs.declared.token.Shape.TheVariants.{Span as ASpan}
use Rattle.tmm_model.specs.declared.token.TokenRow.{TokenRow}
use Rattle.tmm_model.specs.Answers.{Finding, does_hold, ask, broken}
use Rattle.tmm_model.specs.Beliefs.{token_of, class_of, are_rivals, contradicts_in}
use Rattle.tmm_model.specs.Bounds.{bound_plus, bound_less}
use Rattle.tmm_model.specs.Edits.{next_list}
use Rattle.tmm_model.specs.Maps.{built, gap, believed_tokens}
use Rattle.tmm_model.specs.Moments.{Moment, At, base}
use Rattle.tmm_model.specs.Points.{same_name}
use Rattle.tmm_model.specs.Sorts.{class_in}
use Rattle.tmm_model.specs.Standing.{Standing, points_in}
use Rattle.tmm_model.specs.Tokens.{of_one_class}
use Rattle.list_theory.specs.WellNamed.{IsWellNamed}
use Rattle.list_theory.proofs.Elements.{In, both, In-filter_map, In-from_Contains, Contains-from_In, In-map, map-In, some_value}
use Rattle.belief_theory.specs.Right.{Occurs}
use Rattle.belief_theory.proofs.Rivals.{class_is, contradict_in_class}
use Rattle.belief_theory.proofs.Watched.{class-token_of}
use Rattle.dist_net.specs.Net.{Nets, IsMovedAt}
use Rattle.net_theory.specs.KeptNumbers.{PointsKeepNumbers, IsThere}
use Rattle.net_theory.specs.Represents.{IsNumberOf}
use Rattle.net_theory.proofs.Named.{name_at-is}
use Rattle.net_theory.proofs.Nets.{is_in_use}
use Rattle.spots.specs.declared.spot.Spot.{Spot}
use Rattle.spots.specs.declared.spot.Spot.TheVariants.{Declared, Node}
use Rattle.spots.specs.Forest.{Forest, Member, member, IsLive, moment, moment_at}
use Rattle.spots.specs.OfLists.{IsForestOf, HasOccurrences}
use Rattle.spots.specs.Spots.{spot_moment, spot_distance, base_of, links_of, links_low, links_high, net_far, AreTokens, row_moment, token_row}
use Rattle.spots.proofs.Distances.{distance-two_bases}
use Rattle.spots.proofs.Nodes.{live_at, moment_at-is, base-moment, point_is}
use Rattle.spots.proofs.Seen.{IsRowOf, member_of_token, distance_is, start_is, token_is, tokens_are}
use Rattle.premise_list.specs.States.{States}
use Rattle.occ_tree.specs.Standing.{Kept, forest, present}
use Rattle.occ_tree.specs.Touched.{IsAtMoved, IsUntouched}
use Rattle.supports.specs.Apart.{IsApart, AreOthersApart}
use Rattle.supports.specs.Edited.{IsEdited, old_forest}
use Rattle.premise_list.proofs.Facts.{rival_known}
use Rattle.revisions.proofs.Names.{class_kept}
use Rattle.revisions.proofs.Tokens.{tokens_stay}
use Rattle.joined.proofs.Gaps.{WasThere, start_was, node_was, distance_was, one_base}
use Rattle.protections.specs.Asks.{BearsOn, SameForPoints}
use Rattle.protections.specs.Kept.{IsStill, LeftAloneStay}
use Rattle.protections.proofs.Asks.{asks_stay}
use Rattle.protections.proofs.Protected.{grounded}

module _ (old : Standing) (edit : Edit) (nets : Nets) (f g : Forest)
    (seen_f : IsForestOf old nets.committed f) (holds_f : HasOccurrences (built old).believed f)
    (seen_g : IsForestOf (next_list old edit) nets.present g) (holds_g : HasOccurrences (built (next_list old edit)).believed g)
    (numbers : (x y : ℕ) → IsLive f x → IsLive g y → (moment_at f x ≡ moment_at g y) ↔ (x ≡ y))
    (keep : PointsKeepNumbers (points_in (next_list old edit).premises) nets.committed.names nets.present.names)
    (apart : IsMovedAt nets.moved nets.committed nets.present) where
  abbrev new : Standing
  new = next_list old edit

  abbrev at : Spot → Moment
  at p = spot_moment nets.present.names g p

  -- ---- points that did not move

  -- the moment is that of a spot of both lists whose declared point did not move
  record IsFixed (x : Moment) : Type 0 where
    spot : Spot
    was : WasThere old edit nets g seen_f.network seen_g keep spot
    unmoved : Contains nets.moved (base_of g spot) → ⊥
    is : at spot ≡ x

  spots_same : (p q : Spot) → WasThere old edit nets g seen_f.network seen_g keep p → WasThere old edit nets g seen_f.network seen_g keep q
      → (Contains nets.moved (base_of g p) → ⊥) → (Contains nets.moved (base_of g q) → ⊥) → spot_distance nets.committed g p q ≡ spot_distance nets.present g p q
  spots_same p q was_p was_q not_p not_q = elim (eqb_tells (base_of g p) (base_of g q)) [
    | inl one ↦ one_base old edit nets g seen_f.network seen_g keep p q one.1
    | inr two ↦ distance-two_bases nets.committed g p q two.1
        ∙ ap (λ d. bound_less (bound_plus d (links_high (links_of g q))) (links_low (links_of g p))) far
        ∙ sym (distance-two_bases nets.present g p q two.1)
  ]
    where
      far : net_far nets.committed (base_of g p) (base_of g q) ≡ net_far nets.present (base_of g p) (base_of g q)
      far =
          elim (apart (base_of g p) (base_of g q)
          (is_in_use nets.committed.names (base_of g p) (base (spot_moment nets.present.names g p)) was_p.number)
          (is_in_use nets.committed.names (base_of g q) (base (spot_moment nets.present.names g q)) was_q.number)
          (is_in_use nets.present.names (base_of g p) (base (spot_moment nets.present.names g p)) (point_is new nets.present g seen_g p was_p.there))
          (is_in_use nets.present.names (base_of g q) (base (spot_moment nets.present.names g q)) (point_is new nets.present g seen_g q was_q.there))) [
            | inl same ↦ same
            | inr either ↦ elim either [ inl first ↦ absurd (not_p first) | inr second ↦ absurd (not_q second) ]
          ]

  -- **Such moments are as far apart as they were.**
  gap_same : (x y : Moment) → IsFixed x → IsFixed y → gap (built old) x y ≡ gap (built new) x y
  gap_same x y fix_x fix_y =
      let p = fix_x.spot in
      let q = fix_y.spot in
      let same : gap (built old) (at p) (at q) ≡ gap (built new) (at p) (at q) =
      sym (distance_was old edit nets g seen_f.network seen_g keep p q fix_x.was fix_y.was)
      ∙ spots_same p q fix_x.was fix_y.was fix_x.unmoved fix_y.unmoved
      ∙ distance_is new nets.present g seen_g p q fix_x.was.there fix_y.was.there in
      subst (λ z. gap (built old) z y ≡ gap (built new) z y) fix_x.is (subst (λ z. gap (built old) (at p) z ≡ gap (built new) (at p) z) fix_y.is same)

  -- a declared point of both lists
  point_was : (n : ℕ) (p : PointName) → IsNumberOf nets.committed.names n p → IsNumberOf nets.present.names n p → WasThere old edit nets g seen_f.network seen_g keep (Declared n)
  point_was n p before now = record {
    there = is_in_use nets.present.names n p now;
    number = subst (λ (z : PointName). IsNumberOf nets.committed.names n z) (sym (name_at-is nets.present.names n p now)) before;
    agree = λ r on. absurd on;
  }

  point_fixed : (n : ℕ) (p : PointName) → IsNumberOf nets.committed.names n p → IsNumberOf nets.present.names n p → (Contains nets.moved n → ⊥) → IsFixed (At p)
  point_fixed n p before now unmoved = record {
    spot = Declared n;
    was = point_was n p before now;
    unmoved = unmoved;
    is = ap (λ (z : PointName). At z) (name_at-is nets.present.names n p now);
  }

  -- a point of both lists that did not move
  still_fixed : (p : PointName) → IsThere nets.committed.names p → IsStill nets p → IsFixed (At p)
  still_fixed p (k, numbered) still =
      let now = keep k p (seen_g.network.fits.stands.named still.number p still.is) numbered in
      let one : k ≡ still.number = seen_g.network.distinct k still.number p now still.is in
      point_fixed still.number p (subst (λ z. IsNumberOf nets.committed.names z p) one numbered) still.is still.unmoved

  -- ---- a class that is untouched

  -- the tokens of the class are the same in both, and none of them moved
  record IsSettled (class : List ℕ) : Type 0 where
    rows : List (TokenRow Spot)
    tokens_f : AreTokens f class rows
    tokens_g : AreTokens g class rows
    unmoved : (y : ℕ) (m : Member) → member g y ≡ Some m → m.class ≡ Some class → IsAtMoved nets.moved m → ⊥

  class_settled : (class : List ℕ) (rows : List (TokenRow Spot)) → AreTokens f class rows → AreTokens g class rows
      → ((y : ℕ) (m : Member) → member g y ≡ Some m → m.class ≡ Some class → IsAtMoved nets.moved m → ⊥) → IsSettled class
  class_settled class rows tokens_f tokens_g unmoved = record { rows = rows; tokens_f = tokens_f; tokens_g = tokens_g; unmoved = unmoved }

  module _ (class : List ℕ) (settled : IsSettled class) where
    abbrev rows : List (TokenRow Spot)
    rows = settled.rows

    abbrev tokens_f : AreTokens f class rows
    tokens_f = settled.tokens_f

    abbrev tokens_g : AreTokens g class rows
    tokens_g = settled.tokens_g

    abbrev unmoved : (y : ℕ) (m : Member) → member g y ≡ Some m → m.class ≡ Some class → IsAtMoved nets.moved m → ⊥
    unmoved = settled.unmoved

    -- the node of a row before the edit and after it
    record IsNodeOf (row : TokenRow Spot) : Type 0 where
      number : ℕ
      before : Member
      now : Member
      row_f : IsRowOf f row number before
      row_g : IsRowOf g row number now
      of_class : now.class ≡ Some class
      same : moment before ≡ moment now
      occurred : Occurs old (moment now)

    node_of : (row : TokenRow Spot) → In row rows → IsNodeOf row
    node_of row on =
        let (x, n, row_f, one_f) = member_of_token f class rows tokens_f row (Contains-from_In rows row on) in
        let (y, m, row_g, one_g) = member_of_token g class rows tokens_g row (Contains-from_In rows row on) in
        let spots : Node x ≡ Node y = sym row_f.spot ∙ row_g.spot in
        let number : x ≡ y = cc in
        let same : moment n ≡ moment m =
        sym (moment_at-is f x n row_f.here) ∙ (numbers x y (live_at f x n row_f.here) (live_at g y m row_g.here)).1 number ∙ moment_at-is g y m row_g.here in
        record {
          number = x;
          before = n;
          now = m;
          row_f = row_f;
          row_g = subst (λ z. IsRowOf g row z m) (sym number) row_g;
          of_class = row_g.class ∙ ap (λ (z : List ℕ). Some z) one_g;
          same = same;
          occurred = subst (Occurs old) same (seen_f.members x n row_f.here).occurs;
        }

    abbrev token : TokenRow Spot → TokenRow Moment
    token row = row_moment nets.present.names g row

    -- the token of a row at its moment
    made : (h : Forest) (row : TokenRow Spot) (y : ℕ) (m : Member) → IsRowOf h row y m → token_row y m ≡ Some row
    made h row y m is =
        let spot = sym is.spot in
        let last = sym is.end in
        let fact = sym is.fact in
        ap (λ (o : Option (List ℕ)). option_map (λ class. record { spot = Node y; end = option_map Declared m.end; fact = m.what; class = class }) o) is.class
        ∙ (λ i. Some (record { spot = spot i; end = last i; fact = fact i; class = row.class }))

    row_same : (row : TokenRow Spot) → In row rows → row_moment nets.committed.names f row ≡ token row
    row_same row on =
        let n = node_of row on in
        let before : token_of old (moment n.before) ≡ Some (row_moment nets.committed.names f row) =
        token_is old nets.committed f seen_f n.number n.before n.row_f.here ∙ ap (option_map (row_moment nets.committed.names f)) (made f row n.number n.before n.row_f) in
        let now : token_of new (moment n.now) ≡ Some (token row) =
        token_is new nets.present g seen_g n.number n.now n.row_g.here ∙ ap (option_map (row_moment nets.present.names g)) (made g row n.number n.now n.row_g) in
        let stays = tokens_stay old edit seen_f.network.sound seen_g.network.sound (moment n.now) n.occurred (seen_g.members n.number n.now n.row_g.here).occurs in
        let both : Some (row_moment nets.committed.names f row) ≡ Some (token row) = sym before ∙ ap (token_of old) n.same ∙ stays ∙ now in
        cc

    -- the row of a token of the class that was believed
    record IsRowFor (k : TokenRow Moment) : Type 0 where
      row : TokenRow Spot
      on : In row rows
      is : token row ≡ k

    row_of : (k : TokenRow Moment) → k.class ≡ class → In k (believed_tokens (built old)) → IsRowFor k
    row_of k own believed =
        let there = (tokens_are old nets.committed f seen_f (built old).believed holds_f class rows tokens_f k).1 (believed, (bytes_decides class k.class).1 (sym own)) in
        let (row, on, is) = In-map (row_moment nets.committed.names f) rows k there in
        record { row = row; on = on; is = sym (row_same row on) ∙ is }

    -- **The tokens of the class that are believed are the same.**
    into : (k : TokenRow Moment) → k.class ≡ class → In k (believed_tokens (built old)) → In k (believed_tokens (built new))
    into k own believed =
        let r = row_of k own believed in
        ((tokens_are new nets.present g seen_g (built new).believed holds_g class rows tokens_g k).0
        (subst (λ z. In z (map (row_moment nets.present.names g) rows)) r.is (map-In (row_moment nets.present.names g) rows r.row r.on))).0

    back : (k : TokenRow Moment) → k.class ≡ class → In k (believed_tokens (built new)) → In k (believed_tokens (built old))
    back k own believed =
        let there = (tokens_are new nets.present g seen_g (built new).believed holds_g class rows tokens_g k).1 (believed, (bytes_decides class k.class).1 (sym own)) in
        let (row, on, is) = In-map (row_moment nets.present.names g) rows k there in
        ((tokens_are old nets.committed f seen_f (built old).believed holds_f class rows tokens_f k).0
        (subst (λ z. In z (map (row_moment nets.committed.names f) rows)) (row_same row on ∙ is) (map-In (row_moment nets.committed.names f) rows row on))).0

    -- ---- the points of the class are fixed

    node_fixed : (row : TokenRow Spot) → In row rows → IsFixed (token row).spot
    node_fixed row on =
        let n = node_of row on in
        let live = live_at g n.number n.now n.row_g.here in
        record {
          spot = Node n.number;
          was = node_was old edit nets g seen_f.network seen_g keep n.number live (subst (Occurs old) (sym (moment_at-is g n.number n.now n.row_g.here)) n.occurred);
          unmoved = λ moved. unmoved n.number n.now n.row_g.here n.of_class
              (inr (inl (subst (Contains nets.moved) (ap (λ (o : Option Member). option_map_or (λ k. k.begin) o 0) n.row_g.here) moved)));
          is = ap at (sym n.row_g.spot);
        }

    -- the end of a span has the same number and the same name before the edit and after it
    end_fixed : (row : TokenRow Spot) → In row rows → (e : Moment) → (token row).end ≡ Some e → IsFixed e
    end_fixed row on e ends = by n.now.end refl n.before.end refl (sym n.row_f.end ∙ n.row_g.end) (ap (option_map at) (sym n.row_g.end) ∙ ends)
      where
        n : IsNodeOf row
        n = node_of row on

        roots : n.before.root ≡ n.now.root
        roots = let both : Begin n.before.root ≡ Begin n.now.root = sym (base-moment n.before) ∙ ap base n.same ∙ base-moment n.now in cc

        named : (names : List (Option PointName)) (m : Member) (k : ℕ) → m.end ≡ Some k
            → MatchOption m.end (m.shape ≢ ASpan) (λ e. (m.shape ≡ ASpan) × IsNumberOf names e (End m.root)) → IsNumberOf names k (End m.root)
        named names m k is own = (subst (λ o. MatchOption o (m.shape ≢ ASpan) (λ e. (m.shape ≡ ASpan) × IsNumberOf names e (End m.root))) is own).1

        by : (o : Option ℕ) → n.now.end ≡ o → (b : Option ℕ) → n.before.end ≡ b → option_map Declared n.before.end ≡ option_map Declared n.now.end → option_map at (option_map Declared n.now.end) ≡ Some e → IsFixed e
        by None is b was same told =
            let none : option_map at (option_map Declared n.now.end) ≡ None = ap (λ (o : Option ℕ). option_map at (option_map Declared o)) is in
            cc
        by (Some k) is None was same told =
            let none : option_map Declared n.before.end ≡ None = ap (option_map Declared) was in
            let some : option_map Declared n.now.end ≡ Some (Declared k) = ap (option_map Declared) is in
            cc
        by (Some k) is (Some j) was same told =
            let first : option_map Declared n.before.end ≡ Some (Declared j) = ap (option_map Declared) was in
            let second : option_map Declared n.now.end ≡ Some (Declared k) = ap (option_map Declared) is in
            let number : j ≡ k = cc in
            let end_is : Some (at (Declared k)) ≡ Some e = ap (λ (o : Option ℕ). option_map at (option_map Declared o)) (sym is) ∙ told in
            let moment_is : at (Declared k) ≡ e = cc in
            let now : IsNumberOf nets.present.names k (End n.now.root) = named nets.present.names n.now k is (seen_g.members n.number n.now n.row_g.here).end in
            let before : IsNumberOf nets.committed.names j (End n.before.root) = named nets.committed.names n.before j was (seen_f.members n.number n.before n.row_f.here).end in
            let before_now : IsNumberOf nets.committed.names k (End n.now.root) =
            subst (λ z. IsNumberOf nets.committed.names z (End n.now.root)) number (subst (λ z. IsNumberOf nets.committed.names j (End z)) roots before) in
            record {
              spot = Declared k;
              was = point_was k (End n.now.root) before_now now;
              unmoved = λ moved. unmoved n.number n.now n.row_g.here n.of_class (inr (inr (k, is, moved)));
              is = moment_is;
            }

    -- where the class has a token `start` did not move
    start_fixed : (row : TokenRow Spot) → In row rows → IsFixed (At Start)
    start_fixed row on =
        let n = node_of row on in
        record {
          spot = Declared 0;
          was = start_was old edit nets g seen_f.network seen_g keep;
          unmoved = λ moved. unmoved n.number n.now n.row_g.here n.of_class (inl moved);
          is = start_is new nets.present g seen_g;
        }

    token_fixed : (k : TokenRow Moment) → k.class ≡ class → In k (believed_tokens (built old)) → IsFixed k.spot
    token_fixed k own believed = let r = row_of k own believed in subst (λ (z : TokenRow Moment). IsFixed z.spot) r.is (node_fixed r.row r.on)

    -- so did `start` where it has a token, and the end of a span of it
    start_still : (k : TokenRow Moment) → k.class ≡ class → In k (believed_tokens (built old)) → IsFixed (At Start)
    start_still k own believed = let r = row_of k own believed in start_fixed r.row r.on

    end_still : (k : TokenRow Moment) (e : Moment) → k.class ≡ class → In k (believed_tokens (built old)) → k.end ≡ Some e → IsFixed e
    end_still k e own believed ends = let r = row_of k own believed in end_fixed r.row r.on e (ap (λ (z : TokenRow Moment). z.end) r.is ∙ ends)

  -- ---- a fact of a class that is apart

  module _ (fact class : List ℕ) (settled : IsSettled class) (class_then : class_of old fact ≡ class) (class_now : class_of new fact ≡ class)
      (rivals : (x : List ℕ) → ((class_of old x ≡ class) × (class_of new x ≡ class)) ⊎ (are_rivals old fact x ≡ are_rivals new fact x))
      (of_rivals : (x : List ℕ) → are_rivals old fact x ≡ true → are_rivals new fact x ≡ true → (other : List ℕ) × (class_of old x ≡ other) × (class_of new x ≡ other) × IsSettled other) where
    abbrev Bears : TokenRow Moment → Type 0
    Bears = BearsOn (built old) (built new) fact

    -- a token that bears on the fact is of its class, or of a rival of it
    bears_how : (k : TokenRow Moment) → Bears k → (k.class ≡ class) ⊎ ((are_rivals old fact k.fact ≡ true) ⊎ (are_rivals new fact k.fact ≡ true))
    bears_how k (inl e) = elim (or_cases (same_name (class_of old fact) k.class) (are_rivals old fact k.fact) e) [
      | inl one ↦ inl (sym ((bytes_decides (class_of old fact) k.class).0 one) ∙ class_then)
      | inr rival ↦ inr (inl rival)
    ]
    bears_how k (inr e) = elim (or_cases (same_name (class_of new fact) k.class) (are_rivals new fact k.fact) e) [
      | inl one ↦ inl (sym ((bytes_decides (class_of new fact) k.class).0 one) ∙ class_now)
      | inr rival ↦ inr (inr rival)
    ]

    -- so its class is settled
    record HasSettled (k : TokenRow Moment) : Type 0 where
      in_class : List ℕ
      own : k.class ≡ in_class
      is : IsSettled in_class

    rival_settled : (x : List ℕ) → (are_rivals old fact x ≡ true) ⊎ (are_rivals new fact x ≡ true) → (other : List ℕ) × (class_of old x ≡ other) × (class_of new x ≡ other) × IsSettled other
    rival_settled x either = elim (rivals x) [
      | inl one ↦ (class, one.0, one.1, settled)
      | inr same ↦ of_rivals x (elim either [ inl before ↦ before | inr now ↦ same ∙ now ]) (elim either [ inl before ↦ sym same ∙ before | inr now ↦ now ])
    ]

    own_class : (s : Standing) (k : TokenRow Moment) → In k (believed_tokens (built s)) → k.class ≡ class_of s k.fact
    own_class s k at = let (y, on, is_made) = In-filter_map (token_of s) (built s).believed k at in class-token_of s y k is_made

    settled_then : (k : TokenRow Moment) → Bears k → In k (believed_tokens (built old)) → HasSettled k
    settled_then k bears at = elim (bears_how k bears) [
      | inl own ↦ record { in_class = class; own = own; is = settled }
      | inr either ↦ (let (other, before, now, is_settled) = rival_settled k.fact either in record { in_class = other; own = own_class old k at ∙ before; is = is_settled })
    ]

    settled_now : (k : TokenRow Moment) → Bears k → In k (believed_tokens (built new)) → HasSettled k
    settled_now k bears at = elim (bears_how k bears) [
      | inl own ↦ record { in_class = class; own = own; is = settled }
      | inr either ↦ (let (other, before, now, is_settled) = rival_settled k.fact either in record { in_class = other; own = own_class new k at ∙ now; is = is_settled })
    ]

    fixed : (k : TokenRow Moment) → Bears k → In k (believed_tokens (built old)) → IsFixed k.spot
    fixed k bears at = let h = settled_then k bears at in token_fixed h.in_class h.is k h.own at

    contradict_alike : (k c : TokenRow Moment) → k.fact ≡ fact → In k (believed_tokens (built old)) → In c (believed_tokens (built old)) → In c (believed_tokens (built new))
        → contradicts_in old k c ≡ contradicts_in new k c
    contradict_alike k c is_fact at_k before now = elim (rivals c.fact) [
      | inl one ↦ (
          let own_k : k.class ≡ class = own_class old k at_k ∙ ap (class_of old) is_fact ∙ class_then in
          let own_c : c.class ≡ class = own_class old c before ∙ one.0 in
          contradict_in_class old new k c ((bytes_decides k.class c.class).1 (own_k ∙ sym own_c)))
      | inr same ↦ (
          let rival : are_rivals old k.fact c.fact ≡ are_rivals new k.fact c.fact =
          ap (λ z. are_rivals old z c.fact) is_fact ∙ same ∙ sym (ap (λ z. are_rivals new z c.fact) is_fact) in
          λ i. of_one_class k c || rival i)
    ]

    -- **What bears on the fact is the same for points that did not move.**
    same_for : (p q : Moment) → IsFixed p → IsFixed q → SameForPoints (built old) (built new) fact p q
    same_for p q fix_p fix_q = record {
      into = λ k bears at. (let h = settled_then k bears at in into h.in_class h.is k h.own at);
      back = λ k bears at. (let h = settled_now k bears at in back h.in_class h.is k h.own at);
      rivals = contradict_alike;
      gaps = λ k c bears_k bears_c at_k at_c. gap_same k.spot c.spot (fixed k bears_k at_k) (fixed c bears_c at_c);
      dates = λ k bears at. (let h = settled_then k bears at in gap_same k.spot (At Start) (fixed k bears at) (start_still h.in_class h.is k h.own at));
      points = gap_same q p fix_q fix_p;
      first = λ k bears at. gap_same p k.spot fix_p (fixed k bears at);
      last = λ k bears at. gap_same q k.spot fix_q (fixed k bears at);
      ends = λ k e bears at ends. (let h = settled_then k bears at in gap_same e q (end_still h.in_class h.is k e h.own at ends) fix_q);
    }

-- ---- the class of a fact

-- a fact that both lists declare is of one class
one_class : (old : Standing) (edit : Edit) → IsWellNamed old.premises → IsWellNamed (next_list old edit).premises
    → (fact class : List ℕ) → IsSome (class_in old.premises fact) → class_in (next_list old edit).premises fact ≡ Some class → class_in old.premises fact ≡ Some class
one_class old edit named_old named_new fact class known is =
    let (c, was) = some_value (class_in old.premises fact) known in
    was ∙ ap Some (class_kept old edit named_old named_new fact c class was is)

pub left_alone_stay : LeftAloneStay
left_alone_stay lists nets edit tree is apart name fact from to alone =
    let old = lists.committed in
    let new = next_list old edit in
    let f = old_forest tree in
    let g = forest (present tree) in
    let class = alone.of_fact.class in
    let named_old = is.seen_then.network.sound.well_named in
    let seen_g : IsForestOf new nets.present g = subst (λ s. IsForestOf s nets.present g) is.list is.seen_now in
    let named_new = seen_g.network.sound.well_named in
    let holds_g : HasOccurrences (built new).believed g = subst (λ s. HasOccurrences (built s).believed g) is.list is.holds_now in
    let keep : PointsKeepNumbers (points_in new.premises) nets.committed.names nets.present.names =
    subst (λ s. PointsKeepNumbers (points_in s.premises) nets.committed.names nets.present.names) is.list is.points in
    let known = grounded old nets.committed is.seen_then.network name fact from to alone.stood in
    let now : class_in new.premises fact ≡ Some class = subst (λ s. class_in s.premises fact ≡ Some class) is.list alone.of_fact.of_class in
    let was = one_class old edit named_old named_new fact class known.known now in
    let of_class : IsApart (record lists { present = new }) nets tree class = subst (λ s. IsApart (record lists { present = s }) nets tree class) is.list alone.of_fact.apart in
    let settled = λ (c : List ℕ) (untouched : IsUntouched nets tree c).
    class_settled old edit nets f g is.seen_then is.holds_then seen_g holds_g is.numbers keep apart c ((present tree).tokens c)
    (subst (AreTokens f c) (sym untouched.tokens) (is.tokens_then c)) (alone.of_fact.tokens c) untouched.unmoved in
    let first = still_fixed old edit nets f g is.seen_then is.holds_then seen_g holds_g is.numbers keep apart from known.first alone.first in
    let last = still_fixed old edit nets f g is.seen_then is.holds_then seen_g holds_g is.numbers keep apart to known.last alone.last in
    let same =
    same_for old edit nets f g is.seen_then is.holds_then seen_g holds_g is.numbers keep apart
    fact class (settled class of_class.untouched) (class_is old fact class was) (class_is new fact class now) (of_class.rivals fact now)
    (λ x rival_then rival.
    (let (other, declared, untouched) = of_class.of_rivals fact now x rival in
    let before = one_class old edit named_old named_new x other (rival_known old named_old fact x rival_then) declared in
    (other, class_is old x other before, class_is new x other declared, settled other untouched)))
    (At from) (At to) first last in
    let stays : ask (built old) fact (At from) (At to) ≡ ask (built new) fact (At from) (At to) =
    asks_stay old new is.seen_then.network.sound seen_g.network.sound fact (At from) (At to) same in
    subst (λ s. broken (built s) (Protect name fact from to) ≡ broken (built old) (Protect name fact from to)) (sym is.list)
    (ap (λ (found : Finding). elim (does_hold found) as (λ _. Option (List ℕ × Finding)) [ true ↦ None | false ↦ Some (name, found) ]) (sym stays))

-- a point does not move where nothing does
still_point : (nets : Nets) → nets.moved ≡ [] → (p : PointName) → IsThere nets.present.names p → IsStill nets p
still_point nets none p (k, numbered) = record { number = k; is = numbered; unmoved = λ at. In-from_Contains [] k (subst (λ l. Contains l k) none at) }

-- **Where no point moves and no class is touched, the same is found of all that stood before.**
pub all_left_alone : (lists : States) (nets : Nets) (edit : Edit) (tree : Kept) → IsEdited lists nets edit tree → IsMovedAt nets.moved nets.committed nets.present → nets.moved ≡ []
    → AreOthersApart lists nets tree [] → ((class : List ℕ) → AreTokens (forest (present tree)) class ((present tree).tokens class))
    → (p : Premise) → Contains lists.committed.premises p → Contains lists.present.premises p → broken (built lists.present) p ≡ broken (built lists.committed) p
all_left_alone lists nets edit tree is apart none others tokens (Protect name fact from to) stood stands =
    let known = grounded lists.present nets.present is.seen_now.network name fact from to stands in
    let (class, of_class) = some_value (class_in lists.present.premises fact) known.known in
    left_alone_stay lists nets edit tree is apart name fact from to
    (record {
      stood = stood;
      first = still_point nets none from known.first;
      last = still_point nets none to known.last;
      of_fact = record { class = class; of_class = of_class; apart = others class (λ at. In-from_Contains [] class at); tokens = tokens };
    })
all_left_alone lists nets edit tree is apart none others tokens (Class name facts) stood stands = refl
all_left_alone lists nets edit tree is apart none others tokens (Kind name) stood stands = refl
all_left_alone lists nets edit tree is apart none others tokens (Point name) stood stands = refl
all_left_alone lists nets edit tree is apart none others tokens (Event name kind) stood stands = refl
all_left_alone lists nets edit tree is apart none others tokens (Token name fact) stood stands = refl
all_left_alone lists nets edit tree is apart none others tokens (Span name fact) stood stands = refl
all_left_alone lists nets edit tree is apart none others tokens (Dist name from to lo hi) stood stands = refl
all_left_alone lists nets edit tree is apart none others tokens (Rule name trigger lo hi effect given unless_facts) stood stands = refl
all_left_alone lists nets edit tree is apart none others tokens (Against name one other) stood stands = refl
