-- Lines that are told one after the other.
use Rattle.std.proofs.Common.{◌≡◌, ◌∙◌, ℕ, ◌+◌, ◌<◌, List, [], ◌∷◌, ◌++◌, map, take, length, get_or, refl, sym, ap, subst, add-one, append_assoc, append-nil}
use Rattle.std.specs.Prelude.{Option, Some, None, MatchOption, is_some, ◌≢◌}
use Rattle.std.specs.List.{All, AllZip, flat_map}
use Rattle.std.specs.Option.{option_map, option_and_then}
use Rattle.std.proofs.Math.Seq.{take-suc}
use Rattle.std.proofs.lemmas.Grind.{flat_map-append}
use Rattle.std.proofs.lemmas.List.{map_push, map-append}
use Rattle.std.proofs.lemmas.List.Elements.{All-nil, All-cons, All-append, All-contains, Contains-get_or}
use Rattle.tmm_model.specs.declared.changes.WhyLine.{WhyLine}
use Rattle.tmm_model.specs.declared.token.Shape.{Shape}
use Rattle.tmm_model.specs.declared.token.Shape.TheVariants.{Event, Persistence, Span}
use Rattle.tmm_model.specs.declared.token.TokenRow.{TokenRow}
use Rattle.tmm_model.specs.declared.point.PointName.TheVariants.{End}
use Rattle.tmm_model.specs.Beliefs.{token_of}
use Rattle.tmm_model.specs.Maps.{TimeMap, built}
use Rattle.tmm_model.specs.Moments.{Moment, After, rule_of}
use Rattle.tmm_model.specs.Reasons.{Reason, by_rule, reason_of, belief_line, end_pair, pairs_of, pairs, supports_at, IsOrderLine, AreReasons}
use Rattle.tmm_model.specs.Standing.{Standing}
use Rattle.walk_theory.proofs.Members.{Contains-map}
use Rattle.dist_net.specs.Net.{Net, IsInUse}
use Rattle.net_theory.specs.Represents.{IsNumberOf}
use Rattle.spots.specs.declared.spot.Spot.{Spot}
use Rattle.spots.specs.declared.spot.Spot.TheVariants.{Declared, Node}
use Rattle.spots.specs.Forest.{Forest, Member, member, IsLive, moment_at}
use Rattle.spots.specs.OfLists.{IsForestOf, class_for}
use Rattle.spots.specs.Spots.{spot_moment, row_moment}
use Rattle.spots.proofs.Nodes.{moment_at-is}
use Rattle.spots.proofs.Rows.{token_is}
use Rattle.occ_tree.specs.declared.ranks.Ranked.{Ranked}
use Rattle.map_core.specs.Heard.{Hears}
use Rattle.justify.specs.Lines.{AreOrders, AreLinesOf, AreLinesOfAll}
use Rattle.map_core.specs.Shapes.{IsShapedLine}
use Rattle.occ_tree.specs.Ranks.{nodes_of}

AllZip-append : {A B : Type 0} (R : A → B → Type 0) (xs : List A) (us : List B) (ys : List A) (vs : List B) → AllZip R xs us → AllZip R ys vs → AllZip R (xs ++ ys) (us ++ vs)
AllZip-append R [] [] ys vs h g = g
AllZip-append R [] (u ∷ us) ys vs h g = absurd h
AllZip-append R (x ∷ xs) [] ys vs h g = absurd h
AllZip-append R (x ∷ xs) (u ∷ us) ys vs h g = (h.0, AllZip-append R xs us ys vs h.1 g)

-- ---- what was heard, by the parts of lines

module _ {P : Type 0} (parts : WhyLine → List P) where
  pub hears_none : (Wanted : List WhyLine → Type 0) → Wanted [] → (old : List P) → Hears parts Wanted old old
  hears_none Wanted none old = record { lines = []; grown = sym (append-nil old); shaped = All-nil IsShapedLine; wanted = none }

  pub hears_one : (Wanted : List WhyLine → Type 0) (line : WhyLine) → Wanted (line ∷ []) → IsShapedLine line → (old new : List P) → new ≡ old ++ parts line → Hears parts Wanted old new
  hears_one Wanted line one shaped old new grown = record {
    lines = line ∷ [];
    grown = grown ∙ ap (λ l. old ++ l) (sym (append-nil (parts line)));
    shaped = All-cons IsShapedLine line [] shaped (All-nil IsShapedLine);
    wanted = one;
  }

  pub hears_more : (First Second Both : List WhyLine → Type 0) → ((xs ys : List WhyLine) → First xs → Second ys → Both (xs ++ ys)) → (old mid new : List P)
      → Hears parts First old mid → Hears parts Second mid new → Hears parts Both old new
  hears_more First Second Both join old mid new first second = record {
    lines = first.lines ++ second.lines;
    grown =
        second.grown
        ∙ ap (λ l. l ++ flat_map parts second.lines) first.grown
        ∙ append_assoc old (flat_map parts first.lines) (flat_map parts second.lines)
        ∙ ap (λ l. old ++ l) (sym (flat_map-append parts first.lines second.lines));
    shaped = All-append IsShapedLine first.lines second.lines first.shaped second.shaped;
    wanted = join first.lines second.lines first.wanted second.wanted;
  }

  pub hears_so : (First Second : List WhyLine → Type 0) → ((xs : List WhyLine) → First xs → Second xs) → (old new : List P) → Hears parts First old new → Hears parts Second old new
  hears_so First Second so old new first = record { lines = first.lines; grown = first.grown; shaped = first.shaped; wanted = so first.lines first.wanted }

-- ---- lines behind lines

module _ (m : TimeMap) where
  pub more_orders : (ps qs : List (Moment × Moment)) (xs ys : List WhyLine) → AreOrders m ps xs → AreOrders m qs ys → AreOrders m (ps ++ qs) (xs ++ ys)
  more_orders ps qs xs ys first second =
      subst (AllZip (IsOrderLine m) (ps ++ qs)) (sym (map-append reason_of xs ys)) (AllZip-append (IsOrderLine m) ps (map reason_of xs) qs (map reason_of ys) first second)

  -- the orders of an occurrence, and then its own line
  pub its_lines : (x : Moment) (line : WhyLine) → reason_of line ≡ belief_line m x → (xs ys : List WhyLine) → AreOrders m (pairs m x) xs → ys ≡ line ∷ [] → AreLinesOf m x (xs ++ ys)
  its_lines x line is xs ys told own = (
    map reason_of xs,
    ap (λ l. map reason_of (xs ++ l)) own ∙ map_push reason_of xs line ∙ (λ i. map reason_of xs ++ is i ∷ []),
    told,
  )

  -- those of the effect of a rule
  pub effect_lines : (x t : Moment) (r : List ℕ) (ks : List Moment) (es : List (List ℕ)) (line : WhyLine) → x ≡ After t r → ks ≡ supports_at m t r → es ≡ (rule_of m.list r).exceptions
      → reason_of line ≡ by_rule x r t ks es
      → (xs ys : List WhyLine) → AreOrders m (flat_map (pairs_of m t) ks) xs → ys ≡ line ∷ [] → AreLinesOf m x (xs ++ ys)
  effect_lines x t r ks es line is same bars told xs ys orders own =
      subst (λ k. AreLinesOf m k (xs ++ ys)) (sym is)
      (its_lines (After t r) line (told ∙ (λ i. by_rule (is i) r t (same i) (bars i))) xs ys (subst (λ (l : List Moment). AreOrders m (flat_map (pairs_of m t) l) xs) same orders) own)

  AreReasons-push : (xs : List Moment) (x : Moment) (lines orders : List Reason) → AreReasons m xs lines → AllZip (IsOrderLine m) (pairs m x) orders → AreReasons m (xs ++ x ∷ []) (lines ++ orders ++ belief_line m x ∷ [])
  AreReasons-push [] x lines orders none told = (orders, [], ap (λ l. l ++ orders ++ belief_line m x ∷ []) none, told, refl)
  AreReasons-push (y ∷ xs) x lines orders (before, rest, are, own, others) told = (
    before,
    rest ++ orders ++ belief_line m x ∷ [],
    ap (λ l. l ++ orders ++ belief_line m x ∷ []) are
        ∙ ap (λ l. l ++ belief_line m x ∷ []) (append_assoc before (belief_line m y ∷ rest) orders)
        ∙ append_assoc before (belief_line m y ∷ rest ++ orders) (belief_line m x ∷ []),
    own,
    AreReasons-push xs x rest orders others told,
  )

  -- the lines of one occurrence more
  pub more_lines : (xs : List Moment) (x : Moment) (ls ks : List WhyLine) → AreLinesOfAll m xs ls → AreLinesOf m x ks → AreLinesOfAll m (xs ++ x ∷ []) (ls ++ ks)
  more_lines xs x ls ks are (orders, its, told) =
      subst (AreReasons m (xs ++ x ∷ []))
      (append_assoc (map reason_of ls) orders (belief_line m x ∷ []) ∙ sym (map-append reason_of ls ks ∙ ap (λ l. map reason_of ls ++ l) its))
      (AreReasons-push xs x (map reason_of ls) orders are told)

-- ---- element by element

taken : {X : Type 0} (xs : List X) (i : ℕ) (d : X) → i < length xs → take (i + 1) xs ≡ take i xs ++ get_or xs i d ∷ []
taken xs i d below = ap (λ n. take n xs) (add-one i) ∙ take-suc xs i d below

-- what is told of the elements up to one more
pub flat_more : {X Y Z : Type 0} (g : X → Y) (h : Y → List Z) (xs : List X) (i : ℕ) (d : X) → i < length xs → flat_map h (map g (take (i + 1) xs)) ≡ flat_map h (map g (take i xs)) ++ h (g (get_or xs i d))
flat_more g h xs i d below =
    ap (λ l. flat_map h (map g l)) (taken xs i d below)
    ∙ ap (flat_map h) (map_push g (take i xs) (get_or xs i d))
    ∙ flat_map-append h (map g (take i xs)) (g (get_or xs i d) ∷ [])
    ∙ ap (λ l. flat_map h (map g (take i xs)) ++ l) (append-nil (h (g (get_or xs i d))))

module _ (m : TimeMap) (f : Forest) (ps : List Ranked) (i : ℕ) (d : Ranked) (below : i < length ps) where
  pub live_rank : All (IsLive f) (nodes_of ps) → IsLive f (get_or ps i d).node
  live_rank live = All-contains (IsLive f) (nodes_of ps) (get_or ps i d).node live (Contains-map (λ (p : Ranked). p.node) ps (get_or ps i d) (Contains-get_or ps i d below))

  -- one occurrence more
  pub next_node : map (moment_at f) (nodes_of (take (i + 1) ps)) ≡ map (moment_at f) (nodes_of (take i ps)) ++ moment_at f (get_or ps i d).node ∷ []
  next_node =
      ap (λ l. map (moment_at f) (nodes_of l)) (taken ps i d below)
      ∙ ap (map (moment_at f)) (map_push (λ (p : Ranked). p.node) (take i ps) (get_or ps i d))
      ∙ map_push (moment_at f) (nodes_of (take i ps)) (get_or ps i d).node

  -- the lines of the nodes up to one more
  pub more_ranked : (ls ks : List WhyLine) → AreLinesOfAll m (map (moment_at f) (nodes_of (take i ps))) ls → AreLinesOf m (moment_at f (get_or ps i d).node) ks
      → AreLinesOfAll m (map (moment_at f) (nodes_of (take (i + 1) ps))) (ls ++ ks)
  more_ranked ls ks are its =
      subst (λ (xs : List Moment). AreLinesOfAll m xs (ls ++ ks)) (sym next_node)
      (more_lines m (map (moment_at f) (nodes_of (take i ps))) (moment_at f (get_or ps i d).node) ls ks are its)

-- ---- the end of what stands at a node

module _ (s : Standing) (net : Net) (f : Forest) (seen : IsForestOf s net f) where
  -- the token at a node ends where the node does
  pub end_is : (x : ℕ) (m : Member) → member f x ≡ Some m → option_and_then (λ (row : TokenRow Moment). row.end) (token_of s (moment_at f x)) ≡ option_map (λ e. spot_moment net.names f (Declared e)) m.end
  end_is x m here =
      ap (λ k. option_and_then (λ (row : TokenRow Moment). row.end) (token_of s k)) (moment_at-is f x m here)
      ∙ ap (option_and_then (λ (row : TokenRow Moment). row.end)) (token_is s net f seen x m here)
      ∙ by m.class m.end refl refl
    where
      row_at : List ℕ → Option ℕ → TokenRow Spot
      row_at class e = record { spot = Node x; end = option_map Declared e; fact = m.what; class = class }

      shape_is : (c : Option (List ℕ)) (shape : Shape) → c ≡ class_for s shape m.what → shape ≡ Span → c ≡ None → ⊥
      shape_is c Event e is none = cc
      shape_is c Persistence e is none = cc
      shape_is c Span e is none = (let some : Some _ ≡ None = sym e ∙ none in cc)

      no_class : (e : ℕ) → m.end ≡ Some e → m.class ≡ None → ⊥
      no_class e ends none = spans (subst (λ (o : Option ℕ). MatchOption o (m.shape ≢ Span) (λ k. (m.shape ≡ Span) × IsNumberOf net.names k (End m.root))) ends (seen.members x m here).end)
        where
          spans : (m.shape ≡ Span) × IsNumberOf net.names e (End m.root) → ⊥
          spans h = shape_is m.class m.shape (seen.members x m here).class h.0 none

      by : (c : Option (List ℕ)) (e : Option ℕ) → m.class ≡ c → m.end ≡ e
          → option_and_then (λ (row : TokenRow Moment). row.end)
          (option_map (row_moment net.names f) (option_map (λ (class : List ℕ). row_at class e) c)) ≡ option_map (λ (k : ℕ). spot_moment net.names f (Declared k)) e
      by None None is ends = refl
      by None (Some e) is ends = absurd (no_class e ends is)
      by (Some class) None is ends = refl
      by (Some class) (Some e) is ends = refl

  -- the number of a node's end is in use
  pub end_in_use : (x : ℕ) (m : Member) → member f x ≡ Some m → (e : ℕ) → m.end ≡ Some e → IsInUse net.names e
  end_in_use x m here e ends =
      let span : (m.shape ≡ Span) × IsNumberOf net.names e (End m.root) = subst (λ (o : Option ℕ). MatchOption o (m.shape ≢ Span) (λ k. (m.shape ≡ Span) × IsNumberOf net.names k (End m.root))) ends (seen.members x m here).end in
      ap is_some span.1

  -- what a supporter at a node needs to be in order at t
  pub pairs_are : (x : ℕ) (m : Member) → member f x ≡ Some m → (t : Moment) (e : Option ℕ) → m.end ≡ e
      → pairs_of (built s) t (moment_at f x) ≡ (moment_at f x, t) ∷ end_pair (built s) t (option_map (λ k. spot_moment net.names f (Declared k)) e)
  pairs_are x m here t e ends = ap (λ o. (moment_at f x, t) ∷ end_pair (built s) t o) (end_is x m here ∙ ap (option_map (λ k. spot_moment net.names f (Declared k))) ends)
