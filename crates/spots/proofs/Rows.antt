-- The token that a node is, and the node of a token.
use Rattle.std.proofs.Common.{◌≡◌, ◌≢◌, ◌∙◌, ℕ, Bool, true, false, List, Option, Some, None, MatchOption, ap, refl, sym, subst}
use Rattle.std.specs.Option.{option_map, ForSome}
use Rattle.std.specs.List.{All, Contains}
use Rattle.tmm_model.specs.declared.point.PointName.{PointName}
use Rattle.tmm_model.specs.declared.point.PointName.TheVariants.{End}
use Rattle.tmm_model.specs.declared.token.Shape.{Shape}
use Rattle.tmm_model.specs.declared.token.Shape.TheVariants.{Event, Persistence, Span}
use Rattle.tmm_model.specs.declared.token.TokenRow.{TokenRow}
use Rattle.tmm_model.specs.Beliefs.{token_of, token_at, is_of, as_effect, class_of, end_of}
use Rattle.tmm_model.specs.Moments.{Moment, At, After, base, rule_of}
use Rattle.tmm_model.specs.Sorts.{Sort, is_kind, sort_in}
use Rattle.tmm_model.specs.Standing.{Standing}
use Rattle.walk_theory.proofs.Members.{All-from_contains}
use Rattle.dist_net.specs.Net.{Net}
use Rattle.net_theory.specs.Represents.{IsNumberOf}
use Rattle.net_theory.proofs.Named.{name_at-is}
use Rattle.net_theory.proofs.Nets.{is_in_use}
use Rattle.spots.specs.declared.spot.Spot.{Spot}
use Rattle.spots.specs.declared.spot.Spot.TheVariants.{Declared, Node}
use Rattle.spots.specs.Forest.{Forest, Member, member, moment, moment_at}
use Rattle.spots.specs.Spots.{IsSpot, spot_moment, AreTokens, row_moment, token_row}
use Rattle.spots.specs.OfLists.{IsForestOf, IsMemberOf, class_for}
use Rattle.spots.proofs.Nodes.{live_at, moment_at-is, base-moment}

-- ---- what a row says of its node

-- the row is the token that the node x is
pub record IsRowOf (f : Forest) (row : TokenRow Spot) (x : ℕ) (m : Member) : Type 0 where
  pub here : member f x ≡ Some m
  pub spot : row.spot ≡ Node x
  pub «end» : row.end ≡ option_map Declared m.end
  pub fact : row.fact ≡ m.what
  pub class : m.class ≡ Some row.class

row_of : (f : Forest) (row : TokenRow Spot) (x : ℕ) (m : Member) → member f x ≡ Some m → token_row x m ≡ Some row → IsRowOf f row x m
row_of f row x m here e = by m.class refl e
  where
    by : (o : Option (List ℕ)) → m.class ≡ o → option_map (λ class. record { spot = Node x; end = option_map Declared m.end; fact = m.what; class = class }) o ≡ Some row → IsRowOf f row x m
    by None is e = cc
    by (Some class) is e =
        let same : ◌≡◌ {A = TokenRow Spot} (record { spot = Node x; end = option_map Declared m.end; fact = m.what; class = class }) row = cc in record {
          here = here;
          spot = ap (λ (k : TokenRow Spot). k.spot) (sym same);
          end = ap (λ (k : TokenRow Spot). k.end) (sym same);
          fact = ap (λ (k : TokenRow Spot). k.fact) (sym same);
          class = is ∙ ap (λ (k : TokenRow Spot). Some k.class) same;
        }

-- **The node of a row**, with what the row says of it.
pub member_of_token : (f : Forest) (class : List ℕ) (rows : List (TokenRow Spot)) → AreTokens f class rows → (row : TokenRow Spot) → Contains rows row
    → (x : ℕ) × (m : Member) × IsRowOf f row x m × (row.class ≡ class)
member_of_token f class rows are row at =
    let (x, m, here, is, one) = are.own row at in
    (x, m, row_of f row x m here is, one)

-- ---- what is of a span

-- rules lead to no span
no_span : (x : List ℕ) (o : Option Sort) (what : List ℕ) → as_effect x o ≡ (Span, what) → ⊥
no_span x None what e = let shape : Persistence ≡ Span = ap (λ (y : Shape × List ℕ). y.0) e in cc
no_span x (Some sort) what e = by (is_kind sort) e
  where
    by : (b : Bool) → elim b as (λ _. Shape × List ℕ) [ true ↦ (Event, x) | false ↦ (Persistence, x) ] ≡ (Span, what) → ⊥
    by true e = let shape : Event ≡ Span = ap (λ (y : Shape × List ℕ). y.0) e in cc
    by false e = let shape : Persistence ≡ Span = ap (λ (y : Shape × List ℕ). y.0) e in cc

span_is_root : (s : Standing) (y : Moment) (what : List ℕ) → is_of s y ≡ Some (Span, what) → y ≡ At (base y)
span_is_root s (At p) what e = refl
span_is_root s (After t r) what e = absurd (no_span (rule_of s r).effect (sort_in s.premises (rule_of s r).effect) what (let same : as_effect (rule_of s r).effect (sort_in s.premises (rule_of s r).effect) ≡ (Span, what) = cc in same))

module _ (s : Standing) (net : Net) (f : Forest) (seen : IsForestOf s net f) where
  span_end : (x : ℕ) (m : Member) → member f x ≡ Some m → m.shape ≡ Span → (k : ℕ) × (m.end ≡ Some k) × IsNumberOf net.names k (End m.root)
  span_end x m here span = by m.end refl (seen.members x m here).end
    where
      by : (o : Option ℕ) → m.end ≡ o → MatchOption o (m.shape ≢ Span) (λ e. (m.shape ≡ Span) × IsNumberOf net.names e (End m.root)) → (k : ℕ) × (m.end ≡ Some k) × IsNumberOf net.names k (End m.root)
      by None is h = absurd (h span)
      by (Some k) is h = (k, is, h.1)

  no_end : (x : ℕ) (m : Member) → member f x ≡ Some m → m.shape ≢ Span → m.end ≡ None
  no_end x m here other = by m.end refl (seen.members x m here).end
    where
      by : (o : Option ℕ) → m.end ≡ o → MatchOption o (m.shape ≢ Span) (λ e. (m.shape ≡ Span) × IsNumberOf net.names e (End m.root)) → m.end ≡ None
      by None is h = is
      by (Some k) is h = absurd (other h.0)

  -- the end of a node is in use
  pub end_there : (x : ℕ) (m : Member) → member f x ≡ Some m → ForSome (option_map Declared m.end) (IsSpot net.names f)
  end_there x m here = by m.end (seen.members x m here).end
    where
      by : (o : Option ℕ) → MatchOption o (m.shape ≢ Span) (λ e. (m.shape ≡ Span) × IsNumberOf net.names e (End m.root)) → ForSome (option_map Declared o) (IsSpot net.names f)
      by None h = λ q e. cc
      by (Some k) h = λ q e. (let same : Declared k ≡ q = cc in subst (IsSpot net.names f) same (is_in_use net.names k (End m.root) h.1))

  -- **The token at a node's moment is that of the node.**
  pub token_is : (x : ℕ) (m : Member) → member f x ≡ Some m → token_of s (moment m) ≡ option_map (row_moment net.names f) (token_row x m)
  token_is x m here =
      ap (λ (o : Option (Shape × List ℕ)). elim o as (λ _. Option (TokenRow Moment)) [ None ↦ None | Some y ↦ token_at s (moment m) y ]) is.is
      ∙ by m.shape refl is.class
    where
      is : IsMemberOf s net.names m
      is = seen.members x m here

      spot : moment m ≡ moment_at f x
      spot = sym (moment_at-is f x m here)

      by : (shape : Shape) → m.shape ≡ shape → m.class ≡ class_for s shape m.what
          → token_at s (moment m) (shape, m.what) ≡ option_map (row_moment net.names f) (option_map (λ class. record { spot = Node x; end = option_map Declared m.end; fact = m.what; class = class }) m.class)
      by Event e c = sym (ap (λ (o : Option (List ℕ)). option_map (row_moment net.names f) (option_map (λ class. record { spot = Node x; end = option_map Declared m.end; fact = m.what; class = class }) o)) c)
      by Persistence e c =
          let none = sym (no_end x m here (λ span. (let same : Persistence ≡ Span = sym e ∙ span in cc))) in
          (λ i. Some (record { spot = spot i; end = option_map (spot_moment net.names f) (option_map Declared (none i)); fact = m.what; class = class_of s m.what }))
          ∙ sym (ap (λ (o : Option (List ℕ)). option_map (row_moment net.names f) (option_map (λ class. record { spot = Node x; end = option_map Declared m.end; fact = m.what; class = class }) o)) c)
      by Span e c =
          let (k, ends, at) = span_end x m here e in
          let root = span_is_root s (moment m) m.what (is.is ∙ ap (λ (z : Shape). Some (z, m.what)) e) ∙ ap (λ (p : PointName). At p) (base-moment m) in
          let last = ap end_of root ∙ ap (λ (p : PointName). At p) (sym (name_at-is net.names k (End m.root) at)) in
          let back = sym ends in
          (λ i. Some (record { spot = spot i; end = Some (last i); fact = m.what; class = class_of s m.what }))
          ∙ (λ i. Some (record { spot = moment_at f x; end = option_map (spot_moment net.names f) (option_map Declared (back i)); fact = m.what; class = class_of s m.what }))
          ∙ sym (ap (λ (o : Option (List ℕ)). option_map (row_moment net.names f) (option_map (λ class. record { spot = Node x; end = option_map Declared m.end; fact = m.what; class = class }) o)) c)

  -- the class of a token is that of its fact
  pub class_of_member : (x : ℕ) (m : Member) (class : List ℕ) → member f x ≡ Some m → m.class ≡ Some class → class ≡ class_of s m.what
  class_of_member x m class here e = by m.shape (seen.members x m here).class
    where
      by : (shape : Shape) → m.class ≡ class_for s shape m.what → class ≡ class_of s m.what
      by Event c = cc
      by Persistence c = cc
      by Span c = cc

  -- **The class of a row is that of its fact.**
  pub class_of_fact : (class : List ℕ) (rows : List (TokenRow Spot)) → AreTokens f class rows → (row : TokenRow Spot) → Contains rows row → class ≡ class_of s row.fact
  class_of_fact class rows are row at =
      let (x, m, is, one) = member_of_token f class rows are row at in
      sym one ∙ class_of_member x m row.class is.here is.class ∙ ap (class_of s) (sym is.fact)

  -- **A row begins and ends at spots that are there.**
  pub rows_there : (class : List ℕ) (rows : List (TokenRow Spot)) → AreTokens f class rows
      → All (λ row. IsSpot net.names f row.spot × ForSome row.end (IsSpot net.names f)) rows
  rows_there class rows are =
      All-from_contains (λ row. IsSpot net.names f row.spot × ForSome row.end (IsSpot net.names f)) rows
      (λ row at.
      (let (x, m, is, one) = member_of_token f class rows are row at in (
        subst (IsSpot net.names f) (sym is.spot) (live_at f x m is.here),
        subst (λ (o : Option Spot). ForSome o (IsSpot net.names f)) (sym is.end) (end_there x m is.here),
      )))
