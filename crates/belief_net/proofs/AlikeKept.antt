-- What is kept of a list is kept of each list that is alike in all that beliefs read.
use Rattle.std.proofs.Common.{◌≡◌, ◌∙◌, ℕ, List, ◌∷◌, ◌++◌, map, sym, ap, subst, inl, inr}
use Rattle.std.specs.Prelude.{Some}
use Rattle.std.specs.List.{Contains, filter_map}
use Rattle.tmm_model.specs.declared.point.PointName.TheVariants.{Start}
use Rattle.tmm_model.specs.declared.token.TokenRow.{TokenRow}
use Rattle.tmm_model.specs.Maps.{built, believed_tokens}
use Rattle.tmm_model.specs.Moments.{Moment, At, RuleText, read_by, rule_of}
use Rattle.tmm_model.specs.Standing.{Standing, points_in, far_in}
use Rattle.list_theory.specs.WellNamed.{IsSound}
use Rattle.list_theory.proofs.Elements.{In, In-from_Contains, In-cases, In-map, In-filter, In-filter_map, list_any-In}
use Rattle.belief_theory.specs.Outcomes.{outcome}
use Rattle.belief_theory.specs.Touched.{bears_on, is_watched, watched, watched_points}
use Rattle.belief_theory.proofs.NextLists.{all_spelt}
use Rattle.belief_theory.proofs.Rivals.{contradicts_is, bears_alike}
use Rattle.belief_theory.proofs.Untouched.{Alike, class_of_token, watches, watched_token, outcome_alike}
use Rattle.dist_net.specs.Net.{Net}
use Rattle.net_theory.specs.Fits.{IsNetOf}
use Rattle.net_theory.specs.KeptNumbers.{PointsKeepNumbers}
use Rattle.spots.specs.Forest.{Forest, IsLive, moment_at}
use Rattle.spots.specs.OfLists.{IsForestOf, HasOccurrences}
use Rattle.spots.proofs.Nodes.{node_at, moment_at-is}
use Rattle.spots.proofs.Seen.{early_is}
use Rattle.occ_tree.specs.Classes.{place_in}
use Rattle.occ_tree.specs.Dated.{IsDatedBy}
use Rattle.occ_tree.specs.Places.{forest}
use Rattle.occ_tree.specs.Standing.{present}
use Rattle.revisions.specs.Alike.{AreAlike, BelieveAlike}
use Rattle.revisions.proofs.Alike.{IsAnchored, IsBetween, tokens_between, rules_same, distance_same, believed_anchored, alike_believe}
use Rattle.revisions.proofs.StillEdits.{stay_seen}
use Rattle.joined.specs.Netted.{IsCurrent}
use Rattle.joined.specs.Rows.{Row, AreRowsOf, decision_of}
use Rattle.belief_table.specs.declared.state.Beliefs.{Beliefs}
use Rattle.belief_net.specs.Alike.{AlikeAreKept}
use Rattle.belief_table.specs.Decided.{rule_in, AreUnder}
use Rattle.belief_turns.specs.Turning.{rows_of, IsFit}
use Rattle.belief_net.specs.Updating.{IsKept}

module _ (s t : Standing) (alike : AreAlike s t) where
  -- ---- outcomes

  -- `start`, an event that is led to from a point that beliefs read, and where such tokens begin
  -- and end
  points_anchored : (x : Moment) → IsAnchored s x → (ks : List (TokenRow Moment)) → ((k : TokenRow Moment) → In k ks → IsBetween s k)
      → (p : Moment) → In p (At Start ∷ x ∷ map (λ k. k.spot) ks ++ filter_map (λ k. k.end) ks) → IsAnchored s p
  points_anchored x at ks between p (inl is) = subst (IsAnchored s) is tt
  points_anchored x at ks between p (inr (inl is)) = subst (IsAnchored s) is at
  points_anchored x at ks between p (inr (inr there)) = elim (In-cases (map (λ k. k.spot) ks) (filter_map (λ k. k.end) ks) p there) [
    | inl begins ↦ let (k, here, is) = In-map (λ (k : TokenRow Moment). k.spot) ks p begins in subst (IsAnchored s) is (between k here).begin
    | inr ends ↦ let (k, here, is) = In-filter_map (λ (k : TokenRow Moment). k.end) ks p ends in (between k here).end p is
  ]

  module _ (sound : IsSound s) (sound_after : IsSound t) where
    abbrev same : BelieveAlike s t
    same = (alike_believe s t alike).0

    in_t : (k : TokenRow Moment) → In k (believed_tokens (built s)) → In k (believed_tokens (built t))
    in_t k at = subst (In k) same.tokens at

    in_s : (k : TokenRow Moment) → In k (believed_tokens (built t)) → In k (believed_tokens (built s))
    in_s k at = subst (In k) (sym same.tokens) at

    -- a token that is watched in one is watched in the other
    watched_into : (r : List ℕ) (k : TokenRow Moment) → In k (watched (built s) r) → In k (watched (built t) r)
    watched_into r k at =
        let (there, reads) = In-filter (is_watched s r) (believed_tokens (built s)) k at in
        let (f, read, bears) = list_any-In (λ fact. bears_on s fact k) (read_by (rule_of s r)) reads in
        watches (built t) r f k (subst (λ (x : RuleText). In f (read_by x)) (alike.say.rule r) read) (in_t k there)
        (bears_alike t s f (λ g _. sym (alike.say.contradict f g)) k (class_of_token (built t) k (in_t k there)) (sym (alike.say.class f)) bears)

    watched_back : (r : List ℕ) (k : TokenRow Moment) → In k (watched (built t) r) → In k (watched (built s) r)
    watched_back r k at =
        let (there, reads) = In-filter (is_watched t r) (believed_tokens (built t)) k at in
        let (f, read, bears) = list_any-In (λ fact. bears_on t fact k) (read_by (rule_of t r)) reads in
        watches (built s) r f k (subst (λ (x : RuleText). In f (read_by x)) (sym (alike.say.rule r)) read) (in_s k there)
        (bears_alike s t f (λ g _. alike.say.contradict f g) k (class_of_token (built s) k (in_s k there)) (alike.say.class f) bears)

    watched_between : (r : List ℕ) (k : TokenRow Moment) → In k (watched (built s) r) → IsBetween s k
    watched_between r k at = tokens_between s (built s).believed (believed_anchored s t alike.say alike.distances) k (In-filter _ (believed_tokens (built s)) k at).0

    pub outcome_same : (x : Moment) → Contains (built s).believed x → (r : List ℕ)
        → outcome s (far_in s.premises) (built s).believed x r ≡ outcome t (far_in t.premises) (built t).believed x r
    outcome_same x at r = outcome_alike (built s) (built t) x r decided (all_spelt s sound) (all_spelt t sound_after)
      where
        anchored : (p : Moment) → In p (watched_points (built s) x r) → IsAnchored s p
        anchored = points_anchored x (believed_anchored s t alike.say alike.distances x (In-from_Contains (built s).believed x at)) (watched (built s) r) (watched_between r)

        decided : Alike (built s) (built t) x r
        decided = record {
          text = alike.say.rule r;
          horizon = alike.say.horizon;
          into = watched_into r;
          back = watched_back r;
          gaps = λ p q at_p at_q. distance_same s t alike.say alike.distances p q (anchored p at_p) (anchored q at_q);
          contradict = λ k c at_k at_c given.
              (let k_s = watched_token (built s) r k at_k in
              let c_s = watched_token (built s) r c at_c in
              contradicts_is s k c (class_of_token (built s) k k_s) (class_of_token (built s) c c_s) ∙ alike.say.contradict k.fact c.fact
              ∙ sym (contradicts_is t k c (class_of_token (built t) k (in_t k k_s)) (class_of_token (built t) c (in_t c c_s))));
        }

-- ---- nodes and rows

module _ (s t : Standing) (before net : Net) (b : Beliefs) (alike : AreAlike s t) (of_t : IsNetOf t net)
    (keep : PointsKeepNumbers (points_in t.premises) before.names net.names) (kept : IsKept s before b) where
  abbrev f : Forest
  f = forest b.tree

  believe : BelieveAlike s t
  believe = (alike_believe s t alike).0

  seen : IsForestOf t net f
  seen = stay_seen s t alike.say before net f of_t keep kept.fit.tree.seen

  -- the occurrence of a node was believed
  believed : (x : ℕ) → IsLive f x → Contains (built s).believed (moment_at f x)
  believed x live =
      let (m, here) = node_at f x live in
      subst (Contains (built s).believed) (sym (moment_at-is f x m here)) (kept.current.holds.own x m here)

  -- each node has the same date in both networks
  dated : IsDatedBy net (present b.tree)
  dated x live =
      kept.fit.tree.dated x live
      ∙ early_is s before f kept.fit.tree.seen x live
      ∙ believe.dates (moment_at f x) (believed x live)
      ∙ sym (early_is t net f seen x live)

  under : AreUnder t b.decisions
  under = record {
    classes = λ i row at.
        let was = kept.fit.under.classes i row at in
        record {
          classes = was.classes;
          few = was.few;
          numbers = sym (λ j. map (λ fact. place_in b.decisions.classes (alike.say.class fact j)) (read_by (alike.say.rule (rule_in b.decisions row) j))) ∙ was.numbers;
          heads = was.heads;
        };
    named = kept.fit.under.named;
  }

  fit : IsFit t net b
  fit = record { tree = record { seen = seen; dated = dated }; events = kept.fit.events; under = under; dated = kept.fit.dated }

  rows_are : AreRowsOf t f (rows_of b)
  rows_are = record {
    each = λ x rule live stands. kept.current.rows_are.each x rule live (subst (λ l. Contains l rule) (sym (rules_same s t alike.say (moment_at f x))) stands);
    own = λ i q at.
        let was = kept.current.rows_are.own i q at in
        (was.0, subst (λ l. Contains l q.rule) (rules_same s t alike.say (moment_at f q.trigger)) was.1);
    apart = kept.current.rows_are.apart;
  }

  told : (i : ℕ) (q : Row) → rows_of b i ≡ Some q
      → q.found ≡ decision_of (outcome t (far_in t.premises) (built t).believed (moment_at f q.trigger) q.rule)
  told i q at =
      let live = (kept.current.rows_are.own i q at).0 in
      kept.current.told i q at
      ∙ ap decision_of (outcome_same s t alike kept.fit.tree.seen.network.sound of_t.sound (moment_at f q.trigger) (believed q.trigger live) q.rule)

  current : IsCurrent t net f (rows_of b)
  current = record {
    seen = seen;
    holds = subst (λ l. HasOccurrences l f) believe.believed kept.current.holds;
    rows_are = rows_are;
    none_waits = kept.current.none_waits;
    told = told;
  }

  kept_of : IsKept t net b
  kept_of = record { fit = fit; current = current; none_waits = kept.none_waits; tree = kept.tree; rows = kept.rows }

pub alike_kept : AlikeAreKept
alike_kept = kept_of
