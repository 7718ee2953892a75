-- Which rows wait at the beginning.
use Rattle.std.proofs.Common.{◌≡◌, ◌∙◌, ℕ, Bool, true, false, not, ◌||◌, ◌==◌, List, refl, sym, subst, inl, inr}
use Rattle.std.proofs.lemmas.Bool.Decides.{eqb_tells}
use Rattle.std.specs.Prelude.{◌⊎◌, ◌≢◌, Some, pos, int_le}
use Rattle.std.specs.List.{Contains, list_all}
use Rattle.tmm_model.specs.declared.premise.Edit.{Edit}
use Rattle.tmm_model.specs.declared.premise.Edit.TheVariants.{Horizon}
use Rattle.tmm_model.specs.declared.token.TokenRow.{TokenRow}
use Rattle.tmm_model.specs.Beliefs.{due, class_of, rules_at, token_of}
use Rattle.tmm_model.specs.Edits.{next_list, list_until}
use Rattle.tmm_model.specs.Maps.{TimeMap, built, gap, believed_tokens}
use Rattle.tmm_model.specs.Moments.{Moment, At, After, RuleText, read_by, rule_of}
use Rattle.tmm_model.specs.Standing.{Standing, far_in}
use Rattle.list_theory.specs.WellNamed.{IsSound}
use Rattle.list_theory.proofs.Elements.{In, In-from_Contains, Contains-from_In, In-filter, filter-In, In-filter_map, filter_map-In, list_any-In, In-list_any, list_all-In}
use Rattle.belief_theory.specs.Outcomes.{outcome}
use Rattle.belief_theory.specs.Right.{Occurs}
use Rattle.belief_theory.specs.Touched.{bears_on, is_watched, is_decision, is_touched, same_rivals, same_tokens, same_gaps, watched, watched_points}
use Rattle.belief_theory.proofs.OneRight.{spot-token_of}
use Rattle.belief_theory.proofs.Rivals.{HasClass, HaveSameRivals, same_rivals_have, bears_alike}
use Rattle.belief_theory.proofs.SoundBeliefs.{believed_right, believed_occurs}
use Rattle.belief_theory.proofs.Untouched.{Alike, untouched_alike, untouched_stood}
use Rattle.belief_theory.proofs.Watched.{class-token_of}
use Rattle.spots.specs.Forest.{Forest, moment_at}
use Rattle.spots.specs.OfLists.{HasOccurrences, map_of}
use Rattle.spots.proofs.Nodes.{node_at, moment_at-is}
use Rattle.revisions.specs.Counted.{AreSeeds}
use Rattle.revisions.specs.Maps.{revision, watches}
use Rattle.revisions.specs.Revisions.{Revision, IsOf}
use Rattle.revisions.proofs.Lawful.{lawful, text, watched_token, token_watched, watched_back, decided, occurs_of}
use Rattle.revisions.proofs.SeedsRight.{keeps, seed_occurs, untouched_from, among_more}
use Rattle.revisions.proofs.Tokens.{tokens_stay, classes_stay}
use Rattle.joined.specs.Rows.{Row, Rows, AreRowsOf}
use Rattle.joined.specs.Starting.{AreMarked}
use Rattle.joined.specs.Touching.{RivalsStay, IsUntouched, TouchedAreMarked, RestingAreMarked}
use Rattle.joined.proofs.Starting.{horizons_keep}

-- ---- a decision is not touched exactly where it is said so

-- a token that a rule of both lists watches by the old one it watches by the new one, if the same
-- facts contradict what it reads
pub watched_on : (old : Standing) (edit : Edit) → IsSound old → IsSound (next_list old edit) → (t : Moment) (r : List ℕ) (k : TokenRow Moment)
    → Contains (rules_at old t) r → Contains (rules_at (next_list old edit) t) r → rule_of old r ≡ rule_of (next_list old edit) r
    → ((f : List ℕ) → In f (read_by (rule_of (next_list old edit) r)) → HaveSameRivals old (next_list old edit) f)
    → HasClass (next_list old edit) k → is_watched old r k ≡ true → is_watched (next_list old edit) r k ≡ true
watched_on old edit sound_old sound_new t r k before stands same rivals own h =
    let new = next_list old edit in
    let (f, at, bears) = list_any-In (λ fact. bears_on old fact k) (read_by (rule_of old r)) h in
    let at_new : In f (read_by (rule_of new r)) = subst (λ (x : RuleText). In f (read_by x)) same at in
    let class : class_of new f ≡ class_of old f = sym (classes_stay old edit sound_old sound_new t r f before stands at at_new) in
    let back : HaveSameRivals new old f = λ g said. sym (rivals f at_new g (elim said [ inl is ↦ inr is | inr is ↦ inl is ])) in
    In-list_any (λ fact. bears_on new fact k) (read_by (rule_of new r)) f at_new (bears_alike new old f back k own class bears)

-- what an untouched decision reads has the same rivals in both lists
rivals_stay : (m n : TimeMap) (t : Moment) (r : List ℕ) → is_touched m n (t, r) ≡ false → RivalsStay m.list n.list r
rivals_stay m n t r h f at =
    list_all-In (same_rivals m.list n.list) (read_by (rule_of n.list r))
    (third (is_decision m (t, r)) (m.list.horizon == n.list.horizon) (list_all (same_rivals m.list n.list) (read_by (rule_of n.list r)))
    (same_tokens (watched m r) (watched n r)) (same_gaps m n (watched_points n t r)) h) f at
  where
    third : (a b c d e : Bool) → (not a || not b || not c || not d || not e) ≡ false → c ≡ true
    third a b true d e h = refl
    third true true false d e h = cc
    third true false false d e h = cc
    third false b false d e h = cc

module _ (old : Standing) (edit : Edit) (sound_old : IsSound old) (sound_new : IsSound (next_list old edit)) (b : List Moment) (seeds : AreSeeds old (next_list old edit) b)
    (t : Moment) (r : List ℕ) (stands : Contains (rules_at (next_list old edit) t) r) where
  abbrev new : Standing
  new = next_list old edit

  old_token : (x : Moment) (k : TokenRow Moment) → Contains (built old).believed x → token_of old x ≡ Some k → is_watched old r k ≡ true → In k (watched (built old) r)
  old_token x k believed e h = filter-In (is_watched old r) (believed_tokens (built old)) k (filter_map-In (token_of old) (built old).believed x k (In-from_Contains (built old).believed x believed) e) h

  new_token : (x : Moment) (k : TokenRow Moment) → Contains b x → token_of new x ≡ Some k → is_watched new r k ≡ true → In k (watched (map_of new b) r)
  new_token x k at e h = filter-In (is_watched new r) (believed_tokens (map_of new b)) k (filter_map-In (token_of new) b x k (In-from_Contains b x at) e) h

  of_old : (k : TokenRow Moment) → In k (watched (built old) r) → (x : Moment) × Contains (built old).believed x × (token_of old x ≡ Some k) × (is_watched old r k ≡ true)
  of_old k at =
      let h = In-filter (is_watched old r) (believed_tokens (built old)) k at in
      let (x, there, e) = In-filter_map (token_of old) (built old).believed k h.0 in
      (x, Contains-from_In (built old).believed x there, e, h.1)

  of_new : (k : TokenRow Moment) → In k (watched (map_of new b) r) → (x : Moment) × Contains b x × (token_of new x ≡ Some k) × (is_watched new r k ≡ true)
  of_new k at =
      let h = In-filter (is_watched new r) (believed_tokens (map_of new b)) k at in
      let (x, there, e) = In-filter_map (token_of new) b k h.0 in
      (x, Contains-from_In b x there, e, h.1)

  -- what occurs in both lists is one token in both
  one_token : (x : Moment) → Contains (built old).believed x → Contains b x → token_of old x ≡ token_of new x
  one_token x believed at = tokens_stay old edit sound_old sound_new x (believed_occurs old sound_old x believed) (seed_occurs old edit sound_old sound_new b seeds x at)

  pub untouched_false : IsUntouched old (next_list old edit) b t r → is_touched (built old) (map_of (next_list old edit) b) (t, r) ≡ false
  untouched_false u = untouched_from (built old) (map_of new b) t r (decided old edit sound_old sound_new (built old) t r u.was.0 u.was.1) u.horizon u.rivals into back u.gaps
    where
      same : rule_of old r ≡ rule_of new r
      same = text old edit sound_old sound_new t r u.was.1 stands

      have : (f : List ℕ) → In f (read_by (rule_of new r)) → HaveSameRivals old new f
      have f at = same_rivals_have old new f (u.rivals f at)

      into : (k : TokenRow Moment) → In k (watched (built old) r) → In k (watched (map_of new b) r)
      into k at =
          let (x, believed, e, h) = of_old k at in
          let there = u.left x believed (token_watched old r x k e h) in
          let is = sym (one_token x believed there) ∙ e in
          new_token x k there is (watched_on old edit sound_old sound_new t r k u.was.1 stands same have (class-token_of new x k is) h)

      back : (k : TokenRow Moment) → In k (watched (map_of new b) r) → In k (watched (built old) r)
      back k at =
          let (x, there, e, h) = of_new k at in
          let believed = u.entered x there (token_watched new r x k e h) in
          let is = one_token x believed there ∙ e in
          old_token x k believed is (watched_back old edit sound_old sound_new t r k u.was.1 stands same have (class-token_of old x k is) h)

  pub false_untouched : is_touched (built old) (map_of (next_list old edit) b) (t, r) ≡ false → IsUntouched old (next_list old edit) b t r
  false_untouched h = record { was = stood; horizon = alike.horizon; rivals = rivals_stay (built old) (map_of new b) t r h; left = left; entered = entered; gaps = gaps }
    where
      stood : Contains (built old).believed t × Contains (rules_at old t) r
      stood = untouched_stood (built old) (map_of new b) t r h

      alike : Alike (built old) (map_of new b) t r
      alike = untouched_alike (built old) (map_of new b) t r (text old edit sound_old sound_new t r stood.1 stands) h

      left : (x : Moment) → Contains (built old).believed x → watches old r x ≡ true → Contains b x
      left x believed reads =
          let (k, e, watched_k) = watched_token old r x reads in
          let (y, there, f, _) = of_new k (alike.into k (old_token x k believed e watched_k)) in
          subst (Contains b) (sym (spot-token_of new y k f) ∙ spot-token_of old x k e) there

      entered : (x : Moment) → Contains b x → watches new r x ≡ true → Contains (built old).believed x
      entered x there reads =
          let (k, e, watched_k) = watched_token new r x reads in
          let (y, believed, f, _) = of_old k (alike.back k (new_token x k there e watched_k)) in
          subst (Contains (built old).believed) (sym (spot-token_of old y k f) ∙ spot-token_of new x k e) believed

      gaps : (p q : Moment) → In p (watched_points (map_of new b) t r) → In q (watched_points (map_of new b) t r) → gap (built old) p q ≡ gap (map_of new b) p q
      gaps p q at_p at_q =
          alike.gaps p q (among_more t (watched (map_of new b) r) (watched (built old) r) alike.back p at_p) (among_more t (watched (map_of new b) r) (watched (built old) r) alike.back q at_q)

pub resting_marked : RestingAreMarked
resting_marked old edit b f rows sound_old sound_new seeds are all only = record { right = right; touched = touched }
  where
    right : (i : ℕ) (q : Row) → rows i ≡ Some q → (q.waits ≡ true)
        ⊎ (outcome old (far_in old.premises) (built old).believed (moment_at f q.trigger) q.rule ≡ outcome (next_list old edit) (far_in (next_list old edit).premises) b (moment_at f q.trigger) q.rule)
    right i q at = elim (all i q at) [
      | inl waits ↦ inl waits
      | inr rests ↦ inr (elim rests [
        | inl free ↦
            let stands = (are.own i q at).1 in
            keeps old edit sound_old sound_new b seeds (moment_at f q.trigger) q.rule stands (untouched_false old edit sound_old sound_new b seeds (moment_at f q.trigger) q.rule stands free)
        | inr same ↦ same
      ])
    ]

    touched : (i : ℕ) (q : Row) → rows i ≡ Some q → q.waits ≡ true
        → (is_touched (built old) (map_of (next_list old edit) b) (moment_at f q.trigger, q.rule) ≡ true) ⊎ (is_touched (built old) (built (next_list old edit)) (moment_at f q.trigger, q.rule) ≡ true)
    touched i q at waits = by (is_touched (built old) (map_of (next_list old edit) b) (moment_at f q.trigger, q.rule)) refl
      where
        by : (v : Bool) → is_touched (built old) (map_of (next_list old edit) b) (moment_at f q.trigger, q.rule) ≡ v
            → (is_touched (built old) (map_of (next_list old edit) b) (moment_at f q.trigger, q.rule) ≡ true) ⊎ (is_touched (built old) (built (next_list old edit)) (moment_at f q.trigger, q.rule) ≡ true)
        by true e = inl e
        by false e = absurd (only i q at waits (false_untouched old edit sound_old sound_new b seeds (moment_at f q.trigger) q.rule (are.own i q at).1 e))

pub touched_marked : TouchedAreMarked
touched_marked old edit b f rows sound_old sound_new seeds are all only =
    resting_marked old edit b f rows sound_old sound_new seeds are (λ i q at. elim (all i q at) [ inl waits ↦ inl waits | inr free ↦ inr (inl free) ]) only

-- ---- another horizon

-- what is believed of the list before is what the nodes are at the beginning, if the horizon alone
-- changes
module _ (old : Standing) (n : ℕ) (b : List Moment) (sound_old : IsSound old) (seeds : AreSeeds old (list_until old n) b) where
  -- the same occurs
  occurs_until : (x : Moment) → Occurs old x → Occurs (list_until old n) x
  occurs_until (At p) h = h
  occurs_until (After t r) h = (occurs_until t h.0, h.1)

  pub believed_among : (x : Moment) → Contains (built old).believed x → Contains b x
  believed_among (At p) at = (seeds.root p).1 ((believed_right old sound_old (At p)).0 at)
  believed_among (After t r) at = (seeds.derived t r).1 (at, occurs_until (After t r) (believed_occurs old sound_old (After t r) at))

  pub among_believed : (x : Moment) → Contains b x → Contains (built old).believed x
  among_believed (At p) at = (believed_right old sound_old (At p)).1 ((seeds.root p).0 at)
  among_believed (After t r) at = ((seeds.derived t r).0 at).0

module _ (old : Standing) (n : ℕ) (b : List Moment) (f : Forest) (rows : Rows) (sound_old : IsSound old) (sound_new : IsSound (list_until old n)) (in_b : HasOccurrences b f)
    (seeds : AreSeeds old (list_until old n) b) (are : AreRowsOf (list_until old n) f rows)
    (all : (i : ℕ) (q : Row) → rows i ≡ Some q → (q.waits ≡ true)
    ⊎ (int_le (due old (far_in old.premises) (moment_at f q.trigger) q.rule) (pos old.horizon) ≡ int_le (due old (far_in old.premises) (moment_at f q.trigger) q.rule) (pos n)))
    (only : (i : ℕ) (q : Row) → rows i ≡ Some q → q.waits ≡ true → old.horizon ≢ n) where
  abbrev R : Revision
  R = revision (built old) (built (list_until old n))

  is_of : (x : Moment) → Contains b x → IsOf R x
  is_of x at = occurs_of old (Horizon n) sound_old sound_new x (seed_occurs old (Horizon n) sound_old sound_new b seeds x at)

  right : (i : ℕ) (q : Row) → rows i ≡ Some q → (q.waits ≡ true)
      ⊎ (outcome old (far_in old.premises) (built old).believed (moment_at f q.trigger) q.rule ≡ outcome (list_until old n) (far_in old.premises) b (moment_at f q.trigger) q.rule)
  right i q at = elim (all i q at) [
    | inl waits ↦ inl waits
    | inr same ↦ inr (
        let (m, there) = node_at f q.trigger (are.own i q at).0 in
        let live = subst (Contains b) (sym (moment_at-is f q.trigger m there)) (in_b.own q.trigger m there) in
        horizons_keep old n (far_in old.premises) (built old).believed (moment_at f q.trigger) q.rule same
        ∙ (lawful old (Horizon n) sound_old sound_new).rests (built old).believed b (λ x here. is_of x (believed_among old n b sound_old seeds x here)) is_of
        (moment_at f q.trigger) q.rule (is_of (moment_at f q.trigger) live) (are.own i q at).1 (λ x _ _. (believed_among old n b sound_old seeds x, among_believed old n b sound_old seeds x)))
  ]

  touched : (i : ℕ) (q : Row) → rows i ≡ Some q → q.waits ≡ true → is_touched (built old) (map_of (list_until old n) b) (moment_at f q.trigger, q.rule) ≡ true
  touched i q at waits = elim (eqb_tells old.horizon n) [
    | inl same ↦ absurd (only i q at waits same.1)
    | inr other ↦
        by (is_decision (built old) (moment_at f q.trigger, q.rule)) (old.horizon == n)
        (list_all (same_rivals old (list_until old n)) (read_by (rule_of (list_until old n) q.rule)))
        (same_tokens (watched (built old) q.rule) (watched (map_of (list_until old n) b) q.rule))
        (same_gaps (built old) (map_of (list_until old n) b) (watched_points (map_of (list_until old n) b) (moment_at f q.trigger) q.rule)) other.0
  ]
    where
      by : (a b c d e : Bool) → b ≡ false → (not a || not b || not c || not d || not e) ≡ true
      by true false c d e h = refl
      by false false c d e h = refl
      by a true c d e h = cc

  pub horizons_marked : AreMarked old (list_until old n) b f rows
  horizons_marked = record { right = right; touched = λ i q at waits. inl (touched i q at waits) }
