-- Nodes and rows that leave, some after the others.
use Rattle.std.proofs.Common.{◌≡◌, ◌∙◌, ℕ, ◌<◌, List, [], ◌++◌, length, Option, Some, None, refl, sym, ap, subst, inl, inr, ◌⊎◌}
use Rattle.std.proofs.lemmas.List.{append_assoc, append-nil, map-append}
use Rattle.tmm_model.specs.Moments.{Moment, After, moment_of}
use Rattle.tmm_model.specs.Standing.{Standing, premise_in}
use Rattle.list_theory.proofs.Distinct.{Distinct, Distinct-append}
use Rattle.list_theory.proofs.Elements.{In, In-left, In-right, In-cases, In-map}
use Rattle.spots.specs.Forest.{Forest, Member, member, IsLive, moment, moment_at, IsOnce}
use Rattle.spots.proofs.Nodes.{node_at, live_at, moment_at-is}
use Rattle.occ_tree.specs.Classes.{place_in}
use Rattle.occ_tree.specs.Places.{forest}
use Rattle.occ_tree.specs.Standing.{Kept}
use Rattle.joined.specs.Listed.{IsUnderClasses}
use Rattle.belief_table.specs.declared.erasing.Departed.{Departed}
use Rattle.belief_table.specs.declared.state.Beliefs.{Beliefs}
use Rattle.belief_table.specs.declared.dated.DatedOcc.{DatedOcc}
use Rattle.belief_table.specs.Decided.{table_of, rule_in, AreUnder}
use Rattle.belief_table.specs.LastCommit.{KeepLast}
use Rattle.belief_table.specs.Erasing.{moments_of, fact_of, HasLeft, Tells, Notes, Thins, Sheds, Spares, IsFreeOf}
use Rattle.bearing.specs.Gone.{gone_of}
use Rattle.belief_table.specs.Marks.{HaveEvents}
use Rattle.belief_table.specs.Numbers.{name_in}
use Rattle.belief_table.proofs.Named.{last_stays, last_on}

none_some : {X : Type 0} (x : X) → None ≡ Some x → ⊥
none_some x e = cc

-- a number is of one node
pub one_node : (f : Forest) (x : ℕ) (m n : Member) → member f x ≡ Some m → member f x ≡ Some n → m ≡ n
one_node f x m n at there = let both : Some m ≡ Some n = sym at ∙ there in cc

-- ---- what follows of less

module _ (old new : Beliefs) (t : Thins old new) where
  pub once_less : IsOnce (forest old.tree) → IsOnce (forest new.tree)
  once_less once = λ x y m n at there same. once x y m n (t.nodes x m at) (t.nodes y n there) same

  pub under_less : (s : Standing) → AreUnder s old.decisions → AreUnder s new.decisions
  under_less s under = record {
    classes = λ i row at. subst (λ l. IsUnderClasses s (name_in new.decisions.rules) (place_in l) row) (sym t.classes)
        (subst (λ l. IsUnderClasses s (name_in l) (place_in old.decisions.classes) row) (sym t.rules) (under.classes i row (t.rows i row at)));
    named = λ i row at. subst (λ l. row.value.rule < length l) (sym t.rules) (under.named i row (t.rows i row at));
  }

  pub free_less : (name : List ℕ) → IsFreeOf old name → IsFreeOf new name
  free_less name free = record {
    root = λ x m at. free.root x m (t.nodes x m at);
    rule = λ i row at is. free.rule i row (t.rows i row at) (ap (λ l. name_in l row.value.rule) (sym t.rules) ∙ is);
  }

  -- the event of a node that stays is what it was
  pub moment_stays : (x : ℕ) → IsLive (forest new.tree) x → moment_at (forest old.tree) x ≡ moment_at (forest new.tree) x
  moment_stays x live =
      let (m, at) = node_at (forest new.tree) x live in
      moment_at-is (forest old.tree) x m (t.nodes x m at) ∙ sym (moment_at-is (forest new.tree) x m at)

  pub was_live : (x : ℕ) → IsLive (forest new.tree) x → IsLive (forest old.tree) x
  was_live x live = let (m, at) = node_at (forest new.tree) x live in live_at (forest old.tree) x m (t.nodes x m at)

-- ---- where nothing leaves

module _ (b : Beliefs) (events : HaveEvents b.tree (table_of b.decisions)) where
  pub thins_none : Thins b b
  thins_none = record {
    nodes = λ x m at. at;
    above = λ x y m n rule at there is. there;
    dates = λ x live. refl;
    rows = λ i row at. at;
    events = events;
    rests = λ i none. none;
    rules = refl;
    classes = refl;
  }

no_left : (t : Kept) (x : ℕ) (m : Member) → HasLeft t t x m → ⊥
no_left t x m left = none_some m (sym left.gone ∙ left.was)

pub tells_none : (t : Kept) (l : List DatedOcc) → Tells t t l l
tells_none t l = record {
  more = [];
  is = sym (append-nil l);
  own = λ o at. absurd at;
  all = λ x m left derived. absurd (no_left t x m left);
  once = tt;
}

pub notes_none : {X : Type 0} (of : Member → Option X) (t : Kept) (l : List X) → Notes of t t l l
notes_none of t l = record { stay = λ c at. at; own = λ c at. inl at; all = λ x m c left has. absurd (no_left t x m left) }

pub spares_none : (s : Standing) (b : Beliefs) → Spares s b b
spares_none s b = record { nodes = λ x m at stands. at; rows = λ i row at live. inl at }

pub sheds_none : (b : Beliefs) (d : Departed) → HaveEvents b.tree (table_of b.decisions) → Sheds b b d d
sheds_none b d events = record { thins = thins_none b events; tells = tells_none b.tree d.left.items; notes = notes_none (λ m. m.class) b.tree d.classes; facts = notes_none fact_of b.tree d.facts; tokens = notes_none gone_of b.tree d.tokens.items }

-- ---- one after the other

module _ (old mid new : Beliefs) (first : Thins old mid) (then_ : Thins mid new) where
  pub thins_on : Thins old new
  thins_on = record {
    nodes = λ x m at. first.nodes x m (then_.nodes x m at);
    above = λ x y m n rule at there is. then_.above x y m n rule at (first.above x y m n rule (then_.nodes x m at) there is) is;
    dates = λ x live. then_.dates x live ∙ first.dates x (was_live mid new then_ x live);
    rows = λ i row at. first.rows i row (then_.rows i row at);
    events = then_.events;
    rests = λ i none. then_.rests i (first.rests i none);
    rules = then_.rules ∙ first.rules;
    classes = then_.classes ∙ first.classes;
  }

  left_first : (x : ℕ) (m : Member) → HasLeft old.tree mid.tree x m → HasLeft old.tree new.tree x m
  left_first x m left = record { was = left.was; gone = by (member (forest new.tree) x) refl }
    where
      by : (o : Option Member) → member (forest new.tree) x ≡ o → member (forest new.tree) x ≡ None
      by None e = e
      by (Some k) e = absurd (none_some k (sym left.gone ∙ then_.nodes x k e))

  left_then : (x : ℕ) (m : Member) → HasLeft mid.tree new.tree x m → HasLeft old.tree new.tree x m
  left_then x m left = record { was = first.nodes x m left.was; gone = left.gone }

  left_cases : (x : ℕ) (m : Member) → HasLeft old.tree new.tree x m → HasLeft old.tree mid.tree x m ⊎ HasLeft mid.tree new.tree x m
  left_cases x m left = by (member (forest mid.tree) x) refl
    where
      by : (o : Option Member) → member (forest mid.tree) x ≡ o → HasLeft old.tree mid.tree x m ⊎ HasLeft mid.tree new.tree x m
      by None e = inl (record { was = left.was; gone = e })
      by (Some k) e =
          let same = one_node (forest old.tree) x k m (first.nodes x k e) left.was in
          inr (record { was = e ∙ ap Some same; gone = left.gone })

  pub tells_on : (a b c : List DatedOcc) → IsOnce (forest old.tree) → Tells old.tree mid.tree a b → Tells mid.tree new.tree b c → Tells old.tree new.tree a c
  tells_on a b c once p q = record {
    more = p.more ++ q.more;
    is = q.is ∙ ap (λ l. l ++ q.more) p.is ∙ append_assoc a p.more q.more;
    own = λ o at. elim (In-cases p.more q.more o at) [
      | inl there ↦ (let (x, m, left, is, derived, date, number) = p.own o there in (x, m, left_first x m left, is, derived, date, number))
      | inr there ↦ (
          let (x, m, left, is, derived, date, number) = q.own o there in
          (x, m, left_then x m left, is, derived, date ∙ first.dates x (live_at (forest mid.tree) x m left.was), number))
    ];
    all = λ x m left derived. subst (In (moment m)) (sym split) (elim (left_cases x m left) [
      | inl l ↦ In-left (moments_of p.more) (moments_of q.more) (moment m) (p.all x m l derived)
      | inr l ↦ In-right (moments_of p.more) (moments_of q.more) (moment m) (q.all x m l derived)
    ]);
    once = subst Distinct (sym split) (Distinct-append (moments_of p.more) (moments_of q.more) p.once q.once apart);
  }
    where
      split : moments_of (p.more ++ q.more) ≡ moments_of p.more ++ moments_of q.more
      split = map-append (λ (o : DatedOcc). moment_of o.occ) p.more q.more

      apart : (k : Moment) → In k (moments_of p.more) → In k (moments_of q.more) → ⊥
      apart k at there =
          let (o, in_o, is_o) = In-map (λ (z : DatedOcc). moment_of z.occ) p.more k at in
          let (u, in_u, is_u) = In-map (λ (z : DatedOcc). moment_of z.occ) q.more k there in
          let (x, m, left, is, _, _, _) = p.own o in_o in
          let (y, n, gone, was, _, _, _) = q.own u in_u in
          let same = once x y m n left.was (first.nodes y n gone.was) (is ∙ is_o ∙ sym (was ∙ is_u)) in
          none_some n (sym left.gone ∙ ap (member (forest mid.tree)) same ∙ gone.was)

  pub notes_on : {X : Type 0} (of : Member → Option X) (a b c : List X) → Notes of old.tree mid.tree a b → Notes of mid.tree new.tree b c → Notes of old.tree new.tree a c
  notes_on of a b c p q = record {
    stay = λ k at. q.stay k (p.stay k at);
    own = λ k at. elim (q.own k at) [
      | inl there ↦ elim (p.own k there) [
        | inl was ↦ inl was
        | inr h ↦ inr (h.0, h.1, left_first h.0 h.1 h.2, h.3)
      ]
      | inr h ↦ inr (h.0, h.1, left_then h.0 h.1 h.2, h.3)
    ];
    all = λ x m k left has. elim (left_cases x m left) [
      | inl l ↦ q.stay k (p.all x m k l has)
      | inr l ↦ q.all x m k l has
    ];
  }

  pub spares_on : (s : Standing) → Spares s old mid → Spares s mid new → Spares s old new
  spares_on s p q = record {
    nodes = λ x m at stands. q.nodes x m (p.nodes x m at stands) stands;
    rows = λ i row at live. elim (p.rows i row at (was_live mid new then_ row.value.trigger live)) [
      | inl there ↦ elim (q.rows i row there live) [
        | inl stays ↦ inl stays
        | inr out ↦ inr (
            let named : rule_in mid.decisions row ≡ rule_in old.decisions row = ap (λ l. name_in l row.value.rule) first.rules in
            let event = moment_stays old mid first row.value.trigger (was_live mid new then_ row.value.trigger live) in
            record {
              rule = ap (premise_in s.premises) (sym named) ∙ out.rule;
              effect = λ y m there is. out.effect y m there (is ∙ (λ j. After (event j) (sym named j)));
            })
      ]
      | inr out ↦ inr (record { rule = out.rule; effect = λ y m there. out.effect y m (then_.nodes y m there) })
    ];
  }

pub sheds_on : (old mid new : Beliefs) (a b c : Departed) → IsOnce (forest old.tree) → Sheds old mid a b → Sheds mid new b c → Sheds old new a c
sheds_on old mid new a b c once p q = record {
  thins = thins_on old mid new p.thins q.thins;
  tells = tells_on old mid new p.thins q.thins a.left.items b.left.items c.left.items once p.tells q.tells;
  notes = notes_on old mid new p.thins q.thins (λ m. m.class) a.classes b.classes c.classes p.notes q.notes;
  facts = notes_on old mid new p.thins q.thins fact_of a.facts b.facts c.facts p.facts q.facts;
  tokens = notes_on old mid new p.thins q.thins gone_of a.tokens.items b.tokens.items c.tokens.items p.tokens q.tokens;
}

-- ---- what a rollback leads back to

pub keep_stays : (b : Beliefs) → KeepLast b b
keep_stays b = record { tree = refl; decisions = last_stays b.decisions }

pub keep_on : (old mid new : Beliefs) → KeepLast old mid → KeepLast mid new → KeepLast old new
keep_on old mid new p q = record { tree = q.tree ∙ p.tree; decisions = last_on old.decisions mid.decisions new.decisions p.decisions q.decisions }
