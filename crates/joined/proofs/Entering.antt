-- What fires now and did not may enter; what fired is there.
use Rattle.std.proofs.Common.{◌≡◌, ◌∙◌, ℕ, ◌+◌, ◌<◌, ◌≤◌, true, false, List, [], ◌∷◌, ◌++◌, length, sym, ap, subst, arith}
use Rattle.std.proofs.lemmas.Int.{ints}
use Rattle.std.proofs.lemmas.List.{length-append, length-map}
use Rattle.std.specs.Prelude.{◌↔◌, Some, ℤ, pos, ◌+ℤ◌, ◌≤ℤ◌}
use Rattle.std.specs.List.{Contains}
use Rattle.tmm_model.specs.declared.premise.Edit.{Edit}
use Rattle.belief_theory.specs.Outcomes.{outcome}
use Rattle.tmm_model.specs.Beliefs.{due}
use Rattle.tmm_model.specs.Edits.{next_list}
use Rattle.tmm_model.specs.Maps.{built}
use Rattle.tmm_model.specs.Moments.{Moment, At, After, early, rule_of, rules}
use Rattle.list_theory.specs.WellNamed.{IsSound}
use Rattle.belief_theory.specs.KeptLists.{last_horizon}
use Rattle.belief_theory.specs.Right.{Occurs}
use Rattle.tmm_model.specs.Standing.{Standing, far_in}
use Rattle.belief_theory.proofs.Outcomes.{fires_exactly}
use Rattle.belief_theory.proofs.SoundBeliefs.{sound_timed}
use Rattle.dist_net.specs.Net.{Net}
use Rattle.spots.specs.declared.link.Link.{Link}
use Rattle.spots.specs.Forest.{Forest, Member, member, moment, moment_at}
use Rattle.spots.proofs.Nodes.{node_at, moment_at-is, rules-moment}
use Rattle.spots.specs.Growing.{MayEnter}
use Rattle.decision_rows.specs.declared.row.Decision.{Decision}
use Rattle.revisions.specs.Maps.{revision}
use Rattle.revisions.specs.Revisions.{is_firing}
use Rattle.revisions.proofs.Lawful.{firing}
use Rattle.joined.specs.Netted.{IsNetted}
use Rattle.joined.specs.Rows.{Row, Rows, fires_by}
use Rattle.joined.specs.Turning.{effect_of, IsFound}
use Rattle.joined.proofs.Deciding.{fires_told}

-- an occurrence is at least as late as it has rules
rules_before : (s : Standing) → IsSound s → (x : Moment) → Occurs s x → pos (length (rules x)) ≤ℤ early s (far_in s.premises) x
rules_before s sound (At p) h = (sound_timed s sound).not_before_start (At p) h
rules_before s sound (After t r) h =
    let timed = sound_timed s sound in
    by (length (rules t)) (length (rules t ++ r ∷ [])) (early s (far_in s.premises) t) (rule_of s r).lo (early s (far_in s.premises) (After t r))
    (rules_before s sound t h.0) (timed.delayed t r h.1) (timed.due_is t r h.0 h.1) (length-append (rules t) (r ∷ []))
  where
    by : (n m : ℕ) (e lo f : ℤ) → pos n ≤ℤ e → pos 1 ≤ℤ lo → f ≡ (e +ℤ lo) → m ≡ n + 1 → pos m ≤ℤ f
    by n m e lo f h l q k = omega (arith, ints)

-- ---- the node of an event

module _ (old : Standing) (edit : Edit) (net : Net) (f : Forest) (rows : Rows) (taken : List (Moment × List ℕ)) (x : ℕ) (p : Row)
    (n : IsNetted old (next_list old edit) net f rows taken) (at : rows x ≡ Some p) where
  live : Contains n.nodes (moment_at f p.trigger)
  live = let (m, there) = node_at f p.trigger (n.rows_are.own x p at).0 in subst (Contains n.nodes) (sym (moment_at-is f p.trigger m there)) (n.holds.own p.trigger m there)

  -- its effect is there exactly where its row says that it fires
  effect_fires : Contains n.nodes (effect_of f p) ↔ (fires_by p.found ≡ true)
  effect_fires =
      let fires = n.keeping.fires (moment_at f p.trigger) p.rule live (n.rows_are.own x p at).1 in
      let told = fires_told p.found (n.kept (moment_at f p.trigger) p.rule) (n.told x p at) in
      ((λ there. told ∙ fires.0 there), (λ fired. fires.1 (sym told ∙ fired)))

  pub effect_there : fires_by p.found ≡ true → (y : ℕ) × (m : Member) × (member f y ≡ Some m) × (moment m ≡ effect_of f p)
  effect_there fired = n.holds.all (effect_of f p) (effect_fires.1 fired)

-- ---- the effect

module _ (old : Standing) (edit : Edit) (net : Net) (f : Forest) (rows : Rows) (taken : List (Moment × List ℕ)) (x : ℕ) (p : Row) (found : Decision)
    (sound_new : IsSound (next_list old edit)) (small : (next_list old edit).horizon ≤ last_horizon)
    (n : IsNetted old (next_list old edit) net f rows taken) (at : rows x ≡ Some p)
    (right : IsFound (revision (built old) (built (next_list old edit))) f p found) (now : fires_by found ≡ true) (before : fires_by p.found ≡ false) where
  abbrev new : Standing
  new = next_list old edit

  abbrev t : Moment
  t = moment_at f p.trigger

  absent : Contains n.nodes (effect_of f p) → ⊥
  absent there =
      let h : true ≡ false = sym ((effect_fires old edit net f rows taken x p n at).0 there) ∙ before in
      cc

  in_time : due new (far_in new.premises) t p.rule ≤ℤ pos new.horizon
  in_time =
      let fires : is_firing (outcome new (far_in new.premises) n.nodes t p.rule) ≡ true = sym (fires_told found (outcome new (far_in new.premises) n.nodes t p.rule) (right n.nodes n.holds)) ∙ now in
      ((fires_exactly new (far_in new.premises) n.nodes t p.rule).0 (firing (outcome new (far_in new.premises) n.nodes t p.rule) fires)).0

  room : (m : Member) → member f p.trigger ≡ Some m → length m.links < 100000
  room m there =
      let is = moment_at-is f p.trigger m there in
      let late = rules_before new sound_new (moment m) (n.seen.members p.trigger m there).occurs in
      let delayed = (sound_timed new sound_new).delayed t p.rule (n.rows_are.own x p at).1 in
      let rules_are : length (rules (moment m)) ≡ length m.links = ap length (rules-moment m) ∙ length-map m.links (λ (l : Link). l.rule) in
      let same : early new (far_in new.premises) t ≡ early new (far_in new.premises) (moment m) = ap (early new (far_in new.premises)) is in
      by (length m.links) (length (rules (moment m))) (early new (far_in new.premises) (moment m)) (early new (far_in new.premises) t) (rule_of new p.rule).lo new.horizon rules_are late same delayed in_time small
    where
      by : (k l : ℕ) (e g lo : ℤ) (h : ℕ) → l ≡ k → pos l ≤ℤ e → g ≡ e → pos 1 ≤ℤ lo → (g +ℤ lo) ≤ℤ pos h → h ≤ 100000 → k < 100000
      by k l e g lo h q a b c d s = omega (arith, ints)

  pub may_enter : MayEnter (next_list old edit) f p.trigger p.rule
  may_enter = record {
    stands = (n.rows_are.own x p at).1;
    room = room;
    new = λ y m there same. absent (subst (Contains n.nodes) same (n.holds.own y m there));
  }
