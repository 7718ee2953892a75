-- Where no row waits, nodes and rows are those of the list after; and how many decisions were made.
use Rattle.std.proofs.Common.{◌≡◌, ◌∙◌, ℕ, ◌≤◌, List, [], length, sym, ap, subst}
use Rattle.std.specs.Prelude.{◌↔◌, Option, Some, None}
use Rattle.std.specs.List.{Contains}
use Rattle.tmm_model.specs.declared.premise.Edit.{Edit}
use Rattle.belief_theory.specs.Outcomes.{outcome}
use Rattle.belief_theory.specs.Touched.{touched}
use Rattle.tmm_model.specs.Beliefs.{roots, rules_at}
use Rattle.tmm_model.specs.Edits.{next_list}
use Rattle.tmm_model.specs.Maps.{built}
use Rattle.tmm_model.specs.Moments.{Moment, At, base}
use Rattle.list_theory.specs.WellNamed.{IsSound}
use Rattle.tmm_model.specs.Standing.{Standing, far_in}
use Rattle.belief_theory.proofs.SoundBeliefs.{believed_occurs}
use Rattle.list_theory.proofs.Elements.{In-from_Contains}
use Rattle.dist_net.specs.Net.{Net}
use Rattle.net_theory.specs.Fits.{IsNetOf}
use Rattle.spots.specs.Forest.{Forest, member, moment, moment_at}
use Rattle.spots.specs.OfLists.{HasOccurrences}
use Rattle.spots.proofs.Nodes.{node_at, moment_at-is}
use Rattle.revisions.specs.Counted.{changed}
use Rattle.revisions.specs.Maps.{revision}
use Rattle.revisions.proofs.Agreeing.{ended}
use Rattle.revisions.proofs.Bounds.{counted_by}
use Rattle.revisions.proofs.Lawful.{lawful}
use Rattle.revisions.proofs.StillEdits.{base_root}
use Rattle.spots.proofs.Grown.{seen_first}
use Rattle.joined.specs.Netted.{IsNetted, IsCurrent}
use Rattle.joined.specs.Rows.{Row, Rows, decision_of, IsWaiting, NoneWaits}

module _ (old : Standing) (edit : Edit) (net : Net) (f : Forest) (rows : Rows) (taken : List (Moment × List ℕ)) (sound_old : IsSound old) (sound_new : IsSound (next_list old edit))
    (n : IsNetted old (next_list old edit) net f rows taken) where
  abbrev new : Standing
  new = next_list old edit

  module _ (none : NoneWaits rows) where
    none_waits : (t : Moment) (r : List ℕ) → IsWaiting f rows t r → ⊥
    none_waits t r w = none w.0 w.1 w.2 w.3

    end : ((x : Moment) → Contains n.nodes x ↔ Contains (built new).believed x)
        × ((t : Moment) (r : List ℕ) → Contains n.nodes t → Contains (rules_at new t) r → n.kept t r ≡ outcome new (far_in new.premises) (built new).believed t r)
    end = ended (revision (built old) (built (next_list old edit))) (lawful old edit sound_old sound_new) n.nodes n.kept (IsWaiting f rows) taken n.date n.keeping none_waits

    holds : HasOccurrences (built new).believed f
    holds = record { own = λ x m at. (end.0 (moment m)).0 (n.holds.own x m at); all = λ k at. n.holds.all k ((end.0 k).1 at); once = n.holds.once }

    told : (i : ℕ) (q : Row) → rows i ≡ Some q → q.found ≡ decision_of (outcome new (far_in new.premises) (built new).believed (moment_at f q.trigger) q.rule)
    told i q at = n.told i q at ∙ ap decision_of (end.1 (moment_at f q.trigger) q.rule live (n.rows_are.own i q at).1)
      where
        live : Contains n.nodes (moment_at f q.trigger)
        live = let (m, there) = node_at f q.trigger (n.rows_are.own i q at).0 in subst (Contains n.nodes) (sym (moment_at-is f q.trigger m there)) (n.holds.own q.trigger m there)

    pub current : IsCurrent (next_list old edit) net f rows
    current = record { seen = n.seen; holds = holds; rows_are = n.rows_are; none_waits = none; told = told }

  pub counted : (length taken ≤ touched old (next_list old edit)) × (NoneWaits rows → changed old (next_list old edit) ≤ length taken)
  counted =
      let bounds = counted_by old edit sound_old sound_new n.nodes n.kept (IsWaiting f rows) taken n.date n.keeping in
      (bounds.0, λ none. bounds.1 (none_waits none))

-- ---- where nothing occurs

pub nothing_current : (s : Standing) (net : Net) (f : Forest) (rows : Rows) → IsNetOf s net
    → roots s ≡ [] → ((x : ℕ) → member f x ≡ None) → ((i : ℕ) → rows i ≡ None)
    → IsCurrent s net f rows
nothing_current s net f rows network none no_node no_rows = record {
  seen = seen_first s net f network no_node;
  holds = record {
    own = λ x m at. absurd (not_some (member f x) m (no_node x) at);
    all = λ k at. absurd (nowhere k at);
    once = λ x y m n at_x at_y same. absurd (not_some (member f x) m (no_node x) at_x);
  };
  rows_are = record {
    each = λ x rule live stands. absurd (let (m, at) = node_at f x live in not_some (member f x) m (no_node x) at);
    own = λ i q at. absurd (not_some (rows i) q (no_rows i) at);
    apart = λ i j q o at_q at_o tr ru. absurd (not_some (rows i) q (no_rows i) at_q);
  };
  none_waits = λ i q at waits. not_some (rows i) q (no_rows i) at;
  told = λ i q at. absurd (not_some (rows i) q (no_rows i) at);
}
  where
    not_some : {X : Type 0} (o : Option X) (x : X) → o ≡ None → o ≡ Some x → ⊥
    not_some o x e at = let f : None ≡ Some x = sym e ∙ at in cc

    nowhere : (k : Moment) → Contains (built s).believed k → ⊥
    nowhere k at = In-from_Contains [] (At (base k)) (subst (λ l. Contains l (At (base k))) none (base_root s k (believed_occurs s network.sound k at)))
