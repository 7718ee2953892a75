-- What the map keeps whose nodes and decisions are kept current.
use Rattle.std.specs.Prelude.{◌≡◌, ℕ, ◌≤◌, Bool, false, None, MatchOption}
use Rattle.tmm_model.specs.declared.premise.Edit.{Edit}
use Rattle.tmm_model.specs.Edits.{next_list}
use Rattle.tmm_model.specs.Standing.{Standing}
use Rattle.tmm_model.specs.Verdicts.{list_cause}
use Rattle.belief_theory.specs.KeptLists.{last_horizon}
use Rattle.belief_theory.specs.Touched.{touched}
use Rattle.dist_net.specs.Net.{Net, Nets}
use Rattle.net_theory.specs.Fits.{IsNetOf}
use Rattle.list_net.specs.Settled.{NothingPending}
use Rattle.premise_list.specs.States.{States}
use Rattle.occ_tree.specs.Places.{forest}
use Rattle.joined.specs.Netted.{IsCurrent}
use Rattle.belief_table.specs.declared.state.Beliefs.{Beliefs}
use Rattle.belief_table.specs.LastCommit.{KeepLast}
use Rattle.belief_turns.specs.Settling.{counted}
use Rattle.belief_turns.specs.Turning.{rows_of, IsFit}
use Rattle.belief_net.specs.Updating.{IsKept}
use Rattle.belief_table.specs.Waiting.{dates_in}
use Rattle.map_engine.specs.declared.next.Next.{Next}
use Rattle.map_engine.specs.declared.kept_view.KeptView.{KeptView}
use Rattle.map_engine.specs.Nexts.{after, pending_list, HasPlacesIn, IsUnguarded}
use Rattle.map_engine.specs.Reads.{IsReadOf, read_of}

-- nodes and decisions are those of the list, and none waits to be made again
pub record AreNodesOf (s : Standing) (net : Net) (b : Beliefs) : Type 0 where
  pub fit : IsFit s net b
  pub current : IsCurrent s net (forest b.tree) (rows_of b)
  pub none_waits : (i : ℕ) → dates_in b.decisions.waiting i ≡ None

-- nodes and decisions are those of the list, as at the last commit, and so is what is read of them
pub record IsResting (s : Standing) (net : Net) (b : Beliefs) (v : KeptView) : Type 0 where
  pub kept : IsKept s net b
  pub view : IsReadOf s (forest b.tree) (read_of v)

-- a rollback leads back to what rests
pub record MayRest (s : Standing) (net : Net) (b : Beliefs) (v : KeptView) : Type 0 where
  pub base : Beliefs
  pub rests : IsResting s net base v
  pub last : KeepLast base b

-- the list has its network and no horizon beyond the last one; where it is told that no protection
-- was ever added, none stands
pub record IsHeld (s : Standing) (net : Net) (guarded : Bool) : Type 0 where
  pub network : IsNetOf s net
  pub horizon : s.horizon ≤ last_horizon
  pub unguarded : guarded ≡ false → IsUnguarded s

-- Both states of the list are held. Nodes, decisions and what is read of them are those of the
-- present state, and lead back to those of the last commit. Where nothing is pending both states
-- are one.
pub record IsNetMap (lists : States) (nets : Nets) (nodes : Beliefs) (view : KeptView) (guarded : Bool) (next : Next) : Type 0 where
  pub held : IsHeld lists.committed nets.committed guarded
  pub before : MayRest lists.committed nets.committed nodes view
  pub settled : pending_list lists.present next ≡ None → NothingPending lists nets
  pub rests : pending_list lists.present next ≡ None → IsResting lists.committed nets.committed nodes view
  pub next_held : IsHeld lists.present nets.present guarded
  pub next_nodes : AreNodesOf lists.present nets.present nodes
  pub next_view : IsReadOf lists.present (forest nodes.tree) (after view next)
  pub next_places : HasPlacesIn view next

-- Where a cause among names and counts stands against the edit, no decision is counted; else no
-- more than the edit touches.
abbrev pub CountsEdit : Standing → Edit → ℕ → ℕ → Type 0
CountsEdit s edit before count = MatchOption (list_cause s edit) (count ≤ counted before (touched s (next_list s edit))) (λ _. count ≡ before)
