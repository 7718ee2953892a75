-- What an update does, as list and network tell it.
use Rattle.std.proofs.Common.{◌≡◌, ℕ, ◌≤◌, sym, subst}
use Rattle.tmm_model.specs.declared.premise.Edit.{Edit}
use Rattle.tmm_model.specs.Edits.{next_list}
use Rattle.tmm_model.specs.Standing.{Standing}
use Rattle.premise_list.specs.States.{States}
use Rattle.belief_theory.specs.Touched.{touched}
use Rattle.dist_net.specs.Net.{Nets}
use Rattle.occ_tree.specs.Places.{forest}
use Rattle.revisions.specs.Counted.{changed}
use Rattle.joined.specs.Netted.{IsCurrent}
use Rattle.joined.specs.Telling.{TellsAll}
use Rattle.belief_table.specs.declared.state.Beliefs.{Beliefs}
use Rattle.belief_turns.specs.declared.told.Told.{Told}
use Rattle.belief_turns.specs.Settling.{counted, IsAtRest, IsCountedIn, IsSettled}
use Rattle.belief_turns.specs.Telling.{ins, outs}
use Rattle.belief_turns.specs.Turning.{rows_of}
use Rattle.belief_net.specs.Updating.{IsUpdated, IsCountedWithin}

pub counted_within : (lists : States) (edit : Edit) (before count : ℕ) → lists.present ≡ next_list lists.committed edit → IsCountedIn before count lists.committed edit → IsCountedWithin lists before count
counted_within lists edit before count list within = subst (λ (l : Standing). count ≤ counted before (touched lists.committed l)) (sym list) within

pub updated : (lists : States) (nets : Nets) (edit : Edit) (b : Beliefs) (told : Told) (before count : ℕ) → lists.present ≡ next_list lists.committed edit
    → IsAtRest lists.present nets.present b told → IsSettled nets.present b told before count lists.committed edit → IsUpdated lists nets b before count told
updated lists nets edit b told before count list rests settled = record {
  rests = rests;
  current = subst (λ (l : Standing). IsCurrent l nets.present (forest b.tree) (rows_of b)) (sym list) settled.current;
  tells = subst (λ (l : Standing). TellsAll lists.committed l (ins told) (outs told)) (sym list) settled.tells;
  least = subst (λ (l : Standing). counted before (changed lists.committed l) ≤ count) (sym list) settled.least;
}
