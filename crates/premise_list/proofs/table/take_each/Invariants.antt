use Rattle.std.proofs.Common.{◌≡◌, ◌≤◌, ◌+◌, ◌*◌, length, map, vec_len, vec_capacity}
use Rattle.std.specs.List.{flat_map}
use Rattle.indexmap.specs.IndexMap.{spare}
use Rattle.tmm_model.specs.Standing.{points_of}
use Rattle.tmm_model.specs.Verdicts.{most_premises, words_known}
use Rattle.premise_list.specs.Past.{RiseBelow, Stands, committed_from, taken_premise, without}
use Rattle.premise_list.specs.Table.{placed, entry_seen}
use Rattle.premise_list.proofs.table.take_each.Given as goal

abbrev pub invariant-loop-place : goal.invariant-loop-place
invariant-loop-place l = record {
  same : without l.places.items l.premises.items ≡ without l.fn.places.items l.fn.premises.items;
  rise : RiseBelow (length l.premises.items) l.places.items;
  few : length l.premises.items ≤ most_premises;
  count : vec_len l.premises + length l.fn.places.items ≡ vec_len l.fn.premises + length l.places.items;
  capacity : vec_capacity l.premises ≡ vec_capacity l.fn.premises;
  indexed : map entry_seen l.words.entries ≡ placed 0 l.premises.items;
  spare : spare l.fn.words ≤ spare l.words;
  points : length (flat_map points_of l.premises.items) + l.points ≡ length (flat_map points_of l.fn.premises.items);
  stands : Stands l.past l.premises.items;
  committed : committed_from l.past l.premises.items ≡ committed_from l.fn.past l.fn.premises.items;
  room : vec_len l.past.taken + length l.places.items ≤ vec_capacity l.past.taken;
  more : length l.past.taken.items + length l.places.items ≤ length l.fn.past.taken.items + length l.fn.places.items;
  words : length (words_known (map taken_premise l.past.taken.items)) + 9 * length l.places.items
      ≤ length (words_known (map taken_premise l.fn.past.taken.items)) + 9 * length l.fn.places.items;
}

abbrev pub decreases-loop-place : goal.decreases-loop-place
decreases-loop-place l = vec_len l.places
