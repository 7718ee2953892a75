use Rattle.std.proofs.Common.{◌≡◌, ◌≤◌, ◌+◌, ◌*◌, ◌++◌, length, map, reverse, vec_len, vec_capacity}
use Rattle.tmm_model.specs.Verdicts.{words_known}
use Rattle.premise_list.specs.Past.{RiseBelow, Stands, committed_from, taken_premise, without}
use Rattle.premise_list.proofs.table.take_in_one_pass.Given as goal

-- the list is what stands, and what stands aside
abbrev pub invariant-loop-place : goal.invariant-loop-place
invariant-loop-place l = record {
  same : without l.places.items (l.premises.items ++ reverse l.behind.items) ≡ without l.fn.places.items l.fn.premises.items;
  rise : RiseBelow (length l.premises.items) l.places.items;
  count : (length l.premises.items + length l.behind.items) + length l.fn.places.items ≡ length l.fn.premises.items + length l.places.items;
  fewer : length l.premises.items + length l.behind.items ≤ length l.fn.premises.items;
  capacity : vec_capacity l.premises ≡ vec_capacity l.fn.premises;
  capacity_behind : vec_capacity l.behind ≡ vec_capacity l.fn.behind;
  stands : Stands l.past (l.premises.items ++ reverse l.behind.items);
  committed : committed_from l.past (l.premises.items ++ reverse l.behind.items) ≡ committed_from l.fn.past l.fn.premises.items;
  room : vec_len l.past.taken + length l.places.items ≤ vec_capacity l.past.taken;
  more : length l.past.taken.items + length l.places.items ≤ length l.fn.past.taken.items + length l.fn.places.items;
  words : length (words_known (map taken_premise l.past.taken.items)) + 9 * length l.places.items
      ≤ length (words_known (map taken_premise l.fn.past.taken.items)) + 9 * length l.fn.places.items;
}

abbrev pub decreases-loop-place : goal.decreases-loop-place
decreases-loop-place l = vec_len l.places
