use Rattle.std.proofs.Common.{◌≡◌, ◌≤◌, ◌++◌, length, take}
use Rattle.std.specs.Vec.Iter.{into_iter_items, into_iter_len}
use Rattle.indexmap.specs.IndexMap.{spare}
use Rattle.protections.specs.Found.{found_in, without, with_all}
use Rattle.protections.proofs.broken_protections.BrokenProtections.take_over.Given as goal

abbrev pub invariant-loop-name : goal.invariant-loop-name
invariant-loop-name l = record {
  found : found_in l.self ≡ without (found_in l.initial.self) (take l.name-index l.name-items);
  room : spare l.initial.self.reports ≤ spare l.self.reports;
}

abbrev pub invariant-loop-name-2 : goal.invariant-loop-name-2
invariant-loop-name-2 l = record {
  found : found_in l.self ≡ with_all (found_in l.initial.self) l.yielded;
  room : length (into_iter_items l.name-iterator) ≤ spare l.self.reports;
  rest : l.yielded ++ into_iter_items l.name-iterator ≡ into_iter_items l.initial.name-iterator;
  counted : into_iter_len l.name-iterator ≡ length (into_iter_items l.name-iterator);
}
