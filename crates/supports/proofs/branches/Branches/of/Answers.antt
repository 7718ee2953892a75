use Rattle.std.proofs.Common.{◌<◌, length, sym, subst}
use Rattle.std.specs.List.{All}
use Rattle.supports.specs.Entries.{HaveSkips}
use Rattle.supports.specs.declared.entries.Entry.{Entry}
use Rattle.supports.proofs.branches.Branches.of.Goals as goal

pub skips_of-requires : goal.skips_of-requires
skips_of-requires c = record {
  places = subst (All (λ (e : Entry). e.place < length c.args.rows.now)) (sym c.deref.ensures.value) (λ i d lt. (c.in_ok-entries.ensures.entries.own i d lt).0);
}

pub returns : goal.returns
returns c = record {
  entries = c.in_ok-entries.ensures.entries;
  sorted = c.in_ok-entries.ensures.sorted;
  skips = subst (λ l. HaveSkips c.args.rows.now l c.in_ok-skips.skips.items) c.deref.ensures.value c.in_ok-skips.ensures;
  roots = c.in_ok-roots.ensures;
}
