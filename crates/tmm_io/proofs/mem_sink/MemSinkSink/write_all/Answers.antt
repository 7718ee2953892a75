use Rattle.std.proofs.Common.{rules}
use Rattle.tmm_io.proofs.mem_sink.MemSinkSink.write_all.Goals as goal

pub returns-then-failing-clause-bytes : goal.returns-then-failing-clause-bytes
returns-then-failing-clause-bytes c = (c.share-kept.result.0, search rules)
