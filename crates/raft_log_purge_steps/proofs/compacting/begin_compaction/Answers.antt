use Rattle.std.proofs.Common.{Some, ap}
use Rattle.raft_log_purge_copy.proofs.Public.{alive_ok}
use Rattle.raft_log_purge_steps.proofs.compacting.begin_compaction.Goals as goal

pub returns-in-Ok-clause-ok : goal.returns-in-Ok-clause-ok
returns-in-Ok-clause-ok g c =
    let e = c.in-Ok.ensures in record {
      turns = e.ok;
      begun = ap Some c.file_span-first.ensures.last;
      none = c.silent.ensures.answered;
      more = c.silent.ensures.more;
      alive = alive_ok c.in-Ok.field-0 (g.P.PipeLog.shown c.rotate.new.self) e.fails;
      later = e.later;
    }
