use Rattle.std.proofs.Common.{◌≤◌, take}
use Rattle.raft_log_engine_laws.specs.EngineState.{shows}
use Rattle.raft_log_memtables.specs.Tables.{IsAtRest}
use Rattle.raft_log_purge_copy.specs.Syncing.{HandsCountOn}
use Rattle.raft_log_purge_copy.proofs.Grouping.{among}
use Rattle.raft_log_purge_copy.specs.Owed.{AddsNoMarks}
use Rattle.raft_log_purge_copy.specs.Promised.{PromisesNoMoves}
use Rattle.raft_log_purge_copy.specs.Restated.{Restates}
use Rattle.raft_log_purge_copy.proofs.restating.compact_rewrite_groups.Given as goal

-- the first groups are restated
abbrev pub invariant-loop-group : goal.invariant-loop-group
invariant-loop-group g l = record {
  done : Restates (among (take l.group-index l.groups)) (shows (g.P.PipeLog.shown l.fn.pipes) l.fn.tables l.fn.cache) (shows (g.P.PipeLog.shown l.pipes) l.tables l.cache);
  rests : IsAtRest l.fn.tables → IsAtRest l.tables;
  owes : AddsNoMarks l.fn.tables l.tables;
  moves : PromisesNoMoves l.fn.tables → PromisesNoMoves l.tables;
  counted : l.fn.number ≤ l.number;
  handed : HandsCountOn 0 l.unsynced (g.P.PipeLog.shown l.fn.pipes) (g.P.PipeLog.shown l.pipes);
}
