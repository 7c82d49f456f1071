use Rattle.raft_log_engine_laws.specs.EngineState.{shows}
use Rattle.raft_log_memtables.specs.Tables.{IsAtRest, shown_of}
use Rattle.raft_log_purge_copy.specs.Promised.{PromisesNoMoves}
use Rattle.raft_log_purge_copy.specs.Syncing.{HandsCountOn}
use Rattle.raft_log_purge_copy.proofs.Grouping.{EntriesSoFar, left_in}
use Rattle.raft_log_purge_copy.proofs.groups.rewrite_entries.Given as goal

-- what was copied so far; and where there is no more, all was
abbrev pub invariant-loop-more : goal.invariant-loop-more
invariant-loop-more g l =
    EntriesSoFar l.group l.gate l.more (shows (g.P.PipeLog.shown l.fn.pipes) l.fn.tables l.fn.cache) (shows (g.P.PipeLog.shown l.pipes) l.tables l.cache) × (IsAtRest l.fn.tables → IsAtRest l.tables) × HandsCountOn l.fn.unsynced l.unsynced (g.P.PipeLog.shown l.fn.pipes) (g.P.PipeLog.shown l.pipes) × (PromisesNoMoves l.fn.tables → PromisesNoMoves l.tables)

abbrev pub decreases-loop-more : goal.decreases-loop-more
decreases-loop-more g l = left_in (shown_of l.tables l.group) l.more
