use Rattle.std.proofs.Common.{take}
use Rattle.raft_log_engine_core.specs.Reads.{shows_of}
use Rattle.raft_voter_durability_laws.specs.raft_log_engine_laws.specs.Fetching.{StaysButBlock}
use Rattle.raft_voter_recovery.proofs.Filling.{VotersOf}
use Rattle.raft_voter_recovery.proofs.voters.read_voters.Given as goal

-- the voters of the groups so far
abbrev pub invariant-loop-group : goal.invariant-loop-group
invariant-loop-group g l = record {
  stays : StaysButBlock (shows_of g.P.PipeLog.shown l.initial.engine) (shows_of g.P.PipeLog.shown l.engine);
  known : VotersOf (shows_of g.P.PipeLog.shown l.initial.engine) (take l.group-index l.group-items) l.voters.items;
}
