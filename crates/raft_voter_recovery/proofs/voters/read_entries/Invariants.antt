use Rattle.std.proofs.Common.{◌≤◌, ◌-◌}
use Rattle.raft_log_engine_core.specs.Reads.{shows_of}
use Rattle.raft_voter_durability_laws.specs.raft_log_engine_laws.specs.Fetching.{StaysButBlock}
use Rattle.raft_voter_recovery.specs.Entries.{ReadsBelow}
use Rattle.raft_voter_recovery.proofs.voters.read_entries.Given as goal

-- these are the entries below the next index
abbrev pub invariant-loop-next : goal.invariant-loop-next
invariant-loop-next g l = record {
  stays : StaysButBlock (shows_of g.P.PipeLog.shown l.initial.engine) (shows_of g.P.PipeLog.shown l.engine);
  below : ReadsBelow (shows_of g.P.PipeLog.shown l.initial.engine) l.group l.head.state.base_index l.next l.entries.items;
  within : l.next ≤ l.head.end;
}

abbrev pub decreases-loop-next : goal.decreases-loop-next
decreases-loop-next g l = l.head.end - l.next
