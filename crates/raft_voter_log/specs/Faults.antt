-- The faults and crashes of a simulated world, in the form that the in-memory file system takes.
use Rattle.raft_log_fs.specs.declared.handle.Fault.{Fault as DiskFault}
use Rattle.raft_log_fs.specs.declared.handle.Fault.TheVariants as faults
use Rattle.raft_log_fs_memory.specs.raft_log_fs_state.specs.declared.remainder.Remainder.{Remainder}
use Rattle.raft_log_fs_memory.specs.raft_log_fs_state.specs.declared.remainder.Remainder.TheVariants as remainders
use Rattle.raft_voter_world.specs.declared.event.Left.{Left}
use Rattle.raft_voter_world.specs.declared.event.Left.TheVariants.{All, First, Last}
use Rattle.raft_voter_world.specs.declared.faults.Fault.{Fault}
use Rattle.raft_voter_world.specs.declared.faults.Fault.TheVariants.{Refuse, Stop}

-- the fault of the file system for this fault of the simulated world
abbrev pub fault_of : Fault → DiskFault
fault_of (Stop calls) = faults.StopAt calls
fault_of (Refuse calls) = faults.Refuse calls

-- this choice of what a crash leaves of the unsynced changes, in the form that the file system takes
abbrev pub remainder_of : Left → Remainder
remainder_of Last = remainders.LastSync
remainder_of All = remainders.AllWritten
remainder_of (First pieces bytes) = remainders.First pieces bytes
