-- The faults of a run, in the form that the file system takes.
use Rattle.std.specs.Prelude.{Bool, true, false}
use Rattle.raft_log_engine.specs.raft_log_fs.specs.declared.handle.Fault.{Fault as DiskFault}
use Rattle.raft_log_engine.specs.raft_log_fs.specs.declared.handle.Fault.TheVariants as faults
use Rattle.raft_log_world.specs.declared.event.Fault.{Fault}
use Rattle.raft_log_world.specs.declared.event.Fault.TheVariants.{Refuse, Stop}
use Rattle.raft_log_world.specs.declared.event.Answer.{Answer}
use Rattle.raft_log_world.specs.declared.event.Answer.TheVariants.{Done, Refused}

-- the answer to the arming of a fault: `Done` if the flag says that it succeeded, otherwise `Refused`
abbrev pub told_of : Bool → Answer
told_of true = Done
told_of false = Refused

-- the fault of the file system for this fault of a run
abbrev pub fault_of : Fault → DiskFault
fault_of (Refuse call part) = faults.RefuseInPart call part
fault_of (Stop call true) = faults.StopAfter call
fault_of (Stop call false) = faults.StopAt call
