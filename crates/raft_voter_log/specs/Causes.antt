-- The cause that a round, an open or a purge returns for an error of the log.
use Rattle.std.specs.Prelude.{Bool, if◌then◌else◌}
use Rattle.raft_log_record_base.specs.declared.errors.Error.{Error}
use Rattle.raft_log_record_base.specs.declared.errors.Error.TheVariants as errors
use Rattle.raft_voter.specs.declared.service.Cause.{Cause}
use Rattle.raft_voter.specs.declared.service.Cause.TheVariants.{Failed, FileSystem, Memory}
use Rattle.raft_voter_recovery.specs.declared.unread.Unread.{Unread}
use Rattle.raft_voter_recovery.specs.declared.unread.Unread.TheVariants as unread

-- `Memory` if memory ran out; `FileSystem` for every other error
abbrev pub cause_of : Error → Cause
cause_of errors.Memory = Memory
cause_of error = FileSystem

-- the cause of a failed open: `Memory` if memory ran out; otherwise `FileSystem`, even for a group that stores no voter
abbrev pub unread_cause : Unread → Cause
unread_cause (unread.Engine error) = cause_of error
unread_cause (unread.Foreign group) = FileSystem
unread_cause unread.Memory = Memory

-- the cause of a failed purge: `Failed` if the store had failed before; `Memory` if memory ran out; else `FileSystem`
abbrev pub purge_cause : Bool → Error → Cause
purge_cause failed error = if failed then Failed else cause_of error
