use Rattle.std.proofs.Common.{refl}
use Rattle.raft_log_fs_memory.specs.Memory.{disk_of}
use Rattle.raft_log_recovery_laws.specs.ForkLeaving.EndsFork.{answered, refused}
use Rattle.raft_voter_log.proofs.Crashes.{copy_leaves}
use Rattle.raft_voter_log.proofs.OpenLemmas.{memory_sound}
use Rattle.raft_voter_log.proofs.files.LogFilesVoterDiskLogVoters.fork.Goals as goal

pub returns-in-Ok-clause-forks : goal.returns-in-Ok-clause-forks
returns-in-Ok-clause-forks g c = ((_, c.in-Ok.ensures.ok), refl)

pub returns-in-Ok-clause-stands : goal.returns-in-Ok-clause-stands
returns-in-Ok-clause-stands g c = λ cut known.
    copy_leaves c.args.self.now.config c.args.target.now (disk_of c.args.self.now.files) (disk_of c.fork.new.file_system) cut (memory_sound c.args.self.now.files) (answered _ c.in-Ok.ensures.ok) known

pub returns-clause-stands : goal.returns-clause-stands
returns-clause-stands g c = λ cut known.
    copy_leaves c.args.self.now.config c.args.target.now (disk_of c.args.self.now.files) (disk_of c.fork.new.file_system) cut (memory_sound c.args.self.now.files) (refused c.in-Err.error c.in-Err.ensures.err) known

pub returns-clause-refuses : goal.returns-clause-refuses
returns-clause-refuses g c = ((c.in-Err.error, c.cause_of.ensures, c.in-Err.ensures.err), refl)
