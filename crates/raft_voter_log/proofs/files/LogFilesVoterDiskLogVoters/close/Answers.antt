use Rattle.std.proofs.Common.{ap}
use Rattle.raft_log_fs_memory.specs.Memory.{disk_of}
use Rattle.raft_voter_log.proofs.Crashes.{close_leaves}
use Rattle.raft_voter_log.proofs.files.LogFilesVoterDiskLogVoters.close.Goals as goal

pub returns-clause-stands : goal.returns-clause-stands
returns-clause-stands g c = λ cut known.
    close_leaves c.args.store.config _ (disk_of c.close.result.files) cut (record { held = c.close.ensures.held; failed = λ failed. ap disk_of (c.close.ensures.failed failed) }) known
