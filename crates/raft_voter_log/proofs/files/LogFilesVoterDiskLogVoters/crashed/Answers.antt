use Rattle.raft_log_fs_memory.specs.Memory.{disk_of}
use Rattle.raft_voter_log.specs.Instance.{AreSame}
use Rattle.raft_voter_log.proofs.Crashes.{crash_leaves_for}
use Rattle.raft_voter_log.proofs.files.LogFilesVoterDiskLogVoters.crashed.Goals as goal

pub returns-clause-stands : goal.returns-clause-stands
returns-clause-stands g c =
    let same : AreSame c.in_ok-copy_settings.field-0 c.args.self.now.config = c.in_ok-copy_settings.ensures in
    λ cut known chance. crash_leaves_for c.args.self.now.config c.in_ok-copy_settings.field-0 (disk_of c.args.self.now.files) (disk_of c.in_ok-remainder.field-0) cut same c.in_ok-remainder.ensures.image known chance
