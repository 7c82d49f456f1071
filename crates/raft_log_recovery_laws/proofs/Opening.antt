-- A fork is opened as its source is.
use Rattle.std.proofs.Common.{ℕ, List}
use Rattle.raft_log_fs.specs.Disk.{Disk}
use Rattle.raft_log_recovery_laws.proofs.Directory.{resting_directories_open}
use Rattle.raft_log_recovery_laws.specs.ForkLeaving.EndsFork.{answered}
use Rattle.raft_log_recovery_laws.specs.ForkOpening.{ForksOpenAsTheirSource}
use Rattle.raft_log_recovery_laws.proofs.Leaving.{forks_leave_the_source}
use Rattle.raft_log_recovery_laws.proofs.Resting.{forked_logs_rest}

pub forks_open_as_their_source : {S : Type 0} (disk : S → Disk) (tells : S → List ℕ → ℕ → Type 0) → ForksOpenAsTheirSource disk tells
forks_open_as_their_source disk tells config to target copied old now m sound sound_now only clear rests forks =
    let stays = forks_leave_the_source config target (disk old) (disk now) sound (answered copied forks) in
    record {
      fork = resting_directories_open disk tells to now m sound_now (forked_logs_rest config to target copied (disk old) (disk now) m only clear rests forks).0;
      source = resting_directories_open disk tells config now m sound_now (stays.rests m rests).0;
      before = resting_directories_open disk tells config old m sound rests;
    }
