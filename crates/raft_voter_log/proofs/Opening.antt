-- Two opens of a run's files.
use Rattle.std.proofs.Common.{ℕ, List, refl}
use Rattle.raft_log_fs_memory.specs.Memory.{disk_of}
use Rattle.raft_log_fs_memory.specs.declared.memory.MemoryFileSystem.{MemoryFileSystem}
use Rattle.raft_log_recovery_laws.specs.ByCalls.{home_of}
use Rattle.raft_voter.specs.Service.{CutRound}
use Rattle.raft_voter_log.specs.declared.files.LogFiles.{LogFiles}
use Rattle.raft_voter_log.specs.Leaving.{FilesLeave, SparesFiles}
use Rattle.raft_voter_log.specs.Leaving.FilesLeave.{bare, left, rests}
use Rattle.raft_voter_log.proofs.Homes.{some_append, some_rewrite}
use Rattle.raft_voter_log.proofs.OpenLemmas.{memory_sound}
use Rattle.raft_voter_log.specs.StoreWorkers.{AreAStores}
use Rattle.raft_voter_log.specs.StoreWorkers.AreAStores.{bare as are_bare, left as are_left, rests as rest}
use Rattle.raft_voter_log.proofs.Alike.{workers_open_alike}
use Rattle.raft_voter_log.specs.Workers.{AnyWorkersOpenAlike}

-- what is known of files says what they are
are_a_stores : (files : LogFiles) (cut : CutRound) (known : FilesLeave files.config (disk_of files.files) cut) → SparesFiles files.config (disk_of files.files) cut known (disk_of files.files)
    → AreAStores (home_of files.config) (disk_of files.files)
are_a_stores files cut (bare b none) spared = are_bare files.config refl b
are_a_stores files cut (rests before image m at W means follows) spared = rest m W at means
are_a_stores files cut (left l) spared = are_left cut l (spared.stands refl)

pub any_workers_open_alike : (tells : MemoryFileSystem → List ℕ → ℕ → Type 0) → AnyWorkersOpenAlike tells
any_workers_open_alike tells files cut known spared workers others s t os us (one, named, opens) (other, called, also) =
    workers_open_alike disk_of tells (home_of files.config) (some_append files.config) (some_rewrite files.config) files.files (memory_sound files.files) (are_a_stores files cut known spared) one other named.0 called.0 s t os us
    opens also
