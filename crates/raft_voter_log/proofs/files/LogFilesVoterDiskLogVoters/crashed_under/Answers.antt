use Rattle.std.proofs.Common.{ap, refl, subst}
use Rattle.raft_log_fs.specs.Image.{IsImage}
use Rattle.raft_log_fs_memory.specs.Answers.{IsLeftOf}
use Rattle.raft_log_fs_memory.specs.Memory.{disk_of}
use Rattle.raft_log_fs_memory.specs.declared.memory.MemoryFileSystem.{MemoryFileSystem}
use Rattle.raft_log_fs_memory.specs.raft_log_fs_state.specs.declared.remainder.Remainder.{Remainder}
use Rattle.raft_voter_log.specs.Instance.{AreSame}
use Rattle.raft_voter_log.proofs.Crashes.{crash_leaves_under}
use Rattle.raft_voter_log.proofs.files.LogFilesVoterDiskLogVoters.crashed_under.Goals as goal

pub returns-clause-crashes : goal.returns-clause-crashes
returns-clause-crashes g c =
    let same : AreSame c.in_ok-copy_settings.field-0 c.args.store.now.config = c.in_ok-copy_settings.ensures in (
      (
        c.file_system.result.now,
        c.in_ok-remainder.field-0,
        ap disk_of c.file_system.ensures,
        subst (λ (r : Remainder). IsLeftOf r c.file_system.result.now c.in_ok-remainder.field-0) c.remainder_of.ensures c.in_ok-remainder.ensures.exact,
        refl,
      ),
      same,
    )

pub returns-clause-stands : goal.returns-clause-stands
returns-clause-stands g c =
    let same : AreSame c.in_ok-copy_settings.field-0 c.args.store.now.config = c.in_ok-copy_settings.ensures in
    λ cut known.
    crash_leaves_under c.args.store.now.config c.in_ok-copy_settings.field-0 _ c.in_ok-remainder.field-0 cut same
    (subst (λ (system : MemoryFileSystem). IsImage (disk_of system) (disk_of c.in_ok-remainder.field-0)) c.file_system.ensures c.in_ok-remainder.ensures.image) known
