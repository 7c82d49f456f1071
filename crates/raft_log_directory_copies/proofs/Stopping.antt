-- Want of memory is told while a file system runs.
use Rattle.std.specs.Prelude.{◌≡◌, ℕ, false}
use Rattle.std.proofs.Common.{◌∙◌, ap}
use Rattle.raft_log_fs.specs.Calls.{Changes}
use Rattle.raft_log_fs.specs.Disk.{Disk, File}

-- behind an answered change of a file
pub changed_runs : {id : ℕ} {next : File → File} {old new : Disk} → Changes id next old new → new.stopped ≡ false
changed_runs changes = ap (λ (d : Disk). d.stopped) changes.done ∙ changes.runs
