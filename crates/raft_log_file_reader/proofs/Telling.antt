-- Why there is no file to read.
use Rattle.std.proofs.Common.{◌≡◌, ℕ, List, None, false, inr}
use Rattle.std.specs.Prelude.{codes}
use Rattle.raft_log_record_base.specs.declared.errors.Error.{Error}
use Rattle.raft_log_record_base.specs.declared.errors.Error.TheVariants as errors
use Rattle.raft_log_record_base.specs.declared.pipe_log.FileId.{FileId}
use Rattle.raft_log_fs.specs.Disk.{Disk}
use Rattle.raft_log_file_reader.specs.Files.{IsLogPath, IsNoFile}
use Rattle.raft_log_file_reader.specs.Telling.{TellsInvalid}

pub other_file : (path : List ℕ) (d : Disk) (e : Error) → TellsInvalid (codes "Invalid log file name") path e → d.stopped ≡ false → (d.names path ≡ None → ⊥)
    → ((id : FileId) → IsLogPath id path → ⊥) → IsNoFile path d e
other_file path d (errors.InvalidArgument text) tells runs there other = (runs, inr (record { tells = tells; there = there; other = other }))
other_file path d errors.Memory tells runs there other = runs
other_file path d _ tells runs there other = absurd tells
