use Rattle.std.proofs.Common.{refl, subst}
use Rattle.std.specs.declared.io.ErrorKind.TheVariants.{StorageFull}
use Rattle.raft_log_fs.specs.Disk.{Disk}
use Rattle.raft_log_fs_traced.specs.Directory.{disk_of, FailsOnce}
use Rattle.raft_log_fs_traced.proofs.Lacking.{still_notes}
use Rattle.raft_log_fs_traced.proofs.directory.DirectoryFileSystem.count_lack.Goals as goal

pub returns-clause-once : goal.returns-clause-once
returns-clause-once g c =
    subst (λ (d : Disk). FailsOnce StorageFull c.fail.result d (disk_of g.D.Device c.fail.new.self)) c.note_full.ensures.same c.fail.ensures.once

pub returns-clause-full : goal.returns-clause-full
returns-clause-full g c =
    still_notes g.D.Device c.args.file c.args.self.now c.args.self.now c.note_full.new.self c.fail.new.self refl c.fail.ensures.full c.fail.ensures.model c.note_full.ensures.full
