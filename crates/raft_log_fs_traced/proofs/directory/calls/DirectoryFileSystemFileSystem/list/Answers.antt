use Rattle.std.proofs.Common.{ap, ◌∙◌, map}
use Rattle.std.specs.String.{string_bytes}
use Rattle.raft_log_fs.specs.Disk.{Disk}
use Rattle.raft_log_fs_state.proofs.Public.{listing}
use Rattle.raft_log_fs_traced.specs.Directory.{disk_of}
use Rattle.raft_log_fs_traced.proofs.directory.calls.DirectoryFileSystemFileSystem.list.Goals as goal

pub returns-in-Ok-clause-ok : goal.returns-in-Ok-clause-ok
returns-in-Ok-clause-ok g c =
    let system = c.args.self.now in
    let checked = c.in_ok-check_directory.ensures.ok in
    listing c.args.directory.now (disk_of g.D.Device system) system.storage.paths (map string_bytes c.in-Ok.names.items)
    checked.runs.running (ap (λ (d : Disk). d.directories c.args.directory.now) checked.runs.same ∙ checked.there)
    (λ path. ap (λ (d : Disk). d.names path) checked.runs.same) c.list.ensures.ordered c.in-Ok.ensures.names
