use Rattle.std.proofs.Common.{refl, ap, ◌∙◌, arith}
use Rattle.std.specs.Option.{option_map}
use Rattle.raft_log_fs.specs.Disk.{Disk}
use Rattle.raft_log_fs_state.specs.Held.{held_of, file_of}
use Rattle.raft_log_fs_memory.proofs.Public.{held_there}
use Rattle.raft_log_fs_traced.proofs.directory.calls.DirectoryFileSystemFileSystem.read_at.Goals as goal

pub returns-clause-within : goal.returns-clause-within
returns-clause-within g c =
    let got = held_there (held_of c.args.self.now.storage.files.items c.args.handle.file) c.in_ok-check_handle.ensures.ok.there in
    omega (arith, c.read-count.ensures.number got.0 got.1)

pub returns-clause-ok : goal.returns-clause-ok
returns-clause-ok g c =
    let checked = c.in_ok-check_handle.ensures.ok in
    let got = held_there (held_of c.args.self.now.storage.files.items c.args.handle.file) checked.there in (
      λ honest. record {
        runs = checked.runs.running;
        file = file_of got.0;
        is = ap (λ (d : Disk). d.files c.args.handle.file) checked.runs.same ∙ ap (option_map file_of) got.1;
        number = c.read-count.ensures.number got.0 got.1;
        bytes = c.read-count.ensures.bytes got.0 got.1;
      },
      λ fills. c.none-receipt.ensures,
    )

pub returns-clause-readable : goal.returns-clause-readable
returns-clause-readable g c = λ place from below. refl
