use Rattle.std.proofs.Common.{ap, ◌∙◌, Option}
use Rattle.std.specs.Option.{option_map}
use Rattle.raft_log_fs_state.specs.Held.{Held, held_of, file_of}
use Rattle.raft_log_fs_state.specs.Steps.{size_of}
use Rattle.raft_log_fs_memory.proofs.Calls.{held_there}
use Rattle.raft_log_fs_memory.proofs.memory.calls.MemoryFileSystemFileSystem.file_size.Goals as goal

pub returns-clause-ok : goal.returns-clause-ok
returns-clause-ok c =
    let got = held_there (held_of c.args.self.now.storage.files.items c.args.handle.file) c.in_ok-check_handle.ensures.ok.1 in
    record { runs = c.in_ok-check_handle.ensures.ok.0; file = file_of got.0; is = ap (option_map file_of) got.1; size = c.size.ensures ∙ ap (λ (o : Option Held). size_of (option_map file_of o)) got.1 }
