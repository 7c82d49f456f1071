use Rattle.std.proofs.Common.{ap, ◌∙◌, ◌++◌, ◌∷◌, [], ℕ, List}
use Rattle.std.proofs.lemmas.List.{append_assoc}
use Rattle.raft_log_fs.specs.Disk.{Change, Wrote}
use Rattle.raft_log_fs_memory.specs.Memory.{unsynced}
use Rattle.raft_examples.proofs.memory_files.write_both.Goals as goal

pub returns : goal.returns
returns c =
    let bytes = c.args.bytes.now in
    c.in_ok-write_at-2.ensures.order
    ∙ (ap (λ (us : List (ℕ × Change)). us ++ (c.args.second.file, Wrote 0 bytes) ∷ []) c.in_ok-write_at.ensures.order
    ∙ append_assoc (unsynced c.args.system.now) ((c.args.first.file, Wrote 0 bytes) ∷ []) ((c.args.second.file, Wrote 0 bytes) ∷ []))
