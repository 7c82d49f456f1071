-- A file that was made, written and synced has the bytes.
use Rattle.std.proofs.Common.{◌≡◌, ℕ, Some, List, [], refl, ◌∙◌, ap}
use Rattle.raft_log_fs.specs.Disk.{Wrote, File, Disk, at_rest, overwritten}
use Rattle.raft_log_fs.specs.Calls.{created, after_change, flushed, Changes, Creates}
use Rattle.raft_log_fs.proofs.Public.{file_here, has_done, overwritten_at_end}

pub saved : (path : List ℕ) (id : ℕ) (bytes : List ℕ) (old made written new : Disk) → Creates path id old made → Changes id (after_change (Wrote 0 bytes)) made written
    → Changes id flushed written new → new.files id ≡ Some (at_rest bytes)
saved path id bytes old made written new creates writes syncs =
    let here : made.files id ≡ Some (at_rest []) =
    ap (λ (d : Disk). d.files id) creates.done ∙ ap (λ (n : ℕ). (created path old).files n) creates.number ∙ file_here old.files old.unused (Some (at_rest [])) in
    let first = has_done id (λ file. file ≡ at_rest []) (λ file. file.content ≡ bytes) (after_change (Wrote 0 bytes)) made written
    (record { file = at_rest []; is = here; has = refl }) writes (λ file is. ap (λ (f : File). overwritten 0 bytes f.content) is ∙ overwritten_at_end bytes []) in
    let last = has_done id (λ file. file.content ≡ bytes) (λ file. file ≡ at_rest bytes) flushed written new first syncs (λ file is. ap at_rest is) in
    last.is ∙ ap Some last.has
