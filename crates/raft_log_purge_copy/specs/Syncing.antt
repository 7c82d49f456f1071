-- How often a purge syncs Rewrite while it writes records there.
use Rattle.std.specs.Prelude.{◌≡◌, ◌+◌, ◌-◌, ◌^◌, ◌<◌, ◌≤◌, ◌⊎◌, ℕ, List, [], ◌∷◌, false, if◌then◌else◌, min, nat_lt}
use Rattle.raft_log_machine_laws.specs.Calls.Which.{InRewrite}
use Rattle.raft_log_record_base.specs.declared.pipe_log.FileBlockHandle.{FileBlockHandle}
use Rattle.raft_log_block_cache.specs.Signing.{signed_for}
use Rattle.raft_log_dual_pipes.specs.Pipes.{LogPipes, is_failed}
use Rattle.raft_log_dual_pipes.specs.Calls.{AppendsTo, SyncsQueue}
use Rattle.raft_log_record_batches.specs.Batch.{Batch, IsReadyForEach}
use Rattle.raft_log_purge_copy.specs.Lengths.{HasOnePiece}

-- Rewrite was synced, or nothing was done
abbrev pub MaySync : LogPipes → LogPipes → Type 0
MaySync v w = (w ≡ v) ⊎ SyncsQueue InRewrite v w

-- if the pipes hadn't failed in `v`, they haven't in `w`
abbrev pub StaysAlive : LogPipes → LogPipes → Type 0
StaysAlive v w = is_failed v ≡ false → is_failed w ≡ false

-- after this many bytes of unsynced records, Rewrite is synced before the next record is written
abbrev pub max_unsynced : ℕ
max_unsynced = 524288

-- If 512 KiB or more were written to Rewrite since its last sync, it was synced, and the count is 0. Else nothing was
-- done.
abbrev pub SyncsIfDue : ℕ → ℕ → LogPipes → LogPipes → Type 0
SyncsIfDue old new v w = ((old < max_unsynced) × (new ≡ old) × (w ≡ v))
    ⊎ ((max_unsynced ≤ old) × (new ≡ 0) × SyncsQueue InRewrite v w)

-- how many of the `old` unsynced bytes of Rewrite are left when the next record is written: none if a sync is due,
-- since the sync comes before the record
abbrev pub left_unsynced : ℕ → ℕ
left_unsynced old = if nat_lt old max_unsynced then old else 0

-- How the count of unsynced bytes goes from `old` to `new` when the record of batch `b` is written. A sync that is due
-- comes before the record. The count stops at 2 ^ 64 - 1.
abbrev pub CountsRecord : Batch → ℕ → ℕ → Type 0
CountsRecord b old new = (len : ℕ) × IsReadyForEach len b.items b.entries
    × (new ≡ min (left_unsynced old + len) (2 ^ 64 - 1))

-- the batch's record was written to Rewrite
abbrev pub TakesRecord : Batch → LogPipes → LogPipes → Type 0
TakesRecord b v w = (block : FileBlockHandle) × AppendsTo InRewrite (signed_for b) block v w

-- One record was written to Rewrite. Before it, Rewrite was synced exactly if that was due by the count of unsynced
-- bytes. Then the record's bytes were added to the count.
pub record WritesOne (b : Batch) (old new : ℕ) (v w : LogPipes) : Type 0 where
  pub synced : LogPipes
  pub syncs : SyncsIfDue old (left_unsynced old) v synced
  pub took : TakesRecord b synced w
  pub counted : CountsRecord b old new

-- a batch of copies was written to Rewrite as one record and its bytes were counted; or the batch is empty, and
-- nothing was done
abbrev pub CountsCopies : Batch → ℕ → ℕ → LogPipes → LogPipes → Type 0
CountsCopies b old new v w = ((b.items ≡ []) × (new ≡ old) × (w ≡ v))
    ⊎ ((b.items ≡ [] → ⊥) × WritesOne b old new v w)

-- The records of these batches were written to Rewrite, one after another. Each has at most 131,072 bytes of entries,
-- or a single entry. Each continues the count of unsynced bytes.
abbrev pub WritesInTurn : List Batch → ℕ → ℕ → LogPipes → LogPipes → Type 0
WritesInTurn [] old new v w = (new ≡ old) × (w ≡ v)
WritesInTurn (b ∷ bs) old new v w =
    HasOnePiece b × (count : ℕ) × (next : LogPipes) × WritesOne b old count v next × WritesInTurn bs count new next w

-- Records were written to Rewrite, one after another, each after a sync if that was due. Nothing else was done to the
-- pipes. Each record continues the count of unsynced bytes: from `old` before the first to `new` after the last.
abbrev pub HandsCountOn : ℕ → ℕ → LogPipes → LogPipes → Type 0
HandsCountOn old new v w = (bs : List Batch) × WritesInTurn bs old new v w

-- records were written to Rewrite, one after another, and the count of unsynced bytes started at 0
abbrev pub CountsEach : LogPipes → LogPipes → Type 0
CountsEach v w = (count : ℕ) × HandsCountOn 0 count v w
