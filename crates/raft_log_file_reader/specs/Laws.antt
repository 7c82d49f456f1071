-- Laws of the batches in a file's bytes.
use Rattle.std.specs.Prelude.{◌≡◌, ℕ, ◌+◌, ◌<◌, ◌⊎◌, ◌%◌, List, [], ◌∷◌, ◌++◌, length, take, drop, Ok}
use Rattle.raft_log_record_base.specs.Fault.{Fault}
use Rattle.raft_log_record_base.specs.Files.{signature_of}
use Rattle.raft_log_record_items.specs.declared.item.LogItem.{LogItem}
use Rattle.raft_log_record_items.specs.Placed.{placed}
use Rattle.raft_log_record_base.specs.declared.pipe_log.LogFileContext.{LogFileContext}
use Rattle.raft_log_record_frames.specs.Record.{IsFrame, Front, block_of, record_at}
use Rattle.raft_log_file_writer.specs.LawsChains.{Written, Reads}
use Rattle.raft_log_file_reader.specs.Batches.{HasBatch, HasBatches, HasNoMore, IsBroken, padding_len, batch_at, block_at, context_of}
use Rattle.raft_log_file_reader.specs.declared.open_file.OpenFile.{OpenFile}

-- no batch follows at `offset`: the file ends, has only padding from there on, or reading the next record fails
abbrev pub EndsBehind : OpenFile → List ℕ → ℕ → Type 0
EndsBehind file content offset =
    HasNoMore file content offset ⊎ ((fault : Fault) × IsBroken file content offset fault)

-- The bytes of a file determine which batches are read from an offset on, and where they end.
abbrev pub OneReading : Type 0
OneReading = (file : OpenFile) (content : List ℕ) (offset m n : ℕ) (xs ys : List (List LogItem))
    → HasBatches file content offset xs m → EndsBehind file content m
    → HasBatches file content offset ys n → EndsBehind file content n → (xs ≡ ys) × (m ≡ n)

-- Reading the next record after an offset fails with at most one fault. If it fails, the file has more than padding
-- after this offset.
abbrev pub OneFault : Type 0
OneFault = (file : OpenFile) (content : List ℕ) (offset : ℕ) (e f : Fault) → IsBroken file content offset e
    → (HasNoMore file content offset → ⊥) × (IsBroken file content offset f → e ≡ f)

-- If batches are read from `offset` up to `m`, and one more from `m`, then all of them are read from `offset`.
abbrev pub BatchesGoOn : Type 0
BatchesGoOn = (file : OpenFile) (content : List ℕ) (offset m n : ℕ)
    (xs : List (List LogItem)) (items : List LogItem)
    → HasBatches file content offset xs m → HasBatch file content m items n
    → HasBatches file content offset (xs ++ items ∷ []) n

-- Padding ends at the next multiple of the alignment, and is shorter than the alignment.
abbrev pub PaddingAligns : Type 0
PaddingAligns = (alignment offset : ℕ) → 0 < alignment
    → ((offset + padding_len alignment offset) % alignment ≡ 0) × (padding_len alignment offset < alignment)

-- the bytes are a frame of this file; `frame` has its items and the bytes of its entry block
abbrev pub IsFrameOf : LogFileContext → List ℕ → List LogItem × List ℕ → Type 0
IsFrameOf context bytes frame = IsFrame (signature_of context) bytes frame.0 frame.1

-- The items of each frame, with the locations of their entries. The first frame begins at the offset `at`, and each
-- later one at the end of the one before it.
abbrev pub placed_frames : LogFileContext → ℕ → List (Written (List LogItem × List ℕ)) → List (List LogItem)
placed_frames context at [] = []
placed_frames context at (w ∷ ws) =
    placed (block_at context at (length w.value.1)) w.value.0 ∷ placed_frames context (at + length w.bytes) ws

-- If a file has no alignment, the batches that are read from an offset on are the frames that follow one another from
-- this offset on. No frame begins at the end of the last batch.
abbrev pub BatchesAreFrames : Type 0
BatchesAreFrames = (file : OpenFile) (content : List ℕ) (offset end : ℕ) (xs : List (List LogItem))
    → file.format.alignment ≡ 0 → HasBatches file content offset xs end → EndsBehind file content end
    → (ws : List (Written (List LogItem × List ℕ))) × Reads (IsFrameOf (context_of file)) offset ws content
    × (xs ≡ placed_frames (context_of file) offset ws)

-- If the entry block of a batch is whole, the batch is a record, with the entries of this block. The items have the
-- location of the block.
abbrev pub WholeBlockMakesRecord : Type 0
WholeBlockMakesRecord = (context : LogFileContext) (at len : ℕ) (content : List ℕ) (items : List LogItem)
    → batch_at context at content ≡ Ok (len, items)
    → (front : Front) × (front.len ≡ len)
    × (items ≡ placed (block_at context at (length front.bytes)) front.items)
    × ((entries : List ℕ) → block_of (take (length front.bytes) (drop (at + 16) content)) ≡ Ok entries
    → record_at (signature_of context) (drop at content) ≡ Ok (record front { bytes = entries }))

-- A batch has more bytes than items. So the size of a file bounds the number of its items.
abbrev pub BatchesOutweighItems : Type 0
BatchesOutweighItems = (file : OpenFile) (content : List ℕ) (offset end : ℕ) (items : List LogItem)
    → HasBatch file content offset items end → offset + length items < end
