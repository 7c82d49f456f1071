-- The batches that were read from a file, compared with the records in it.
use Rattle.std.specs.Prelude.{◌≡◌, ℕ, ◌+◌, List, [], ◌∷◌, length}
use Rattle.raft_log_record_base.specs.Files.{signature_of}
use Rattle.raft_log_record_base.specs.declared.pipe_log.LogFileContext.{LogFileContext}
use Rattle.raft_log_record_items.specs.declared.item.LogItem.{LogItem}
use Rattle.raft_log_record_items.specs.Placed.{placed}
use Rattle.raft_log_record_frames.specs.Record.{IsBlock, IsFrame}
use Rattle.raft_log_file_writer.specs.LawsChains.{Written}
use Rattle.raft_log_engine_laws.specs.raft_log_active_file.specs.declared.record.LogRecord.{LogRecord}
use Rattle.raft_log_file_reader.specs.Batches.{block_at}

-- `batch` has the items of the record `w`, which begins at the offset `at`; each entry has its location in the record's
-- entry block
abbrev pub IsBatchOf : LogFileContext → ℕ → List LogItem → Written LogRecord → Type 0
IsBatchOf context at batch w = (block : List ℕ)
    × IsFrame (signature_of context) w.bytes w.value.items block × IsBlock block w.value.entries
    × (batch ≡ placed (block_at context at (length block)) w.value.items)

-- the batches have the items of the records, which follow one another from the offset `at` on
abbrev pub AreBatchesOf :
    LogFileContext → ℕ → List (List LogItem) → List (Written LogRecord) → Type 0
AreBatchesOf context at [] [] = Unit {0}
AreBatchesOf context at [] (w ∷ ws) = ⊥
AreBatchesOf context at (b ∷ bs) [] = ⊥
AreBatchesOf context at (b ∷ bs) (w ∷ ws) =
    IsBatchOf context at b w × AreBatchesOf context (at + length w.bytes) bs ws
