-- The record of a batch, signed for the file to which it is written. Its contents are the same in each file. Only the
-- checksum in its footer depends on the file: in version 2, on the low 32 bits of the file's number.
use Rattle.std.specs.Prelude.{◌≡◌, ℕ, List, [], map}
use Rattle.raft_log_model_laws.specs.Item.{Record}
use Rattle.raft_log_record_base.specs.Files.{signature_of}
use Rattle.raft_log_record_base.specs.declared.pipe_log.LogQueue.{LogQueue}
use Rattle.raft_log_record_base.specs.declared.pipe_log.LogFileContext.{LogFileContext}
use Rattle.raft_log_record_items.specs.Writing.{plain_item}
use Rattle.raft_log_record_batches.specs.Batch.{Batch, batch_bytes}
use Rattle.raft_log_active_file.specs.declared.record.LogRecord.{LogRecord}
use Rattle.raft_log_dual_pipes.specs.Queues.{SaysRecord}
use Rattle.raft_log_dual_pipes.specs.Own.{log_layout}

-- The bytes of the batch's record if it is written to the file of `context`, or no bytes if the batch is empty. In a
-- file of version 2, the low 32 bits of the file's number are xored into the checksum in the footer.
abbrev pub signed_for : Batch → LogFileContext → List ℕ
signed_for b context = batch_bytes (signature_of context) b.items b.entries

-- the contents of a batch's record: its items without the locations of their entries, and the bytes of the entries
abbrev pub record_said : Batch → LogRecord
record_said b = record { items = map plain_item b.items; entries = b.entries }

-- If `b` isn't empty, `signed` gives bytes for each file of a queue. In that file, they parse as one record with the
-- contents of `b`.
abbrev pub SaysItself : (LogFileContext → List ℕ) → Batch → Type 0
SaysItself signed b = (b.items ≡ [] → ⊥) → (says : LogRecord → Record (List ℕ) (List ℕ)) (queue : LogQueue)
    (directories : List (List ℕ))
    → SaysRecord says (log_layout queue directories) queue signed (says (record_said b))
