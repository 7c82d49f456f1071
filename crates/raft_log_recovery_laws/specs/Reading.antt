-- What recovery reads from a log's queues: one batch for each record of their files, in order.
use Rattle.std.specs.Prelude.{◌≡◌, ℕ, zero, suc, ◌+◌, Bool, true, false, List, [], ◌∷◌, ◌++◌, length, map}
use Rattle.raft_log_model_laws.specs.Item.{items_of}
use Rattle.raft_log_model_laws.specs.Item.Record.{Plain}
use Rattle.raft_log_machine_laws.specs.Files.{FileQueue, LogFile}
use Rattle.raft_log_record_base.specs.declared.pipe_log.LogQueue.{LogQueue}
use Rattle.raft_log_record_items.specs.declared.item.LogItem.{LogItem}
use Rattle.raft_log_file_writer.specs.LawsChains.{Written}
use Rattle.raft_log_file_writer.specs.LogQueue.{Past, recent}
use Rattle.raft_log_file_format.specs.declared.header.LogFileFormat.{LogFileFormat}
use Rattle.raft_log_engine_laws.specs.raft_log_active_file.specs.declared.record.LogRecord.{LogRecord}
use Rattle.raft_log_replay.specs.Machines.{Batch}
use Rattle.raft_log_dual_pipes.specs.State.{Spanned}
use Rattle.raft_log_recovery_laws.specs.FileReading.{context_in}
use Rattle.raft_log_recovery_laws.specs.Records.{AreBatchesOf}
use Rattle.raft_log_dual_pipes.specs.Pipes.{LogRecordValue}

-- one batch for each of these lists of items, all read from file number `n`
abbrev pub batches_in : ℕ → List (List LogItem) → List Batch
batches_in n [] = []
batches_in n (items ∷ more) = record { file = n; items = items } ∷ batches_in n more

-- `batches` are those of file number `n` of a queue: one for each record after the header, in order. Each entry has its
-- location in the file.
pub record AreOfFile (queue : LogQueue) (n : ℕ) (header : List ℕ) (records : List (Written LogRecord))
    (batches : List Batch) : Type 0 where
  pub format : LogFileFormat
  pub items : List (List LogItem)
  pub is : batches ≡ batches_in n items
  pub are : AreBatchesOf (context_in (record { queue = queue; seq = n }) format) (length header) items records

-- `batches` are those of `count` finished files from number `n` on, one file after another. `older` gives the header
-- and the records of each finished file, by its number.
abbrev pub AreOfFiles : LogQueue → (ℕ → Past LogRecord) → ℕ → ℕ → List Batch → Type 0
AreOfFiles queue older n zero batches = batches ≡ []
AreOfFiles queue older n (suc count) batches = (first : List Batch) × (more : List Batch)
    × (batches ≡ first ++ more) × AreOfFile queue n (older n).header (older n).records first
    × AreOfFiles queue older (suc n) count more

-- `batches` are those of all files in the live range of the queue `q`: first the finished files, then the last file.
pub record AreOfQueue (queue : LogQueue) (q : Spanned LogRecord) (batches : List Batch) : Type 0 where
  pub finished : List Batch
  pub last : List Batch
  pub splits : batches ≡ finished ++ last
  pub count : ℕ
  pub reaches : q.first + count ≡ q.files.last
  pub of_finished : AreOfFiles queue q.files.older q.first count finished
  pub of_last : AreOfFile queue q.files.last q.files.header (recent q.files) last

-- a record as recovery applies it: in Append (`true`) each record is applied at once, even if it is marked as part of
-- an atomic group
abbrev pub as_counted : Bool → LogRecordValue → LogRecordValue
as_counted true y = Plain (items_of y)
as_counted false y = y

-- a file with its records as recovery applies them
abbrev pub counted_file : Bool → LogFile (List ℕ) (List ℕ) → LogFile (List ℕ) (List ℕ)
counted_file appended f = record { number = f.number; records = map (as_counted appended) f.records }

-- The queue with the records of its live range as recovery applies them. The files below the live range stay as they
-- are.
abbrev pub counted_queue : Bool → FileQueue (List ℕ) (List ℕ) → FileQueue (List ℕ) (List ℕ)
counted_queue appended q = record {
  behind = q.behind;
  gone = q.gone;
  full = map (counted_file appended) q.full;
  last = q.last;
  synced = map (as_counted appended) q.synced;
  pending = map (as_counted appended) q.pending;
}
