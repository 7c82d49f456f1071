-- The two queues of a log: how the files of each are written, where they are, and which model record each record is.
use Rattle.std.specs.Prelude.{◌≡◌, ℕ, ◌<◌, List}
use Rattle.raft_log_model_laws.specs.Item.{Record}
use Rattle.raft_log_file_writer.specs.LogFormat.{Format, CanTellFormat}
use Rattle.raft_log_record_base.specs.declared.pipe_log.LogQueue.{LogQueue}
use Rattle.raft_log_record_base.specs.declared.pipe_log.LogFileContext.{LogFileContext}
use Rattle.raft_log_file_format.specs.Header.{header_bytes}
use Rattle.raft_log_file_format.specs.declared.header.LogFileFormat.{LogFileFormat}
use Rattle.raft_log_active_file.specs.Layout.{FilePaths, IsLayout}
use Rattle.raft_log_machine_laws.specs.Calls.{Which}
use Rattle.raft_log_machine_laws.specs.Calls.Which.{InAppend, InRewrite}

-- a queue: how its files are written, which paths are its own, and the path of each file
pub record QueueLayout (R : Type 0) : Type 1 where
  pub format : Format R
  pub own : List ℕ → Type 0
  pub paths : FilePaths

-- The queue's paths and headers fit the format of its files. It is decidable whether bytes begin with a header, and
-- whether they begin with a record.
pub record IsQueueLayout {R : Type 0} (layout : QueueLayout R) : Type 0 where
  pub lawful : IsLayout layout.format layout.own layout.paths
  pub told : CanTellFormat layout.format

-- both queues of a log, and the model's record for each record of a file
pub record TwoQueues (R E V : Type 0) : Type 1 where
  pub append : QueueLayout R
  pub rewrite : QueueLayout R
  pub says : R → Record E V

-- both layouts are those of a queue (`IsQueueLayout`), and no path belongs to both
pub record AreTwoQueues {R E V : Type 0} (log : TwoQueues R E V) : Type 0 where
  pub append : IsQueueLayout log.append
  pub rewrite : IsQueueLayout log.rewrite
  pub apart : (path : List ℕ) → log.append.own path → log.rewrite.own path → ⊥

-- the layout of one of the two queues
abbrev pub layout_at : {R E V : Type 0} → Which → TwoQueues R E V → QueueLayout R
layout_at InAppend log = log.append
layout_at InRewrite log = log.rewrite

-- `signed` gives the bytes of a record, signed for a file. `y` is the model's record. For each file of the queue, the
-- bytes that `signed` gives for this file are a record of the file, and that record says `y`.
pub record SaysRecord {R E V : Type 0} (says : R → Record E V) (layout : QueueLayout R) (queue : LogQueue)
    (signed : LogFileContext → List ℕ) (y : Record E V) : Type 0 where
  pub value : R
  pub said : says value ≡ y
  pub framed : (n : ℕ) (format : LogFileFormat) → n < layout.format.limit
      → layout.format.IsHeader (header_bytes format)
      → layout.format.IsFrame n (header_bytes format)
      (signed (record { id = record { queue = queue; seq = n }; version = format.version })) value
