-- How each call changes a queue, as a list of files with records. Only the last file's records change; earlier files
-- are finished.
use Rattle.std.specs.Prelude.{◌≡◌, ℕ, ◌<◌, ◌⊎◌, List, [], ◌++◌}
use Rattle.raft_log_fs.specs.Disk.{grown}
use Rattle.raft_log_file_writer.specs.LawsChains.{Written, spelled}
use Rattle.raft_log_file_writer.specs.LogQueue.{Past, LogFiles, recent}

-- the bytes that were written to the last file: its header and its records
abbrev pub whole : {R : Type 0} → LogFiles R → List ℕ
whole q = q.header ++ spelled (recent q)

-- the last file as one of the earlier, finished files
abbrev pub finished : {R : Type 0} → LogFiles R → Past R
finished q = record { header = q.header; records = recent q }

-- the bytes of a finished file
abbrev pub past_bytes : {R : Type 0} → Past R → List ℕ
past_bytes past = past.header ++ spelled past.records

-- the queue after the records `ws` were written, but not yet synced
abbrev pub with_more : {R : Type 0} → List (Written R) → LogFiles R → LogFiles R
with_more ws q = record q { pending = q.pending ++ ws }

-- the queue after a sync: all records of the last file are durable
abbrev pub synced : {R : Type 0} → LogFiles R → LogFiles R
synced q = record q { durable = recent q; pending = [] }

-- the queue once its last file was truncated at the end of its records and synced, so that it has no stale bytes
abbrev pub settled : {R : Type 0} → LogFiles R → LogFiles R
settled q = record q { stale = []; durable = recent q; pending = [] }

-- the queue after zeros were allocated in the last file; they count as stale bytes
abbrev pub with_room : {R : Type 0} → ℕ → LogFiles R → LogFiles R
with_room size q = record q { stale = grown size q.stale }

-- The queue `q`, except that its last file has just got its number and has no record yet. This file has `header`, or
-- will get it, and it held `stale` when it got its number.
abbrev pub begun : {R : Type 0} → List ℕ → List ℕ → LogFiles R → LogFiles R
begun header stale q = record q { header = header; stale = stale; durable = []; pending = [] }
