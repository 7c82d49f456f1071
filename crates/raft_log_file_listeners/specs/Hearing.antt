-- How each event of the log changes the purge hook's list of files.
use Rattle.std.specs.Prelude.{◌≡◌, ◌≤◌, ℕ, Some, [], ◌∷◌, ◌++◌}
use Rattle.raft_log_record_base.specs.declared.pipe_log.FileBlockHandle.{FileBlockHandle}
use Rattle.raft_log_record_base.specs.declared.pipe_log.LogQueue.{LogQueue}
use Rattle.raft_log_dual_pipes.specs.Telling.{Hears, Told, begun}
use Rattle.raft_log_file_listeners.specs.Active.{ActiveFiles, DropsListed, ListsOrMisses, counted, first_held, one_less, one_more, place_of}

-- How each event changes the hook's list:
-- - a file was begun: if it is of Append, it is listed, or counts as missing if listing it fails
-- - a record was written: if its file is listed, this file has one more waiting record (not in the memtables yet)
-- - a record was applied to the memtables: if its file is listed, this file has one waiting record less
-- - files were purged: the listed ones are removed from the list, unless the last purged file is past the list's end
abbrev pub HookHears : Told → ActiveFiles → ActiveFiles → Type 0
HookHears (Told.FileBegun file) old new = ListsOrMisses file.queue file.seq old new
HookHears (Told.RecordWritten block) old new = new ≡ counted one_more block.id.queue block.id.seq old
HookHears (Told.RecordApplied file) old new = new ≡ counted one_less file.queue file.seq old
HookHears (Told.FilesPurged file) old new = DropsListed file.queue file.seq old new

-- After a record was written and applied to the memtables, the hook pins the same files as before. The events of the
-- write are: the files that the queue rotated to, the record written, the record applied. The premise is that the first
-- missing file is the same before and after.
abbrev pub WritesHoldNothingBack : {L : Type 0} → (Told → L → L → Type 0) → (L → ActiveFiles) → Type 0
WritesHoldNothingBack {L} hears hook_of = (queue : LogQueue) (n count : ℕ) (block : FileBlockHandle) (old new : L)
    → Hears hears (begun queue n count ++ Told.RecordWritten block ∷ Told.RecordApplied block.id ∷ []) old new
    → (hook_of new).missing ≡ (hook_of old).missing
    → (asked : LogQueue) → first_held asked (hook_of new) ≡ first_held asked (hook_of old)

-- after a record was written to a listed file, the hook pins the files of this queue from that file or an earlier one
-- on
abbrev pub WrittenFilesAreHeld : {L : Type 0} → (Told → L → L → Type 0) → (L → ActiveFiles) → Type 0
WrittenFilesAreHeld {L} hears hook_of = (block : FileBlockHandle) (old new : L)
    → hears (Told.RecordWritten block) old new
    → (place : ℕ) → place_of block.id.queue block.id.seq (hook_of old) ≡ Some place
    → (first : ℕ) × (first_held block.id.queue (hook_of new) ≡ Some first) × (first ≤ block.id.seq)
