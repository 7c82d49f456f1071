-- In which files the entries and values of a table are.
use Rattle.std.specs.Prelude.{◌≡◌, ℕ, ◌+◌, ◌<◌, ◌≤◌, ◌⊎◌, true, false, List, Option, Some, None, option_map, if◌then◌else◌, nat_lt, length, slice_get}
use Rattle.raft_log_record_base.specs.declared.pipe_log.LogQueue.{LogQueue}
use Rattle.raft_log_record_base.specs.declared.pipe_log.LogQueue.TheVariants.{Append, Rewrite}
use Rattle.raft_log_memtable_index.specs.declared.group_files.GroupFiles.{GroupFiles}
use Rattle.raft_log_model_laws.specs.Meaning.Slot.{Index}
use Rattle.raft_log_memtable_index.specs.Shown.{KeyValue, Shown}
use Rattle.raft_log_memtable_index.specs.Replayed.{both_noted, Replayed}
use Rattle.raft_log_memtable_index.specs.Noted.{file_at, noting, place_file, start_of}
use Rattle.raft_log_memtable_index.specs.LeastFiles.{least_value, lesser, IsLeastValue}
use Rattle.raft_log_memtable.specs.Table.{shown, Raw}

-- the file of a table's first entry in `queue`, if it has one there
abbrev pub first_file : LogQueue → Shown → Option ℕ
first_file Append v = option_map (λ p. p.file) (slice_get v.places v.rewritten)
first_file Rewrite v =
    if nat_lt 0 v.rewritten then option_map (λ p. p.file) (slice_get v.places 0) else None

-- the file of the first entry in `queue` for a table with these fields, if it has one there
abbrev pub first_place : LogQueue → Raw → Option ℕ
first_place queue t = first_file queue (shown t)

-- The file of the table's first entry in Rewrite, or the lowest file of a value there, whichever is lower. If file
-- numbers never fall from one entry to the next, nothing of the table is in a lower file of Rewrite.
abbrev pub least_rewritten : Raw → Option ℕ
least_rewritten t = lesser (first_place Rewrite t) (least_value false t.keys)

-- The lowest file of `queue` that the table needs: the file of its first entry there, or the lowest file of a value
-- there, whichever is lower. In Rewrite, the recorded atomic groups count too. If they reach this file from an earlier
-- file, the table needs their first file.
abbrev pub min_file : LogQueue → Raw → Option ℕ
min_file Append t = lesser (first_place Append t) (least_value true t.keys)
min_file Rewrite t = option_map (λ n. start_of n t.noted) (least_rewritten t)

-- `least` is the file of the first entry in Rewrite, or the lowest file of a value there, whichever is lower
abbrev pub IsLeastRewritten : Shown → Option ℕ → Type 0
IsLeastRewritten v least =
    (value : Option ℕ) × IsLeastValue false v.held value × (least ≡ lesser (first_file Rewrite v) value)

-- `file` is the lowest file of the queue that the table needs: the file of its first entry there, or the lowest file of
-- a value there, whichever is lower. In Rewrite, the recorded atomic groups count too. If they reach this file from an
-- earlier file, the table needs their first file.
abbrev pub IsMinFile : LogQueue → Shown → Option ℕ → Type 0
IsMinFile Append v file =
    (value : Option ℕ) × IsLeastValue true v.held value × (file ≡ lesser (first_file Append v) value)
IsMinFile Rewrite v file =
    (least : Option ℕ) × IsLeastRewritten v least × (file ≡ option_map (λ n. start_of n v.noted) least)

-- Which files of atomic groups are recorded once a group in the files `new` has ended. `old` were recorded before. The
-- first argument is the lowest file of Rewrite with an entry or value of the table, if there is one.
abbrev pub noted_after : Option ℕ → Option GroupFiles → GroupFiles → GroupFiles
noted_after None old new = new
noted_after (Some least) old new = noting least old new

-- the table after it recorded an atomic group in these files
abbrev pub with_group : Raw → GroupFiles → Shown
with_group t files = record (shown t) { noted = Some (noted_after (least_rewritten t) t.noted files) }

-- `u` is the table `v` after it recorded an atomic group in these files. The files recorded before are dropped in two
-- cases: the table has nothing in Rewrite, or its lowest file of Rewrite is after all of them.
abbrev pub NotesGroup : GroupFiles → Shown → Shown → Type 0
NotesGroup files v u =
    (least : Option ℕ) × IsLeastRewritten v least
    × (u ≡ record v { noted = Some (noted_after least v.noted files) })

-- the replay's result after it read an atomic group in these files; they are recorded with all files recorded before
abbrev pub with_read_group : Replayed → GroupFiles → Replayed
with_read_group z files =
    record z { table = record z.table { noted = both_noted z.table.noted (Some files) } }

-- In each queue, no entry is in a lower file than the first entry there. This holds if file numbers never fall from
-- one entry to the next.
abbrev pub FrontIsLeast : Shown → Type 0
FrontIsLeast v =
    ((i : ℕ) → v.first ≤ i → i < v.first + v.rewritten
    → place_file (slice_get v.places 0) ≤ file_at v (Index i))
    × ((i : ℕ) → v.first + v.rewritten ≤ i → i < v.first + length v.places
    → place_file (slice_get v.places v.rewritten) ≤ file_at v (Index i))

-- no entry or value in Append is in a file below `least`
abbrev pub IsLeastInAppend : Shown → ℕ → Type 0
IsLeastInAppend v least =
    ((i : ℕ) → v.first + v.rewritten ≤ i → i < v.first + length v.places → least ≤ file_at v (Index i))
    × ((k : List ℕ) (h : KeyValue) → v.held k ≡ Some h → h.appended ≡ true → least ≤ h.file)

-- the files recorded for atomic groups, if any, begin after file `n`, or end at or before it
abbrev pub ArePast : ℕ → Option GroupFiles → Type 0
ArePast n None = Unit {0}
ArePast n (Some files) = (n < files.from) ⊎ (files.to ≤ n)
