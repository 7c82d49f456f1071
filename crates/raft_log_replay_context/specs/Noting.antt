-- The first and the last file of Rewrite's atomic groups, which tables record, and what takes effect if a replay starts
-- at the first of these files.
use Rattle.std.specs.Prelude.{◌≡◌, ℕ, ◌==◌, ◌||◌, ◌≤◌, ◌⊎◌, Bool, true, false, List, [], ◌∷◌, ◌++◌, Option, Some, None}
use Rattle.std.specs.Global.{Vec}
use Rattle.raft_log_model_laws.specs.Item.{Item, items_of}
use Rattle.raft_log_model_laws.specs.Item.Item.{Run, Put}
use Rattle.raft_log_model_laws.specs.Meaning.{says, Content, Slot}
use Rattle.raft_log_model_laws.specs.Meaning.Content.{Entry, Value}
use Rattle.raft_log_model_laws.specs.Tidy.{Tidy}
use Rattle.raft_log_machine_laws.specs.Survival.{IsSpoken}
use Rattle.raft_log_record_frames.specs.Meaning.{tagged_items}
use Rattle.raft_log_extents.specs.Entries.{place_of}
use Rattle.raft_log_memtable_index.specs.declared.group_files.GroupFiles.{GroupFiles}
use Rattle.raft_log_memtable_index.specs.Shown.{KeyValue}
use Rattle.raft_log_memtable_index.specs.Bridge.{Located}
use Rattle.raft_log_memtable_index.specs.Noted.{start_of}
use Rattle.raft_log_memtable_index.specs.Replayed.{nothing_replayed, Replayed}
use Rattle.raft_log_memtable.specs.Files.{with_read_group}
use Rattle.raft_log_memtables.specs.declared.mem_tables.MemTables.{MemTables}
use Rattle.raft_log_memtables.specs.Batch.{mentions}
use Rattle.raft_log_memtables.specs.Replaying.{ReadsAll}
use Rattle.raft_log_memtables.specs.Tables.{counts, replayed_of}
use Rattle.raft_log_replay_context.specs.declared.part.GroupPart.{GroupPart}
use Rattle.raft_log_replay_context.specs.Records.{counted, records_of, AreHealthy, ReadItem, ReadRecord}
use Rattle.raft_log_replay_context.specs.Pieces.{with_file}

-- these records of an atomic group were applied to the tables, one after another
abbrev pub ReadsParts : List GroupPart → MemTables → MemTables → Type 0
ReadsParts [] old new = new ≡ old
ReadsParts (p ∷ ps) old new =
    (next : MemTables) × ReadsAll false p.file old next (tagged_items place_of p.items.items)
    × ReadsParts ps next new

-- the range of files `so_far`, extended by the files of these records, one after another
abbrev pub files_after : Option GroupFiles → List GroupPart → Option GroupFiles
files_after so_far [] = so_far
files_after so_far (p ∷ ps) = files_after (Some (with_file so_far p.file)) ps

-- the range of the files of these records of an atomic group
abbrev pub files_of : List GroupPart → Option GroupFiles
files_of ps = files_after None ps

-- whether one of the records has an item of raft group `g`
abbrev pub parts_mention : ℕ → List GroupPart → Bool
parts_mention g [] = false
parts_mention g (p ∷ ps) = mentions g p.items.items || parts_mention g ps

-- whether raft group `g` is in the list
abbrev pub is_listed : ℕ → List ℕ → Bool
is_listed g [] = false
is_listed g (h ∷ hs) = (h == g) || is_listed g hs

-- either `files` were recorded for a raft group, in addition to those from before; or nothing was read of the group,
-- and nothing was recorded for it
abbrev pub NotesAt : GroupFiles → Replayed → Replayed → Type 0
NotesAt files old new =
    (new ≡ with_read_group old files) ⊎ ((old ≡ nothing_replayed) × (new ≡ nothing_replayed))

-- if there are files, they were recorded for each raft group for which `test` is true, and for no other (`NotesAt`);
-- without files, nothing changed
abbrev pub NotesAll : Option GroupFiles → (ℕ → Bool) → (ℕ → Replayed) → (ℕ → Replayed) → Type 0
NotesAll None test old new = (g : ℕ) → new g ≡ old g
NotesAll (Some files) test old new =
    (g : ℕ) → (test g ≡ true → NotesAt files (old g) (new g)) × (test g ≡ false → new g ≡ old g)

-- The atomic group with these records took effect. The records were applied to the tables, and their files were
-- recorded for each raft group of which they have items. Recording the files doesn't change which raft groups count.
pub record SettlesGroup (ps : List GroupPart) (old new : MemTables) : Type 0 where
  pub between : MemTables
  pub reads : ReadsParts ps old between
  pub notes : NotesAll (files_of ps) (λ g. parts_mention g ps) (replayed_of between) (replayed_of new)
  pub counting : (g : ℕ) → counts new g ≡ counts between g

-- these atomic groups took effect, one after another
abbrev pub SettlesAll : List (Vec GroupPart) → MemTables → MemTables → Type 0
SettlesAll [] old new = new ≡ old
SettlesAll (ps ∷ pss) old new = (next : MemTables) × SettlesGroup ps.items old next × SettlesAll pss next new

-- the atomic group took effect, if there is one
abbrev pub SettlesWhole : Option (Vec GroupPart) → MemTables → MemTables → Type 0
SettlesWhole None old new = new ≡ old
SettlesWhole (Some ps) old new = SettlesGroup ps.items old new

-- every place is in file `n`
abbrev pub AllLieInFile : ℕ → List Located → Type 0
AllLieInFile n [] = Unit {0}
AllLieInFile n (p ∷ ps) = (p.place.file ≡ n) × AllLieInFile n ps

-- every entry or value of the item is in file `n`
abbrev pub ItemLiesIn : ℕ → Item Located KeyValue → Type 0
ItemLiesIn n (Run f ps) = AllLieInFile n ps
ItemLiesIn n (Put k v) = v.file ≡ n
ItemLiesIn n x = Unit {0}

-- every entry and value of the items is in file `n`
abbrev pub ItemsLieIn : ℕ → List ReadItem → Type 0
ItemsLieIn n [] = Unit {0}
ItemsLieIn n (x ∷ xs) = ItemLiesIn n x.item × ItemsLieIn n xs

-- each record has its entries and values in the file that it was read from
abbrev pub AreWhereRead : List ReadRecord → Type 0
AreWhereRead [] = Unit {0}
AreWhereRead (r ∷ rs) = ItemsLieIn r.file (items_of r.taken) × AreWhereRead rs

-- every record was read from a file up to number `n`
abbrev pub AllReadTo : ℕ → List ReadRecord → Type 0
AllReadTo n [] = Unit {0}
AllReadTo n (r ∷ rs) = (r.file ≤ n) × AllReadTo n rs

-- the recorded files of atomic groups end at or before file `n`
abbrev pub IsNotedTo : ℕ → Option GroupFiles → Type 0
IsNotedTo n None = Unit {0}
IsNotedTo n (Some files) = files.to ≤ n

-- for each raft group, the recorded files of atomic groups end at or before the last file that a record was read from
abbrev pub AreNotedTo : List ReadRecord → (ℕ → Replayed) → Type 0
AreNotedTo rs z = (n : ℕ) → AllReadTo n rs → (g : ℕ) → IsNotedTo n (z g).table.noted

-- the file of an entry or a value
abbrev pub file_in : Content Located KeyValue → ℕ
file_in (Entry p) = p.place.file
file_in (Value v) = v.file

-- Some suffix of `rs` begins with a record in file `n` or a later one. Of the items that take effect if only the
-- suffix is read, one touches slot `s` of group `g`.
pub record CountsFrom (rs : List ReadRecord) (g n : ℕ) (s : Slot) : Type 0 where
  pub front : List ReadRecord
  pub first : ReadRecord
  pub back : List ReadRecord
  pub splits : front ++ (first ∷ back) ≡ rs
  pub from : n ≤ first.file
  pub spoken : IsSpoken (says s (counted g (first ∷ back)))

-- Each slot of raft group `g` that has content counts (`CountsFrom`) from a certain file on (`start_of`). If the
-- recorded files of atomic groups begin before the content's file and reach it, this is the first recorded file.
-- Otherwise it is the content's file.
abbrev pub NotesCover : List ReadRecord → ℕ → Option GroupFiles → Type 0
NotesCover rs g noted =
    (s : Slot) (c : Content Located KeyValue) → says s (counted g rs) ≡ Some (Some c)
    → CountsFrom rs g (start_of (file_in c) noted) s

-- The files recorded for each raft group cover its content (`NotesCover`). This has two premises. Each record's entries
-- and values are in the file that it was read from, and the records are in order for the group.
abbrev pub AreNotedRead : List ReadRecord → (ℕ → Replayed) → Type 0
AreNotedRead rs z =
    AreWhereRead rs → Tidy (records_of rs) → (g : ℕ) → AreHealthy (counted g rs)
    → NotesCover rs g (z g).table.noted
