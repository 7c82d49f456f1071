-- The records that are read from a queue: each with its file, and with places instead of entries' bytes.
use Rattle.std.specs.Prelude.{ℕ, Bool, true, false, List, [], ◌∷◌, ◌++◌, map, Option, Some, None, option_map}
use Rattle.raft_log_record_base.specs.declared.pipe_log.LogQueue.{LogQueue}
use Rattle.raft_log_record_base.specs.declared.pipe_log.LogQueue.TheVariants.{Append, Rewrite}
use Rattle.raft_log_record_items.specs.declared.item.LogItem.{LogItem}
use Rattle.raft_log_model_laws.specs.Item.{Item, Tagged, Record}
use Rattle.raft_log_model_laws.specs.Item.Record.{Plain, Part}
use Rattle.raft_log_model_laws.specs.Groups.{of_group, rewritten}
use Rattle.raft_log_model_laws.specs.Tidy.{Tidy}
use Rattle.raft_log_model_laws.specs.Holes.{nothing, NoHole}
use Rattle.raft_log_machine_laws.specs.Machine.{Fits}
use Rattle.raft_log_record_frames.specs.Marking.{marking_of_items}
use Rattle.raft_log_record_frames.specs.Meaning.{part_of, tagged_items}
use Rattle.raft_log_record_frames.specs.declared.marking.Marking.{Marking}
use Rattle.raft_log_record_frames.specs.declared.marking.Marking.TheVariants as markings
use Rattle.raft_log_extents.specs.declared.place.Place.{Place}
use Rattle.raft_log_extents.specs.Entries.{place_of}
use Rattle.raft_log_memtable_index.specs.Shown.{KeyValue}
use Rattle.raft_log_memtable_index.specs.Bridge.{Located}
use Rattle.raft_log_memtable_index.specs.Replayed.{placed, IsReplayed, Replayed}

-- an item that was read, with its group; it has the places of its entries, or the file of its value
abbrev pub ReadItem : Type 0
ReadItem = Tagged Located KeyValue

-- a record, and the file that it was read from
pub record ReadRecord : Type 0 where
  pub file : ℕ
  pub taken : Record Located KeyValue

-- the records without the files that they were read from
abbrev pub records_of : List ReadRecord → List (Record Located KeyValue)
records_of rs = map (λ r. r.taken) rs

-- the item as it was read in file `n`, of Append if `q` is true, else of Rewrite
abbrev pub placed_tagged : Bool → ℕ → Tagged Place (List ℕ) → ReadItem
placed_tagged q n x = record { group = x.group; item = placed q n x.item }

-- the items as they were read in file `n`, of Append if `q` is true, else of Rewrite; marks of atomic groups are left
-- out
abbrev pub said_in : Bool → ℕ → List LogItem → List ReadItem
said_in q n items = map (placed_tagged q n) (tagged_items place_of items)

-- the record with these items and this marking; a broken marking makes no record
abbrev pub taken_as : Marking → List ReadItem → Option (Record Located KeyValue)
taken_as markings.Unmarked xs = Some (Plain xs)
taken_as (markings.Part id status) xs = Some (Part (part_of id status) xs)
taken_as markings.Broken xs = None

-- the record as one that was read from file `n`
abbrev pub in_file : ℕ → Record Located KeyValue → ReadRecord
in_file n r = record { file = n; taken = r }

-- The record of a batch that was read in file `n` of a queue. In Append, every record takes effect at once, and marks
-- are ignored. In Rewrite, a batch with one mark is part of an atomic group, and one with two marks or a broken one
-- is no record.
abbrev pub record_read : LogQueue → ℕ → List LogItem → Option ReadRecord
record_read Append n items = Some (in_file n (Plain (said_in true n items)))
record_read Rewrite n items =
    option_map (in_file n) (taken_as (marking_of_items items) (said_in false n items))

-- the items of group `g` that take effect, if `rs` are all records: all but those of incomplete atomic groups
abbrev pub counted : ℕ → List ReadRecord → List (Item Located KeyValue)
counted g rs = rewritten g (records_of rs)

-- the indexes of each run of the items are below 2 ^ 64 - 1
abbrev pub RunsFit : {E V : Type 0} → List (Item E V) → Type 0
RunsFit [] = Unit {0}
RunsFit (x ∷ xs) = Fits x × RunsFit xs

-- No run of the items leaves a hole: none begins past the end of the entries before it. The indexes of each run are
-- below 2 ^ 64 - 1.
abbrev pub AreHealthy : {E V : Type 0} → List (Item E V) → Type 0
AreHealthy xs = NoHole nothing xs × RunsFit xs

-- In each raft group, `z` is the result of replaying the items that take effect, in Append if `q` is true, else in
-- Rewrite. This is claimed under two conditions:
-- - Between the begin and the end of an atomic group, nothing takes effect for the raft groups of its items.
-- - In the raft group, the runs that take effect leave no hole, and their indexes are below 2 ^ 64 - 1.
abbrev pub AreReplayed : Bool → List ReadRecord → (ℕ → Replayed) → Type 0
AreReplayed q rs z =
    Tidy (records_of rs) → (g : ℕ) → AreHealthy (counted g rs) → IsReplayed q (counted g rs) (z g)

-- If `old` is the result of replaying the items `before` of a raft group, `new` is that of `before` and then the
-- group's items in `xs`. All are replayed as in Append if `q` is true, else as in Rewrite. This is claimed only if all
-- these runs leave no hole, and their indexes are below 2 ^ 64 - 1.
abbrev pub TablesTake : Bool → List ReadItem → (ℕ → Replayed) → (ℕ → Replayed) → Type 0
TablesTake q xs old new =
    (g : ℕ) (before : List (Item Located KeyValue)) → AreHealthy (before ++ of_group g xs)
    → IsReplayed q before (old g) → IsReplayed q (before ++ of_group g xs) (new g)

-- in each raft group, if `old` is the replay's result for some items, so is `new`
abbrev pub KeepsRead : (ℕ → Replayed) → (ℕ → Replayed) → Type 0
KeepsRead old new =
    (g : ℕ) (q : Bool) (xs : List (Item Located KeyValue)) → IsReplayed q xs (old g) → IsReplayed q xs (new g)
