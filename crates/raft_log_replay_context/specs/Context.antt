-- A replay context: the state of a worker that reads one segment of a queue. The contexts of consecutive segments are
-- merged.
use Rattle.std.specs.Prelude.{◌≡◌, ℕ, Bool, true, false, List, [], ◌∷◌, ◌++◌, map, Option, Some, None}
use Rattle.raft_log_record_base.specs.declared.errors.Error.{Error}
use Rattle.raft_log_record_base.specs.declared.pipe_log.FileId.{FileId}
use Rattle.raft_log_record_base.specs.declared.pipe_log.LogQueue.{LogQueue}
use Rattle.raft_log_record_items.specs.declared.item.LogItem.{LogItem}
use Rattle.raft_log_model_laws.specs.Item.{Record}
use Rattle.raft_log_model_laws.specs.Item.Record.{Plain}
use Rattle.raft_log_model_laws.specs.Meaning.{directory, Content, Slot}
use Rattle.raft_log_model_laws.specs.Meaning.Slot.{Index}
use Rattle.raft_log_model_laws.specs.Holes.{IsSolid}
use Rattle.raft_log_model_laws.specs.Tidy.{Tidy}
use Rattle.raft_log_machine_laws.specs.Machine.{RecordsFit}
use Rattle.raft_log_record_frames.specs.Meaning.{tagged_items}
use Rattle.raft_log_extents.specs.Entries.{place_of}
use Rattle.raft_log_memtable_index.specs.Shown.{KeyValue}
use Rattle.raft_log_memtable_index.specs.Bridge.{Located}
use Rattle.raft_log_memtable_index.specs.Replayed.{merged, told, IsReplayed, Replayed}
use Rattle.raft_log_memtable.specs.Replays.{in_append}
use Rattle.raft_log_memtables.specs.declared.mem_tables.MemTables.{MemTables}
use Rattle.raft_log_memtables.specs.Tables.{counts, replayed_of, shown_of}
use Rattle.raft_log_memtables.specs.Batch.{MayFollowAll, counts_at_end}
use Rattle.raft_log_memtables.specs.Joining.{JoinsAll}
use Rattle.raft_log_memtables.specs.Replaying.{ReadsUpTo}
use Rattle.raft_log_replay_context.specs.declared.context.MemTableRecoverContext.{MemTableRecoverContext}
use Rattle.raft_log_replay_context.specs.Records.{counted, record_read, records_of, AreHealthy, AreReplayed, ReadRecord}
use Rattle.raft_log_replay_context.specs.Pieces.{ArePieces}
use Rattle.raft_log_replay_context.specs.Noting.{AllReadTo, AreNotedRead, AreNotedTo, AreWhereRead, IsNotedTo, NotesCover}

-- whether the record takes effect at once, because it is no part of an atomic group
abbrev pub is_plain : Record Located KeyValue → Bool
is_plain (Plain xs) = true
is_plain r = false

-- no record is part of an atomic group; this holds in Append
abbrev pub ArePlain : List ReadRecord → Type 0
ArePlain [] = Unit {0}
ArePlain (r ∷ rs) = (is_plain r.taken ≡ true) × ArePlain rs

-- `counting` says which raft groups count: items of the group took effect, and the last one isn't a Clean. This is
-- claimed under two conditions. Between the begin and the end of an atomic group, nothing takes effect for its raft
-- groups. In the raft group, the runs that take effect leave no hole, and their indexes are below 2 ^ 64 - 1.
abbrev pub AreCounting : List ReadRecord → (ℕ → Bool) → Type 0
AreCounting rs counting =
    Tidy (records_of rs) → (g : ℕ) → AreHealthy (counted g rs) → counting g ≡ counts_at_end false (counted g rs)

-- The context has read exactly these records of a queue. `tables`, `counting` and `notes` hold if these are in order.
-- - `tables`, `counting`: its tables are those of the items that take effect, and know which raft groups count.
-- - `plain`, `fit`, `none`: in Append, records take effect at once, indexes are below 2 ^ 64 - 1, no file is recorded.
-- - `notes`, `ends`: in Rewrite, the tables record the files of atomic groups, but none past those that were read.
--   `notes` also requires that each entry and value is in the file that it was read from (`AreWhereRead`).
-- - `pieces`: it has the pieces: the parts of atomic groups that the records leave open, or that began before them.
pub record HasRead (queue : LogQueue) (rs : List ReadRecord) (c : MemTableRecoverContext) : Type 0 where
  pub plain : in_append queue ≡ true → ArePlain rs
  pub fit : in_append queue ≡ true → RecordsFit (records_of rs)
  pub tables : AreReplayed (in_append queue) rs (replayed_of c.tables)
  pub counting : AreCounting rs (counts c.tables)
  pub notes : in_append queue ≡ false → AreNotedRead rs (replayed_of c.tables)
  pub ends : in_append queue ≡ false → AreNotedTo rs (replayed_of c.tables)
  pub none : in_append queue ≡ true → (g : ℕ) → (replayed_of c.tables g).table.noted ≡ None
  pub pieces : ArePieces rs c.pieces

-- The batch decodes to a record `r`. If the context `old` had read some records, `new` has read these and then `r`.
abbrev pub ContextReadsOne : LogQueue → Option ReadRecord → MemTableRecoverContext → MemTableRecoverContext → Type 0
ContextReadsOne queue None old new = ⊥
ContextReadsOne queue (Some r) old new =
    (rs : List ReadRecord) → HasRead queue rs old → HasRead queue (rs ++ r ∷ []) new

-- the batch of these items, read in this file, decodes to a record; `new` has read what `old` had read, then this
-- record
abbrev pub ContextReadsOn : FileId → List LogItem → MemTableRecoverContext → MemTableRecoverContext → Type 0
ContextReadsOn file items old new = ContextReadsOne file.queue (record_read file.queue file.seq items) old new

-- the tables of a context
abbrev pub tables_of : MemTableRecoverContext → MemTables
tables_of c = c.tables

-- how many entries and values the context has read
abbrev pub written_to : MemTableRecoverContext → ℕ
written_to c = c.written

-- In Append, no run of the items leaves a hole after what the context has of the run's group. The indexes of the runs
-- are below 2 ^ 64 - 1.
abbrev pub LeavesNoHole : FileId → List LogItem → MemTableRecoverContext → Type 0
LeavesNoHole file items c =
    in_append file.queue ≡ true → MayFollowAll (shown_of c.tables) (tagged_items place_of items)

-- If the batch is from Append, applying one of its items failed, and the items before that one were applied. The item's
-- run leaves a hole or has an index of 2 ^ 64 - 1 or more, or memory ran out.
abbrev pub AppendRefused : FileId → List LogItem → MemTableRecoverContext → MemTableRecoverContext → Error
    → Type 0
AppendRefused file items old new error =
    in_append file.queue ≡ true
    → ReadsUpTo true file.seq (tables_of old) (tables_of new) (tagged_items place_of items) error

-- the tables of `new` are those of `later` joined to some earlier tables, after which no run of `later` leaves a hole
abbrev pub JoinsOn : MemTableRecoverContext → MemTableRecoverContext → Type 0
JoinsOn later new = (between : MemTables) × JoinsAll between (tables_of later) (tables_of new)

-- if `old` has read some records, and `later` those that follow them, `new` has read all of them
abbrev pub MergesInto : LogQueue → MemTableRecoverContext → MemTableRecoverContext → MemTableRecoverContext
    → Type 0
MergesInto queue old later new =
    (xs ys : List ReadRecord) → HasRead queue xs old → HasRead queue ys later → HasRead queue (xs ++ ys) new

-- In raft group `g`, the tables `m` show what was read from Append (`append`) over what was read from Rewrite
-- (`rewrite`). They record the files of Rewrite's atomic groups (`noted`, if the records satisfy `AreWhereRead`), and
-- no file past those that were read. The group counts if items of it took effect, and the last one isn't a Clean. For
-- this, all of Append comes after all of Rewrite.
pub record IsOverAt (rewrite append : List ReadRecord) (m : MemTables) (g : ℕ) : Type 0 where
  pub rewritten : Replayed
  pub appended : Replayed
  pub of_rewrite : IsReplayed false (counted g rewrite) rewritten
  pub of_append : IsReplayed true (counted g append) appended
  pub noted : AreWhereRead rewrite → NotesCover rewrite g rewritten.table.noted
  pub ends : (n : ℕ) → AllReadTo n rewrite → IsNotedTo n (shown_of m g).noted
  pub shows : shown_of m g ≡ merged rewritten.table appended
  pub counting : counts m g ≡ counts_at_end (counts_at_end false (counted g rewrite)) (counted g append)

-- In every raft group, the tables show what was read from Append over what was read from Rewrite. This is claimed under
-- two conditions, for both queues. Between the begin and the end of an atomic group, nothing takes effect for its
-- raft groups. In this raft group, the runs that take effect leave no hole, and their indexes are below 2 ^ 64 - 1.
abbrev pub ComesOver : List ReadRecord → List ReadRecord → MemTables → Type 0
ComesOver rewrite append m =
    Tidy (records_of rewrite) → Tidy (records_of append) → (g : ℕ)
    → AreHealthy (counted g rewrite) → AreHealthy (counted g append)
    → IsOverAt rewrite append m g

-- the contents of slot `s` in group `g`, if the queues have these records and `at` gives the entry at each place
abbrev pub meant_by : {E : Type 0} → (Located → E) → List ReadRecord → List ReadRecord → ℕ → Slot
    → Option (Content E (List ℕ))
meant_by at rewrite append g s =
    directory s (map (told at) (counted g rewrite)) (map (told at) (counted g append))

-- The records are well formed for group `g`. In both queues, nothing takes effect for the raft groups of an atomic
-- group between its begin and its end. In both queues, the runs that take effect in `g` leave no hole, and their
-- indexes are below 2 ^ 64 - 1. The resulting entries have consecutive indexes.
pub record IsSoundFor {E : Type 0} (at : Located → E) (rewrite append : List ReadRecord) (g : ℕ) : Type 0 where
  pub tidy : Tidy (records_of rewrite)
  pub tidy_append : Tidy (records_of append)
  pub of_rewrite : AreHealthy (counted g rewrite)
  pub of_append : AreHealthy (counted g append)
  pub solid : IsSolid (λ i. meant_by at rewrite append g (Index i))
