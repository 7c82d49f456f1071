-- The files of a log directory that were read, and the tables that were built from them.
use Rattle.std.specs.Prelude.{◌≡◌, ℕ, List, [], ◌∷◌, ◌++◌, map}
use Rattle.raft_log_model_laws.specs.Item.{Record, Tagged}
use Rattle.raft_log_model_laws.specs.Item.Record.{Plain, Part}
use Rattle.raft_log_model_laws.specs.Groups.{directory_meaning, Map}
use Rattle.raft_log_model_laws.specs.Tidy.{Tidy}
use Rattle.raft_log_machine_laws.specs.Files.{span, LogFile}
use Rattle.raft_log_machine_laws.specs.Directory.{IsRising}
use Rattle.raft_log_machine_laws.specs.Images.{IsOneRun}
use Rattle.raft_log_machine_laws.specs.Model.{Files}
use Rattle.raft_log_memtable_index.specs.Bridge.{Located}
use Rattle.raft_log_memtable_index.specs.Shown.{KeyValue}
use Rattle.raft_log_memtable_index.specs.Replayed.{told}
use Rattle.raft_log_memtables.specs.declared.mem_tables.MemTables.{MemTables}
use Rattle.raft_log_replay_context.specs.Records.{counted, records_of, AreHealthy, ReadRecord}
use Rattle.raft_log_replay_context.specs.Noting.{AreWhereRead}
use Rattle.raft_log_replay_context.specs.Context.{ArePlain, ComesOver}

-- the item with entries instead of places, where `at` gives the entry at a place; a put has its value's bytes
abbrev pub told_tagged : {E : Type 0} → (Located → E) → Tagged Located KeyValue → Tagged E (List ℕ)
told_tagged at x = record { group = x.group; item = told at x.item }

-- the record with entries instead of places, where `at` gives the entry at a place, and with its values' bytes
abbrev pub told_record : {E : Type 0} → (Located → E) → Record Located KeyValue → Record E (List ℕ)
told_record at (Plain xs) = Plain (map (told_tagged at) xs)
told_record at (Part m xs) = Part m (map (told_tagged at) xs)

-- the records with entries instead of places (`told_record`), and without the files that they were read from
abbrev pub told_records : {E : Type 0} → (Located → E) → List ReadRecord → List (Record E (List ℕ))
told_records at rs = map (told_record at) (records_of rs)

-- every record was read from file `n`
abbrev pub AllReadIn : ℕ → List ReadRecord → Type 0
AllReadIn n [] = Unit {0}
AllReadIn n (r ∷ rs) = (r.file ≡ n) × AllReadIn n rs

-- `rs` are the records of these files, in order, each with the number of its file; `at` gives the entry at each place
abbrev pub FilesHold : {E : Type 0} → (Located → E) → List ReadRecord → List (LogFile E (List ℕ)) → Type 0
FilesHold at rs [] = rs ≡ []
FilesHold at rs (f ∷ fs) =
    (here rest : List ReadRecord) × (rs ≡ here ++ rest) × AllReadIn f.number here
    × (f.records ≡ told_records at here) × FilesHold at rest fs

-- `rs` are the records of the files `fs`, whose numbers rise. Each record's entries and values are in the file that it
-- was read from. Between the begin and the end of an atomic group, nothing takes effect for its raft groups. In each
-- raft group, the runs that take effect leave no hole, and their indexes are below 2 ^ 64 - 1.
pub record IsWhatWasRead {E : Type 0} (at : Located → E) (rs : List ReadRecord)
    (fs : List (LogFile E (List ℕ))) : Type 0 where
  pub files : FilesHold at rs fs
  pub rising : IsRising fs
  pub lie : AreWhereRead rs
  pub tidy : Tidy (records_of rs)
  pub healthy : (g : ℕ) → AreHealthy (counted g rs)

-- the contents of the log, if the queues have these records and `at` gives the entry at each place
abbrev pub map_read : {E : Type 0} → (Located → E) → List ReadRecord → List ReadRecord → Map E (List ℕ)
map_read at rewrite append = directory_meaning (told_records at rewrite) (told_records at append)

-- The tables `m` are those of the log files `f`, from which these records of both queues were read. The records of
-- Append take effect at once. In each raft group, the log's entries have consecutive indexes below 2 ^ 64 - 1.
pub record AreTablesOf {E : Type 0} (at : Located → E) (rewrite append : List ReadRecord) (m : MemTables)
    (f : Files E (List ℕ)) : Type 0 where
  pub over : ComesOver rewrite append m
  pub rewrite_read : IsWhatWasRead at rewrite (span f.rewrite f.rewrite.pending)
  pub append_read : IsWhatWasRead at append (span f.append f.append.pending)
  pub plain : ArePlain append
  pub runs : (g : ℕ) → IsOneRun (map_read at rewrite append g)
