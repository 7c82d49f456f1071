-- The record that ends an atomic group is written to Rewrite. The log keeps its contents, whether the write succeeds
-- or fails.
use Rattle.std.specs.Prelude.{◌≡◌, ℕ, Bool, true, false, List, [], ◌∷◌, ◌++◌, Option}
use Rattle.raft_log_model_laws.specs.Item.{Tagged}
use Rattle.raft_log_model_laws.specs.Groups.{of_group}
use Rattle.raft_log_record_base.specs.declared.errors.Error.{Error}
use Rattle.raft_log_record_base.specs.declared.pipe_log.FileBlockHandle.{FileBlockHandle}
use Rattle.raft_log_record_frames.specs.declared.status.AtomicGroupStatus.TheVariants.{End}
use Rattle.raft_log_record_batches.specs.Batch.{Batch}
use Rattle.raft_log_block_cache.specs.Signing.{signed_for}
use Rattle.raft_log_machine_laws.specs.Calls.Which.{InRewrite}
use Rattle.raft_log_memtable_index.specs.declared.group_files.GroupFiles.{GroupFiles}
use Rattle.raft_log_memtable_index.specs.Shown.{IsOrderly, Shown}
use Rattle.raft_log_memtable_index.specs.Bridge.{Located}
use Rattle.raft_log_memtable_index.specs.Noted.{FilesRise, IsLeastInRewrite, with_note}
use Rattle.raft_log_memtable.specs.Table.{Raw, shown}
use Rattle.raft_log_memtable.specs.Files.{with_group}
use Rattle.raft_log_block_cache.specs.raft_log_memtables.specs.Views.{GroupEnd, MayEnd}
use Rattle.raft_log_block_cache.specs.raft_log_dual_pipes.specs.Calls.{AppendsTo, FailsToAppendTo}
use Rattle.raft_log_engine_laws.specs.EngineState.{LogDirectories, KeepsOrForgets, LogMap, EngineState}
use Rattle.raft_log_engine_laws.specs.Holding.{Represents}
use Rattle.raft_log_engine_laws.specs.Rewriting.{RewriteLeaves}
use Rattle.raft_log_engine_laws.specs.Settled.{SameTables}
use Rattle.raft_log_engine_laws.specs.Parts.{FilesGoUp, HoldsInGroup, IsGroupPart, UnendedGroup, WrittenPart, parts_of}
use Rattle.raft_log_engine_laws.specs.GroupWriting.{LeavesRecords}
use Rattle.raft_log_engine_laws.specs.Whole.{HasWhole, IsWholeCopy, batches_of, filed_copies, filed_items, parts_moved, whole_moves}

-- How tables that show `v` apply a whole atomic group of the parts `ps`. `about` is true for the raft groups whose
-- tables change. The parts have no items of any other raft group. If the table of raft group `g` changes, it then has
-- nothing in Rewrite in files below `least g`.
pub record TakesWhole (gate : Option ℕ) (ps : List WrittenPart) (v : ℕ → Shown) : Type 0 where
  pub about : ℕ → Bool
  pub least : ℕ → ℕ
  pub lowest : (g : ℕ) → about g ≡ true → IsLeastInRewrite (parts_moved gate g ps (v g)) (least g)
  pub others : (g : ℕ) → about g ≡ false → filed_items g ps ≡ []

-- the end of an atomic group of copies in these files, as one step of the tables
abbrev pub whole_end : {E : Type 0} {at : Located → E} {gate : Option ℕ} {ps : List WrittenPart}
    {v : ℕ → Shown} → GroupFiles → TakesWhole gate ps v
    → ((g : ℕ) → IsWholeCopy at gate (v g) (filed_items g ps))
    → GroupEnd
whole_end files k w =
    record { files = files; about = k.about; moves = λ g. whole_moves (w g); least = k.least }

-- An atomic group of copies may end, with the moves of all its parts. The parts are in the files `files`. `items` are
-- the items of the parts, with the bytes of each entry.
abbrev pub WholeGroupsMayEnd : Type 0 → Type 0
WholeGroupsMayEnd E = (at : Located → E) (gate : Option ℕ) (ps : List WrittenPart) (v : ℕ → Shown)
    (files : GroupFiles) (items : List (Tagged E (List ℕ))) (k : TakesWhole gate ps v)
    (w : (g : ℕ) → IsWholeCopy at gate (v g) (filed_items g ps)) → ((g : ℕ) → IsOrderly (v g))
    → FilesGoUp files.from files.to ps
    → ((g : ℕ) → of_group g items ≡ filed_copies at (filed_items g ps))
    → MayEnd at (whole_end files k w) v items

-- Assume that in each queue, a table's file numbers never fall as the index rises. After the table noted an atomic
-- group's files, it shows what `with_note` says. There, `least` is a file below which the table had nothing in Rewrite.
abbrev pub WholeGroupsAreNoted : Type 0
WholeGroupsAreNoted = (t : Raw) (files : GroupFiles) (a r : ℕ) → IsOrderly (shown t) → FilesRise a r (shown t)
    → (least : ℕ) × IsLeastInRewrite (shown t) least × (with_group t files ≡ with_note (shown t) least files)

-- The tables showed `v` before they applied a whole atomic group, and show `u` after. In each raft group that changes,
-- the items of the parts moved to Rewrite, and the atomic group's files are noted.
pub record ShowsWhole (gate : Option ℕ) (ps : List WrittenPart) (files : GroupFiles) (v u : ℕ → Shown)
    : Type 0 where
  pub took : TakesWhole gate ps v
  pub about : (g : ℕ) → took.about g ≡ true
      → u g ≡ with_note (parts_moved gate g ps (v g)) (took.least g) files
  pub others : (g : ℕ) → took.about g ≡ false → u g ≡ v g

-- the files of an atomic group that ends with the record at `block`: from its first part's file to that of `block`
abbrev pub files_of_group : UnendedGroup → FileBlockHandle → GroupFiles
files_of_group o block = record { from = o.first.block.id.seq; to = block.id.seq }

-- Let the parts of an atomic group be copies that may move together (`HasWhole`). After the record that ends the
-- group was written, and the tables applied the whole group, the log has the same contents.
abbrev pub WrittenEndsKeepTheMap : Type 0
WrittenEndsKeepTheMap = (home : LogDirectories) (e t : EngineState) (gate : Option ℕ) (o : UnendedGroup) (b : Batch)
    (block : FileBlockHandle) (m : LogMap) → HoldsInGroup home e m o → IsGroupPart o.number End b
    → HasWhole gate (batches_of (parts_of o) ++ b ∷ []) e.tables m
    → AppendsTo InRewrite (signed_for b) block e.pipes t.pipes
    → ShowsWhole gate (parts_of o ++ record { block = block; batch = b } ∷ []) (files_of_group o block)
    e.tables t.tables → KeepsOrForgets e t → Represents home t m []

-- An append of the record that ends an atomic group of copies failed, and the tables are unchanged. If no more of the
-- group is written, the log is as after any failed append to Rewrite (`RewriteLeaves`). After `NumberRange` or
-- `Memory`, the group is still open, and may continue (`goes_on`).
pub record RefusedEndsKeepTheMap : Type 0 where
  pub given_up : (home : LogDirectories) (e t : EngineState) (gate : Option ℕ) (o : UnendedGroup) (b : Batch) (m : LogMap)
      (error : Error) → HoldsInGroup home e m o → IsGroupPart o.number End b
      → HasWhole gate (batches_of (parts_of o) ++ b ∷ []) e.tables m → SameTables e t
      → FailsToAppendTo InRewrite (signed_for b) error e.pipes t.pipes → RewriteLeaves home m t error
  pub goes_on : (home : LogDirectories) (e t : EngineState) (o : UnendedGroup) (b : Batch) (m : LogMap) (error : Error)
      → HoldsInGroup home e m o → IsGroupPart o.number End b → SameTables e t → LeavesRecords error
      → FailsToAppendTo InRewrite (signed_for b) error e.pipes t.pipes → HoldsInGroup home t m o
