-- Groups are restated: all that they have in Rewrite is written to new records of Rewrite.
use Rattle.std.specs.Prelude.{◌≡◌, ◌⊎◌, ◌↔◌, ◌<◌, ◌≤◌, ◌==◌, IsTrue, ℕ, Bool, true, false, List, [], ◌∷◌, Option, Some, None, take}
use Rattle.std.specs.List.{list_any}
use Rattle.raft_log_fs.specs.Causes.{IsLater}
use Rattle.raft_log_record_base.specs.declared.errors.Error.{Error}
use Rattle.raft_log_record_base.specs.declared.errors.Error.TheVariants as errors
use Rattle.raft_log_record_base.specs.declared.pipe_log.LogQueue.TheVariants.{Rewrite}
use Rattle.raft_log_extents.specs.declared.place.Place.{Place}
use Rattle.raft_log_memtable_index.specs.declared.group_files.GroupFiles.{GroupFiles}
use Rattle.raft_log_memtable_index.specs.Shown.{KeyValue, Shown}
use Rattle.raft_log_engine_laws.specs.raft_log_memtable.specs.Files.{ArePast}
use Rattle.raft_log_engine_laws.specs.EngineState.{LogDirectories, LogMap, EngineState, has_failed}
use Rattle.raft_log_engine_laws.specs.Holding.{Represents, IsRecoverableAs}
use Rattle.raft_log_purge_copy.specs.Owed.{OwesSame}
use Rattle.raft_log_purge_copy.specs.Reasons.{GivesReason}
use Rattle.raft_log_purge_copy.specs.Stale.{written_file}

-- each of these locations is in file `n` or a later one
abbrev pub LieFrom : ℕ → List Place → Type 0
LieFrom n [] = Unit {0}
LieFrom n (p ∷ ps) = (n ≤ p.file) × LieFrom n ps

-- the files noted for atomic groups, if any, begin at file `n` or later
abbrev pub IsNotedFrom : ℕ → Option GroupFiles → Type 0
IsNotedFrom n None = Unit {0}
IsNotedFrom n (Some files) = n ≤ files.from

-- From `v` to `w` the group was restated: all entries and values that it has in Rewrite are in file `n` and later ones.
-- - `noted`: the first file noted for atomic groups isn't lower than before, or is `n` or later.
-- - `past`: suppose that the files noted began after a file `k` below `n`, or ended at `k` or before. Then those noted
--   now begin after `k`, or end at `k` or before.
-- - `owes`: the group owes the same tombstones.
pub record IsRestatedFrom (n : ℕ) (v w : Shown) : Type 0 where
  pub entries : LieFrom n (take w.rewritten w.places)
  pub values : (k : List ℕ) (h : KeyValue) → w.held k ≡ Some h → h.appended ≡ false → n ≤ h.file
  pub noted : (k : ℕ) → k ≤ n → IsNotedFrom k v.noted → IsNotedFrom k w.noted
  pub past : (k : ℕ) → k < n → ArePast k v.noted → ArePast k w.noted
  pub owes : OwesSame v w

-- the number of Rewrite's active file
abbrev pub last_file : EngineState → ℕ
last_file s = written_file Rewrite s.pipes

-- if the log had the contents `m` in `s`, with no batch pending, it still has them in `t`
abbrev pub StaysHeld : EngineState → EngineState → Type 0
StaysHeld s t = (home : LogDirectories) (m : LogMap) → Represents home s m [] → Represents home t m []

-- Let the log have the contents `m` in `s`, with no batch pending. It still has them in `t`; or the error is `Failed`,
-- and an open of its files finds them.
abbrev pub StaysOrIsLeft : Error → EngineState → EngineState → Type 0
StaysOrIsLeft error s t = (home : LogDirectories) (m : LogMap) → Represents home s m []
    → Represents home t m [] ⊎ ((error ≡ errors.Failed) × IsRecoverableAs home t.pipes.disk m [])

-- Each group that passes the test was restated; other groups are unchanged. Suppose that no batch was pending. Then the
-- log has the same contents, and all that these groups have in Rewrite is in Rewrite's file that was active in `s`, or
-- in later ones.
pub record Restates (test : ℕ → Bool) (s t : EngineState) : Type 0 where
  pub others : (g : ℕ) → test g ≡ false → t.tables g ≡ s.tables g
  pub counts : t.counts ≡ s.counts
  pub alive : has_failed s ≡ false → has_failed t ≡ false
  pub later : IsLater s.pipes.disk t.pipes.disk
  pub holds : StaysHeld s t
  pub rises : (home : LogDirectories) (m : LogMap) → Represents home s m [] → last_file s ≤ last_file t
  pub from : (home : LogDirectories) (m : LogMap) → Represents home s m [] → (g : ℕ) → test g ≡ true
      → IsRestatedFrom (last_file s) (s.tables g) (t.tables g)

-- this one group was restated
abbrev pub RestatesOne : ℕ → EngineState → EngineState → Type 0
RestatesOne group s t = Restates (λ g. group == g) s t

-- Restating failed, and the tables are unchanged. The error says why.
pub record FailsToRestate (error : Error) (s t : EngineState) : Type 0 where
  pub same : t ≡ record s { pipes = t.pipes; cache = t.cache }
  pub tells : has_failed s ≡ false → IsTrue (has_failed t) ↔ (error ≡ errors.Failed)
  pub later : IsLater s.pipes.disk t.pipes.disk
  pub remains : StaysOrIsLeft error s t
  pub cause : GivesReason error s t

-- each of these groups was restated
abbrev pub RestatesEach : List ℕ → EngineState → EngineState → Type 0
RestatesEach groups s t = Restates (λ g. list_any (λ k. k == g) groups) s t

-- Restating these groups failed, perhaps after some were restated. Other groups are unchanged. The error says why.
pub record StopsRestating (groups : List ℕ) (error : Error) (s t : EngineState) : Type 0 where
  pub others : (g : ℕ) → list_any (λ k. k == g) groups ≡ false → t.tables g ≡ s.tables g
  pub counts : t.counts ≡ s.counts
  pub tells : has_failed s ≡ false → IsTrue (has_failed t) ↔ (error ≡ errors.Failed)
  pub later : IsLater s.pipes.disk t.pipes.disk
  pub remains : StaysOrIsLeft error s t
  pub cause : GivesReason error s t
