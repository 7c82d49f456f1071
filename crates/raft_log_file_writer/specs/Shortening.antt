-- Truncating a file after some of its records, and syncing it. What the file holds before, between and after these two
-- calls. Each of them may fail, and a truncation that failed may have been done all the same.
use Rattle.std.specs.Prelude.{◌≡◌, ℕ, ◌+◌, ◌≤◌, List, length, take, drop}
use Rattle.raft_log_fs.specs.Disk.{ShortenedTo, File}
use Rattle.raft_log_fs.specs.Calls.{after_change, with_change, flushed}
use Rattle.raft_log_file_writer.specs.LawsChains.{Written, IsSelfDelimiting, spelled}
use Rattle.raft_log_file_writer.specs.KeepsSynced.{HoldsChain, HoldsAtLeast, kept_records}

-- The file holds the chain. Between `start` and the offset `size` it has exactly the durable records and the first
-- `count` pending ones.
pub record CanShorten {R : Type 0} (IsFrame : List ℕ → R → Type 0)
    (start : ℕ) (stale : List ℕ) (size count : ℕ)
    (durable pending : List (Written R)) (file : File) : Type 0 where
  pub holds : HoldsChain IsFrame start stale durable pending file
  pub within : count ≤ length pending
  pub front : drop start (take size file.content) ≡ spelled (kept_records durable pending count)
  pub end : size ≡ start + length (spelled (kept_records durable pending count))

-- The file holds the chain. From `start` on it has exactly the durable records and the first `count` pending ones.
pub record IsShortened {R : Type 0} (IsFrame : List ℕ → R → Type 0) (start : ℕ) (stale : List ℕ) (count : ℕ)
    (durable pending : List (Written R)) (file : File) : Type 0 where
  pub holds : HoldsChain IsFrame start stale durable pending file
  pub all : drop start file.content ≡ spelled (kept_records durable pending count)

-- What holds when a file is truncated at `size` and synced:
-- - `before`: it holds the chain.
-- - `tried`: it holds the same chain after the truncation was tried, whatever it contains then.
-- - `done`: after the truncation it still holds the chain. From `start` on it has exactly the durable records and the
--   first `count` pending ones.
-- - `synced`: after the sync it still holds the chain, with at least the durable records synced.
pub record ShorteningKeeps {R : Type 0} (IsFrame : List ℕ → R → Type 0)
    (start : ℕ) (stale : List ℕ) (size count : ℕ)
    (durable pending : List (Written R)) (file : File) : Type 0 where
  pub before : HoldsAtLeast IsFrame start stale durable pending file
  pub tried : (content : List ℕ)
      → HoldsAtLeast IsFrame start stale durable pending (with_change (ShortenedTo size) content file)
  pub done : IsShortened IsFrame start stale count durable pending (after_change (ShortenedTo size) file)
  pub synced : HoldsAtLeast IsFrame start stale durable pending
      (flushed (after_change (ShortenedTo size) file))

-- `ShorteningKeeps` holds for each file that can be truncated at `size`
abbrev pub ShortenedIsKept : {R : Type 0} → (List ℕ → R → Type 0) → Type 0
ShortenedIsKept {R} IsFrame = IsSelfDelimiting IsFrame
    → (start : ℕ) (stale : List ℕ) (size count : ℕ) (durable pending : List (Written R)) (file : File)
    → CanShorten IsFrame start stale size count durable pending file
    → ShorteningKeeps IsFrame start stale size count durable pending file
