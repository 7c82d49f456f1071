-- The format of a log: numbered files, each with a header, and records after the header. How a record is encoded may
-- depend on its file's number and header. So bytes that were a record under a file's earlier number may be no record
-- under its new number. Also here: what it means that one file has no CRC collision.
use Rattle.std.specs.Prelude.{◌≡◌, ℕ, ◌<◌, ◌⊎◌, List, [], ◌++◌, length}
use Rattle.raft_log_fs.specs.Disk.{File}
use Rattle.raft_log_file_writer.specs.LawsChains.{Written, IsSelfDelimiting, CanTell, Reads}
use Rattle.raft_log_file_writer.specs.KeepsSynced.{NoChanceMatch}

-- How the files of a log are written:
-- - `IsFrame`: which bytes encode which record, in the file with this number and header. The header gives the format
-- version, and so whether records are signed.
-- - `IsHeader`: which bytes are a header.
-- - `IsAligned`: which bytes a reader takes, under this number, for a file in which each record begins at a multiple of
-- an alignment. The log writes no such files.
-- - `IsPath`: which paths a file with this number may have, one in each directory of the log.
-- - `limit`: all numbers are below it.
pub record Format (R : Type 0) : Type 1 where
  pub IsFrame : ℕ → List ℕ → List ℕ → R → Type 0
  pub IsHeader : List ℕ → Type 0
  pub IsAligned : ℕ → List ℕ → Type 0
  pub IsPath : ℕ → List ℕ → Type 0
  pub limit : ℕ

-- The encodings of records are self-delimiting, and no header is a prefix of another. Neither bytes that begin with a
-- header nor an empty file count as aligned. No two numbers share a path.
pub record IsFormat {R : Type 0} (F : Format R) : Type 0 where
  pub free : (n : ℕ) (header : List ℕ) → IsSelfDelimiting (F.IsFrame n header)
  pub headers : (x y a b : List ℕ) → F.IsHeader x → F.IsHeader y → x ++ a ≡ y ++ b → x ≡ y
  pub plain : (n : ℕ) (header rest : List ℕ) → F.IsHeader header → F.IsAligned n (header ++ rest) → ⊥
  pub empty : (n : ℕ) → F.IsAligned n [] → ⊥
  pub paths : (m n : ℕ) (path : List ℕ) → m < F.limit → n < F.limit → F.IsPath m path → F.IsPath n path
      → m ≡ n

-- the bytes begin with this header
pub record HasHeader {R : Type 0} (F : Format R) (header bytes : List ℕ) : Type 0 where
  pub is : F.IsHeader header
  pub rest : List ℕ
  pub splits : bytes ≡ header ++ rest

-- it is decidable whether bytes begin with a header, and whether they begin with a record of a file with this number
-- and header
pub record CanTellFormat {R : Type 0} (F : Format R) : Type 0 where
  pub headers : (bytes : List ℕ) → ((header : List ℕ) × HasHeader F header bytes)
      ⊎ ((header : List ℕ) → HasHeader F header bytes → ⊥)
  pub frames : (n : ℕ) (header : List ℕ) → CanTell (F.IsFrame n header)

-- `ws` are the records that are read of `bytes` as the file with number `n`: those after the header. If `bytes` begin
-- with no header, there are none.
abbrev pub ReadsFile : {R : Type 0} → Format R → ℕ → List (Written R) → List ℕ → Type 0
ReadsFile F n ws bytes = ((ws ≡ []) × ((header : List ℕ) → HasHeader F header bytes → ⊥))
    ⊎ ((header : List ℕ) × HasHeader F header bytes × Reads (F.IsFrame n header) (length header) ws bytes)

-- No CRC collision in `bytes`, which a stop left of `file`, the file with number `n`. `header` is its header, `stale`
-- its stale bytes, and `own` the bytes of its records.
-- - `headers`: the bytes begin with no other header than the file's own. By chance, a torn header could be read as one
--   of another version and length.
-- - `records`: each record that is read of `bytes` was written at that offset under this number.
-- - `plain`: a reader doesn't take `bytes` for a file with an alignment.
pub record NoChanceInFile {R : Type 0} (F : Format R) (n : ℕ) (header stale own : List ℕ)
    (file : File) (bytes : List ℕ) : Type 0 where
  pub headers : (other : List ℕ) → HasHeader F other bytes → other ≡ header
  pub records : NoChanceMatch (F.IsFrame n header) (length header) stale own file bytes
  pub plain : F.IsAligned n bytes → ⊥
