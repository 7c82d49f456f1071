-- Where the files of a queue are: their directories, and the path of each file by its number and its place.
use Rattle.std.specs.Prelude.{◌≡◌, ℕ, ◌<◌, ◌+◌, ◌-◌, ◌^◌, Bool, cond, nat_le, List, [], length, slice_index_or}
use Rattle.raft_log_fs.specs.Disk.{IsPathIn}
use Rattle.raft_log_file_writer.specs.LogFormat.{Format, IsFormat}
use Rattle.raft_log_file_format.specs.Header.{header_bytes}
use Rattle.raft_log_file_format.specs.declared.header.LogFileFormat.{LogFileFormat}
use Rattle.raft_log_active_file.specs.Standing.{OwnsPaths}
use Rattle.raft_log_active_file.specs.declared.format.File.{File}

-- Whether file names at `place` have a plus sign before the number. Each of the `count` directories has two places. The
-- place of names without a sign is the directory's position in the list. The place of names with a sign is this
-- position plus `count`.
abbrev pub has_sign : ℕ → ℕ → Bool
has_sign count place = nat_le count place

-- The place of names in the directory at the position `place`: of names with a sign if `signed` is true, otherwise of
-- names without one.
abbrev pub place_of : ℕ → ℕ → Bool → ℕ
place_of count place signed = cond signed (count + place) place

-- the position of the directory that has this place
abbrev pub plain_place : ℕ → ℕ → ℕ
plain_place count place = cond (has_sign count place) (place - count) place

-- Where the files of a queue are: the directories, the main one first, and the path of each file. The path depends on
-- the file's place and on its number. The place says in which directory the file is, and whether its name has a plus
-- sign (`has_sign`). `numbered` gives the path of a file with an ordinary name. `reserved` gives the path of a file
-- that is kept for recycling under a reserved name.
pub record FilePaths : Type 0 where
  pub directories : List (List ℕ)
  pub numbered : ℕ → ℕ → List ℕ
  pub reserved : ℕ → ℕ → List ℕ

-- the path of a file that a pipe lists
abbrev pub path_of : FilePaths → File → List ℕ
path_of paths file = cond file.reserved (paths.reserved file.path_id file.seq)
    (paths.numbered file.path_id file.seq)

-- the format has no alignment: records follow one another without padding
abbrev pub IsUnaligned : LogFileFormat → Type 0
IsUnaligned format = format.alignment ≡ 0

-- The paths fit the format of a queue's files.
-- - `owns`: the queue owns all paths of numbers below the limit.
-- - `numbered`: the ordinary path of a number is a path of this number.
-- - `lies`: at a place for names without a sign, the ordinary path is in the directory of this place.
-- - `kept`, `apart`: the queue owns the paths of reserved names, and none of them is a path of a number.
-- - `headed`: the header of each format without an alignment is a header of the queue's files.
pub record IsLayout {R : Type 0} (F : Format R) (own : List ℕ → Type 0) (paths : FilePaths) : Type 0 where
  pub format : IsFormat F
  pub owns : OwnsPaths F own
  pub limit : F.limit ≡ 10 ^ 16
  pub numbered : (directory n : ℕ) → n < F.limit → F.IsPath n (paths.numbered directory n)
  pub lies : (directory n : ℕ) → directory < length paths.directories → n < F.limit
      → IsPathIn (slice_index_or paths.directories directory []) (paths.numbered directory n)
  pub kept : (directory n : ℕ) → own (paths.reserved directory n)
  pub apart : (directory n m : ℕ) → m < F.limit → F.IsPath m (paths.reserved directory n) → ⊥
  pub headed : (format : LogFileFormat) → IsUnaligned format → F.IsHeader (header_bytes format)
