-- What a file system holds: directories, paths, and files. Each file has its content, what was synced of it, and the
-- changes that are not synced.
use Rattle.std.specs.Prelude.{◌≡◌, ℕ, ◌+◌, ◌-◌, ◌<◌, ◌^◌, Bool, true, false, Option, None, List, [], ◌∷◌, ◌++◌, length, slice_index}
use Rattle.std.specs.Map.{update}
use Rattle.std.specs.declared.io.ErrorKind.{ErrorKind}
use Rattle.std.proofs.Common.{nat_eq, take, drop, replicate}

-- A change of a file that is not synced. A write has all bytes that were passed in, even if the call failed after
-- some of them. A truncation has the new size, and so has a growth, which adds zeros.
pub data Change : Type 0 where
  Wrote : (at : ℕ) (bytes : List ℕ) → Change
  ShortenedTo : (size : ℕ) → Change
  GrewTo : (size : ℕ) → Change

-- A file: the content that a read returns now, the content at the last sync, and the changes since, in order.
pub record File : Type 0 where
  pub content : List ℕ
  pub synced : List ℕ
  pub changes : List Change

-- A file system. `names` maps each path to the number of its file. The next new file gets the number `unused`. No
-- number is used twice, so a handle keeps its file. `unreadable` marks offsets that can't be read; writes and renames
-- don't change the marks. `failures` counts failures, and `kinds` has their error kinds, the latest first.
pub record Disk : Type 0 where
  pub directories : List ℕ → Bool
  pub names : List ℕ → Option ℕ
  pub files : ℕ → Option File
  pub unused : ℕ
  pub unreadable : ℕ → ℕ → Bool
  pub stopped : Bool
  pub failures : ℕ
  pub kinds : List ErrorKind

-- a file whose content is all synced
abbrev pub at_rest : List ℕ → File
at_rest bytes = record { content = bytes; synced = bytes; changes = [] }

-- `n` zeros
abbrev pub zeros : ℕ → List ℕ
zeros n = replicate n 0

-- the bytes, extended with zeros to `size` if they are shorter
abbrev pub grown : ℕ → List ℕ → List ℕ
grown size bytes = bytes ++ zeros (size - length bytes)

-- the content `old` overwritten with `bytes` from offset `at` on; if `old` ends before `at`, zeros fill the gap
abbrev pub spliced : ℕ → List ℕ → List ℕ → List ℕ
spliced at bytes old =
    let room = grown (at + length bytes) old in take at room ++ (bytes ++ drop (at + length bytes) room)

-- the content `old` after a write of these bytes at offset `at`; a write of no bytes changes nothing
abbrev pub overwritten : ℕ → List ℕ → List ℕ → List ℕ
overwritten at [] old = old
overwritten at (b ∷ bs) old = spliced at (b ∷ bs) old

-- the content after the change was done in full
abbrev pub changed : Change → List ℕ → List ℕ
changed (Wrote at bytes) old = overwritten at bytes old
changed (ShortenedTo size) old = take size old
changed (GrewTo size) old = grown size old

-- the limit for a file's size: each file must have fewer than 2 ^ 63 bytes
abbrev pub file_limit : ℕ
file_limit = 2 ^ 63

-- the disk with another state of the file `id`
abbrev pub with_file : ℕ → Option File → Disk → Disk
with_file id file d = record d { files = update nat_eq d.files id file }

-- a name without a slash, as a file in a directory has
abbrev pub IsPlain : List ℕ → Type 0
IsPlain name = (k : ℕ) → k < length name → slice_index name k ≡ 47 → ⊥

-- the path of a file in this directory: the directory's path, a slash, and a name without a slash
pub record IsPathIn (directory path : List ℕ) : Type 0 where
  pub name : List ℕ
  pub joined : path ≡ directory ++ 47 ∷ name
  pub plain : IsPlain name

-- the directory that the path is in exists
pub record HasDirectory (path : List ℕ) (d : Disk) : Type 0 where
  pub directory : List ℕ
  pub inside : IsPathIn directory path
  pub there : d.directories directory ≡ true

-- the disk of a file system without directories or files
abbrev pub empty_disk : Disk
empty_disk = record {
  directories = λ path. false;
  names = λ path. None;
  files = λ id. None;
  unused = 0;
  unreadable = λ id place. false;
  stopped = false;
  failures = 0;
  kinds = [];
}
