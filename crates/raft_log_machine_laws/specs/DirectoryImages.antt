-- What a file system has of a log: the images that a crash may leave, and the files that a recovery may read from
-- each.
use Rattle.std.specs.Prelude.{◌≡◌, ℕ, List, [], ◌∷◌, ◌++◌}
use Rattle.raft_log_model_laws.specs.Item.{Record}
use Rattle.raft_log_model_laws.specs.Meaning.{Slot}
use Rattle.raft_log_model_laws.specs.Groups.{Map, directory_meaning}
use Rattle.raft_log_machine_laws.specs.Files.{LogFile, IsRead, records_of}
use Rattle.raft_log_machine_laws.specs.Model.{Files}

-- What may be read of file systems, whose type is `D`:
-- - `leaves`: a crash of the first file system may leave the second one as its image, without CRC collisions;
-- - `rewrite`, `append`: from this file system, a recovery that starts at this file number may read these files.
pub record Readings (D E V : Type 0) : Type 1 where
  pub leaves : D → D → Type 0
  pub rewrite : D → ℕ → List (LogFile E V) → Type 0
  pub append : D → ℕ → List (LogFile E V) → Type 0

-- `image` is an image of files `f`. Of each queue's pending records in `f`, it kept a prefix. Take `f` with only these
-- prefixes of its pending records: whatever files a recovery may read from the image, it may also read from that.
pub record IsAllowed {D E V : Type 0} (r : Readings D E V) (f : Files E V) (image : D) : Type 0 where
  pub rewrite_kept : List (Record E V)
  pub rewrite_lost : List (Record E V)
  pub append_kept : List (Record E V)
  pub append_lost : List (Record E V)
  pub rewrite_image : rewrite_kept ++ rewrite_lost ≡ f.rewrite.pending
  pub append_image : append_kept ++ append_lost ≡ f.append.pending
  pub rewrite_read : (s : ℕ) (files : List (LogFile E V)) → r.rewrite image s files
      → IsRead f.rewrite_from f.rewrite rewrite_kept s files
  pub append_read : (s : ℕ) (files : List (LogFile E V)) → r.append image s files
      → IsRead f.append_from f.append append_kept s files

-- each image that a crash of file system `d` may leave is an image of files `f`, as `IsAllowed` says
abbrev pub Allows : {D E V : Type 0} → Readings D E V → D → Files E V → Type 0
Allows {D} r d f = (image : D) → r.leaves d image → IsAllowed r f image

-- A recovery gets map `m` from this image, whichever files it starts at: number `s` in Rewrite, and number `t` in
-- Append.
abbrev pub Means : {D E V : Type 0} → Readings D E V → D → Map E V → Type 0
Means {D} {E} {V} r image m =
    (s t : ℕ) (rewrite append : List (LogFile E V)) → r.rewrite image s rewrite → r.append image t append
    → (g : ℕ) (slot : Slot) → directory_meaning (records_of rewrite) (records_of append) g slot ≡ m g slot

-- For each image that a crash of `new` may leave, a crash of `old` may leave one such that: if a recovery gets map `m`
-- from the image of `old`, it also gets `m` from the image of `new`.
abbrev pub MeansNoMore : {D E V : Type 0} → Readings D E V → D → D → Type 0
MeansNoMore {D} {E} {V} r old new =
    (image : D) → r.leaves new image
    → (before : D) × r.leaves old before × ((m : Map E V) → Means r before m → Means r image m)

-- an empty file of number 1
abbrev pub empty_file : {E V : Type 0} → LogFile E V
empty_file = record { number = 1; records = [] }

-- whatever a recovery may read from `image`, it may also read from `other`
pub record ReadsAsPartOf {D E V : Type 0} (r : Readings D E V) (image other : D) : Type 0 where
  pub rewrite : (s : ℕ) (files : List (LogFile E V)) → r.rewrite image s files → r.rewrite other s files
  pub append : (s : ℕ) (files : List (LogFile E V)) → r.append image s files → r.append other s files

-- for each image that a crash of `new` may leave, a crash of `old` may leave one from which a recovery may read
-- whatever it may read from the image of `new`
abbrev pub ShowsNoMore : {D E V : Type 0} → Readings D E V → D → D → Type 0
ShowsNoMore {D} r old new =
    (image : D) → r.leaves new image → (before : D) × r.leaves old before × ReadsAsPartOf r image before

-- The image has no log. In each queue, a recovery can read only an empty file of number 1, as it does if there is no
-- file.
pub record ReadsNothing {D E V : Type 0} (r : Readings D E V) (image : D) : Type 0 where
  pub rewrite : (s : ℕ) (files : List (LogFile E V)) → r.rewrite image s files
      → (s ≡ 1) × (files ≡ empty_file ∷ [])
  pub append : (s : ℕ) (files : List (LogFile E V)) → r.append image s files
      → (s ≡ 1) × (files ≡ empty_file ∷ [])

-- A crash of file system `d` may leave `d` itself. From each image that such a crash may leave, a recovery reads
-- nothing that it may not read from `d`.
abbrev pub IsOwnImage : {D E V : Type 0} → Readings D E V → D → Type 0
IsOwnImage {D} r d = r.leaves d d × ((image : D) → r.leaves d image → ReadsAsPartOf r image d)
