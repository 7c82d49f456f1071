-- How settings are printed as TOML: each key with its value. A key without a value is left out.
use Rattle.std.specs.Prelude.{◌≡◌, ℕ, pos, ◌++◌, ◌^◌, ◌<◌, Bool, false, nat_le, cond, if◌then◌else◌, List, [], ◌∷◌, Option, Some, None, codes}
use Rattle.std.specs.Str.{bytes_eq}
use Rattle.std.specs.Option.{option_map, option_or}
use Rattle.std.specs.Borrow.{Bor}
use Rattle.std.specs.String.{string_bytes}
use Rattle.toml.specs.Data.{Data, Members, get_member, depth, members_depth}
use Rattle.toml.specs.Data.Data.{string, integer, boolean}
use Rattle.toml.specs.Parse.{parse_document}
use Rattle.raft_log_record_base.specs.Files.{version_number}
use Rattle.raft_log_record_base.specs.Size.{size_text}
use Rattle.raft_log_record_base.specs.declared.errors.Error.{Error}
use Rattle.raft_log_record_base.specs.declared.errors.Error.TheVariants as errors
use Rattle.raft_log_file_settings.specs.declared.recovery_mode.RecoveryMode.{RecoveryMode}
use Rattle.raft_log_file_settings.specs.declared.recovery_mode.RecoveryMode.TheVariants.{AbsoluteConsistency, TolerateTailCorruption, TolerateAnyCorruption}
use Rattle.raft_log_file_settings.specs.declared.printing.Entry.{Entry}
use Rattle.raft_log_file_settings.specs.declared.printing.Entry.TheVariants as entries
use Rattle.raft_log_file_settings.specs.Settings.{Settings}

-- Values.

-- the word that is printed for a recovery mode; of the two words for `TolerateTailCorruption` it is the older one
abbrev pub word_of : RecoveryMode → List ℕ
word_of AbsoluteConsistency = codes "absolute-consistency"
word_of TolerateTailCorruption = codes "tolerate-corrupted-tail-records"
word_of TolerateAnyCorruption = codes "tolerate-any-corruption"

-- a size as TOML: a number of bytes, or a text if it is 2^63 or more, which is past the range of TOML's numbers
abbrev pub size_data : ℕ → Data
size_data n = cond (nat_le (2 ^ 63) n) (string (size_text n)) (integer (pos n))

-- the size, if there is one, is below 2^64
abbrev pub SizeFits : Option ℕ → Type 0
SizeFits None = Unit {0}
SizeFits (Some n) = n < 2 ^ 64

-- each size in the settings is below 2^64
pub record SizesFit (s : Settings) : Type 0 where
  pub dir : SizeFits s.dir_limit
  pub spill : SizeFits s.spill_dir_limit
  pub block : SizeFits (Some s.recovery_read_block_size)
  pub per_sync : SizeFits s.bytes_per_sync
  pub target : SizeFits (Some s.target_file_size)
  pub threshold : SizeFits (Some s.purge_threshold)
  pub rewrite : SizeFits s.purge_rewrite_threshold
  pub memory : SizeFits s.memory_limit
  pub prefill : SizeFits s.prefill_limit

-- the TOML value for an `Entry`, the code's type for a value that is printed
abbrev pub data_of : Entry → Data
data_of (entries.Text text) = string text.now
data_of (entries.Size size) = size_data size.0
data_of (entries.Number n) = integer (pos n)
data_of (entries.Switch on) = boolean on

-- Rows.

-- A key, and its value if it has one.
abbrev pub Row : Type 0
Row = List ℕ × Option Data

-- a row of the code as a `Row`
abbrev pub row_of : Bor (List ℕ) × Option Entry → Row
row_of row = (row.0.now, option_map data_of row.1)

-- the keys of these settings with their values
abbrev pub rows_of : Settings → List Row
rows_of s =
    (codes "dir", Some (string s.dir))
    ∷ (codes "dir-limit", option_map size_data s.dir_limit)
    ∷ (codes "spill-dir", option_map (λ dir. string dir) s.spill_dir)
    ∷ (codes "spill-dir-limit", option_map size_data s.spill_dir_limit)
    ∷ (codes "recovery-mode", Some (string (word_of s.recovery_mode)))
    ∷ (codes "recovery-read-block-size", Some (size_data s.recovery_read_block_size))
    ∷ (codes "recovery-threads", Some (integer (pos s.recovery_threads)))
    ∷ (codes "bytes-per-sync", option_map size_data s.bytes_per_sync)
    ∷ (codes "format-version", Some (integer (pos (version_number s.format_version))))
    ∷ (codes "target-file-size", Some (size_data s.target_file_size))
    ∷ (codes "purge-threshold", Some (size_data s.purge_threshold))
    ∷ (codes "purge-rewrite-threshold", option_map size_data s.purge_rewrite_threshold)
    ∷ (codes "purge-rewrite-garbage-ratio", Some (integer (pos s.purge_rewrite_garbage_ratio)))
    ∷ (codes "memory-limit", option_map size_data s.memory_limit)
    ∷ (codes "enable-log-recycle", Some (boolean s.enable_log_recycle))
    ∷ (codes "prefill-for-recycle", Some (boolean s.prefill_for_recycle))
    ∷ (codes "prefill-limit", option_map size_data s.prefill_limit)
    ∷ []

-- the value of each key in a table after a row was added to it; a row without a value changes nothing
abbrev pub with_row : Row → (List ℕ → Option Data) → List ℕ → Option Data
with_row row at k = cond (bytes_eq row.0 k) (option_or row.1 (at k)) (at k)

-- the value of each key in a table after these rows were added to it, one after another
abbrev pub with_rows : List Row → (List ℕ → Option Data) → List ℕ → Option Data
with_rows [] at = at
with_rows (row ∷ rows) at = with_rows rows (with_row row at)

-- the table has exactly the keys and values of these rows, and no value contains other values
pub record HasRows (rows : List Row) (table : Members) : Type 0 where
  pub at : (k : List ℕ) → get_member k table ≡ with_rows rows (λ _. None) k
  pub flat : members_depth table ≡ 0

-- `text` is TOML, and its table has exactly the keys and values of these rows
abbrev pub SaysRows : List ℕ → List Row → Type 0
SaysRows text rows = (table : Members) × (parse_document text ≡ Some table) × HasRows rows table

-- `new` is the table `old` with `value` at `key`. If neither `value` nor any value of `old` contains other values, no
-- value of `new` contains other values.
pub record PutsAt (key : List ℕ) (value : Data) (old new : Members) : Type 0 where
  pub at : (k : List ℕ) → get_member k new ≡ cond (bytes_eq key k) (Some value) (get_member k old)
  pub flat : depth value ≡ 0 → members_depth old ≡ 0 → members_depth new ≡ 0

-- `new` is the table `old` with this row added; if no value of `old` contains other values, none of `new` does
pub record PutsRow (row : Row) (old new : Members) : Type 0 where
  pub at : (k : List ℕ) → get_member k new ≡ with_row row (λ l. get_member l old) k
  pub flat : members_depth old ≡ 0 → members_depth new ≡ 0

-- Errors.

-- whether the value is a number that TOML can't express: 2^63 or more
abbrev pub is_unsaid : Option Data → Bool
is_unsaid (Some (integer (pos n))) = nat_le (2 ^ 63) n
is_unsaid _ = false

-- the key of the first number that TOML can't express, if there is one
abbrev pub first_unsaid : List Row → Option (List ℕ)
first_unsaid [] = None
first_unsaid (row ∷ rows) = if is_unsaid row.1 then Some row.0 else first_unsaid rows

-- the error text for the value of `key`, a number that TOML can't express
abbrev pub too_large : List ℕ → List ℕ
too_large key = codes "number past the range of TOML at " ++ key

-- Why the rows can't be printed: TOML can't express a number, and the error names the first key with such a number. Or
-- memory ran out.
abbrev pub IsUnprintable : List Row → Error → Type 0
IsUnprintable rows (errors.InvalidArgument text) =
    (key : List ℕ) × (first_unsaid rows ≡ Some key) × (string_bytes text ≡ too_large key)
IsUnprintable rows errors.Memory = Unit {0}
IsUnprintable rows _ = ⊥

-- the error says that TOML can't express the value of `key`, which is a number; or it is `Memory`
abbrev pub SaysTooLarge : List ℕ → Error → Type 0
SaysTooLarge key (errors.InvalidArgument text) = string_bytes text ≡ too_large key
SaysTooLarge key errors.Memory = Unit {0}
SaysTooLarge key _ = ⊥
