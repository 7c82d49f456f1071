-- How settings are read from TOML: what values each key may have, which keys are ignored, and the errors.
use Rattle.std.specs.Prelude.{◌≡◌, ℕ, ◌+◌, ℤ, pos, negsuc, ◌++◌, Bool, not, map, filter, List, [], ◌∷◌, Option, Some, None, Result, Ok, Err, ◌⊎◌, if◌then◌else◌, ◌==◌, codes, Vec, String}
use Rattle.std.specs.Float.{Float, binary64}
use Rattle.std.specs.Float.Ieee.{eq, div, of_int}
use Rattle.std.specs.List.{find, range_with_len, list_any}
use Rattle.std.specs.Str.{bytes_eq, trim}
use Rattle.std.specs.Option.{option_map, option_and_then}
use Rattle.std.specs.Result.{result_ok}
use Rattle.std.specs.Borrow.{Bor}
use Rattle.std.specs.declared.alloc.Global.{Global}
use Rattle.std.specs.String.{string_bytes}
use Rattle.toml.specs.Data.{Data, Members, no_members, member, get_member, as_str, as_integer, as_bool}
use Rattle.toml.specs.Data.Data.{string, float}
use Rattle.toml.specs.Parse.{parse_document}
use Rattle.raft_log_record_base.specs.Grammar.{◌>>=◌}
use Rattle.raft_log_record_base.specs.Size.{size_in}
use Rattle.raft_log_record_base.specs.declared.errors.Error.{Error}
use Rattle.raft_log_record_base.specs.declared.errors.Error.TheVariants as errors
use Rattle.raft_log_record_base.specs.declared.pipe_log.Version.{Version}
use Rattle.raft_log_record_base.specs.declared.pipe_log.Version.TheVariants.{V1, V2}
use Rattle.raft_log_file_settings.specs.declared.config.Config.{Config}
use Rattle.raft_log_file_settings.specs.declared.recovery_mode.RecoveryMode.{RecoveryMode}
use Rattle.raft_log_file_settings.specs.declared.recovery_mode.RecoveryMode.TheVariants.{AbsoluteConsistency, TolerateTailCorruption, TolerateAnyCorruption}
use Rattle.raft_log_file_settings.specs.Settings.{Settings, settings_of, default_settings}

-- Values.

-- the number, if it isn't negative
abbrev pub natural : ℤ → Option ℕ
natural (pos n) = Some n
natural (negsuc n) = None

-- the number, if the TOML value is an integer that isn't negative
abbrev pub number_of : Data → Option ℕ
number_of d = option_and_then natural (as_integer d)

-- the size that a text spells; white space around it doesn't matter
abbrev pub size_of_text : List ℕ → Option ℕ
size_of_text text = result_ok (size_in (trim text))

-- the size that a TOML value is: a number of bytes, or a text that spells a size
abbrev pub size_of : Data → Option ℕ
size_of (string text) = size_of_text text
size_of d = number_of d

-- the float that is nearest to `n` thousandths
abbrev pub thousandths : ℕ → Float
thousandths n = div binary64 (of_int binary64 (pos n)) (of_int binary64 (pos 1000))

-- the number of thousandths, at most `most`, whose nearest float is `x`, if there is one
unfoldable pub thousandths_up_to : ℕ → Float → Option ℕ
thousandths_up_to most x = find (λ n. eq x (thousandths n)) (range_with_len 0 (most + 1))

-- the thousandths that a TOML value is: their number, or a fraction from 0.0 to 1.0
abbrev pub ratio_of : Data → Option ℕ
ratio_of (float x) = thousandths_up_to 1000 x
ratio_of d = number_of d

-- the version with this number, 1 or 2
abbrev pub version_numbered : ℕ → Option Version
version_numbered n = if n == 1 then Some V1 else (if n == 2 then Some V2 else None)

-- the format version whose number a TOML value is
abbrev pub version_of : Data → Option Version
version_of d = option_and_then version_numbered (number_of d)

-- the recovery mode with this name; `TolerateTailCorruption` has two names, an older one and a newer one
abbrev pub mode_word : List ℕ → Option RecoveryMode
mode_word word =
    if bytes_eq word (codes "absolute-consistency") then Some AbsoluteConsistency
    else (if bytes_eq word (codes "tolerate-tail-corruption") then Some TolerateTailCorruption
    else (if bytes_eq word (codes "tolerate-corrupted-tail-records") then Some TolerateTailCorruption
    else (if bytes_eq word (codes "tolerate-any-corruption") then Some TolerateAnyCorruption
    else None)))

-- the recovery mode whose name a TOML value is
abbrev pub mode_of : Data → Option RecoveryMode
mode_of d = option_and_then mode_word (as_str d)

-- Keys.

-- the value, or the error `key` if there is none
abbrev pub ok_or : {X : Type 0} → Option X → List ℕ → Result X (List ℕ)
ok_or (Some x) key = Ok x
ok_or None key = Err key

-- What `read` makes of a key's TOML value, or `absent` if there is no value. If `read` can't read the value, the error
-- is the key.
abbrev pub at_value : {X : Type 0} → List ℕ → (Data → Option X) → X → Option Data → Result X (List ℕ)
at_value key read absent None = Ok absent
at_value key read absent (Some d) = ok_or (read d) key

-- What `read` makes of the value of `key` in the table `t`, or `absent` if the table hasn't this key. If `read` can't
-- read the value, the error is the key.
abbrev pub at : {X : Type 0} → List ℕ → (Data → Option X) → X → Members → Result X (List ℕ)
at key read absent t = at_value key read absent (get_member key t)

-- what `read` makes of the value of an optional setting
abbrev pub maybe : {X : Type 0} → (Data → Option X) → Data → Option (Option X)
maybe read d = option_map (λ x. Some x) (read d)

-- What a table sets for recycling: whether files are recycled, whether they are prefilled, and how many bytes are
-- prefilled. A key that the table leaves out keeps its value of `usual`.
unfoldable pub recycling_in : Settings → Members → Result (Bool × Bool × Option ℕ) (List ℕ)
recycling_in usual t = do
  enable_log_recycle ← at (codes "enable-log-recycle") as_bool usual.enable_log_recycle t
  prefill_for_recycle ← at (codes "prefill-for-recycle") as_bool usual.prefill_for_recycle t
  prefill_limit ← at (codes "prefill-limit") (maybe size_of) usual.prefill_limit t
  Ok (enable_log_recycle, prefill_for_recycle, prefill_limit)

-- What a table sets for purges: the thresholds for the sizes of Append and of Rewrite, and the threshold for the share
-- of garbage. A key that the table leaves out keeps its value of `usual`.
unfoldable pub purging_in : Settings → Members → Result (ℕ × Option ℕ × ℕ) (List ℕ)
purging_in usual t = do
  threshold ← at (codes "purge-threshold") size_of usual.purge_threshold t
  rewrite ← at (codes "purge-rewrite-threshold") (maybe size_of) usual.purge_rewrite_threshold t
  garbage_ratio ← at (codes "purge-rewrite-garbage-ratio") ratio_of usual.purge_rewrite_garbage_ratio t
  Ok (threshold, rewrite, garbage_ratio)

-- What a table sets for recovery: how it handles damage, how many bytes it reads at once, and its number of threads. A
-- key that the table leaves out keeps its value of `usual`.
unfoldable pub recovery_in : Settings → Members → Result (RecoveryMode × ℕ × ℕ) (List ℕ)
recovery_in usual t = do
  recovery_mode ← at (codes "recovery-mode") mode_of usual.recovery_mode t
  block ← at (codes "recovery-read-block-size") size_of usual.recovery_read_block_size t
  recovery_threads ← at (codes "recovery-threads") number_of usual.recovery_threads t
  Ok (recovery_mode, block, recovery_threads)

-- What a table sets for new files: `bytes-per-sync` (which has no effect), their format, and the size at which they are
-- full. A key that the table leaves out keeps its value of `usual`.
unfoldable pub files_in : Settings → Members → Result (Option ℕ × Version × ℕ) (List ℕ)
files_in usual t = do
  bytes_per_sync ← at (codes "bytes-per-sync") (maybe size_of) usual.bytes_per_sync t
  format_version ← at (codes "format-version") version_of usual.format_version t
  target_file_size ← at (codes "target-file-size") size_of usual.target_file_size t
  Ok (bytes_per_sync, format_version, target_file_size)

-- What a table sets for the directories: the main one, its limit, the spill directory, and its limit. A key that the
-- table leaves out keeps its value of `usual`.
unfoldable pub directories_in : Settings → Members
    → Result (List ℕ × Option ℕ × Option (List ℕ) × Option ℕ) (List ℕ)
directories_in usual t = do
  dir ← at (codes "dir") as_str usual.dir t
  dir_limit ← at (codes "dir-limit") (maybe size_of) usual.dir_limit t
  spill_dir ← at (codes "spill-dir") (maybe as_str) usual.spill_dir t
  spill_dir_limit ← at (codes "spill-dir-limit") (maybe size_of) usual.spill_dir_limit t
  Ok (dir, dir_limit, spill_dir, spill_dir_limit)

-- The settings `usual`, except for the keys that a table sets. If values are wrong, the error is the key of the first
-- wrong one, in the order of the reads below. Unknown keys are ignored.
unfoldable pub settings_over : Settings → Members → Result Settings (List ℕ)
settings_over usual t = do
  directories ← directories_in usual t
  recovery ← recovery_in usual t
  files ← files_in usual t
  purging ← purging_in usual t
  memory_limit ← at (codes "memory-limit") (maybe size_of) usual.memory_limit t
  recycling ← recycling_in usual t
  Ok (record {
    dir = directories.0;
    dir_limit = directories.1;
    spill_dir = directories.2;
    spill_dir_limit = directories.3;
    recovery_mode = recovery.0;
    recovery_read_block_size = recovery.1;
    recovery_threads = recovery.2;
    bytes_per_sync = files.0;
    format_version = files.1;
    target_file_size = files.2;
    purge_threshold = purging.0;
    purge_rewrite_threshold = purging.1;
    purge_rewrite_garbage_ratio = purging.2;
    memory_limit = memory_limit;
    enable_log_recycle = recycling.0;
    prefill_for_recycle = recycling.1;
    prefill_limit = recycling.2;
  })

-- the settings that a table sets; keys that it leaves out have their default values
abbrev pub settings_in : Members → Result Settings (List ℕ)
settings_in = settings_over default_settings

-- What reading returns.

-- the words with which the error text for a wrong value of `key` begins
abbrev pub wrong_value : List ℕ → List ℕ
wrong_value key = codes "wrong value of " ++ key

-- what the error text says after the key: for the garbage ratio, the value as `shown` and what is allowed; for any
-- other key, nothing
abbrev pub note_of : List ℕ → List ℕ → List ℕ
note_of key shown =
    if bytes_eq key (codes "purge-rewrite-garbage-ratio")
    then codes ": " ++ shown ++ codes " is neither a number of thousandths nor one from 0.0 to 1.0 with three decimals"
    else []

-- `note` is what the error text says after the key
abbrev pub IsNote : List ℕ → List ℕ → Type 0
IsNote key note = (shown : List ℕ) × (note ≡ note_of key shown)

-- `text` is an error text for a wrong value of `key`
abbrev pub SaysWrongValue : List ℕ → List ℕ → Type 0
SaysWrongValue key text = (shown : List ℕ) × (text ≡ wrong_value key ++ note_of key shown)

-- the error text for a text that isn't TOML
abbrev pub no_toml : List ℕ
no_toml = codes "settings are no TOML"

-- the error says that a text isn't TOML, or it is `Memory`
abbrev pub SaysNoToml : Error → Type 0
SaysNoToml (errors.InvalidArgument text) = string_bytes text ≡ no_toml
SaysNoToml errors.Memory = Unit {0}
SaysNoToml _ = ⊥

-- the error says that the value of `key` is wrong, or it is `Memory`
abbrev pub NamesKey : Error → List ℕ → Type 0
NamesKey (errors.InvalidArgument text) key = SaysWrongValue key (string_bytes text)
NamesKey errors.Memory key = Unit {0}
NamesKey _ key = ⊥

-- The code's result for `key` is the value in `reading`. If `reading` is an error instead, the code's error says that
-- the value of `key` is wrong. Memory may run out in either case.
abbrev pub GivesAt : {X : Type 0} → Result X Error → List ℕ → Result X (List ℕ) → Type 0
GivesAt (Ok x) key reading = reading ≡ Ok x
GivesAt (Err errors.Memory) key reading = Unit {0}
GivesAt (Err e) key reading = (reading ≡ Err key) × NamesKey e key

-- The code's result for several keys is the values in `reading`. If `reading` is a key instead, the code's error says
-- that this key's value is wrong. Memory may run out in either case.
abbrev pub GivesKeys : {X : Type 0} → Result X Error → Result X (List ℕ) → Type 0
GivesKeys (Ok x) reading = reading ≡ Ok x
GivesKeys (Err errors.Memory) reading = Unit {0}
GivesKeys (Err e) reading = (key : List ℕ) × (reading ≡ Err key) × NamesKey e key

-- The code's result for `key`, a borrowed text, is the text in `reading`. If `reading` is an error instead, the code's
-- error says that the value of `key` is wrong. Memory may run out in either case.
abbrev pub GivesText : Result (Bor (List ℕ)) Error → List ℕ → Result (List ℕ) (List ℕ) → Type 0
GivesText (Ok x) key reading = reading ≡ Ok x.now
GivesText (Err errors.Memory) key reading = Unit {0}
GivesText (Err e) key reading = (reading ≡ Err key) × NamesKey e key

-- The code's result for `key`, a borrowed text or `None`, is what `reading` has. If `reading` is an error instead, the
-- code's error says that the value of `key` is wrong. Memory may run out in either case.
abbrev pub GivesTextIfAny : Result (Option (Bor (List ℕ))) Error → List ℕ
    → Result (Option (List ℕ)) (List ℕ) → Type 0
GivesTextIfAny (Ok x) key reading = reading ≡ Ok (option_map (λ text. text.now) x)
GivesTextIfAny (Err errors.Memory) key reading = Unit {0}
GivesTextIfAny (Err e) key reading = (reading ≡ Err key) × NamesKey e key

-- The code's result for the directories and their limits, the directories as borrowed texts, is the values in
-- `reading`. If `reading` is a key instead, the code's error says that this key's value is wrong. Memory may run out in
-- either case.
abbrev pub GivesDirectories : Result (Bor (List ℕ) × Option ℕ × Option (Bor (List ℕ)) × Option ℕ) Error
    → Result (List ℕ × Option ℕ × Option (List ℕ) × Option ℕ) (List ℕ) → Type 0
GivesDirectories (Ok x) reading = reading ≡ Ok (x.0.now, x.1, option_map (λ text. text.now) x.2, x.3)
GivesDirectories (Err errors.Memory) reading = Unit {0}
GivesDirectories (Err e) reading = (key : List ℕ) × (reading ≡ Err key) × NamesKey e key

-- The code's result for a table is the settings in `reading`. If `reading` is a key instead, the code's error says that
-- this key's value is wrong. Memory may run out in either case.
abbrev pub GivesSettings : Result Config Error → Result Settings (List ℕ) → Type 0
GivesSettings (Ok config) reading = reading ≡ Ok (settings_of config)
GivesSettings (Err errors.Memory) reading = Unit {0}
GivesSettings (Err e) reading = (key : List ℕ) × (reading ≡ Err key) × NamesKey e key

-- `text` is TOML, and its table sets these settings
abbrev pub SaysSettings : List ℕ → Settings → Type 0
SaysSettings text s = (table : Members) × (parse_document text ≡ Some table) × (settings_in table ≡ Ok s)

-- `text` is TOML, and `key` is the first key of its table, in the order of `settings_over`, that has a wrong value
abbrev pub HasWrongKey : List ℕ → List ℕ → Type 0
HasWrongKey text key = (table : Members) × (parse_document text ≡ Some table) × (settings_in table ≡ Err key)

-- The code's result for a text: the settings that its table sets, or an error. The error says that the text isn't TOML
-- or that a key has a wrong value, or it is `Memory`.
abbrev pub GivesSettingsOf : Result Config Error → List ℕ → Type 0
GivesSettingsOf (Err errors.Memory) text = Unit {0}
GivesSettingsOf (Err (errors.InvalidArgument why)) text =
    ((parse_document text ≡ None) × (string_bytes why ≡ no_toml))
    ⊎ ((key : List ℕ) × HasWrongKey text key × SaysWrongValue key (string_bytes why))
GivesSettingsOf (Err _) text = ⊥
GivesSettingsOf (Ok config) text = SaysSettings text (settings_of config)

-- Keys that have no effect.

-- the keys of settings
abbrev pub setting_keys : List (List ℕ)
setting_keys =
    codes "dir" ∷ codes "dir-limit" ∷ codes "spill-dir" ∷ codes "spill-dir-limit"
    ∷ codes "recovery-mode" ∷ codes "recovery-read-block-size" ∷ codes "recovery-threads"
    ∷ codes "bytes-per-sync" ∷ codes "format-version" ∷ codes "target-file-size"
    ∷ codes "purge-threshold" ∷ codes "purge-rewrite-threshold" ∷ codes "purge-rewrite-garbage-ratio"
    ∷ codes "memory-limit" ∷ codes "enable-log-recycle" ∷ codes "prefill-for-recycle" ∷ codes "prefill-limit" ∷ []

-- whether this is the key of a setting
abbrev pub is_setting : List ℕ → Bool
is_setting key = list_any (bytes_eq key) setting_keys

-- the keys of a table, in its order
abbrev pub keys_of : Members → List (List ℕ)
keys_of no_members = []
keys_of (member key d t) = key ∷ keys_of t

-- the keys of a table that aren't those of settings, in the table's order; a parsed table is sorted by its keys' bytes
abbrev pub dropped_keys : Members → List (List ℕ)
dropped_keys t = filter (λ key. not (is_setting key)) (keys_of t)

-- the texts of a list
abbrev pub texts_of : Vec (String Global) Global → List (List ℕ)
texts_of texts = map string_bytes texts.items

-- The code's result for a text: the keys of its table that aren't those of settings, or an error. The error says that
-- the text isn't TOML, or it is `Memory`.
abbrev pub GivesDroppedKeys : Result (Vec (String Global) Global) Error → List ℕ → Type 0
GivesDroppedKeys (Ok keys) text =
    (table : Members) × (parse_document text ≡ Some table) × (texts_of keys ≡ dropped_keys table)
GivesDroppedKeys (Err errors.Memory) text = Unit {0}
GivesDroppedKeys (Err (errors.InvalidArgument why)) text =
    (parse_document text ≡ None) × (string_bytes why ≡ no_toml)
GivesDroppedKeys (Err _) text = ⊥
