-- The files that a file system in memory stores: their content, synced bytes and unsynced changes. The disk gives each
-- node number to one file only. A change's stamp is the number of changes, of any file, that were made before it.
use Rattle.std.specs.Prelude.{◌≡◌, ℕ, ◌-◌, ◌<◌, min, length, take, drop, List, [], ◌∷◌, ◌++◌, Option, Some, None}
use Rattle.std.specs.Map.{update}
use Rattle.std.specs.List.{All}
use Rattle.std.specs.Bool.{nat_eq}
use Rattle.std.specs.Option.{option_map}
use Rattle.std.proofs.Common.{get_or, map, Vec, Global}
use Rattle.raft_log_fs.specs.Disk.{Change, File, changed, file_limit}
use Rattle.raft_log_fs.specs.Image.{end_of}
use Rattle.raft_log_fs_state.specs.declared.change.Stamped.{Stamped}
use Rattle.raft_log_fs_state.specs.declared.files.Stored.{Stored}
use Rattle.raft_log_fs_state.specs.Changes.{Made, made_of, bytes_in, with_rest}
use Rattle.raft_log_fs_state.specs.Former.{restored}

-- a file: its content, its synced bytes, and its unsynced changes, the oldest first
pub record Held : Type 0 where
  pub content : List ℕ
  pub synced : List ℕ
  pub changes : List Made

-- The content before these changes, if `content` is the content after them. The changes are listed oldest first, and
-- undone from the last one back.
abbrev pub before : List Stamped → List ℕ → List ℕ
before [] content = content
before (u ∷ us) content = restored u.former (before us content)

-- the bytes that the change `u` wrote; `us` are the changes after it, and `content` is the content after all of them
abbrev pub written : Stamped → List Stamped → List ℕ → List ℕ
written u us content = bytes_in u.change u.length (before us content)

-- for each change, the bytes that it wrote; `content` is the content after all of them
abbrev pub all_written : List Stamped → List ℕ → List (List ℕ)
all_written [] content = []
all_written (u ∷ us) content = written u us content ∷ all_written us content

-- each change with its stamp and the bytes that it wrote; `content` is the content after all of them
abbrev pub made_in : List Stamped → List ℕ → List Made
made_in [] content = []
made_in (u ∷ us) content = made_of u (written u us content) ∷ made_in us content

-- byte strings as lists
abbrev pub items_of : List (Vec ℕ Global) → List (List ℕ)
items_of strings = map (λ (v : Vec ℕ Global). v.items) strings

-- A stored file as `Held`. Only the content is stored in full: undoing the changes gives the synced bytes and the bytes
-- that each change wrote.
abbrev pub held : Stored → Held
held stored = record {
  content = stored.content;
  synced = before stored.changes.items stored.content;
  changes = made_in stored.changes.items stored.content;
}

-- a file whose bytes are all synced
abbrev pub resting : List ℕ → Held
resting bytes = record { content = bytes; synced = bytes; changes = [] }

-- the file with node number `id`, if it exists
abbrev pub held_of : List (Option Stored) → ℕ → Option Held
held_of files id = option_map held (get_or files id None)

-- if the file with node number `id` exists, it satisfies `P`
abbrev pub IfHeld : List (Option Stored) → ℕ → (Held → Type 0) → Type 0
IfHeld files id P = (file : Held) → held_of files id ≡ Some file → P file

-- at each node number, `new` has the same file as `old`, or neither has one
abbrev pub SameHeld : List (Option Stored) → List (Option Stored) → Type 0
SameHeld old new = (q : ℕ) → held_of new q ≡ held_of old q

-- at node number `id`, `new` has `file` (no file if it is `None`); at all other numbers it has what `old` has
abbrev pub PutsHeld : ℕ → Option Held → List (Option Stored) → List (Option Stored) → Type 0
PutsHeld id file old new = (q : ℕ) → held_of new q ≡ update nat_eq (held_of old) id file q

-- `new` is `old` with the file at node number `id` changed by `becomes`; if there is no such file, the files are the
-- same
abbrev pub ChangesHeld : ℕ → (Held → Held) → List (Option Stored) → List (Option Stored) → Type 0
ChangesHeld id becomes old new = PutsHeld id (option_map becomes (held_of old id)) old new

-- at each node number, `new` has the file of `old` changed by `becomes`, or neither has a file
abbrev pub AllBecome : (Held → Held) → List (Option Stored) → List (Option Stored) → Type 0
AllBecome becomes old new = (q : ℕ) → held_of new q ≡ option_map becomes (held_of old q)

-- the file after one more change; `rest` are the bytes or zeros that a failed write or growth didn't add
abbrev pub with_made : ℕ → Change → List ℕ → Held → Held
with_made stamp change rest file = record {
  content = changed change file.content;
  synced = file.synced;
  changes = file.changes ++ record { stamp = stamp; change = change; rest = rest } ∷ [];
}

-- the file with its content synced
abbrev pub all_synced : Held → Held
all_synced file = resting file.content

-- the changes as the calls asked for them: a failed write has all bytes that were passed in
abbrev pub changes_in : List Made → List Change
changes_in made = map (λ (m : Made). with_rest m.change m.rest) made

-- the changes as they were made: a failed write has only the bytes that were written
abbrev pub landed_in : List Made → List Change
landed_in made = map (λ (m : Made). m.change) made

-- each change ends below offset 2^63; a failed write counts with all bytes that were passed in
abbrev pub AreShort : List Made → Type 0
AreShort made = All (λ c. end_of c < file_limit) (changes_in made)

-- the file as a `Disk` has it: changes without stamps, and each write with all bytes that were passed in
abbrev pub file_of : Held → File
file_of file = record { content = file.content; synced = file.synced; changes = changes_in file.changes }

-- Bytes.

-- if file `id` exists, a read at offset `at` into `room` bytes returns `count` bytes: `room`, or fewer if the file ends
-- first
abbrev pub ReadsNumber : List (Option Stored) → ℕ → ℕ → ℕ → ℕ → Type 0
ReadsNumber files id at room count = IfHeld files id (λ file. count ≡ min room (length file.content - at))

-- if file `id` exists, `after` is `before` with its first `count` bytes replaced by the file's bytes from offset `at`
-- on
abbrev pub ReadsFront : List (Option Stored) → ℕ → ℕ → ℕ → List ℕ → List ℕ → Type 0
ReadsFront files id at count before after =
    IfHeld files id (λ file. after ≡ take count (drop at file.content) ++ drop count before)
