-- Failures that a test arms in a file system in memory, and how they make a changing call fail. A changing call is one
-- that changes names or files, or syncs. A failure is armed for the n-th changing call from now; the next one is the
-- first. `old` is the state before a call, and `new` the state after it. `left` is the state that a failed call leaves.
use Rattle.std.specs.Prelude.{◌≡◌, ℕ, ◌-◌, ◌⊎◌, Bool, true, false, cond, Option, Some, None, List, [], ◌∷◌, ◌++◌, Result}
use Rattle.std.specs.Result.{MatchResult}
use Rattle.std.specs.String.{string_bytes}
use Rattle.std.specs.Str.{bytes_eq}
use Rattle.std.specs.Map.{update}
use Rattle.std.specs.BTreeMap.{get_by_text}
use Rattle.std.specs.List.{Contains, filter}
use Rattle.std.proofs.Common.{map, take, nat_eq, nat_lt}
use Rattle.std.specs.declared.alloc.AllocError.{AllocError}
use Rattle.std.specs.declared.io.ErrorKind.{ErrorKind}
use Rattle.std.specs.declared.io.ErrorKind.TheVariants.{Other, OutOfMemory, ResourceBusy}
use Rattle.raft_log_fs.specs.Disk.{Change, Wrote, ShortenedTo, GrewTo, File, Disk, overwritten, with_file}
use Rattle.raft_log_fs.specs.Calls.{IsToldAtStop, with_change, after_change, at_stop, Changes}
use Rattle.raft_log_fs.specs.Arguments.{IsAfterStop}
use Rattle.raft_log_fs.specs.declared.handle.Fault.{Fault}
use Rattle.raft_log_fs.specs.declared.handle.Fault.TheVariants.{Refuse, RefuseInPart, DenyRead, StopAt, StopAfter, Space}
use Rattle.raft_log_fs_memory.specs.declared.memory.MemoryFileSystem.{MemoryFileSystem}
use Rattle.raft_log_fs_memory.specs.Memory.{disk_of, Kept, kept, failed_once, IsToldOnce}
use Rattle.raft_log_fs_memory.specs.Space.{HasSpace, HasNoRoom}

-- What is armed. A call number of 1 means the next changing call.
-- - `refusals`: for each failure, the number of its call.
-- - `parts`: for each partial failure, the number of its call, and how many bytes a write writes at it.
-- - `stop`: the number of the call at which the file system stops, or 0 if no stop is armed.
-- - `after`: whether that call is done before the stop.
-- - `spaces`: for each directory, the space that is set for it, if any.
pub record Armed : Type 0 where
  pub refusals : List ℕ
  pub parts : List (ℕ × ℕ)
  pub stop : ℕ
  pub after : Bool
  pub spaces : List ℕ → Option ℕ

-- what is armed in a file system in memory
abbrev pub armed : MemoryFileSystem → Armed
armed system = record {
  refusals = system.refusals.items;
  parts = system.parts.items;
  stop = system.stop;
  after = system.after;
  spaces = get_by_text system.spaces;
}

-- no failure and no stop is armed, and no space is set
abbrev pub nothing_armed : Armed
nothing_armed = record { refusals = []; parts = []; stop = 0; after = false; spaces = λ directory. None }

-- what is armed after this space was set for a directory, in place of the one set before
abbrev pub with_space : List ℕ → ℕ → Armed → Armed
with_space directory space a = record a { spaces = update bytes_eq a.spaces directory (Some space) }

-- What is armed after one more fault. A stop replaces the one armed before, and call number 0 arms nothing. `DenyRead`
-- arms nothing either: an unreadable place is a mark on the disk.
abbrev pub armed_with : Fault → Armed → Armed
armed_with (Refuse n) a = record a { refusals = cond (nat_eq n 0) a.refusals (a.refusals ++ n ∷ []) }
armed_with (RefuseInPart n count) a =
    record a { parts = cond (nat_eq n 0) a.parts (a.parts ++ (n, count) ∷ []) }
armed_with (DenyRead name place) a = a
armed_with (StopAt n) a = cond (nat_eq n 0) a (record a { stop = n; after = false })
armed_with (StopAfter n) a = cond (nat_eq n 0) a (record a { stop = n; after = true })
armed_with (Space directory space) a = with_space (string_bytes directory) space a

-- the armed failures after one more call: those that were due at it are removed, and the others are one call nearer
abbrev pub nearer : List ℕ → List ℕ
nearer refusals = map (λ n. n - 1) (filter (λ n. nat_lt 1 n) refusals)

-- a partial failure after one more call: it is one call nearer
abbrev pub part_later : ℕ × ℕ → ℕ × ℕ
part_later part = (part.0 - 1, part.1)

-- the partial failures after one more call: those that were due at it are removed, and the others are one call nearer
abbrev pub nearer_parts : List (ℕ × ℕ) → List (ℕ × ℕ)
nearer_parts parts = map part_later (filter (λ (part : ℕ × ℕ). nat_lt 1 part.0) parts)

-- how many bytes a write at the next changing call writes if a partial failure is due there; if several are due, the
-- first in the list counts
abbrev pub front_of : List (ℕ × ℕ) → Option ℕ
front_of [] = None
front_of (part ∷ parts) = cond (nat_eq part.0 1) (Some part.1) (front_of parts)

-- what is armed after one more changing call
abbrev pub call_later : Armed → Armed
call_later a =
    record a { refusals = nearer a.refusals; parts = nearer_parts a.parts; stop = a.stop - 1 }

-- no failure, no partial failure and no stop is due at the next changing call
pub record IsSpared (a : Armed) : Type 0 where
  pub refusal : Contains a.refusals 1 → ⊥
  pub part : front_of a.parts ≡ None
  pub stop : a.stop ≡ 1 → ⊥

-- A partial failure is due at the next changing call. If that call is a write, it writes `count` bytes. No full
-- failure or stop is due at that call; these have priority.
pub record PartFalls (count : ℕ) (a : Armed) : Type 0 where
  pub front : front_of a.parts ≡ Some count
  pub refusal : Contains a.refusals 1 → ⊥
  pub stop : a.stop ≡ 1 → ⊥

-- The call counts as a changing one: the file system ran, and no argument was wrong. Each armed fault is now one call
-- nearer.
pub record IsCounted (wrong : ErrorKind → Type 0) (old new : MemoryFileSystem) : Type 0 where
  pub runs : (disk_of old).stopped ≡ false
  pub right : (error : ErrorKind) → wrong error → ⊥
  pub next : armed new ≡ call_later (armed old)

-- nothing armed was due at this call, and each armed fault is now one call nearer
pub record IsAnswered (old new : MemoryFileSystem) : Type 0 where
  pub spared : IsSpared (armed old)
  pub next : armed new ≡ call_later (armed old)

-- a stop is due at the next changing call, which is done before the stop
pub record StopsAfter (a : Armed) : Type 0 where
  pub falls : a.stop ≡ 1
  pub done : a.after ≡ true

-- An armed failure was due at this call, and no stop was. The call returned `Other`. On the disk, the failure was
-- counted, or the file system stopped if the count was full; nothing else changed.
pub record ArmedRefusalFell (error : ErrorKind) (old new : MemoryFileSystem) : Type 0 where
  pub falls : Contains (armed old).refusals 1
  pub no_stop : (armed old).stop ≡ 1 → ⊥
  pub kind : error ≡ Other
  pub left : disk_of new ≡ failed_once error (disk_of old)

-- A partial failure was due at this call, which returned `Other`. On the disk, the failure was counted, or the file
-- system stopped if the count was full; nothing else changed.
pub record ArmedPartFell (error : ErrorKind) (old new : MemoryFileSystem) : Type 0 where
  pub count : ℕ
  pub falls : PartFalls count (armed old)
  pub kind : error ≡ Other
  pub left : disk_of new ≡ failed_once error (disk_of old)

-- At this call, a stop was due that comes before the call is done. The call returned `Other`. The file system stopped,
-- and nothing else changed on its disk.
pub record ArmedStopFell (error : ErrorKind) (old new : MemoryFileSystem) : Type 0 where
  pub falls : (armed old).stop ≡ 1
  pub undone : (armed old).after ≡ false
  pub kind : error ≡ Other
  pub left : disk_of new ≡ at_stop (disk_of old)

-- The state `k` after a failure that returned `error`. The failure was counted. If the count of failures was at its
-- maximum, the file system stopped instead.
abbrev pub after_failure : ErrorKind → Kept → Kept
after_failure error k = record k { disk = failed_once error k.disk }

-- the state `k` after the file system stopped
abbrev pub after_stop : Kept → Kept
after_stop k = record k { disk = at_stop k.disk }

-- Why a changing call failed, and what it left. All cases but the first two are counted as in `failed_once`:
-- - `uncounted`: the file system had stopped, and the error is `Other`; or an argument is wrong. Nothing changed.
-- - `stop_fell`: a stop was due. `left_at_stop` says what it left.
-- - `refusal_fell`, `part_fell`: an armed failure was due. A partial one left what `left_in_part` says.
-- - `room_short`: nothing was due, and `no_room` says why there was no room for the change. Nothing was done.
pub data IsRefusedCall (left_at_stop : ErrorKind → Kept → Type 0)
    (left_in_part : ℕ → ErrorKind → Kept → Type 0) (wrong no_room : ErrorKind → Type 0) (error : ErrorKind) (old new : MemoryFileSystem) : Type 0 where
  uncounted : IsAfterStop (disk_of old) error ⊎ wrong error → armed new ≡ armed old → kept new ≡ kept old
      → IsRefusedCall left_at_stop left_in_part wrong no_room error old new
  stop_fell : IsCounted wrong old new → (armed old).stop ≡ 1 → (left : Kept) → left_at_stop error left
      → kept new ≡ after_stop left
      → IsRefusedCall left_at_stop left_in_part wrong no_room error old new
  refusal_fell : IsCounted wrong old new → ArmedRefusalFell error old new
      → kept new ≡ after_failure error (kept old)
      → IsRefusedCall left_at_stop left_in_part wrong no_room error old new
  part_fell : IsCounted wrong old new → (count : ℕ) → PartFalls count (armed old) → (left : Kept)
      → left_in_part count error left → kept new ≡ after_failure error left
      → IsRefusedCall left_at_stop left_in_part wrong no_room error old new
  room_short : IsCounted wrong old new → IsSpared (armed old) → (kind : ErrorKind) → no_room kind
      → IsToldOnce kind error (disk_of old)
      → kept new ≡ after_failure error (kept old)
      → IsRefusedCall left_at_stop left_in_part wrong no_room error old new

-- the call returned `Other`, and nothing was done
abbrev pub Untouched : Kept → ErrorKind → Kept → Type 0
Untouched old error left = (error ≡ Other) × (left ≡ old)

-- The call was done: `done` says what the disk is now, and `changes` are the unsynced changes of all files.
pub record IsCallDone (done : Disk → Type 0) (changes : List (ℕ × Change)) (left : Kept) : Type 0 where
  pub disk : done left.disk
  pub order : left.unsynced ≡ changes

-- What a stop leaves of a call that is done whole or not at all. With a stop before the call (`false`), nothing was
-- done. With a stop after it (`true`), there are two cases. The call was done and returned `Other`; or memory ran out,
-- and it wasn't done and returned `ResourceBusy`.
abbrev pub LeftAtStop : Bool → (Disk → Type 0) → List (ℕ × Change) → Kept → ErrorKind → Kept → Type 0
LeftAtStop false done order old error left = Untouched old error left
LeftAtStop true done order old error left =
    ((error ≡ Other) × IsCallDone done order left) ⊎ ((error ≡ ResourceBusy) × (left ≡ old))

-- `change` of file `id` was made, and is the last unsynced change of all files
pub record IsChangeMade (id : ℕ) (change : Change) (old left : Kept) : Type 0 where
  pub disk : Changes id (after_change change) old.disk left.disk
  pub order : left.unsynced ≡ old.unsynced ++ (id, change) ∷ []

-- What a stop, before or after the call, leaves of a write, truncation or growth. There are two cases:
-- - There was room. The change was made but not synced, and the call returned `Other`.
-- - There was no room, and nothing was done. The error says why, but if memory ran out, it is `ResourceBusy`.
abbrev pub MadeUnlessShort : Type 0 → (ErrorKind → Type 0) → ℕ → Change → Kept → ErrorKind → Kept → Type 0
MadeUnlessShort space no_room id change old error left =
    ((error ≡ Other) × space × IsChangeMade id change old left)
    ⊎ ((kind : ErrorKind) × no_room kind × IsToldAtStop kind error × (left ≡ old))

-- The first `count` bytes of the write of `bytes` at offset `at` were written, and they are the last unsynced change of
-- all files. The file's own list of changes has the whole write.
pub record IsFrontMade (id at : ℕ) (bytes : List ℕ) (count : ℕ) (old left : Kept) : Type 0 where
  pub file : File
  pub is : old.disk.files id ≡ Some file
  pub disk : left.disk ≡ with_file id (Some (with_change (Wrote at bytes)
      (overwritten at (take count bytes) file.content) file)) old.disk
  pub order : left.unsynced ≡ old.unsynced ++ (id, Wrote at (take count bytes)) ∷ []

-- What a partial failure leaves of a change. A write wrote its first `count` bytes and returned `Other`. If there was
-- no room for the whole write, it wrote no byte, and the error is the reason (`IsToldOnce`). A truncation or growth
-- wasn't made, and returned `Other`.
abbrev pub LeftInPart : Type 0 → (ErrorKind → Type 0) → ℕ → Change → Kept → ℕ → ErrorKind → Kept → Type 0
LeftInPart space no_room id (Wrote at bytes) old count error left =
    ((error ≡ Other) × space × IsFrontMade id at bytes count old left)
    ⊎ ((kind : ErrorKind) × no_room kind × IsToldOnce kind error old.disk × (left ≡ old))
LeftInPart space no_room id (ShortenedTo size) old count error left = Untouched old error left
LeftInPart space no_room id (GrewTo size) old count error left = Untouched old error left

-- How a call that is done whole or not at all failed: after a stop, for a wrong argument, because something armed was
-- due, or for lack of memory.
abbrev pub IsRefusedWhole : (Disk → Type 0) → List (ℕ × Change) → (ErrorKind → Type 0) → ErrorKind
    → MemoryFileSystem → MemoryFileSystem → Type 0
IsRefusedWhole done order wrong error old new =
    IsRefusedCall (LeftAtStop (armed old).after done order (kept old)) (λ count. Untouched (kept old)) wrong
    (λ e. e ≡ OutOfMemory) error old new

-- `error` says why there is no room for `change` of file `id`
abbrev pub NoRoomFor : ℕ → Change → MemoryFileSystem → ErrorKind → Type 0
NoRoomFor id change old error = HasNoRoom (armed old).spaces id change (disk_of old) error

-- there is enough free space for `change` of file `id`
abbrev pub HasSpaceFor : ℕ → Change → MemoryFileSystem → Type 0
HasSpaceFor id change old = HasSpace (armed old).spaces id change (disk_of old)

-- How a write, truncation or growth failed: after a stop, for a wrong argument, because something armed was due, or
-- because there was no room.
abbrev pub IsRefusedChange : ℕ → Change → (ErrorKind → Type 0) → ErrorKind
    → MemoryFileSystem → MemoryFileSystem → Type 0
IsRefusedChange id change wrong error old new =
    IsRefusedCall (MadeUnlessShort (HasSpaceFor id change old) (NoRoomFor id change old) id change (kept old))
    (LeftInPart (HasSpaceFor id change old) (NoRoomFor id change old) id change (kept old)) wrong
    (NoRoomFor id change old) error old new

-- How a call that didn't succeed ended. `done` is the result of the call's work. `kind_of` gives the kind of an error.
-- - `at_the_stop`: the file system stops at this call. The error is `Other` if the work was done, else the one of
--   `IsToldAtStop`.
-- - `not_made`: the file system doesn't stop. The work wasn't done, and a failure is counted as in `failed_once`.
pub data IsEnded {E : Type 0} (kind_of : E → ErrorKind) (stops : Bool) (done : Result (Unit {0}) E)
    (error : ErrorKind) (old new : Disk) : Type 0 where
  at_the_stop : stops ≡ true → MatchResult done (λ v. error ≡ Other) (λ e. IsToldAtStop (kind_of e) error)
      → new ≡ at_stop old → IsEnded kind_of stops done error old new
  not_made : stops ≡ false → MatchResult done (λ v. ⊥) (λ e. IsToldOnce (kind_of e) error old)
      → new ≡ failed_once error old → IsEnded kind_of stops done error old new

-- how a write, truncation or growth that didn't succeed ended
abbrev pub IsChangeEnded : Bool → Result (Unit {0}) ErrorKind → ErrorKind → Disk → Disk → Type 0
IsChangeEnded = IsEnded (λ kind. kind)

-- how a call that is done whole or not at all ended if it didn't succeed; its work fails only if memory runs out
abbrev pub IsCallEnded : Bool → Result (Unit {0}) AllocError → ErrorKind → Disk → Disk → Type 0
IsCallEnded = IsEnded (λ none. OutOfMemory)
