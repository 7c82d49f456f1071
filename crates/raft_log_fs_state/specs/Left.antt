-- What a crash leaves of the unsynced changes. A test chooses this by a `Remainder`. Below, `old` is a file's content
-- before a change, or before several.
use Rattle.std.specs.Prelude.{ℕ, false, cond, List, [], ◌∷◌, Option, Some, None, length, suc, slice_get}
use Rattle.std.specs.Option.{option_map}
use Rattle.std.proofs.Common.{take, nat_eq, nat_lt}
use Rattle.raft_log_fs.specs.Disk.{Wrote, ShortenedTo, GrewTo, File, Disk, overwritten, changed, at_rest}
use Rattle.raft_log_fs.specs.Disk as disk
use Rattle.raft_log_fs_state.specs.declared.remainder.Remainder.{Remainder}
use Rattle.raft_log_fs_state.specs.declared.remainder.Remainder.TheVariants.{LastSync, AllWritten, First, Pieces}
use Rattle.raft_log_fs_state.specs.declared.remainder.Piece.{Piece}
use Rattle.raft_log_fs_state.specs.declared.remainder.Piece.TheVariants.{Keep, Lose, Bytes}

-- `old` with what a crash left of a change: the first `count` bytes of a write, nothing of a truncation or growth
abbrev pub left_front : ℕ → disk.Change → List ℕ → List ℕ
left_front count (Wrote at bytes) old = overwritten at (take count bytes) old
left_front count (ShortenedTo size) old = old
left_front count (GrewTo size) old = old

-- `old` with what a crash left of a change. A write left the bytes `other` instead of its own, but at most as many. A
-- truncation or growth was left whole.
abbrev pub left_as : List ℕ → disk.Change → List ℕ → List ℕ
left_as other (Wrote at bytes) old = overwritten at (take (length bytes) other) old
left_as other (ShortenedTo size) old = changed (ShortenedTo size) old
left_as other (GrewTo size) old = changed (GrewTo size) old

-- `old` with what the chosen piece keeps of `change`; without a piece, because the list of pieces is too short, the
-- change is lost
abbrev pub left_as_said : Option Piece → disk.Change → List ℕ → List ℕ
left_as_said None change old = old
left_as_said (Some Keep) change old = changed change old
left_as_said (Some Lose) change old = old
left_as_said (Some (Bytes other)) change old = left_as other.items change old

-- `old` with what a crash left of a change. `what` chooses this by the change's position `place` among the unsynced
-- changes of all files, in the order of the calls.
abbrev pub left_by : Remainder → ℕ → disk.Change → List ℕ → List ℕ
left_by LastSync place change old = old
left_by AllWritten place change old = changed change old
left_by (First pieces bytes) place change old =
    cond (nat_lt place pieces) (changed change old)
    (cond (nat_eq place pieces) (left_front bytes change old) old)
left_by (Pieces list) place change old = left_as_said (slice_get list.items place) change old

-- The content of file `id` after the crash: `old` with what is kept of the file's changes in this list. The list has
-- the changes of all files in the order of the calls, and `place` is the position of its first one.
abbrev pub left_of : Remainder → ℕ → ℕ → List (ℕ × disk.Change) → List ℕ → List ℕ
left_of what place id [] old = old
left_of what place id (u ∷ us) old =
    left_of what (suc place) id us (cond (nat_eq u.0 id) (left_by what place u.1 old) old)

-- File `id` as the restart finds it: the synced bytes with what the crash keeps of the unsynced changes. All its bytes
-- now count as synced.
abbrev pub left_file : Remainder → List (ℕ × disk.Change) → ℕ → File → File
left_file what unsynced id file = at_rest (left_of what 0 id unsynced file.synced)

-- The disk that a crash leaves. Names are unchanged, and each file has what the crash leaves of it. No byte is
-- unreadable, the file system runs, and no failure is counted.
abbrev pub left_disk : Remainder → List (ℕ × disk.Change) → Disk → Disk
left_disk what unsynced d = record d {
  files = λ id. option_map (left_file what unsynced id) (d.files id);
  unreadable = λ id place. false;
  stopped = false;
  failures = 0;
  kinds = [];
}
