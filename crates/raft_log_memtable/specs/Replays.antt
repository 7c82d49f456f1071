-- The table of a group in a replay. A run of entries is applied to it, or the table of a later segment is joined to it.
-- A segment is one file or several consecutive files that one worker reads.
use Rattle.std.specs.Prelude.{◌≡◌, ℕ, ◌-◌, ◌≤◌, ◌⊎◌, min, Bool, true, false, not, ◌&&◌, [], length, take, if◌then◌else◌, nat_lt}
use Rattle.raft_log_record_base.specs.declared.errors.Error.{Error}
use Rattle.raft_log_record_base.specs.declared.errors.Error.TheVariants as errors
use Rattle.raft_log_record_base.specs.declared.pipe_log.LogQueue.{LogQueue}
use Rattle.raft_log_record_base.specs.declared.pipe_log.LogQueue.TheVariants.{Append, Rewrite}
use Rattle.raft_log_model_laws.specs.Holes.{is_past}
use Rattle.raft_log_memtable_index.specs.Shown.{Shown, span}
use Rattle.raft_log_memtable_index.specs.Replayed.{LeavesHole, Replayed, left}
use Rattle.raft_log_memtable_index.specs.Keys.{keys_of, HasKeyRoomFor}
use Rattle.raft_log_memtable.specs.Table.{Raw}

-- whether the queue is Append
abbrev pub in_append : LogQueue → Bool
in_append Append = true
in_append Rewrite = false

-- What a run from index `f` on leaves of the table's entries: those below `f`. If there is a gap between the table's
-- entries and the run, the run leaves none.
abbrev pub under : Shown → ℕ → Shown
under v f =
    if is_past (span v) f then record v { first = f; places = []; rewritten = 0 }
    else record v {
      first = if nat_lt v.first f && nat_lt 0 (length v.places) then v.first else f;
      places = take (f - v.first) v.places;
      rewritten = min v.rewritten (f - v.first);
    }

-- The table's first index if nothing was read before it. It is unchanged if the table has entries or owes a Clean (a
-- tombstone), else 0.
abbrev pub begin_alone : Shown → ℕ
begin_alone v = if v.cleaned then v.first else (if nat_lt 0 (length v.places) then v.first else 0)

-- whether the entries of the later segment `z` are in Append, with a gap between them and the entries that `z` leaves
-- of `v`
abbrev pub leaves_hole : Shown → Replayed → Bool
leaves_hole v z =
    nat_lt 0 (length z.table.places)
    && (not (nat_lt 0 z.table.rewritten) && is_past (span (left v z.low z.high)) z.table.first)

-- Why the later segment `z` isn't joined to the table `v`. The error is `Hole` if and only if the segment's entries
-- leave a hole. Otherwise it is `Memory`.
abbrev pub MergeRefused : Shown → Replayed → Error → Type 0
MergeRefused v z error =
    ((error ≡ errors.Hole) × LeavesHole v z) ⊎ ((error ≡ errors.Memory) × (LeavesHole v z → ⊥))

-- table `t` has reserved places for all entries of `u`, and has a slot for each key that has one in `u`
abbrev pub HasTableRoom : Raw → Raw → Type 0
HasTableRoom t u = (length u.places.items ≤ t.places.wanted) × HasKeyRoomFor (keys_of t.keys) (keys_of u.keys)
