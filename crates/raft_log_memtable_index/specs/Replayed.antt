-- What a replay of one segment keeps of a group, and how the results of two segments are combined. A segment here is
-- one file or several consecutive files of a queue that one worker reads.
use Rattle.std.specs.Prelude.{◌≡◌, ℕ, ◌+◌, ◌-◌, ◌<◌, min, max, Bool, true, false, ◌&&◌, ◌||◌, List, [], ◌∷◌, ◌++◌, map, length, take, drop, Option, Some, None, if◌then◌else◌, nat_lt}
use Rattle.std.specs.Option.{option_or}
use Rattle.raft_log_model_laws.specs.Item.{Item}
use Rattle.raft_log_model_laws.specs.Item.Item.{Run, Clean, Compact, Put, Del}
use Rattle.raft_log_model_laws.specs.Holes.{is_past, least}
use Rattle.raft_log_model_laws.specs.Table.{Table}
use Rattle.raft_log_model_laws.specs.Summary.{Summary, lesser, IsSummary}
use Rattle.raft_log_machine_laws.specs.Recovery.{HasMarks}
use Rattle.raft_log_extents.specs.declared.place.Place.{Place}
use Rattle.raft_log_memtable_index.specs.declared.group_files.GroupFiles.{GroupFiles}
use Rattle.raft_log_memtable_index.specs.Shown.{IsOrderly, KeyValue, Shown, nothing_shown, span, whereabouts, with_clean, with_compact, with_del, with_held, with_run}
use Rattle.raft_log_memtable_index.specs.Bridge.{Located, in_queue, located, unmarked}

-- The result of replaying items of a group: `table` is the table that these items make. `low` and `high` say which
-- entries of an earlier segment the items leave, if none of them is a Clean: those from index `low` on, and below
-- `high` if there is one. `low` is the greatest index of a Compact, and `high` the least start of a run.
pub record Replayed : Type 0 where
  pub table : Shown
  pub low : ℕ
  pub high : Option ℕ

-- the result if no item was read
abbrev pub nothing_replayed : Replayed
nothing_replayed = record { table = nothing_shown; low = 0; high = None }

-- The table after a run from index `f` on, whose first `count` entries are in Rewrite. The run replaces all entries
-- from `f` on. If `f` is past the end of the entries, so that a hole would remain, the run replaces all entries.
abbrev pub run_over : Shown → ℕ → List Place → ℕ → Shown
run_over v f ps count =
    if is_past (span v) f then record v { first = f; places = ps; rewritten = count }
    else record v {
      first = if nat_lt v.first f && nat_lt 0 (length v.places) then v.first else f;
      places = take (f - v.first) v.places ++ ps;
      rewritten = min v.rewritten (f - v.first) + count;
    }

-- the table after an item was read in file `n`, of Append if `q` is true, else of Rewrite
abbrev pub replay_step : Bool → ℕ → Shown → Item Place (List ℕ) → Shown
replay_step q n v (Run f []) = v
replay_step q n v (Run f (p ∷ ps)) =
    if q then with_run v f (p ∷ ps) else run_over v f (p ∷ ps) (length (p ∷ ps))
replay_step q n v Clean = with_clean v
replay_step q n v (Compact c) = with_compact v c
replay_step q n v (Put k w) =
    record v { held = with_held v.held k (Some (record { bytes = w; appended = q; file = n })) }
replay_step q n v (Del k) = with_del v k

-- the greatest index of a Compact, after one more item
abbrev pub low_with : {E V : Type 0} → Item E V → ℕ → ℕ
low_with (Compact c) low = max c low
low_with _ low = low

-- the least start of a run, after one more item
abbrev pub high_with : {E V : Type 0} → Item E V → Option ℕ → Option ℕ
high_with (Run f []) high = high
high_with (Run f (e ∷ es)) high = Some (least f high)
high_with _ high = high

-- the result after one more item was read in file `n`, of Append if `q` is true, else of Rewrite
abbrev pub replayed : Bool → ℕ → Replayed → Item Place (List ℕ) → Replayed
replayed q n z x = record {
  table = replay_step q n z.table x;
  low = low_with x z.low;
  high = high_with x z.high;
}

-- the table with only its entries below the given index, or with all if no index is given
abbrev pub below : Shown → Option ℕ → Shown
below v None = v
below v (Some h) =
    record v { places = take (h - v.first) v.places; rewritten = min v.rewritten (h - v.first) }

-- the table with only its entries from `low` on, below `high` if there is one
abbrev pub left : Shown → ℕ → Option ℕ → Shown
left v low high =
    below
    (record v {
      first = v.first + min (low - v.first) (length v.places);
      places = drop (low - v.first) v.places;
      rewritten = v.rewritten - (low - v.first);
    })
    high

-- the table's entries after a later segment without a Clean: those that the segment leaves, then its own
abbrev pub with_entries : Shown → Replayed → Shown
with_entries v z =
    if nat_lt 0 (length z.table.places)
    then run_over (left v z.low z.high) z.table.first z.table.places z.table.rewritten
    else left v z.low z.high

-- the least range of files that covers both
abbrev pub both_noted : Option GroupFiles → Option GroupFiles → Option GroupFiles
both_noted None new = new
both_noted (Some old) None = Some old
both_noted (Some old) (Some new) = Some (record { from = min old.from new.from; to = max old.to new.to })

-- The table after a later segment without a Clean. Later entries and keys take precedence, and the tombstones of both
-- are owed.
abbrev pub with_newer : Shown → Replayed → Shown
with_newer v z = record (with_entries v z) {
  held = λ k. option_or (z.table.held k) (if z.table.deleted k then None else v.held k);
  deleted = λ k. z.table.deleted k || v.deleted k;
  cleaned = v.cleaned;
  compacted = z.table.compacted || v.compacted;
  noted = both_noted v.noted z.table.noted;
}

-- The result of two segments, one after the other. If the later segment has a Clean, the result is that of the later
-- segment alone.
abbrev pub joined : Replayed → Replayed → Replayed
joined a z =
    if z.table.cleaned then z
    else record { table = with_newer a.table z; low = max z.low a.low; high = lesser z.high a.high }

-- The table that was read from Rewrite, with the result of Append applied. The tombstones of Rewrite's table are no
-- longer owed, since they were read from Rewrite itself. If Append has a Clean, only Append's table is left.
abbrev pub merged : Shown → Replayed → Shown
merged v z = if z.table.cleaned then z.table else with_newer (unmarked v) z

-- The later segment has no Clean, but it has entries, all in Append. They begin past the end of the entries of `v` that
-- this segment leaves.
abbrev pub LeavesHole : Shown → Replayed → Type 0
LeavesHole v z =
    (z.table.cleaned ≡ false) × (0 < length z.table.places) × (z.table.rewritten ≡ 0)
    × (is_past (span (left v z.low z.high)) z.table.first ≡ true)

-- the item as it was read in file `n`, of Append if `q` is true, else of Rewrite: places with their queue, values
-- with queue and file
abbrev pub placed : Bool → ℕ → Item Place (List ℕ) → Item Located KeyValue
placed q n (Run f ps) = Run f (map (in_queue q) ps)
placed q n Clean = Clean
placed q n (Compact c) = Compact c
placed q n (Put k w) = Put k (record { bytes = w; appended = q; file = n })
placed q n (Del k) = Del k

-- the item with the bytes of its entries, which `at` gives for each place, and of its value
abbrev pub told : {E : Type 0} → (Located → E) → Item Located KeyValue → Item E (List ℕ)
told at (Run f ps) = Run f (map at ps)
told at Clean = Clean
told at (Compact c) = Compact c
told at (Put k h) = Put k h.bytes
told at (Del k) = Del k

-- the table in the form of the log model: its entries are places with their queue, its values have their files
abbrev pub standing : Shown → Table Located KeyValue
standing v = record { first = v.first; entries = located v.rewritten v.places; values = v.held }

-- the result of a replay in the form of the log model
abbrev pub summary_of : Replayed → Summary Located KeyValue
summary_of z = record {
  table = standing z.table;
  cleaned = z.table.cleaned;
  low = z.low;
  high = z.high;
  deleted = z.table.deleted;
}

-- all entries and values of the table are in Append if `q` is true, else in Rewrite
pub record AllStandsIn (q : Bool) (v : Shown) : Type 0 where
  pub entries : v.rewritten ≡ (if q then 0 else length v.places)
  pub values : (k : List ℕ) (h : KeyValue) → v.held k ≡ Some h → h.appended ≡ q

-- `z` is the result of replaying the items `xs`, of Append if `q` is true, else of Rewrite. In each slot (an index or a
-- key), the table of `z` has what the items put into this slot. It owes the items' tombstones.
pub record IsReplayed (q : Bool) (xs : List (Item Located KeyValue)) (z : Replayed) : Type 0 where
  pub summary : IsSummary (summary_of z) xs
  pub marks : HasMarks xs (whereabouts z.table)
  pub queue : AllStandsIn q z.table
  pub orderly : IsOrderly z.table
