-- The summary of a segment's items of one raft group: a table of what they leave, and what they delete of earlier
-- items.
use Rattle.std.specs.Prelude.{ℕ, ◌≡◌, ◌<◌, max, Bool, true, false, ◌&&◌, ◌||◌, not, List, [], ◌∷◌, Option, Some, None, option_map, if◌then◌else◌, nat_le, nat_lt, bytes_eq, length}
use Rattle.std.specs.Option.{option_or}
use Rattle.raft_log_model_laws.specs.Item.{Item}
use Rattle.raft_log_model_laws.specs.Item.Item.{Run, Clean, Compact, Put, Del}
use Rattle.raft_log_model_laws.specs.Meaning.{Slot, Content, says}
use Rattle.raft_log_model_laws.specs.Meaning.Slot.{Index, Key}
use Rattle.raft_log_model_laws.specs.Meaning.Content.{Value}
use Rattle.raft_log_model_laws.specs.Holes.{least, is_below, is_past}
use Rattle.raft_log_model_laws.specs.Table.{Table, content, span_of, no_table, compacted, cut_from, run_onto, put, delete}
use Rattle.raft_log_model_laws.specs.Fragments.{Bracketing}
use Rattle.raft_log_model_laws.specs.Fragments.Bracketing.{One, Both}

-- A table of what the items leave, and what they delete of earlier ones:
-- - `cleaned`: they have a Clean.
-- - `low`, `high`: the greatest index of a Compact, or 0, and the lowest start of a run with entries.
-- - `deleted`: they have a Del of this key.
pub record Summary (E V : Type 0) : Type 0 where
  pub table : Table E V
  pub cleaned : Bool
  pub low : ℕ
  pub high : Option ℕ
  pub deleted : List ℕ → Bool

-- the summary of an empty list of items
abbrev pub no_summary : {E V : Type 0} → Summary E V
no_summary = record { table = no_table; cleaned = false; low = 0; high = None; deleted = λ k. false }

-- the summary after one more item, which must not be a run that starts past the end of the table's entries
abbrev pub step : {E V : Type 0} → Summary E V → Item E V → Summary E V
step z (Run f []) = z
step z (Run f (e ∷ es)) = record z { table = run_onto z.table f (e ∷ es); high = Some (least f z.high) }
step z Clean = record z { table = no_table; cleaned = true }
step z (Compact c) = record z { table = compacted z.table c; low = max c z.low }
step z (Put k v) = record z { table = put z.table k v }
step z (Del k) = record z { table = delete z.table k; deleted = λ j. bytes_eq k j || z.deleted j }

-- the summary after more items
abbrev pub summary_after : {E V : Type 0} → Summary E V → List (Item E V) → Summary E V
summary_after z [] = z
summary_after z (x ∷ xs) = summary_after (step z x) xs

-- the summary of these items
abbrev pub summary : {E V : Type 0} → List (Item E V) → Summary E V
summary xs = summary_after no_summary xs

-- the summarized items don't touch index `i`
abbrev pub is_left : {E V : Type 0} → Summary E V → ℕ → Bool
is_left z i = not z.cleaned && (nat_le z.low i && is_below i z.high)

-- what the summarized items do to the slot; `None` if they don't touch it
abbrev pub word : {E V : Type 0} → Summary E V → Slot → Option (Option (Content E V))
word z (Index i) = if is_left z i then None else Some (content z.table (Index i))
word z (Key k) =
    option_or (option_map (λ v. Some (Value v)) (z.table.values k))
    (if z.cleaned || z.deleted k then Some None else None)

-- the values of keys after both: `t` is the table of earlier items, and `z` the summary of the items after them
abbrev pub values_over : {E V : Type 0} → Table E V → Summary E V → List ℕ → Option V
values_over t z k = option_or (z.table.values k) (if z.cleaned || z.deleted k then None else t.values k)

-- The entries after both, as a table: `t` is the table of earlier items, and `z` the summary of the items after them.
-- The values in this table don't count.
abbrev pub entries_over : {E V : Type 0} → Table E V → Summary E V → Table E V
entries_over t z =
    if z.cleaned then z.table
    else (if nat_lt 0 (length z.table.entries)
    then run_onto (cut_from (compacted t z.low) z.high) z.table.first z.table.entries
    else cut_from (compacted t z.low) z.high)

-- the lower of two bounds, where `None` is no bound
abbrev pub lesser : Option ℕ → Option ℕ → Option ℕ
lesser None b = b
lesser (Some h) b = Some (least h b)

-- the summary of the items of `a`, followed by those of `z`
abbrev pub join : {E V : Type 0} → Summary E V → Summary E V → Summary E V
join a z = record {
  table = record {
    first = (entries_over a.table z).first;
    entries = (entries_over a.table z).entries;
    values = values_over a.table z;
  };
  cleaned = a.cleaned || z.cleaned;
  low = max z.low a.low;
  high = lesser z.high a.high;
  deleted = λ k. z.deleted k || a.deleted k;
}

-- the summary of these segments: each is summarized on its own, and the summaries are joined as the tree says
abbrev pub join_all : {E V : Type 0} → Bracketing (Item E V) → Summary E V
join_all (One xs) = summary xs
join_all (Both s t) = join (join_all s) (join_all t)

-- if the summary's table has entries, the summary has a `high`, and the first entry's index isn't below it
abbrev pub IsSummarySound : {E V : Type 0} → Summary E V → Type 0
IsSummarySound z = 0 < length z.table.entries → is_below z.table.first z.high ≡ false

-- `z` is a summary of the items `xs`, however it was made: it is sound (`IsSummarySound`), and does to each slot what
-- the items do
pub record IsSummary {E V : Type 0} (z : Summary E V) (xs : List (Item E V)) : Type 0 where
  pub sound : IsSummarySound z
  pub says : (s : Slot) → word z s ≡ says s xs

-- A directory's entries, from Rewrite's table `t` and the summary `z` of Append's items. If Append's entries start past
-- the end of what is left of Rewrite's, only Append's count.
abbrev pub directory_entries : {E V : Type 0} → Table E V → Summary E V → Table E V
directory_entries t z =
    if z.cleaned then z.table
    else (if nat_lt 0 (length z.table.entries)
    then (if is_past (span_of (cut_from (compacted t z.low) z.high)) z.table.first
    then z.table
    else run_onto (cut_from (compacted t z.low) z.high) z.table.first z.table.entries)
    else cut_from (compacted t z.low) z.high)

-- the table of a directory, from Rewrite's table and the summary of Append's items
abbrev pub directory_table : {E V : Type 0} → Table E V → Summary E V → Table E V
directory_table t z = record {
  first = (directory_entries t z).first;
  entries = (directory_entries t z).entries;
  values = values_over t z;
}
