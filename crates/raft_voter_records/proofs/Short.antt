-- The record of a change is short.
use Rattle.std.proofs.Common.{◌≡◌, ℕ, zero, suc, ◌+◌, ◌*◌, ◌/◌, ◌%◌, ◌<◌, ◌≤◌, ◌^◌, ◌++◌, ◌∙◌, nat_lt, true, false, if◌then◌else◌, List, [], ◌∷◌, flat_map, length, drop, sum_by, length-drop, length-append, append-nil, refl, sym, ap, subst, arith}
use Rattle.std.proofs.lemmas.List.Sums.{sum_by-cons}
use Rattle.raft_log_record_checksum.specs.Checksum.{crc32_of}
use Rattle.raft_log_record_base.specs.Number.{u32_le_bytes, var_bytes_within, var_u64_bytes}
use Rattle.raft_log_record_items.specs.declared.command.Command.{Command}
use Rattle.raft_log_record_items.specs.declared.command.Command.TheVariants as commands
use Rattle.raft_log_record_items.specs.declared.entry.EntryIndex.{EntryIndex}
use Rattle.raft_log_record_items.specs.declared.item.LogItem.{LogItem}
use Rattle.raft_log_record_items.specs.declared.item.LogItemContent.TheVariants as contents
use Rattle.raft_log_record_items.specs.Items.{put_item, put_of}
use Rattle.raft_log_record_items.specs.Placed.{laid_run}
use Rattle.raft_log_record_items.specs.Writing.{bytes_bytes, command_bytes, content_bytes, entries_bytes, item_bytes, items_bytes, key_value_bytes, lengths_bytes, operation_bytes}
use Rattle.raft_log_record_frames.specs.Record.{block_bytes, record_len}
use Rattle.raft_log_record_frames.proofs.Public.{four_bytes}
use Rattle.raft_log_record_batches.specs.Batch.{Batch, empty_batch}
use Rattle.raft_log_record_batches.specs.Entries.{entries_item, entries_of, joined, with_entries}
use Rattle.raft_log_record_frames.specs.ItemBatch.{command_item}
use Rattle.raft_log_record_batches.proofs.Public.{joined-length, length-entries_of, length-indexes_from}
use Rattle.raft_voter_messages.specs.declared.reply.VoterState.{VoterState}
use Rattle.raft_voter_messages.specs.declared.request.Request.{Request}
use Rattle.raft_voter_messages.specs.Ranges.{total_bytes}
use Rattle.raft_voter_messages.specs.StoredForms.{state_text}
use Rattle.raft_voter_messages.proofs.Public.{length-state_text}
use Rattle.raft_voter_outline.specs.declared.outline.decision.Change.{Change}
use Rattle.raft_voter_outline.specs.declared.outline.decision.Write.{Write}
use Rattle.raft_voter_outline.specs.declared.outline.decision.Write.TheVariants as writes
use Rattle.raft_voter_outline.specs.Outlines.{IsChangeOf, sent_of}
use Rattle.raft_voter_outline.specs.State.{State}
use Rattle.raft_voter_records.specs.Changes.{IsFresh, voter_key, with_change, with_state}
use Rattle.raft_log_record_batches.specs.EntriesFrom.{indexes_at}
use Rattle.raft_voter_records.specs.Entries.{entry_texts}
use Rattle.raft_voter_records.proofs.BoundLemmas.{brought_small, bytes_len-entry_texts, changes_in_range, length-entry_texts, total_bytes-drop}
use Rattle.raft_voter_records.specs.EncodingLaws.{ChangesAreShort}
use Rattle.raft_voter_records.proofs.EncodingSaying.{filled}

-- Numbers.

var_within : (k n : ℕ) → length (var_bytes_within k n) ≤ k + 1
unfolding var_bytes_within
var_within zero n = omega arith
var_within (suc k) n =
    elim (nat_lt n 128) as (λ b. length (if b then n ∷ [] else (n % 128 + 128) ∷ var_bytes_within k (n / 128)) ≤ suc k + 1)
    [ true ↦ omega arith | false ↦ omega (arith, var_within k (n / 128)) ]

var_short : (n : ℕ) → length (var_u64_bytes n) ≤ 10
unfolding var_u64_bytes
var_short n = var_within 9 n

bytes_short : (xs : List ℕ) → length (bytes_bytes xs) ≤ 10 + length xs
unfolding bytes_bytes
bytes_short xs = omega (arith, length-append (var_u64_bytes (length xs)) xs, var_short (length xs))

-- Contents.

lengths_short : (es : List EntryIndex) → length (lengths_bytes es) ≤ 10 * length es
lengths_short [] = omega arith
lengths_short (e ∷ es) = omega (arith, length-append (var_u64_bytes e.entry_len) (lengths_bytes es), var_short e.entry_len, lengths_short es)

entries_short : (es : List EntryIndex) → length (entries_bytes es) ≤ 20 + 10 * length es
unfolding entries_bytes
entries_short [] = omega (arith, var_short 0)
entries_short (e ∷ es) =
    let count : List ℕ = var_u64_bytes (length (e ∷ es)) in
    let first : List ℕ = var_u64_bytes e.index in
    let rest : List ℕ = lengths_bytes (e ∷ es) in
    omega (arith, length-append (count ++ first) rest, length-append count first, var_short (length (e ∷ es)), var_short e.index, lengths_short (e ∷ es))

pub run_short : (es : List EntryIndex) → length (content_bytes (contents.EntryIndexes es)) ≤ 21 + 10 * length es
unfolding content_bytes
run_short es = omega (arith, entries_short es)

command_short : (c : Command) → length (content_bytes (contents.Command c)) ≤ 12
unfolding content_bytes command_bytes
command_short commands.Clean = omega arith
command_short (commands.Compact index) = omega (arith, var_short index)

pub put_short : (key value : List ℕ) → length (content_bytes (contents.Kv (put_of key value))) ≤ 22 + length key + length value
unfolding content_bytes key_value_bytes operation_bytes
put_short key value = omega (arith, length-append (1 ∷ bytes_bytes key) (bytes_bytes value), bytes_short key, bytes_short value)

-- Items.

item_short : (x : LogItem) → length (item_bytes x) ≤ 10 + length (content_bytes x.content)
unfolding item_bytes
item_short x = omega (arith, length-append (var_u64_bytes x.raft_group_id) (content_bytes x.content), var_short x.raft_group_id)

-- for so many bytes of an item there is to be room
abbrev pub item_room : LogItem → ℕ
item_room x = 10 + length (content_bytes x.content)

each_short : (xs : List LogItem) → length (flat_map item_bytes xs) ≤ sum_by item_room xs
each_short [] = omega arith
each_short (x ∷ xs) = omega (arith, length-append (item_bytes x) (flat_map item_bytes xs), item_short x, each_short xs, sum_by-cons item_room x xs)

pub items_short : (xs : List LogItem) → length (items_bytes xs) ≤ 10 + sum_by item_room xs
unfolding items_bytes
items_short xs = omega (arith, length-append (var_u64_bytes (length xs)) (flat_map item_bytes xs), var_short (length xs), each_short xs)

one_short : (x : LogItem) → length (items_bytes (x ∷ [])) ≤ 20 + length (content_bytes x.content)
unfolding items_bytes
one_short x =
    let count : List ℕ = var_u64_bytes (length (x ∷ [])) in
    let own = ap (λ (l : List ℕ). length l) (append-nil (item_bytes x)) in
    omega (arith, length-append count (item_bytes x ++ []), own, var_short (length (x ∷ [])), item_short x)

two_short : (x y : LogItem) → length (items_bytes (x ∷ y ∷ [])) ≤ 30 + length (content_bytes x.content) + length (content_bytes y.content)
unfolding items_bytes
two_short x y =
    let count : List ℕ = var_u64_bytes (length (x ∷ y ∷ [])) in
    let own = ap (λ (l : List ℕ). length l) (append-nil (item_bytes y)) in
    omega (arith, length-append count (item_bytes x ++ (item_bytes y ++ [])), length-append (item_bytes x) (item_bytes y ++ []), own, var_short (length (x ∷ y ∷ [])), item_short x, item_short y)

pub block_short : (bytes : List ℕ) → length (block_bytes bytes) ≤ length bytes + 4
unfolding block_bytes
block_short [] = omega arith
block_short (b ∷ bs) = omega (arith, length-append (b ∷ bs) (u32_le_bytes (crc32_of (b ∷ bs))), four_bytes (crc32_of (b ∷ bs)))

-- Records.

-- less than two mebibytes
abbrev pub IsShort : Batch → Type 0
IsShort b = record_len b.items b.entries < 2 ^ 21

state_short : (g : ℕ) (s : VoterState) → length (content_bytes (put_item g voter_key (state_text s)).content) ≤ 69
state_short g s =
    let put = put_short voter_key (state_text s) in
    let five : length voter_key ≡ 5 = refl in
    omega (arith, put, five, length-state_text s)

pub length-laid_run : (offset : ℕ) (es : List EntryIndex) → length (laid_run offset es) ≡ length es
length-laid_run offset [] = refl
length-laid_run offset (e ∷ es) = ap (λ (n : ℕ). suc n) (length-laid_run (offset + e.entry_len) es)

entries_record : (g n k index : ℕ) (s : VoterState) (es : List (ℕ × List ℕ)) → length es ≤ 1024 → total_bytes es ≤ 1048576
    → IsShort (with_state (with_entries (empty_batch n k) g (indexes_at index (entry_texts index es)) (entry_texts index es)) g writes.StateAlone s)
entries_record g n k index s [] few little =
    let state : LogItem = put_item g voter_key (state_text s) in
    omega (arith, block_short [], one_short state, state_short g s)
entries_record g n k index s (e ∷ es) few little =
    let texts : List (List ℕ) = entry_texts index (e ∷ es) in
    let run : List EntryIndex = laid_run 0 (entries_of (indexes_at index texts) texts) in
    let entries : LogItem = entries_item g 0 (indexes_at index texts) texts in
    let state : LogItem = put_item g voter_key (state_text s) in
    let indexes = length-indexes_from index (length texts) in
    let count : length run ≡ length (e ∷ es) =
    length-laid_run 0 (entries_of (indexes_at index texts) texts) ∙ length-entries_of (indexes_at index texts) texts indexes ∙ indexes ∙ length-entry_texts index (e ∷ es) in
    let bytes : length (joined texts) ≡ 17 * length (e ∷ es) + total_bytes (e ∷ es) = joined-length texts ∙ bytes_len-entry_texts index (e ∷ es) in
    let content : length (content_bytes entries.content) ≤ 21 + 10 * length run = run_short run in
    omega (arith, block_short (joined texts), two_short entries state, content, state_short g s, count, bytes, few, little)

write_short : (g n k : ℕ) (w : Write) (s : VoterState) (sent : List (ℕ × List ℕ)) → length sent ≤ 1024 → total_bytes sent ≤ 1048576 → IsShort (filled n k g w s sent)
write_short g n k writes.StateAlone s sent few little =
    let state : LogItem = put_item g voter_key (state_text s) in
    omega (arith, block_short [], one_short state, state_short g s)
write_short g n k (writes.Entries skipped index) s sent few little =
    entries_record g n k index s (drop skipped sent) (omega (arith, few, length-drop skipped sent)) (omega (arith, little, total_bytes-drop skipped sent))
write_short g n k (writes.CompactTo index) s sent few little =
    let gone : LogItem = command_item g (commands.Compact (index + 1)) in
    let state : LogItem = put_item g voter_key (state_text s) in
    omega (arith, block_short [], two_short gone state, command_short (commands.Compact (index + 1)), state_short g s)
write_short g n k writes.Clean s sent few little =
    let all : LogItem = command_item g commands.Clean in
    omega (arith, block_short [], one_short all, command_short commands.Clean)

-- The law.

fresh_short : (old : Batch) (g : ℕ) (c : Change) (q : Request) (v : State) → IsFresh old → IsChangeOf v q c → IsShort (with_change old g c q)
fresh_short old g c q v fresh h =
    let small = brought_small q (changes_in_range v q h.moves) in
    subst (λ (b : Batch). IsShort (with_change b g c q)) (sym fresh) (write_short g old.capacity old.buffer c.write c.state (sent_of q) small.0 small.1)

pub changes_are_short : ChangesAreShort
changes_are_short old new g c q v fresh h becomes =
    let wanted : Batch = with_change old g c q in
    let items : new.items ≡ wanted.items = ap (λ (b : Batch). b.items) becomes.0 in
    let entries : new.entries ≡ wanted.entries = ap (λ (b : Batch). b.entries) becomes.0 in
    subst (λ (xs : List LogItem). record_len xs new.entries < 2 ^ 21) (sym items)
    (subst (λ (bytes : List ℕ). record_len wanted.items bytes < 2 ^ 21) (sym entries) (fresh_short old g c q v fresh h))
