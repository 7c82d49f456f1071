-- What is written for a request takes little.
use Rattle.std.proofs.Common.{◌≡◌, ℕ, ◌+◌, ◌*◌, ◌≤◌, List, length, length-drop, drop, true, refl, ap, arith}
use Rattle.raft_log_record_items.specs.declared.command.Command.TheVariants as commands
use Rattle.raft_log_record_items.specs.Items.{put_item}
use Rattle.raft_log_record_frames.specs.Record.{record_len}
use Rattle.raft_log_record_frames.specs.ItemBatch.{command_item}
use Rattle.raft_log_record_batches.specs.Batch.{Batch, Becomes, empty_batch, with_item}
use Rattle.raft_log_record_batches.specs.EntriesFrom.{indexes_at}
use Rattle.raft_log_record_batches.specs.Bounds.{batch_bound}
use Rattle.raft_log_record_batches.proofs.Public.{additions_raise, no_record_is_longer}
use Rattle.raft_voter_messages.specs.declared.reply.VoterState.{VoterState}
use Rattle.raft_voter_messages.specs.declared.request.Request.{Request}
use Rattle.raft_voter_messages.specs.Ranges.{in_range, total_bytes}
use Rattle.raft_voter_messages.specs.StoredForms.{state_text}
use Rattle.raft_voter_messages.proofs.Public.{length-state_text}
use Rattle.raft_voter_outline.specs.declared.outline.decision.Change.{Change}
use Rattle.raft_voter_outline.specs.declared.outline.decision.Write.{Write}
use Rattle.raft_voter_outline.specs.declared.outline.decision.Write.TheVariants as writes
use Rattle.raft_voter_outline.specs.Outlines.{sent_of}
use Rattle.raft_voter_records.specs.Changes.{IsFresh, voter_key, with_change, with_state, with_stored, with_write}
use Rattle.raft_voter_records.specs.Entries.{entry_texts}
use Rattle.raft_voter_records.proofs.BoundLemmas.{brought_small, bytes_len-entry_texts, length-entry_texts, total_bytes-drop}
use Rattle.raft_voter_records.specs.BoundsLaws.{RequestsTakeLittle, request_bound}

-- a voter's state raises the bound by 79 bytes
state_raises : (b : Batch) (g : ℕ) (s : VoterState) → batch_bound (with_item b (put_item g voter_key (state_text s))) ≡ batch_bound b + 79
state_raises b g s =
    let five : length voter_key ≡ 5 = refl in
    let put = additions_raise.put b (with_item b (put_item g voter_key (state_text s))) g voter_key (state_text s) (refl, omega arith) in
    omega (arith, put, five, length-state_text s)

-- its entries by 32, and 27 for each, and their bytes
entries_raise : (b : Batch) (g index : ℕ) (es : List (ℕ × List ℕ)) → batch_bound (with_stored b g index es) ≤ batch_bound b + 32 + 27 * length es + total_bytes es
entries_raise b g index es =
    let texts : List (List ℕ) = entry_texts index es in
    let added = additions_raise.entries b (with_stored b g index es) g (indexes_at index texts) texts (refl, omega arith) in
    omega (arith, added, length-entry_texts index es, bytes_len-entry_texts index es)

-- what is done to a log, and the new state
change_raises : (b : Batch) (g : ℕ) (w : Write) (s : VoterState) (sent : List (ℕ × List ℕ))
    → batch_bound (with_state (with_write b g w sent) g w s) ≤ batch_bound b + 111 + 27 * length sent + total_bytes sent
change_raises b g writes.StateAlone s sent = omega (arith, state_raises b g s)
change_raises b g (writes.Entries skipped index) s sent =
    omega (
      arith,
      state_raises (with_stored b g index (drop skipped sent)) g s,
      entries_raise b g index (drop skipped sent),
      length-drop skipped sent,
      total_bytes-drop skipped sent,
    )
change_raises b g (writes.CompactTo index) s sent =
    let gone : Batch = with_item b (command_item g (commands.Compact (index + 1))) in
    omega (arith, state_raises gone g s, additions_raise.command b gone g (commands.Compact (index + 1)) (refl, omega arith))
change_raises b g writes.Clean s sent =
    let all : Batch = with_item b (command_item g commands.Clean) in
    omega (arith, additions_raise.command b all g commands.Clean (refl, omega arith))

request_takes : (old new : Batch) (g : ℕ) (c : Change) (q : Request) → IsFresh old → Becomes (with_change old g c q) new → record_len new.items new.entries ≤ request_bound q
request_takes old new g c q fresh becomes =
    let none : batch_bound old ≡ batch_bound (empty_batch old.capacity old.buffer) = ap (λ (b : Batch). batch_bound b) fresh in
    let whole : batch_bound new ≡ batch_bound (with_change old g c q) = ap (λ (b : Batch). batch_bound b) becomes.0 in
    omega (arith, no_record_is_longer new.items new.entries, whole, change_raises old g c.write c.state (sent_of q), none, additions_raise.nothing old.capacity old.buffer)

range_takes : (q : Request) → in_range q ≡ true → request_bound q ≤ 1076369
range_takes q fits = let small = brought_small q fits in omega (arith, small.0, small.1)

pub requests_take_little : RequestsTakeLittle
requests_take_little = record { each = request_takes; most = range_takes }
