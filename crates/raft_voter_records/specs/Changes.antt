-- The batch that is written when a request changes a voter. If the voter's log changes, the batch has the new entries,
-- or a command that deletes old ones. Then comes the new state, unless the command deletes the whole group.
use Rattle.std.specs.Prelude.{◌≡◌, ℕ, ◌+◌, ◌≤◌, codes, List, drop}
use Rattle.raft_log_record_items.specs.declared.command.Command.TheVariants as commands
use Rattle.raft_log_record_items.specs.Items.{put_item}
use Rattle.raft_log_record_batches.specs.Batch.{Batch, empty_batch, with_item}
use Rattle.raft_log_record_batches.specs.Entries.{with_entries}
use Rattle.raft_log_record_batches.specs.EntriesFrom.{indexes_at}
use Rattle.raft_log_record_frames.specs.ItemBatch.{command_item}
use Rattle.raft_voter_messages.specs.declared.reply.VoterState.{VoterState}
use Rattle.raft_voter_messages.specs.declared.request.Request.{Request}
use Rattle.raft_voter_messages.specs.StoredForms.{state_text}
use Rattle.raft_voter_outline.specs.declared.outline.decision.Change.{Change}
use Rattle.raft_voter_outline.specs.declared.outline.decision.Write.{Write}
use Rattle.raft_voter_outline.specs.declared.outline.decision.Write.TheVariants.{StateAlone, Entries, CompactTo, Clean}
use Rattle.raft_voter_outline.specs.Outlines.{sent_of}
use Rattle.raft_voter_records.specs.Entries.{entry_texts}

-- the only key that a voter's group has: its value is the voter's state
abbrev pub voter_key : List ℕ
voter_key = codes "voter"

-- the batch with these entries of group `group` added, in the stored form of a voter's entries; the first has the
-- index `index`
abbrev pub with_stored : Batch → ℕ → ℕ → List (ℕ × List ℕ) → Batch
with_stored b group index entries =
    with_entries b group (indexes_at index (entry_texts index entries)) (entry_texts index entries)

-- The batch with the change of a group's log added, for a request that brought the entries `sent`. Added are the new
-- ones of these entries, a `Compact`, or a `Clean`. If only the state changes, nothing is added.
abbrev pub with_write : Batch → ℕ → Write → List (ℕ × List ℕ) → Batch
with_write b group StateAlone sent = b
with_write b group (Entries skipped index) sent = with_stored b group index (drop skipped sent)
with_write b group (CompactTo index) sent = with_item b (command_item group (commands.Compact (index + 1)))
with_write b group Clean sent = with_item b (command_item group commands.Clean)

-- The batch with the new state of group `group` added under the voter's key. A `Clean` deletes the whole group, so
-- nothing is added.
abbrev pub with_state : Batch → ℕ → Write → VoterState → Batch
with_state b group Clean state = b
with_state b group _ state = with_item b (put_item group voter_key (state_text state))

-- the batch with the change `c` added, which was decided for the request `q` of group `group`: first the log, then
-- the state
abbrev pub with_change : Batch → ℕ → Change → Request → Batch
with_change b group c q = with_state (with_write b group c.write (sent_of q)) group c.write c.state

-- the batch is in state `Filling`, and nothing was added to it
abbrev pub IsFresh : Batch → Type 0
IsFresh b = b ≡ empty_batch b.capacity b.buffer

-- `new` is in state `Filling`, and nothing was added to it; its capacity for items is at least that of `old`
abbrev pub StaysFresh : Batch → Batch → Type 0
StaysFresh old new = IsFresh new × (old.capacity ≤ new.capacity)
