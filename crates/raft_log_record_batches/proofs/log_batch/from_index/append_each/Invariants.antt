use Rattle.std.proofs.Common.{◌≡◌, ◌≤◌, ◌++◌, length, take, vec_capacity}
use Rattle.raft_log_record_batches.specs.Entries.{joined}
use Rattle.raft_log_record_batches.proofs.EntriesFrom.{entries_to}
use Rattle.raft_log_record_batches.proofs.log_batch.from_index.append_each.Given as goal

-- the entries so far stand behind what was there, with their indexes and lengths, and there is room for all
abbrev pub invariant-loop-place : goal.invariant-loop-place
invariant-loop-place g l = (l.out.items ≡ l.fn.out.items ++ joined (take l.place (g.E.EntryWriter.texts l.entries)))
    × (l.placed.items ≡ entries_to l.first (g.E.EntryWriter.texts l.entries) l.place)
    × (length l.placed.items ≡ l.place)
    × (vec_capacity l.placed ≡ length (g.E.EntryWriter.texts l.entries))
    × (length l.out.items ≤ l.most)
