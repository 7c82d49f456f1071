use Rattle.std.proofs.Common.{◌≡◌, ◌≤◌, ◌++◌, length, map, take, drop}
use Rattle.raft_log_record_batches.specs.Entries.{entries_of, joined, AreReadBack}
use Rattle.raft_log_record_batches.proofs.log_batch.messages.append_each.Given as goal

-- the messages so far stand behind what was there, and their entries have their lengths
abbrev pub invariant-loop-i : goal.invariant-loop-i
invariant-loop-i g l = (l.out.items ≡ l.fn.out.items ++ joined (map g.M.Message.spelling (take l.i l.messages)))
    × (l.indexes ≡ entries_of (map (λ e. e.index) (take l.i l.fn.indexes)) (map g.M.Message.spelling (take l.i l.messages)) ++ drop l.i l.fn.indexes)
    × (length l.out.items ≤ l.most)
    × AreReadBack g.M.Message.spelling g.M.Message.reading (take l.i l.messages)
