-- The history of a log: the batches that were written to Append and that no crash lost.
use Rattle.std.specs.Prelude.{List, [], ◌∷◌, ◌++◌}
use Rattle.raft_log_model_laws.specs.Item.{Record}
use Rattle.raft_log_machine_laws.specs.Machine.{Event}
use Rattle.raft_log_machine_laws.specs.Machine.Event.{Take, SyncAppend, Reopen}

-- the batches that are synced, and the pending ones, which are written and not yet synced; oldest first
pub record History (E V : Type 0) : Type 0 where
  pub synced : List (Record E V)
  pub pending : List (Record E V)

-- The history after one more event. A batch is pending at first. A sync of Append makes all pending batches synced.
-- After a crash and an open, the pending batches that the crash kept are synced, and the others are gone.
abbrev pub happened : {E V : Type 0} → History E V → Event E V → History E V
happened h (Take y) = record { synced = h.synced; pending = h.pending ++ y ∷ [] }
happened h SyncAppend = record { synced = h.synced ++ h.pending; pending = [] }
happened h (Reopen r_kept r_lost r_cut r_back a_kept a_lost a_cut a_back) =
    record { synced = h.synced ++ a_kept; pending = [] }
happened h _ = h

-- the history after these events, if it was `h` before them
abbrev pub history_from : {E V : Type 0} → History E V → List (Event E V) → History E V
history_from h [] = h
history_from h (e ∷ es) = history_from (happened h e) es

-- the history of a new directory after these events
abbrev pub history : {E V : Type 0} → List (Event E V) → History E V
history es = history_from (record { synced = []; pending = [] }) es
