-- Rebuilding a voter from the state and the entries that were read from a store.
use Rattle.std.specs.Prelude.{◌≡◌, ℕ, ◌+◌, ◌==◌, ◌&&◌, Bool, true, IsOk, if◌then◌else◌, List, [], ◌∷◌, map, Result, Ok, Err}
use Rattle.std.specs.List.{list_all}
use Rattle.raft_voter_messages.specs.declared.reply.Entry.{Entry}
use Rattle.raft_voter_messages.specs.declared.reply.VoterState.{VoterState}
use Rattle.raft_voter_messages.specs.declared.stored.StoredFault.{StoredFault}
use Rattle.raft_voter_messages.specs.declared.stored.StoredFault.TheVariants.{Range, Order, Memory}
use Rattle.raft_voter_messages.specs.StoredForms.{state_fits, stored_entry_fits}
use Rattle.raft_voter_outline.specs.State.{State}

-- the entries have consecutive indexes, and the first one's is `index`
abbrev pub are_in_order : ℕ → List Entry → Bool
are_in_order index [] = true
are_in_order index (e ∷ es) = e.index == index && are_in_order (index + 1) es

-- the voter with this state and these log entries
abbrev pub with_log : VoterState → List (ℕ × List ℕ) → State
with_log s log = record {
  term = s.term;
  vote = s.vote;
  base_index = s.base_index;
  base_term = s.base_term;
  commit = s.commit;
  log = log;
}

-- The voter with state `s` and entries `es`. The fault is `Range` if the state or an entry is out of range. Otherwise
-- it is `Order` if the entries don't follow the base one by one.
abbrev pub restored : VoterState → List Entry → Result State StoredFault
restored s es =
    if state_fits s && list_all stored_entry_fits es then
    (if are_in_order (s.base_index + 1) es then
    Ok (with_log s (map (λ e. (e.term, e.bytes)) es))
    else Err Order)
    else Err Range

-- `there` is what a state and entries restore to: a voter or a fault. The call that restores them may return `fault`:
-- `Memory` if `there` is a voter, otherwise the fault `there`.
abbrev pub RestoreFault : StoredFault → Result State StoredFault → Type 0
RestoreFault Memory there = IsOk there
RestoreFault fault there = there ≡ Err fault
