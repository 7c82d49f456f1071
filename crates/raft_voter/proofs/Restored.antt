-- What is written of a voter is read back as that voter.
use Rattle.std.proofs.Common.{◌≡◌, ℕ, ◌+◌, ◌∙◌, true, List, [], ◌∷◌, map, Ok, refl, ap}
use Rattle.std.proofs.lemmas.Bool.{and_parts}
use Rattle.std.specs.List.{list_all}
use Rattle.raft_voter_messages.specs.declared.reply.Entry.{Entry}
use Rattle.raft_voter_messages.specs.declared.reply.VoterState.{VoterState}
use Rattle.raft_voter_messages.specs.Laws.{bare}
use Rattle.raft_voter_messages.specs.StoredForms.{entry_text, state_text, stored_entry_fits}
use Rattle.raft_voter_messages.proofs.Public.{entries_are_read_back, one_entry, one_state, states_are_read_back}
use Rattle.raft_voter.specs.InRange.{IsStorable}
use Rattle.raft_voter_outline.specs.Restoring.{restored}
use Rattle.raft_voter_outline.specs.Rules.{numbered}
use Rattle.raft_voter_outline.specs.State.{State, state_of}
use Rattle.raft_voter_outline.proofs.Public.{restored_ok}
use Rattle.raft_voter.specs.Laws.{AreReadAs, IsReadOfWritten, StoredVotersAreRestored, log_entries}
use Rattle.raft_voter.proofs.Numbering.{entries_in_range, numbered_in_order, state_in_range, unnumbered}

-- entries in range that stand one behind the other are read of what is written of them
entries_read : (i : ℕ) (log : List (ℕ × List ℕ)) → list_all stored_entry_fits (numbered i log) ≡ true → AreReadAs i (map entry_text (numbered i log)) (numbered i log)
entries_read i [] h = tt
entries_read i (e ∷ log) h =
    let one : Entry = record { index = i; term = e.0; bytes = e.1 } in
    let parts = and_parts (stored_entry_fits one) (list_all stored_entry_fits (numbered (i + 1) log)) h in
    (entries_are_read_back one parts.0, entries_read (i + 1) log parts.1)

-- and no others
same_entries : (i : ℕ) (texts : List (List ℕ)) (es fs : List Entry) → AreReadAs i texts es → AreReadAs i texts fs → es ≡ fs
same_entries i [] [] [] h k = refl
same_entries i [] [] (f ∷ fs) h k = absurd k
same_entries i [] (e ∷ es) fs h k = absurd h
same_entries i (bytes ∷ texts) [] fs h k = absurd h
same_entries i (bytes ∷ texts) (e ∷ es) [] h k = absurd k
same_entries i (bytes ∷ texts) (e ∷ es) (f ∷ fs) h k =
    let first = (one_entry bytes i i e f h.0 k.0).1 in
    let others = same_entries (i + 1) texts es fs h.1 k.1 in
    cc

read_of : (v : State) → IsStorable v → IsReadOfWritten v (bare (state_of v)) (log_entries v)
read_of v h = record {
  state = states_are_read_back (state_of v) (state_in_range v h.in_range);
  entries = entries_read (v.base_index + 1) v.log (entries_in_range v h);
}

with_log : (v : State) (log : List (ℕ × List ℕ)) → log ≡ v.log → record v { log = log } ≡ v
with_log v log e = rw e refl

restores : (v : State) → IsStorable v → restored (bare (state_of v)) (log_entries v) ≡ Ok v
restores v h =
    restored_ok (bare (state_of v)) (log_entries v) (state_in_range v h.in_range) (entries_in_range v h) (numbered_in_order (v.base_index + 1) v.log)
    ∙ ap Ok (with_log v (map (λ e. (e.term, e.bytes)) (log_entries v)) (unnumbered (v.base_index + 1) v.log))

pub stored_voters_are_restored : StoredVotersAreRestored
stored_voters_are_restored v h = (
  read_of v h,
  λ s es read.
      let own = read_of v h in
      let state = one_state (state_text (state_of v)) s (bare (state_of v)) read.state own.state in
      let entries = same_entries (v.base_index + 1) (map entry_text (log_entries v)) es (log_entries v) read.entries own.entries in
      ap (λ (r : VoterState). restored r es) state ∙ ap (restored (bare (state_of v))) entries ∙ restores v h,
)
