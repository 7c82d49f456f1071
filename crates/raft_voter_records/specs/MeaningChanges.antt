-- The record that is written when a request changes a voter. If the voter's log changes, the record has the new
-- entries, or the command that deletes old ones. Then comes the new state, unless the command deletes the whole group.
use Rattle.std.specs.Prelude.{ℕ, ◌+◌, ◌==◌, ◌&&◌, Bool, bytes_eq, if◌then◌else◌, List, [], ◌∷◌, ◌++◌, length, drop, map}
use Rattle.std.specs.List.{common_prefix_len}
use Rattle.raft_log_model_laws.specs.Item.{Item, Record, Tagged}
use Rattle.raft_log_model_laws.specs.Item.Item.{Clean, Compact, Put, Run}
use Rattle.raft_log_model_laws.specs.Item.Record.{Plain}
use Rattle.raft_voter_messages.specs.declared.request.Request.{Request}
use Rattle.raft_voter_messages.specs.StoredForms.{entry_text, state_text}
use Rattle.raft_voter_outline.specs.declared.outline.decision.Change.{Change}
use Rattle.raft_voter_outline.specs.declared.outline.decision.Write.{Write}
use Rattle.raft_voter_outline.specs.declared.outline.decision.Write.TheVariants as writes
use Rattle.raft_voter_outline.specs.Outlines.{sent_of, stored_state}
use Rattle.raft_voter_outline.specs.Rules.{is_retire, next, numbered}
use Rattle.raft_voter_outline.specs.State.{State, last_index}
use Rattle.raft_voter.specs.Rounds.{World}
use Rattle.raft_voter_records.specs.Voters.{voter_key}

-- an item of a group, whose entries and values are bytes
abbrev pub Words : Type 0
Words = Item (List ℕ) (List ℕ)

-- Computed from the voter before a request and the voter after it.

-- the two entries have the same term and the same data
abbrev pub is_entry : ℕ × List ℕ → ℕ × List ℕ → Bool
is_entry d e = (d.0 == e.0) && bytes_eq d.1 e.1

-- how many entries the logs of `v` and `w` have in common, counted from their first entries
abbrev pub shared : State → State → ℕ
shared v w = common_prefix_len is_entry v.log w.log

-- The item that writes these entries as one run, whose first entry has the index `index`. There is no item if there are
-- no entries.
abbrev pub run_items : ℕ → List (ℕ × List ℕ) → List Words
run_items index [] = []
run_items index (e ∷ es) = Run index (map entry_text (numbered index (e ∷ es))) ∷ []

-- The item that writes the entries of `w` after those in common with `v`; none if there are no such entries. Both
-- voters have the base of `v`.
abbrev pub brought_items : State → State → List Words
brought_items v w = run_items (v.base_index + shared v w + 1) (drop (shared v w) w.log)

-- The item that deletes the entries of the old voter `v` up to the base of the new one, `w`. If `w` has no entries, the
-- item deletes all entries of `v`. If `v` has no entries, nothing is written.
abbrev pub gone_items : State → State → List Words
gone_items v w =
    if length v.log == 0 then []
    else if length w.log == 0 then Compact (last_index v + 1) ∷ []
    else Compact (w.base_index + 1) ∷ []

-- The items for the log when voter `v` becomes `w`. If the base is the same, they write the new entries, else they
-- delete old ones.
abbrev pub log_items : State → State → List Words
log_items v w = if w.base_index == v.base_index then brought_items v w else gone_items v w

-- the item that writes the state of voter `w`
abbrev pub state_items : State → List Words
state_items w = Put voter_key (state_text (stored_state w)) ∷ []

-- The items that are written when voter `v` takes request `q`: those for its log, then its new state. If the request
-- retires the voter, there is only a `Clean`.
abbrev pub change_items : State → Request → List Words
change_items v q =
    if is_retire q then Clean ∷ [] else log_items v (next v q) ++ state_items (next v q)

-- the items, each with group `g`
abbrev pub tagged_with : ℕ → List Words → List (Tagged (List ℕ) (List ℕ))
tagged_with g xs = map (λ x. record { group = g; item = x }) xs

-- the record of these items of group `g`, outside of atomic groups
abbrev pub record_in : ℕ → List Words → Record (List ℕ) (List ℕ)
record_in g xs = Plain (tagged_with g xs)

-- the record that is written if the voters are `W` and one of them takes `q`, a request with its group
abbrev pub change_record : World → ℕ × Request → Record (List ℕ) (List ℕ)
change_record W q = record_in q.0 (change_items (W q.0) q.1)

-- Computed from a decision.

-- the items for a change of the log, for a request that brought the entries `sent`
abbrev pub write_items : Write → List (ℕ × List ℕ) → List Words
write_items writes.StateAlone sent = []
write_items (writes.Entries skipped index) sent = run_items index (drop skipped sent)
write_items (writes.CompactTo index) sent = Compact (index + 1) ∷ []
write_items writes.Clean sent = Clean ∷ []

-- The items for the change `c` that was decided for the request `q`: those for the log, then the new state. If the
-- request retires the voter, there is no item for the state.
abbrev pub decided_items : Change → Request → List Words
decided_items c q =
    write_items c.write (sent_of q)
    ++ (if is_retire q then [] else Put voter_key (state_text c.state) ∷ [])
