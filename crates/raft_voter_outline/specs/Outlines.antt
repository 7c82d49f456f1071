-- Outlines: voters without the bytes of their entries. What a request writes, and when a decision made from an outline
-- is right.
use Rattle.std.specs.Prelude.{◌≡◌, ◌≢◌, ℕ, ◌+◌, ◌-◌, ◌^◌, ◌≤◌, ◌<◌, ◌==◌, ◌⊎◌, nat_lt, nat_le, true, false, not, if◌then◌else◌, List, [], ◌++◌, length, take, drop, Option, MatchOption}
use Rattle.raft_voter_messages.specs.declared.reply.Reply.{Reply}
use Rattle.raft_voter_messages.specs.declared.reply.Reply.TheVariants.{Entries as EntriesReply}
use Rattle.raft_voter_messages.specs.declared.reply.VoterState.{VoterState}
use Rattle.raft_voter_messages.specs.declared.request.Request.{Request}
use Rattle.raft_voter_messages.specs.declared.request.Request.TheVariants.{Append, Compact, Install, Read, Retire}
use Rattle.raft_voter_messages.specs.Ranges.{in_range}
use Rattle.raft_voter_outline.specs.declared.outline.decision.Answer.{Answer}
use Rattle.raft_voter_outline.specs.declared.outline.decision.Answer.TheVariants.{Told, Entries as EntriesAnswer}
use Rattle.raft_voter_outline.specs.declared.outline.decision.Change.{Change}
use Rattle.raft_voter_outline.specs.declared.outline.decision.Decision.{Decision}
use Rattle.raft_voter_outline.specs.declared.outline.decision.Write.{Write}
use Rattle.raft_voter_outline.specs.declared.outline.decision.Write.TheVariants.{StateAlone, Entries, CompactTo, Clean}
use Rattle.raft_voter_outline.specs.State.{State, last_index}
use Rattle.raft_voter_outline.specs.Rules.{agrees_at, can_compact, entries_between, matching, next, reply}
use Rattle.raft_voter_outline.specs.Rules.{is_retire}
use Rattle.raft_voter_outline.specs.Runs.{bare, Terms}

-- an outline as contracts see it: the voter without the bytes of its entries, and how many more runs of equal terms
-- fit in its memory
pub record Outlined : Type 0 where
  pub voter : State
  pub room : ℕ

-- An outline can have the terms `t` and the commit `commit`: the entries have no bytes, and the base is in range and at
-- most `commit`.
pub record IsOutline (t : Terms) (commit : ℕ) : Type 0 where
  pub bared : bare t.log ≡ t.log
  pub small : t.base < 2 ^ 63
  pub committed : t.base ≤ commit

-- voter `v` with the terms of its entries, but without their bytes
abbrev pub without_bytes : State → State
without_bytes v = record v { log = bare v.log }

-- the voter's state as it is stored: with the base in place of the last entry
abbrev pub stored_state : State → VoterState
stored_state v = record {
  term = v.term;
  vote = v.vote;
  base_index = v.base_index;
  base_term = v.base_term;
  last_index = v.base_index;
  last_term = v.base_term;
  commit = v.commit;
}

-- the entries that a request brings; only an Append has any
abbrev pub sent_of : Request → List (ℕ × List ℕ)
sent_of (Append term prev prev_term commit sent) = sent
sent_of _ = []

-- the reply that this answer gives for voter `v`: the answer's own reply, or the voter's entries from `from` to below
-- `to`
abbrev pub answered : Answer → State → Reply
answered (Told told) v = told
answered (EntriesAnswer from to) v = EntriesReply (entries_between v from to)

-- the log of voter `v` after this write, for a request that brought the entries `sent`
abbrev pub log_written : Write → List (ℕ × List ℕ) → State → List (ℕ × List ℕ)
log_written StateAlone sent v = v.log
log_written (Entries skipped index) sent v = take (index - v.base_index - 1) v.log ++ drop skipped sent
log_written (CompactTo index) sent v = drop (index - v.base_index) v.log
log_written Clean sent v = []

-- voter `v` after change `c`, for a request that brought the entries `sent`
abbrev pub changed : Change → List (ℕ × List ℕ) → State → State
changed c sent v = record {
  term = c.state.term;
  vote = c.state.vote;
  base_index = c.state.base_index;
  base_term = c.state.base_term;
  commit = c.state.commit;
  log = log_written c.write sent v;
}

-- This write is possible for request `q` on the log of voter `v`:
-- - `StateAlone` is for any request except Retire, and `Clean` only for Retire;
-- - `Entries` appends at least one entry of `q` above the base, and leaves no gap and no index out of range;
-- - `CompactTo` has an index above the base and up to the last entry.
abbrev pub CanWrite : Write → Request → State → Type 0
CanWrite StateAlone q v = is_retire q ≡ false
CanWrite (Entries skipped index) q v =
    (v.base_index < index) × (index ≤ last_index v + 1) × (skipped < length (sent_of q))
    × (index + (length (sent_of q) - skipped) ≤ 2 ^ 63)
CanWrite (CompactTo index) q v = (v.base_index < index) × (index ≤ last_index v)
CanWrite Clean q v = is_retire q ≡ true

-- `base` can be the base's index after this write:
-- - `StateAlone`: it is the old index, or any index if the log is empty.
-- - `Entries`: it is the old index.
-- - `CompactTo`: it is the write's own index, or any index if the write removes all entries.
-- - `Clean`: it is 0.
abbrev pub RestsOn : Write → State → ℕ → Type 0
RestsOn StateAlone v base = (base ≡ v.base_index) ⊎ (v.log ≡ [])
RestsOn (Entries skipped index) v base = base ≡ v.base_index
RestsOn (CompactTo index) v base = (base ≡ index) ⊎ (index ≡ last_index v)
RestsOn Clean v base = base ≡ 0

-- What each request writes to the log.

-- the write for an Append of the entries `sent` after index `prev`, if the log has the first `same` of them
abbrev pub brought : ℕ → ℕ → List (ℕ × List ℕ) → Write
brought same prev sent = if same == length sent then StateAlone else Entries same (prev + 1 + same)

-- What an Append in range writes. It writes nothing if its term is old, if the voter doesn't have `prev_term` at
-- `prev`, or if the log has all entries sent. Otherwise it writes the entries sent from the first that differs or is
-- new.
abbrev pub append_write : State → ℕ → ℕ → ℕ → List (ℕ × List ℕ) → Write
append_write v term prev prev_term sent =
    if nat_lt term v.term then StateAlone
    else if not (agrees_at v prev prev_term) then StateAlone
    else brought (matching (drop (prev - v.base_index) v.log) sent) prev sent

-- the write that removes all entries of the log; if it has none, nothing is written
abbrev pub all_gone : State → Write
all_gone v = if length v.log == 0 then StateAlone else CompactTo (last_index v)

-- what this request, in range, writes to the log of voter `v`
abbrev pub write_of : State → Request → Write
write_of v (Append term prev prev_term commit sent) = append_write v term prev prev_term sent
write_of v (Compact index) = if can_compact v index then CompactTo index else StateAlone
write_of v (Install term index entry_term) =
    if nat_lt term v.term then StateAlone
    else if nat_le index v.base_index then StateAlone
    else if agrees_at v index entry_term then CompactTo index
    else all_gone v
write_of v Retire = Clean
write_of v _ = StateAlone

-- Decisions.

-- Change `c` is the one that request `q` makes to voter `v`. It has the next state and the request's write, which give
-- the next voter. The write is possible (`CanWrite`), and the new base fits it (`RestsOn`). If the old base's index is
-- in range, so is the new one's. The voter does change.
pub record IsChangeOf (v : State) (q : Request) (c : Change) : Type 0 where
  pub state : c.state ≡ stored_state (next v q)
  pub next_is : next v q ≡ changed c (sent_of q) v
  pub can : CanWrite c.write q v
  pub write_is : c.write ≡ write_of v q
  pub rests : RestsOn c.write v c.state.base_index
  pub small : v.base_index < 2 ^ 63 → c.state.base_index < 2 ^ 63
  pub moves : next v q ≢ v

-- if the reply still needs entries, `q` is the Read that asks for them, there is at least one, and voter `v` has them
-- all
abbrev pub EntriesAreThere : Answer → Request → State → Type 0
EntriesAreThere (Told told) q v = Unit {0}
EntriesAreThere (EntriesAnswer from to) q v =
    (q ≡ Read from to) × (v.base_index < from) × (from < to) × (to ≤ last_index v + 1)

-- For each voter with outline `o`, answer `a` gives the voter's reply to request `q`. The voter has the entries that
-- the reply still needs.
abbrev pub IsReplyOfEach : State → Request → Answer → Type 0
IsReplyOfEach o q a = (v : State) → without_bytes v ≡ o → (reply v q ≡ answered a v) × EntriesAreThere a q v

-- request `q` changes no voter with outline `o`
abbrev pub LeavesEach : State → Request → Type 0
LeavesEach o q = (v : State) → without_bytes v ≡ o → next v q ≡ v

-- `c` is the change that request `q` makes to each voter with outline `o`
abbrev pub ChangesEach : State → Request → Change → Type 0
ChangesEach o q c = (v : State) → without_bytes v ≡ o → IsChangeOf v q c

-- Decision `d` is right for each voter with outline `o`. Its answer gives the voter's reply. If it has a change,
-- request `q` makes that change to the voter, and otherwise `q` doesn't change the voter.
pub record Decides (o : State) (q : Request) (d : Decision) : Type 0 where
  pub answer : IsReplyOfEach o q d.answer
  pub change : MatchOption d.change (LeavesEach o q) (ChangesEach o q)

-- This request, in range, needs copies of entries. It is an Append that is accepted and brings an entry that is new or
-- differs, or a Read that returns at least one entry.
abbrev pub WantsCopies : State → Request → Type 0
WantsCopies v (Append term prev prev_term commit sent) =
    (v.term ≤ term) × (agrees_at v prev prev_term ≡ true)
    × (matching (drop (prev - v.base_index) v.log) sent < length sent)
WantsCopies v (Read from to) = (v.base_index < from) × (from < to) × (to ≤ last_index v + 1)
WantsCopies v _ = ⊥

-- request `q` is in range and needs copies of entries
abbrev pub Copies : State → Request → Type 0
Copies v q = (in_range q ≡ true) × WantsCopies v q

-- the outline with these values in its fields; `terms` has its base index, its log and its room
abbrev pub outlined : ℕ → Option ℕ → ℕ → ℕ → Terms → Outlined
outlined term vote base_term commit terms = record {
  voter = record {
    term = term;
    vote = vote;
    base_index = terms.base;
    base_term = base_term;
    commit = commit;
    log = terms.log;
  };
  room = terms.room;
}
