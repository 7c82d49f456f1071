-- A voter: its state, and what a caller reads of it.
use Rattle.std.specs.Prelude.{ℕ, ◌+◌, ◌-◌, ◌==◌, nat_lt, if◌then◌else◌, List, [], length, slice_get, Option, None, Some, unwrap_or}
use Rattle.std.specs.Option.{option_map}
use Rattle.raft_voter_messages.specs.declared.reply.VoterState.{VoterState}

-- A Raft server's state for one group: a voter. `vote` is the candidate it voted for in the current term. The base is
-- the last entry that a compaction or a snapshot covers, by its index and term. `commit` is the highest index known to
-- be committed. The log has the entries above the base, each with its term and its bytes.
pub record State : Type 0 where
  pub term : ℕ
  pub vote : Option ℕ
  pub base_index : ℕ
  pub base_term : ℕ
  pub commit : ℕ
  pub log : List (ℕ × List ℕ)

-- a voter that has taken no request yet: all its numbers are 0, it has no vote, and its log is empty
abbrev pub fresh : State
fresh = record { term = 0; vote = None; base_index = 0; base_term = 0; commit = 0; log = [] }

-- the entry of voter `v` at index `i`, if it has one: the k-th of the log, counted from 1, has index base + k
abbrev pub entry_at : State → ℕ → Option (ℕ × List ℕ)
entry_at v i = if nat_lt v.base_index i then slice_get v.log (i - v.base_index - 1) else None

-- the term of voter `v` at index `i`: of its base or of its entry there, if it has one
abbrev pub term_at : State → ℕ → Option ℕ
term_at v i = if i == v.base_index then Some v.base_term else option_map (λ e. e.0) (entry_at v i)

-- the index of the last entry, or of the base if the log is empty
abbrev pub last_index : State → ℕ
last_index v = v.base_index + length v.log

-- the term of the last entry, or of the base if the log is empty
abbrev pub last_term : State → ℕ
last_term v = unwrap_or (option_map (λ e. e.0) (slice_get v.log (length v.log - 1))) v.base_term

-- voter `v` with term `t` and no vote, if `t` is higher than its own term; otherwise the same voter
abbrev pub adopt_term : State → ℕ → State
adopt_term v t = if nat_lt v.term t then record v { term = t; vote = None } else v

-- what a Status request returns: the voter's numbers, with the index and term of its last entry, but no entries
abbrev pub state_of : State → VoterState
state_of v = record {
  term = v.term;
  vote = v.vote;
  base_index = v.base_index;
  base_term = v.base_term;
  last_index = last_index v;
  last_term = last_term v;
  commit = v.commit;
}
