-- Raft's receiver rules: what a voter replies to each request, and what it is afterwards.
use Rattle.std.specs.Prelude.{ℕ, ◌+◌, ◌-◌, ◌==◌, ◌&&◌, ◌||◌, nat_lt, nat_le, max, min, Bool, true, false, if◌then◌else◌, List, [], ◌∷◌, ◌++◌, length, take, drop, Some, unwrap_or}
use Rattle.std.specs.List.{common_prefix_len}
use Rattle.std.specs.Option.{option_map_or}
use Rattle.raft_voter_messages.specs.declared.reply.Entry.{Entry}
use Rattle.raft_voter_messages.specs.declared.reply.Reply.{Reply}
use Rattle.raft_voter_messages.specs.declared.reply.Reply.TheVariants.{Granted, Denied, Matched, Mismatch, Stale, Base, Entries, Gone, Unknown, Status as StatusReply, Retired, Refused}
use Rattle.raft_voter_messages.specs.declared.request.Request.{Request}
use Rattle.raft_voter_messages.specs.declared.request.Request.TheVariants.{Vote, Append, Compact, Install, Read, Status, Retire}
use Rattle.raft_voter_messages.specs.Ranges.{in_range}
use Rattle.raft_voter_outline.specs.State.{State, fresh, last_index, last_term, term_at, adopt_term, state_of}

-- Votes.

-- voter `v` has no vote in its term, or its vote is for this candidate
abbrev pub may_vote : State → ℕ → Bool
may_vote v candidate = option_map_or (λ c. c == candidate) v.vote true

-- A log that ends at `index` with term `last` is at least as up to date as the log of voter `v`. The log with the
-- higher last term is more up to date; for equal terms, the longer one.
abbrev pub is_up_to_date : State → ℕ → ℕ → Bool
is_up_to_date v index last = nat_lt (last_term v) last || (last == last_term v && nat_le (last_index v) index)

-- Voter `v` grants its vote. The candidate's `term` is at least the voter's. The voter has no vote for another
-- candidate in that term. The candidate's log, which ends at `index` with term `last`, is at least as up to date.
abbrev pub grants : State → ℕ → ℕ → ℕ → ℕ → Bool
grants v term candidate index last =
    nat_le v.term term && may_vote (adopt_term v term) candidate && is_up_to_date v index last

-- Entries.

-- voter `v` has `term` at `index`, in an entry or as its base
abbrev pub agrees_at : State → ℕ → ℕ → Bool
agrees_at v index term = option_map_or (λ t. t == term) (term_at v index) false

-- how many entries at the front of `sent` have the same terms as those at the front of `old`
abbrev pub matching : List (ℕ × List ℕ) → List (ℕ × List ℕ) → ℕ
matching old sent = common_prefix_len (λ e s. e.0 == s.0) old sent

-- The entries `old` after an Append of `sent`. They are unchanged if `old` begins with the terms of `sent`. Otherwise
-- the matching entries stay, and those of `sent` from the first that differs or is new replace the rest.
abbrev pub merged : List (ℕ × List ℕ) → List (ℕ × List ℕ) → List (ℕ × List ℕ)
merged old sent =
    if matching old sent == length sent then old
    else take (matching old sent) old ++ drop (matching old sent) sent

-- the log of voter `v` after an Append of the entries `sent` after index `prev`
abbrev pub merged_log : State → ℕ → List (ℕ × List ℕ) → List (ℕ × List ℕ)
merged_log v prev sent = take (prev - v.base_index) v.log ++ merged (drop (prev - v.base_index) v.log) sent

-- Voter `v` after an Append of the entries `sent` after index `prev`. Its commit rises to `commit`, the leader's, but
-- at most to the index of the last entry sent, or to `prev` if none was sent. It never falls.
abbrev pub appended : State → ℕ → ℕ → List (ℕ × List ℕ) → State
appended v prev commit sent =
    record v { log = merged_log v prev sent; commit = max v.commit (min commit (prev + length sent)) }

-- voter `v` can compact its log up to `index`: that index is above the base, and its entry is in the log and committed
abbrev pub can_compact : State → ℕ → Bool
can_compact v index = nat_lt v.base_index index && nat_le index (last_index v) && nat_le index v.commit

-- voter `v` after a compaction up to `index`: the entry there becomes the base, and the entries after it stay
abbrev pub compacted : State → ℕ → State
compacted v index =
    record v {
      base_index = index;
      base_term = unwrap_or (term_at v index) 0;
      log = drop (index - v.base_index) v.log;
    }

-- Voter `v` after it installed a snapshot whose last entry has this index and term. That entry becomes the base, and
-- is committed. If the log has it with that term, the entries after it stay; otherwise all are removed.
abbrev pub installed : State → ℕ → ℕ → State
installed v index entry_term =
    record v {
      base_index = index;
      base_term = entry_term;
      commit = max v.commit index;
      log = if agrees_at v index entry_term then drop (index - v.base_index) v.log else [];
    }

-- these entries with consecutive indexes, from `index` on
abbrev pub numbered : ℕ → List (ℕ × List ℕ) → List Entry
numbered index [] = []
numbered index (e ∷ es) = record { index = index; term = e.0; bytes = e.1 } ∷ numbered (index + 1) es

-- the entries of voter `v` from index `from` to below `to`
abbrev pub entries_between : State → ℕ → ℕ → List Entry
entries_between v from to = numbered from (take (to - from) (drop (from - v.base_index - 1) v.log))

-- The rules, request by request.

-- the reply of voter `v` to a request in range
abbrev pub reply_in_range : State → Request → Reply
reply_in_range v (Vote term candidate index last) =
    if grants v term candidate index last then Granted term else Denied (adopt_term v term).term
reply_in_range v (Append term prev prev_term commit sent) =
    if nat_lt term v.term then Stale v.term
    else if nat_lt prev v.base_index then Base v.base_index
    else if agrees_at v prev prev_term then Matched (prev + length sent)
    else Mismatch (min (last_index v) (prev - 1))
reply_in_range v (Compact index) = if can_compact v index then Base index else Base v.base_index
reply_in_range v (Install term index entry_term) =
    if nat_lt term v.term then Stale v.term
    else if nat_le index v.base_index then Base v.base_index
    else Base index
reply_in_range v (Read from to) =
    if nat_le from v.base_index then Gone v.base_index
    else if nat_le to from then Entries []
    else if nat_lt (last_index v + 1) to then Unknown (last_index v)
    else Entries (entries_between v from to)
reply_in_range v Status = StatusReply (state_of v)
reply_in_range v Retire = Retired

-- voter `v` after a request in range
abbrev pub next_in_range : State → Request → State
next_in_range v (Vote term candidate index last) =
    if grants v term candidate index last then record (adopt_term v term) { vote = Some candidate }
    else adopt_term v term
next_in_range v (Append term prev prev_term commit sent) =
    if nat_lt term v.term then v
    else if agrees_at v prev prev_term then appended (adopt_term v term) prev commit sent
    else adopt_term v term
next_in_range v (Compact index) = if can_compact v index then compacted v index else v
next_in_range v (Install term index entry_term) =
    if nat_lt term v.term then v
    else if nat_le index v.base_index then adopt_term v term
    else installed (adopt_term v term) index entry_term
next_in_range v (Read from to) = v
next_in_range v Status = v
next_in_range v Retire = fresh

-- the reply of voter `v` to any request: `Refused` if it is out of range
abbrev pub reply : State → Request → Reply
reply v q = if in_range q then reply_in_range v q else Refused

-- voter `v` after any request: unchanged if it is out of range
abbrev pub next : State → Request → State
next v q = if in_range q then next_in_range v q else v

-- the request is Retire, which resets its group to a fresh voter
abbrev pub is_retire : Request → Bool
is_retire Retire = true
is_retire q = false
