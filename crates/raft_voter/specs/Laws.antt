-- Laws of one voter's replies and states, and of the voters of all groups through rounds of requests. Each is the
-- contract of a function with an empty body.
use Rattle.std.specs.Prelude.{◌≡◌, ◌≢◌, ℕ, ◌+◌, ◌-◌, ◌<◌, ◌≤◌, nat_lt, Bool, true, false, IsTrue, IsSomeAnd, length, if◌then◌else◌, List, [], ◌∷◌, ◌++◌, map, take, drop, slice_get, Option, None, Some, Ok}
use Rattle.raft_voter_messages.specs.Laws.{bare}
use Rattle.raft_voter_messages.specs.StoredForms.{IsEntry, IsState, entry_text, state_text}
use Rattle.raft_voter_messages.specs.declared.reply.Entry.{Entry}
use Rattle.raft_voter_messages.specs.declared.reply.Reply.{Reply}
use Rattle.raft_voter_messages.specs.declared.reply.Reply.TheVariants.{Entries, Granted, Matched}
use Rattle.raft_voter_messages.specs.declared.reply.VoterState.{VoterState}
use Rattle.raft_voter_messages.specs.declared.request.Request.{Request}
use Rattle.raft_voter_messages.specs.declared.request.Request.TheVariants.{Vote, Append, Compact, Install, Read, Status, Retire}
use Rattle.raft_voter_messages.specs.declared.round.Outcome.{Outcome}
use Rattle.raft_voter_messages.specs.declared.round.Outcome.TheVariants.{Answered, Cut}
use Rattle.raft_voter_messages.specs.declared.round.Round.{Round}
use Rattle.raft_voter_outline.specs.Restoring.{restored}
use Rattle.raft_voter_outline.specs.State.{State, entry_at, fresh, state_of, term_at}
use Rattle.raft_voter_outline.specs.Rules.{next, numbered, reply}
use Rattle.raft_voter.specs.InRange.{IsInRange, IsStorable}
use Rattle.raft_voter.specs.Rounds.{World, Explains, Leads}
use Rattle.raft_voter.specs.Accounts.{group_account, NoRetire, requests_of, voter_after}

-- 1 for a round that was cut off, and 0 for one with replies
abbrev pub cut_count_of : Outcome → ℕ
cut_count_of (Answered replies) = 0
cut_count_of Cut = 1

-- how many of these rounds were cut off
abbrev pub cut_count : List Round → ℕ
cut_count [] = 0
cut_count (r ∷ rounds) = cut_count_of r.outcome + cut_count rounds

-- Suppose the rounds `first` lead from world W to X, and the rounds `later` from X to Y. Then all of them lead from W
-- to Y, with the cuts of both.
abbrev pub RoundsJoin : Type 0
RoundsJoin =
    (W X Y : World) (first later : List Round) (cuts cuts' : List ℕ) → Leads W first cuts X
    → Leads X later cuts' Y
    → Leads W (first ++ later) (cuts ++ cuts') Y

-- Suppose the rounds `first ++ later` lead from world W to Y. Then `first` leads from W to some world X, and `later`
-- from X to Y. Each part has the cuts of its own rounds.
abbrev pub RoundsPart : Type 0
RoundsPart =
    (W Y : World) (first later : List Round) (cuts : List ℕ) → Leads W (first ++ later) cuts Y
    → (X : World) × Leads W first (take (cut_count first) cuts) X
    × Leads X later (drop (cut_count first) cuts) Y

-- In a group's account, any two votes granted in the same term are for the same candidate, unless there is a Retire
-- between them.
abbrev pub OneVotePerTerm : Type 0
OneVotePerTerm =
    (rounds : List Round) (cuts : List ℕ) (group : ℕ) → Explains rounds cuts
    → (before between later : List (Request × Option Reply)) (term t t' candidate candidate' i i' u u' : ℕ)
    → group_account group rounds cuts
    ≡ before ++ (Vote t candidate i u, Some (Granted term)) ∷ between
    ++ (Vote t' candidate' i' u', Some (Granted term)) ∷ later
    → NoRetire between → candidate ≡ candidate'

-- Rounds that lead from world W to X don't lower a group's term, if the group took no Retire in them.
abbrev pub TermsNeverFall : Type 0
TermsNeverFall =
    (W X : World) (rounds : List Round) (cuts : List ℕ) (group : ℕ) → Leads W rounds cuts X
    → NoRetire (group_account group rounds cuts) → (W group).term ≤ (X group).term

-- Rounds that lead from world W to X don't lower a group's commit, if the group took no Retire in them.
abbrev pub CommitNeverFalls : Type 0
CommitNeverFalls =
    (W X : World) (rounds : List Round) (cuts : List ℕ) (group : ℕ) → Leads W rounds cuts X
    → NoRetire (group_account group rounds cuts) → (W group).commit ≤ (X group).commit

-- Rounds lead from world W to X. If a group's base is at most its commit in W, it is also at most its commit in X.
abbrev pub BaseIsCommitted : Type 0
BaseIsCommitted =
    (W X : World) (rounds : List Round) (cuts : List ℕ) (group : ℕ) → Leads W rounds cuts X
    → (W group).base_index ≤ (W group).commit → (X group).base_index ≤ (X group).commit

-- the entry that an Append of the entries `sent` after index `prev` has for index `i`, if any
abbrev pub sent_at : ℕ → List (ℕ × List ℕ) → ℕ → Option (ℕ × List ℕ)
sent_at prev sent i = if nat_lt prev i then slice_get sent (i - prev - 1) else None

-- an Append of the entries `sent` after index `prev` has an entry for index `i`, and voter `v` doesn't have that
-- entry's term there
abbrev pub BringsOther : State → ℕ → List (ℕ × List ℕ) → ℕ → Type 0
BringsOther v prev sent i = IsSomeAnd (sent_at prev sent i) (λ e. term_at v i ≢ Some e.0)

-- The log of a voter after an Append with the reply `Matched`. Let `f` be the first index for which the Append has an
-- entry whose term the voter doesn't have there. Below `f`, the entries stay the same. From `f` on, they are exactly
-- the Append's. If there is no such index, the log is unchanged.
abbrev pub MatchedAppend : Type 0
MatchedAppend =
    (v : State) (term prev prev_term commit last : ℕ) (sent : List (ℕ × List ℕ))
    → reply v (Append term prev prev_term commit sent) ≡ Matched last
    → (
    (f : ℕ) → BringsOther v prev sent f → ((j : ℕ) → j < f → ¬ BringsOther v prev sent j)
    → (i : ℕ) → (i < f → entry_at (next v (Append term prev prev_term commit sent)) i ≡ entry_at v i)
    × (f ≤ i → entry_at (next v (Append term prev prev_term commit sent)) i ≡ sent_at prev sent i)
    )
    × (
    ((j : ℕ) → ¬ BringsOther v prev sent j) → (next v (Append term prev prev_term commit sent)).log ≡ v.log
    )

-- The condition under which voter `v` keeps its entry at index `i` when it takes this request:
-- - Append: if the reply is `Matched`, the Append brings no term up to `i` that the voter doesn't have at the same
--   index.
-- - Compact: the base stays below `i`.
-- - Install: the base stays below `i`. If the base moves, the voter has the snapshot's term at the snapshot's last
--   index.
-- - Retire: never. Every other request: always.
abbrev pub SparesEntry : State → ℕ → Request → Type 0
SparesEntry v i (Append term prev prev_term commit sent) =
    (last : ℕ) → reply v (Append term prev prev_term commit sent) ≡ Matched last
    → (j : ℕ) → j ≤ i → ¬ BringsOther v prev sent j
SparesEntry v i (Compact index) = (next v (Compact index)).base_index < i
SparesEntry v i (Install term index entry_term) =
    ((next v (Install term index entry_term)).base_index < i)
    × ((next v (Install term index entry_term)).base_index ≢ v.base_index → term_at v index ≡ Some entry_term)
SparesEntry v i Retire = ⊥
SparesEntry v i (Vote term candidate index last) = Unit {0}
SparesEntry v i (Read from to) = Unit {0}
SparesEntry v i Status = Unit {0}

-- voter `v` takes these requests in order, and each of them spares the entry at index `i` (`SparesEntry`)
abbrev pub AllSpare : State → ℕ → List (Request × Option Reply) → Type 0
AllSpare v i [] = Unit {0}
AllSpare v i (t ∷ ts) = SparesEntry v i t.0 × AllSpare (next v t.0) i ts

-- what an account has for an Append with these values and the reply that it matched up to index `last`
abbrev pub matched_up_to : ℕ → ℕ → ℕ → ℕ → List (ℕ × List ℕ) → ℕ → Request × Option Reply
matched_up_to term prev prev_term commit sent last =
    (Append term prev prev_term commit sent, Some (Matched last))

-- After an Append with the reply `Matched`, the voter has an entry at each index for which the Append brought one, with
-- the same term. As long as every later request spares it (`AllSpare`), the voter keeps that entry, with the same
-- bytes.
abbrev pub MatchedEntriesStand : Type 0
MatchedEntriesStand =
    (rounds : List Round) (cuts : List ℕ) (group : ℕ) → Explains rounds cuts
    → (before between later : List (Request × Option Reply)) (term prev prev_term commit last i : ℕ)
    (sent : List (ℕ × List ℕ))
    (e : ℕ × List ℕ)
    → group_account group rounds cuts
    ≡ before ++ matched_up_to term prev prev_term commit sent last ∷ between ++ later
    → sent_at prev sent i ≡ Some e
    → AllSpare (voter_after (before ++ matched_up_to term prev prev_term commit sent last ∷ []))
    i between
    → (bytes : List ℕ)
    × (entry_at (voter_after (before ++ matched_up_to term prev prev_term commit sent last ∷ [])) i
    ≡ Some (e.0, bytes))
    × (entry_at (voter_after (before ++ matched_up_to term prev prev_term commit sent last ∷ between)) i
    ≡ Some (e.0, bytes))

-- the request is a Vote, an Append, a Compact or an Install
abbrev pub is_repeatable : Request → Bool
is_repeatable (Vote term candidate index last) = true
is_repeatable (Append term prev prev_term commit sent) = true
is_repeatable (Compact index) = true
is_repeatable (Install term index entry_term) = true
is_repeatable (Read from to) = false
is_repeatable Status = false
is_repeatable Retire = false

-- Suppose a group takes a Vote, Append, Compact or Install twice in a row, each time with a reply. Then the replies are
-- the same, and the second request doesn't change the voter.
abbrev pub RepeatIsIdempotent : Type 0
RepeatIsIdempotent =
    (rounds : List Round) (cuts : List ℕ) (group : ℕ) → Explains rounds cuts
    → (before later : List (Request × Option Reply)) (q : Request) (a b : Reply)
    → group_account group rounds cuts ≡ before ++ (q, Some a) ∷ (q, Some b) ∷ later → IsTrue (is_repeatable q)
    → (a ≡ b)
    × (voter_after (before ++ (q, Some a) ∷ (q, Some b) ∷ []) ≡ voter_after (before ++ (q, Some a) ∷ []))

-- A group's reply depends only on the requests that this group took. If it took the same requests in two transcripts,
-- and then the same request in both, the two replies are the same.
abbrev pub GroupIsolation : Type 0
GroupIsolation =
    (rounds rounds' : List Round) (cuts cuts' : List ℕ) (group : ℕ) → Explains rounds cuts
    → Explains rounds' cuts'
    → (before later before' later' : List (Request × Option Reply)) (q : Request) (a a' : Reply)
    → group_account group rounds cuts ≡ before ++ (q, Some a) ∷ later
    → group_account group rounds' cuts' ≡ before' ++ (q, Some a') ∷ later'
    → requests_of before ≡ requests_of before' → a ≡ a'

-- After an Append with the reply `Matched`, the voter has an entry at each index above its base and up to the matched
-- one. The voter keeps that entry, with the same term and bytes, as long as every later request spares it (`AllSpare`).
abbrev pub MatchedIsAcknowledged : Type 0
MatchedIsAcknowledged =
    (rounds : List Round) (cuts : List ℕ) (group : ℕ) → Explains rounds cuts
    → (before between later : List (Request × Option Reply)) (term prev prev_term commit last i : ℕ)
    (sent : List (ℕ × List ℕ))
    → group_account group rounds cuts
    ≡ before ++ matched_up_to term prev prev_term commit sent last ∷ between ++ later
    → (voter_after (before ++ matched_up_to term prev prev_term commit sent last ∷ [])).base_index < i
    → i ≤ last
    → AllSpare (voter_after (before ++ matched_up_to term prev prev_term commit sent last ∷ []))
    i between
    → (e : ℕ × List ℕ)
    × (entry_at (voter_after (before ++ matched_up_to term prev prev_term commit sent last ∷ [])) i
    ≡ Some e)
    × (entry_at (voter_after (before ++ matched_up_to term prev prev_term commit sent last ∷ between)) i
    ≡ Some e)

-- If a Read returns entries, it returns `to - from` of them. The k-th, counted from 0, has index `from + k`, and is
-- the voter's entry there.
abbrev pub EntriesAreTheLog : Type 0
EntriesAreTheLog =
    (v : State) (from to : ℕ) (entries : List Entry) → reply v (Read from to) ≡ Entries entries
    → (length entries ≡ to - from)
    × ((k : ℕ) → k < length entries
    → (e : Entry) × (slice_get entries k ≡ Some e) × (e.index ≡ from + k)
    × (entry_at v (from + k) ≡ Some (e.term, e.bytes)))

-- A fresh voter is in range. A voter in range is in range after every request.
abbrev pub RangeIsKept : Type 0
RangeIsKept = IsInRange fresh × ((v : State) (q : Request) → IsInRange v → IsInRange (next v q))

-- A fresh voter can be stored. A voter that can be stored can be stored after every request.
abbrev pub StorableIsKept : Type 0
StorableIsKept = IsStorable fresh × ((v : State) (q : Request) → IsStorable v → IsStorable (next v q))

-- the entries of voter `v`, each with its index; the first is right above the base
abbrev pub log_entries : State → List Entry
log_entries v = numbered (v.base_index + 1) v.log

-- each of these byte strings encodes the entry at the same position in the list; the indexes rise by one from `index`
abbrev pub AreReadAs : ℕ → List (List ℕ) → List Entry → Type 0
AreReadAs index [] [] = Unit {0}
AreReadAs index (bytes ∷ others) (e ∷ es) = IsEntry bytes index e × AreReadAs (index + 1) others es
AreReadAs index others es = ⊥

-- The bytes that are written for the state of voter `v` can be read as state `s`. The bytes that are written for each
-- of its entries can be read as the entry of `es` at the same position.
pub record IsReadOfWritten (v : State) (s : VoterState) (es : List Entry) : Type 0 where
  pub state : IsState (state_text (state_of v)) s
  pub entries : AreReadAs (v.base_index + 1) (map entry_text (log_entries v)) es

-- Suppose voter `v` can be stored. The bytes that are written for `v` can be read as its entries and its state. This
-- state has the base in place of the last entry. Whatever is read from these bytes restores `v`.
abbrev pub StoredVotersAreRestored : Type 0
StoredVotersAreRestored =
    (v : State) → IsStorable v
    → IsReadOfWritten v (bare (state_of v)) (log_entries v)
    × ((s : VoterState) (es : List Entry) → IsReadOfWritten v s es → restored s es ≡ Ok v)
