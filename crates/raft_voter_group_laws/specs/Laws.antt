-- What a transcript (rounds with their requests and replies) means for one group. `cuts` has, for each round that ended
-- without replies, the position from which on its requests were lost.
use Rattle.std.specs.Prelude.{◌≡◌, ◌↔◌, ◌⊎◌, ℕ, ◌-◌, ◌≤◌, ◌<◌, IsTrue, List, [], ◌∷◌, ◌++◌, length, slice_get, Option, Some}
use Rattle.raft_voter_messages.specs.declared.reply.Entry.{Entry}
use Rattle.raft_voter_messages.specs.declared.reply.Reply.{Reply}
use Rattle.raft_voter_messages.specs.declared.reply.Reply.TheVariants.{Entries}
use Rattle.raft_voter_messages.specs.declared.request.Request.{Request}
use Rattle.raft_voter_messages.specs.declared.request.Request.TheVariants.{Read}
use Rattle.raft_voter_messages.specs.declared.round.Outcome.{Outcome}
use Rattle.raft_voter_messages.specs.declared.round.Outcome.TheVariants.{Answered, Cut}
use Rattle.raft_voter_messages.specs.declared.round.Round.{Round}
use Rattle.raft_voter.specs.Accounts.{group_account, voter_after}
use Rattle.raft_voter.specs.Laws.{AllSpare, matched_up_to, sent_at}
use Rattle.raft_voter.specs.Rounds.{Explains, HasCut, Leads, World, are_rising, cuts_after}
use Rattle.raft_voter_outline.specs.State.{entry_at, fresh}
use Rattle.raft_voter_group_laws.specs.Calls.{after_calls, calls_of, one_voter_shows, replies_seen, taken_of}

-- One voter explains what the callers of `group` saw in these rounds. The voter starts fresh and serves this group's
-- calls. It takes neither refused requests nor those from a round's cut on.
abbrev pub HasOneVoter : ℕ → List Round → List ℕ → Type 0
HasOneVoter group rounds cuts = replies_seen group rounds ≡ one_voter_shows fresh (calls_of group rounds cuts)

-- If voters that never fail explain these rounds, then each group has one voter that explains what its callers saw.
abbrev pub EachGroupHasOneVoter : Type 0
EachGroupHasOneVoter =
    (rounds : List Round) (cuts : List ℕ) → Explains rounds cuts → (group : ℕ) → HasOneVoter group rounds cuts

-- Worlds `W` and `X` give each group's voter. If the rounds lead from `W` to `X`, the callers of each group saw exactly
-- what the group's voter in `W` shows. This voter, after its calls in these rounds, is the group's voter in `X`.
abbrev pub EachGroupKeepsItsVoter : Type 0
EachGroupKeepsItsVoter =
    (W X : World) (rounds : List Round) (cuts : List ℕ) → Leads W rounds cuts X
    → (group : ℕ)
    → (replies_seen group rounds ≡ one_voter_shows (W group) (calls_of group rounds cuts))
    × (X group ≡ after_calls (W group) (calls_of group rounds cuts))

-- If voters that never fail explain these rounds, then the group's account lists exactly the calls that were taken,
-- each with what its caller saw. Many laws of `raft_voter` are about this account.
abbrev pub AccountListsTakenCalls : Type 0
AccountListsTakenCalls =
    (rounds : List Round) (cuts : List ℕ) → Explains rounds cuts
    → (group : ℕ)
    → group_account group rounds cuts ≡ taken_of (calls_of group rounds cuts) (replies_seen group rounds)

-- a round of `size` requests has a reply for each of them; or it was cut off, and the first of `cuts` is at most `size`
abbrev pub OutcomeFits : Outcome → ℕ → List ℕ → Type 0
OutcomeFits (Answered replies) size cuts = length replies ≡ size
OutcomeFits Cut size cuts = HasCut size cuts

-- The refused positions of each round rise and are below the number of its requests. Each round either has a reply for
-- each request, or was cut off at the next of `cuts`. All cuts are used up.
abbrev pub PlacesFit : List Round → List ℕ → Type 0
PlacesFit [] cuts = cuts ≡ []
PlacesFit (r ∷ rounds) cuts =
    IsTrue (are_rising 0 (length r.requests) r.refused) × OutcomeFits r.outcome (length r.requests) cuts
    × PlacesFit rounds (cuts_after r.outcome cuts)

-- voters that never fail explain these rounds exactly if their positions fit and each group has one voter
abbrev pub GroupsAloneExplain : Type 0
GroupsAloneExplain =
    (rounds : List Round) (cuts : List ℕ)
    → Explains rounds cuts ↔ (PlacesFit rounds cuts × ((group : ℕ) → HasOneVoter group rounds cuts))

-- An Append with the reply `Matched` brought entry `e` (a term and bytes) for index `i`. A later Read of the same group
-- returned a range with `i`. Each request taken `between` them leaves the voter's entry at `i` (`AllSpare`). Then the
-- Read returned an entry with index `i` and the term of `e`. Its bytes are those of `e`, or those of an entry of this
-- term that the voter had at `i` before the Append.
abbrev pub AppendedEntryIsRead : Type 0
AppendedEntryIsRead =
    (rounds : List Round) (cuts : List ℕ) (group : ℕ) → Explains rounds cuts
    → (before between later : List (Request × Option Reply)) (term prev prev_term commit last i from to : ℕ)
    (sent : List (ℕ × List ℕ)) (e : ℕ × List ℕ) (entries : List Entry)
    → taken_of (calls_of group rounds cuts) (replies_seen group rounds)
    ≡ before ++ matched_up_to term prev prev_term commit sent last ∷ between
    ++ (Read from to, Some (Entries entries)) ∷ later
    → sent_at prev sent i ≡ Some e → from ≤ i → i < to
    → AllSpare (voter_after (before ++ matched_up_to term prev prev_term commit sent last ∷ [])) i between
    → (bytes : List ℕ)
    × (slice_get entries (i - from) ≡ Some (record { index = i; term = e.0; bytes = bytes }))
    × ((bytes ≡ e.1) ⊎ (entry_at (voter_after before) i ≡ Some (e.0, bytes)))
