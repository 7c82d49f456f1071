-- A plan is the reply, the next state and the write that an outline gives for a request in range. Here a plan becomes a
-- decision, and a decided change is made to an outline.
use Rattle.std.specs.Prelude.{◌≡◌, ℕ, ◌+◌, ◌^◌, ◌<◌, ◌≤◌, nat_lt, nat_le, if◌then◌else◌, List, [], drop, None, MatchOption}
use Rattle.raft_voter_messages.specs.declared.reply.Reply.TheVariants.{Entries as EntriesReply, Gone, Unknown}
use Rattle.raft_voter_messages.specs.declared.request.Request.{Request}
use Rattle.raft_voter_outline.specs.declared.outline.decision.Answer.{Answer}
use Rattle.raft_voter_outline.specs.declared.outline.decision.Answer.TheVariants.{Told, Entries as EntriesAnswer}
use Rattle.raft_voter_outline.specs.declared.outline.decision.Change.{Change}
use Rattle.raft_voter_outline.specs.declared.outline.decision.Decision.{Decision}
use Rattle.raft_voter_outline.specs.declared.outline.decision.Write.{Write}
use Rattle.raft_voter_outline.specs.declared.outline.decision.Write.TheVariants.{StateAlone, Entries, CompactTo, Clean}
use Rattle.raft_voter_outline.specs.declared.outline.plans.Plan.{Plan}
use Rattle.raft_voter_outline.specs.Outlines.{CanWrite, log_written, RestsOn, sent_of, stored_state, without_bytes}
use Rattle.raft_voter_outline.specs.Runs.{bare, runs_behind, Terms}
use Rattle.raft_voter_outline.specs.Rules.{next}
use Rattle.raft_voter_outline.specs.State.{State, last_index}

-- The answer of outline `o` to a Read of the indexes from `from` to below `to`. It is the reply, or, if the reply needs
-- entries, the range of their indexes.
abbrev pub read_answer : State → ℕ → ℕ → Answer
read_answer o from to =
    if nat_le from o.base_index then Told (Gone o.base_index)
    else if nat_le to from then Told (EntriesReply [])
    else if nat_lt (last_index o + 1) to then Told (Unknown (last_index o))
    else EntriesAnswer from to

-- This write of plan `p` changes nothing of outline `o`. The plan keeps the stored state, and the write is
-- `StateAlone`, or the `Clean` of an empty log.
abbrev pub Stays : State → Plan → Write → Type 0
Stays o p StateAlone = p.state ≡ stored_state o
Stays o p (Entries skipped index) = ⊥
Stays o p (CompactTo index) = ⊥
Stays o p Clean = (p.state ≡ stored_state o) × (o.log ≡ [])

-- Decision `d` has the plan's reply. If the plan's state and write change outline `o`, the decision has this state and
-- write as its change. Otherwise the decision has no change.
pub record SettlesPlan (o : State) (p : Plan) (d : Decision) : Type 0 where
  pub answer : d.answer ≡ Told p.reply
  pub change :
      MatchOption d.change (Stays o p p.write)
      (λ c. (c ≡ record { state = p.state; write = p.write }) × ¬ Stays o p p.write)

-- Changes, as they are made.

-- the entries of request `q` that this write appends to the log
abbrev pub entries_in : Write → Request → List (ℕ × List ℕ)
entries_in (Entries skipped index) q = drop skipped (sent_of q)
entries_in _ q = []

-- The most runs of equal terms that the appended entries can add to an outline. It is the number of their own runs: all
-- are new if the entry before them has another term.
abbrev pub runs_needed : Write → Request → ℕ
runs_needed w q = runs_behind None (entries_in w q)

-- `room` is enough for the most runs that the appended entries can add
abbrev pub HasRunRoom : Write → Request → ℕ → Type 0
HasRunRoom w q room = runs_needed w q ≤ room

-- the room falls from `old` to `new` by at most the number of runs that the appended entries can add
abbrev pub UsesRoom : Write → Request → ℕ → ℕ → Type 0
UsesRoom w q old new = old ≤ new + runs_needed w q

-- `t` has the base index of voter `v`, and the terms of the voter's entries
pub record AreTermsOf (v : State) (t : Terms) : Type 0 where
  pub base_is : t.base ≡ v.base_index
  pub log_is : t.log ≡ bare v.log

-- Change `c` for request `q` can be made to terms `t`. Some voter has these terms, and the change's write is possible
-- for it. The change's base index fits this write (`RestsOn`), and is in range.
pub record CanChange (t : Terms) (q : Request) (c : Change) : Type 0 where
  pub voter : State
  pub terms_of : AreTermsOf voter t
  pub can : CanWrite c.write q voter
  pub rests : RestsOn c.write voter c.state.base_index
  pub small : c.state.base_index < 2 ^ 63

-- `new` is `old` after change `c` for request `q`, and has the change's base index. Once the change's write is made to
-- a voter with the terms `old`, the voter's log has the terms `new`.
abbrev pub ChangesTerms : Terms → Request → Change → Terms → Type 0
ChangesTerms old q c new =
    (new.base ≡ c.state.base_index)
    × ((v : State) → AreTermsOf v old → new.log ≡ bare (log_written c.write (sent_of q) v))

-- each voter with outline `o` has outline `new` after request `q`
abbrev pub OutlineBecomes : State → Request → State → Type 0
OutlineBecomes o q new = (v : State) → without_bytes v ≡ o → without_bytes (next v q) ≡ new
