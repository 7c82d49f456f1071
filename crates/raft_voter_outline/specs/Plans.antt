-- A plan: the reply, the next state and the write that an outline gives for a request in range.
use Rattle.std.specs.Prelude.{◌≡◌, ℕ, nat_lt, if◌then◌else◌, None}
use Rattle.raft_voter_messages.specs.declared.reply.VoterState.{VoterState}
use Rattle.raft_voter_messages.specs.declared.request.Request.{Request}
use Rattle.raft_voter_outline.specs.declared.outline.plans.Plan.{Plan}
use Rattle.raft_voter_outline.specs.Outlines.{stored_state, write_of}
use Rattle.raft_voter_outline.specs.Rules.{next_in_range, reply_in_range}
use Rattle.raft_voter_outline.specs.State.{State}

-- the state with this term and no vote, if the term is higher than its own; otherwise the same state
abbrev pub with_term : VoterState → ℕ → VoterState
with_term s term = if nat_lt s.term term then record s { term = term; vote = None } else s

-- plan `p` has the reply, the next state as it is stored, and the write of request `q` for outline `o`
pub record Plans (o : State) (q : Request) (p : Plan) : Type 0 where
  pub reply_is : p.reply ≡ reply_in_range o q
  pub state_is : p.state ≡ stored_state (next_in_range o q)
  pub write_is : p.write ≡ write_of o q
