-- The lines that a node prints for a round, and what they say.
use Rattle.std.specs.Prelude.{◌≡◌, ◌⊎◌, ℕ, List, []}
use Rattle.raft_voter_messages.specs.declared.reply.Reply.{Reply}
use Rattle.raft_voter_messages.specs.declared.request.Request.{Request}
use Rattle.raft_voter_messages.specs.declared.round.Outcome.TheVariants.{Answered, Cut}
use Rattle.raft_voter_session.specs.Text.{round_text}
use Rattle.raft_voter.specs.Service.{AnswersRound, CutsOff, Service}
use Rattle.raft_voter.specs.declared.service.Cause.{Cause}

-- `lines` show round `number` with its replies. These are the replies of the voters of `service`. The round changed the
-- store `old` into `new`.
pub record TellsReplies {S : Type 0} (service : Service S) (number : ℕ) (requests : List (ℕ × Request))
    (lines : List ℕ) (old new : S) : Type 0 where
  pub replies : List Reply
  pub told : lines ≡ round_text number (record { requests = requests; refused = []; outcome = Answered replies })
  pub answers : AnswersRound service requests replies old new

-- `lines` show that round `number` was cut off; they don't show the cause, which was `cause`. The requests at the
-- positions `refused` were refused. The round changed the store `old` into `new`.
pub record TellsCut {S : Type 0} (service : Service S) (number : ℕ) (requests : List (ℕ × Request))
    (lines : List ℕ) (old new : S) : Type 0 where
  pub cause : Cause
  pub refused : List ℕ
  pub told : lines ≡ round_text number (record { requests = requests; refused = refused; outcome = Cut })
  pub cuts : CutsOff service cause refused requests old new

-- `lines` show round `number`: with its replies, or that it was cut off
abbrev pub TellsRound : {S : Type 0} → Service S → ℕ → List (ℕ × Request) → List ℕ → S → S → Type 0
TellsRound service number requests lines old new =
    TellsReplies service number requests lines old new ⊎ TellsCut service number requests lines old new
