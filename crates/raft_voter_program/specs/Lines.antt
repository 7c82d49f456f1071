-- The text that is written for voters.
use Rattle.std.specs.Prelude.{ℕ, List, ◌++◌, codes}
use Rattle.std.specs.Fmt.{decimal}
use Rattle.std.specs.List.{flat_map}
use Rattle.raft_voter_messages.specs.declared.reply.Reply.TheVariants.{Status}
use Rattle.raft_voter_messages.specs.ReplyText.{reply_text}
use Rattle.raft_voter_outline.specs.State.{State, state_of}

-- a line with the group and its voter's reply to `Status`
unfoldable pub voter_text : ℕ → State → List ℕ
voter_text group voter =
    codes "voter " ++ decimal group ++ codes " " ++ reply_text (Status (state_of voter)) ++ codes "\n"

-- one line for each voter, in order
abbrev pub voters_text : List (ℕ × State) → List ℕ
voters_text voters = flat_map (λ voter. voter_text voter.0 voter.1) voters
