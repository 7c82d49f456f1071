-- A node grants its vote, loses power, and another candidate asks for its vote in the same term.
use Rattle.std.specs.Prelude.{◌≡◌, ◌⊎◌, List, [], ◌∷◌}
use Rattle.raft_voter_messages.specs.declared.reply.Reply.{Reply}
use Rattle.raft_voter_messages.specs.declared.reply.Reply.TheVariants.{Denied, Granted, Refused}
use Rattle.raft_voter.specs.Rounds.{World, fresh_world}
use Rattle.raft_voter.specs.Service.{Service, uncut}
use Rattle.raft_voter_world.specs.Stores.{Disk}

-- if the first reply grants the vote in term 5, the second reply is `Denied` or `Refused`
abbrev pub IsVotedOnce : List Reply → List Reply → Type 0
IsVotedOnce first second =
    first ≡ Granted 5 ∷ [] → (second ≡ Denied 5 ∷ []) ⊎ (second ≡ Refused ∷ [])

-- One candidate requested the vote in term 5 before a crash (replies `first`), another one after it (`second`). If all
-- voters are fresh in `files`, and the first candidate got the vote, the second didn't. This requires that there is no
-- CRC collision in `files`, nor in what the crash left of `store` (`left`).
pub record VotesAcrossACrash {S F : Type 0} (v : Service S) (d : Disk S F) (files : F) (first second : List Reply)
    : Type 0 where
  pub store : S
  pub left : F
  pub once : (known : d.leaves files (uncut fresh_world)) → d.without_chance files (uncut fresh_world) known files
      → (taken : World) × ((under : d.leaves_under store (uncut taken)) × (d.spares store (uncut taken) under left
      → (still : d.leaves left (uncut taken)) × (d.without_chance left (uncut taken) still left
      → IsVotedOnce first second)))
