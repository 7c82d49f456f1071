-- A store serves a round, loses power, and serves another round.
use Rattle.std.specs.Prelude.{ℕ, List}
use Rattle.raft_voter_messages.specs.declared.reply.Reply.{Reply}
use Rattle.raft_voter_messages.specs.declared.request.Request.{Request}
use Rattle.raft_voter.specs.Rounds.{World, fresh_world}
use Rattle.raft_voter.specs.Service.{Answers, Service, uncut}
use Rattle.raft_voter_world.specs.Stores.{Disk}

-- `first` and `second` are the replies to the rounds `before` and `behind`, one before a crash and one after it. If all
-- voters are fresh in `files`, `first` are the replies of fresh voters, and `second` those of the voters after the
-- first round. This requires that there is no CRC collision in `files`, nor in what the crash left of `store` (`left`).
pub record ServesAcrossACrash {S F : Type 0} (v : Service S) (d : Disk S F) (files : F)
    (before behind : List (ℕ × Request)) (first second : List Reply) : Type 0 where
  pub store : S
  pub left : F
  pub answers : (known : d.leaves files (uncut fresh_world)) → d.without_chance files (uncut fresh_world) known files
      → (taken : World) × Answers fresh_world before first taken
      × ((under : d.leaves_under store (uncut taken)) × (d.spares store (uncut taken) under left
      → (still : d.leaves left (uncut taken)) × (d.without_chance left (uncut taken) still left
      → (behind_both : World) × Answers taken behind second behind_both)))
