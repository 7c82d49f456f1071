-- What one event, and several, do to a world. A world is an engine or the files of a log, with the answers so far.
use Rattle.std.specs.Prelude.{◌≡◌, List, [], ◌∷◌, ◌++◌, map}
use Rattle.raft_log_world.specs.declared.event.Answer.{Answer}
use Rattle.raft_log_world.specs.declared.event.Event.{Event}
use Rattle.raft_log_world.specs.declared.world.World.{World}
use Rattle.raft_log_world.specs.Logs.{Follows, LogOf}
use Rattle.raft_log_world.specs.Run.{FollowAll, Moment, behind}

-- The event led from world `old` to `new`. Its answer was appended to the world's answers, and the model explains it
-- (`Follows`).
pub record IsStep {S F B C : Type 0} (l : LogOf S F B C) (old : World S F) (event : Event B C) (new : World S F)
    : Type 0 where
  pub answer : Answer
  pub follows : Follows l old.storage event answer new.storage
  pub noted : new.answers.items ≡ old.answers.items ++ answer ∷ []

-- These events, one after another, led from world `old` to `new`. Their answers were appended to the world's answers,
-- and the model explains them (`FollowAll`).
pub record HasPlayed {S F B C : Type 0} (l : LogOf S F B C) (old : World S F) (events : List (Event B C))
    (new : World S F) : Type 0 where
  pub moments : List (Moment S F B C)
  pub played : map (λ m. m.event) moments ≡ events
  pub noted : new.answers.items ≡ old.answers.items ++ map (λ m. m.answer) moments
  pub now : behind old.storage moments ≡ new.storage
  pub follow : FollowAll l old.storage moments
