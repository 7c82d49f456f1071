-- One event of a run: the moments that it makes, and what the notes have after it. In this file, a world is a storage,
-- the notes of the run so far, and what a stop would leave (`left`). `v`, `u` and `d` are what the store and its disk
-- promise, and `event` is the event's number.
use Rattle.std.specs.Prelude.{◌≡◌, ℕ, false, List, ◌++◌, None}
use Rattle.raft_voter.specs.Service.{Service}
use Rattle.raft_voter_world.specs.declared.event.Event.{Event}
use Rattle.raft_voter_world.specs.declared.event.Event.TheVariants.{Maintain, RewriteAppend, RewriteRewrite}
use Rattle.raft_voter_world.specs.declared.faults.Purge.{Purge}
use Rattle.raft_voter_world.specs.declared.faults.Purge.TheVariants.{Expired, RewriteAppend as Append, RewriteRewrite as Rewrite}
use Rattle.raft_voter_world.specs.declared.notes.Notes.{Notes}
use Rattle.raft_voter_world.specs.declared.storage.Storage.{Storage}
use Rattle.raft_voter_world.specs.declared.storage.Storage.TheVariants.{Closed, Open}
use Rattle.raft_voter_world.specs.declared.world.World.{World}
use Rattle.raft_voter_world.specs.Cuts.{AreLeast, cuts_in, lost_at, next_place}
use Rattle.raft_voter_world.specs.History.{Falls, Happen, Moment, Turns, behind_all, left_from, rounds_in}
use Rattle.raft_voter_world.specs.Notes.{all_cuts, all_rounds, cut_of}
use Rattle.raft_voter_world.specs.Stores.{Disk, Upkeep}

-- notes `new` are `old` with the rounds and cuts of these moments, and with `event` once for each open that lost
-- voters
pub record Grows {S F : Type 0} (event : ℕ) (old : Notes) (ms : List (Moment S F)) (new : Notes) : Type 0 where
  pub rounds : all_rounds new ≡ all_rounds old ++ rounds_in ms
  pub cuts : (last : ℕ) (rest : List (Moment S F))
      → all_cuts old (next_place last (ms ++ rest)) ++ cuts_in last (ms ++ rest)
      ≡ all_cuts new (next_place last rest) ++ cuts_in last rest
  pub least : (rest : List (Moment S F)) → AreLeast (cut_of new) rest → AreLeast (cut_of old) (ms ++ rest)
  pub lost : new.lost.items ≡ old.lost.items ++ lost_at event ms

-- if a store is open and hasn't failed, `IsSo` is true
abbrev pub WhereAlive : {S F : Type 0} → Service S → Storage S F → Type 0 → Type 0
WhereAlive v (Closed files) IsSo = Unit {0}
WhereAlive v (Open store) IsSo = v.is_failed store ≡ false → IsSo

-- if a store is open and hasn't failed, no round is unsettled
abbrev pub IsReady : {S F : Type 0} → Service S → World S F → Type 0
IsReady v world = WhereAlive v world.storage (world.notes.unsettled ≡ None)

-- these moments happened in world `old` and were noted, and the world is `new` afterwards
pub record Moves {S F : Type 0} (v : Service S) (u : Upkeep S) (d : Disk S F) (event : ℕ) (old : World S F)
    (ms : List (Moment S F)) (new : World S F) : Type 0 where
  pub happened : Happen v u d old.storage ms
  pub now : new.storage ≡ behind_all old.storage ms
  pub noted : Grows event old.notes ms new.notes
  pub ready : IsReady v old → IsReady v new

-- If the disk of world `old` has stopped, a crash happened and left of the unsynced changes what `old.left` says.
-- Otherwise nothing happened. The world is `new` afterwards, with the same `left`.
pub record Falling {S F : Type 0} (v : Service S) (u : Upkeep S) (d : Disk S F) (event : ℕ) (old : World S F)
    (new : World S F) : Type 0 where
  pub moments : List (Moment S F)
  pub falls : Falls u d old.left old.storage moments
  pub moves : Moves v u d event old moments new
  pub left : new.left ≡ old.left

-- event number `place` of the run happened in world `old` and was noted, and the world is `new` afterwards
pub record IsStep {S F : Type 0} (v : Service S) (u : Upkeep S) (d : Disk S F) (place : ℕ) (event : Event) (old : World S F)
    (new : World S F) : Type 0 where
  pub moments : List (Moment S F)
  pub turns : Turns u d old.left old.storage event moments
  pub moves : Moves v u d place old moments new
  pub left : new.left ≡ left_from event old.left

-- the event that asks for this purge
abbrev pub event_of : Purge → Event
event_of Expired = Maintain
event_of Append = RewriteAppend
event_of Rewrite = RewriteRewrite
