-- The events of a run that have been played, and how the run ends. In this file, a world is a storage with the notes of
-- the run so far. `v`, `u` and `d` are what the store and its disk promise.
use Rattle.std.specs.Prelude.{◌≡◌, ◌⊎◌, ℕ, true, false, List, ◌++◌}
use Rattle.raft_voter.specs.Service.{Service}
use Rattle.raft_voter_world.specs.declared.event.Event.{Event}
use Rattle.raft_voter_world.specs.declared.event.Left.{Left}
use Rattle.raft_voter_world.specs.declared.notes.Notes.{Notes}
use Rattle.raft_voter_world.specs.declared.report.WorldReport.{WorldReport}
use Rattle.raft_voter_world.specs.declared.storage.Storage.TheVariants.{Closed}
use Rattle.raft_voter_world.specs.declared.world.World.{World}
use Rattle.raft_voter_world.specs.Cuts.{AreLeast, NoneLost, ServeSome, cuts_in, lost_from, next_place}
use Rattle.raft_voter_world.specs.History.{Crashes, Ends, Happen, Moment, Plays, behind_all, rounds_in}
use Rattle.raft_voter_world.specs.Notes.{all_cuts, all_rounds, cut_of}
use Rattle.raft_voter_world.specs.Run.{ending_left, moments_of}
use Rattle.raft_voter_world.specs.Steps.{IsReady}
use Rattle.raft_voter_world.specs.Stores.{Disk, Upkeep}

-- Notes `new` are `old` with the rounds and cuts of these turns, and the numbers of the events that lost voters. A turn
-- is the list of one event's moments. The first event has number 0.
pub record AddTurns {S F : Type 0} (old : Notes) (turns : List (List (Moment S F))) (new : Notes) : Type 0 where
  pub rounds : all_rounds new ≡ all_rounds old ++ rounds_in (moments_of turns)
  pub cuts : (last : ℕ) (rest : List (Moment S F))
      → all_cuts old (next_place last (moments_of turns ++ rest)) ++ cuts_in last (moments_of turns ++ rest)
      ≡ all_cuts new (next_place last rest) ++ cuts_in last rest
  pub least : (rest : List (Moment S F)) → AreLeast (cut_of new) rest → AreLeast (cut_of old) (moments_of turns ++ rest)
  pub lost : new.lost.items ≡ old.lost.items ++ lost_from 0 turns

-- these events happened in world `old` and were noted, and the world is `new` afterwards
pub record HasPlayed {S F : Type 0} (v : Service S) (u : Upkeep S) (d : Disk S F) (old : World S F) (events : List Event)
    (new : World S F) : Type 0 where
  pub turns : List (List (Moment S F))
  pub played : Plays v u d old.left old.storage events turns
  pub now : new.storage ≡ behind_all old.storage (moments_of turns)
  pub left : new.left ≡ ending_left old.left events
  pub noted : AddTurns old.notes turns new.notes
  pub ready : IsReady v old → IsReady v new

-- If the disk of `files` runs, `kept` are `files`. If it has stopped, `kept` are what a crash left of `files`. `gone`
-- says what that crash left of the unsynced changes.
abbrev pub Stands : {S F : Type 0} → Service S → Disk S F → F → Left → F → Type 0
Stands v d files gone kept =
    ((d.has_stopped files ≡ false) × (kept ≡ files))
    ⊎ ((d.has_stopped files ≡ true) × Crashes v d (Closed files) gone kept)

-- A run ended in this world, and `report` is its report. The moments `closing` closed a store that was open. If no open
-- read the voters after the last cut-off round, this round's cut in the report is 0.
pub record Ended {S F : Type 0} (v : Service S) (u : Upkeep S) (d : Disk S F) (world : World S F) (report : WorldReport F)
    : Type 0 where
  pub closing : List (Moment S F)
  pub ended : Ends u d world.left world.storage closing
  pub closed : Happen v u d world.storage closing
  pub files_left : behind_all world.storage closing ≡ Closed report.files
  pub rounds : report.transcript.rounds ≡ all_rounds world.notes ++ rounds_in closing
  pub cuts : report.cuts ≡ all_cuts world.notes (next_place 0 closing) ++ cuts_in 0 closing
  pub least : AreLeast (cut_of world.notes) closing
  pub served : ServeSome v closing
  pub none_lost : NoneLost closing
  pub lost : report.lost ≡ world.notes.lost.items
