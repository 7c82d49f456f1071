-- A store of voters is shared, settled and closed.
use Rattle.std.specs.Prelude.{◌≡◌, false, List}
use Rattle.raft_log_fs.specs.Disk.{Disk}
use Rattle.raft_log_fs.specs.Image.{IsSound}
use Rattle.raft_log_engine.specs.raft_log_engine_laws.specs.EngineState.{EngineState, has_failed}
use Rattle.raft_log_recovery_laws.specs.ByCalls.{home_of}
use Rattle.raft_log_recovery_laws.specs.Closed.{ClosesProperly}
use Rattle.raft_voter_messages.specs.declared.round.Round.{Round}
use Rattle.raft_voter.specs.Rounds.{World}
use Rattle.raft_voter.specs.Service.{IsOpenAt, Service}
use Rattle.raft_voter_rounds.specs.Journal.{IsLegal, reached}
use Rattle.raft_voter_shared_log.specs.LogOpenings.{log_service}
use Rattle.raft_voter_shared_log.specs.declared.store.LogStore.{LogStore}
use Rattle.raft_shared_examples.specs.declared.lives.Shared.{Shared}

-- A store was settled, and the journal has the records of all its rounds. When the store was shared, it served voters
-- of a world for which `served` holds.
-- - `legal`: the journal is legal, starting with these voters.
-- - `serves`: unless the store has failed, it serves the voters after the journal.
pub record IsSettledWhole {S : Type 0} (v : Service S) (served : World → Type 0) (store : S) (journal : List Round)
    : Type 0 where
  pub legal : (W : World) → served W → IsLegal W journal
  pub serves : (W : World) → served W → v.is_failed store ≡ false → ∥ IsOpenAt v store (reached W journal) ∥₁

-- Store `old` was shared, and `new` is the settled store, with this journal of all its rounds.
-- - `legal`: the journal is legal, starting with voters that `old` served.
-- - `serves`: unless `new` has failed, it serves the voters after the journal.
pub record IsSettledFrom {S : Type 0} (v : Service S) (old new : S) (journal : List Round) : Type 0 where
  pub legal : (W : World) → IsOpenAt v old W → IsLegal W journal
  pub serves : (W : World) → IsOpenAt v old W → v.is_failed new ≡ false → ∥ IsOpenAt v new (reached W journal) ∥₁

-- the engine hadn't failed, and its log was closed properly
abbrev pub ClosesWell : EngineState → Disk → Type 0
ClosesWell s d = (has_failed s ≡ false) × ClosesProperly s.pipes d

-- Store `old` was shared, and `shared` is what was left after it was settled and closed.
-- - `legal`: the journal is legal, starting with voters that `old` served.
-- - `settled`, `serves`: the settled store served the voters after the journal.
-- - `named`: the settings of the settled store name the same directories as those in `shared`.
-- - `closes`: the log of the settled store was closed properly.
pub record SharesAndCloses {F : Type 0} (disk : F → Disk) (shows : LogStore F → EngineState) (old : LogStore F)
    (shared : Shared F) : Type 0 where
  pub legal : (W : World) → IsOpenAt (log_service shows) old W → IsLegal W shared.journal.items
  pub settled : LogStore F
  pub serves : (W : World) → IsOpenAt (log_service shows) old W
      → ∥ IsOpenAt (log_service shows) settled (reached W shared.journal.items) ∥₁
  pub named : home_of shared.config ≡ home_of settled.config
  pub sound : IsSound (shows settled).pipes.disk
  pub closes : ClosesProperly (shows settled).pipes (disk shared.files)
