-- What calls do to a storage, which is an open store, or the files if no store is open. `v`, `u` and `d` are what the
-- store and its disk promise.
use Rattle.std.specs.Prelude.{◌≡◌, ℕ, List, Option}
use Rattle.raft_voter_messages.specs.declared.request.Request.{Request}
use Rattle.raft_voter.specs.Service.{Service, TakesNothing}
use Rattle.raft_voter.specs.declared.service.Cause.{Cause}
use Rattle.raft_voter.specs.declared.service.Cause.TheVariants.{FileSystem}
use Rattle.raft_voter_world.specs.declared.faults.Purge.{Purge}
use Rattle.raft_voter_world.specs.declared.serving.Served.{Served}
use Rattle.raft_voter_world.specs.declared.serving.Served.TheVariants.{Answered, TookSome, TookNone}
use Rattle.raft_voter_world.specs.declared.storage.Storage.{Storage}
use Rattle.raft_voter_world.specs.declared.storage.Storage.TheVariants.{Closed, Open}
use Rattle.raft_voter_world.specs.History.{IsAnswered, IsCutOff, IsIdle, Keeps}
use Rattle.raft_voter_world.specs.History.Change.{copies, purges}
use Rattle.raft_voter_world.specs.Stores.{Disk, Upkeep}

-- if a store is open, a purge of it, with success or not, changes the storage into `new`; otherwise nothing changes
abbrev pub PurgesIfOpen :
    {S F : Type 0} → Service S → Upkeep S → Disk S F → Purge → Storage S F → Storage S F → Type 0
PurgesIfOpen v u d purge (Open store) new = (refusal : Option Cause) × Keeps v u d (purges purge refusal) (Open store) new
PurgesIfOpen v u d purge (Closed files) new = new ≡ Closed files

-- if no store is open, a copy of the files into this directory, with success or not, changes the storage into `new`;
-- otherwise nothing changes
abbrev pub CopiesIfClosed :
    {S F : Type 0} → Service S → Upkeep S → Disk S F → List ℕ → Storage S F → Storage S F → Type 0
CopiesIfClosed v u d target (Closed files) new =
    (refusal : Option Cause) × Keeps v u d (copies target refusal) (Closed files) new
CopiesIfClosed v u d target (Open store) new = new ≡ Open store

-- How a round of these requests went:
-- - `Answered`: the store replied to it;
-- - `TookSome`: the store cut it off because the file system failed, and may have taken some requests;
-- - `TookNone`: the store cut it off for another cause, or no store was open, and no request was taken.
abbrev pub IsServed :
    {S F : Type 0} → Service S → List (ℕ × Request) → Storage S F → Served → Storage S F → Type 0
IsServed v requests (Open old) (Answered round) (Open new) =
    (round.requests ≡ requests) × IsAnswered v old round new
IsServed v requests (Open old) (TookSome round) (Open new) =
    (round.requests ≡ requests) × IsCutOff v old round FileSystem new
IsServed v requests (Open old) (TookNone round) (Open new) =
    (round.requests ≡ requests) × ((cause : Cause) × TakesNothing cause × IsCutOff v old round cause new)
IsServed v requests (Closed files) (TookNone round) (Closed new) =
    (round.requests ≡ requests) × IsIdle round × (new ≡ files)
IsServed v requests old served new = ⊥
