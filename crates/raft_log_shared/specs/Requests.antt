-- Requests of callers to write batches. A second history has the requests, in the order in which they came. Two
-- requests with one number are the same. So a caller can prove that the answer with its request's number is to its own
-- request.
use Rattle.std.specs.Prelude.{◌≡◌, ◌⊎◌, ◌++◌, ℕ, Bool, false, List, [], ◌∷◌, map}
use Rattle.raft_log_record_batches.specs.Batch.{Batch, empty_batch}
use Rattle.raft_log_world.specs.declared.event.Answer.TheVariants.{Idle}
use Rattle.raft_log_world.specs.declared.event.Call.{Call}
use Rattle.raft_log_world.specs.declared.event.Call.TheVariants.{Sync, Write}
use Rattle.raft_log_shared.specs.declared.served.Served.{Served}
use Rattle.raft_log_shared.specs.History.{HasPart}

-- a request: its number among all requests, the batch, and whether its caller waits for a sync
pub record Wish : Type 0 where
  pub number : ℕ
  pub batch : Batch
  pub sync : Bool

-- the record of a request, which isn't served yet, in the history of the requests
abbrev pub asked : Batch → Bool → Served
asked batch sync = record { call = Write batch sync; answer = Idle }

-- the batch that a call writes, or an empty one if the call is no write
abbrev pub batch_of : Call Batch → Batch
batch_of (Write batch sync) = batch
batch_of call = empty_batch 0 0

-- whether a call is a write with a sync
abbrev pub sync_of : Call Batch → Bool
sync_of (Write batch sync) = sync
sync_of call = false

-- the batch of the first of these records
abbrev pub batch_in : List Served → Batch
batch_in [] = empty_batch 0 0
batch_in (s ∷ rest) = batch_of s.call

-- whether the first of these records is that of a write with a sync
abbrev pub sync_in : List Served → Bool
sync_in [] = false
sync_in (s ∷ rest) = sync_of s.call

-- the request that is claimed by a claim in the history of the requests
abbrev pub wish_of : ℕ × List Served → Wish
wish_of claim = record { number = claim.0; batch = batch_in claim.1; sync = sync_in claim.1 }

-- the claim that the history of the requests has this request
abbrev pub claim_of : Wish → ℕ × List Served
claim_of w = (w.number, asked w.batch w.sync ∷ [])

-- the history of the requests has this request
abbrev pub IsAsked : List Served → Wish → Type 0
IsAsked asks w = HasPart asks w.number (asked w.batch w.sync ∷ [])

-- The leader served these requests: it wrote each batch in turn without a sync, and then made at most one sync. `old`
-- are the calls of the history before that, and `new` after it.
abbrev pub AreServed : List Wish → List (Call Batch) → List (Call Batch) → Type 0
AreServed wishes old new = (new ≡ old ++ map (λ w. Write w.batch false) wishes)
    ⊎ (new ≡ (old ++ map (λ w. Write w.batch false) wishes) ++ Sync ∷ [])
