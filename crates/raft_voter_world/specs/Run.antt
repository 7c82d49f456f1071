-- A run: the moments that events make, from the first files to the last close, and what holds for them. `v`, `u` and
-- `d` are as in `History`: what the store and its disk promise.
use Rattle.std.specs.Prelude.{◌≡◌, ℕ, List, [], ◌∷◌, ◌++◌, IsSome}
use Rattle.raft_voter.specs.Rounds.{World, Explains, Leads, fresh_world}
use Rattle.raft_voter.specs.Service.{CutRound, IsOpenAt, MayFollow, Service, uncut}
use Rattle.raft_voter_world.specs.declared.event.Event.{Event}
use Rattle.raft_voter_world.specs.declared.event.Left.{Left}
use Rattle.raft_voter_world.specs.declared.event.Left.TheVariants.{Last}
use Rattle.raft_voter_world.specs.declared.report.WorldReport.{WorldReport}
use Rattle.raft_voter_world.specs.declared.storage.Storage.{Storage}
use Rattle.raft_voter_world.specs.declared.storage.Storage.TheVariants.{Closed, Open}
use Rattle.raft_voter_world.specs.Cuts.{AreLeast, NoneLost, ServeSome, cut_after, cut_by, cuts_in, lost_from}
use Rattle.raft_voter_world.specs.History.{Ends, Happen, Moment, Plays, behind_all, left_from, rounds_in}
use Rattle.raft_voter_world.specs.History.Moment.{opened, unread, fell, unopened, crashed, kept, answered, cut_off, idle}
use Rattle.raft_voter_world.specs.Stores.{Disk, Upkeep}

-- a later open of this storage, even after a crash, finds only voters that are possible after this cut-off round
abbrev pub Knows : {S F : Type 0} → Service S → Disk S F → Storage S F → CutRound → Type 0
Knows v d (Closed files) cut = d.leaves files cut
Knows v d (Open store) cut = v.leaves store cut

-- What holds for these moments, if an open of `storage` finds only voters that are possible after `cut`. After each
-- moment this holds for the next storage and cut-off round. An open that reads voters shows such voters and finds their
-- position. Any other open leaves such voters in the files. `End` is true at the end. After a CRC collision, in files
-- that an open reads or a crash leaves, nothing is claimed.
abbrev pub Goes :
    {S F : Type 0}
    → (v : Service S) (d : Disk S F) → (Storage S F → CutRound → Type 0)
    → (storage : Storage S F) (cut : CutRound) → Knows v d storage cut → List (Moment S F) → Type 0
Goes v d End storage cut known [] = End storage cut
Goes v d End (Closed files) cut known (opened workers store voters place now ∷ ms) =
    d.without_chance files cut known files
    → IsSome place × ((W : World) × MayFollow cut W × ((at : IsOpenAt v now W) × Goes v d End (Open now) (uncut W) at.left ms))
Goes v d End (Closed files) cut known (unread workers store now left ∷ ms) =
    d.without_chance files cut known files
    → (W : World) × MayFollow cut W × ((still : d.leaves left (uncut W)) × Goes v d End (Closed left) (uncut W) still ms)
Goes v d End (Closed files) cut known (fell workers store gone left ∷ ms) =
    d.without_chance files cut known files
    → (W : World) × MayFollow cut W × ((under : d.leaves_under store (uncut W))
    × (d.spares store (uncut W) under left
    → (still : d.leaves left (uncut W)) × Goes v d End (Closed left) (uncut W) still ms))
Goes v d End (Closed files) cut known (unopened workers cause back ∷ ms) =
    d.without_chance files cut known files
    → (still : d.leaves back cut) × Goes v d End (Closed back) cut still ms
Goes v d End (Closed files) cut known (crashed gone left ∷ ms) =
    d.without_chance files cut known left
    → (still : d.leaves left cut) × Goes v d End (Closed left) cut still ms
Goes v d End (Open store) cut known (crashed gone left ∷ ms) =
    (under : d.leaves_under store cut)
    × (d.spares store cut under left → (still : d.leaves left cut) × Goes v d End (Closed left) cut still ms)
Goes v d End storage cut known (kept change now ∷ ms) =
    (still : Knows v d now cut) × Goes v d End now cut still ms
Goes v d End (Open store) cut known (answered round now ∷ ms) =
    (still : v.leaves now (cut_after cut round)) × Goes v d End (Open now) (cut_after cut round) still ms
Goes v d End (Open store) cut known (cut_off round cause now ∷ ms) =
    (still : v.leaves now (cut_by cause cut round)) × Goes v d End (Open now) (cut_by cause cut round) still ms
Goes v d End (Closed files) cut known (idle round now ∷ ms) =
    (still : d.leaves now cut) × Goes v d End (Closed now) cut still ms
Goes v d End storage cut known ms = ⊥

-- what a crash after a stop of the disk leaves, once these events have happened
abbrev pub ending_left : Left → List Event → Left
ending_left gone [] = gone
ending_left gone (e ∷ es) = ending_left (left_from e gone) es

-- all moments of these turns, in order; each turn has the moments of one event
abbrev pub moments_of : {S F : Type 0} → List (List (Moment S F)) → List (Moment S F)
moments_of [] = []
moments_of (ms ∷ mss) = ms ++ moments_of mss

-- How a history of the moments `ms` ends:
-- - `left`: a later open of what it leaves (`storage`) finds only voters that are possible after `cut`.
-- - `explained`: fresh voters that never fail give exactly the replies in its rounds, with their cuts.
-- - `found`: these voters can end as any voters that are possible after `cut`. For that, the last cut-off round may
--   need another cut.
pub record EndsWell {S F : Type 0} (v : Service S) (d : Disk S F) (ms : List (Moment S F)) (storage : Storage S F)
    (cut : CutRound) : Type 0 where
  pub left : Knows v d storage cut
  pub explained : Explains (rounds_in ms) (cuts_in 0 ms)
  pub found : (X : World) → MayFollow cut X → (place : ℕ) × Leads fresh_world (rounds_in ms) (cuts_in place ms) X

-- Suppose that in a history each open finds the first fitting position, no open loses voters, and each store whose
-- voters were read serves some. Then fresh voters that never fail give exactly the replies in its rounds.
abbrev pub AllExplained : {S F : Type 0} → Service S → Upkeep S → Disk S F → Type 0
AllExplained {S} {F} v u d =
    (files : F) (ms : List (Moment S F)) → Happen v u d (Closed files) ms → AreLeast (uncut fresh_world) ms
    → ServeSome v ms → NoneLost ms → Explains (rounds_in ms) (cuts_in 0 ms)

-- Suppose a history starts with files that store no voter, its opens find the first fitting position, and there is no
-- CRC collision. Then each open shows voters that fit at some position. Fresh voters that never fail give exactly the
-- replies in its rounds, and can end as any voters that may be left at its end.
abbrev pub AllTransparent : {S F : Type 0} → Service S → Upkeep S → Disk S F → Type 0
AllTransparent {S} {F} v u d =
    (files : F) (ms : List (Moment S F)) → Happen v u d (Closed files) ms → AreLeast (uncut fresh_world) ms
    → (known : d.leaves files (uncut fresh_world))
    → Goes v d (EndsWell v d ms) (Closed files) (uncut fresh_world) known ms

-- A run of these events that began with these files: what happened, what the report has, and what holds for it.
-- - Suppose no open lost voters, and each store whose voters were read served some. Then fresh voters that never fail
--   give exactly the replies of the transcript.
-- - Suppose the files stored no voter, and there was no CRC collision. Then no open loses voters. Fresh voters that
--   never fail give exactly these replies, and can end as any voters that may be left at the end. A later open of the
--   report's files finds only such voters.
pub record IsRun {S F : Type 0} (v : Service S) (u : Upkeep S) (d : Disk S F) (files : F) (events : List Event)
    (report : WorldReport F) : Type 0 where
  pub turns : List (List (Moment S F))
  pub closing : List (Moment S F)
  pub played : Plays v u d Last (Closed files) events turns
  pub ended : Ends u d (ending_left Last events) (behind_all (Closed files) (moments_of turns)) closing
  pub closed : Happen v u d (behind_all (Closed files) (moments_of turns)) closing
  pub files_left : behind_all (Closed files) (moments_of turns ++ closing) ≡ Closed report.files
  pub rounds : report.transcript.rounds ≡ rounds_in (moments_of turns ++ closing)
  pub cuts : report.cuts ≡ cuts_in 0 (moments_of turns ++ closing)
  pub least : AreLeast (uncut fresh_world) (moments_of turns ++ closing)
  pub lost : report.lost ≡ lost_from 0 turns
  pub explained : ServeSome v (moments_of turns) → report.lost ≡ [] → Explains report.transcript.rounds report.cuts
  pub transparent : (known : d.leaves files (uncut fresh_world))
      → Goes v d (EndsWell v d (moments_of turns ++ closing)) (Closed files) (uncut fresh_world) known
      (moments_of turns ++ closing)
