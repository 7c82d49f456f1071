-- A store that is closed is left, and its log goes on.
use Rattle.std.proofs.Common.{◌≡◌, ℕ, false, List, [], refl, subst, sym}
use Rattle.raft_log_fs.specs.Disk.{Disk as OnDisk}
use Rattle.raft_voter_durability_laws.specs.raft_log_engine_laws.specs.Holding.{Represents}
use Rattle.raft_voter_durability_laws.specs.raft_log_engine_laws.specs.EngineState.{LogDirectories, LogMap, EngineState, has_failed}
use Rattle.raft_voter_durability_laws.specs.raft_log_engine_laws.proofs.Public.{closed_engines_are_left}
use Rattle.raft_log_recovery_laws.specs.ByCalls.{home_of}
use Rattle.raft_voter.specs.Service.{CutRound, MayFollow}
use Rattle.raft_voter_durability_laws.specs.Standing.{IsLeftAmong}
use Rattle.raft_voter_durability_laws.proofs.Public.{left_alone}
use Rattle.raft_voter_log.proofs.Public.{crashed_voters_are_found, follows_none, left_voters_are_found, some_append, some_rewrite}
use Rattle.raft_voter_store.specs.Service.{LeavesAt}
use Rattle.raft_voter_store.specs.Service.LeavesAt.{left as is_left, running}
use Rattle.raft_voter_log.specs.Instance.{ClosesStore}
use Rattle.raft_voter_shared_log.specs.GoingOn.{ClosedStoresGoOn}

-- an engine that holds a map hasn't failed
pub holding_lives : (home : LogDirectories) (s : EngineState) (m : LogMap) → Represents home s m [] → has_failed s ≡ false
holding_lives home s m h =
    let one : s.pipes.append.failed ≡ false = h.runs.append.alive in
    let other : s.pipes.rewrite.failed ≡ false = h.runs.rewrite.alive in
    rw (one, other) refl

pub closed_is_left : (home : LogDirectories) (s : EngineState) (d : OnDisk) (cut : CutRound) → LeavesAt home s cut → ClosesStore s d → IsLeftAmong home d (MayFollow cut)
closed_is_left home s d cut (running W none keeps) closes =
    left_alone home d keeps.map (MayFollow cut) W (closed_engines_are_left home s keeps.map [] d keeps.holds (closes.held (holding_lives home s keeps.map keeps.holds))) (follows_none cut W none) keeps.means
closed_is_left home s d cut (is_left failed l) closes = subst (λ (x : OnDisk). IsLeftAmong home x (MayFollow cut)) (sym (closes.failed failed)) l

pub closed_stores_go_on : {F : Type 0} (disk : F → OnDisk) (tells : F → List ℕ → ℕ → Type 0) → ClosedStoresGoOn disk tells
closed_stores_go_on disk tells config s closed cut at closes =
    let home = home_of config in
    let left = closed_is_left home s (disk closed) cut at closes in (
      left,
      λ old sound crash. crashed_voters_are_found disk tells home (some_append config) (some_rewrite config) (disk closed) cut left old sound crash,
      λ sound chance. left_voters_are_found disk tells home (some_append config) (some_rewrite config) closed cut left sound chance,
    )
