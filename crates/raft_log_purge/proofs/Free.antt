-- Where nothing is held back, files go.
use Rattle.std.specs.Prelude.{◌≡◌, ℕ, Bool, List, Option, None}
use Rattle.std.proofs.Common.{inl, inr, subst}
use Rattle.raft_log_memtables.specs.declared.mem_tables.MemTables.{MemTables}
use Rattle.raft_log_dual_pipes.specs.Pipes.{LogPipes}
use Rattle.raft_log_purge_copy.specs.raft_log_engine_laws.specs.EngineState.{EngineState}
use Rattle.raft_log_purge_policy.specs.Watermarks.{TakesAppend}
use Rattle.raft_log_purge_policy.specs.declared.thresholds.Thresholds.{Thresholds}
use Rattle.raft_log_purge_policy.specs.declared.rounds.Rounds.{Rounds}
use Rattle.raft_log_purge.specs.Expired.{LosesBelow, PurgesIfPast}
use Rattle.raft_log_purge.specs.Free.{FreeFilesGo}

-- so it is of Append's half
free_files_lost : (thresholds : Thresholds) (held : Option ℕ) (restated : Bool) (before after : MemTables) (old new : Rounds) (groups : List ℕ) (s t : EngineState)
    → PurgesIfPast thresholds held restated before after old new groups s t → held ≡ None → TakesAppend thresholds s.pipes → (copied : EngineState) × LosesBelow None after copied t
free_files_lost thresholds held restated before after old new groups s t (inl (takes, purges)) none past =
    (purges.rewrites.copied, subst (λ h. LosesBelow h after purges.rewrites.copied t) none purges.rewrites.loses)
free_files_lost thresholds held restated before after old new groups s t (inr (leaves, lets)) none past = absurd (leaves past)

pub free_files_go : (hold_back : LogPipes → Option ℕ → Type 0) → FreeFilesGo hold_back
free_files_go hold_back nothing thresholds before after old new groups s t purged past =
    free_files_lost thresholds purged.held purged.restated purged.between after old.rounds new.rounds groups _ t purged.purges (nothing purged.pipes purged.held purged.told) past
