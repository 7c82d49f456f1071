-- What a close leaves of a log.
use Rattle.std.proofs.Common.{◌≡◌, true, List, [], sym, subst}
use Rattle.std.specs.Prelude.{Err, Ok, Result}
use Rattle.raft_log_engine.specs.raft_log_model_laws.specs.Groups.{taken}
use Rattle.raft_log_engine.specs.raft_log_record_base.specs.declared.errors.Error.{Error}
use Rattle.raft_log_engine.specs.raft_log_fs.specs.Disk.{Disk as OnDisk}
use Rattle.raft_log_engine.specs.raft_log_dual_pipes.specs.Pipes.{LogRecordValue}
use Rattle.raft_log_engine.specs.raft_log_engine_core.specs.ModelCalls.{ClosesModel, IsClosedLog}
use Rattle.raft_log_engine.specs.raft_log_engine_laws.specs.EngineState.{LogDirectories, LogMap, EngineState, has_failed}
use Rattle.raft_log_engine.specs.raft_log_engine_laws.specs.Holding.{Represents, IsRecoverableAs}

-- A close of an engine left these files: what they have.
pub record IsClosed (home : LogDirectories) (e : EngineState) (d : OnDisk) : Type 0 where
  pub held : (m : LogMap) (pending : List LogRecordValue) → Represents home e m pending → IsRecoverableAs home d m pending
  pub failed : has_failed e ≡ true → (m : LogMap) (pending : List LogRecordValue) → IsRecoverableAs home e.pipes.disk m pending → IsRecoverableAs home d m pending

module _ (home : LogDirectories) (e : EngineState) (d : OnDisk) (r : Result (Unit {0}) Error) (closes : ClosesModel r e d) where
  -- one that failed
  pub closed : (error : Error) → r ≡ Err error → IsClosed home e d
  closed error is =
      let failed : ClosesModel (Err error) e d = subst (λ (q : Result (Unit {0}) Error). ClosesModel q e d) is closes in record {
        held = λ m pending h. (let (next, same, at) = failed.runs home m pending h in subst (IsClosedLog home d) same at);
        failed = λ fails m pending left. subst (λ (x : OnDisk). IsRecoverableAs home x m pending) (sym (failed.fails fails).1) left;
      }

  -- one that succeeded
  pub settled : (done : Unit {0}) → r ≡ Ok done → (m : LogMap) (pending : List LogRecordValue) → Represents home e m pending → IsRecoverableAs home d (taken m pending) []
  settled done is m pending h =
      let good : ClosesModel (Ok done) e d = subst (λ (q : Result (Unit {0}) Error). ClosesModel q e d) is closes in
      let (next, same, at) = good.runs home m pending h in
      subst (IsClosedLog home d) same at
