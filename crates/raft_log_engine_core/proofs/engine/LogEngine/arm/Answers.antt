use Rattle.std.specs.Prelude.{Result, Ok, Err}
use Rattle.std.specs.Result.{OnOk, OnErr}
use Rattle.std.proofs.Common.{refl, ap, ◌≡◌}
use Rattle.raft_log_fs.specs.declared.handle.Fault.{Fault}
use Rattle.raft_log_dual_pipes.specs.Pipes.{ArmsPipes, LogPipes}
use Rattle.raft_log_memtables.specs.declared.mem_tables.MemTables.{MemTables}
use Rattle.raft_log_block_cache.specs.declared.block_cache.BlockCache.{BlockCache}
use Rattle.raft_log_purge.specs.raft_log_engine_laws.specs.EngineState.{shows}
use Rattle.raft_log_engine_core.specs.Whole.{ArmsEngine}
use Rattle.raft_log_engine_core.proofs.engine.LogEngine.arm.Goals as goal

armed : {E : Type 0} (result : Result (Unit {0}) E) (fault : Fault) (v w : LogPipes) (tables : MemTables) (cache : BlockCache) → OnOk result (ArmsPipes fault v w)
    → OnOk result (ArmsEngine fault (shows v tables cache) (shows w tables cache))
armed (Ok done) fault v w tables cache arms = record { pipes = arms; others = refl }
armed (Err e) fault v w tables cache arms = tt

unarmed : {E : Type 0} (result : Result (Unit {0}) E) (v w : LogPipes) (tables : MemTables) (cache : BlockCache) → OnErr result (w ≡ v) → OnErr result (shows w tables cache ≡ shows v tables cache)
unarmed (Ok done) v w tables cache same = tt
unarmed (Err e) v w tables cache same = ap (λ (u : LogPipes). shows u tables cache) same

pub returns-clause-ok : goal.returns-clause-ok
returns-clause-ok g c = armed c.arm.result c.args.fault.now _ _ c.args.self.now.tables c.args.self.now.cache c.arm.ensures.ok

pub returns-clause-err : goal.returns-clause-err
returns-clause-err g c = unarmed c.arm.result _ _ c.args.self.now.tables c.args.self.now.cache c.arm.ensures.err
