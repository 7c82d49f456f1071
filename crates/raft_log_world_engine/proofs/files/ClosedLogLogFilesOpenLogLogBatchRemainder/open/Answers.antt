use Rattle.raft_log_engine.specs.raft_log_fs_memory.specs.Memory.{disk_of}
use Rattle.raft_log_recovery_laws.specs.ByCalls.{home_of}
use Rattle.raft_log_world.specs.declared.event.Answer.TheVariants.{Done, Refused}
use Rattle.raft_log_world.specs.declared.event.Event.TheVariants.{Open}
use Rattle.raft_log_world_engine.proofs.Following.{then_closed, then_open}
use Rattle.raft_log_world_engine.proofs.files.ClosedLogLogFilesOpenLogLogBatchRemainder.open.Goals as goal

pub returns-in-Ok-open_with_file_system-clause-ok : goal.returns-in-Ok-open_with_file_system-clause-ok
returns-in-Ok-open_with_file_system-clause-ok g c =
    let old = c.args.self in
    let engine = c.in-Ok-open_with_file_system.engine in
    then_open old.config (disk_of old.files) (Open c.args.workers) Done (home_of old.config) _
    ((c.opens_follow_the_model.ensures old.config c.in-Ok.settings c.in-Ok.ensures old.files).done c.args.workers _ engine.tables engine.cache c.in-Ok-open_with_file_system.ensures.none c.in-Ok-open_with_file_system.ensures.ok)

pub returns-in-Err-clause-err : goal.returns-in-Err-clause-err
returns-in-Err-clause-err g c =
    let old = c.args.self in
    let new = c.in-Err.refused.file_system in
    then_closed old.config old.config (disk_of old.files) (disk_of new) (Open c.args.workers) Refused
    ((c.opens_follow_the_model.ensures old.config c.in-Ok.settings c.in-Ok.ensures old.files).refused c.args.workers c.in-Err.refused.error new c.in-Err.ensures.err)
