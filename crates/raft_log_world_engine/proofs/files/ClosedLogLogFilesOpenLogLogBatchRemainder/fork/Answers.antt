use Rattle.std.proofs.Common.{List, map, string_bytes, subst}
use Rattle.std.specs.Prelude.{ℕ}
use Rattle.raft_log_engine.specs.raft_log_file_settings.specs.Settings.{settings_of}
use Rattle.raft_log_engine.specs.raft_log_fs_memory.specs.Memory.{disk_of}
use Rattle.raft_log_engine.specs.raft_log_offline.specs.Forks.{FailsToFork, Forks}
use Rattle.raft_log_world.specs.declared.event.Answer.TheVariants.{Done, Refused}
use Rattle.raft_log_world.specs.declared.event.Event.TheVariants.{Fork}
use Rattle.raft_log_world_engine.proofs.Following.{fork_closed}
use Rattle.raft_log_world_engine.proofs.files.ClosedLogLogFilesOpenLogLogBatchRemainder.fork.Goals as goal

pub returns-in-Ok : goal.returns-in-Ok
returns-in-Ok g c =
    let old = c.args.self in
    let to = c.in_directory-config.result in
    let new = c.fork.new.file_system in
    let forks = subst (λ (target : List ℕ). Forks (settings_of old.config) target (map string_bytes c.in-Ok.field-0.copied.items) (disk_of old.files) (disk_of new)) c.as_str.ensures.value c.in-Ok.ensures.ok in
    fork_closed old.config to (disk_of old.files) (disk_of new) c.args.target Done
    (λ apart. (c.copies_follow_the_model.ensures old.config c.args.target old.files new).done to _ c.in_directory-config.ensures apart forks)

pub returns-in-Err : goal.returns-in-Err
returns-in-Err g c =
    let old = c.args.self in
    let new = c.fork.new.file_system in
    let fails = subst (λ (target : List ℕ). FailsToFork (settings_of old.config) target c.in-Err.field-0 (disk_of old.files) (disk_of new)) c.as_str.ensures.value c.in-Err.ensures.err in
    fork_closed old.config old.config (disk_of old.files) (disk_of new) c.args.target Refused
    (λ apart. (c.copies_follow_the_model.ensures old.config c.args.target old.files new).refused _ fails)
