use Rattle.std.proofs.Common.{subst, sym}
use Rattle.raft_log_fs_state.specs.Storage.{contents_of}
use Rattle.raft_log_fs_os.specs.Loading.{StandsAsFound}
use Rattle.raft_log_fs_os.specs.Tracing.{trace_of}
use Rattle.raft_log_fs_os.proofs.Resting.{opened_follows, opened_stands}
use Rattle.raft_log_fs_os.proofs.opening.open_directories.Goals as goal

pub new-requires-clause-follows : goal.new-requires-clause-follows
new-requires-clause-follows g c =
    opened_follows (contents_of c.load_all.new.found.storage) (trace_of c.new-device.result) (trace_of c.write_back_last_files.new.device) (trace_of c.sync_directories.new.device)
    c.new-device.ensures c.write_back_last_files.ensures.same c.sync_directories.ensures.same

pub returns-clause-found : goal.returns-clause-found
returns-clause-found g c =
    subst StandsAsFound (sym c.new.ensures.calls)
    (opened_stands (contents_of c.load_all.new.found.storage) (trace_of c.new-device.result) (trace_of c.write_back_last_files.new.device) (trace_of c.sync_directories.new.device)
    c.new-device.ensures c.write_back_last_files.ensures.same c.sync_directories.ensures.same)
