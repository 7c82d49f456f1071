use Rattle.raft_log_engine_os.proofs.Opened.{limits_set}
use Rattle.raft_log_engine_os.proofs.opening.open_files.Goals as goal

pub returns : goal.returns
returns g c =
    limits_set _ c.args.config.now c.in_ok-files.files c.set_limits.new.files c.in_ok-files.ensures.fresh
    c.in_ok-files.ensures.unset c.in_ok-files.ensures.found c.set_limits.ensures.same c.set_limits.ensures.calls
    c.in_ok-set_limits.ensures.ok
