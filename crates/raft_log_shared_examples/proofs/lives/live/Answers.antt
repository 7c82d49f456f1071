use Rattle.raft_log_shared_examples.proofs.Lived.{life_left}
use Rattle.raft_log_shared_examples.proofs.lives.live.Goals as goal

pub returns : goal.returns
returns g c =
    let disk = g.F.FileSystem.disk in
    let shared = c.in_ok-shared.shared in
    let closed = c.close.ensures in
    life_left disk c.args.config (disk c.args.files) _ _ c.args.one c.args.other shared.first shared.second
    c.close.result c.in_ok-engine.ensures c.in_ok-shared.ensures closed.closes closed.first closed.second
