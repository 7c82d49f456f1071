use Rattle.raft_log_shared_examples.proofs.Lived.{opens_resting}
use Rattle.raft_log_shared_examples.proofs.lives.open.Goals as goal

pub returns-in-Ok : goal.returns-in-Ok
returns-in-Ok g c =
    let e = c.in-Ok.engine in
    opens_resting g.F.FileSystem.disk g.F.FileSystem.tells_space c.opens_follow_the_model.ensures c.args.config
    c.args.files _ e.tables e.cache c.in-Ok.ensures.none c.in-Ok.ensures.ok
