use Rattle.raft_log_engine.specs.raft_log_engine_core.specs.Reads.{shows_of}
use Rattle.raft_log_shared_examples.proofs.Kept.{shares_and_writes}
use Rattle.raft_log_shared_examples.proofs.sharing.share_among.Goals as goal

pub returns : goal.returns
returns g c =
    let (one, other) = c.write_both-first.result in
    let asked = c.write_both-first.ensures in
    let ended = c.end_sharing.ensures in
    shares_and_writes c.synced_writes_are_durable.ensures g.L.Opening.began
    (λ x. shows_of g.P.PipeLog.shown x.engine) (λ x. x.first) (λ x. x.second)
    (shows_of g.P.PipeLog.shown c.args.engine) c.args.one c.args.other one.result other.result one.receipt other.receipt
    asked.one asked.other c.requires.began c.end_sharing.result ended.back ended.first ended.second
