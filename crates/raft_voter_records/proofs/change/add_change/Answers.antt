use Rattle.std.proofs.lemmas.Result.{on_ok_weaker}
use Rattle.raft_voter_records.proofs.BoundLemmas.{then_state}
use Rattle.raft_voter_records.proofs.change.add_change.Goals as goal

pub returns-in-Ok-clause-ok : goal.returns-in-Ok-clause-ok
returns-in-Ok-clause-ok c =
    on_ok_weaker c.add_state.result (λ more. then_state _ c.add_write.new.batch c.add_state.new.batch c.args.group c.args.change.now.write c.args.change.now.state c.in-Ok.ensures.ok more) c.add_state.ensures.ok
