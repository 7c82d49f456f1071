use Rattle.std.proofs.Common.{refl}
use Rattle.raft_log_engine_laws.proofs.Calling.{written}
use Rattle.raft_log_engine_laws.proofs.calls.batches_are_written.Goals as goal

pub returns : goal.returns
returns c = λ home e t b block m pending h ready call tables kept. written home e t.pipes b block m pending h ready call t refl tables kept
