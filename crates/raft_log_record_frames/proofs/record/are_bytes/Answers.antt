use Rattle.std.proofs.Common.{arith}
use Rattle.raft_log_record_frames.proofs.Written.{are_bytes}
use Rattle.raft_log_record_frames.proofs.record.are_bytes.Goals as goal

pub returns : goal.returns
returns c = are_bytes c.args.bytes.now (λ i. omega (arith, c.type_inv.bytes i))
