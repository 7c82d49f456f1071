use Rattle.raft_log_machine_laws.specs.Calls.Which.{InAppend, InRewrite}
use Rattle.raft_log_dual_pipes.proofs.PairSpans.{span_told}
use Rattle.raft_log_dual_pipes.proofs.dual_pipes.DualPipesPipeLog.file_span.Goals as goal

pub returns-in-Append-clause-span : goal.returns-in-Append-clause-span
returns-in-Append-clause-span g c = rw c.in-Append.is (span_told InAppend _ _ _ c.file_span.ensures.first c.file_span.ensures.last)

pub returns-in-Rewrite-clause-span : goal.returns-in-Rewrite-clause-span
returns-in-Rewrite-clause-span g c = rw c.in-Rewrite.is (span_told InRewrite _ _ _ c.file_span-in-Rewrite.ensures.first c.file_span-in-Rewrite.ensures.last)
