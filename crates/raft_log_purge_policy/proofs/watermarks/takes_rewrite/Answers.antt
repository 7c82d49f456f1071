use Rattle.raft_log_purge_policy.proofs.watermarks.takes_rewrite.Goals as goal

pub returns-then-is_past : goal.returns-then-is_past
returns-then-is_past g c = (
  (λ is. (c.in-Some.threshold, c.in-Some.is, c.is_past.ensures.0 c.if-is_past.true, c.is_garbage.ensures.0 is)),
  λ takes. let (threshold, same, past, garbage) = takes in c.is_garbage.ensures.1 garbage,
)
