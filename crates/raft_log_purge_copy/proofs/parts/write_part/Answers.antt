use Rattle.raft_log_purge_copy.proofs.parts.write_part.Goals as goal

pub returns-clause-counted : goal.returns-clause-counted
returns-clause-counted g c = c.in_ok-block.ensures.counted
