use Rattle.std.proofs.Common.{◌≡◌, ◌+◌, ◌<◌, ◌≤◌, ◌++◌, false, length, map, vec_capacity, vec_len}
use Rattle.std.specs.List.{All}
use Rattle.std.specs.VecDeque.{deque_len}
use Rattle.raft_log_world.specs.declared.event.Call.TheVariants.{Write}
use Rattle.raft_log_shared.proofs.desk.write_all.Given as goal

-- the batches that were written so far and those to come, and room for these
abbrev pub invariant-loop-job : goal.invariant-loop-job
invariant-loop-job g l = record {
  whose : map (λ part. part.ask) l.parts.items ++ map (λ job. job.ask) l.jobs.items ≡ map (λ job. job.ask) l.fn.jobs.items;
  len : length l.parts.items + length l.jobs.items ≡ length l.fn.jobs.items;
  before : All (λ part. part.claim.0 < length l.engine.keeper) l.parts.items;
  calls : map (λ s. s.call) l.engine.keeper ++ map (λ job. Write job.ask.batch false) l.jobs.items
      ≡ map (λ s. s.call) l.fn.engine.keeper ++ map (λ job. Write job.ask.batch false) l.fn.jobs.items;
  room : vec_len l.parts + length l.jobs.items ≤ vec_capacity l.parts;
}

abbrev pub decreases-loop-job : goal.decreases-loop-job
decreases-loop-job g l = deque_len l.jobs
