-- What an engine says of its log once a batch was written to Append.
use Rattle.std.proofs.Common.{refl, sym, subst}
use Rattle.raft_log_fs.specs.Disk.{Disk}
use Rattle.raft_log_file_pipe.specs.Appending.{AppendsAt}
use Rattle.raft_log_machine_laws.specs.Calls.Which.{InAppend}
use Rattle.raft_log_machine_laws.proofs.Public.{append_answered}
use Rattle.raft_log_dual_pipes.specs.Queues.{TwoQueues}
use Rattle.raft_log_dual_pipes.specs.State.{Ties}
use Rattle.raft_log_dual_pipes.specs.Crash.{AllowsIn}
use Rattle.raft_log_dual_pipes.specs.Steps.{next_log}
use Rattle.raft_log_dual_pipes.specs.Writing.{WrittenIsPending}
use Rattle.raft_log_dual_pipes.proofs.AppendStep.{append_is_a_step}

pub written_is_pending : {R E V : Type 0} (log : TwoQueues R E V) → WrittenIsPending log
written_is_pending log two p old new v u m pending h begin queue signed y says after block call first grow =
    let s = h.state in
    let there = subst (λ (d : Disk). AppendsAt log.append.format log.append.own log.append.paths begin queue signed p.append after block d new) (sym h.disk) call in
    let (files, taken_in, last, run, step) = append_is_a_step log two InAppend p s h.run begin queue signed y says after block new there first in
    let ends = append_answered (Ties log) (AllowsIn log) s (next_log InAppend s files new) v m pending h.at u y block.id.seq step grow in
    record {
      done = ends.done;
      rest = ends.rest;
      splits = ends.splits;
      at = record { state = next_log InAppend s files new; disk = refl; run = run; at = ends.at };
    }
