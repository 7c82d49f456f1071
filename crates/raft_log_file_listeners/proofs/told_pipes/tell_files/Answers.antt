use Rattle.std.proofs.Common.{arith, subst}
use Rattle.raft_log_dual_pipes.specs.LastFile.{last_of}
use Rattle.raft_log_dual_pipes.specs.Pipes.{files_of, which_of}
use Rattle.raft_log_dual_pipes.specs.State.{pipe_at}
use Rattle.raft_log_dual_pipes.proofs.Public.{a_file, hears_all}
use Rattle.raft_log_file_listeners.proofs.Tellings.{hears_begun}
use Rattle.raft_log_file_listeners.proofs.told_pipes.tell_files.Goals as goal

pub returns : goal.returns
returns g c =
    let hears = g.E.EventListener.hears in
    let queue = c.args.queue in
    let v = g.P.PipeLog.shown c.args.pipes.now in
    let mid = c.post_new_log_file.new.self in
    let new = c.tell_new_files.new.listener in (
      mid,
      subst (λ n. hears (a_file queue n) c.args.listener.now mid) c.file_span-first.ensures.first
          (hears_begun hears c.new.result queue c.file_span-first.result.0 c.args.listener.now mid c.new.ensures.queue c.new.ensures.seq c.post_new_log_file.ensures),
      hears_all hears queue c.file_span-first.result.0 c.file_span-first.result.1 c.file_span-first.result.1 (pipe_at (which_of queue) (files_of v)).first_seq (last_of (which_of queue) v) mid new
          c.file_span-first.ensures.first c.file_span-first.ensures.last (omega arith) (omega arith) c.tell_new_files.ensures,
    )
