use Rattle.raft_log_recovery_read.proofs.Handing.{declines_more, declines_one, takes_more}
use Rattle.raft_log_recovery_read.proofs.taking.take.Goals as goal

pub returns-in-Some : goal.returns-in-Some
returns-in-Some g c = λ start before taken.
    declines_more (g.M.ReplayMachine.reads c.args.id.queue) (g.M.ReplayMachine.declines c.args.id.queue) c.args.id before c.args.items.items start c.args.machine.now c.in-Some.error
    (rw c.in-Some.is at taken)

pub returns-in-Ok : goal.returns-in-Ok
returns-in-Ok g c = λ start before taken.
    takes_more (g.M.ReplayMachine.reads c.args.id.queue) (g.M.ReplayMachine.declines c.args.id.queue) c.args.id before c.args.items.items start c.args.machine.now c.replay.new.self
    (rw c.in-None.is at taken) c.in-Ok.ensures.ok

pub returns-in-Err : goal.returns-in-Err
returns-in-Err g c = λ start before taken.
    declines_one (g.M.ReplayMachine.reads c.args.id.queue) (g.M.ReplayMachine.declines c.args.id.queue) c.args.id before c.args.items.items start c.args.machine.now c.in-Err.error
    (rw c.in-None.is at taken) c.in-Err.ensures.errors
