use Rattle.std.proofs.Common.{sym, subst}
use Rattle.std.proofs.lemmas.Result.{err_from_is_err_and}
use Rattle.raft_log_replay.specs.Machines.{DeclinesLater, JoinsLater}
use Rattle.raft_log_replay.specs.Segments.{HasReadSegments, IsChunk}
use Rattle.raft_log_replay.proofs.Held.{kept_apart, read_both, within}
use Rattle.raft_log_replay.proofs.chunk.merge_chunk.Goals as goal

pub returns-clause-ok : goal.returns-clause-ok
returns-clause-ok g c = λ at next h k.
    let source = c.args.source.now in
    let reads = g.M.ReplayMachine.reads (g.S.ReplaySource.queue_of source) in
    let holds = g.S.ReplaySource.holds source in
    let chunk = subst (IsChunk holds reads (g.S.ReplaySource.begins source) (g.S.ReplaySource.refuses source) (g.M.ReplayMachine.declines (g.S.ReplaySource.queue_of source)) at next) c.in_ok-machine.was k in
    let joins = subst (λ q. JoinsLater (g.M.ReplayMachine.reads q) c.args.whole.machine c.in_ok-machine.field-0.machine c.merge.new.self) c.queue.ensures c.in_ok-merge.ensures.ok in
    subst (λ es. HasReadSegments holds reads 0 next c.merge.new.self es) (sym c.in_ok-append.ensures.items)
    (read_both holds reads 0 at next c.args.whole.machine c.in_ok-machine.field-0.machine c.merge.new.self c.args.whole.endings.items c.in_ok-machine.field-0.endings.items h chunk joins)

pub returns-in_err-machine-clause-errors : goal.returns-in_err-machine-clause-errors
returns-in_err-machine-clause-errors g c =
    let source = c.args.source.now in
    let queue = g.S.ReplaySource.queue_of source in
    let p = err_from_is_err_and c.from_residual.result c.from_residual.ensures.1 in
    rw (p.1, p.2) (λ at next last rises le h k.
    within (g.S.ReplaySource.holds source) (g.M.ReplayMachine.reads queue) (g.S.ReplaySource.begins source) (g.S.ReplaySource.refuses source) (g.M.ReplayMachine.declines queue)
    0 at next last c.args.whole.machine c.args.whole.endings.items c.in_err-machine.field-0.0 le h
    (subst (IsChunk (g.S.ReplaySource.holds source) (g.M.ReplayMachine.reads queue) (g.S.ReplaySource.begins source) (g.S.ReplaySource.refuses source) (g.M.ReplayMachine.declines queue) at next) c.in_err-machine.was k))

pub returns-in_err-merge-clause-errors : goal.returns-in_err-merge-clause-errors
returns-in_err-merge-clause-errors g c =
    let source = c.args.source.now in
    let queue = g.S.ReplaySource.queue_of source in
    let p = err_from_is_err_and c.from_residual-in_err-merge.result c.from_residual-in_err-merge.ensures.1 in
    let apart = subst (λ q. DeclinesLater (g.M.ReplayMachine.reads q) (g.M.ReplayMachine.declines q) c.args.whole.machine c.in_ok-machine.field-0.machine c.in_err-merge.field-0.0) c.queue.ensures c.in_err-merge.ensures.errors in
    rw (p.1, p.2) (λ at next last rises le h k.
    kept_apart (g.S.ReplaySource.holds source) (g.M.ReplayMachine.reads queue) (g.S.ReplaySource.begins source) (g.S.ReplaySource.refuses source) (g.M.ReplayMachine.declines queue)
    0 at next last c.args.whole.machine c.in_ok-machine.field-0.machine c.args.whole.endings.items c.in_ok-machine.field-0.endings.items c.in_err-merge.field-0.0 le h
    (subst (IsChunk (g.S.ReplaySource.holds source) (g.M.ReplayMachine.reads queue) (g.S.ReplaySource.begins source) (g.S.ReplaySource.refuses source) (g.M.ReplayMachine.declines queue) at next) c.in_ok-machine.was k) apart)
