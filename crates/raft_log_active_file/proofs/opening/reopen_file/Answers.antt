use Rattle.std.proofs.Common.{rules}
use Rattle.std.proofs.lemmas.Result.{err_from_is_err_and}
use Rattle.raft_log_active_file.specs.TakingUp.{FailsToReopen, not_trimmed}
use Rattle.raft_log_active_file.proofs.TakenUp.{not_trimmed_not_reopened, reopened_front, reopened_empty, unopened_empty, refusal_empty}
use Rattle.raft_log_active_file.proofs.opening.reopen_file.Goals as goal

pub returns-in_err-truncate_torn_tail-clause-err : goal.returns-in_err-truncate_torn_tail-clause-err
returns-in_err-truncate_torn_tail-clause-err g c =
    let D = g.F.FileSystem.disk in
    let layout = c.args.layout.now in
    let lawful = g.met.G.PipeFormat.lawful layout in
    let left : FailsToReopen (g.G.PipeFormat.format layout) (g.G.PipeFormat.own layout) c.args.handle c.args.end c.args.header.now (D c.args.file_system.now) (D c.truncate_torn_tail.new.file_system) =
    not_trimmed_not_reopened (g.G.PipeFormat.format layout) (g.G.PipeFormat.own layout) lawful.format lawful.owns c.args.handle c.args.end c.args.header.now
    (D c.args.file_system.now) (D c.truncate_torn_tail.new.file_system) c.in_err-truncate_torn_tail.ensures.err in
    search (rules, left)

pub returns-in_err-truncate_torn_tail-clause-refusal : goal.returns-in_err-truncate_torn_tail-clause-refusal
returns-in_err-truncate_torn_tail-clause-refusal g c =
    let p = err_from_is_err_and c.from_residual.result c.from_residual.ensures.1 in
    rw (p.1, p.2) (not_trimmed c.in_err-truncate_torn_tail.ensures.refusal)

pub returns-in-Some-clause-ok : goal.returns-in-Some-clause-ok
returns-in-Some-clause-ok g c =
    let D = g.F.FileSystem.disk in
    let layout = c.args.layout.now in
    let lawful = g.met.G.PipeFormat.lawful layout in
    reopened_front (g.G.PipeFormat.format layout) (g.G.PipeFormat.own layout) lawful.format lawful.owns c.open.result c.args.handle c.args.end c.in-Some.field-0 c.args.header.now
    (D c.args.file_system.now) (D c.truncate_torn_tail.new.file_system) (D c.open.new.file_system) c.in-Some.is (g.met.F.FileSystem.sound c.args.file_system.now)
    c.in_ok-truncate_torn_tail.ensures.ok c.open.ensures.ok

pub returns-in-None-clause-ok : goal.returns-in-None-clause-ok
returns-in-None-clause-ok g c =
    let D = g.F.FileSystem.disk in
    let layout = c.args.layout.now in
    let lawful = g.met.G.PipeFormat.lawful layout in
    reopened_empty (g.G.PipeFormat.format layout) (g.G.PipeFormat.own layout) lawful.format lawful.owns c.begin_file.result c.args.handle c.args.end c.args.header.now
    (D c.args.file_system.now) (D c.truncate_torn_tail.new.file_system) (D c.begin_file.new.file_system) c.in-None.is (g.met.F.FileSystem.sound c.args.file_system.now)
    c.in_ok-truncate_torn_tail.ensures.ok c.begin_file.ensures.ok

pub returns-in-None-clause-err : goal.returns-in-None-clause-err
returns-in-None-clause-err g c =
    let D = g.F.FileSystem.disk in
    let layout = c.args.layout.now in
    let lawful = g.met.G.PipeFormat.lawful layout in
    unopened_empty (g.G.PipeFormat.format layout) (g.G.PipeFormat.own layout) lawful.format lawful.owns c.begin_file.result c.args.handle c.args.end c.args.header.now
    (D c.args.file_system.now) (D c.truncate_torn_tail.new.file_system) (D c.begin_file.new.file_system) c.in-None.is (g.met.F.FileSystem.sound c.args.file_system.now)
    c.in_ok-truncate_torn_tail.ensures.ok c.truncate_torn_tail.ensures.later c.begin_file.ensures.err

pub returns-in-None-clause-refusal : goal.returns-in-None-clause-refusal
returns-in-None-clause-refusal g c =
    let D = g.F.FileSystem.disk in
    refusal_empty c.begin_file.result c.args.handle c.args.end c.args.header.now
    (D c.args.file_system.now) (D c.truncate_torn_tail.new.file_system) (D c.begin_file.new.file_system) c.in-None.is
    c.in_ok-truncate_torn_tail.ensures.calls c.begin_file.ensures.refusal
