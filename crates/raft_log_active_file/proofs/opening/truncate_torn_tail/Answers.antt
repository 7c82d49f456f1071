use Rattle.std.proofs.Common.{rules, ℕ, subst, unwrap_or}
use Rattle.std.proofs.lemmas.Result.{err_from_is_err_and}
use Rattle.raft_log_fs.specs.Exits.{Shortens, FailsToShorten}
use Rattle.raft_log_active_file.specs.TakingUp.{FailsToTrim, uncut}
use Rattle.raft_log_active_file.proofs.TakenUp.{fails_to_trim, trimmed_either, untrimmed_either, refusal_synced}
use Rattle.raft_log_active_file.proofs.opening.truncate_torn_tail.Goals as goal

pub returns-in_err-truncate-clause-err : goal.returns-in_err-truncate-clause-err
returns-in_err-truncate-clause-err g c =
    let D = g.F.FileSystem.disk in
    let layout = c.args.layout.now in
    let lawful = g.met.G.PipeFormat.lawful layout in
    let left : FailsToTrim (g.G.PipeFormat.format layout) (g.G.PipeFormat.own layout) c.args.handle c.args.end (D c.args.file_system.now) (D c.truncate.new.self) =
    fails_to_trim (g.G.PipeFormat.format layout) (g.G.PipeFormat.own layout) lawful.format lawful.owns c.args.handle c.args.end c.in_err-truncate.field-0.0
    (D c.args.file_system.now) (D c.truncate.new.self) (g.met.F.FileSystem.sound c.args.file_system.now)
    (uncut (subst (λ (n : ℕ). FailsToShorten c.args.handle n c.in_err-truncate.field-0.0 (D c.args.file_system.now) (D c.truncate.new.self)) c.unwrap_or.ensures c.in_err-truncate.ensures.err)) in
    search (rules, left)

pub returns-in_err-truncate-clause-refusal : goal.returns-in_err-truncate-clause-refusal
returns-in_err-truncate-clause-refusal g c =
    let D = g.F.FileSystem.disk in
    let p = err_from_is_err_and c.from_residual.result c.from_residual.ensures.1 in
    rw (p.1, p.2) (uncut (subst (λ (n : ℕ). FailsToShorten c.args.handle n c.in_err-truncate.field-0.0 (D c.args.file_system.now) (D c.truncate.new.self)) c.unwrap_or.ensures c.in_err-truncate.ensures.err))

pub returns-clause-ok : goal.returns-clause-ok
returns-clause-ok g c =
    let D = g.F.FileSystem.disk in
    let layout = c.args.layout.now in
    let lawful = g.met.G.PipeFormat.lawful layout in
    trimmed_either (g.G.PipeFormat.format layout) (g.G.PipeFormat.own layout) lawful.format lawful.owns c.sync.result c.args.handle c.args.end
    (D c.args.file_system.now) (D c.truncate.new.self) (D c.sync.new.self) (g.met.F.FileSystem.sound c.args.file_system.now)
    (subst (λ (n : ℕ). Shortens c.args.handle n (D c.args.file_system.now) (D c.truncate.new.self)) c.unwrap_or.ensures c.in_ok-truncate.ensures.ok) c.sync.ensures.ok

pub returns-clause-err : goal.returns-clause-err
returns-clause-err g c =
    let D = g.F.FileSystem.disk in
    let layout = c.args.layout.now in
    let lawful = g.met.G.PipeFormat.lawful layout in
    untrimmed_either (g.G.PipeFormat.format layout) (g.G.PipeFormat.own layout) lawful.format lawful.owns c.sync.result c.args.handle c.args.end
    (D c.args.file_system.now) (D c.truncate.new.self) (D c.sync.new.self) (g.met.F.FileSystem.sound c.args.file_system.now)
    (subst (λ (n : ℕ). Shortens c.args.handle n (D c.args.file_system.now) (D c.truncate.new.self)) c.unwrap_or.ensures c.in_ok-truncate.ensures.ok) c.sync.ensures.err

pub returns-clause-refusal : goal.returns-clause-refusal
returns-clause-refusal g c =
    let D = g.F.FileSystem.disk in
    refusal_synced c.sync.result c.args.handle (unwrap_or c.args.end 0) (D c.args.file_system.now) (D c.truncate.new.self) (D c.sync.new.self)
    (subst (λ (n : ℕ). Shortens c.args.handle n (D c.args.file_system.now) (D c.truncate.new.self)) c.unwrap_or.ensures c.in_ok-truncate.ensures.ok) c.sync.ensures.err
