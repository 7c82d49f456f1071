use Rattle.std.proofs.Common.{refl, ◌∙◌}
use Rattle.raft_log_record_base.specs.declared.pipe_log.LogQueue.TheVariants.{Append, Rewrite}
use Rattle.raft_log_recovery.specs.Finishing.FailsToOpenRecovered.{unsynced}
use Rattle.raft_log_recovery.proofs.Opened.{first_of, opens_recovered, recovered_unopened, second_of, third_of, wanted_same}
use Rattle.raft_log_recovery.proofs.builder.DualPipesBuilder.finish.Goals as goal

pub returns-in-Err-sync_all-clause-err : goal.returns-in-Err-sync_all-clause-err
returns-in-Err-sync_all-clause-err g c =
    unsynced c.in-Err-sync_all.kind refl (first_of c.in-Ok.ensures.ok) c.in-Err-sync_all.ensures.err

pub returns-clause-ok : goal.returns-clause-ok
returns-clause-ok g c =
    let D = g.F.FileSystem.disk in
    let b = c.args.self in
    let one = c.recovered_pipe-append.ensures in
    let other = c.recovered_pipe-rewrite.ensures in
    let append = c.recovered_pipe-append.result in
    let rewrite = c.recovered_pipe-rewrite.result in
    opens_recovered c.open.result _ b (D c.args.file_system) (D c.sync_all.new.file_system) append rewrite (first_of c.in-Ok.ensures.ok) c.in_default.ensures.ok
    (record { wanted = wanted_same Append b.config c.in-Ok.pipes.0 append one.layout one.settings (second_of c.in-Ok.ensures.ok); files = one.files; end = one.end; spares = one.spares })
    (record { wanted = wanted_same Rewrite b.config c.in-Ok.pipes.1 rewrite other.layout other.settings (third_of c.in-Ok.ensures.ok); files = other.files; end = other.end; spares = other.spares ∙ c.new.ensures.items })
    c.open.ensures.ok

pub returns-clause-err : goal.returns-clause-err
returns-clause-err g c =
    let D = g.F.FileSystem.disk in
    let b = c.args.self in
    let one = c.recovered_pipe-append.ensures in
    let other = c.recovered_pipe-rewrite.ensures in
    let append = c.recovered_pipe-append.result in
    let rewrite = c.recovered_pipe-rewrite.result in
    recovered_unopened c.open.result _ _ b (D c.args.file_system) (D c.sync_all.new.file_system) append rewrite (first_of c.in-Ok.ensures.ok) c.in_default.ensures.ok
    (record { wanted = wanted_same Append b.config c.in-Ok.pipes.0 append one.layout one.settings (second_of c.in-Ok.ensures.ok); files = one.files; end = one.end; spares = one.spares })
    (record { wanted = wanted_same Rewrite b.config c.in-Ok.pipes.1 rewrite other.layout other.settings (third_of c.in-Ok.ensures.ok); files = other.files; end = other.end; spares = other.spares ∙ c.new.ensures.items })
    c.open.ensures.err
