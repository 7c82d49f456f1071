use Rattle.std.proofs.Common.{map, sym, ◌∙◌, ap, subst}
use Rattle.std.specs.String.{string_bytes}
use Rattle.raft_log_fs.specs.Disk.{Disk}
use Rattle.raft_log_fs.specs.Causes.{IsLater}
use Rattle.raft_log_fs.proofs.Public.{later_then}
use Rattle.raft_log_file_pipe.specs.declared.pipe_files.PipeFiles.{PipeFiles}
use Rattle.raft_log_dual_pipes.specs.Opening.{OpensFound}
use Rattle.raft_log_dual_pipes.proofs.Opened.{append_not_opened, opens_log, rewrite_not_opened}
use Rattle.raft_log_dual_pipes.proofs.dual_pipes.DualPipes.open.Goals as goal

pub returns-in-Err-clause-err : goal.returns-in-Err-clause-err
returns-in-Err-clause-err g c =
    let D = g.F.FileSystem.disk in
    append_not_opened c.args.append c.args.rewrite c.in-Err.error (D c.args.file_system) (D c.open.new.file_system) (g.met.F.FileSystem.sound c.args.file_system) c.in-Err.ensures.err

pub returns-in-Ok-open-clause-ok : goal.returns-in-Ok-open-clause-ok
returns-in-Ok-open-clause-ok g c =
    let D = g.F.FileSystem.disk in
    let one = c.new.ensures.append in
    let other = c.new.ensures.rewrite in
    let first = c.in-Ok.ensures.fields in
    let second = c.in-Ok-open.ensures.fields in
    let mid = D c.open.new.file_system in
    opens_log c.args.append c.args.rewrite (D c.args.file_system) mid _ (g.met.F.FileSystem.sound c.args.file_system) (g.met.F.FileSystem.sound c.open.new.file_system)
    (record {
      queue = ap (λ p. p.layout.queue) one ∙ ap (λ l. l.queue) first.0;
      directories = ap (λ p. map string_bytes p.layout.paths.items) one ∙ ap (λ l. map string_bytes l.paths.items) first.0;
      settings = ap (λ p. p.settings) one ∙ first.1;
      alive = ap (λ p. p.failed) one ∙ first.2;
    })
    (record {
      queue = ap (λ p. p.layout.queue) other ∙ ap (λ l. l.queue) second.0;
      directories = ap (λ p. map string_bytes p.layout.paths.items) other ∙ ap (λ l. map string_bytes l.paths.items) second.0;
      settings = ap (λ p. p.settings) other ∙ second.1;
      alive = ap (λ p. p.failed) other ∙ second.2;
    })
    (subst (λ (files : PipeFiles). OpensFound c.args.append files (D c.args.file_system) mid) (sym (ap (λ p. p.files) one)) c.in-Ok.ensures.ok)
    (subst (λ (d : Disk). OpensFound c.args.rewrite c.new.result.rewrite.files mid d) (sym (ap D c.new.ensures.file_system))
    (subst (λ (files : PipeFiles). OpensFound c.args.rewrite files mid (D c.open-2.new.file_system)) (sym (ap (λ p. p.files) other)) c.in-Ok-open.ensures.ok))

pub returns-in-Err-open-clause-err : goal.returns-in-Err-open-clause-err
returns-in-Err-open-clause-err g c =
    let D = g.F.FileSystem.disk in
    rewrite_not_opened c.args.append c.args.rewrite c.in-Ok.pipe.files c.in-Err-open.error (D c.args.file_system) (D c.open.new.file_system) (D c.open-2.new.file_system) (g.met.F.FileSystem.sound c.args.file_system)
    (g.met.F.FileSystem.sound c.open.new.file_system) c.in-Ok.ensures.ok c.in-Err-open.ensures.err

pub returns-in-Ok-open-clause-later : goal.returns-in-Ok-open-clause-later
returns-in-Ok-open-clause-later g c =
    let D = g.F.FileSystem.disk in
    subst (λ (d : Disk). IsLater (D c.args.file_system) d) (sym (ap D c.new.ensures.file_system))
    (later_then (D c.args.file_system) (D c.open.new.file_system) (D c.open-2.new.file_system) c.open.ensures.later c.open-2.ensures.later)
