use Rattle.std.proofs.Common.{◌+◌, List, take, refl, sym, ap, subst, ◌∙◌}
use Rattle.std.specs.Prelude.{Contains}
use Rattle.std.proofs.lemmas.List.Elements.{Contains-get_or}
use Rattle.std.proofs.lemmas.Result.{err_from_is_err_and}
use Rattle.raft_log_record_base.specs.declared.errors.Error.TheVariants.{Memory}
use Rattle.raft_log_record_base.specs.declared.pipe_log.FileId.{FileId}
use Rattle.raft_log_open.specs.Unpadding.{UnpadsAll}
use Rattle.raft_log_open.proofs.Steps.{left_next, undone, untold, written_next}
use Rattle.raft_log_open.proofs.unpadding.unpad_files.Goals as goal
use Rattle.raft_log_open.proofs.unpadding.unpad_files.Goals.{then-is_written+in_ok-push, else-is_written}

pub unpad_file-requires : goal.unpad_file-requires
unpad_file-requires g c =
    let files = c.args.files.now in
    let file = c.file-item.result in
    c.requires file (subst (Contains files) (sym c.file-item.is) (Contains-get_or files c.loop-file.file-index file c.loop-file-test.true))

pub returns-in_err-is_written-clause-err : goal.returns-in_err-is_written-clause-err
returns-in_err-is_written-clause-err g c =
    let D = g.F.FileSystem.disk in
    let gave = err_from_is_err_and c.from_residual.result c.from_residual.ensures.1 in
    rw (gave.1, gave.2) (undone c.args.files.now c.loop-file.file-index c.file-item.result c.loop-file.written.items c.in_err-is_written.field-0.0 (D c.args.file_system.now) (D c.loop-file.file_system)
    (D c.unpad_file.new.file_system) c.loop-file-test.true c.file-item.is c.loop-file.invariant c.in_err-is_written.ensures.err)

pub returns-in_err-push-clause-err : goal.returns-in_err-push-clause-err
returns-in_err-push-clause-err g c =
    let D = g.F.FileSystem.disk in
    let gave = err_from_is_err_and c.from_residual-in_err-push.result c.from_residual-in_err-push.ensures.1 in
    rw (gave.1, gave.2) (untold c.args.files.now c.loop-file.file-index c.file-item.result c.loop-file.written.items Memory (D c.args.file_system.now) (D c.loop-file.file_system)
    (D c.unpad_file.new.file_system) c.loop-file-test.true c.file-item.is c.loop-file.invariant (rw c.if-is_written.true at c.in_ok-is_written.ensures.ok) refl)

pub loop-file-preserved : goal.loop-file-preserved
loop-file-preserved g c =
    let D = g.F.FileSystem.disk in
    let files = c.args.files.now in
    let i = c.loop-file.file-index in
    let old = D c.args.file_system.now in
    let mid = D c.loop-file.file_system in
    let new = D c.unpad_file.new.file_system in
    let written = c.loop-file.written.items in
    elim c.if-is_written.branch [
      | then-is_written+in_ok-push w ↦
          subst (λ (l : List FileId). UnpadsAll (take (i + 1) files) l old new) (sym (ap (λ v. v.items) w.written-is ∙ w.in_ok-push.ensures.items))
          (written_next files i c.file-item.result written old mid new c.loop-file-test.true c.file-item.is c.loop-file.invariant (rw w.if-is_written.true at c.in_ok-is_written.ensures.ok))
      | else-is_written w ↦
          subst (λ (l : List FileId). UnpadsAll (take (i + 1) files) l old new) (sym (ap (λ v. v.items) w.written-is))
          (left_next files i c.file-item.result written old mid new c.loop-file-test.true c.file-item.is c.loop-file.invariant (rw w.if-is_written.false at c.in_ok-is_written.ensures.ok))
    ]
