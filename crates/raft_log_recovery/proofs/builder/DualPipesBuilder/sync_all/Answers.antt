use Rattle.std.proofs.Common.{rules, List, Result, Ok, Err, subst}
use Rattle.std.specs.Prelude.{IfErr}
use Rattle.std.proofs.lemmas.Result.{err_from_is_err_and}
use Rattle.std.specs.declared.io.ErrorKind.{ErrorKind}
use Rattle.raft_log_active_file.specs.declared.format.File.{File}
use Rattle.raft_log_recovery.specs.Finishing.{FailsToSyncLog}
use Rattle.raft_log_recovery.specs.Finishing.FailsToSyncLog.{reserved_unsynced, rewrite_unsynced}
use Rattle.raft_log_recovery.specs.Recovering.{append_files, rewrite_files}
use Rattle.raft_log_recovery.specs.Syncing.{FailsToSyncEach, SyncsEach}
use Rattle.raft_log_recovery.proofs.builder.DualPipesBuilder.sync_all.Goals as goal

-- a refusal that is told in other words
if_err : {T E : Type 0} (r : Result T E) (P Q : E → Type 0) → ((e : E) → P e → Q e) → IfErr r P → IfErr r Q
if_err (Ok x) P Q f h = tt
if_err (Err e) P Q f h = f e h

pub returns-in_err-sync_files-2-clause-err : goal.returns-in_err-sync_files-2-clause-err
returns-in_err-sync_files-2-clause-err g c =
    let D = g.F.FileSystem.disk in
    let b = c.args.self.now in
    let old = D c.args.file_system.now in
    let mid = D c.sync_files.new.file_system in
    let new = D c.sync_files-2.new.file_system in
    let synced : SyncsEach (append_files b) old mid = search rules in
    let gave = err_from_is_err_and c.from_residual-in_err-sync_files-2.result c.from_residual-in_err-sync_files-2.ensures.1 in
    rw (gave.1, gave.2)
    (rewrite_unsynced mid synced (subst (λ (files : List File). FailsToSyncEach files c.in_err-sync_files-2.field-0.0 mid new) c.deref-2.ensures.value c.in_err-sync_files-2.ensures.err))

pub returns-clause-err : goal.returns-clause-err
returns-clause-err g c =
    let D = g.F.FileSystem.disk in
    let b = c.args.self.now in
    let old = D c.args.file_system.now in
    let mid = D c.sync_files.new.file_system in
    let behind = D c.sync_files-2.new.file_system in
    let new = D c.sync_files-3.new.file_system in
    let synced : SyncsEach (append_files b) old mid = search rules in
    let more : SyncsEach (rewrite_files b) mid behind = search rules in
    if_err c.sync_files-3.result (λ (kind : ErrorKind). FailsToSyncEach c.deref-3.result.now kind behind new) (λ (kind : ErrorKind). FailsToSyncLog b kind old new)
    (λ kind fails. reserved_unsynced mid behind synced more (subst (λ (files : List File). FailsToSyncEach files kind behind new) c.deref-3.ensures.value fails)) c.sync_files-3.ensures.err
