use Rattle.std.proofs.Common.{List, ℕ, ◌∙◌, ap, sym, subst, map}
use Rattle.std.proofs.lemmas.List.{length-map}
use Rattle.std.proofs.lemmas.Result.{err_from_is_err_and}
use Rattle.std.specs.String.{string_bytes}
use Rattle.raft_log_fs.specs.Reading.{IsOpened}
use Rattle.raft_log_fs.specs.declared.handle.Handle.{Handle}
use Rattle.raft_log_recovery_scan.specs.Found.{found_path}
use Rattle.raft_log_active_file.specs.Layout.{place_of}
use Rattle.raft_log_recovery_scan.proofs.FoundLemmas.{limit_small}
use Rattle.raft_log_recovery_scan.proofs.OpeningLemmas.{name_fails, not_opened}
use Rattle.raft_log_recovery_scan.proofs.scanning.opening.open_file.Goals as goal

pub returns-in_err-path-clause-err : goal.returns-in_err-path-clause-err
returns-in_err-path-clause-err g c =
    let gave = err_from_is_err_and c.from_residual.result c.from_residual.ensures.1 in
    rw (gave.1, gave.2) (name_fails (g.F.FileSystem.disk c.args.file_system.now) c.args.found.seq c.in_err-path.field-0.0
    (limit_small c.args.found.signed c.args.found.seq c.requires.small) c.in_err-path.ensures.err)

pub returns-in-Err-clause-err : goal.returns-in-Err-clause-err
returns-in-Err-clause-err g c =
    let d = g.F.FileSystem.disk c.args.file_system.now in
    let path = c.as_str.ensures.value ∙ c.in_ok-path.ensures.ok in
    not_opened c.as_str.result.now d c.in-Err.kind c.has_stopped.result c.refusal.result (λ none. c.requires.there (sym (ap d.names path) ∙ none)) c.in-Err.ensures.err c.refusal.ensures c.has_stopped.ensures

pub returns-clause-ok : goal.returns-clause-ok
returns-clause-ok g c =
    let d = g.F.FileSystem.disk c.args.file_system.now in
    let path = c.as_str.ensures.value ∙ c.in_ok-path.ensures.ok in
    record {
      seq = c.file_of.ensures.seq;
      path_id = c.file_of.ensures.path_id ∙ ap (λ (n : ℕ). place_of n c.args.found.path_id c.args.found.signed) (sym (length-map c.args.paths.now string_bytes));
      reserved = c.file_of.ensures.reserved;
      format = c.file_of.ensures.format;
      opened = subst (λ (h : Handle). IsOpened (found_path c.args.kind (map string_bytes c.args.paths.now) c.args.found) c.args.permission h d) (sym c.file_of.ensures.handle)
          (subst (λ (l : List ℕ). IsOpened l c.args.permission c.in-Ok.handle d) path c.in-Ok.ensures.ok);
    }
