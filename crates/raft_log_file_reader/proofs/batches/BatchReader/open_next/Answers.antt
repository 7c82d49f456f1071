use Rattle.std.proofs.Common.{List, ℕ, subst}
use Rattle.std.proofs.lemmas.Result.{err_from_is_err_and}
use Rattle.raft_log_fs.specs.Reading.{IsOpened}
use Rattle.raft_log_fs.specs.declared.handle.Permission.TheVariants.{ReadOnly}
use Rattle.raft_log_file_reader.specs.Answers.{IsReadOpenRefusal}
use Rattle.raft_log_file_reader.specs.declared.batches.BatchReader.{BatchReader}
use Rattle.raft_log_file_reader.proofs.Openings.{opens_next, unfound_next, unopened_next}
use Rattle.raft_log_file_reader.proofs.batches.BatchReader.open_next.Goals as goal

pub returns-in_err-handle-clause-err : goal.returns-in_err-handle-clause-err
returns-in_err-handle-clause-err g c =
    let d = g.F.FileSystem.disk c.args.file_system.now in
    let new : BatchReader = record { files = c.next.new.self; reader = c.args.self.now.reader } in
    let e = c.in_err-handle.field-0.0 in
    let fails = subst (λ (path : List ℕ). IsReadOpenRefusal path d e) c.as_str.ensures.value c.in_err-handle.ensures.err in
    let p = err_from_is_err_and c.from_residual.result c.from_residual.ensures.1 in
    rw (p.1, p.2) (unfound_next d c.args.self.now new c.in-Some.file e c.in-Some.ensures.items fails c.requires.closed)

pub returns-in_err-_format-clause-err : goal.returns-in_err-_format-clause-err
returns-in_err-_format-clause-err g c =
    let d = g.F.FileSystem.disk c.args.file_system.now in
    let new : BatchReader = record { files = c.next.new.self; reader = c.open.new.self } in
    let e = c.in_err-_format.field-0.0 in
    let handle = c.in_ok-handle.handle in
    let found = subst (λ (path : List ℕ). IsOpened path ReadOnly handle d) c.as_str.ensures.value c.in_ok-handle.ensures.ok in
    let p = err_from_is_err_and c.from_residual-in_err-_format.result c.from_residual-in_err-_format.ensures.1 in
    rw (p.1, p.2) (unopened_next d c.args.self.now new c.in-Some.file handle e c.in-Some.ensures.items found (c.in_err-_format.ensures.err (c.in_err-_format.ensures.receipts g.met.F.FileSystem.truthful)) c.in_err-_format.ensures.closed)

pub returns-clause-ok : goal.returns-clause-ok
returns-clause-ok g c =
    let d = g.F.FileSystem.disk c.args.file_system.now in
    let new : BatchReader = record { files = c.next.new.self; reader = c.open.new.self } in
    let handle = c.in_ok-handle.handle in
    let found = subst (λ (path : List ℕ). IsOpened path ReadOnly handle d) c.as_str.ensures.value c.in_ok-handle.ensures.ok in
    opens_next d c.args.self.now new c.in-Some.file handle c.in_ok-_format._format c.in-Some.ensures.items found c.in_ok-_format.ensures.ok (c.in_ok-_format.ensures.receipts g.met.F.FileSystem.truthful)

pub returns-in_err-_format-clause-reading : goal.returns-in_err-_format-clause-reading
returns-in_err-_format-clause-reading g c = record { reading = c.in_err-_format.ensures.reading; honest = c.in_err-_format.ensures.receipts g.met.F.FileSystem.truthful }

pub returns-clause-reading : goal.returns-clause-reading
returns-clause-reading g c = record { reading = c.in_ok-_format.ensures.reading; honest = c.in_ok-_format.ensures.receipts g.met.F.FileSystem.truthful }
