use Rattle.std.proofs.Common.{◌≡◌, List, ℕ, IsOk, refl, subst, arith}
use Rattle.std.proofs.lemmas.Result.{err_from_is_err_and}
use Rattle.raft_log_record_base.specs.Fault.{FailsOrMemory}
use Rattle.raft_log_record_frames.specs.Record.{block_of}
use Rattle.raft_log_file_reader.specs.Source.{bytes_of}
use Rattle.raft_log_file_reader.specs.Reader.{IsReadingFile}
use Rattle.raft_log_file_reader.specs.Refused.{FailsToCheckBlock, bytes_at}
use Rattle.raft_log_file_reader.specs.declared.open_file.OpenFile.{OpenFile}
use Rattle.raft_log_file_reader.specs.declared.reader.LogItemBatchFileReader.{LogItemBatchFileReader}
use Rattle.raft_log_file_reader.proofs.Extents.{cannot_fails, fault_fails}
use Rattle.raft_log_file_reader.proofs.reader.LogItemBatchFileReader.check_entry_block.Goals as goal

pub peek-requires-clause-part : goal.peek-requires-clause-part
peek-requires-clause-part g c = (c.requires.reading c.in-Some.file c.in-Some.is).holds

pub returns-in_err-peek-clause-reading : goal.returns-in_err-peek-clause-reading
returns-in_err-peek-clause-reading g c = λ x is.
    let d = g.F.FileSystem.disk c.args.file_system.now in
    let file = c.in-Some.file in
    let same : file ≡ x = cc in
    let reading = c.requires.reading file c.in-Some.is in
    let old = c.args.self.now in
    let new : LogItemBatchFileReader = record { window = c.peek.new.self; file = old.file; valid_offset = old.valid_offset; last_block = old.last_block } in
    subst (λ (f : OpenFile). IsReadingFile d new f) same (record {
      holds = c.in_err-peek.ensures.part;
      within = reading.within;
    })

pub returns-in_err-peek-clause-err : goal.returns-in_err-peek-clause-err
returns-in_err-peek-clause-err g c = λ x is.
    let d = g.F.FileSystem.disk c.args.file_system.now in
    let file = c.in-Some.file in
    let same : file ≡ x = cc in
    let e = c.in_err-peek.field-0.0 in
    let p = err_from_is_err_and c.from_residual.result c.from_residual.ensures.1 in
    rw (p.1, p.2) (λ honest. subst (λ (f : OpenFile). FailsToCheckBlock c.args.block f d e) same
    (cannot_fails file.source d c.args.block.offset c.args.block.offset e (block_of (bytes_at c.args.block file d)) (omega arith) (c.in_err-peek.ensures.err honest)))

pub returns-in_err-_entries-clause-reading : goal.returns-in_err-_entries-clause-reading
returns-in_err-_entries-clause-reading g c = λ x is.
    let d = g.F.FileSystem.disk c.args.file_system.now in
    let file = c.in-Some.file in
    let same : file ≡ x = cc in
    let reading = c.requires.reading file c.in-Some.is in
    let old = c.args.self.now in
    let new : LogItemBatchFileReader = record { window = c.peek.new.self; file = old.file; valid_offset = old.valid_offset; last_block = old.last_block } in
    subst (λ (f : OpenFile). IsReadingFile d new f) same (record {
      holds = c.in_ok-peek.ensures.part;
      within = reading.within;
    })

pub returns-in_err-_entries-clause-err : goal.returns-in_err-_entries-clause-err
returns-in_err-_entries-clause-err g c = λ x is.
    let d = g.F.FileSystem.disk c.args.file_system.now in
    let file = c.in-Some.file in
    let same : file ≡ x = cc in
    let e = c.in_err-_entries.field-0.0 in
    let p = err_from_is_err_and c.from_residual-in_err-_entries.result c.from_residual-in_err-_entries.ensures.1 in
    rw (p.1, p.2) (λ honest.
    let held = c.held-bytes.ensures.bytes (bytes_of file.source d) (c.in_ok-peek.ensures.part.part honest) in
    let fails : FailsOrMemory e (block_of (bytes_at c.args.block file d)) = subst (λ (l : List ℕ). FailsOrMemory e (block_of l)) held c.in_err-_entries.ensures.exact in
    subst (λ (f : OpenFile). FailsToCheckBlock c.args.block f d e) same
    (fault_fails file.source d c.args.block.offset e (block_of (bytes_at c.args.block file d)) fails))

pub returns-clause-reading : goal.returns-clause-reading
returns-clause-reading g c = λ x is.
    let d = g.F.FileSystem.disk c.args.file_system.now in
    let file = c.in-Some.file in
    let same : file ≡ x = cc in
    let reading = c.requires.reading file c.in-Some.is in
    let old = c.args.self.now in
    let new : LogItemBatchFileReader = record { window = c.peek.new.self; file = old.file; valid_offset = old.valid_offset; last_block = old.last_block } in
    subst (λ (f : OpenFile). IsReadingFile d new f) same (record {
      holds = c.in_ok-peek.ensures.part;
      within = reading.within;
    })

pub returns-clause-ok : goal.returns-clause-ok
returns-clause-ok g c = λ x is honest.
    let d = g.F.FileSystem.disk c.args.file_system.now in
    let file = c.in-Some.file in
    let same : file ≡ x = cc in
    let held = c.held-bytes.ensures.bytes (bytes_of file.source d) (c.in_ok-peek.ensures.part.part honest) in
    subst (λ (f : OpenFile). IsOk (block_of (bytes_at c.args.block f d))) same (subst (λ (l : List ℕ). IsOk (block_of l)) held (rw c.in_ok-_entries.ensures.exact refl))
