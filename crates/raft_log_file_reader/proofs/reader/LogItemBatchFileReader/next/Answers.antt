use Rattle.std.proofs.Common.{◌≡◌, ℕ, ◌+◌, ◌<◌, length, refl, subst, ◌∙◌, arith}
use Rattle.std.proofs.lemmas.Result.{err_from_is_err_and}
use Rattle.raft_log_file_reader.specs.Source.{bytes_of}
use Rattle.raft_log_file_reader.specs.Batches.{GoesOnAt, HasBatch, HasBlock, HasNoMore}
use Rattle.raft_log_file_reader.specs.Reader.{IsReadingFile}
use Rattle.raft_log_file_reader.specs.Refused.{FailsBehind}
use Rattle.raft_log_file_reader.specs.declared.open_file.OpenFile.{OpenFile}
use Rattle.raft_log_file_reader.specs.declared.reader.LogItemBatchFileReader.{LogItemBatchFileReader}
use Rattle.raft_log_file_reader.proofs.Opened.{cannot_behind, fails_behind}
use Rattle.raft_log_file_reader.proofs.reader.LogItemBatchFileReader.next.Goals as goal

pub find_record-requires-clause-part : goal.find_record-requires-clause-part
find_record-requires-clause-part g c = (c.requires c.in-Some.file c.in-Some.is).holds

pub find_record-requires-clause-inside : goal.find_record-requires-clause-inside
find_record-requires-clause-inside g c = (c.requires c.in-Some.file c.in-Some.is).within

pub returns-in_err-at-clause-reading : goal.returns-in_err-at-clause-reading
returns-in_err-at-clause-reading g c = λ x is.
    let d = g.F.FileSystem.disk c.args.file_system.now in
    let file = c.in-Some.file in
    let same : file ≡ x = cc in
    let reading = c.requires file c.in-Some.is in
    let old = c.args.self.now in
    let new : LogItemBatchFileReader = record { window = c.find_record.new.window; file = old.file; valid_offset = old.valid_offset; last_block = old.last_block } in
    subst (λ (f : OpenFile). IsReadingFile d new f) same (record {
      holds = c.in_err-at.ensures.part;
      within = reading.within;
    })

pub returns-in_err-at-clause-err : goal.returns-in_err-at-clause-err
returns-in_err-at-clause-err g c = λ file is.
    let d = g.F.FileSystem.disk c.args.file_system.now in
    let open_file = c.in-Some.file in
    let same : open_file ≡ file = cc in
    let offset = c.args.self.now.valid_offset in
    let e = c.in_err-at.field-0.0 in
    let p = err_from_is_err_and c.from_residual.result c.from_residual.ensures.1 in
    rw (p.1, p.2) (λ honest. subst (λ (f : OpenFile). FailsBehind f d offset e) same (cannot_behind open_file d offset e (c.in_err-at.ensures.err honest)))

pub returns-then-at-file-clause-reading : goal.returns-then-at-file-clause-reading
returns-then-at-file-clause-reading g c = λ x is.
    let d = g.F.FileSystem.disk c.args.file_system.now in
    let file = c.in-Some.file in
    let same : file ≡ x = cc in
    let reading = c.requires file c.in-Some.is in
    let old = c.args.self.now in
    let new : LogItemBatchFileReader = record { window = c.find_record.new.window; file = old.file; valid_offset = old.valid_offset; last_block = old.last_block } in
    subst (λ (f : OpenFile). IsReadingFile d new f) same (record {
      holds = c.in_ok-at.ensures.part;
      within = reading.within;
    })

pub returns-then-at-file-clause-ok : goal.returns-then-at-file-clause-ok
returns-then-at-file-clause-ok g c = λ file is honest.
    let d = g.F.FileSystem.disk c.args.file_system.now in
    let open_file = c.in-Some.file in
    let same : open_file ≡ file = cc in
    let reading = c.requires open_file c.in-Some.is in
    let offset = c.args.self.now.valid_offset in
    let content = bytes_of open_file.source d in
    let goes_on = c.in_ok-at.ensures.ok.goes_on honest in
    let end : c.in_ok-at.at ≡ length content = c.if-at-file.true ∙ reading.holds.size in (
      subst (λ (f : OpenFile). HasNoMore f (bytes_of f.source d) offset) same (record { goes_on = subst (λ (n : ℕ). GoesOnAt open_file.format.alignment content offset n) end goes_on }),
      record { file = refl; end = refl; block = refl },
    )

pub returns-in_err-len-clause-reading : goal.returns-in_err-len-clause-reading
returns-in_err-len-clause-reading g c = λ x is.
    let d = g.F.FileSystem.disk c.args.file_system.now in
    let file = c.in-Some.file in
    let same : file ≡ x = cc in
    let reading = c.requires file c.in-Some.is in
    let old = c.args.self.now in
    let new : LogItemBatchFileReader = record { window = c.read_batch.new.window; file = old.file; valid_offset = old.valid_offset; last_block = old.last_block } in
    subst (λ (f : OpenFile). IsReadingFile d new f) same (record {
      holds = c.in_err-len.ensures.part;
      within = reading.within;
    })

pub returns-in_err-len-clause-err : goal.returns-in_err-len-clause-err
returns-in_err-len-clause-err g c = λ file is.
    let d = g.F.FileSystem.disk c.args.file_system.now in
    let open_file = c.in-Some.file in
    let content = bytes_of open_file.source d in
    let reading = c.requires open_file c.in-Some.is in
    let offset = c.args.self.now.valid_offset in
    let found = c.in_ok-at.ensures.ok in
    let inside : c.in_ok-at.at < length content = omega (arith, found.inside, reading.holds.size, c.if-at-file.false) in
    let e = c.in_err-len.field-0.0 in
    let same : open_file ≡ file = cc in
    let p = err_from_is_err_and c.from_residual-in_err-len.result c.from_residual-in_err-len.ensures.1 in
    rw (p.1, p.2) (λ honest. subst (λ (f : OpenFile). FailsBehind f d offset e) same
    (fails_behind open_file d offset c.in_ok-at.at e (found.goes_on (c.in_err-len.ensures.receipts.falls honest)) found.from inside (c.in_err-len.ensures.err honest)))

pub returns-clause-reading : goal.returns-clause-reading
returns-clause-reading g c = λ x is.
    let d = g.F.FileSystem.disk c.args.file_system.now in
    let file = c.in-Some.file in
    let same : file ≡ x = cc in
    let reading = c.requires file c.in-Some.is in
    let old = c.args.self.now in
    let new : LogItemBatchFileReader = record { window = c.read_batch.new.window; file = old.file; valid_offset = c.in_ok-at.at + c.in_ok-len.len; last_block = c.in_ok-len.block } in
    subst (λ (f : OpenFile). IsReadingFile d new f) same (record {
      holds = c.in_ok-len.ensures.part;
      within = c.in_ok-len.ensures.inside;
    })

pub returns-clause-ok : goal.returns-clause-ok
returns-clause-ok g c = λ file is honest.
    let d = g.F.FileSystem.disk c.args.file_system.now in
    let open_file = c.in-Some.file in
    let same : open_file ≡ file = cc in
    let offset = c.args.self.now.valid_offset in
    let items = c.in_ok-len.batch.items in
    let end = c.in_ok-at.at + c.in_ok-len.len in
    let first = c.in_ok-len.ensures.receipts.falls honest in
    subst (λ (f : OpenFile). HasBatch f (bytes_of f.source d) offset items end) same
    (record { at = c.in_ok-at.at; goes_on = c.in_ok-at.ensures.ok.goes_on first; len = c.in_ok-len.len; frame = c.in_ok-len.ensures.ok honest; ends = refl })

pub returns-clause-further : goal.returns-clause-further
returns-clause-further g c = omega (arith, c.in_ok-at.ensures.ok.from, c.in_ok-len.ensures.weighs)

pub returns-clause-block : goal.returns-clause-block
returns-clause-block g c = λ file is honest.
    let d = g.F.FileSystem.disk c.args.file_system.now in
    let open_file = c.in-Some.file in
    let same : open_file ≡ file = cc in
    let offset = c.args.self.now.valid_offset in
    let first = c.in_ok-len.ensures.receipts.falls honest in
    subst (λ (f : OpenFile). HasBlock f (bytes_of f.source d) offset c.in_ok-len.block) same
    (record { at = c.in_ok-at.at; goes_on = c.in_ok-at.ensures.ok.goes_on first; lies = c.in_ok-len.ensures.block honest })
