use Rattle.std.proofs.Common.{◌≡◌, IsTrue, IfOk, IfErr, subst}
use Rattle.raft_log_file_reader.specs.Source.{bytes_of, CannotRead}
use Rattle.raft_log_file_reader.specs.Foreign.{FindsForeign}
use Rattle.raft_log_file_reader.specs.Reader.{IsReadingFile}
use Rattle.raft_log_file_reader.specs.declared.open_file.OpenFile.{OpenFile}
use Rattle.raft_log_file_reader.specs.declared.reader.LogItemBatchFileReader.{LogItemBatchFileReader}
use Rattle.raft_log_file_reader.proofs.reader.LogItemBatchFileReader.foreign_record.Goals as goal

pub find_foreign-requires-clause-inside : goal.find_foreign-requires-clause-inside
find_foreign-requires-clause-inside g c = c.requires.inside c.in-Some.file c.in-Some.is

pub find_foreign-requires-clause-part : goal.find_foreign-requires-clause-part
find_foreign-requires-clause-part g c = (c.requires.reading c.in-Some.file c.in-Some.is).holds

pub returns-clause-reading : goal.returns-clause-reading
returns-clause-reading g c = λ x is.
    let d = g.F.FileSystem.disk c.args.file_system.now in
    let file = c.in-Some.file in
    let same : file ≡ x = cc in
    let reading = c.requires.reading file c.in-Some.is in
    let old = c.args.self.now in
    let new : LogItemBatchFileReader = record { window = c.find_foreign.new.window; file = old.file; valid_offset = old.valid_offset; last_block = old.last_block } in
    subst (λ (f : OpenFile). IsReadingFile d new f) same (record {
      holds = c.find_foreign.ensures.part;
      within = reading.within;
    })

pub returns-clause-ok : goal.returns-clause-ok
returns-clause-ok g c = λ x is.
    let d = g.F.FileSystem.disk c.args.file_system.now in
    let file = c.in-Some.file in
    let same : file ≡ x = cc in
    let offset = c.args.offset in
    subst (λ (f : OpenFile). IfOk c.find_foreign.result (λ found. IsTrue c.find_foreign.new.window.receipt.honest → FindsForeign f (bytes_of f.source d) offset found)) same c.find_foreign.ensures.ok

pub returns-clause-err : goal.returns-clause-err
returns-clause-err g c = λ x is.
    let d = g.F.FileSystem.disk c.args.file_system.now in
    let file = c.in-Some.file in
    let same : file ≡ x = cc in
    let offset = c.args.offset in
    subst (λ (f : OpenFile). IfErr c.find_foreign.result (λ error. IsTrue c.find_foreign.new.window.receipt.honest → CannotRead f.source offset d error)) same c.find_foreign.ensures.err
